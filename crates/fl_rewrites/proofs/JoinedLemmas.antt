-- A Whole behind a Cat: where both stand, and maps in its place.
use Rattle.std.proofs.Common.{◌≡◌, ℕ, suc, ◌+◌, ◌<◌, ◌≤◌, ◌==◌, List, [], ◌∷◌, ◌++◌, Bool, true, false, nat_le, Option, None, Some, length, map, get_or, refl, ap, sym, ◌∙◌, append_assoc, length-append, arith, eq-eqb, ⊎_elim, ◌⊎◌, inl}
use Rattle.std.specs.List.{list_all, list_any, slice_get, range_with_len}
use Rattle.std.specs.Option.{option_and_then}
use Rattle.std.proofs.lemmas.Bool.{true≢false, and_parts, and_from, or_left, or_right, or_cases, eqb-true, leb-true}
use Rattle.std.proofs.lemmas.Option.{none-some, cond_some}
use Rattle.std.proofs.lemmas.List.Folds.{list_all-append}
use Rattle.ut_args.specs.Inputs.{inputs_of}
use Rattle.ut_args.specs.declared.invocations.Inv.{Inv}
use Rattle.fl_graph.specs.Net.{has, takes, gives}
use Rattle.fl_graph.specs.Checks.{takes_given, each_after}
use Rattle.fl_graph.specs.Kinds.{may_have, has_its_ports, selects_lines}
use Rattle.fl_graph.specs.Valid.{nodes_named, names_selector}
use Rattle.fl_graph.specs.declared.graphs.Cell.{Cell}
use Rattle.fl_graph.specs.declared.graphs.StatusRule.{StatusRule}
use Rattle.fl_graph.specs.declared.kinds.NodeKind.{NodeKind}
use Rattle.fl_graph.specs.declared.kinds.NodeKind.TheVariants as kind
use Rattle.fl_graph.proofs.ListLemmas.{holds-has}
use Rattle.fl_classes.specs.Aggregates.{map_of}
use Rattle.fl_classes.specs.Flow.{status_by}
use Rattle.fl_classes.specs.Utilities.{selects_of}
use Rattle.fl_rewrites.specs.Known.{joins_plainly}
use Rattle.fl_rewrites.specs.Joined.{Joined, joined_by, joined_behind, joined_whole, joined_node, joined_at, map_cells}
use Rattle.fl_rewrites.specs.Places.{giver_of, replaced}
use Rattle.fl_rewrites.specs.Replacing.{renamed_status}
use Rattle.fl_rewrites.specs.Suits.{Value, with_origin}
use Rattle.fl_rewrites.proofs.OrderLemmas.{OfAll}
use Rattle.fl_rewrites.proofs.SoundLemmas.{IsSound}
use Rattle.fl_rewrites.proofs.CarryLemmas.{Carries, selected}
use Rattle.fl_rewrites.proofs.SpliceLemmas.{after-front}
use Rattle.fl_rewrites.proofs.PlaceLemmas.{stands-at, giver-gives, giver-among, replaced-at}
use Rattle.fl_rewrites.proofs.KnownLemmas.{one-edge, only-one}
use Rattle.fl_rewrites.proofs.ExchangeLemmas.{Follows, was, becomes}
use Rattle.fl_rewrites.proofs.StandLemmas.{selectors, names-standing, status-standing}

-- a kind that joins plainly is a Cat that doesn't close
pub plain-cat : (node : NodeKind) → joins_plainly node ≡ true → node ≡ kind.Cat false
plain-cat (kind.Cat true) plain = absurd (true≢false (sym plain))
plain-cat (kind.Cat false) plain = refl
plain-cat (kind.Source source) plain = absurd (true≢false (sym plain))
plain-cat (kind.Text text) plain = absurd (true≢false (sym plain))
plain-cat kind.Split plain = absurd (true≢false (sym plain))
plain-cat (kind.Map inv) plain = absurd (true≢false (sym plain))
plain-cat (kind.Whole inv) plain = absurd (true≢false (sym plain))
plain-cat (kind.Agg inv) plain = absurd (true≢false (sym plain))
plain-cat (kind.Finish inv) plain = absurd (true≢false (sym plain))
plain-cat (kind.TeeFile path mode) plain = absurd (true≢false (sym plain))
plain-cat kind.Drain plain = absurd (true≢false (sym plain))
plain-cat (kind.Sink sink) plain = absurd (true≢false (sym plain))

-- what was found: the two nodes
record Found (cells : List (Cell NodeKind)) (node : ℕ) (at : Joined) : Type 0 where
  whole : Cell NodeKind
  whole_there : slice_get cells node ≡ Some whole
  whole_is : whole.kind ≡ kind.Whole at.inv
  outs_are : at.outs ≡ whole.outs
  stage_is : at.stage ≡ whole.stage
  edge : ℕ
  ins_are : whole.ins ≡ edge ∷ []
  given : giver_of edge cells ≡ Some at.cat
  cat : Cell NodeKind
  cat_there : slice_get cells at.cat ≡ Some cat
  plain : joins_plainly cat.kind ≡ true
  parts_are : at.parts ≡ cat.ins

found-cat : (cells : List (Cell NodeKind)) (node : ℕ) (at : Joined) (whole : Cell NodeKind) (inv : Inv) (edge place : ℕ) → slice_get cells node ≡ Some whole → whole.kind ≡ kind.Whole inv
    → whole.ins ≡ edge ∷ [] → giver_of edge cells ≡ Some place → (cat : Cell NodeKind) → slice_get cells place ≡ Some cat → joined_by whole inv place cat ≡ Some at → Found cells node at
found-cat cells node at whole inv edge place whole_there whole_is ins_are given cat cat_there found =
    let site : Joined = record { cat = place; parts = cat.ins; inv = inv; outs = whole.outs; stage = whole.stage } in
    let both = cond_some (joins_plainly cat.kind) site at found in
    let is : site ≡ at = both.1 in
    record {
      whole = whole;
      whole_there = whole_there;
      whole_is = whole_is ∙ ap (λ (it : Joined). kind.Whole it.inv) is;
      outs_are = sym (ap (λ (it : Joined). it.outs) is);
      stage_is = sym (ap (λ (it : Joined). it.stage) is);
      edge = edge;
      ins_are = ins_are;
      given = given ∙ ap (λ (it : Joined). Some it.cat) is;
      cat = cat;
      cat_there = ap (λ (it : Joined). slice_get cells it.cat) (sym is) ∙ cat_there;
      plain = both.0;
      parts_are = sym (ap (λ (it : Joined). it.parts) is);
    }

found-place : (cells : List (Cell NodeKind)) (node : ℕ) (at : Joined) (whole : Cell NodeKind) (inv : Inv) (edge : ℕ) → slice_get cells node ≡ Some whole → whole.kind ≡ kind.Whole inv
    → whole.ins ≡ edge ∷ [] → (given : Option ℕ) → giver_of edge cells ≡ given → option_and_then (joined_behind cells whole inv) given ≡ Some at → Found cells node at
found-place cells node at whole inv edge there is ins None given found = absurd (none-some at found)
found-place cells node at whole inv edge there is ins (Some place) given found = by_cat (slice_get cells place) refl found
  where
    by_cat : (cat : Option (Cell NodeKind)) → slice_get cells place ≡ cat → option_and_then (joined_by whole inv place) cat ≡ Some at → Found cells node at
    by_cat None absent none = absurd (none-some at none)
    by_cat (Some cat) cat_there some = found-cat cells node at whole inv edge place there is ins given cat cat_there some

found-whole : (cells : List (Cell NodeKind)) (node : ℕ) (at : Joined) (whole : Cell NodeKind) → slice_get cells node ≡ Some whole → (it : NodeKind) (ins : List ℕ) → whole.kind ≡ it → whole.ins ≡ ins
    → joined_whole cells whole it ins ≡ Some at → Found cells node at
found-whole cells node at whole there (kind.Whole inv) [] is ins found = absurd (none-some at found)
found-whole cells node at whole there (kind.Whole inv) (edge ∷ []) is ins found = found-place cells node at whole inv edge there is ins (giver_of edge cells) refl found
found-whole cells node at whole there (kind.Whole inv) (edge ∷ next ∷ more) is ins found = absurd (none-some at found)
found-whole cells node at whole there (kind.Source source) ins_of is ins found = absurd (none-some at found)
found-whole cells node at whole there (kind.Text text) ins_of is ins found = absurd (none-some at found)
found-whole cells node at whole there kind.Split ins_of is ins found = absurd (none-some at found)
found-whole cells node at whole there (kind.Map inv) ins_of is ins found = absurd (none-some at found)
found-whole cells node at whole there (kind.Cat close) ins_of is ins found = absurd (none-some at found)
found-whole cells node at whole there (kind.Agg inv) ins_of is ins found = absurd (none-some at found)
found-whole cells node at whole there (kind.Finish inv) ins_of is ins found = absurd (none-some at found)
found-whole cells node at whole there (kind.TeeFile path mode) ins_of is ins found = absurd (none-some at found)
found-whole cells node at whole there kind.Drain ins_of is ins found = absurd (none-some at found)
found-whole cells node at whole there (kind.Sink sink) ins_of is ins found = absurd (none-some at found)

found-at : (cells : List (Cell NodeKind)) (node : ℕ) (at : Joined) → joined_at cells node ≡ Some at → Found cells node at
found-at cells node at found = by_node (slice_get cells node) refl found
  where
    by_node : (whole : Option (Cell NodeKind)) → slice_get cells node ≡ whole → option_and_then (joined_node cells) whole ≡ Some at → Found cells node at
    by_node None absent none = absurd (none-some at none)
    by_node (Some whole) there some = found-whole cells node at whole there whole.kind whole.ins refl refl some

-- a Cat that doesn't close, and a Whole behind it
abbrev pub cat_cell : List ℕ → ℕ → ℕ → Cell NodeKind
cat_cell parts edge stage = record { kind = kind.Cat false; ins = parts; outs = edge ∷ []; stage = stage }

abbrev pub whole_cell : Inv → ℕ → ℕ → ℕ → Cell NodeKind
whole_cell inv edge out stage = record { kind = kind.Whole inv; ins = edge ∷ []; outs = out ∷ []; stage = stage }

-- where they stand
pub record StandsJoined (cells : List (Cell NodeKind)) (node : ℕ) (at : Joined) : Type 0 where
  pub front : List (Cell NodeKind)
  pub middle : List (Cell NodeKind)
  pub back : List (Cell NodeKind)
  pub edge : ℕ
  pub out : ℕ
  pub cat_stage : ℕ
  pub nodes : cells ≡ was front (cat_cell at.parts edge cat_stage ∷ []) middle (whole_cell at.inv edge out at.stage ∷ []) back
  pub cat_number : at.cat ≡ length front
  pub whole_number : node ≡ length (front ++ (cat_cell at.parts edge cat_stage ∷ middle))
  pub outs : at.outs ≡ out ∷ []
  pub parts_some : 1 ≤ length at.parts
  pub reads_one : inputs_of at.inv ≡ 1

pub same-cell : (cell : Cell NodeKind) (node : NodeKind) (ins outs : List ℕ) (stage : ℕ) → cell.kind ≡ node → cell.ins ≡ ins → cell.outs ≡ outs → cell.stage ≡ stage
    → cell ≡ record { kind = node; ins = ins; outs = outs; stage = stage }
same-cell cell node ins outs stage kind_is ins_are outs_are stage_is =
    ap (λ (it : NodeKind). record { kind = it; ins = cell.ins; outs = cell.outs; stage = cell.stage }) kind_is
    ∙ ap (λ (it : List ℕ). record { kind = node; ins = it; outs = cell.outs; stage = cell.stage }) ins_are
    ∙ ap (λ (it : List ℕ). record { kind = node; ins = ins; outs = it; stage = cell.stage }) outs_are
    ∙ ap (λ (it : ℕ). record { kind = node; ins = ins; outs = outs; stage = it }) stage_is

-- a node among others has its ports
pub ports-of : (front : List (Cell NodeKind)) (cell : Cell NodeKind) (back : List (Cell NodeKind)) (node : NodeKind) → list_all has_its_ports (front ++ (cell ∷ back)) ≡ true → cell.kind ≡ node
    → may_have node (length cell.ins) (length cell.outs) ≡ true
ports-of front cell back node all is =
    let parts = and_parts (list_all has_its_ports front) (list_all has_its_ports (cell ∷ back)) (sym (list_all-append has_its_ports front (cell ∷ back)) ∙ all) in
    ap (λ (it : NodeKind). may_have it (length cell.ins) (length cell.outs)) (sym is) ∙ (and_parts (has_its_ports cell) (list_all has_its_ports back) parts.1).0

pub stands-joined : (cells : List (Cell NodeKind)) (status : StatusRule) (node : ℕ) (at : Joined) → IsSound cells status → joined_at cells node ≡ Some at → StandsJoined cells node at
stands-joined cells status node at sound is =
    let found = found-at cells node at is in
    let behind = stands-at cells node found.whole found.whole_there in
    let edge : ℕ = found.edge in
    let later : each_after takes_given [] (behind.front ++ (found.whole ∷ behind.back)) ≡ true = ap (λ (it : List (Cell NodeKind)). each_after takes_given [] it) (sym behind.whole) ∙ sound.wired.later in
    let parts = and_parts (each_after takes_given [] behind.front) (each_after takes_given behind.front (found.whole ∷ behind.back)) (sym (after-front takes_given [] behind.front (found.whole ∷ behind.back)) ∙ later) in
    let takes_it = and_parts (takes_given behind.front found.whole) (each_after takes_given (behind.front ++ found.whole ∷ []) behind.back) parts.1 in
    let in_whole : has edge found.whole.ins ≡ true = ap (has edge) found.ins_are ∙ or_left (edge == edge) false (eq-eqb edge edge refl) in
    let in_front : has edge (gives behind.front) ≡ true = holds-has (λ it. has it (gives behind.front)) edge found.whole.ins takes_it.0 in_whole in
    let among : slice_get behind.front at.cat ≡ Some found.cat =
    giver-among edge behind.front (found.whole ∷ behind.back) at.cat found.cat in_front (ap (giver_of edge) (sym behind.whole) ∙ found.given)
    (ap (λ (it : List (Cell NodeKind)). slice_get it at.cat) (sym behind.whole) ∙ found.cat_there) in
    let before = stands-at behind.front at.cat found.cat among in
    let cat_is : found.cat.kind ≡ kind.Cat false = plain-cat found.cat.kind found.plain in
    let nodes : cells ≡ before.front ++ (found.cat ∷ (before.back ++ (found.whole ∷ behind.back))) =
    behind.whole ∙ ap (λ (it : List (Cell NodeKind)). it ++ (found.whole ∷ behind.back)) before.whole ∙ append_assoc before.front (found.cat ∷ before.back) (found.whole ∷ behind.back) in
    let cat_ports = and_parts (nat_le 1 (length found.cat.ins)) (length found.cat.outs == 1)
    (ports-of before.front found.cat (before.back ++ (found.whole ∷ behind.back)) (kind.Cat false) (ap (list_all has_its_ports) (sym nodes) ∙ sound.ports) cat_is) in
    let whole_ports = and_parts (length found.whole.ins == inputs_of at.inv) (length found.whole.outs == 1)
    (ports-of behind.front found.whole behind.back (kind.Whole at.inv) (ap (list_all has_its_ports) (sym behind.whole) ∙ sound.ports) found.whole_is) in
    let cat_outs = one-edge found.cat.outs cat_ports.1 in
    let whole_outs = one-edge found.whole.outs whole_ports.1 in
    let cat_gives : cat_outs.edge ≡ edge = only-one edge cat_outs.edge (ap (has edge) (sym cat_outs.all) ∙ giver-gives edge cells at.cat found.cat found.given found.cat_there) in
    let cat_same : found.cat ≡ cat_cell at.parts edge found.cat.stage =
    same-cell found.cat (kind.Cat false) at.parts (edge ∷ []) found.cat.stage cat_is (sym found.parts_are) (cat_outs.all ∙ ap (λ (it : ℕ). it ∷ []) cat_gives) refl in
    let whole_same : found.whole ≡ whole_cell at.inv edge whole_outs.edge at.stage =
    same-cell found.whole (kind.Whole at.inv) (edge ∷ []) (whole_outs.edge ∷ []) at.stage found.whole_is found.ins_are whole_outs.all (sym found.stage_is) in
    let one_in : length found.whole.ins ≡ 1 = ap length found.ins_are in
    let inputs = eqb-true (length found.whole.ins) (inputs_of at.inv) whole_ports.0 in
    let some = leb-true 1 (length found.cat.ins) cat_ports.0 in
    let sizes : length at.parts ≡ length found.cat.ins = ap length found.parts_are in
    record {
      front = before.front;
      middle = before.back;
      back = behind.back;
      edge = edge;
      out = whole_outs.edge;
      cat_stage = found.cat.stage;
      nodes =
          nodes ∙ ap (λ (it : Cell NodeKind). before.front ++ (it ∷ (before.back ++ (found.whole ∷ behind.back)))) cat_same
          ∙ ap (λ (it : Cell NodeKind). before.front ++ (cat_cell at.parts edge found.cat.stage ∷ (before.back ++ (it ∷ behind.back)))) whole_same;
      cat_number = sym before.number;
      whole_number = sym behind.number ∙ ap length before.whole ∙ ap (λ (it : Cell NodeKind). length (before.front ++ (it ∷ before.back))) cat_same;
      outs = found.outs_are ∙ whole_outs.all;
      parts_some = omega (arith, some, sizes);
      reads_one = omega (arith, one_in, inputs);
    }

-- the Whole is there, and the Cat stands before it
pub joined-within : (cells : List (Cell NodeKind)) (status : StatusRule) (node : ℕ) (at : Joined) → IsSound cells status → joined_at cells node ≡ Some at → (node < length cells) × (at.cat < node)
joined-within cells status node at sound is =
    let stands = stands-joined cells status node at sound is in
    let cat : Cell NodeKind = cat_cell at.parts stands.edge stands.cat_stage in
    let whole : Cell NodeKind = whole_cell at.inv stands.edge stands.out at.stage in
    let one = stands.cat_number in
    let two = stands.whole_number in
    let three = length-append stands.front (cat ∷ stands.middle) in
    let four = ap length stands.nodes in
    let five = length-append stands.front (cat ∷ (stands.middle ++ (whole ∷ stands.back))) in
    let six = length-append stands.middle (whole ∷ stands.back) in
    (omega (arith, two, three, four, five, six), omega (arith, one, two, three))

-- the nodes when these have come in the place of the Whole, and the Cat has gone
pub unjoined-nodes : (front : List (Cell NodeKind)) (cat : Cell NodeKind) (middle : List (Cell NodeKind)) (whole : Cell NodeKind) (news back : List (Cell NodeKind))
    → replaced (λ (cell : Cell NodeKind). []) (length front) (replaced (λ (cell : Cell NodeKind). news) (length (front ++ (cat ∷ middle))) (was front (cat ∷ []) middle (whole ∷ []) back))
    ≡ becomes front middle news back
unjoined-nodes front cat middle whole news back =
    ap (λ (it : List (Cell NodeKind)). replaced (λ (cell : Cell NodeKind). []) (length front) (replaced (λ (cell : Cell NodeKind). news) (length (front ++ (cat ∷ middle))) it)) (sym (append_assoc front (cat ∷ middle) (whole ∷ back)))
    ∙ ap (replaced (λ (cell : Cell NodeKind). []) (length front)) (replaced-at (λ (cell : Cell NodeKind). news) (front ++ (cat ∷ middle)) whole back ∙ append_assoc front (cat ∷ middle) (news ++ back))
    ∙ replaced-at (λ (cell : Cell NodeKind). []) front cat (middle ++ (news ++ back))

-- the status then
abbrev pub unjoined_status : List (Cell NodeKind) → Cell NodeKind → List (Cell NodeKind) → ℕ → ℕ → StatusRule → StatusRule
unjoined_status front cat middle size named rule = renamed_status (length front) 0 0 (renamed_status (length (front ++ (cat ∷ middle))) size named rule)

-- it names nodes that tell whether they select
pub unjoined-names : (front : List (Cell NodeKind)) (cat : Cell NodeKind) (middle : List (Cell NodeKind)) (whole : Cell NodeKind) (named others back : List (Cell NodeKind)) (rule : StatusRule)
    → selects_lines cat.kind ≡ false → (selects_lines whole.kind ≡ true → list_all (λ (it : Bool). it) (selectors named) ≡ true)
    → list_all (names_selector (was front (cat ∷ []) middle (whole ∷ []) back)) (nodes_named rule) ≡ true
    → list_all (names_selector (becomes front middle (named ++ others) back)) (nodes_named (unjoined_status front cat middle (length (named ++ others)) (length named) rule)) ≡ true
unjoined-names front cat middle whole named others back rule plain holds all =
    let renamed : StatusRule = renamed_status (length (front ++ (cat ∷ middle))) (length (named ++ others)) (length named) rule in
    let first : list_all (names_selector ((front ++ (cat ∷ middle)) ++ ((named ++ others) ++ back))) (nodes_named renamed) ≡ true =
    names-standing (front ++ (cat ∷ middle)) whole named others back rule holds
    (ap (λ (it : List (Cell NodeKind)). list_all (names_selector it) (nodes_named rule)) (append_assoc front (cat ∷ middle) (whole ∷ back)) ∙ all) in
    names-standing front cat [] [] (middle ++ ((named ++ others) ++ back)) renamed (λ is. absurd (true≢false (sym is ∙ plain)))
    (ap (λ (it : List (Cell NodeKind)). list_all (names_selector it) (nodes_named renamed)) (sym (append_assoc front (cat ∷ middle) ((named ++ others) ++ back))) ∙ first)

-- and is the same where one of those that are named selects where the Whole does
pub unjoined-codes : (front : List (Cell NodeKind)) (cat : Cell NodeKind) (middle : List (Cell NodeKind)) (rule : StatusRule) (size count : ℕ) (one : Bool) (named others first second last : List Bool)
    → one ≡ list_any (λ (it : Bool). it) named → length first ≡ length front → length second ≡ length middle → length (named ++ others) ≡ size → length named ≡ count
    → status_by rule (first ++ (false ∷ (second ++ (one ∷ last)))) ≡ status_by (unjoined_status front cat middle size count rule) (first ++ (second ++ ((named ++ others) ++ last)))
unjoined-codes front cat middle rule size count one named others first second last same fronts middles sizes counts =
    let before : List Bool = first ++ (false ∷ second) in
    let place : length before ≡ length (front ++ (cat ∷ middle)) =
    (let one_length = length-append first (false ∷ second) in let other_length = length-append front (cat ∷ middle) in omega (arith, one_length, other_length, fronts, middles)) in
    let renamed : StatusRule = renamed_status (length before) (length (named ++ others)) (length named) rule in
    let is : renamed ≡ renamed_status (length (front ++ (cat ∷ middle))) size count rule =
    ap (λ (it : ℕ). renamed_status it (length (named ++ others)) (length named) rule) place
    ∙ ap (λ (it : ℕ). renamed_status (length (front ++ (cat ∷ middle))) it (length named) rule) sizes
    ∙ ap (λ (it : ℕ). renamed_status (length (front ++ (cat ∷ middle))) size it rule) counts in
    ap (status_by rule) (sym (append_assoc first (false ∷ second) (one ∷ last)))
    ∙ status-standing before one named others last same rule
    ∙ ap (status_by renamed) (append_assoc first (false ∷ second) ((named ++ others) ++ last))
    ∙ status-standing first false [] [] (second ++ ((named ++ others) ++ last)) refl renamed
    ∙ ap (λ (it : StatusRule). status_by (renamed_status (length first) 0 0 it) (first ++ (second ++ ((named ++ others) ++ last)))) is
    ∙ ap (λ (it : ℕ). status_by (renamed_status it 0 0 (renamed_status (length (front ++ (cat ∷ middle))) size count rule)) (first ++ (second ++ ((named ++ others) ++ last)))) fronts

-- maps of edges
module _ (inv : Inv) (stage : ℕ) where
  pub takes-maps : (next : ℕ) (edges : List ℕ) → takes (map_cells inv stage next edges) ≡ edges
  takes-maps next [] = refl
  takes-maps next (edge ∷ edges) = ap (λ (rest : List ℕ). edge ∷ rest) (takes-maps (next + 1) edges)

  pub gives-maps : (next : ℕ) (edges : List ℕ) → gives (map_cells inv stage next edges) ≡ range_with_len next (length edges)
  gives-maps next [] = refl
  gives-maps next (edge ∷ edges) = ap (λ (rest : List ℕ). next ∷ rest) (gives-maps (next + 1) edges)

  pub size-maps : (next : ℕ) (edges : List ℕ) → length (map_cells inv stage next edges) ≡ length edges
  size-maps next [] = refl
  size-maps next (edge ∷ edges) = ap suc (size-maps (next + 1) edges)

  pub all-maps : (test : Cell NodeKind → Bool) → ((edge next : ℕ) → test (record { kind = kind.Map inv; ins = edge ∷ []; outs = next ∷ []; stage = stage }) ≡ true) → (next : ℕ) (edges : List ℕ)
      → list_all test (map_cells inv stage next edges) ≡ true
  all-maps test holds next [] = refl
  all-maps test holds next (edge ∷ edges) =
      and_from (test (record { kind = kind.Map inv; ins = edge ∷ []; outs = next ∷ []; stage = stage })) (list_all test (map_cells inv stage (next + 1) edges)) (holds edge next) (all-maps test holds (next + 1) edges)

  pub follows-maps : (known : ℕ → Type 0) (next : ℕ) (edges : List ℕ) → OfAll known edges → Follows known (map_cells inv stage next edges)
  follows-maps known next [] all = tt
  follows-maps known next (edge ∷ edges) all = (
    λ other there. ⊎_elim (λ (here : (edge == other) ≡ true). all other (or_left (edge == other) (has other edges) here)) (λ (none : false ≡ true). absurd (true≢false (sym none))) (or_cases (edge == other) false there),
    follows-maps (λ it. known it ⊎ (has it (next ∷ []) ≡ true)) (next + 1) edges (λ other there. inl (all other (or_right (edge == other) (has other edges) there))),
  )

  -- what they give, and what they select
  module _ (sources : List (List ℕ)) (values : ℕ → Value) where
    abbrev pub mapped : ℕ → Value
    mapped edge = with_origin (kind.Map inv) (values edge ∷ []) (map_of inv (values edge).text)

    pub values-maps : (number next : ℕ) (edges : List ℕ) → Carries sources number (map_cells inv stage next edges) values → map values (range_with_len next (length edges)) ≡ map mapped edges
    values-maps number next [] carried = refl
    values-maps number next (edge ∷ edges) carried =
        let here : values next ≡ mapped edge = ap (λ (all : List Value). get_or all 0 (values next)) carried.0 in
        ap (λ (first : Value). first ∷ map values (range_with_len (next + 1) (length edges))) here
        ∙ ap (λ (rest : List Value). mapped edge ∷ rest) (values-maps number (next + 1) edges carried.1)

    pub selected-maps : (next : ℕ) (edges : List ℕ) → selected sources values (map_cells inv stage next edges) ≡ map (λ edge. selects_of inv ((values edge).text ∷ [])) edges
    selected-maps next [] = refl
    selected-maps next (edge ∷ edges) = ap (λ (rest : List Bool). selects_of inv ((values edge).text ∷ []) ∷ rest) (selected-maps (next + 1) edges)

  pub selectors-maps : selects_lines (kind.Map inv) ≡ true → (next : ℕ) (edges : List ℕ) → list_all (λ (it : Bool). it) (selectors (map_cells inv stage next edges)) ≡ true
  selectors-maps is next [] = refl
  selectors-maps is next (edge ∷ edges) = and_from (selects_lines (kind.Map inv)) (list_all (λ (it : Bool). it) (selectors (map_cells inv stage (next + 1) edges))) is (selectors-maps is (next + 1) edges)
