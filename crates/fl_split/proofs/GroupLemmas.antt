-- Groups of files in place of a Cat: the graph keeps the flow where the files that are marked closed are.
use Rattle.std.proofs.Common.{◌≡◌, ℕ, zero, suc, ◌+◌, ◌-◌, ◌*◌, ◌/◌, ◌<◌, ◌≤◌, ◌==◌, List, [], ◌∷◌, ◌++◌, Bool, true, false, not, ◌&&◌, ◌||◌, nat_le, if◌then◌else◌, Option, None, Some, IfSome, length, map, get_or, take, drop, replicate, refl, ap, sym, subst, ◌∙◌, append-nil, append_assoc, length-append, mul-suc, add-one, arith, eq-eqb, ⊎_elim, ◌⊎◌, inl, inr}
use Rattle.std.specs.List.{concat, flat_map, list_all, range_with_len, slice_get}
use Rattle.std.specs.Option.{option_and_then, option_map, option_map_or}
use Rattle.std.proofs.Math.Nat.{div-mul-le_self, div-eq_of_lt, mul_comm}
use Rattle.std.proofs.lemmas.Nat.{le-div, mul-le}
use Rattle.std.proofs.lemmas.Bool.{true≢false, and_parts, and_from, or_left, or_right, or_cases, eqb-true, leb-true, le-leb, cases_lt, cond-true}
use Rattle.std.proofs.lemmas.Option.{none-some, cond_some, slice_get_within}
use Rattle.std.proofs.lemmas.List.{length-take-le, length-drop, map-append, nil_from_length}
use Rattle.std.proofs.lemmas.List.FromFn.{length-range_with_len}
use Rattle.std.proofs.lemmas.List.Folds.{list_all-append}
use Rattle.std.proofs.lemmas.Grind.{flat_map-append}
use Rattle.ps_lines.specs.Lines.{is_closed, is_cutlist, is_empty}
use Rattle.ps_lines.proofs.ClosedLemmas.{closed-append}
use Rattle.fl_graph.specs.Net.{has, count, takes, gives, after}
use Rattle.fl_graph.specs.Checks.{takes_given, each_after}
use Rattle.fl_graph.specs.Kinds.{has_its_ports, reads_one_input, has_its_class, runs_what_is_built}
use Rattle.fl_graph.specs.Makers.{Made, Given, makes, absent, tells_maps, is_mapped, all_hold}
use Rattle.fl_graph.specs.Valid.{Valid}
use Rattle.fl_graph.specs.declared.graphs.Cell.{Cell}
use Rattle.fl_graph.specs.declared.graphs.Graph.{Graph}
use Rattle.fl_graph.specs.declared.graphs.StatusRule.{StatusRule}
use Rattle.fl_graph.specs.declared.kinds.NodeKind.{NodeKind}
use Rattle.fl_graph.specs.declared.kinds.NodeKind.TheVariants as kind
use Rattle.fl_graph.proofs.ListLemmas.{holds-has, count-append}
use Rattle.fl_graph.proofs.NetLemmas.{has-front, has-back, values-agree}
use Rattle.fl_classes.specs.Flow.{flow, status_by}
use Rattle.fl_classes.specs.Parts.{slice}
use Rattle.fl_classes.proofs.ClassLemmas.{keeps-closed}
use Rattle.fl_classes.proofs.PartLemmas.{slice-slice, slice-none, slice-all}
use Rattle.fl_rewrites.specs.Keeps.{KeepsWhere, Answers, KeepsFlowWhere}
use Rattle.fl_rewrites.specs.declared.answers.Rewritten.{Rewritten}
use Rattle.fl_rewrites.specs.Known.{are_files, files_given, joins_plainly}
use Rattle.fl_rewrites.specs.Numbering.{numbered}
use Rattle.fl_rewrites.specs.Places.{replaced}
use Rattle.fl_rewrites.specs.Replacing.{renamed_status, exchanged}
use Rattle.fl_rewrites.specs.Suits.{Value, with_origin, asks}
use Rattle.fl_rewrites.proofs.OrderLemmas.{Each, each-front, each-back, OfAll, IsMet, told}
use Rattle.fl_rewrites.proofs.SoundLemmas.{IsSound, sound-valid}
use Rattle.fl_rewrites.proofs.PlacedLemmas.{sources_behind}
use Rattle.fl_rewrites.proofs.CarryLemmas.{Carries, text_of, asked, selected, LeavesWhere, keeps_where, keeps-fewer, answers-keep-where, made-of, flow-carried}
use Rattle.fl_rewrites.proofs.SpliceLemmas.{after-front, count-before, count-row}
use Rattle.fl_rewrites.proofs.PlaceLemmas.{stands-at}
use Rattle.fl_rewrites.proofs.KnownLemmas.{one-edge, only-one, file-group}
use Rattle.fl_rewrites.proofs.ExchangeLemmas.{was, becomes, Rewires, Follows, follows-append}
use Rattle.fl_rewrites.proofs.ExchangedLemmas.{AreFit, JoinsMaps, is_inner, held-both, sound-exchange}
use Rattle.fl_rewrites.proofs.CarriedLemmas.{is_map, Lost, GivesSame, AtExchange, at-exchange, leaves-exchange, carries-parts, one-each}
use Rattle.fl_rewrites.proofs.StandLemmas.{names-standing, status-standing}
use Rattle.fl_rewrites.proofs.ValueLemmas.{Fewer, no_more, kept, left_out, fewer-cut, fewer-none}
use Rattle.fl_rewrites.proofs.JoinedLemmas.{same-cell, ports-of, plain-cat}
use Rattle.fl_split.specs.Grouping.{group_start, groups_from, groups_of, join_cell, group_cells, grouped_cells, may_have_groups, may_group, groups_by, groups_at, grouped, are_closed, ins_at, AreClosed}

-- WHERE GROUPS BEGIN: they rise from the first file to behind the last one
times-more : (one other : ℕ) → (one + 1) * other ≡ one * other + other
times-more one other = mul_comm (one + 1) other ∙ ap (λ next. other * next) (add-one one) ∙ mul-suc other one ∙ ap (λ product. product + other) (mul_comm other one)

module _ (groups files : ℕ) (some : 0 < groups) where
  pub start-rises : (group : ℕ) → group_start groups files group ≤ group_start groups files (group + 1)
  start-rises group =
      let products : group * files ≤ (group + 1) * files = mul-le group files (group + 1) files (omega arith) (omega arith) in
      let below : group * files / groups * groups ≤ group * files = div-mul-le_self (group * files) groups in
      le-div (group * files / groups) ((group + 1) * files) groups some (omega (arith, products, below))

  start-more : groups ≤ files → (group : ℕ) → group_start groups files group + 1 ≤ group_start groups files (group + 1)
  start-more enough group =
      let start : ℕ = group * files / groups in
      let below : start * groups ≤ group * files = div-mul-le_self (group * files) groups in
      let one : (start + 1) * groups ≡ start * groups + groups = times-more start groups in
      let other : (group + 1) * files ≡ group * files + files = times-more group files in
      le-div (start + 1) ((group + 1) * files) groups some (omega (arith, below, one, other, enough))

  pub start-within : (group : ℕ) → group ≤ groups → group_start groups files group ≤ files
  start-within group few =
      let start : ℕ = group * files / groups in
      let below : start * groups ≤ group * files = div-mul-le_self (group * files) groups in
      let whole : group * files ≤ groups * files = mul-le group files groups files few (omega arith) in
      ⊎_elim (λ (high : start < files + 1). omega (arith, high))
      (λ (high : files + 1 ≤ start).
      let more : (files + 1) * groups ≤ start * groups = mul-le (files + 1) groups start groups high (omega arith) in
      let product : (files + 1) * groups ≡ files * groups + groups = times-more files groups in
      let swapped : files * groups ≡ groups * files = mul_comm files groups in
      absurd (omega (arith, below, whole, more, product, swapped, some)))
      (cases_lt start (files + 1))

  start-none : group_start groups files 0 ≡ 0
  start-none = let none : 0 * files ≡ 0 = omega arith in ap (λ product. product / groups) none ∙ div-eq_of_lt (omega (arith, some))

  start-all : group_start groups files groups ≡ files
  start-all =
      let swapped : files * groups ≡ groups * files = mul_comm files groups in
      let low : files ≤ groups * files / groups = le-div files (groups * files) groups some (omega (arith, swapped)) in
      let high = start-within groups (omega arith) in omega (arith, low, high)

-- THE GROUPS: joined they are all files, and none is empty
concat-append : (front back : List (List ℕ)) → concat (front ++ back) ≡ concat front ++ concat back
concat-append [] back = refl
concat-append (first ∷ front) back = ap (λ (rest : List ℕ). first ++ rest) (concat-append front back) ∙ sym (append_assoc first (concat front) (concat back))

module _ (groups : ℕ) (files : List ℕ) (some : 0 < groups) where
  abbrev starts : ℕ → ℕ
  starts group = group_start groups (length files) group

  joined-from : (group left : ℕ) → group + left ≡ groups → concat (groups_from groups files group left) ≡ slice files (starts group) (length files)
  joined-from group zero all =
      let last : group ≡ groups = omega (arith, all) in
      sym (ap (λ (it : ℕ). slice files (starts it) (length files)) last ∙ ap (λ (from : ℕ). slice files from (length files)) (start-all groups (length files) some) ∙ slice-none files (length files))
  joined-from group (suc left) all =
      ap (λ (rest : List ℕ). slice files (starts group) (starts (group + 1)) ++ rest) (joined-from (group + 1) left (omega (arith, all)))
      ∙ slice-slice files (starts group) (starts (group + 1)) (length files) (start-rises groups (length files) some group) (start-within groups (length files) some (group + 1) (omega (arith, all)))

  pub groups-joined : concat (groups_of groups files) ≡ files
  groups-joined = joined-from 0 groups (omega arith) ∙ ap (λ (from : ℕ). slice files from (length files)) (start-none groups (length files) some) ∙ slice-all files

  pub groups-some : groups ≤ length files → (group left : ℕ) → group + left ≡ groups → Each (λ it. 1 ≤ length it) (groups_from groups files group left)
  groups-some enough group zero all = tt
  groups-some enough group (suc left) all =
      let more = start-more groups (length files) some enough group in
      let within = start-within groups (length files) some (group + 1) (omega (arith, all)) in
      let behind = length-drop (starts group) files in
      let size = length-take-le (starts (group + 1) - starts group) (drop (starts group) files) (omega (arith, more, within, behind)) in
      (omega (arith, size, more), groups-some enough (group + 1) left (omega (arith, all)))

pub groups-count : (groups : ℕ) (files : List ℕ) (group left : ℕ) → length (groups_from groups files group left) ≡ left
groups-count groups files group zero = refl
groups-count groups files group (suc left) = ap suc (groups-count groups files (group + 1) left)

-- what is in a part of a list is in what the list has before the part's end
none-taken : (edge size : ℕ) → has edge (take size []) ≡ true → ⊥
none-taken edge zero there = true≢false (sym there)
none-taken edge (suc size) there = true≢false (sym there)

has-take : (edge size most : ℕ) (edges : List ℕ) → size ≤ most → has edge (take size edges) ≡ true → has edge (take most edges) ≡ true
has-take edge zero most edges few there = absurd (true≢false (sym there))
has-take edge (suc size) zero edges few there = absurd (omega (arith, few))
has-take edge (suc size) (suc most) [] few there = absurd (true≢false (sym there))
has-take edge (suc size) (suc most) (first ∷ edges) few there =
    ⊎_elim (λ (here : (first == edge) ≡ true). or_left (first == edge) (has edge (take most edges)) here)
    (λ (later : has edge (take size edges) ≡ true). or_right (first == edge) (has edge (take most edges)) (has-take edge size most edges (omega (arith, few)) later))
    (or_cases (first == edge) (has edge (take size edges)) there)

has-part : (edge from size most : ℕ) (edges : List ℕ) → from + size ≤ most → has edge (take size (drop from edges)) ≡ true → has edge (take most edges) ≡ true
has-part edge zero size most edges few there = has-take edge size most edges (omega (arith, few)) there
has-part edge (suc from) size zero edges few there = absurd (omega (arith, few))
has-part edge (suc from) size (suc most) [] few there = absurd (none-taken edge size there)
has-part edge (suc from) size (suc most) (first ∷ edges) few there = or_right (first == edge) (has edge (take most edges)) (has-part edge from size most edges (omega (arith, few)) there)

-- files before the last group that are marked closed are
marked-closed : (text : ℕ → List ℕ) (most : ℕ) (closed : List Bool) (edges : List ℕ) → length closed ≡ length edges → are_closed closed (map text edges) ≡ true
    → list_all (λ (it : Bool). it) (take most closed) ≡ true → OfAll (λ edge. is_closed (text edge) ≡ true) (take most edges)
marked-closed text zero closed edges size are marks edge there = absurd (true≢false (sym there))
marked-closed text (suc most) closed [] size are marks edge there = absurd (true≢false (sym there))
marked-closed text (suc most) [] (first ∷ edges) size are marks edge there = absurd (omega (arith, size))
marked-closed text (suc most) (marked ∷ closed) (first ∷ edges) size are marks edge there =
    let parts = and_parts (not marked || is_closed (text first)) (are_closed closed (map text edges)) are in
    let both = and_parts marked (list_all (λ (it : Bool). it) (take most closed)) marks in
    ⊎_elim (λ (here : (first == edge) ≡ true).
    ap (λ (it : ℕ). is_closed (text it)) (sym (eqb-true first edge here)) ∙ ap (λ (it : Bool). not it || is_closed (text first)) (sym both.0) ∙ parts.0)
    (λ (later : has edge (take most edges) ≡ true). marked-closed text most closed edges (omega (arith, size)) parts.1 both.1 edge later)
    (or_cases (first == edge) (has edge (take most edges)) there)

-- so all groups but the last are of closed files
abbrev ClosedBefore : (ℕ → List ℕ) → List (List ℕ) → Type 0
ClosedBefore text [] = Unit {0}
ClosedBefore text (group ∷ []) = Unit {0}
ClosedBefore text (group ∷ next ∷ others) = OfAll (λ edge. is_closed (text edge) ≡ true) group × ClosedBefore text (next ∷ others)

closed-from : (text : ℕ → List ℕ) (groups : ℕ) (files : List ℕ) → 0 < groups → OfAll (λ edge. is_closed (text edge) ≡ true) (take (group_start groups (length files) (groups - 1)) files)
    → (group left : ℕ) → group + left ≡ groups → ClosedBefore text (groups_from groups files group left)
closed-from text groups files some front group zero all = tt
closed-from text groups files some front group (suc zero) all = tt
closed-from text groups files some front group (suc (suc left)) all = (
  λ edge there.
      let rises = start-rises groups (length files) some group in
      let most = starts-below groups (length files) some (group + 1) (groups - 1 - (group + 1)) in
      let last : group + 1 + (groups - 1 - (group + 1)) ≡ groups - 1 = omega (arith, all) in
      let same = ap (group_start groups (length files)) last in
      front edge (has-part edge (group_start groups (length files) group) (group_start groups (length files) (group + 1) - group_start groups (length files) group)
      (group_start groups (length files) (groups - 1)) files (omega (arith, rises, most, same)) there),
  closed-from text groups files some front (group + 1) (suc left) (omega (arith, all)),
)
  where
    starts-below : (groups files : ℕ) → 0 < groups → (group more : ℕ) → group_start groups files group ≤ group_start groups files (group + more)
    starts-below groups files some group zero = let same : group + 0 ≡ group = omega arith in let starts = ap (group_start groups files) same in omega (arith, starts)
    starts-below groups files some group (suc more) =
        let rest = starts-below groups files some group more in
        let next = start-rises groups files some (group + more) in
        let same : group + more + 1 ≡ group + suc more = omega arith in
        let starts = ap (group_start groups files) same in omega (arith, rest, next, starts)

-- NODES OF GROUPS
module _ (stage : ℕ) where
  takes-groups : (next : ℕ) (groups : List (List ℕ)) → takes (group_cells stage next groups) ≡ concat groups
  takes-groups next [] = refl
  takes-groups next (group ∷ groups) = ap (λ (rest : List ℕ). group ++ rest) (takes-groups (next + 1) groups)

  gives-groups : (next : ℕ) (groups : List (List ℕ)) → gives (group_cells stage next groups) ≡ range_with_len next (length groups)
  gives-groups next [] = refl
  gives-groups next (group ∷ groups) = ap (λ (rest : List ℕ). next ∷ rest) (gives-groups (next + 1) groups)

  follows-groups : (known : ℕ → Type 0) (next : ℕ) (groups : List (List ℕ)) → OfAll known (concat groups) → Follows known (group_cells stage next groups)
  follows-groups known next [] all = tt
  follows-groups known next (group ∷ groups) all = (
    λ edge there. all edge (has-front edge group (concat groups) there),
    follows-groups (λ it. known it ⊎ (has it (next ∷ []) ≡ true)) (next + 1) groups (λ edge there. inl (all edge (has-back edge group (concat groups) there))),
  )

  all-groups : (test : Cell NodeKind → Bool) → ((ins outs : List ℕ) → test (join_cell ins outs stage) ≡ true) → (next : ℕ) (groups : List (List ℕ)) → list_all test (group_cells stage next groups) ≡ true
  all-groups test holds next [] = refl
  all-groups test holds next (group ∷ groups) =
      and_from (test (join_cell group (next ∷ []) stage)) (list_all test (group_cells stage (next + 1) groups)) (holds group (next ∷ [])) (all-groups test holds (next + 1) groups)

  join-ports : (ins : List ℕ) (out : ℕ) → 1 ≤ length ins → has_its_ports (join_cell ins (out ∷ []) stage) ≡ true
  join-ports ins out some = and_from (nat_le 1 (length ins)) (1 == 1) (le-leb 1 (length ins) some) refl

  ports-groups : (next : ℕ) (groups : List (List ℕ)) → Each (λ it. 1 ≤ length it) groups → list_all has_its_ports (group_cells stage next groups) ≡ true
  ports-groups next [] each = refl
  ports-groups next (group ∷ groups) each =
      and_from (has_its_ports (join_cell group (next ∷ []) stage)) (list_all has_its_ports (group_cells stage (next + 1) groups)) (join-ports group next each.0) (ports-groups (next + 1) groups each.1)

  told-groups : (made : ℕ → Made) (next : ℕ) (groups : List (List ℕ)) → all_hold (told tells_maps made (group_cells stage next groups)) ≡ true
  told-groups made next [] = refl
  told-groups made next (group ∷ groups) = told-groups made (next + 1) groups

  module _ (sources : List (List ℕ)) (values : ℕ → Value) where
    -- a group's text and value
    abbrev group_text : List ℕ → List ℕ
    group_text group = concat (map text_of (map values group))

    abbrev group_value : List ℕ → Value
    group_value group = with_origin (kind.Cat false) (map values group) (group_text group)

    values-groups : (number next : ℕ) (groups : List (List ℕ)) → Carries sources number (group_cells stage next groups) values → map values (range_with_len next (length groups)) ≡ map group_value groups
    values-groups number next [] carried = refl
    values-groups number next (group ∷ groups) carried =
        let here : values next ≡ group_value group = ap (λ (all : List Value). get_or all 0 (values next)) carried.0 in
        ap (λ (first : Value). first ∷ map values (range_with_len (next + 1) (length groups))) here
        ∙ ap (λ (rest : List Value). group_value group ∷ rest) (values-groups number (next + 1) groups carried.1)

    texts-groups : (groups : List (List ℕ)) → concat (map text_of (map group_value groups)) ≡ concat (map text_of (map values (concat groups)))
    texts-groups [] = refl
    texts-groups (group ∷ groups) =
        ap (λ (rest : List ℕ). group_text group ++ rest) (texts-groups groups)
        ∙ sym (concat-append (map text_of (map values group)) (map text_of (map values (concat groups))))
        ∙ ap concat (sym (ap (map text_of) (map-append values group (concat groups)) ∙ map-append text_of (map values group) (map values (concat groups))))

    no-groups : (edges : List ℕ) → OfAll (λ edge. (values edge).group ≡ []) edges → flat_map (λ (value : Value). value.group) (map values edges) ≡ []
    no-groups [] none = refl
    no-groups (edge ∷ edges) none =
        ap (λ (group : List (List ℕ)). group ++ flat_map (λ (value : Value). value.group) (map values edges)) (none edge (or_left (edge == edge) (has edge edges) (here edge)))
        ∙ no-groups edges (λ other there. none other (or_right (edge == other) (has other edges) there))
      where
        here : (edge : ℕ) → (edge == edge) ≡ true
        here edge = eq-eqb edge edge refl

    asked-groups : (next : ℕ) (groups : List (List ℕ)) → OfAll (λ edge. (values edge).group ≡ []) (concat groups) → all_hold (asked sources values (group_cells stage next groups)) ≡ true
    asked-groups next [] none = refl
    asked-groups next (group ∷ groups) none =
        and_from (is_cutlist (flat_map (λ (value : Value). value.group) (map values group))) (all_hold (asked sources values (group_cells stage (next + 1) groups)))
        (ap is_cutlist (no-groups group (λ edge there. none edge (has-front edge group (concat groups) there))))
        (asked-groups (next + 1) groups (λ edge there. none edge (has-back edge group (concat groups) there)))

    fewer-groups : (groups : List (List ℕ)) → Fewer (map group_text groups) (flat_map (λ (value : Value). value.group) (map group_value groups))
    fewer-groups [] = no_more
    fewer-groups (group ∷ groups) = by_files (list_all (λ (value : Value). value.file) (map values group)) (fewer-groups groups)
      where
        by_files : (files : Bool) → Fewer (map group_text groups) (flat_map (λ (value : Value). value.group) (map group_value groups))
            → Fewer (group_text group ∷ map group_text groups) ((if files then group_text group ∷ [] else []) ++ flat_map (λ (value : Value). value.group) (map group_value groups))
        by_files true rest = kept (group_text group) rest
        by_files false rest = left_out (group_text group) rest

    group-closed : (group : List ℕ) → OfAll (λ edge. is_closed (values edge).text ≡ true) group → is_closed (group_text group) ≡ true
    group-closed [] closed = refl
    group-closed (edge ∷ group) closed =
        closed-append (values edge).text (group_text group) (closed edge (or_left (edge == edge) (has edge group) (eq-eqb edge edge refl)))
        (group-closed group (λ other there. closed other (or_right (edge == other) (has other group) there)))

    groups-cut : (groups : List (List ℕ)) → ClosedBefore (λ edge. (values edge).text) groups → is_cutlist (map group_text groups) ≡ true
    groups-cut [] closed = refl
    groups-cut (group ∷ []) closed = either (is_closed (group_text group))
      where
        either : (test : Bool) → (if test then true else true) ≡ true
        either true = refl
        either false = refl
    groups-cut (group ∷ next ∷ others) closed =
        cond-true (is_closed (group_text group)) (is_cutlist (map group_text (next ∷ others))) (list_all is_empty (map group_text (next ∷ others))) (group-closed group closed.0)
        ∙ groups-cut (next ∷ others) closed.1

-- A CAT OF THESE FILES, AND ITS GROUPS IN ITS PLACE
module _ (front back : List (Cell NodeKind)) (ins : List ℕ) (closed : List Bool) (out stage next groups : ℕ) (before : StatusRule) where
  abbrev cat : Cell NodeKind
  cat = join_cell ins (out ∷ []) stage

  abbrev all : List (Cell NodeKind)
  all = was front [] [] (cat ∷ []) back

  abbrev parts : List (List ℕ)
  parts = groups_of groups ins

  abbrev cats : List (Cell NodeKind)
  cats = group_cells stage next parts

  abbrev row : List ℕ
  row = range_with_len next groups

  abbrev last : Cell NodeKind
  last = join_cell row (out ∷ []) stage

  abbrev news : List (Cell NodeKind)
  news = cats ++ last ∷ []

  abbrev now : StatusRule
  now = renamed_status (length front) (length news) 0 before

  -- the files that are marked are closed
  abbrev Known : List (List ℕ) → Type 0
  Known sources = are_closed closed (map (flow all sources) ins) ≡ true

  -- there may be so many groups
  record MayHave : Type 0 where
    marks : length closed ≡ length ins
    some : 0 < groups
    enough : groups ≤ length ins
    marked : list_all (λ (it : Bool). it) (take (group_start groups (length ins) (groups - 1)) closed) ≡ true

  may-have : may_have_groups groups (length ins) closed ≡ true → MayHave
  may-have is =
      let tail : Bool = list_all (λ (it : Bool). it) (take (group_start groups (length ins) (groups - 1)) closed) in
      let one = and_parts (length closed == length ins) (nat_le 1 groups && (nat_le groups (length ins) && tail)) is in
      let two = and_parts (nat_le 1 groups) (nat_le groups (length ins) && tail) one.1 in
      let three = and_parts (nat_le groups (length ins)) tail two.1 in
      let least = leb-true 1 groups two.0 in
      record { marks = eqb-true (length closed) (length ins) one.0; some = omega (arith, least); enough = leb-true groups (length ins) three.0; marked = three.1 }

  module _ (may : MayHave) (sound : IsSound all before) (files : are_files all ins ≡ true) where
    count_parts : length parts ≡ groups
    count_parts = groups-count groups ins 0 groups

    joined_parts : concat parts ≡ ins
    joined_parts = groups-joined groups ins may.some

    given : OfAll (λ edge. has edge (gives front) ≡ true) ins
    given edge there =
        let first = and_parts (each_after takes_given [] front) (each_after takes_given front (cat ∷ back)) (sym (after-front takes_given [] front (cat ∷ back)) ∙ sound.wired.later) in
        let second = and_parts (takes_given front cat) (each_after takes_given (front ++ cat ∷ []) back) first.1 in
        holds-has (λ edge. has edge (gives front)) edge ins second.0 there

    takes_news : takes news ≡ ins ++ (row ++ [])
    takes_news = flat_map-append (λ (cell : Cell NodeKind). cell.ins) cats (last ∷ []) ∙ ap (λ (edges : List ℕ). edges ++ (row ++ [])) (takes-groups stage next parts ∙ joined_parts)

    gives_news : gives news ≡ row ++ out ∷ []
    gives_news =
        flat_map-append (λ (cell : Cell NodeKind). cell.outs) cats (last ∷ [])
        ∙ ap (λ (edges : List ℕ). edges ++ out ∷ []) (gives-groups stage next parts ∙ ap (range_with_len next) count_parts)

    rewires : Rewires [] (cat ∷ []) news next
    rewires = record {
      inner = [];
      fresh = row;
      takes_same = λ edge. (
          let whole = ap (count edge) takes_news in
          let both = count-append edge ins (row ++ []) in
          let one = count-append edge row [] in
          let other = count-append edge ins [] in omega (arith, whole, both, one, other));
      gives_same = λ edge. (let whole = ap (count edge) gives_news in let both = count-append edge row (out ∷ []) in omega (arith, whole, both));
      high = λ edge low. count-before edge next groups low;
      single = λ edge. count-row edge next groups;
      joins = λ edge. omega arith;
      taken = λ edge. omega arith;
    }

    follows : Follows (λ edge. has edge (gives front) ≡ true) news
    follows =
        follows-append (λ edge. has edge (gives front) ≡ true) cats (last ∷ [])
        (follows-groups stage (λ edge. has edge (gives front) ≡ true) next parts (λ edge there. given edge (ap (has edge) (sym joined_parts) ∙ there))) (
          λ edge there. inr (ap (has edge) (gives-groups stage next parts ∙ ap (range_with_len next) count_parts) ∙ there),
          tt,
        )

    all_news : (test : Cell NodeKind → Bool) → ((ins outs : List ℕ) → test (join_cell ins outs stage) ≡ true) → list_all test news ≡ true
    all_news test holds =
        list_all-append test cats (last ∷ [])
        ∙ and_from (list_all test cats) (list_all test (last ∷ [])) (all-groups stage test holds next parts) (and_from (test last) true (holds row (out ∷ [])) refl)

    row_size : length row ≡ groups
    row_size = length-range_with_len next groups

    fit : AreFit news
    fit = record {
      inner = all_news (λ cell. is_inner cell.kind) (λ ins outs. refl);
      ports =
          list_all-append has_its_ports cats (last ∷ [])
          ∙ and_from (list_all has_its_ports cats) (list_all has_its_ports (last ∷ []))
          (ports-groups stage next parts (groups-some groups ins may.some may.enough 0 groups (omega arith)))
          (and_from (has_its_ports last) true (join-ports stage row out (let some = may.some in let size = row_size in omega (arith, some, size))) refl);
      inputs = all_news (λ cell. reads_one_input cell.kind) (λ ins outs. refl);
      classes = all_news (λ cell. has_its_class cell.kind) (λ ins outs. refl);
      built = all_news (λ cell. runs_what_is_built cell.kind) (λ ins outs. refl);
    }

    joins_maps : JoinsMaps front (cat ∷ []) news
    joins_maps = record {
      raises = λ one other met new edge there words is. (
          let old_out : one out ≡ Given = ap (λ (values : List Made). get_or values 0 (one out)) met.0 in
          let same : out ≡ edge = only-one edge out there in
          absurd (true≢false (sym is ∙ ap (is_mapped words) (ap one (sym same) ∙ old_out))));
      joins = λ one other more new told_before. held-both tells_maps other cats (last ∷ []) (told-groups stage other next parts) refl;
    }

    module _ (made : ℕ → Made) (sources : List (List ℕ)) (known : Known sources) (one other : ℕ → Value) (at : AtExchange front [] (cat ∷ []) news all made sources one other) where
      given_all : (edge : ℕ) → has edge ins ≡ true → has edge (gives all) ≡ true
      given_all edge there = ap (has edge) (flat_map-append (λ (cell : Cell NodeKind). cell.outs) front (cat ∷ back)) ∙ has-front edge (gives front) (gives (cat ∷ back)) (given edge there)

      -- files come from no group
      nothing-fewer : (texts others : List (List ℕ)) → Fewer texts others → texts ≡ [] → others ≡ []
      nothing-fewer texts others no_more none = refl
      nothing-fewer texts others (kept {texts = more} {others = fewer} text rest) none = absurd (omega (arith, ap length none))
      nothing-fewer texts others (left_out {texts = more} {others = fewer} text rest) none = absurd (omega (arith, ap length none))

      ungrouped : OfAll (λ edge. (other edge).group ≡ []) (concat parts)
      ungrouped edge there =
          let in_ins : has edge ins ≡ true = ap (has edge) (sym joined_parts) ∙ there in
          nothing-fewer (one edge).group (other edge).group (at.front_lost edge (given edge in_ins)).near.group
          (file-group sources one keeps-closed all sound.ports at.all_carried edge (holds-has (λ edge. has edge (files_given all)) edge ins files in_ins))

      same_texts : map text_of (map one ins) ≡ map text_of (map other ins)
      same_texts = over ins (λ edge there. there)
        where
          over : (edges : List ℕ) → ((edge : ℕ) → has edge edges ≡ true → has edge ins ≡ true) → map text_of (map one edges) ≡ map text_of (map other edges)
          over [] within = refl
          over (edge ∷ edges) within =
              ap (λ (text : List ℕ). text ∷ map text_of (map one edges)) (at.front_lost edge (given edge (within edge (or_left (edge == edge) (has edge edges) (eq-eqb edge edge refl))))).near.text
              ∙ ap (λ (rest : List (List ℕ)). (other edge).text ∷ rest) (over edges (λ it there. within it (or_right (edge == it) (has it edges) there)))

      marked_texts : are_closed closed (map (λ edge. (other edge).text) ins) ≡ true
      marked_texts =
          ap (are_closed closed) (sym (values-agree ins (flow all sources) (λ edge. (other edge).text) (λ edge there.
          flow-carried sources all one sound.wired sound.ports at.all_carried edge (given_all edge there) ∙ (at.front_lost edge (given edge there)).near.text)))
          ∙ known

      cut_groups : is_cutlist (map (group_text stage sources other) parts) ≡ true
      cut_groups =
          groups-cut stage sources other parts
          (closed-from (λ edge. (other edge).text) groups ins may.some
          (marked-closed (λ edge. (other edge).text) (group_start groups (length ins) (groups - 1)) closed ins may.marks marked_texts may.marked) 0 groups (omega arith))

      news_parts : (Carries sources at.news_number cats other) × (Carries sources (sources_behind at.news_number cats) (last ∷ []) other)
      news_parts = carries-parts sources other at.news_number cats (last ∷ []) at.news_carried

      row_values : map other row ≡ map (group_value stage sources other) parts
      row_values = ap (λ (size : ℕ). map other (range_with_len next size)) (sym count_parts) ∙ values-groups stage sources other at.news_number next parts news_parts.0

      new_is : other out ≡ with_origin (kind.Cat false) (map other row) (concat (map text_of (map other row)))
      new_is = ap (λ (values : List Value). get_or values 0 (other out)) news_parts.1.0

      old_is : one out ≡ with_origin (kind.Cat false) (map one ins) (concat (map text_of (map one ins)))
      old_is = ap (λ (values : List Value). get_or values 0 (one out)) at.olds_carried.0

      text_is : (one out).text ≡ (other out).text
      text_is =
          ap text_of old_is ∙ ap concat same_texts ∙ ap (λ (edges : List ℕ). concat (map text_of (map other edges))) (sym joined_parts)
          ∙ sym (texts-groups stage sources other parts) ∙ ap (λ (values : List Value). concat (map text_of values)) (sym row_values) ∙ sym (ap text_of new_is)

      some_parts : 1 ≤ length parts
      some_parts = let some = may.some in let size = count_parts in omega (arith, some, size)

      no_files : (them : List (List ℕ)) → 1 ≤ length them → list_all (λ (value : Value). value.file) (map (group_value stage sources other) them) ≡ false
      no_files [] some = absurd (omega (arith, some))
      no_files (group ∷ them) some = refl

      group_none : (other out).group ≡ []
      group_none =
          ap (λ (value : Value). value.group) new_is
          ∙ ap (λ (files : Bool). if files then concat (map text_of (map other row)) ∷ [] else [])
          (ap (list_all (λ (value : Value). value.file)) row_values ∙ no_files parts some_parts)

      asks_last : is_cutlist (flat_map (λ (value : Value). value.group) (map other row)) ≡ true
      asks_last = ap (λ (values : List Value). is_cutlist (flat_map (λ (value : Value). value.group) values)) row_values ∙ fewer-cut (fewer-groups stage sources other parts) cut_groups

      gives-same : GivesSame front [] [] (cat ∷ []) news before now made sources one other
      gives-same =
          let lost : Lost made one other out = record {
            near = record {
              text = text_is;
              file = λ is. absurd (true≢false (sym is ∙ ap (λ (value : Value). value.file) new_is));
              group = subst (λ (group : List (List ℕ)). Fewer (one out).group group) (sym group_none) (fewer-none (one out).group);
            };
            maps = λ is. ap (λ (value : Value). value.maps) old_is ∙ sym (ap (λ (value : Value). value.maps) new_is);
          } in
          record {
            lost = λ edge there. subst (Lost made one other) (only-one edge out there) lost;
            asks =
                held-both asks other cats (last ∷ []) (asked-groups stage sources other next parts ungrouped)
                (and_from (is_cutlist (flat_map (λ (value : Value). value.group) (map other row))) true asks_last refl);
            codes = λ first second last_answers fronts middles. (
                let answers : List Bool = selected sources other news in
                let none : second ≡ [] = nil_from_length second middles in
                let size : length answers ≡ length news = one-each sources other news in
                ap (λ (it : List Bool). status_by before (first ++ (it ++ (false ∷ last_answers)))) none
                ∙ status-standing first false [] answers last_answers refl before
                ∙ ap (λ (it : ℕ). status_by (renamed_status it (length answers) 0 before) (first ++ (answers ++ last_answers))) fronts
                ∙ ap (λ (it : ℕ). status_by (renamed_status (length front) it 0 before) (first ++ (answers ++ last_answers))) size
                ∙ ap (λ (it : List Bool). status_by now (first ++ (it ++ (answers ++ last_answers)))) (sym none));
          }

    module _ (below : (edge : ℕ) → has edge (gives all) ≡ true → edge < next) where
      sound_new : IsSound (becomes front [] news back) now
      sound_new =
          sound-exchange front [] [] (cat ∷ []) news back next rewires before now sound below follows refl refl fit joins_maps
          (names-standing front cat [] news back before (λ is. refl) sound.named)

      leaves_new : LeavesWhere Known all (becomes front [] news back) before now
      leaves_new sources known one other first second asks =
          let at = at-exchange front [] [] (cat ∷ []) news back before now next rewires sound.wired sound.maps refl refl fit.inner sources one other first second asks in
          leaves-exchange front [] [] (cat ∷ []) news back before now next rewires sound.wired sound.maps refl refl fit.inner sources one other first second asks
          (gives-same (after makes all absent) sources known one other at)

      keeps_new : (old : Graph) → Valid old.nodes old.status → old.nodes ≡ all → old.status ≡ before → KeepsWhere Known old (record { nodes = numbered (becomes front [] news back); status = now })
      keeps_new old valid nodes status =
          keeps_where Known old (becomes front [] news back) now valid sound_new
          (subst (λ (cells : List (Cell NodeKind)). LeavesWhere Known cells (becomes front [] news back) old.status now) (sym nodes)
          (subst (λ (rule : StatusRule). LeavesWhere Known all (becomes front [] news back) rule now) (sym status) leaves_new))

-- THE REWRITE
module _ (old : Graph) (node : ℕ) (closed : List Bool) (groups : ℕ) (valid : Valid old.nodes old.status) where
  abbrev size : ℕ
  size = length (gives old.nodes)

  group-keeps : (cell : Cell NodeKind) → slice_get old.nodes node ≡ Some cell → may_group old.nodes closed groups cell ≡ true
      → KeepsWhere (AreClosed closed node old) old (exchanged node old (grouped_cells groups size cell))
  group-keeps cell there may =
      let one = and_parts (joins_plainly cell.kind) (may_have_groups groups (length cell.ins) closed && are_files old.nodes cell.ins) may in
      let two = and_parts (may_have_groups groups (length cell.ins) closed) (are_files old.nodes cell.ins) one.1 in
      let at = stands-at old.nodes node cell there in
      let sound = sound-valid old.nodes old.status valid in
      let is : cell.kind ≡ kind.Cat false = plain-cat cell.kind one.0 in
      let ports = and_parts (nat_le 1 (length cell.ins)) (length cell.outs == 1)
      (ports-of at.front cell at.back (kind.Cat false) (ap (list_all has_its_ports) (sym at.whole) ∙ sound.ports) is) in
      let outs = one-edge cell.outs ports.1 in
      let same : cell ≡ join_cell cell.ins (outs.edge ∷ []) cell.stage = same-cell cell (kind.Cat false) cell.ins (outs.edge ∷ []) cell.stage is refl outs.all refl in
      let nodes : old.nodes ≡ at.front ++ (join_cell cell.ins (outs.edge ∷ []) cell.stage ∷ at.back) = at.whole ∙ ap (λ (it : Cell NodeKind). at.front ++ (it ∷ at.back)) same in
      let all_cells : List (Cell NodeKind) = at.front ++ (join_cell cell.ins (outs.edge ∷ []) cell.stage ∷ at.back) in
      let put : List ℕ → List (Cell NodeKind) = λ edges. group_cells cell.stage size (groups_of groups cell.ins) ++ join_cell (range_with_len size groups) edges cell.stage ∷ [] in
      let new : List (Cell NodeKind) = put (outs.edge ∷ []) in
      let kept_so = keeps_new at.front at.back cell.ins closed outs.edge cell.stage size groups old.status (may-have at.front at.back cell.ins closed outs.edge cell.stage size groups old.status two.0)
      (subst (λ (cells : List (Cell NodeKind)). IsSound cells old.status) nodes sound)
      (ap (λ (cells : List (Cell NodeKind)). are_files cells cell.ins) (sym nodes) ∙ two.1)
      (λ edge given_it. valid.edges.below edge (ap (λ (cells : List (Cell NodeKind)). has edge (gives cells)) nodes ∙ given_it)) old valid nodes refl in
      let known : List (List ℕ) → Type 0 = λ sources. are_closed closed (map (flow all_cells sources) cell.ins) ≡ true in
      let moved : KeepsWhere known old (record { nodes = numbered (replaced (λ (it : Cell NodeKind). new) node old.nodes); status = renamed_status node (length new) 0 old.status }) =
      subst (λ (cells : List (Cell NodeKind)). KeepsWhere known old (record { nodes = numbered cells; status = renamed_status node (length new) 0 old.status })) (sym (at.others (λ (it : Cell NodeKind). new)))
      (subst (λ (place : ℕ). KeepsWhere known old (record { nodes = numbered (at.front ++ (new ++ at.back)); status = renamed_status place (length new) 0 old.status })) at.number kept_so) in
      let whole : KeepsWhere known old (exchanged node old (grouped_cells groups size cell)) = subst (λ (edges : List ℕ). KeepsWhere known old (exchanged node old (put edges))) (sym outs.all) moved in
      keeps-fewer known (AreClosed closed node old) old (exchanged node old (grouped_cells groups size cell))
      (λ sources are. ap (λ (cells : List (Cell NodeKind)). are_closed closed (map (flow cells sources) cell.ins)) (sym nodes)
      ∙ ap (λ (found : Option (Cell NodeKind)). are_closed closed (map (flow old.nodes sources) (ins_of found))) (sym there) ∙ are) whole
    where
      ins_of : Option (Cell NodeKind) → List ℕ
      ins_of found = option_map_or (λ (it : Cell NodeKind). it.ins) found []

  found-at : (cells : List (Cell NodeKind)) → groups_at old.nodes closed groups node ≡ Some cells
      → KeepsWhere (AreClosed closed node old) old (exchanged node old cells) × (node < length old.nodes)
  found-at cells made = by_cell (slice_get old.nodes node) refl made
    where
      by_cell : (found : Option (Cell NodeKind)) → slice_get old.nodes node ≡ found → option_and_then (groups_by old.nodes closed groups) found ≡ Some cells
          → KeepsWhere (AreClosed closed node old) old (exchanged node old cells) × (node < length old.nodes)
      by_cell None absent none = absurd (none-some cells none)
      by_cell (Some cell) there some =
          let chosen = cond_some (may_group old.nodes closed groups cell) (grouped_cells groups size cell) cells some in (
            subst (λ (it : List (Cell NodeKind)). KeepsWhere (AreClosed closed node old) old (exchanged node old it)) chosen.1 (group-keeps cell there chosen.0),
            slice_get_within old.nodes node cell there,
          )

  -- what is found may stand there, and the answer keeps the flow
  pub found-groups : (found : Option (List (Cell NodeKind))) → found ≡ groups_at old.nodes closed groups node → IfSome found (λ cells. node < length old.nodes)
  found-groups None is = tt
  found-groups (Some cells) is = (found-at cells (sym is)).1

  pub groups-keep : (found : Option (List (Cell NodeKind))) (result : Rewritten) → found ≡ groups_at old.nodes closed groups node → Answers (option_map (exchanged node old) found) old result
      → KeepsFlowWhere (AreClosed closed node old) old result
  groups-keep found result is answers =
      answers-keep-where (AreClosed closed node old) (option_map (exchanged node old) found) old result (λ graph made.
      made-of (exchanged node old) found graph (KeepsWhere (AreClosed closed node old) old) (λ cells there. (found-at cells (sym is ∙ there)).0) made) answers

  pub groups-answer : (found : Option (List (Cell NodeKind))) (result : Rewritten) → found ≡ groups_at old.nodes closed groups node → Answers (option_map (exchanged node old) found) old result
      → Answers (grouped node closed groups old) old result
  groups-answer found result is answers = subst (λ (it : Option (List (Cell NodeKind))). Answers (option_map (exchanged node old) it) old result) is answers

pub ruleset group_laws = (found-groups, groups-keep, groups-answer)

-- a group more
group-more : (stage next groups : ℕ) (files : List ℕ) (nodes : List (Cell NodeKind)) (group : ℕ) → nodes ≡ group_cells stage next (groups_from groups files 0 group)
    → nodes ++ join_cell (slice files (group_start groups (length files) group) (group_start groups (length files) (group + 1))) ((next + group) ∷ []) stage ∷ []
    ≡ group_cells stage next (groups_from groups files 0 (group + 1))
group-more stage next groups files nodes group is =
    let group_at : ℕ → List ℕ = λ place. slice files (group_start groups (length files) place) (group_start groups (length files) (place + 1)) in
    let one : 0 + group ≡ group = omega arith in
    let more : group + 1 ≡ suc group = omega arith in
    let size = groups-count groups files 0 group in
    ap (λ (cells : List (Cell NodeKind)). cells ++ join_cell (group_at group) ((next + group) ∷ []) stage ∷ []) is
    ∙ ap (λ (place : ℕ). group_cells stage next (groups_from groups files 0 group) ++ join_cell (group_at place) ((next + group) ∷ []) stage ∷ []) (sym one)
    ∙ ap (λ (from : ℕ). group_cells stage next (groups_from groups files 0 group) ++ join_cell (group_at (0 + group)) ((next + from) ∷ []) stage ∷ []) (sym size)
    ∙ sym (cells-more next (groups_from groups files 0 group) (group_at (0 + group)))
    ∙ ap (group_cells stage next) (sym (ap (groups_from groups files 0) more ∙ from-more 0 group))
  where
    cells-more : (next : ℕ) (them : List (List ℕ)) (last : List ℕ) → group_cells stage next (them ++ last ∷ []) ≡ group_cells stage next them ++ join_cell last ((next + length them) ∷ []) stage ∷ []
    cells-more next [] last = let none : next ≡ next + 0 = omega arith in ap (λ (out : ℕ). join_cell last (out ∷ []) stage ∷ []) none
    cells-more next (first ∷ them) last =
        let on : next + 1 + length them ≡ next + suc (length them) = omega arith in
        ap (λ (rest : List (Cell NodeKind)). join_cell first (next ∷ []) stage ∷ rest) (cells-more (next + 1) them last
        ∙ ap (λ (out : ℕ). group_cells stage (next + 1) them ++ join_cell last (out ∷ []) stage ∷ []) on)

    from-more : (group left : ℕ) → groups_from groups files group (suc left)
        ≡ groups_from groups files group left ++ slice files (group_start groups (length files) (group + left)) (group_start groups (length files) (group + left + 1)) ∷ []
    from-more group zero =
        let none : group ≡ group + 0 = omega arith in
        ap (λ (place : ℕ). slice files (group_start groups (length files) place) (group_start groups (length files) (place + 1)) ∷ []) none
    from-more group (suc left) =
        let on : group + 1 + left ≡ group + suc left = omega arith in
        ap (λ (rest : List (List ℕ)). slice files (group_start groups (length files) group) (group_start groups (length files) (group + 1)) ∷ rest) (from-more (group + 1) left
        ∙ ap (λ (place : ℕ). groups_from groups files (group + 1) left ++ slice files (group_start groups (length files) place) (group_start groups (length files) (place + 1)) ∷ []) on)

-- the loop that makes them
module _ (stage next groups : ℕ) (files : List ℕ) where
  pub group_more : (old new : List (Cell NodeKind)) (group : ℕ) → old ≡ group_cells stage next (groups_from groups files 0 group)
      → new ≡ old ++ join_cell (slice files (group_start groups (length files) group) (group_start groups (length files) (group + 1))) ((next + group) ∷ []) stage ∷ []
      → new ≡ group_cells stage next (groups_from groups files 0 (group + 1))
  group_more old new group is grown = grown ∙ group-more stage next groups files old group is

  pub group_all : (cells : List (Cell NodeKind)) (group : ℕ) → group ≤ groups → groups ≤ group → cells ≡ group_cells stage next (groups_from groups files 0 group) → cells ≡ group_cells stage next (groups_of groups files)
  group_all cells group few all is = let last : group ≡ groups = omega (arith, few, all) in is ∙ ap (λ (left : ℕ). group_cells stage next (groups_from groups files 0 left)) last

pub ruleset loop_laws = (group_more, group_all)

-- where a group is among the files
module _ (groups files group start end : ℕ) (one : start ≡ group_start groups files group) (other : end ≡ group_start groups files (group + 1)) (few : group < groups) where
  pub group_ordered : start ≤ end
  group_ordered = let rises = start-rises groups files (omega (arith, few)) group in omega (arith, one, other, rises)

  pub group_within : end ≤ files
  group_within = let within = start-within groups files (omega (arith, few)) (group + 1) (omega (arith, few)) in omega (arith, other, within)

pub ruleset place_laws = (group_ordered, group_within)
