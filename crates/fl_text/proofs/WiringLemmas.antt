-- What the tables of edges and of their makers say, and that it is what validity asks.
use Rattle.std.proofs.Common.{◌≡◌, ℕ, zero, suc, ◌+◌, ◌<◌, ◌≤◌, ◌==◌, List, [], ◌∷◌, ◌++◌, Bool, true, false, ◌&&◌, ◌||◌, Option, Some, None, is_some, if◌then◌else◌, length, map, get_or, set, replicate, refl, ap, sym, ◌∙◌, arith, ⊎_elim, eq-eqb, append_assoc}
use Rattle.std.specs.Prelude.{slice_get, option_and_then}
use Rattle.std.specs.Option.{option_map_or}
use Rattle.std.specs.List.{list_all}
use Rattle.std.proofs.Math.Path.{fun_ext}
use Rattle.std.proofs.lemmas.Bool.{and_parts, and_from, cases_eq, cases_lt, eqb-true, ltb-true, lt-ltb, ne_eqb, or_left, or_right}
use Rattle.std.proofs.lemmas.List.{get_or-set_same, get_or-set_other, length-set, length-append, length-replicate}
use Rattle.std.proofs.lemmas.List.Folds.{list_all-append, list_all-map, list_any-append}
use Rattle.ut_args.specs.Invocations.{words_of}
use Rattle.fl_graph.specs.Net.{has, count, gives, takes, step, run}
use Rattle.fl_graph.specs.Makers.{Made, Absent, absent, all_hold, is_given, is_mapped, joins_maps, leads_on, made_by, makes, tells_maps, tells_order}
use Rattle.fl_graph.specs.Checks.{each_after, gives_below, has_edges, has_single_edges, is_below, is_single, joins_its_maps, takes_given}
use Rattle.fl_graph.specs.declared.graphs.Cell.{Cell}
use Rattle.fl_graph.specs.declared.kinds.NodeKind.{NodeKind}
use Rattle.fl_graph.specs.declared.kinds.NodeKind.TheVariants as kind
use Rattle.fl_graph.proofs.ListLemmas.{same_tests, and-true, list_all-both, list_all-flat_map, holds-has, all-has, count-has, count-none}
use Rattle.fl_graph.proofs.PlaceLemmas.{each_below}
use Rattle.fl_graph.proofs.NetLemmas.{store-all}
use Rattle.fl_graph.proofs.EdgeLemmas.{leads_on-each, joins_maps-each}
use Rattle.fl_text.specs.Inner.Wirings.{are_free, each_joins, joins, made_in, may_join, set_all}
use Rattle.fl_text.proofs.MarkLemmas.{AreNumbered, numbered_if, only_if_numbered}

-- what a node makes is given
given-made_by : (node : NodeKind) → true ≡ is_given (made_by node)
given-made_by (kind.Map inv) = refl
given-made_by (kind.Agg inv) = refl
given-made_by other = refl

-- an edge is given where a node has made it
pub has_maker : (maker : Option (Cell NodeKind)) → is_some maker ≡ is_given (option_map_or (λ (cell : Cell NodeKind). made_by cell.kind) maker Absent)
has_maker None = refl
has_maker (Some cell) = given-made_by cell.kind

-- ---- the table of makers

-- the item behind a front is at its length
at-length : {X : Type 0} (before : List X) (x : X) (rest : List X) → slice_get (before ++ x ∷ rest) (length before) ≡ Some x
at-length [] x rest = refl
at-length (other ∷ before) x rest = at-length before x rest

module _ (cells : List (Cell NodeKind)) (cell : Cell NodeKind) (place : ℕ) (stands : slice_get cells place ≡ Some cell) where
  -- what an edge is made of, once the node has made one edge, or several
  made_in-set : (makers : List (Option ℕ)) (out : ℕ) → out < length makers → (edge : ℕ)
      → made_in cells (set makers out (Some place)) edge ≡ (if out == edge then made_by cell.kind else made_in cells makers edge)
  made_in-set makers out below edge =
      let made = λ (entry : Option ℕ). option_map_or (λ (maker : Cell NodeKind). made_by maker.kind) (option_and_then (slice_get cells) entry) Absent in
      ⊎_elim
      (λ (same : edge ≡ out).
      let now : get_or (set makers out (Some place)) edge None ≡ Some place =
      ap (λ (at : ℕ). get_or (set makers out (Some place)) at None) same ∙ get_or-set_same makers out (Some place) None below in
      ap made now ∙ ap (λ (maker : Option (Cell NodeKind)). option_map_or (λ (maker : Cell NodeKind). made_by maker.kind) maker Absent) stands
      ∙ ap (λ (here : Bool). if here then made_by cell.kind else made_in cells makers edge) (sym (eq-eqb out edge (sym same))))
      (λ (apart : edge ≡ out → ⊥).
      let now : get_or (set makers out (Some place)) edge None ≡ get_or makers edge None = get_or-set_other makers out edge (Some place) None apart in
      ap made now ∙ ap (λ (here : Bool). if here then made_by cell.kind else made_in cells makers edge) (sym (ne_eqb out edge (λ same. apart (sym same)))))
      (cases_eq edge out)

  made_in-set_all : (makers : List (Option ℕ)) (outs : List ℕ) → ((edge : ℕ) → has edge outs ≡ true → edge < length makers) → (edge : ℕ)
      → made_in cells (set_all makers outs place) edge ≡ (if has edge outs then made_by cell.kind else made_in cells makers edge)
  made_in-set_all makers [] below edge = refl
  made_in-set_all makers (out ∷ outs) below edge =
      let size = length-set makers out (Some place) in
      let here = below out (or_left (out == out) (has out outs) (eq-eqb out out refl)) in
      made_in-set_all (set makers out (Some place)) outs
      (λ other there. let within = below other (or_right (out == other) (has other outs) there) in omega (arith, size, within)) edge
      ∙ ap (λ (made : Made). if has edge outs then made_by cell.kind else made) (made_in-set makers out here edge)
      ∙ choice (out == edge) (has edge outs)
    where
      choice : (equal more : Bool) → (if more then made_by cell.kind else (if equal then made_by cell.kind else made_in cells makers edge))
          ≡ (if equal || more then made_by cell.kind else made_in cells makers edge)
      choice true true = refl
      choice true false = refl
      choice false true = refl
      choice false false = refl

  -- the table keeps its size
  length-set_all : (makers : List (Option ℕ)) (outs : List ℕ) → length (set_all makers outs place) ≡ length makers
  length-set_all makers [] = refl
  length-set_all makers (out ∷ outs) = length-set_all (set makers out (Some place)) outs ∙ length-set makers out (Some place)

-- four tests in another order
and_swapped : (a b c d : Bool) → ((a && b) && (c && d)) ≡ ((a && c) && (b && d))
and_swapped true true c d = refl
and_swapped true false true d = refl
and_swapped true false false d = refl
and_swapped false b c d = refl

-- what a node tells of its ins
order_told : (made : ℕ → Made) (cell : Cell NodeKind) → all_hold (tells_order cell.kind (map made cell.ins)) ≡ list_all (λ edge. is_given (made edge)) cell.ins
order_told made cell = and-true (list_all is_given (map made cell.ins)) ∙ list_all-map is_given made cell.ins

words_told : (made : ℕ → Made) (words : List (List ℕ)) (ins : List ℕ) → (list_all (is_mapped words) (map made ins) && true) ≡ list_all (λ edge. is_mapped words (made edge)) ins
words_told made words ins = and-true (list_all (is_mapped words) (map made ins)) ∙ list_all-map (is_mapped words) made ins

maps_told : (made : ℕ → Made) (node : NodeKind) (ins : List ℕ) → all_hold (tells_maps node (map made ins)) ≡ may_join node made ins
maps_told made (kind.Agg inv) ins = words_told made (words_of inv) ins
maps_told made (kind.Finish inv) ins = words_told made (words_of inv) ins
maps_told made other ins = refl

-- the edges of these nodes lead on, and their maps are joined
abbrev leads : (ℕ → Made) → List (Cell NodeKind) → Bool
leads made cells = all_hold (run makes tells_order cells made) && all_hold (run makes tells_maps cells made)

-- the first node, and those behind it
leads-first : (made : ℕ → Made) (cell : Cell NodeKind) (rest : List (Cell NodeKind)) → leads made (cell ∷ rest) ≡ (joins made cell && leads (step makes cell made) rest)
leads-first made cell rest =
    let order = all_hold (run makes tells_order rest (step makes cell made)) in
    let maps = all_hold (run makes tells_maps rest (step makes cell made)) in
    let given = list_all (λ (edge : ℕ). is_given (made edge)) cell.ins in
    let first : all_hold (run makes tells_order (cell ∷ rest) made) ≡ (given && order) =
    list_all-append (λ (holds : Bool). holds) (tells_order cell.kind (map made cell.ins)) (run makes tells_order rest (step makes cell made))
    ∙ ap (λ (told : Bool). told && order) (order_told made cell) in
    let second : all_hold (run makes tells_maps (cell ∷ rest) made) ≡ (may_join cell.kind made cell.ins && maps) =
    list_all-append (λ (holds : Bool). holds) (tells_maps cell.kind (map made cell.ins)) (run makes tells_maps rest (step makes cell made))
    ∙ ap (λ (told : Bool). told && maps) (maps_told made cell.kind cell.ins) in
    ap (λ (told : Bool). told && all_hold (run makes tells_maps (cell ∷ rest) made)) first
    ∙ ap (λ (told : Bool). (given && order) && told) second
    ∙ and_swapped given order (may_join cell.kind made cell.ins) maps

-- an edge that a node gives, or one behind it
has-front : (edge : ℕ) (cell : Cell NodeKind) (rest : List (Cell NodeKind)) → has edge cell.outs ≡ true → has edge (gives (cell ∷ rest)) ≡ true
has-front edge cell rest there = list_any-append (λ (other : ℕ). other == edge) cell.outs (gives rest) ∙ or_left (has edge cell.outs) (has edge (gives rest)) there

has-back : (edge : ℕ) (cell : Cell NodeKind) (rest : List (Cell NodeKind)) → has edge (gives rest) ≡ true → has edge (gives (cell ∷ rest)) ≡ true
has-back edge cell rest there = list_any-append (λ (other : ℕ). other == edge) cell.outs (gives rest) ∙ or_right (has edge cell.outs) (has edge (gives rest)) there

-- the table has what the nodes so far have made, so that the rest of them joins as validity asks
joined-each : (cells before rest : List (Cell NodeKind)) (makers : List (Option ℕ)) (place : ℕ) → before ++ rest ≡ cells → length before ≡ place
    → ((edge : ℕ) → has edge (gives rest) ≡ true → edge < length makers)
    → each_joins cells makers place rest ≡ leads (made_in cells makers) rest
joined-each cells before [] makers place whole at below = refl
joined-each cells before (cell ∷ rest) makers place whole at below =
    let stands : slice_get cells place ≡ Some cell =
    ap (λ (all : List (Cell NodeKind)). slice_get all place) (sym whole) ∙ ap (slice_get (before ++ cell ∷ rest)) (sym at) ∙ at-length before cell rest in
    let size = length-set_all cells cell place stands makers cell.outs in
    let made = made_in cells makers in
    let behind : made_in cells (set_all makers cell.outs place) ≡ step makes cell made =
    fun_ext (λ (edge : ℕ). made_in-set_all cells cell place stands makers cell.outs (λ other there. below other (has-front other cell rest there)) edge
    ∙ sym (store-all cell.outs (made_by cell.kind) made edge)) in
    let more = length-append before (cell ∷ []) in
    let others = joined-each cells (before ++ cell ∷ []) rest (set_all makers cell.outs place) (place + 1)
    (append_assoc before (cell ∷ []) rest ∙ whole) (omega (arith, more, at))
    (λ edge there. let within = below edge (has-back edge cell rest there) in omega (arith, size, within)) in
    ap (λ (told : Bool). joins made cell && told) (others ∙ ap (λ (values : ℕ → Made). leads values rest) behind) ∙ sym (leads-first made cell rest)

-- nothing is made in an empty table
abbrev none_made : Option ℕ
none_made = None

none-made : (cells : List (Cell NodeKind)) (size edge : ℕ) → made_in cells (replicate size None) edge ≡ absent edge
none-made cells zero edge = refl
none-made cells (suc size) zero = refl
none-made cells (suc size) (suc edge) = none-made cells size edge

-- all of them, from an empty table on
pub joined-all : (cells : List (Cell NodeKind)) (size : ℕ) → ((edge : ℕ) → has edge (gives cells) ≡ true → edge < size)
    → each_joins cells (replicate size None) 0 cells ≡ (leads_on cells && joins_maps cells)
joined-all cells size below =
    let whole : length (replicate size none_made) ≡ size = length-replicate size none_made in
    joined-each cells [] cells (replicate size None) 0 refl refl (λ edge there. let within = below edge there in omega (arith, whole, within))
    ∙ ap (λ (made : ℕ → Made). leads made cells) (fun_ext (none-made cells size))

-- ---- edges that are numbered

module _ (cells : List (Cell NodeKind)) where
  -- each node's edges are single where all that are taken and all that are given are
  singles : list_all (has_single_edges cells) cells ≡ (list_all (is_single cells) (takes cells) && list_all (is_single cells) (gives cells))
  singles =
      list_all-both (λ (cell : Cell NodeKind). list_all (is_single cells) cell.ins) (λ (cell : Cell NodeKind). list_all (is_single cells) cell.outs) cells
      ∙ ap (λ (test : Bool). test && list_all (λ (cell : Cell NodeKind). list_all (is_single cells) cell.outs) cells)
      (sym (list_all-flat_map (is_single cells) (λ (cell : Cell NodeKind). cell.ins) cells))
      ∙ ap (λ (test : Bool). list_all (is_single cells) (takes cells) && test) (sym (list_all-flat_map (is_single cells) (λ (cell : Cell NodeKind). cell.outs) cells))

  -- and below their number, where all that are given are
  belows : list_all (gives_below cells) cells ≡ list_all (is_below cells) (gives cells)
  belows = sym (list_all-flat_map (is_below cells) (λ (cell : Cell NodeKind). cell.outs) cells)

  -- the edges that are given and those that are taken are numbered
  record IsNumbered : Type 0 where
    given : AreNumbered (length (gives cells)) (gives cells)
    taken : AreNumbered (length (gives cells)) (takes cells)

  -- a number among those that are numbered is below their number
  number_below : (numbers : List ℕ) → AreNumbered (length (gives cells)) numbers → (edge : ℕ) → has edge numbers ≡ true → edge < length (gives cells)
  number_below numbers are edge there =
      let some = count-has edge numbers there in
      ⊎_elim
      (λ (below : edge < length (gives cells)). below)
      (λ (above : length (gives cells) ≤ edge). let none = are.above edge above in absurd (omega (arith, some, none)))
      (cases_lt edge (length (gives cells)))

  -- each of them is given once and taken once
  single_from : IsNumbered → (numbers : List ℕ) → AreNumbered (length (gives cells)) numbers → list_all (is_single cells) numbers ≡ true
  single_from numbered numbers are =
      all-has (is_single cells) numbers (λ edge there.
      let below = number_below numbers are edge there in
      and_from (count edge (gives cells) == 1) (count edge (takes cells) == 1)
      (eq-eqb (count edge (gives cells)) 1 (numbered.given.below edge below)) (eq-eqb (count edge (takes cells)) 1 (numbered.taken.below edge below)))

  edges_if : IsNumbered → leads_on cells ≡ true → has_edges cells ≡ true
  edges_if numbered lead =
      let single = singles ∙ and_from (list_all (is_single cells) (takes cells)) (list_all (is_single cells) (gives cells))
      (single_from numbered (takes cells) numbered.taken) (single_from numbered (gives cells) numbered.given) in
      let below = belows ∙ all-has (is_below cells) (gives cells)
      (λ edge there. lt-ltb edge (length (gives cells)) (number_below (gives cells) numbered.given edge there)) in
      and_from (list_all (has_single_edges cells) cells) (list_all (gives_below cells) cells && each_after takes_given [] cells) single
      (and_from (list_all (gives_below cells) cells) (each_after takes_given [] cells) below (sym (leads_on-each cells) ∙ lead))

  -- what `has_edges` says, in parts
  record HasParts : Type 0 where
    taken : list_all (is_single cells) (takes cells) ≡ true
    given : list_all (is_single cells) (gives cells) ≡ true
    below : list_all (is_below cells) (gives cells) ≡ true
    later : leads_on cells ≡ true

  edge_parts : has_edges cells ≡ true → HasParts
  edge_parts passes =
      let parts = and_parts (list_all (has_single_edges cells) cells) (list_all (gives_below cells) cells && each_after takes_given [] cells) passes in
      let more = and_parts (list_all (gives_below cells) cells) (each_after takes_given [] cells) parts.1 in
      let single = and_parts (list_all (is_single cells) (takes cells)) (list_all (is_single cells) (gives cells)) (sym singles ∙ parts.0) in
      record { taken = single.0; given = single.1; below = sym belows ∙ more.0; later = leads_on-each cells ∙ more.1 }

  -- an edge that is single
  single_counts : (edge : ℕ) → is_single cells edge ≡ true → (count edge (gives cells) ≡ 1) × (count edge (takes cells) ≡ 1)
  single_counts edge single =
      let parts = and_parts (count edge (gives cells) == 1) (count edge (takes cells) == 1) single in
      (eqb-true (count edge (gives cells)) 1 parts.0, eqb-true (count edge (takes cells)) 1 parts.1)

  -- the edges that are given and taken are numbered
  given_below : HasParts → (edge : ℕ) → has edge (gives cells) ≡ true → edge < length (gives cells)
  given_below parts edge there = ltb-true edge (length (gives cells)) (holds-has (is_below cells) edge (gives cells) parts.below there)

  given_once : HasParts → (edge : ℕ) (there : Bool) → has edge (gives cells) ≡ there → count edge (gives cells) ≤ 1
  given_once parts edge true there = let single = single_counts edge (holds-has (is_single cells) edge (gives cells) parts.given there) in let one = single.0 in omega (arith, one)
  given_once parts edge false there = let none = count-none edge (gives cells) there in omega (arith, none)

  given_numbered : HasParts → AreNumbered (length (gives cells)) (gives cells)
  given_numbered parts =
      record {
        below = each_below (gives cells) (given_below parts) (λ edge. given_once parts edge (has edge (gives cells)) refl);
        above = λ edge above. none edge above (has edge (gives cells)) refl;
      }
    where
      none : (edge : ℕ) → length (gives cells) ≤ edge → (there : Bool) → has edge (gives cells) ≡ there → count edge (gives cells) ≡ 0
      none edge above true there = let below = given_below parts edge there in absurd (omega (arith, above, below))
      none edge above false there = count-none edge (gives cells) there

  taken_numbered : HasParts → AreNumbered (length (gives cells)) (gives cells) → AreNumbered (length (gives cells)) (takes cells)
  taken_numbered parts given =
      record {
        below = λ edge below. one edge (given.below edge below) (has edge (gives cells)) refl;
        above = λ edge above. none edge (given.above edge above) (has edge (takes cells)) refl;
      }
    where
      one : (edge : ℕ) → count edge (gives cells) ≡ 1 → (there : Bool) → has edge (gives cells) ≡ there → count edge (takes cells) ≡ 1
      one edge once true there = (single_counts edge (holds-has (is_single cells) edge (gives cells) parts.given there)).1
      one edge once false there = let none = count-none edge (gives cells) there in absurd (omega (arith, once, none))

      none : (edge : ℕ) → count edge (gives cells) ≡ 0 → (there : Bool) → has edge (takes cells) ≡ there → count edge (takes cells) ≡ 0
      none edge never true there = let single = single_counts edge (holds-has (is_single cells) edge (takes cells) parts.taken there) in let once = single.0 in absurd (omega (arith, once, never))
      none edge never false there = count-none edge (takes cells) there

  -- ---- both together

  abbrev has_numbers : List ℕ → Bool
  has_numbers numbers = are_free (replicate (length (gives cells)) false) numbers

  abbrev are_joined : Bool
  are_joined = each_joins cells (replicate (length (gives cells)) None) 0 cells

  -- from the tables to validity, and back
  wired_if : ((has_numbers (gives cells) && has_numbers (takes cells)) && are_joined) ≡ true → (has_edges cells && each_after joins_its_maps [] cells) ≡ true
  wired_if passes =
      let parts = and_parts (has_numbers (gives cells) && has_numbers (takes cells)) are_joined passes in
      let both = and_parts (has_numbers (gives cells)) (has_numbers (takes cells)) parts.0 in
      let given = numbered_if (length (gives cells)) (gives cells) both.0 in
      let taken = numbered_if (length (gives cells)) (takes cells) both.1 in
      let joined = and_parts (leads_on cells) (joins_maps cells) (sym (joined-all cells (length (gives cells)) (number_below (gives cells) given)) ∙ parts.1) in
      and_from (has_edges cells) (each_after joins_its_maps [] cells) (edges_if (record { given = given; taken = taken }) joined.0) (sym (joins_maps-each cells) ∙ joined.1)

  only_if_wired : (has_edges cells && each_after joins_its_maps [] cells) ≡ true → ((has_numbers (gives cells) && has_numbers (takes cells)) && are_joined) ≡ true
  only_if_wired passes =
      let both = and_parts (has_edges cells) (each_after joins_its_maps [] cells) passes in
      let parts = edge_parts both.0 in
      let given = given_numbered parts in
      let taken = taken_numbered parts given in
      let joined = joined-all cells (length (gives cells)) (given_below parts)
      ∙ and_from (leads_on cells) (joins_maps cells) parts.later (joins_maps-each cells ∙ both.1) in
      and_from (has_numbers (gives cells) && has_numbers (takes cells)) are_joined
      (and_from (has_numbers (gives cells)) (has_numbers (takes cells))
      (only_if_numbered (length (gives cells)) (gives cells) given) (only_if_numbered (length (gives cells)) (takes cells) taken)) joined

-- what the tables say is what validity asks of edges and of maps
pub wired : (cells : List (Cell NodeKind)) (given taken joined : Bool) → given ≡ are_free (replicate (length (gives cells)) false) (gives cells)
    → taken ≡ are_free (replicate (length (gives cells)) false) (takes cells) → joined ≡ each_joins cells (replicate (length (gives cells)) None) 0 cells
    → ((given && taken) && joined) ≡ (has_edges cells && each_after joins_its_maps [] cells)
wired cells given taken joined given_is taken_is joined_is =
    ap (λ (test : Bool). (test && taken) && joined) given_is
    ∙ ap (λ (test : Bool). (has_numbers cells (gives cells) && test) && joined) taken_is
    ∙ ap (λ (test : Bool). (has_numbers cells (gives cells) && has_numbers cells (takes cells)) && test) joined_is
    ∙ same_tests ((has_numbers cells (gives cells) && has_numbers cells (takes cells)) && are_joined cells) (has_edges cells && each_after joins_its_maps [] cells)
    (wired_if cells) (only_if_wired cells)
