-- In the graph of a segment the groups of a cat that leads stand behind its files.
use Rattle.std.proofs.Common.{◌≡◌, ℕ, zero, suc, ◌+◌, ◌-◌, ◌<◌, ◌≤◌, List, [], ◌∷◌, ◌++◌, Bool, true, false, not, ◌&&◌, Bor, Some, if◌then◌else◌, length, nat_lt, take, drop, slice_get, refl, ap, sym, ◌∙◌, append_assoc, arith}
use Rattle.std.specs.List.{list_all, range_with_len}
use Rattle.std.proofs.lemmas.Bool.{true≢false, cond-true}
use Rattle.std.proofs.lemmas.List.FromFn.{length-range_with_len}
use Rattle.fl_graph.specs.declared.graphs.Cell.{Cell}
use Rattle.fl_graph.specs.declared.kinds.NodeKind.{NodeKind}
use Rattle.fl_graph.specs.declared.kinds.NodeKind.TheVariants as kind
use Rattle.fl_classes.specs.Parts.{slice}
use Rattle.fl_segments.specs.Groups.{group_start, is_file, is_grouped}
use Rattle.fl_segments.specs.Spread.{HasItsGroups, group_cell}
use Rattle.fl_segments.specs.Stages.{closes_before, is_reader, joins_before}
use Rattle.fl_segments.specs.Inner.Drawing.{Step, behind, drawn, step}
use Rattle.fl_segments.specs.Inner.Steps.{beside_steps, cat_steps, chain_steps, comes_behind, does_steps, done_next, done_parts, drain_steps, earlier_steps, ends_from, front_edges, front_next, front_steps, goes_steps, group_steps, groups_from, in_edges, in_steps, main_next, main_parts, main_steps, read_steps}
use Rattle.fl_segments.specs.declared.parts.Coming.{Coming}
use Rattle.fl_segments.specs.declared.parts.Coming.TheVariants as coming
use Rattle.fl_segments.specs.declared.stages.Does.{Does}
use Rattle.fl_segments.specs.declared.stages.First.{First}
use Rattle.fl_segments.specs.declared.stages.In.{In}
use Rattle.fl_segments.specs.declared.stages.In.TheVariants as inlet
use Rattle.fl_segments.specs.declared.stages.Stage.{Stage}
use Rattle.fl_segments.proofs.DrawingLemmas.{drawn-append}
use Rattle.fl_segments.proofs.FoundLemmas.{grouped-edges}
use Rattle.fl_segments.proofs.GroupLemmas.{GoesInGroups, grouped-so, start-rises, start-within}
use Rattle.fl_segments.proofs.StatusLemmas.{drawn-length}

-- what stands behind a list's front
get-past : {Item : Type 0} (front back : List Item) (place : ℕ) → slice_get (front ++ back) (length front + place) ≡ slice_get back place
get-past [] back place = let none : 0 + place ≡ place = omega arith in ap (slice_get back) none
get-past (first ∷ front) back place =
    let on : suc (length front) + place ≡ suc (length front + place) = omega arith in ap (slice_get (first ∷ (front ++ back))) on ∙ get-past front back place

-- numbers of a row
row-drop : (start size from : ℕ) → from ≤ size → drop from (range_with_len start size) ≡ range_with_len (start + from) (size - from)
row-drop start size zero low =
    let here : start + 0 ≡ start = omega arith in let all : size - 0 ≡ size = omega arith in sym (ap (λ (from : ℕ). range_with_len from (size - 0)) here ∙ ap (range_with_len start) all)
row-drop start zero (suc from) low = absurd (omega arith)
row-drop start (suc size) (suc from) low =
    let on : (start + 1) + from ≡ start + suc from = omega arith in
    let left : size - from ≡ suc size - suc from = omega arith in
    row-drop (start + 1) size from (omega arith) ∙ ap (λ (left : ℕ). range_with_len ((start + 1) + from) left) left
    ∙ ap (λ (start : ℕ). range_with_len start (suc size - suc from)) on

row-take : (start size count : ℕ) → count ≤ size → take count (range_with_len start size) ≡ range_with_len start count
row-take start size zero low = refl
row-take start zero (suc count) low = absurd (omega arith)
row-take start (suc size) (suc count) low = ap (λ (rest : List ℕ). start ∷ rest) (row-take (start + 1) size count (omega arith))

row-slice : (size from end : ℕ) → from ≤ end → end ≤ size → slice (range_with_len 0 size) from end ≡ range_with_len from (end - from)
row-slice size from end low high =
    let here : 0 + from ≡ from = omega arith in
    ap (take (end - from)) (row-drop 0 size from (omega arith)) ∙ row-take (0 + from) (size - from) (end - from) (omega arith) ∙ ap (λ (start : ℕ). range_with_len start (end - from)) here

-- the edges and the nodes of files
module _ (number : ℕ) (comes : Coming) where
  files-row : (ins : List In) (next : ℕ) → list_all is_file ins ≡ true → in_edges number comes ins next ≡ range_with_len next (length ins)
  files-row [] next all = refl
  files-row (inlet.Stream ∷ ins) next all = absurd (true≢false (sym all))
  files-row (inlet.File path closed ∷ ins) next all = ap (λ (rest : List ℕ). next ∷ rest) (files-row ins (next + 1) all)
  files-row (inlet.Empty ∷ ins) next all = absurd (true≢false (sym all))

  files-count : (ins : List In) → list_all is_file ins ≡ true → length (in_steps number comes ins) ≡ length ins
  files-count [] all = refl
  files-count (inlet.Stream ∷ ins) all = absurd (true≢false (sym all))
  files-count (inlet.File path closed ∷ ins) all = ap (λ (size : ℕ). suc size) (files-count ins all)
  files-count (inlet.Empty ∷ ins) all = absurd (true≢false (sym all))

  files-behind : (ins : List In) (next : ℕ) → list_all is_file ins ≡ true → behind next (in_steps number comes ins) ≡ next + length ins
  files-behind [] next all = omega arith
  files-behind (inlet.Stream ∷ ins) next all = absurd (true≢false (sym all))
  files-behind (inlet.File path closed ∷ ins) next all = let rest = files-behind ins (next + 1) all in omega (arith, rest)
  files-behind (inlet.Empty ∷ ins) next all = absurd (true≢false (sym all))

-- the node of a group
abbrev cell_on : ℕ → ℕ → List ℕ → ℕ → ℕ → Cell NodeKind
cell_on width number edges next group =
    record { kind = kind.Cat false; ins = slice edges (group_start width (length edges) group) (group_start width (length edges) (group + 1)); outs = next ∷ []; stage = number }

abbrev cell_with : ℕ → List ℕ → Cell NodeKind
cell_with next ins = record { kind = kind.Cat false; ins = ins; outs = next ∷ []; stage = 0 }

cats-cell : (width number : ℕ) (edges : List ℕ) (rest : List Step) (first left next group : ℕ) → group < left
    → slice_get (drawn next (cat_steps number (groups_from width edges first left) ++ rest)) group ≡ Some (cell_on width number edges (next + group) (first + group))
cats-cell width number edges rest first zero next group less = absurd (omega arith)
cats-cell width number edges rest first (suc left) next zero less =
    let here : first + 0 ≡ first = omega arith in
    let on : next + 0 ≡ next = omega arith in
    sym (ap (λ (on : ℕ). Some (cell_on width number edges on (first + 0))) on ∙ ap (λ (first : ℕ). Some (cell_on width number edges next first)) here)
cats-cell width number edges rest first (suc left) next (suc group) less =
    let here : (first + 1) + group ≡ first + suc group = omega arith in
    let on : (next + 1) + group ≡ next + suc group = omega arith in
    cats-cell width number edges rest (first + 1) left (next + 1) group (omega arith)
    ∙ ap (λ (on : ℕ). Some (cell_on width number edges on ((first + 1) + group))) on ∙ ap (λ (first : ℕ). Some (cell_on width number edges (next + suc group) first)) here

module _ (width : ℕ) (begin : Bor First) (stage : Stage) (is : is_grouped width true stage.does stage.ins ≡ true) where
  abbrev comes : Coming
  comes = coming.Begins begin

  abbrev inputs : List Step
  inputs = in_steps 0 (coming.Begins begin) stage.ins

  abbrev groups : List Step
  groups = group_steps width 0 (front_edges 0 (coming.Begins begin) stage 0)

  so : GoesInGroups width true stage.does stage.ins
  so = grouped-so width true stage.does stage.ins is

  -- what stands behind its groups
  abbrev besides : List Step
  besides = beside_steps 0 stage.does stage.tees stage.first (done_parts width 0 (coming.Begins begin) stage 0) (done_next width 0 (coming.Begins begin) stage 0)

  -- what the stage reads, and its groups
  front-is : front_steps 0 comes stage 0 ≡ inputs
  front-is =
      by_reads (is_reader stage) ∙ ap (λ (it : Does). read_steps 0 comes it stage.ins 0) so.runs
      ∙ ap (λ (cat : Bool). inputs ++ (if (joins_before so.inv && (not cat && nat_lt 1 (length stage.ins))) then step (kind.Cat (closes_before so.inv)) (in_edges 0 comes stage.ins 0) 0 ∷ [] else [])) so.cat
      ∙ by_joins (step (kind.Cat (closes_before so.inv)) (in_edges 0 comes stage.ins 0) 0 ∷ []) (joins_before so.inv) inputs
    where
      by_reads : (reads : Bool) → drain_steps 0 comes reads ++ read_steps 0 comes stage.does stage.ins 0 ≡ read_steps 0 comes stage.does stage.ins 0
      by_reads true = refl
      by_reads false = refl

      none-behind : (steps : List Step) → steps ++ [] ≡ steps
      none-behind [] = refl
      none-behind (it ∷ steps) = ap (λ (rest : List Step). it ∷ rest) (none-behind steps)

      by_joins : (joined : List Step) (joins : Bool) (steps : List Step) → steps ++ (if (joins && false) then joined else []) ≡ steps
      by_joins joined true steps = none-behind steps
      by_joins joined false steps = none-behind steps

  -- the nodes begin with them
  main-is : (rest : List Step) → main_steps width 0 comes stage 0 ++ rest ≡ inputs ++ (groups ++ (besides ++ rest))
  main-is rest =
      ap (λ (front : List Step). (front ++ ((if is_grouped width true stage.does stage.ins then groups else does_steps width 0 true stage.does stage.first (front_edges 0 comes stage 0) (front_next 0 comes stage 0)) ++ besides)) ++ rest) front-is
      ∙ ap (λ (done : List Step). (inputs ++ (done ++ besides)) ++ rest) (cond-true (is_grouped width true stage.does stage.ins) groups (does_steps width 0 true stage.does stage.first (front_edges 0 comes stage 0) (front_next 0 comes stage 0)) is)
      ∙ append_assoc inputs (groups ++ besides) rest ∙ ap (λ (back : List Step). inputs ++ back) (append_assoc groups besides rest)

  -- so a group stands at its place
  group-at : (rest : List Step) (group : ℕ) → group < width → slice_get (drawn 0 (inputs ++ (groups ++ rest))) (length stage.ins + group) ≡ Some (group_cell width (length stage.ins) group)
  group-at rest group less =
      let edges : List ℕ = front_edges 0 comes stage 0 in
      let row : edges ≡ range_with_len 0 (length stage.ins) = grouped-edges width 0 comes stage 0 so ∙ files-row 0 comes stage.ins 0 so.files in
      let size : length edges ≡ length stage.ins = ap length row ∙ length-range_with_len 0 (length stage.ins) in
      let there : length (drawn 0 inputs) ≡ length stage.ins = drawn-length 0 inputs ∙ files-count 0 comes stage.ins so.files in
      let on = files-behind 0 comes stage.ins 0 so.files in
      let next : behind 0 inputs ≡ length stage.ins = omega (arith, on) in
      let here : 0 + group ≡ group = omega arith in
      let wide = so.wide in
      let some : 0 < width = omega (arith, wide) in
      let low = start-rises width (length stage.ins) some group in
      let high = start-within (group + 1) width (length stage.ins) some (omega (arith, less)) in
      ap (λ (cells : List (Cell NodeKind)). slice_get cells (length stage.ins + group)) (drawn-append 0 inputs (groups ++ rest))
      ∙ ap (λ (place : ℕ). slice_get (drawn 0 inputs ++ drawn (behind 0 inputs) (groups ++ rest)) (place + group)) (sym there)
      ∙ get-past (drawn 0 inputs) (drawn (behind 0 inputs) (groups ++ rest)) group
      ∙ ap (λ (from : ℕ). slice_get (drawn from (groups ++ rest)) group) next
      ∙ cats-cell width 0 edges rest 0 width (length stage.ins) group less
      ∙ ap (λ (group' : ℕ). Some (cell_on width 0 edges (length stage.ins + group) group')) here
      ∙ ap (λ (edges : List ℕ). Some (cell_on width 0 edges (length stage.ins + group) group)) row
      ∙ ap (λ (size : ℕ). Some (cell_with (length stage.ins + group) (slice (range_with_len 0 (length stage.ins)) (group_start width size group) (group_start width size (group + 1))))) (length-range_with_len 0 (length stage.ins))
      ∙ ap (λ (ins : List ℕ). Some (cell_with (length stage.ins + group) ins)) (row-slice (length stage.ins) (group_start width (length stage.ins) group) (group_start width (length stage.ins) (group + 1)) low high)

pub chain-grouped : (width : ℕ) (begin : Bor First) (stage : Stage) (stages : List Stage) → HasItsGroups width (stage ∷ stages) (drawn 0 (chain_steps width 0 (coming.Begins begin) (stage ∷ stages) 0))
chain-grouped width begin stage [] = λ is group less.
    let comes : Coming = coming.Begins begin in
    let ends : List Step = ends_from 0 stage (main_parts width 0 comes stage 0) (main_next width 0 comes stage 0) in
    ap (λ (steps : List Step). slice_get (drawn 0 steps) (length stage.ins + group)) (main-is width begin stage is ends)
    ∙ group-at width begin stage is (besides width begin stage is ++ ends) group less
chain-grouped width begin stage (following ∷ stages) = λ is group less.
    let comes : Coming = coming.Begins begin in
    let main : List Step = main_steps width 0 comes stage 0 in
    let goes : List Step = goes_steps width 0 comes stage 0 following in
    let later : List Step = chain_steps width (0 + 1) (comes_behind width 0 comes stage 0 following) (following ∷ stages) (behind 0 (earlier_steps width 0 comes stage 0 following)) in
    ap (λ (steps : List Step). slice_get (drawn 0 steps) (length stage.ins + group)) (append_assoc main goes later ∙ main-is width begin stage is (goes ++ later))
    ∙ group-at width begin stage is (besides width begin stage is ++ (goes ++ later)) group less
