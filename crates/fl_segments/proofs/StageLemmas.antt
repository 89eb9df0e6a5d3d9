-- The nodes of stages: each takes edges that are given before, and each edge is taken once.
use Rattle.std.proofs.Common.{◌≡◌, ℕ, zero, suc, ◌+◌, ◌<◌, ◌≤◌, ◌==◌, List, [], ◌∷◌, ◌++◌, Bool, true, false, ◌&&◌, if◌then◌else◌, get_or, length, nat_le, nat_lt, refl, ap, sym, subst, ◌∙◌, append-nil, arith, ◌-◌, take, drop, length-drop}
use Rattle.std.specs.List.{concat, count_by, flat_map, list_all, list_any, range_with_len}
use Rattle.std.proofs.lemmas.Bool.{true≢false, and_from, and_parts, eqb-true, leb-true, lt-ltb, ltb-true}
use Rattle.std.proofs.lemmas.List.FromFn.{length-range_with_len}
use Rattle.std.proofs.lemmas.Grind.{flat_map-append}
use Rattle.std.proofs.lemmas.List.Folds.{list_all-append}
use Rattle.std.proofs.lemmas.List.Sums.{sum_by-cons}
use Rattle.ps_lines.specs.Lines.{is_empty}
use Rattle.ps_world.specs.Paths.{Components}
use Rattle.ps_world.specs.declared.tree.Mode.{Mode}
use Rattle.ut_args.specs.Classes.{class_of}
use Rattle.ut_args.specs.Inputs.{inputs_of}
use Rattle.ut_args.specs.declared.invocations.Inv.{Inv}
use Rattle.fl_graph.specs.Net.{count}
use Rattle.fl_graph.specs.declared.kinds.NodeKind.TheVariants as kind
use Rattle.fl_graph.specs.declared.kinds.From.TheVariants as from
use Rattle.fl_graph.specs.declared.kinds.To.TheVariants as to
use Rattle.fl_graph.proofs.ListLemmas.{count-append}
use Rattle.fl_segments.specs.Chains.{tee_mode}
use Rattle.fl_segments.specs.Stages.{closes_before, ins_of, ins_read, is_none, is_reader, is_spread, is_stage, is_stream, may_spread, has_finish}
use Rattle.fl_segments.specs.Inner.Drawing.{Step, step, split_step, behind}
use Rattle.fl_segments.specs.Inner.Steps.{begins, beside_parts, beside_steps, cat_steps, chain_steps, comes_behind, comes_cut, comes_on, does_parts, does_steps, done_next, done_parts, done_steps, drain_steps, each_ended, end_edge, end_next, end_steps, earlier_steps, files_parts, files_steps, first_parts, first_steps, front_edges, front_next, front_steps, goes_steps, group_parts, group_steps, groups_from, hands_on, in_edges, in_steps, input_edges, input_steps, is_joined, is_leading_cat, join_steps, joined_edges, kind_first, kind_in, last_steps, main_next, main_parts, main_steps, map_steps, on_steps, out_steps, parts_on, piped_steps, read_edges, read_steps, split_edges, split_steps, spread_parts, spread_steps, stands, stream_comes, stream_steps, tee_edge, tee_steps, teed_parts, teed_steps, util_parts, util_steps, whole_edge, whole_steps, Tree, Leaf, Join, half_of, tree_of, tree_over, tree_steps, tree_edge, joins_of, finish_steps, finish_edge, fold_steps, fold_parts, mapped_parts, mapped_steps, one_part, folded_steps, folded_edge}
use Rattle.fl_segments.specs.declared.parts.Coming.{Coming}
use Rattle.fl_segments.specs.declared.parts.Coming.TheVariants as coming
use Rattle.fl_segments.specs.declared.parts.Parts.{Parts}
use Rattle.fl_segments.specs.declared.stages.Does.{Does}
use Rattle.fl_segments.specs.declared.stages.Does.TheVariants as does
use Rattle.fl_segments.specs.declared.stages.First.{First}
use Rattle.fl_segments.specs.declared.stages.First.TheVariants as first
use Rattle.fl_segments.specs.declared.stages.In.{In}
use Rattle.fl_segments.specs.declared.stages.In.TheVariants as inlet
use Rattle.fl_segments.specs.declared.stages.Out.{Out}
use Rattle.fl_segments.specs.declared.stages.Out.TheVariants as out
use Rattle.fl_segments.specs.declared.stages.Stage.{Stage}
use Rattle.fl_segments.proofs.DrawingLemmas.{AreBelow, behind-append, behind-given, below-append, given, given-append, next-is, taken}
use Rattle.fl_segments.proofs.FitLemmas.{few-streams}
use Rattle.fl_segments.specs.Groups.{is_grouped}
use Rattle.fl_segments.proofs.GroupLemmas.{GoesInGroups, grouped-so, groups-count, groups-joined}
use Rattle.fl_segments.proofs.RowLemmas.{range-append}
use Rattle.fl_graph.specs.Kinds.{has_aggregator}
use Rattle.std.proofs.lemmas.List.{length-take-le, take-append-drop}

-- all these edges have a number below this one
abbrev pub AllBelow : ℕ → List ℕ → Type 0
AllBelow next edges = list_all (λ edge. nat_lt edge next) edges ≡ true

-- the edges that are open before these nodes and behind them: each that they give or that was open is taken by them, or still open
abbrev pub Turns : ℕ → List Step → List ℕ → List ℕ → Type 0
Turns next steps before after = (edge : ℕ) → count edge (taken steps) + count edge after ≡ count edge before + count edge (range_with_len next (given steps))

-- these nodes go over from some open edges to others
pub record Passes (next : ℕ) (steps : List Step) (before after : List ℕ) : Type 0 where
  pub turns : Turns next steps before after
  pub below : AllBelow next before → AreBelow next steps
  pub within : AllBelow next before → AllBelow (behind next steps) after

-- SEVERAL PARTS
pub all-more : (one other : ℕ) → one ≤ other → (edges : List ℕ) → AllBelow one edges → AllBelow other edges
all-more one other less [] all = refl
all-more one other less (edge ∷ edges) all =
    let parts = and_parts (nat_lt edge one) (list_all (λ edge. nat_lt edge one) edges) all in
    let here : edge < one = ltb-true edge one parts.0 in
    and_from (nat_lt edge other) (list_all (λ edge. nat_lt edge other) edges) (lt-ltb edge other (omega (arith, here, less))) (all-more one other less edges parts.1)

pub behind-more : (next : ℕ) (steps : List Step) → next ≤ behind next steps
behind-more next steps = let is = behind-given next steps in omega (arith, is)

pub all-append : (next : ℕ) (one other : List ℕ) → AllBelow next one → AllBelow next other → AllBelow next (one ++ other)
all-append next one other first second =
    list_all-append (λ edge. nat_lt edge next) one other ∙ and_from (list_all (λ edge. nat_lt edge next) one) (list_all (λ edge. nat_lt edge next) other) first second

pub all-parts : (next : ℕ) (one other : List ℕ) → AllBelow next (one ++ other) → AllBelow next one × AllBelow next other
all-parts next one other all = and_parts (list_all (λ edge. nat_lt edge next) one) (list_all (λ edge. nat_lt edge next) other) (sym (list_all-append (λ edge. nat_lt edge next) one other) ∙ all)

-- what two parts take and give
takes-append : (edge : ℕ) (front back : List Step) → count edge (taken (front ++ back)) ≡ count edge (taken front) + count edge (taken back)
takes-append edge front back = ap (count edge) (flat_map-append (λ (it : Step). it.ins) front back) ∙ count-append edge (taken front) (taken back)

gives-append : (edge next : ℕ) (front back : List Step) → count edge (range_with_len next (given (front ++ back))) ≡ count edge (range_with_len next (given front)) + count edge (range_with_len (behind next front) (given back))
gives-append edge next front back =
    ap (λ (size : ℕ). count edge (range_with_len next size)) (given-append front back) ∙ ap (count edge) (sym (range-append next (given front) (given back)))
    ∙ count-append edge (range_with_len next (given front)) (range_with_len (next + given front) (given back))
    ∙ ap (λ (from : ℕ). count edge (range_with_len next (given front)) + count edge (range_with_len from (given back))) (sym (behind-given next front))

-- one part goes on with the edges of the other
pub passes-append : (next : ℕ) (front back : List Step) (one two three : List ℕ) → Passes next front one two → Passes (behind next front) back two three → Passes next (front ++ back) one three
passes-append next front back one two three first second = record {
  turns = λ edge. (let here = first.turns edge in
      let there = second.turns edge in
      let takes = takes-append edge front back in
      let gives = gives-append edge next front back in
      omega (arith, here, there, takes, gives));
  below = λ all. below-append next front back (first.below all) (second.below (first.within all));
  within = λ all. subst (λ (last : ℕ). AllBelow last three) (sym (behind-append next front back)) (second.within (first.within all));
}

-- each part has edges of its own
pub passes-both : (next : ℕ) (front back : List Step) (one two three four : List ℕ) → Passes next front one two → Passes (behind next front) back three four → Passes next (front ++ back) (one ++ three) (two ++ four)
passes-both next front back one two three four first second = record {
  turns = λ edge. (let here = first.turns edge in
      let there = second.turns edge in
      let takes = takes-append edge front back in
      let gives = gives-append edge next front back in
      let before = count-append edge one three in
      let after = count-append edge two four in
      omega (arith, here, there, takes, gives, before, after));
  below = λ all. (let parts = all-parts next one three all in
      below-append next front back (first.below parts.0) (second.below (all-more next (behind next front) (behind-more next front) three parts.1)));
  within = λ all. (let parts = all-parts next one three all in
      let last : behind next (front ++ back) ≡ behind (behind next front) back = behind-append next front back in
      subst (λ (last : ℕ). AllBelow last (two ++ four)) (sym last)
      (all-append (behind (behind next front) back) two four
      (all-more (behind next front) (behind (behind next front) back) (behind-more (behind next front) back) two (first.within parts.0))
      (second.within (all-more next (behind next front) (behind-more next front) three parts.1))));
}

-- ONE NODE, OR NONE
pub passes-none : (next : ℕ) (edges : List ℕ) → Passes next [] edges edges
passes-none next edges = record { turns = λ edge. (omega arith); below = λ all. tt; within = λ all. all }

pub below-one : (edge next : ℕ) → edge < next → AllBelow next (edge ∷ [])
below-one edge next less = and_from (nat_lt edge next) true (lt-ltb edge next less) refl

row-within : (start outs limit : ℕ) → start + outs ≤ limit → AllBelow limit (range_with_len start outs)
row-within start zero limit within = refl
row-within start (suc outs) limit within =
    and_from (nat_lt start limit) (list_all (λ edge. nat_lt edge limit) (range_with_len (start + 1) outs)) (lt-ltb start limit (omega (arith, within)))
    (row-within (start + 1) outs limit (omega (arith, within)))

-- it takes its edges, and gives the next ones
pub passes-step : (next : ℕ) (it : Step) → Passes next (it ∷ []) it.ins (range_with_len next it.outs)
passes-step next it = record {
  turns = λ edge. (let takes : count edge (taken (it ∷ [])) ≡ count edge it.ins = ap (count edge) (append-nil it.ins) in
      let all : it.outs + 0 ≡ it.outs = omega arith in
      let gives : count edge (range_with_len next (given (it ∷ []))) ≡ count edge (range_with_len next it.outs) = ap (λ (size : ℕ). count edge (range_with_len next size)) all in
      omega (arith, takes, gives));
  below = λ all. (all, tt);
  within = λ all. subst (λ (last : ℕ). AllBelow last (range_with_len next it.outs)) (sym (next-is it.outs next)) (row-within next it.outs (next + it.outs) (omega arith));
}

pub passes-gives : (next : ℕ) (it : Step) → it.outs ≡ 1 → Passes next (it ∷ []) it.ins (next ∷ [])
passes-gives next it is = subst (λ (outs : ℕ). Passes next (it ∷ []) it.ins (range_with_len next outs)) is (passes-step next it)

pub passes-ends : (next : ℕ) (it : Step) → it.outs ≡ 0 → Passes next (it ∷ []) it.ins []
passes-ends next it is = subst (λ (outs : ℕ). Passes next (it ∷ []) it.ins (range_with_len next outs)) is (passes-step next it)

-- THE INPUTS
-- the edges on which a stream comes
abbrev pub open_coming : Coming → List ℕ
open_coming (coming.Begins begin) = []
open_coming (coming.On parts) = parts.edges
open_coming coming.Nothing = []

-- those that inputs take of it
abbrev pub open_in : Coming → In → List ℕ
open_in comes inlet.Stream = open_coming comes
open_in comes (inlet.File path closed) = []
open_in comes inlet.Empty = []

abbrev pub open_ins : Coming → List In → List ℕ
open_ins comes ins = flat_map (open_in comes) ins

pub input-passes : (number : ℕ) (comes : Coming) (it : In) (next : ℕ) → Passes next (input_steps number (kind_in comes it)) (open_in comes it) (input_edges comes it next)
input-passes number (coming.Begins begin) inlet.Stream next = by_first begin.now
  where
    by_first : (begin : First) → Passes next (step (kind_first begin) [] number ∷ []) [] (next ∷ [])
    by_first first.Input = passes-gives next (step (kind.Source from.Input) [] number) refl
    by_first (first.Text text) = passes-gives next (step (kind.Text text) [] number) refl
input-passes number (coming.On parts) inlet.Stream next = passes-none next parts.edges
input-passes number coming.Nothing inlet.Stream next = passes-gives next (step (kind.Text []) [] number) refl
input-passes number comes (inlet.File path closed) next = passes-gives next (step (kind.Source (from.File path)) [] number) refl
input-passes number comes inlet.Empty next = passes-gives next (step (kind.Text []) [] number) refl

in-passes : (number : ℕ) (comes : Coming) (ins : List In) (next : ℕ) → Passes next (in_steps number comes ins) (open_ins comes ins) (in_edges number comes ins next)
in-passes number comes [] next = passes-none next []
in-passes number comes (it ∷ ins) next =
    let here : List Step = input_steps number (kind_in comes it) in
    passes-both next here (in_steps number comes ins) (open_in comes it) (input_edges comes it next) (open_ins comes ins) (in_edges number comes ins (behind next here))
    (input-passes number comes it next) (in-passes number comes ins (behind next here))

-- a stage that reads its stream does so once
none-opens : (comes : Coming) (ins : List In) → list_any is_stream ins ≡ false → open_ins comes ins ≡ []
none-opens comes [] none = refl
none-opens comes (inlet.Stream ∷ ins) none = absurd (true≢false none)
none-opens comes (inlet.File path closed ∷ ins) none = none-opens comes ins none
none-opens comes (inlet.Empty ∷ ins) none = none-opens comes ins none

none-counted : (ins : List In) → count_by is_stream ins ≤ 0 → list_any is_stream ins ≡ false
none-counted [] few = refl
none-counted (inlet.Stream ∷ ins) few =
    let all : count_by is_stream (inlet.Stream ∷ ins) ≡ 1 + count_by is_stream ins = sum_by-cons (λ it. if is_stream it then 1 else 0) inlet.Stream ins in absurd (omega (arith, all, few))
none-counted (inlet.File path closed ∷ ins) few =
    let all : count_by is_stream (inlet.File path closed ∷ ins) ≡ 0 + count_by is_stream ins = sum_by-cons (λ it. if is_stream it then 1 else 0) (inlet.File path closed) ins in
    none-counted ins (omega (arith, all, few))
none-counted (inlet.Empty ∷ ins) few =
    let all : count_by is_stream (inlet.Empty ∷ ins) ≡ 0 + count_by is_stream ins = sum_by-cons (λ it. if is_stream it then 1 else 0) inlet.Empty ins in
    none-counted ins (omega (arith, all, few))

one-opens : (comes : Coming) (ins : List In) → count_by is_stream ins ≤ 1 → list_any is_stream ins ≡ true → open_ins comes ins ≡ open_coming comes
one-opens comes [] few some = absurd (true≢false (sym some))
one-opens comes (inlet.Stream ∷ ins) few some =
    let all : count_by is_stream (inlet.Stream ∷ ins) ≡ 1 + count_by is_stream ins = sum_by-cons (λ it. if is_stream it then 1 else 0) inlet.Stream ins in
    ap (λ (rest : List ℕ). open_coming comes ++ rest) (none-opens comes ins (none-counted ins (omega (arith, all, few)))) ∙ append-nil (open_coming comes)
one-opens comes (inlet.File path closed ∷ ins) few some =
    let all : count_by is_stream (inlet.File path closed ∷ ins) ≡ 0 + count_by is_stream ins = sum_by-cons (λ it. if is_stream it then 1 else 0) (inlet.File path closed) ins in
    one-opens comes ins (omega (arith, all, few)) some
one-opens comes (inlet.Empty ∷ ins) few some =
    let all : count_by is_stream (inlet.Empty ∷ ins) ≡ 0 + count_by is_stream ins = sum_by-cons (λ it. if is_stream it then 1 else 0) inlet.Empty ins in
    one-opens comes ins (omega (arith, all, few)) some

each-ended-passes : (number : ℕ) (edges : List ℕ) (next : ℕ) → Passes next (each_ended number edges) edges []
each-ended-passes number [] next = passes-none next []
each-ended-passes number (edge ∷ edges) next =
    passes-both next (step kind.Drain (edge ∷ []) number ∷ []) (each_ended number edges) (edge ∷ []) [] edges []
    (passes-ends next (step kind.Drain (edge ∷ []) number) refl) (each-ended-passes number edges next)

drain-passes : (number : ℕ) (comes : Coming) (ins : List In) (next : ℕ) → count_by is_stream ins ≤ 1 → Passes next (drain_steps number comes (list_any is_stream ins)) (open_coming comes) (open_ins comes ins)
drain-passes number comes ins next few = by_test (list_any is_stream ins) refl
  where
    drained : (comes : Coming) → Passes next (end_steps number comes) (open_coming comes) []
    drained (coming.Begins begin) = passes-none next []
    drained (coming.On parts) = each-ended-passes number parts.edges next
    drained coming.Nothing = passes-none next []

    by_test : (reads : Bool) → list_any is_stream ins ≡ reads → Passes next (if reads then [] else end_steps number comes) (open_coming comes) (open_ins comes ins)
    by_test true is = subst (λ (after : List ℕ). Passes next [] (open_coming comes) after) (sym (one-opens comes ins few is)) (passes-none next (open_coming comes))
    by_test false is = subst (λ (after : List ℕ). Passes next (end_steps number comes) (open_coming comes) after) (sym (none-opens comes ins is)) (drained comes)

-- WHAT JOINS THEM
join-passes : (number : ℕ) (leads : Bool) (inv : Inv) (ins : List In) (edges : List ℕ) (next : ℕ) → Passes next (join_steps number leads inv ins edges) edges (joined_edges leads inv ins edges next)
join-passes number leads inv ins edges next = by_test (is_joined leads inv ins)
  where
    by_test : (joined : Bool) → Passes next (if joined then step (kind.Cat (closes_before inv)) edges number ∷ [] else []) edges (if joined then next ∷ [] else edges)
    by_test true = passes-gives next (step (kind.Cat (closes_before inv)) edges number) refl
    by_test false = passes-none next edges

-- PARTS JOINED
pub whole-passes : (number : ℕ) (edges : List ℕ) (next : ℕ) → 1 ≤ length edges → Passes next (whole_steps number edges) edges (whole_edge edges next ∷ [])
whole-passes number [] next some = absurd (omega (arith, some))
whole-passes number (edge ∷ []) next some = passes-none next (edge ∷ [])
whole-passes number (edge ∷ other ∷ edges) next some =
    let all : List ℕ = edge ∷ other ∷ edges in
    subst (λ (many : Bool). Passes next (if many then step (kind.Cat false) all number ∷ [] else []) all ((if many then next else get_or all 0 next) ∷ []))
    (sym (lt-ltb 1 (length all) (omega arith))) (passes-gives next (step (kind.Cat false) all number) refl)

-- GROUPS OF FILES
pub cats-passes : (number : ℕ) (groups : List (List ℕ)) (next : ℕ) → Passes next (cat_steps number groups) (concat groups) (range_with_len next (length groups))
cats-passes number [] next = passes-none next []
cats-passes number (edges ∷ groups) next =
    passes-both next (step (kind.Cat false) edges number ∷ []) (cat_steps number groups) edges (next ∷ []) (concat groups) (range_with_len (next + 1) (length groups))
    (passes-gives next (step (kind.Cat false) edges number) refl) (cats-passes number groups (next + 1))

pub group-passes : (width number : ℕ) (edges : List ℕ) (next : ℕ) → 1 ≤ width → Passes next (group_steps width number edges) edges (group_parts width next).edges
group-passes width number edges next some =
    let groups : List (List ℕ) = groups_from width edges 0 width in
    subst (λ (before : List ℕ). Passes next (cat_steps number groups) before (range_with_len next width)) (groups-joined width edges some)
    (subst (λ (count : ℕ). Passes next (cat_steps number groups) (concat groups) (range_with_len next count)) (groups-count width edges 0 width) (cats-passes number groups next))

-- A UTILITY THAT IS SPREAD
pub split-passes : (width number : ℕ) (edges : List ℕ) (next : ℕ) → Passes next (split_steps width number edges) edges (split_edges width edges next)
split-passes width number edges next = by_test (stands width edges)
  where
    by_test : (stand : Bool) → Passes next (if stand then [] else split_step edges width number ∷ []) edges (if stand then edges else range_with_len next width)
    by_test true = passes-none next edges
    by_test false = passes-step next (split_step edges width number)

pub split-count : (width : ℕ) (edges : List ℕ) (next : ℕ) → length (split_edges width edges next) ≡ width
split-count width edges next = by_test (stands width edges) refl
  where
    by_test : (stand : Bool) → stands width edges ≡ stand → length (if stand then edges else range_with_len next width) ≡ width
    by_test true is = eqb-true (length edges) width is
    by_test false is = length-range_with_len next width

maps-passes : (number : ℕ) (inv : Inv) (edges : List ℕ) (next : ℕ) → Passes next (map_steps number inv edges) edges (range_with_len next (length edges))
maps-passes number inv [] next = passes-none next []
maps-passes number inv (edge ∷ edges) next =
    passes-both next (step (kind.Map inv) (edge ∷ []) number ∷ []) (map_steps number inv edges) (edge ∷ []) (next ∷ []) edges (range_with_len (next + 1) (length edges))
    (passes-gives next (step (kind.Map inv) (edge ∷ []) number) refl) (maps-passes number inv edges (next + 1))

pub mapped-passes : (width number : ℕ) (inv : Inv) (edges : List ℕ) (cut : Bool) (next : ℕ) → Passes next (mapped_steps width number inv edges next) edges (mapped_parts width number inv edges next cut).edges
mapped-passes width number inv edges cut next =
    let split : List Step = split_steps width number edges in
    let parts : List ℕ = split_edges width edges next in
    let on : ℕ = behind next split in
    passes-append next split (map_steps number inv parts) edges parts (range_with_len on width) (split-passes width number edges next)
    (subst (λ (count : ℕ). Passes on (map_steps number inv parts) parts (range_with_len on count)) (split-count width edges next) (maps-passes number inv parts on))

-- THE TREE OF AGGREGATES
-- the edges that it takes
abbrev pub leaves : Tree → List ℕ
leaves (Leaf edge) = edge ∷ []
leaves (Join one other) = leaves one ++ leaves other

pub tree-behind : (number : ℕ) (inv : Inv) (tree : Tree) (next : ℕ) → behind next (tree_steps number inv tree next) ≡ next + joins_of tree
tree-behind number inv (Leaf edge) next = omega arith
tree-behind number inv (Join one other) next =
    let left : List Step = tree_steps number inv one next in
    let right : List Step = tree_steps number inv other (next + joins_of one) in
    let agg : List Step = step (kind.Agg inv) (tree_edge one next ∷ tree_edge other (next + joins_of one) ∷ []) number ∷ [] in
    let all = behind-append next (left ++ right) agg in
    let both = behind-append next left right in
    let last = ap (λ (from : ℕ). behind from right) (tree-behind number inv one next) ∙ tree-behind number inv other (next + joins_of one) in
    omega (arith, all, both, last)

pub tree-passes : (number : ℕ) (inv : Inv) (tree : Tree) (next : ℕ) → Passes next (tree_steps number inv tree next) (leaves tree) (tree_edge tree next ∷ [])
tree-passes number inv (Leaf edge) next = passes-none next (edge ∷ [])
tree-passes number inv (Join one other) next =
    let on : ℕ = next + joins_of one in
    let last : ℕ = next + joins_of one + joins_of other in
    let left : List Step = tree_steps number inv one next in
    let right : List Step = tree_steps number inv other on in
    let ins : List ℕ = tree_edge one next ∷ tree_edge other on ∷ [] in
    let agg : List Step = step (kind.Agg inv) ins number ∷ [] in
    let there : behind next (left ++ right) ≡ last =
    behind-append next left right ∙ ap (λ (from : ℕ). behind from right) (tree-behind number inv one next) ∙ tree-behind number inv other on in
    passes-append next (left ++ right) agg (leaves one ++ leaves other) ins (last ∷ [])
    (passes-both next left right (leaves one) (tree_edge one next ∷ []) (leaves other) (tree_edge other on ∷ []) (tree-passes number inv one next)
    (subst (λ (from : ℕ). Passes from right (leaves other) (tree_edge other on ∷ [])) (sym (tree-behind number inv one next)) (tree-passes number inv other on)))
    (subst (λ (from : ℕ). Passes from agg ins (last ∷ [])) (sym there) (passes-gives last (step (kind.Agg inv) ins number) refl))

-- it takes these edges, in order
pub leaves-are : (levels : ℕ) (edges : List ℕ) → 1 ≤ length edges → length edges ≤ levels + 1 → leaves (tree_of levels edges) ≡ edges
leaves-are levels [] some most = absurd (omega (arith, some))
leaves-are zero (edge ∷ []) some most = refl
leaves-are zero (edge ∷ other ∷ edges) some most = absurd (omega (arith, most))
leaves-are (suc levels) (edge ∷ []) some most = refl
leaves-are (suc levels) (edge ∷ other ∷ edges) some most =
    let all : List ℕ = edge ∷ other ∷ edges in
    let half : ℕ = half_of (length all) in
    let front : length (take half all) ≡ half = length-take-le half all (omega arith) in
    let back : length (drop half all) ≡ length all - half = length-drop half all in
    ap (λ (many : Bool). leaves (if many then Join (tree_of levels (take half all)) (tree_of levels (drop half all)) else Leaf edge)) (lt-ltb 1 (length all) (omega arith))
    ∙ ap (λ (first : List ℕ). first ++ leaves (tree_of levels (drop half all))) (leaves-are levels (take half all) (omega (arith, front)) (omega (arith, front, most)))
    ∙ ap (λ (rest : List ℕ). take half all ++ rest) (leaves-are levels (drop half all) (omega (arith, back)) (omega (arith, back, most)))
    ∙ take-append-drop half all

-- so it has an aggregate less
pub tree-joins : (levels : ℕ) (edges : List ℕ) → 1 ≤ length edges → length edges ≤ levels + 1 → joins_of (tree_of levels edges) + 1 ≡ length edges
tree-joins levels [] some most = absurd (omega (arith, some))
tree-joins zero (edge ∷ []) some most = omega arith
tree-joins zero (edge ∷ other ∷ edges) some most = absurd (omega (arith, most))
tree-joins (suc levels) (edge ∷ []) some most = omega arith
tree-joins (suc levels) (edge ∷ other ∷ edges) some most =
    let all : List ℕ = edge ∷ other ∷ edges in
    let half : ℕ = half_of (length all) in
    let front : length (take half all) ≡ half = length-take-le half all (omega arith) in
    let back : length (drop half all) ≡ length all - half = length-drop half all in
    let is : joins_of (tree_of (suc levels) all) ≡ joins_of (tree_of levels (take half all)) + joins_of (tree_of levels (drop half all)) + 1 =
    ap (λ (many : Bool). joins_of (if many then Join (tree_of levels (take half all)) (tree_of levels (drop half all)) else Leaf edge)) (lt-ltb 1 (length all) (omega arith)) in
    let one = tree-joins levels (take half all) (omega (arith, front)) (omega (arith, front, most)) in
    let two = tree-joins levels (drop half all) (omega (arith, back)) (omega (arith, back, most)) in
    omega (arith, is, one, two, front, back)

-- two trees over the same edges are one, where both have levels enough
few-ltb : (size : ℕ) → size ≤ 1 → nat_lt 1 size ≡ false
few-ltb size few = by_test (nat_lt 1 size) refl
  where
    by_test : (many : Bool) → nat_lt 1 size ≡ many → many ≡ false
    by_test true is = let more = ltb-true 1 size is in absurd (omega (arith, few, more))
    by_test false is = refl

tree-few : (levels : ℕ) (edges : List ℕ) → length edges ≤ 1 → tree_of levels edges ≡ Leaf (get_or edges 0 0)
tree-few zero edges few = refl
tree-few (suc levels) edges few =
    ap (λ (many : Bool). if many then Join (tree_of levels (take (half_of (length edges)) edges)) (tree_of levels (drop (half_of (length edges)) edges)) else Leaf (get_or edges 0 0)) (few-ltb (length edges) few)

tree-level : (one other : ℕ) (edges : List ℕ) → length edges ≤ one + 1 → length edges ≤ other + 1 → tree_of one edges ≡ tree_of other edges
tree-level zero other edges first second = sym (tree-few other edges (omega (arith, first)))
tree-level (suc one) zero edges first second = tree-few (suc one) edges (omega (arith, second))
tree-level (suc one) (suc other) edges first second =
    let half : ℕ = half_of (length edges) in
    let front : length (take half edges) ≡ half = length-take-le half edges (omega arith) in
    let back : length (drop half edges) ≡ length edges - half = length-drop half edges in
    by_test (nat_lt 1 (length edges)) refl
    (λ many. tree-level one other (take half edges) (omega (arith, front, many, first)) (omega (arith, front, many, second)))
    (λ many. tree-level one other (drop half edges) (omega (arith, back, many, first)) (omega (arith, back, many, second)))
  where
    by_test : (many : Bool) → nat_lt 1 (length edges) ≡ many
        → (1 < length edges → tree_of one (take (half_of (length edges)) edges) ≡ tree_of other (take (half_of (length edges)) edges))
        → (1 < length edges → tree_of one (drop (half_of (length edges)) edges) ≡ tree_of other (drop (half_of (length edges)) edges))
        → (if many then Join (tree_of one (take (half_of (length edges)) edges)) (tree_of one (drop (half_of (length edges)) edges)) else Leaf (get_or edges 0 0))
        ≡ (if many then Join (tree_of other (take (half_of (length edges)) edges)) (tree_of other (drop (half_of (length edges)) edges)) else Leaf (get_or edges 0 0))
    by_test true is left right =
        let more : 1 < length edges = ltb-true 1 (length edges) is in
        ap (λ (tree : Tree). Join tree (tree_of one (drop (half_of (length edges)) edges))) (left more)
        ∙ ap (λ (tree : Tree). Join (tree_of other (take (half_of (length edges)) edges)) tree) (right more)
    by_test false is left right = refl

pub over-few : (edges : List ℕ) → length edges ≤ 1 → tree_over edges ≡ Leaf (get_or edges 0 0)
over-few edges few = tree-few (length edges) edges few

pub over-halves : (edges : List ℕ) → 2 ≤ length edges → tree_over edges ≡ Join (tree_over (take (half_of (length edges)) edges)) (tree_over (drop (half_of (length edges)) edges))
over-halves [] many = absurd (omega (arith, many))
over-halves (edge ∷ []) many = absurd (omega (arith, many))
over-halves (edge ∷ other ∷ edges) many =
    let all : List ℕ = edge ∷ other ∷ edges in
    let half : ℕ = half_of (length all) in
    let levels : ℕ = suc (length edges) in
    let front : length (take half all) ≡ half = length-take-le half all (omega arith) in
    let back : length (drop half all) ≡ length all - half = length-drop half all in
    ap (λ (many : Bool). if many then Join (tree_of levels (take half all)) (tree_of levels (drop half all)) else Leaf edge) (lt-ltb 1 (length all) (omega arith))
    ∙ ap (λ (tree : Tree). Join tree (tree_of levels (drop half all))) (tree-level levels (length (take half all)) (take half all) (omega (arith, front)) (omega arith))
    ∙ ap (λ (tree : Tree). Join (tree_over (take half all)) tree) (tree-level levels (length (drop half all)) (drop half all) (omega (arith, back)) (omega arith))

finish-passes : (number : ℕ) (inv : Inv) (edge next : ℕ) → Passes next (finish_steps number inv edge) (edge ∷ []) (finish_edge inv edge next ∷ [])
finish-passes number inv edge next = by_test (has_finish inv)
  where
    by_test : (finishes : Bool) → Passes next (if finishes then step (kind.Finish inv) (edge ∷ []) number ∷ [] else []) (edge ∷ []) ((if finishes then next else edge) ∷ [])
    by_test true = passes-gives next (step (kind.Finish inv) (edge ∷ []) number) refl
    by_test false = passes-none next (edge ∷ [])

fold-passes : (number : ℕ) (inv : Inv) (parts : Parts) (next : ℕ) → 1 ≤ length parts.edges → Passes next (fold_steps number inv parts.edges next) parts.edges (fold_parts number inv parts next).edges
fold-passes number inv parts next some = by_test (has_aggregator (class_of inv))
  where
    by_test : (folds : Bool)
        → Passes next (if folds then folded_steps number inv parts.edges next else []) parts.edges
        ((if folds then one_part (folded_edge number inv parts.edges next) else parts).edges)
    by_test true =
        let tree : Tree = tree_of (length parts.edges) parts.edges in
        let edge : ℕ = tree_edge tree next in
        let steps : List Step = tree_steps number inv tree next in
        passes-append next steps (finish_steps number inv edge) parts.edges (edge ∷ []) (finish_edge inv edge (behind next steps) ∷ [])
        (subst (λ (edges : List ℕ). Passes next steps edges (edge ∷ [])) (leaves-are (length parts.edges) parts.edges some (omega arith)) (tree-passes number inv tree next))
        (finish-passes number inv edge (behind next steps))
    by_test false = passes-none next parts.edges

-- a part at least
pub mapped-some : (width number : ℕ) (inv : Inv) (edges : List ℕ) (cut : Bool) (next : ℕ) → 1 ≤ width → 1 ≤ length (mapped_parts width number inv edges next cut).edges
mapped-some width number inv edges cut next some = let size = length-range_with_len (behind next (split_steps width number edges)) width in omega (arith, size, some)

fold-some : (number : ℕ) (inv : Inv) (parts : Parts) (next : ℕ) → 1 ≤ length parts.edges → 1 ≤ length (fold_parts number inv parts next).edges
fold-some number inv parts next some = by_test (has_aggregator (class_of inv))
  where
    by_test : (folds : Bool) → 1 ≤ length ((if folds then one_part (folded_edge number inv parts.edges next) else parts).edges)
    by_test true = omega arith
    by_test false = some

spread-passes : (width number : ℕ) (inv : Inv) (parts : Parts) (next : ℕ) → 1 ≤ width → Passes next (spread_steps width number inv parts.edges next) parts.edges (spread_parts width number inv parts next).edges
spread-passes width number inv parts next some =
    let mapped : List Step = mapped_steps width number inv parts.edges next in
    let maps : Parts = mapped_parts width number inv parts.edges next parts.cut in
    let on : ℕ = behind next mapped in
    passes-append next mapped (fold_steps number inv maps.edges on) parts.edges maps.edges (fold_parts number inv maps on).edges
    (mapped-passes width number inv parts.edges parts.cut next) (fold-passes number inv maps on (mapped-some width number inv parts.edges parts.cut next some))

-- a width of two at least, and one input
pub spread-wide : (width : ℕ) (inv : Inv) → is_spread width inv ≡ true → nat_le 2 width ≡ true
spread-wide width inv is = (and_parts (nat_le 2 width) ((inputs_of inv == 1) && may_spread (class_of inv)) is).0

pub spread-one : (width : ℕ) (inv : Inv) → is_spread width inv ≡ true → inputs_of inv ≡ 1
spread-one width inv is =
    eqb-true (inputs_of inv) 1 (and_parts (inputs_of inv == 1) (may_spread (class_of inv)) (and_parts (nat_le 2 width) ((inputs_of inv == 1) && may_spread (class_of inv)) is).1).0

pub spread-class : (width : ℕ) (inv : Inv) → is_spread width inv ≡ true → may_spread (class_of inv) ≡ true
spread-class width inv is =
    (and_parts (inputs_of inv == 1) (may_spread (class_of inv)) (and_parts (nat_le 2 width) ((inputs_of inv == 1) && may_spread (class_of inv)) is).1).1

-- THE UTILITY
util-passes : (width number : ℕ) (leads : Bool) (inv : Inv) (parts : Parts) (next : ℕ) → Passes next (util_steps width number leads inv parts.edges next) parts.edges (util_parts width number leads inv parts next).edges
util-passes width number leads inv parts next = by_test (is_leading_cat leads inv) (is_spread width inv) refl
  where
    by_edges : (edges : List ℕ) → Passes next (if is_none edges then step (kind.Text []) [] number ∷ [] else []) edges (if is_none edges then next ∷ [] else edges)
    by_edges [] = passes-gives next (step (kind.Text []) [] number) refl
    by_edges (edge ∷ edges) = passes-none next (edge ∷ edges)

    by_test : (cat spread : Bool) → is_spread width inv ≡ spread
        → Passes next (if cat then (if is_none parts.edges then step (kind.Text []) [] number ∷ [] else []) else if spread then spread_steps width number inv parts.edges next else step (kind.Whole inv) parts.edges number ∷ [])
        parts.edges ((if cat then parts_on (if is_none parts.edges then next ∷ [] else parts.edges) false else if spread then spread_parts width number inv parts next else parts_on (next ∷ []) false).edges)
    by_test true spread is = by_edges parts.edges
    by_test false true is = let wide = leb-true 2 width (spread-wide width inv is) in spread-passes width number inv parts next (omega (arith, wide))
    by_test false false is = passes-gives next (step (kind.Whole inv) parts.edges number) refl

-- it has a part
util-some : (width number : ℕ) (leads : Bool) (inv : Inv) (parts : Parts) (next : ℕ) → 1 ≤ length (util_parts width number leads inv parts next).edges
util-some width number leads inv parts next = by_test (is_leading_cat leads inv) (is_spread width inv) refl
  where
    by_edges : (edges : List ℕ) → 1 ≤ length (if is_none edges then next ∷ [] else edges)
    by_edges [] = omega arith
    by_edges (edge ∷ edges) = omega arith

    by_test : (cat spread : Bool) → is_spread width inv ≡ spread
        → 1 ≤ length ((if cat then parts_on (if is_none parts.edges then next ∷ [] else parts.edges) false else if spread then spread_parts width number inv parts next else parts_on (next ∷ []) false).edges)
    by_test true spread is = by_edges parts.edges
    by_test false true is =
        let wide = leb-true 2 width (spread-wide width inv is) in
        fold-some number inv (mapped_parts width number inv parts.edges next parts.cut) (behind next (mapped_steps width number inv parts.edges next)) (mapped-some width number inv parts.edges parts.cut next (omega (arith, wide)))
    by_test false false is = omega arith

-- THE FILES OF TEE
pub tee-passes : (number : ℕ) (mode : Mode) (paths : List Components) (edge next : ℕ) → Passes next (tee_steps number mode paths edge next) (edge ∷ []) (tee_edge paths edge next ∷ [])
tee-passes number mode [] edge next = passes-none next (edge ∷ [])
tee-passes number mode (path ∷ paths) edge next =
    passes-append next (step (kind.TeeFile path mode) (edge ∷ []) number ∷ []) (tee_steps number mode paths next (next + 1)) (edge ∷ []) (next ∷ []) (tee_edge paths next (next + 1) ∷ [])
    (passes-gives next (step (kind.TeeFile path mode) (edge ∷ []) number) refl) (tee-passes number mode paths next (next + 1))

teed-passes : (number : ℕ) (mode : Mode) (paths : List Components) (parts : Parts) (next : ℕ) → 1 ≤ length parts.edges
    → Passes next (teed_steps number mode paths parts.edges next) parts.edges (teed_parts number paths parts next).edges
teed-passes number mode [] parts next some = passes-none next parts.edges
teed-passes number mode (path ∷ paths) parts next some =
    let edge : ℕ = whole_edge parts.edges next in
    let on : ℕ = behind next (whole_steps number parts.edges) in
    passes-append next (whole_steps number parts.edges) (tee_steps number mode (path ∷ paths) edge on) parts.edges (edge ∷ []) (tee_edge (path ∷ paths) edge on ∷ []) (whole-passes number parts.edges next some)
    (tee-passes number mode (path ∷ paths) edge on)

pub files-passes : (number : ℕ) (it : Does) (paths : List Components) (parts : Parts) (next : ℕ) → 1 ≤ length parts.edges
    → Passes next (files_steps number it paths parts.edges next) parts.edges (files_parts number it paths parts next).edges
files-passes number does.Skip paths parts next some = passes-none next parts.edges
files-passes number (does.Util inv) paths parts next some = teed-passes number (tee_mode inv) paths parts next some

pub files-some : (number : ℕ) (it : Does) (paths : List Components) (parts : Parts) (next : ℕ) → 1 ≤ length parts.edges → 1 ≤ length (files_parts number it paths parts next).edges
files-some number does.Skip paths parts next some = some
files-some number (does.Util inv) [] parts next some = some
files-some number (does.Util inv) (path ∷ paths) parts next some = omega arith

-- WHAT COMES FIRST
first-passes : (number : ℕ) (it : Does) (text : List ℕ) (parts : Parts) (next : ℕ) → 1 ≤ length parts.edges
    → Passes next (first_steps number it text parts.edges) parts.edges (first_parts number it text parts next).edges
first-passes number does.Skip text parts next some = passes-none next parts.edges
first-passes number (does.Util inv) text parts next some = by_test (is_empty text)
  where
    wholes : List Step
    wholes = whole_steps number parts.edges

    by_test : (none : Bool)
        → Passes next (if none then [] else whole_steps number parts.edges ++ step (kind.Text text) [] number ∷ []) parts.edges
        ((if none then parts else parts_on (behind next (whole_steps number parts.edges) ∷ whole_edge parts.edges next ∷ []) false).edges)
    by_test true = passes-none next parts.edges
    by_test false =
        let edge : ℕ = whole_edge parts.edges next in
        let on : ℕ = behind next (whole_steps number parts.edges) in
        passes-append next (whole_steps number parts.edges) (step (kind.Text text) [] number ∷ []) parts.edges (edge ∷ []) (on ∷ edge ∷ []) (whole-passes number parts.edges next some)
        (passes-both on (step (kind.Text text) [] number ∷ []) [] [] (on ∷ []) (edge ∷ []) (edge ∷ []) (passes-gives on (step (kind.Text text) [] number) refl) (passes-none (on + 1) (edge ∷ [])))

first-some : (number : ℕ) (it : Does) (text : List ℕ) (parts : Parts) (next : ℕ) → 1 ≤ length parts.edges → 1 ≤ length (first_parts number it text parts next).edges
first-some number does.Skip text parts next some = some
first-some number (does.Util inv) text parts next some = by_test (is_empty text)
  where
    by_test : (none : Bool) → 1 ≤ length ((if none then parts else parts_on (behind next (whole_steps number parts.edges) ∷ whole_edge parts.edges next ∷ []) false).edges)
    by_test true = some
    by_test false = omega arith

-- BOTH
beside-passes : (number : ℕ) (it : Does) (paths : List Components) (text : List ℕ) (parts : Parts) (next : ℕ) → 1 ≤ length parts.edges
    → Passes next (beside_steps number it paths text parts next) parts.edges (beside_parts number it paths text parts next).edges
beside-passes number it paths text parts next some =
    let teed : List Step = files_steps number it paths parts.edges next in
    let on : Parts = files_parts number it paths parts next in
    passes-append next teed (first_steps number it text on.edges) parts.edges on.edges (beside_parts number it paths text parts next).edges (files-passes number it paths parts next some)
    (first-passes number it text on (behind next teed) (files-some number it paths parts next some))

beside-some : (number : ℕ) (it : Does) (paths : List Components) (text : List ℕ) (parts : Parts) (next : ℕ) → 1 ≤ length parts.edges → 1 ≤ length (beside_parts number it paths text parts next).edges
beside-some number it paths text parts next some =
    first-some number it text (files_parts number it paths parts next) (behind next (files_steps number it paths parts.edges next)) (files-some number it paths parts next some)

-- WHERE THE OUTPUT GOES
piped-passes : (number : ℕ) (piped : List ℕ) (next : ℕ) → Passes next (piped_steps number piped next) [] []
piped-passes number piped next = by_test (is_empty piped)
  where
    by_test : (none : Bool) → Passes next (if none then [] else step (kind.Text piped) [] number ∷ step (kind.Sink to.Output) (next ∷ []) number ∷ []) [] []
    by_test true = passes-none next []
    by_test false =
        passes-append next (step (kind.Text piped) [] number ∷ []) (step (kind.Sink to.Output) (next ∷ []) number ∷ []) [] (next ∷ []) []
        (passes-gives next (step (kind.Text piped) [] number) refl) (passes-ends (next + 1) (step (kind.Sink to.Output) (next ∷ []) number) refl)

out-passes : (number : ℕ) (it : Out) (piped : List ℕ) (edge next : ℕ) → Passes next (out_steps number it piped edge next) (edge ∷ []) []
out-passes number out.Next piped edge next = passes-ends next (step (kind.Sink to.Output) (edge ∷ []) number) refl
out-passes number (out.File path mode) piped edge next =
    passes-append next (step (kind.Sink (to.File path mode)) (edge ∷ []) number ∷ []) (piped_steps number piped next) (edge ∷ []) [] []
    (passes-ends next (step (kind.Sink (to.File path mode)) (edge ∷ []) number) refl) (piped-passes number piped next)
out-passes number out.Null piped edge next =
    passes-append next (step kind.Drain (edge ∷ []) number ∷ []) (piped_steps number piped next) (edge ∷ []) [] []
    (passes-ends next (step kind.Drain (edge ∷ []) number) refl) (piped-passes number piped next)

stream-passes : (number : ℕ) (piped : List ℕ) (reads : Bool) (next : ℕ) → Passes next (stream_steps number piped reads) [] (open_coming (stream_comes reads next))
stream-passes number piped true next = passes-gives next (step (kind.Text piped) [] number) refl
stream-passes number piped false next = passes-none next []

on-passes : (number : ℕ) (it : Out) (piped : List ℕ) (reads : Bool) (edge next : ℕ) → Passes next (on_steps number it piped reads edge) (edge ∷ []) (open_coming (comes_on it reads edge next))
on-passes number out.Next piped reads edge next = passes-none next (edge ∷ [])
on-passes number (out.File path mode) piped reads edge next =
    passes-append next (step (kind.Sink (to.File path mode)) (edge ∷ []) number ∷ []) (stream_steps number piped reads) (edge ∷ []) [] (open_coming (stream_comes reads next))
    (passes-ends next (step (kind.Sink (to.File path mode)) (edge ∷ []) number) refl) (stream-passes number piped reads next)
on-passes number out.Null piped reads edge next =
    passes-append next (step kind.Drain (edge ∷ []) number ∷ []) (stream_steps number piped reads) (edge ∷ []) [] (open_coming (stream_comes reads next))
    (passes-ends next (step kind.Drain (edge ∷ []) number) refl) (stream-passes number piped reads next)

-- A STAGE
-- the end of a stream gives no edge
pub drain-behind : (number : ℕ) (comes : Coming) (reads : Bool) (next : ℕ) → behind next (drain_steps number comes reads) ≡ next
drain-behind number comes true next = refl
drain-behind number (coming.Begins begin) false next = refl
drain-behind number (coming.On parts) false next = each-behind parts.edges
  where
    each-behind : (edges : List ℕ) → behind next (each_ended number edges) ≡ next
    each-behind [] = refl
    each-behind (edge ∷ edges) = each-behind edges
drain-behind number coming.Nothing false next = refl

module _ (width number : ℕ) (comes : Coming) (stage : Stage) (next : ℕ) (few : count_by is_stream (ins_of stage) ≤ 1) where
  read-passes : (from : ℕ) (it : Does) (ins : List In) → Passes from (read_steps number comes it ins from) (open_ins comes (ins_read it ins)) (read_edges number comes it ins from)
  read-passes from does.Skip ins = passes-none from []
  read-passes from (does.Util inv) ins =
      let edges : List ℕ = in_edges number comes ins from in
      let inputs : List Step = in_steps number comes ins in
      passes-append from inputs (join_steps number (begins comes) inv ins edges) (open_ins comes ins) edges (joined_edges (begins comes) inv ins edges (behind from inputs))
      (in-passes number comes ins from) (join-passes number (begins comes) inv ins edges (behind from inputs))

  pub front-passes : Passes next (front_steps number comes stage next) (open_coming comes) (front_edges number comes stage next)
  front-passes =
      let drain : List Step = drain_steps number comes (is_reader stage) in
      passes-append next drain (read_steps number comes stage.does stage.ins next) (open_coming comes) (open_ins comes (ins_of stage)) (front_edges number comes stage next)
      (drain-passes number comes (ins_of stage) next few)
      (subst (λ (from : ℕ). Passes from (read_steps number comes stage.does stage.ins next) (open_ins comes (ins_of stage)) (front_edges number comes stage next)) (sym (drain-behind number comes (is_reader stage) next))
      (read-passes next stage.does stage.ins))

  abbrev taken_parts : Parts
  taken_parts = parts_on (front_edges number comes stage next) (comes_cut comes)

  pub does-some : 1 ≤ length (done_parts width number comes stage next).edges
  does-some = by_test (is_grouped width (begins comes) stage.does stage.ins) refl
    where
      by_does : (it : Does) → 1 ≤ length (does_parts width number (begins comes) it taken_parts (front_next number comes stage next)).edges
      by_does does.Skip = omega arith
      by_does (does.Util inv) = util-some width number (begins comes) inv taken_parts (front_next number comes stage next)

      by_test : (groups : Bool) → is_grouped width (begins comes) stage.does stage.ins ≡ groups
          → 1 ≤ length ((if groups then group_parts width (front_next number comes stage next) else does_parts width number (begins comes) stage.does taken_parts (front_next number comes stage next)).edges)
      by_test true so =
          let it : GoesInGroups width (begins comes) stage.does stage.ins = grouped-so width (begins comes) stage.does stage.ins so in
          let wide = it.wide in
          let size = length-range_with_len (front_next number comes stage next) width in
          omega (arith, size, wide)
      by_test false so = by_does stage.does

  pub main-some : 1 ≤ length (main_parts width number comes stage next).edges
  main-some = beside-some number stage.does stage.tees stage.first (done_parts width number comes stage next) (done_next width number comes stage next) does-some

  pub does-passes : Passes (front_next number comes stage next) (done_steps width number comes stage next) (front_edges number comes stage next) (done_parts width number comes stage next).edges
  does-passes = by_test (is_grouped width (begins comes) stage.does stage.ins) refl
    where
      from : ℕ
      from = front_next number comes stage next

      by_does : (it : Does)
          → Passes (front_next number comes stage next) (does_steps width number (begins comes) it stage.first (read_edges number comes it stage.ins next) (front_next number comes stage next)) (read_edges number comes it stage.ins next)
          (does_parts width number (begins comes) it (parts_on (read_edges number comes it stage.ins next) (comes_cut comes)) (front_next number comes stage next)).edges
      by_does does.Skip = passes-gives (front_next number comes stage next) (step (kind.Text stage.first) [] number) refl
      by_does (does.Util inv) =
          util-passes width number (begins comes) inv (parts_on (read_edges number comes (does.Util inv) stage.ins next) (comes_cut comes)) (front_next number comes stage next)

      by_test : (groups : Bool) → is_grouped width (begins comes) stage.does stage.ins ≡ groups
          → Passes (front_next number comes stage next)
          (if groups then group_steps width number (front_edges number comes stage next) else does_steps width number (begins comes) stage.does stage.first (front_edges number comes stage next) (front_next number comes stage next))
          (front_edges number comes stage next)
          ((if groups then group_parts width (front_next number comes stage next) else does_parts width number (begins comes) stage.does taken_parts (front_next number comes stage next)).edges)
      by_test true so =
          let it : GoesInGroups width (begins comes) stage.does stage.ins = grouped-so width (begins comes) stage.does stage.ins so in
          let wide = it.wide in
          group-passes width number (front_edges number comes stage next) (front_next number comes stage next) (omega (arith, wide))
      by_test false so = by_does stage.does

  pub main-passes : Passes next (main_steps width number comes stage next) (open_coming comes) (main_parts width number comes stage next).edges
  main-passes =
      let front : List Step = front_steps number comes stage next in
      let done : List Step = done_steps width number comes stage next in
      let parts : Parts = done_parts width number comes stage next in
      let besides : List Step = beside_steps number stage.does stage.tees stage.first parts (done_next width number comes stage next) in
      passes-append next front (done ++ besides) (open_coming comes) (front_edges number comes stage next) (main_parts width number comes stage next).edges front-passes
      (passes-append (front_next number comes stage next) done besides (front_edges number comes stage next) parts.edges (main_parts width number comes stage next).edges does-passes
      (beside-passes number stage.does stage.tees stage.first parts (done_next width number comes stage next) does-some))

  -- its output on one edge
  pub end-passes : Passes (main_next width number comes stage next) (whole_steps number (main_parts width number comes stage next).edges) (main_parts width number comes stage next).edges (end_edge width number comes stage next ∷ [])
  end-passes = whole-passes number (main_parts width number comes stage next).edges (main_next width number comes stage next) main-some

  pub last-passes : Passes next (last_steps width number comes stage next) (open_coming comes) []
  last-passes =
      let edges : List ℕ = (main_parts width number comes stage next).edges in
      let edge : ℕ = end_edge width number comes stage next in
      let outs : List Step = out_steps number stage.out stage.piped edge (end_next width number comes stage next) in
      passes-append next (main_steps width number comes stage next) (whole_steps number edges ++ outs) (open_coming comes) edges [] main-passes
      (passes-append (main_next width number comes stage next) (whole_steps number edges) outs edges (edge ∷ []) [] end-passes
      (out-passes number stage.out stage.piped edge (end_next width number comes stage next)))

  pub earlier-passes : (following : Stage) → Passes next (earlier_steps width number comes stage next following) (open_coming comes) (open_coming (comes_behind width number comes stage next following))
  earlier-passes following =
      passes-append next (main_steps width number comes stage next) (goes_steps width number comes stage next following) (open_coming comes) (main_parts width number comes stage next).edges
      (open_coming (comes_behind width number comes stage next following)) main-passes (by_test (hands_on width stage.out following (main_parts width number comes stage next)))
    where
      by_test : (hands : Bool)
          → Passes (main_next width number comes stage next)
          (if hands then [] else whole_steps number (main_parts width number comes stage next).edges ++ on_steps number stage.out stage.piped (is_reader following) (end_edge width number comes stage next))
          (main_parts width number comes stage next).edges
          (open_coming (if hands then coming.On (main_parts width number comes stage next) else comes_on stage.out (is_reader following) (end_edge width number comes stage next) (end_next width number comes stage next)))
      by_test true = passes-none (main_next width number comes stage next) (main_parts width number comes stage next).edges
      by_test false =
          let edges : List ℕ = (main_parts width number comes stage next).edges in
          let edge : ℕ = end_edge width number comes stage next in
          passes-append (main_next width number comes stage next) (whole_steps number edges) (on_steps number stage.out stage.piped (is_reader following) edge) edges (edge ∷ [])
          (open_coming (comes_on stage.out (is_reader following) edge (end_next width number comes stage next))) end-passes
          (on-passes number stage.out stage.piped (is_reader following) edge (end_next width number comes stage next))

-- ALL STAGES
pub chain-passes : (width number : ℕ) (comes : Coming) (stage : Stage) (stages : List Stage) (next : ℕ) → list_all is_stage (stage ∷ stages) ≡ true
    → Passes next (chain_steps width number comes (stage ∷ stages) next) (open_coming comes) []
chain-passes width number comes stage [] next all = last-passes width number comes stage next (few-streams stage (and_parts (is_stage stage) true all).0)
chain-passes width number comes stage (following ∷ stages) next all =
    let here : List Step = earlier_steps width number comes stage next following in
    let on : Coming = comes_behind width number comes stage next following in
    let parts = and_parts (is_stage stage) (list_all is_stage (following ∷ stages)) all in
    passes-append next here (chain_steps width (number + 1) on (following ∷ stages) (behind next here)) (open_coming comes) (open_coming on) []
    (earlier-passes width number comes stage next (few-streams stage parts.0) following) (chain-passes width (number + 1) on following stages (behind next here) parts.1)
