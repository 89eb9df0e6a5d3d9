-- What is gathered over the nodes of a segment, by the kind of each and the number of its ins: tests, paths, ends and words.
use Rattle.std.proofs.Common.{◌≡◌, ℕ, zero, suc, ◌+◌, ◌-◌, ◌≤◌, ◌==◌, List, [], ◌∷◌, ◌++◌, ◌⊎◌, inl, inr, Bool, true, false, ◌&&◌, ◌||◌, not, Option, Some, None, if◌then◌else◌, length, nat_lt, replicate, refl, ap, sym, subst, ◌∙◌, append-nil, append_assoc, length-append, arith}
use Rattle.std.specs.List.{list_all, list_any, count_by, filter_map, flat_map, cons_option}
use Rattle.std.proofs.lemmas.Bool.{true≢false, and_from, and_parts, cond-true, eq-eqb, leb-true, lt-ltb, ltb-true, ne_eqb}
use Rattle.std.proofs.lemmas.List.FromFn.{length-range_with_len}
use Rattle.std.proofs.lemmas.List.Sums.{sum_by-cons}
use Rattle.ps_lines.specs.Lines.{is_empty}
use Rattle.ps_world.specs.Paths.{Components}
use Rattle.ps_world.specs.declared.tree.Mode.{Mode}
use Rattle.ut_args.specs.Built.{is_built_of}
use Rattle.ut_args.specs.Inputs.{inputs_of}
use Rattle.ut_args.specs.Invocations.{words_of}
use Rattle.ut_args.specs.declared.invocations.Inv.{Inv}
use Rattle.fl_graph.specs.Kinds.{is_input, is_output, has_aggregator}
use Rattle.fl_graph.specs.Paths.{path_read, path_written}
use Rattle.fl_graph.specs.declared.kinds.NodeKind.{NodeKind}
use Rattle.fl_graph.specs.declared.kinds.NodeKind.TheVariants as kind
use Rattle.fl_graph.specs.declared.kinds.From.{From}
use Rattle.fl_graph.specs.declared.kinds.From.TheVariants as from
use Rattle.fl_graph.specs.declared.kinds.To.{To}
use Rattle.fl_graph.specs.declared.kinds.To.TheVariants as to
use Rattle.fl_graph.proofs.ListLemmas.{and-true}
use Rattle.fl_classes.specs.Used.{is_cat, words_by as words_of_node, words_with}
use Rattle.fl_classes.proofs.ClassLemmas.{or-none}
use Rattle.fl_segments.specs.Chains.{tee_mode}
use Rattle.fl_segments.specs.Stages.{closes_before, file_in, file_out, files_read, files_written, gives_output, goes_on, ins_of, ins_read, is_none, is_reader, is_shell_input, is_spread, is_stage, is_stream, joins_before, read_of, reads_stream, words_at, words_by, has_finish}
use Rattle.fl_segments.specs.Inner.Drawing.{Step, step, split_step, behind}
use Rattle.fl_segments.specs.Inner.Steps.{begins, beside_steps, cat_steps, chain_steps, comes_behind, comes_on, does_steps, done_next, done_parts, done_steps, drain_steps, each_ended, earlier_steps, end_edge, end_next, files_parts, files_steps, first_steps, front_edges, front_next, front_steps, goes_steps, group_steps, groups_from, hands_on, in_edges, in_steps, input_edges, input_steps, is_joined, is_leading_cat, is_next, join_steps, joined_edges, kind_first, kind_in, last_steps, main_parts, main_steps, map_steps, on_steps, out_steps, piped_steps, read_edges, read_steps, split_edges, split_steps, spread_steps, stands, stream_steps, takes_parts, tee_steps, util_steps, whole_edge, whole_steps, Tree, Leaf, Join, finish_steps, fold_steps, joins_of, mapped_parts, tree_edge, tree_of, tree_steps, folded_steps, tree_over}
use Rattle.fl_segments.specs.declared.parts.Coming.{Coming}
use Rattle.fl_segments.specs.declared.parts.Coming.TheVariants as coming
use Rattle.fl_segments.specs.declared.parts.Parts.{Parts}
use Rattle.fl_segments.specs.declared.stages.Does.{Does}
use Rattle.fl_segments.specs.declared.stages.Does.TheVariants as does
use Rattle.fl_segments.specs.declared.stages.First.{First}
use Rattle.fl_segments.specs.declared.stages.First.TheVariants as first
use Rattle.fl_segments.specs.declared.stages.In.{In}
use Rattle.fl_segments.specs.declared.stages.In.TheVariants as inlet
use Rattle.fl_segments.specs.declared.stages.Out.{Out}
use Rattle.fl_segments.specs.declared.stages.Out.TheVariants as out
use Rattle.fl_segments.specs.declared.stages.Stage.{Stage}
use Rattle.fl_segments.proofs.ComingLemmas.{IsSingle, IsTaken, MayBegin, MayCome, goes-may, lone-edges, same-util, taken-of}
use Rattle.fl_segments.proofs.FitLemmas.{Fits, few-streams, parts-of, skips-files}
use Rattle.fl_segments.specs.Groups.{is_grouped}
use Rattle.fl_segments.proofs.GroupLemmas.{GoesInGroups, grouped-so, groups-some, has_some}
use Rattle.fl_segments.proofs.StageLemmas.{split-count, spread-one, spread-wide, tree-joins}
use Rattle.ut_args.specs.Classes.{class_of}

-- HOW MANY EDGES A UTILITY TAKES
input-count : (comes : Coming) (it : In) (next : ℕ) → IsSingle comes → length (input_edges comes it next) ≡ 1
input-count (coming.Begins begin) inlet.Stream next single = refl
input-count (coming.On parts) inlet.Stream next single = single
input-count coming.Nothing inlet.Stream next single = refl
input-count comes (inlet.File path closed) next single = refl
input-count comes inlet.Empty next single = refl

pub edges-count : (number : ℕ) (comes : Coming) (ins : List In) (next : ℕ) → IsSingle comes → length (in_edges number comes ins next) ≡ length ins
edges-count number comes [] next single = refl
edges-count number comes (it ∷ ins) next single =
    let here = input-count comes it next single in
    let rest = edges-count number comes ins (behind next (input_steps number (kind_in comes it))) single in
    let all = length-append (input_edges comes it next) (in_edges number comes ins (behind next (input_steps number (kind_in comes it)))) in
    omega (arith, here, rest, all)

joined-count : (leads : Bool) (inv : Inv) (ins : List In) (edges : List ℕ) (next : ℕ) → is_leading_cat leads inv ≡ false → length edges ≡ length ins
    → length (joined_edges leads inv ins edges next) ≡ read_of inv (length ins)
joined-count leads inv ins edges next cat same =
    ap (λ (cat : Bool). length (if (joins_before inv && (not cat && nat_lt 1 (length ins))) then next ∷ [] else edges)) cat ∙ by_test (joins_before inv) ins same
  where
    by_test : (joins : Bool) (ins : List In) → length edges ≡ length ins → length (if (joins && nat_lt 1 (length ins)) then next ∷ [] else edges) ≡ (if joins then (if length ins == 0 then 0 else 1) else length ins)
    by_test false ins same = same
    by_test true [] same = same
    by_test true (it ∷ []) same = same
    by_test true (it ∷ other ∷ ins) same =
        let many : nat_lt 1 (length (it ∷ other ∷ ins)) ≡ true = lt-ltb 1 (length (it ∷ other ∷ ins)) (omega arith) in
        let some : (length (it ∷ other ∷ ins) == 0) ≡ false = ne_eqb (length (it ∷ other ∷ ins)) 0 (λ same. omega (arith, same)) in
        ap (λ (joined : Bool). length (if joined then next ∷ [] else edges)) many ∙ sym (ap (λ (none : Bool). if none then 0 else 1) some)

-- a cat that goes in groups takes an edge of each file
begins-single : (comes : Coming) → begins comes ≡ true → IsSingle comes
begins-single (coming.Begins begin) leads = tt
begins-single (coming.On parts) leads = absurd (true≢false (sym leads))
begins-single coming.Nothing leads = absurd (true≢false (sym leads))

module _ (width number : ℕ) (comes : Coming) (stage : Stage) (next : ℕ) (so : GoesInGroups width (begins comes) stage.does stage.ins) where
  pub grouped-edges : front_edges number comes stage next ≡ in_edges number comes stage.ins next
  grouped-edges =
      ap (λ (it : Does). read_edges number comes it stage.ins next) so.runs
      ∙ ap (λ (cat : Bool). if (joins_before so.inv && (not cat && nat_lt 1 (length stage.ins))) then behind next (in_steps number comes stage.ins) ∷ [] else in_edges number comes stage.ins next) so.cat
      ∙ by_joins (joins_before so.inv)
    where
      by_joins : (joins : Bool) → (if (joins && false) then behind next (in_steps number comes stage.ins) ∷ [] else in_edges number comes stage.ins next) ≡ in_edges number comes stage.ins next
      by_joins true = refl
      by_joins false = refl

  pub grouped-count : length (front_edges number comes stage next) ≡ length stage.ins
  grouped-count = ap length grouped-edges ∙ edges-count number comes stage.ins next (begins-single comes (and_parts (is_cat so.inv) (begins comes) so.cat).1)

-- so many texts a stage reads
abbrev pub read_count : Does → ℕ → ℕ
read_count does.Skip count = 0
read_count (does.Util inv) count = read_of inv count

-- a utility takes so many edges, or as many as the width
abbrev pub TakesSo : ℕ → Bool → Inv → ℕ → List ℕ → Type 0
TakesSo width leads inv count edges = is_leading_cat leads inv ≡ false → (length edges ≡ count) ⊎ ((is_spread width inv ≡ true) × (length edges ≡ width))

pub front-takes-so : (width number : ℕ) (comes : Coming) (stage : Stage) (next : ℕ) (inv : Inv) → stage.does ≡ does.Util inv → MayCome width comes stage
    → TakesSo width (begins comes) inv (read_of inv (length stage.ins)) (front_edges number comes stage next)
front-takes-so width number comes stage next inv same may cat = by_comes comes refl may
  where
    single_so : IsSingle comes → length (front_edges number comes stage next) ≡ read_of inv (length stage.ins)
    single_so single =
        ap (λ (it : Does). length (read_edges number comes it stage.ins next)) same
        ∙ joined-count (begins comes) inv stage.ins (in_edges number comes stage.ins next) (behind next (in_steps number comes stage.ins)) cat (edges-count number comes stage.ins next single)

    taken_so : (parts : Parts) → comes ≡ coming.On parts → (it : IsTaken width parts stage) → (is_spread width inv ≡ true) × (length (front_edges number comes stage next) ≡ width)
    taken_so parts is it = (
      ap (is_spread width) (sym (same-util it.inv inv (sym it.runs ∙ same))) ∙ it.spread,
      ap (λ (it : Coming). length (front_edges number it stage next)) is ∙ ap length (lone-edges number parts stage next it.inv it.runs it.lone) ∙ it.count,
    )

    by_comes : (it : Coming) → comes ≡ it → MayCome width it stage → (length (front_edges number comes stage next) ≡ read_of inv (length stage.ins)) ⊎ ((is_spread width inv ≡ true) × (length (front_edges number comes stage next) ≡ width))
    by_comes (coming.Begins begin) is may = inl (single_so (subst IsSingle (sym is) tt))
    by_comes (coming.On parts) is (inl one) = inl (single_so (subst IsSingle (sym is) one))
    by_comes (coming.On parts) is (inr takes) = inr (taken_so parts is (taken-of width parts stage takes))
    by_comes coming.Nothing is may = inl (single_so (subst IsSingle (sym is) tt))

-- a later stage isn't the first
begins-none : (it : Out) (reads : Bool) (edge next : ℕ) → begins (comes_on it reads edge next) ≡ false
begins-none out.Next reads edge next = refl
begins-none (out.File path mode) true edge next = refl
begins-none (out.File path mode) false edge next = refl
begins-none out.Null true edge next = refl
begins-none out.Null false edge next = refl

pub begins-behind : (width number : ℕ) (comes : Coming) (stage : Stage) (next : ℕ) (following : Stage) → begins (comes_behind width number comes stage next following) ≡ false
begins-behind width number comes stage next following = by_test (hands_on width stage.out following (main_parts width number comes stage next))
  where
    by_test : (hands : Bool)
        → begins (if hands then coming.On (main_parts width number comes stage next) else comes_on stage.out (is_reader following) (end_edge width number comes stage next) (end_next width number comes stage next)) ≡ false
    by_test true = refl
    by_test false = begins-none stage.out (is_reader following) (end_edge width number comes stage next) (end_next width number comes stage next)

-- WHAT IS GATHERED
module _ {Found : Type 0} (width : ℕ) (none : Found) (both : Found → Found → Found) (value : NodeKind → ℕ → ℕ → Found) where
  abbrev pub gathered : List Step → Found
  gathered [] = none
  gathered (it ∷ steps) = both (value it.kind (length it.ins) it.outs) (gathered steps)

  -- texts, what joins or splits them and what lets them go add nothing
  pub record Gathers : Type 0 where
    pub left : (it : Found) → both none it ≡ it
    pub right : (it : Found) → both it none ≡ it
    pub assoc : (one two three : Found) → both (both one two) three ≡ both one (both two three)
    pub of_text : (text : List ℕ) → value (kind.Text text) 0 1 ≡ none
    pub of_cat : (close : Bool) (count : ℕ) → 1 ≤ count → value (kind.Cat close) count 1 ≡ none
    pub of_drain : value kind.Drain 1 0 ≡ none
    pub of_split : 2 ≤ width → value kind.Split 1 width ≡ none

  -- so many times
  abbrev pub repeated : ℕ → Found → Found
  repeated zero it = none
  repeated (suc count) it = both it (repeated count it)

  -- what a segment adds, stage by stage, where the first one's stream adds this
  abbrev pub first_value : First → Found
  first_value first.Input = value (kind.Source from.Input) 0 1
  first_value (first.Text text) = none

  abbrev pub stream_value : Coming → Found
  stream_value (coming.Begins begin) = first_value begin.now
  stream_value (coming.On parts) = none
  stream_value coming.Nothing = none

  abbrev pub in_value : Found → In → Found
  in_value stream inlet.Stream = stream
  in_value stream (inlet.File path closed) = value (kind.Source (from.File path)) 0 1
  in_value stream inlet.Empty = none

  abbrev pub ins_value : Found → List In → Found
  ins_value stream [] = none
  ins_value stream (it ∷ ins) = both (in_value stream it) (ins_value stream ins)

  -- the aggregates of so many maps, and a finish
  abbrev pub finish_value : Inv → Found
  finish_value inv = if has_finish inv then value (kind.Finish inv) 1 1 else none

  abbrev pub folds_value : Inv → Found
  folds_value inv = both (repeated (width - 1) (value (kind.Agg inv) 2 1)) (finish_value inv)

  abbrev pub util_value : Bool → Does → ℕ → Found
  util_value leads does.Skip count = none
  util_value leads (does.Util inv) count =
      if is_leading_cat leads inv then none
      else if is_spread width inv then both (repeated width (value (kind.Map inv) 1 1)) (if has_aggregator (class_of inv) then folds_value inv else none) else value (kind.Whole inv) count 1

  abbrev pub tees_value : Mode → List Components → Found
  tees_value mode [] = none
  tees_value mode (path ∷ paths) = both (value (kind.TeeFile path mode) 1 1) (tees_value mode paths)

  abbrev pub teed_value : Does → List Components → Found
  teed_value does.Skip paths = none
  teed_value (does.Util inv) paths = tees_value (tee_mode inv) paths

  abbrev pub file_value : Out → Found
  file_value out.Next = none
  file_value (out.File path mode) = value (kind.Sink (to.File path mode)) 1 0
  file_value out.Null = none

  abbrev pub goes_value : Out → List ℕ → Found
  goes_value it piped = if goes_on it piped then value (kind.Sink to.Output) 1 0 else none

  abbrev pub main_value : Found → Bool → Stage → Found
  main_value stream leads stage = both (ins_value stream (ins_of stage)) (both (util_value leads stage.does (read_count stage.does (length stage.ins))) (teed_value stage.does stage.tees))

  abbrev pub chain_value : Found → Bool → List Stage → Found
  chain_value stream leads [] = none
  chain_value stream leads (stage ∷ []) = both (main_value stream leads stage) (both (file_value stage.out) (goes_value stage.out stage.piped))
  chain_value stream leads (stage ∷ following ∷ stages) = both (both (main_value stream leads stage) (file_value stage.out)) (chain_value none false (following ∷ stages))

  module _ (gathers : Gathers) where
    gathered-append : (front back : List Step) → gathered (front ++ back) ≡ both (gathered front) (gathered back)
    gathered-append [] back = sym (gathers.left (gathered back))
    gathered-append (it ∷ front) back =
        ap (both (value it.kind (length it.ins) it.outs)) (gathered-append front back) ∙ sym (gathers.assoc (value it.kind (length it.ins) it.outs) (gathered front) (gathered back))

    text-gathered : (text : List ℕ) (number : ℕ) → gathered (step (kind.Text text) [] number ∷ []) ≡ none
    text-gathered text number = gathers.right (value (kind.Text text) 0 1) ∙ gathers.of_text text

    cat-gathered : (close : Bool) (edges : List ℕ) (number : ℕ) → 1 ≤ length edges → gathered (step (kind.Cat close) edges number ∷ []) ≡ none
    cat-gathered close edges number some = gathers.right (value (kind.Cat close) (length edges) 1) ∙ gathers.of_cat close (length edges) some

    cats-gathered : (number : ℕ) (groups : List (List ℕ)) → list_all has_some groups ≡ true → gathered (cat_steps number groups) ≡ none
    cats-gathered number [] some = refl
    cats-gathered number (edges ∷ groups) some =
        let parts = and_parts (has_some edges) (list_all has_some groups) some in
        ap (λ (here : Found). both here (gathered (cat_steps number groups))) (gathers.of_cat false (length edges) (leb-true 1 (length edges) parts.0))
        ∙ gathers.left (gathered (cat_steps number groups)) ∙ cats-gathered number groups parts.1

    ends-gathered : (number : ℕ) (edges : List ℕ) → gathered (each_ended number edges) ≡ none
    ends-gathered number [] = refl
    ends-gathered number (edge ∷ edges) = ap (λ (here : Found). both here (gathered (each_ended number edges))) gathers.of_drain ∙ gathers.left (gathered (each_ended number edges)) ∙ ends-gathered number edges

    drain-gathered : (number : ℕ) (comes : Coming) (reads : Bool) → gathered (drain_steps number comes reads) ≡ none
    drain-gathered number comes true = refl
    drain-gathered number (coming.Begins begin) false = refl
    drain-gathered number (coming.On parts) false = ends-gathered number parts.edges
    drain-gathered number coming.Nothing false = refl

    input-gathered : (number : ℕ) (comes : Coming) (it : In) → gathered (input_steps number (kind_in comes it)) ≡ in_value (stream_value comes) it
    input-gathered number (coming.Begins begin) inlet.Stream = by_first begin.now
      where
        by_first : (begin : First) → gathered (input_steps number (Some (kind_first begin))) ≡ first_value begin
        by_first first.Input = gathers.right (value (kind.Source from.Input) 0 1)
        by_first (first.Text text) = text-gathered text number
    input-gathered number (coming.On parts) inlet.Stream = refl
    input-gathered number coming.Nothing inlet.Stream = text-gathered [] number
    input-gathered number comes (inlet.File path closed) = gathers.right (value (kind.Source (from.File path)) 0 1)
    input-gathered number comes inlet.Empty = text-gathered [] number

    in-gathered : (number : ℕ) (comes : Coming) (ins : List In) → gathered (in_steps number comes ins) ≡ ins_value (stream_value comes) ins
    in-gathered number comes [] = refl
    in-gathered number comes (it ∷ ins) =
        gathered-append (input_steps number (kind_in comes it)) (in_steps number comes ins)
        ∙ ap (λ (here : Found). both here (gathered (in_steps number comes ins))) (input-gathered number comes it)
        ∙ ap (both (in_value (stream_value comes) it)) (in-gathered number comes ins)

    join-gathered : (number : ℕ) (leads : Bool) (inv : Inv) (ins : List In) (edges : List ℕ) → (2 ≤ length ins → 1 ≤ length edges) → gathered (join_steps number leads inv ins edges) ≡ none
    join-gathered number leads inv ins edges some = by_test (is_joined leads inv ins) refl
      where
        by_test : (joined : Bool) → is_joined leads inv ins ≡ joined → gathered (if joined then step (kind.Cat (closes_before inv)) edges number ∷ [] else []) ≡ none
        by_test true is =
            let many = ltb-true 1 (length ins) (and_parts (not (is_leading_cat leads inv)) (nat_lt 1 (length ins)) (and_parts (joins_before inv) (not (is_leading_cat leads inv) && nat_lt 1 (length ins)) is).1).1 in
            cat-gathered (closes_before inv) edges number (some (omega (arith, many)))
        by_test false is = refl

    -- inputs that are joined are on one edge at least
    joins-some : (number : ℕ) (comes : Coming) (stage : Stage) (next : ℕ) → MayCome width comes stage → 2 ≤ length stage.ins → 1 ≤ length (in_edges number comes stage.ins next)
    joins-some number comes stage next may many = by_comes comes refl may
      where
        single_so : IsSingle comes → 1 ≤ length (in_edges number comes stage.ins next)
        single_so single = let count = edges-count number comes stage.ins next single in omega (arith, count, many)

        by_comes : (it : Coming) → comes ≡ it → MayCome width it stage → 1 ≤ length (in_edges number comes stage.ins next)
        by_comes (coming.Begins begin) is may = single_so (subst IsSingle (sym is) tt)
        by_comes (coming.On parts) is (inl one) = single_so (subst IsSingle (sym is) one)
        by_comes (coming.On parts) is (inr takes) =
            let it : IsTaken width parts stage = taken-of width parts stage takes in
            let one : length stage.ins ≡ 1 = ap length it.lone in
            absurd (omega (arith, one, many))
        by_comes coming.Nothing is may = single_so (subst IsSingle (sym is) tt)

    read-gathered : (number : ℕ) (comes : Coming) (it : Does) (ins : List In) (next : ℕ) → (2 ≤ length ins → 1 ≤ length (in_edges number comes ins next))
        → gathered (read_steps number comes it ins next) ≡ ins_value (stream_value comes) (ins_read it ins)
    read-gathered number comes does.Skip ins next some = refl
    read-gathered number comes (does.Util inv) ins next some =
        let edges : List ℕ = in_edges number comes ins next in
        gathered-append (in_steps number comes ins) (join_steps number (begins comes) inv ins edges)
        ∙ ap (both (gathered (in_steps number comes ins))) (join-gathered number (begins comes) inv ins edges some)
        ∙ gathers.right (gathered (in_steps number comes ins)) ∙ in-gathered number comes ins

    front-gathered : (number : ℕ) (comes : Coming) (stage : Stage) (next : ℕ) → MayCome width comes stage → gathered (front_steps number comes stage next) ≡ ins_value (stream_value comes) (ins_of stage)
    front-gathered number comes stage next may =
        let read : List Step = read_steps number comes stage.does stage.ins next in
        gathered-append (drain_steps number comes (is_reader stage)) read
        ∙ ap (λ (drain : Found). both drain (gathered read)) (drain-gathered number comes (is_reader stage))
        ∙ gathers.left (gathered read) ∙ read-gathered number comes stage.does stage.ins next (joins-some number comes stage next may)

    whole-gathered : (number : ℕ) (edges : List ℕ) → gathered (whole_steps number edges) ≡ none
    whole-gathered number edges = by_test (nat_lt 1 (length edges)) refl
      where
        by_test : (many : Bool) → nat_lt 1 (length edges) ≡ many → gathered (if many then step (kind.Cat false) edges number ∷ [] else []) ≡ none
        by_test true is = cat-gathered false edges number (let many = ltb-true 1 (length edges) is in omega (arith, many))
        by_test false is = refl

    split-gathered : (number : ℕ) (edges : List ℕ) → 2 ≤ width → (stands width edges ≡ false → length edges ≡ 1) → gathered (split_steps width number edges) ≡ none
    split-gathered number edges some one = by_test (stands width edges) refl
      where
        by_test : (stand : Bool) → stands width edges ≡ stand → gathered (if stand then [] else split_step edges width number ∷ []) ≡ none
        by_test true is = refl
        by_test false is = gathers.right (value kind.Split (length edges) width) ∙ ap (λ (count : ℕ). value kind.Split count width) (one is) ∙ gathers.of_split some

    maps-gathered : (number : ℕ) (inv : Inv) (edges : List ℕ) → gathered (map_steps number inv edges) ≡ repeated (length edges) (value (kind.Map inv) 1 1)
    maps-gathered number inv [] = refl
    maps-gathered number inv (edge ∷ edges) = ap (both (value (kind.Map inv) 1 1)) (maps-gathered number inv edges)

    repeated-both : (one other : ℕ) (it : Found) → both (repeated one it) (repeated other it) ≡ repeated (one + other) it
    repeated-both zero other it = let none_is : 0 + other ≡ other = omega arith in gathers.left (repeated other it) ∙ ap (λ (count : ℕ). repeated count it) (sym none_is)
    repeated-both (suc one) other it =
        let more : suc one + other ≡ suc (one + other) = omega arith in
        gathers.assoc it (repeated one it) (repeated other it) ∙ ap (both it) (repeated-both one other it) ∙ ap (λ (count : ℕ). repeated count it) (sym more)

    tree-gathered : (number : ℕ) (inv : Inv) (tree : Tree) (next : ℕ) → gathered (tree_steps number inv tree next) ≡ repeated (joins_of tree) (value (kind.Agg inv) 2 1)
    tree-gathered number inv (Leaf edge) next = refl
    tree-gathered number inv (Join one other) next =
        let left : List Step = tree_steps number inv one next in
        let right : List Step = tree_steps number inv other (next + joins_of one) in
        let agg : Found = value (kind.Agg inv) 2 1 in
        gathered-append (left ++ right) (step (kind.Agg inv) (tree_edge one next ∷ tree_edge other (next + joins_of one) ∷ []) number ∷ [])
        ∙ ap (λ (front : Found). both front (both agg none)) (gathered-append left right ∙ ap (λ (one : Found). both one (gathered right)) (tree-gathered number inv one next)
        ∙ ap (both (repeated (joins_of one) agg)) (tree-gathered number inv other (next + joins_of one)) ∙ repeated-both (joins_of one) (joins_of other) agg)
        ∙ repeated-both (joins_of one + joins_of other) 1 agg

    fold-gathered : (number : ℕ) (inv : Inv) (parts : Parts) (next : ℕ) → length parts.edges ≡ width → 2 ≤ width → gathered (fold_steps number inv parts.edges next) ≡ (if has_aggregator (class_of inv) then folds_value inv else none)
    fold-gathered number inv parts next size wide = by_test (has_aggregator (class_of inv))
      where
        by_finish : (edge : ℕ) (finishes : Bool) → gathered (if finishes then step (kind.Finish inv) (edge ∷ []) number ∷ [] else []) ≡ (if finishes then value (kind.Finish inv) 1 1 else none)
        by_finish edge true = gathers.right (value (kind.Finish inv) 1 1)
        by_finish edge false = refl

        by_test : (folds : Bool)
            → gathered (if folds then folded_steps number inv parts.edges next else []) ≡ (if folds then folds_value inv else none)
        by_test false = refl
        by_test true =
            let tree : Tree = tree_of (length parts.edges) parts.edges in
            let joins : joins_of tree ≡ width - 1 = (let count = tree-joins (length parts.edges) parts.edges (omega (arith, size, wide)) (omega arith) in omega (arith, count, size)) in
            gathered-append (tree_steps number inv tree next) (finish_steps number inv (tree_edge (tree_over parts.edges) next))
            ∙ ap (λ (aggs : Found). both aggs (gathered (finish_steps number inv (tree_edge (tree_over parts.edges) next)))) (tree-gathered number inv tree next ∙ ap (λ (count : ℕ). repeated count (value (kind.Agg inv) 2 1)) joins)
            ∙ ap (both (repeated (width - 1) (value (kind.Agg inv) 2 1))) (by_finish (tree_edge (tree_over parts.edges) next) (has_finish inv))

    util-gathered : (number : ℕ) (leads : Bool) (inv : Inv) (edges : List ℕ) (next count : ℕ) → TakesSo width leads inv count edges → (is_spread width inv ≡ true → count ≡ 1)
        → gathered (util_steps width number leads inv edges next) ≡ util_value leads (does.Util inv) count
    util-gathered number leads inv edges next count takes one = by_test (is_leading_cat leads inv) refl (is_spread width inv) refl
      where
        by_none : (empty : Bool) → gathered (if empty then step (kind.Text []) [] number ∷ [] else []) ≡ none
        by_none true = text-gathered [] number
        by_none false = refl

        single : is_spread width inv ≡ true → (length edges ≡ count) ⊎ ((is_spread width inv ≡ true) × (length edges ≡ width)) → stands width edges ≡ false → length edges ≡ 1
        single spread (inl same) other = same ∙ one spread
        single spread (inr all) other = absurd (true≢false (sym (eq-eqb (length edges) width all.1) ∙ other))

        whole : is_spread width inv ≡ false → (length edges ≡ count) ⊎ ((is_spread width inv ≡ true) × (length edges ≡ width)) → value (kind.Whole inv) (length edges) 1 ≡ value (kind.Whole inv) count 1
        whole other (inl same) = ap (λ (count : ℕ). value (kind.Whole inv) count 1) same
        whole other (inr all) = absurd (true≢false (sym all.0 ∙ other))

        by_test : (cat : Bool) → is_leading_cat leads inv ≡ cat → (spread : Bool) → is_spread width inv ≡ spread
            → gathered (if cat then (if is_none edges then step (kind.Text []) [] number ∷ [] else []) else if spread then spread_steps width number inv edges next else step (kind.Whole inv) edges number ∷ [])
            ≡ (if cat then none else if spread then both (repeated width (value (kind.Map inv) 1 1)) (if has_aggregator (class_of inv) then folds_value inv else none) else value (kind.Whole inv) count 1)
        by_test true cat spread is = by_none (is_none edges)
        by_test false cat true is =
            let split : List Step = split_steps width number edges in
            let maps : List Step = map_steps number inv (split_edges width edges next) in
            let on : ℕ = behind next (split ++ maps) in
            let parts : Parts = mapped_parts width number inv edges next false in
            let wide = leb-true 2 width (spread-wide width inv is) in
            gathered-append (split ++ maps) (fold_steps number inv parts.edges on)
            ∙ ap (λ (here : Found). both here (gathered (fold_steps number inv parts.edges on)))
            (gathered-append split maps
            ∙ ap (λ (here : Found). both here (gathered maps)) (split-gathered number edges wide (single is (takes cat)))
            ∙ gathers.left (gathered maps) ∙ maps-gathered number inv (split_edges width edges next)
            ∙ ap (λ (count : ℕ). repeated count (value (kind.Map inv) 1 1)) (split-count width edges next))
            ∙ ap (both (repeated width (value (kind.Map inv) 1 1))) (fold-gathered number inv parts on (length-range_with_len (behind next split) width) wide)
        by_test false cat false is = gathers.right (value (kind.Whole inv) (length edges) 1) ∙ whole is (takes cat)

    -- where its nodes add nothing
    none-repeated : (it : Found) → it ≡ none → (count : ℕ) → repeated count it ≡ none
    none-repeated it is zero = refl
    none-repeated it is (suc count) = ap (λ (here : Found). both here (repeated count it)) is ∙ gathers.left (repeated count it) ∙ none-repeated it is count

    pub folds-none : (inv : Inv) → value (kind.Agg inv) 2 1 ≡ none → value (kind.Finish inv) 1 1 ≡ none → (if has_aggregator (class_of inv) then folds_value inv else none) ≡ none
    folds-none inv agg finish = by_test (has_aggregator (class_of inv))
      where
        by_finish : (finishes : Bool) → (if finishes then value (kind.Finish inv) 1 1 else none) ≡ none
        by_finish true = finish
        by_finish false = refl

        by_test : (folds : Bool) → (if folds then folds_value inv else none) ≡ none
        by_test true =
            ap (λ (here : Found). both here (finish_value inv)) (none-repeated (value (kind.Agg inv) 2 1) agg (width - 1)) ∙ gathers.left (finish_value inv) ∙ by_finish (has_finish inv)
        by_test false = refl

    pub spread-none : (inv : Inv) → value (kind.Map inv) 1 1 ≡ none → value (kind.Agg inv) 2 1 ≡ none → value (kind.Finish inv) 1 1 ≡ none
        → both (repeated width (value (kind.Map inv) 1 1)) (if has_aggregator (class_of inv) then folds_value inv else none) ≡ none
    spread-none inv map agg finish =
        ap (λ (here : Found). both here (if has_aggregator (class_of inv) then folds_value inv else none)) (none-repeated (value (kind.Map inv) 1 1) map width)
        ∙ gathers.left (if has_aggregator (class_of inv) then folds_value inv else none) ∙ folds-none inv agg finish

    does-gathered : (number : ℕ) (comes : Coming) (stage : Stage) (next : ℕ) → is_stage stage ≡ true → MayCome width comes stage
        → gathered (done_steps width number comes stage next) ≡ util_value (begins comes) stage.does (read_count stage.does (length stage.ins))
    does-gathered number comes stage next is may = by_test (is_grouped width (begins comes) stage.does stage.ins) refl
      where
        by_does : (it : Does) → stage.does ≡ it
            → gathered (does_steps width number (begins comes) it stage.first (front_edges number comes stage next) (front_next number comes stage next)) ≡ util_value (begins comes) it (read_count it (length stage.ins))
        by_does does.Skip same = text-gathered stage.first number
        by_does (does.Util inv) same =
            let fits : Fits inv stage = parts-of stage is inv same in
            util-gathered number (begins comes) inv (front_edges number comes stage next) (front_next number comes stage next) (read_of inv (length stage.ins))
            (front-takes-so width number comes stage next inv same may) (λ spread. sym fits.inputs ∙ spread-one width inv spread)

        by_groups : GoesInGroups width (begins comes) stage.does stage.ins
            → gathered (group_steps width number (front_edges number comes stage next)) ≡ util_value (begins comes) stage.does (read_count stage.does (length stage.ins))
        by_groups so =
            let edges : List ℕ = front_edges number comes stage next in
            let count = grouped-count width number comes stage next so in
            let wide = so.wide in
            let enough = so.enough in
            cats-gathered number (groups_from width edges 0 width) (groups-some width edges (omega (arith, wide)) (omega (arith, count, enough)))
            ∙ sym (ap (λ (it : Does). util_value (begins comes) it (read_count it (length stage.ins))) so.runs ∙ cond-true (is_leading_cat (begins comes) so.inv) none _ so.cat)

        by_test : (groups : Bool) → is_grouped width (begins comes) stage.does stage.ins ≡ groups
            → gathered (if groups then group_steps width number (front_edges number comes stage next) else does_steps width number (begins comes) stage.does stage.first (front_edges number comes stage next) (front_next number comes stage next))
            ≡ util_value (begins comes) stage.does (read_count stage.does (length stage.ins))
        by_test true so = by_groups (grouped-so width (begins comes) stage.does stage.ins so)
        by_test false so = by_does stage.does refl

    first-gathered : (number : ℕ) (it : Does) (text edges : List ℕ) → gathered (first_steps number it text edges) ≡ none
    first-gathered number does.Skip text edges = refl
    first-gathered number (does.Util inv) text edges = by_test (is_empty text)
      where
        by_test : (empty : Bool) → gathered (if empty then [] else whole_steps number edges ++ step (kind.Text text) [] number ∷ []) ≡ none
        by_test true = refl
        by_test false =
            gathered-append (whole_steps number edges) (step (kind.Text text) [] number ∷ [])
            ∙ ap (λ (here : Found). both here (gathered (step (kind.Text text) [] number ∷ []))) (whole-gathered number edges)
            ∙ gathers.left (gathered (step (kind.Text text) [] number ∷ [])) ∙ text-gathered text number

    tees-gathered : (number : ℕ) (mode : Mode) (paths : List Components) (edge next : ℕ) → gathered (tee_steps number mode paths edge next) ≡ tees_value mode paths
    tees-gathered number mode [] edge next = refl
    tees-gathered number mode (path ∷ paths) edge next = ap (both (value (kind.TeeFile path mode) 1 1)) (tees-gathered number mode paths next (next + 1))

    files-gathered : (number : ℕ) (it : Does) (paths : List Components) (edges : List ℕ) (next : ℕ) → gathered (files_steps number it paths edges next) ≡ teed_value it paths
    files-gathered number does.Skip paths edges next = refl
    files-gathered number (does.Util inv) [] edges next = refl
    files-gathered number (does.Util inv) (path ∷ paths) edges next =
        let tees : List Step = tee_steps number (tee_mode inv) (path ∷ paths) (whole_edge edges next) (behind next (whole_steps number edges)) in
        gathered-append (whole_steps number edges) tees ∙ ap (λ (here : Found). both here (gathered tees)) (whole-gathered number edges) ∙ gathers.left (gathered tees)
        ∙ tees-gathered number (tee_mode inv) (path ∷ paths) (whole_edge edges next) (behind next (whole_steps number edges))

    beside-gathered : (number : ℕ) (it : Does) (paths : List Components) (text : List ℕ) (parts : Parts) (next : ℕ) → gathered (beside_steps number it paths text parts next) ≡ teed_value it paths
    beside-gathered number it paths text parts next =
        let teed : List Step = files_steps number it paths parts.edges next in
        let edges : List ℕ = (files_parts number it paths parts next).edges in
        gathered-append teed (first_steps number it text edges) ∙ ap (both (gathered teed)) (first-gathered number it text edges)
        ∙ gathers.right (gathered teed) ∙ files-gathered number it paths parts.edges next

    -- where a file that tee writes adds nothing, a stage adds what it would without
    module _ (of_tee : (path : Components) (mode : Mode) → value (kind.TeeFile path mode) 1 1 ≡ none) where
      tees-none : (mode : Mode) (paths : List Components) → tees_value mode paths ≡ none
      tees-none mode [] = refl
      tees-none mode (path ∷ paths) =
          ap (λ (here : Found). both here (tees_value mode paths)) (of_tee path mode) ∙ gathers.left (tees_value mode paths) ∙ tees-none mode paths

      pub teed-none : (it : Does) (paths : List Components) → teed_value it paths ≡ none
      teed-none does.Skip paths = refl
      teed-none (does.Util inv) paths = tees-none (tee_mode inv) paths

      pub main-without : (stream : Found) (leads : Bool) (stage : Stage)
          → main_value stream leads stage ≡ both (ins_value stream (ins_of stage)) (util_value leads stage.does (read_count stage.does (length stage.ins)))
      main-without stream leads stage =
          let own : Found = util_value leads stage.does (read_count stage.does (length stage.ins)) in
          ap (λ (teed : Found). both (ins_value stream (ins_of stage)) (both own teed)) (teed-none stage.does stage.tees)
          ∙ ap (both (ins_value stream (ins_of stage))) (gathers.right own)

    pub main-gathered : (number : ℕ) (comes : Coming) (stage : Stage) (next : ℕ) → is_stage stage ≡ true → MayCome width comes stage
        → gathered (main_steps width number comes stage next) ≡ main_value (stream_value comes) (begins comes) stage
    main-gathered number comes stage next is may =
        let front : List Step = front_steps number comes stage next in
        let done : List Step = done_steps width number comes stage next in
        let parts : Parts = done_parts width number comes stage next in
        let from : ℕ = done_next width number comes stage next in
        let besides : List Step = beside_steps number stage.does stage.tees stage.first parts from in
        gathered-append front (done ++ besides)
        ∙ ap (λ (read : Found). both read (gathered (done ++ besides))) (front-gathered number comes stage next may)
        ∙ ap (both (ins_value (stream_value comes) (ins_of stage)))
        (gathered-append done besides ∙ ap (both (gathered done)) (beside-gathered number stage.does stage.tees stage.first parts from)
        ∙ ap (λ (own : Found). both own (teed_value stage.does stage.tees)) (does-gathered number comes stage next is may))

    stream-gathered : (number : ℕ) (piped : List ℕ) (reads : Bool) → gathered (stream_steps number piped reads) ≡ none
    stream-gathered number piped true = text-gathered piped number
    stream-gathered number piped false = refl

    on-gathered : (number : ℕ) (it : Out) (piped : List ℕ) (reads : Bool) (edge : ℕ) → gathered (on_steps number it piped reads edge) ≡ file_value it
    on-gathered number out.Next piped reads edge = refl
    on-gathered number (out.File path mode) piped reads edge =
        ap (both (value (kind.Sink (to.File path mode)) 1 0)) (stream-gathered number piped reads) ∙ gathers.right (value (kind.Sink (to.File path mode)) 1 0)
    on-gathered number out.Null piped reads edge =
        ap (both (value kind.Drain 1 0)) (stream-gathered number piped reads) ∙ gathers.right (value kind.Drain 1 0) ∙ gathers.of_drain

    next-value : (it : Out) → is_next it ≡ true → none ≡ file_value it
    next-value out.Next is = refl
    next-value (out.File path mode) is = absurd (true≢false (sym is))
    next-value out.Null is = absurd (true≢false (sym is))

    goes-gathered : (number : ℕ) (comes : Coming) (stage following : Stage) (next : ℕ) → gathered (goes_steps width number comes stage next following) ≡ file_value stage.out
    goes-gathered number comes stage following next = by_test (hands_on width stage.out following (main_parts width number comes stage next)) refl
      where
        by_test : (hands : Bool) → hands_on width stage.out following (main_parts width number comes stage next) ≡ hands
            → gathered (if hands then [] else whole_steps number (main_parts width number comes stage next).edges ++ on_steps number stage.out stage.piped (is_reader following) (end_edge width number comes stage next)) ≡ file_value stage.out
        by_test true so = next-value stage.out (and_parts (is_next stage.out) (takes_parts width following (main_parts width number comes stage next)) so).0
        by_test false so =
            let ons : List Step = on_steps number stage.out stage.piped (is_reader following) (end_edge width number comes stage next) in
            gathered-append (whole_steps number (main_parts width number comes stage next).edges) ons
            ∙ ap (λ (here : Found). both here (gathered ons)) (whole-gathered number (main_parts width number comes stage next).edges)
            ∙ gathers.left (gathered ons) ∙ on-gathered number stage.out stage.piped (is_reader following) (end_edge width number comes stage next)

    piped-gathered : (number : ℕ) (piped : List ℕ) (next : ℕ) → gathered (piped_steps number piped next) ≡ (if not (is_empty piped) then value (kind.Sink to.Output) 1 0 else none)
    piped-gathered number piped next = by_test (is_empty piped)
      where
        by_test : (empty : Bool) → gathered (if empty then [] else step (kind.Text piped) [] number ∷ step (kind.Sink to.Output) (next ∷ []) number ∷ []) ≡ (if not empty then value (kind.Sink to.Output) 1 0 else none)
        by_test true = refl
        by_test false =
            ap (λ (here : Found). both here (gathered (step (kind.Sink to.Output) (next ∷ []) number ∷ []))) (gathers.of_text piped)
            ∙ gathers.left (gathered (step (kind.Sink to.Output) (next ∷ []) number ∷ [])) ∙ gathers.right (value (kind.Sink to.Output) 1 0)

    out-gathered : (number : ℕ) (it : Out) (piped : List ℕ) (edge next : ℕ) → gathered (out_steps number it piped edge next) ≡ both (file_value it) (goes_value it piped)
    out-gathered number out.Next piped edge next = gathers.right (value (kind.Sink to.Output) 1 0) ∙ sym (gathers.left (value (kind.Sink to.Output) 1 0))
    out-gathered number (out.File path mode) piped edge next = ap (both (value (kind.Sink (to.File path mode)) 1 0)) (piped-gathered number piped next)
    out-gathered number out.Null piped edge next =
        ap (λ (here : Found). both here (gathered (piped_steps number piped next))) gathers.of_drain ∙ ap (both none) (piped-gathered number piped next)

    stream-none : (it : Out) (reads : Bool) (edge next : ℕ) → stream_value (comes_on it reads edge next) ≡ none
    stream-none out.Next reads edge next = refl
    stream-none (out.File path mode) true edge next = refl
    stream-none (out.File path mode) false edge next = refl
    stream-none out.Null true edge next = refl
    stream-none out.Null false edge next = refl

    behind-none : (number : ℕ) (comes : Coming) (stage following : Stage) (next : ℕ) → stream_value (comes_behind width number comes stage next following) ≡ none
    behind-none number comes stage following next = by_test (hands_on width stage.out following (main_parts width number comes stage next))
      where
        by_test : (hands : Bool)
            → stream_value (if hands then coming.On (main_parts width number comes stage next) else comes_on stage.out (is_reader following) (end_edge width number comes stage next) (end_next width number comes stage next)) ≡ none
        by_test true = refl
        by_test false = stream-none stage.out (is_reader following) (end_edge width number comes stage next) (end_next width number comes stage next)

    pub last-gathered : (number : ℕ) (comes : Coming) (stage : Stage) (next : ℕ) → is_stage stage ≡ true → MayCome width comes stage
        → gathered (last_steps width number comes stage next) ≡ both (main_value (stream_value comes) (begins comes) stage) (both (file_value stage.out) (goes_value stage.out stage.piped))
    last-gathered number comes stage next is may =
        let edges : List ℕ = (main_parts width number comes stage next).edges in
        let outs : List Step = out_steps number stage.out stage.piped (end_edge width number comes stage next) (end_next width number comes stage next) in
        gathered-append (main_steps width number comes stage next) (whole_steps number edges ++ outs)
        ∙ ap (λ (main : Found). both main (gathered (whole_steps number edges ++ outs))) (main-gathered number comes stage next is may)
        ∙ ap (both (main_value (stream_value comes) (begins comes) stage))
        (gathered-append (whole_steps number edges) outs ∙ ap (λ (here : Found). both here (gathered outs)) (whole-gathered number edges) ∙ gathers.left (gathered outs)
        ∙ out-gathered number stage.out stage.piped (end_edge width number comes stage next) (end_next width number comes stage next))

    pub earlier-gathered : (number : ℕ) (comes : Coming) (stage following : Stage) (next : ℕ) → is_stage stage ≡ true → MayCome width comes stage
        → gathered (earlier_steps width number comes stage next following) ≡ both (main_value (stream_value comes) (begins comes) stage) (file_value stage.out)
    earlier-gathered number comes stage following next is may =
        let goes : List Step = goes_steps width number comes stage next following in
        gathered-append (main_steps width number comes stage next) goes
        ∙ ap (λ (main : Found). both main (gathered goes)) (main-gathered number comes stage next is may)
        ∙ ap (both (main_value (stream_value comes) (begins comes) stage)) (goes-gathered number comes stage following next)

    pub chain-gathered : (number : ℕ) (comes : Coming) (stages : List Stage) (next : ℕ) → list_all is_stage stages ≡ true → MayBegin width comes stages
        → gathered (chain_steps width number comes stages next) ≡ chain_value (stream_value comes) (begins comes) stages
    chain-gathered number comes [] next all may = refl
    chain-gathered number comes (stage ∷ []) next all may = last-gathered number comes stage next (and_parts (is_stage stage) true all).0 may
    chain-gathered number comes (stage ∷ following ∷ stages) next all may =
        let parts = and_parts (is_stage stage) (list_all is_stage (following ∷ stages)) all in
        let here : List Step = earlier_steps width number comes stage next following in
        let on : Coming = comes_behind width number comes stage next following in
        let rest : List Step = chain_steps width (number + 1) on (following ∷ stages) (behind next here) in
        gathered-append here rest
        ∙ ap (λ (front : Found). both front (gathered rest)) (earlier-gathered number comes stage following next parts.0 may)
        ∙ ap (both (both (main_value (stream_value comes) (begins comes) stage) (file_value stage.out)))
        (chain-gathered (number + 1) on (following ∷ stages) (behind next here) parts.1 (goes-may width number comes stage following next)
        ∙ ap (λ (stream : Found). chain_value stream (begins on) (following ∷ stages)) (behind-none number comes stage following next)
        ∙ ap (λ (leads : Bool). chain_value none leads (following ∷ stages)) (begins-behind width number comes stage next following))

-- WHAT IS GATHERED AT A WIDTH
module _ (width : ℕ) where
  -- ALL PASS A TEST
  abbrev both_pass : Bool → Bool → Bool
  both_pass one other = one && other

  module _ (value : NodeKind → ℕ → ℕ → Bool) where
    abbrev pub all_gathered : List Step → Bool
    all_gathered steps = gathered width true both_pass value steps

    pub all-found : (steps : List Step) → list_all (λ (it : Step). value it.kind (length it.ins) it.outs) steps ≡ all_gathered steps
    all-found [] = refl
    all-found (it ∷ steps) = ap (λ (rest : Bool). value it.kind (length it.ins) it.outs && rest) (all-found steps)

    -- each kind passes that a stage has up to where its output goes, other than the files of tee
    pub record Pass : Type 0 where
      pub text : (text : List ℕ) → value (kind.Text text) 0 1 ≡ true
      pub cat : (close : Bool) (count : ℕ) → 1 ≤ count → value (kind.Cat close) count 1 ≡ true
      pub drain : value kind.Drain 1 0 ≡ true
      pub source : (source : From) → value (kind.Source source) 0 1 ≡ true
      pub whole : (inv : Inv) (count : ℕ) → is_built_of inv ≡ true → inputs_of inv ≡ count → value (kind.Whole inv) count 1 ≡ true
      pub split : 2 ≤ width → value kind.Split 1 width ≡ true
      pub map : (inv : Inv) → is_built_of inv ≡ true → is_spread width inv ≡ true → value (kind.Map inv) 1 1 ≡ true
      pub agg : (inv : Inv) → is_built_of inv ≡ true → is_spread width inv ≡ true → has_aggregator (class_of inv) ≡ true → value (kind.Agg inv) 2 1 ≡ true
      pub finish : (inv : Inv) → is_built_of inv ≡ true → is_spread width inv ≡ true → has_aggregator (class_of inv) ≡ true → value (kind.Finish inv) 1 1 ≡ true

    module _ (pass : Pass) where
      and-assoc : (one two three : Bool) → ((one && two) && three) ≡ (one && (two && three))
      and-assoc true two three = refl
      and-assoc false two three = refl

      all-gathers : Gathers width true both_pass value
      all-gathers = record {
        left = λ it. refl;
        right = λ it. and-true it;
        assoc = and-assoc;
        of_text = pass.text;
        of_cat = pass.cat;
        of_drain = pass.drain;
        of_split = pass.split;
      }

      ins-pass : (ins : List In) → ins_value width true both_pass value true ins ≡ true
      ins-pass [] = refl
      ins-pass (inlet.Stream ∷ ins) = ins-pass ins
      ins-pass (inlet.File path closed ∷ ins) = and_from (value (kind.Source (from.File path)) 0 1) (ins_value width true both_pass value true ins) (pass.source (from.File path)) (ins-pass ins)
      ins-pass (inlet.Empty ∷ ins) = ins-pass ins

      util-pass : (leads : Bool) (stage : Stage) → is_stage stage ≡ true → (it : Does) → stage.does ≡ it → util_value width true both_pass value leads it (read_count it (length stage.ins)) ≡ true
      util-pass leads stage is does.Skip same = refl
      util-pass leads stage is (does.Util inv) same = by_cat (is_leading_cat leads inv) (is_spread width inv) refl
        where
          fits : Fits inv stage
          fits = parts-of stage is inv same

          all-repeated : (count : ℕ) (it : Bool) → it ≡ true → repeated width true both_pass value count it ≡ true
          all-repeated zero it pass = refl
          all-repeated (suc count) it pass = and_from it (repeated width true both_pass value count it) pass (all-repeated count it pass)

          folds-pass : is_spread width inv ≡ true → (folds finishes : Bool) → has_aggregator (class_of inv) ≡ folds
              → (if folds then repeated width true both_pass value (width - 1) (value (kind.Agg inv) 2 1) && (if finishes then value (kind.Finish inv) 1 1 else true) else true) ≡ true
          folds-pass is false finishes so = refl
          folds-pass is true true so =
              and_from (repeated width true both_pass value (width - 1) (value (kind.Agg inv) 2 1)) (value (kind.Finish inv) 1 1) (all-repeated (width - 1) (value (kind.Agg inv) 2 1) (pass.agg inv fits.built is so)) (pass.finish inv fits.built is so)
          folds-pass is true false so =
              and_from (repeated width true both_pass value (width - 1) (value (kind.Agg inv) 2 1)) true (all-repeated (width - 1) (value (kind.Agg inv) 2 1) (pass.agg inv fits.built is so)) refl

          by_cat : (cat spread : Bool) → is_spread width inv ≡ spread
              → (if cat then true else if spread then repeated width true both_pass value width (value (kind.Map inv) 1 1) && (if has_aggregator (class_of inv) then folds_value width true both_pass value inv else true) else value (kind.Whole inv) (read_of inv (length stage.ins)) 1) ≡ true
          by_cat true spread is = refl
          by_cat false true is =
              and_from (repeated width true both_pass value width (value (kind.Map inv) 1 1)) (if has_aggregator (class_of inv) then folds_value width true both_pass value inv else true)
              (all-repeated width (value (kind.Map inv) 1 1) (pass.map inv fits.built is)) (folds-pass is (has_aggregator (class_of inv)) (has_finish inv) refl)
          by_cat false false is = pass.whole inv (read_of inv (length stage.ins)) fits.built fits.inputs

      stream-pass : (comes : Coming) → stream_value width true both_pass value comes ≡ true
      stream-pass (coming.Begins begin) = by_first begin.now
        where
          by_first : (begin : First) → first_value width true both_pass value begin ≡ true
          by_first first.Input = pass.source from.Input
          by_first (first.Text text) = refl
      stream-pass (coming.On parts) = refl
      stream-pass coming.Nothing = refl

      pub front-all : (number : ℕ) (comes : Coming) (stage : Stage) (next : ℕ) → MayCome width comes stage → list_all (λ (it : Step). value it.kind (length it.ins) it.outs) (front_steps number comes stage next) ≡ true
      front-all number comes stage next may =
          all-found (front_steps number comes stage next) ∙ front-gathered width true both_pass value all-gathers number comes stage next may
          ∙ ap (λ (stream : Bool). ins_value width true both_pass value stream (ins_of stage)) (stream-pass comes) ∙ ins-pass (ins_of stage)

      pub done-all : (number : ℕ) (comes : Coming) (stage : Stage) (next : ℕ) → is_stage stage ≡ true → MayCome width comes stage
          → list_all (λ (it : Step). value it.kind (length it.ins) it.outs) (done_steps width number comes stage next) ≡ true
      done-all number comes stage next is may =
          all-found (done_steps width number comes stage next) ∙ does-gathered width true both_pass value all-gathers number comes stage next is may
          ∙ util-pass (begins comes) stage is stage.does refl

      pub first-all : (number : ℕ) (it : Does) (text edges : List ℕ) → list_all (λ (it : Step). value it.kind (length it.ins) it.outs) (first_steps number it text edges) ≡ true
      first-all number it text edges = all-found (first_steps number it text edges) ∙ first-gathered width true both_pass value all-gathers number it text edges

      module _ (tee : (path : Components) (mode : Mode) → value (kind.TeeFile path mode) 1 1 ≡ true) (sink : (sink : To) → value (kind.Sink sink) 1 0 ≡ true) where
        main-pass : (leads : Bool) (stage : Stage) → is_stage stage ≡ true → main_value width true both_pass value true leads stage ≡ true
        main-pass leads stage is =
            main-without width true both_pass value all-gathers tee true leads stage
            ∙ and_from (ins_value width true both_pass value true (ins_of stage)) (util_value width true both_pass value leads stage.does (read_count stage.does (length stage.ins)))
            (ins-pass (ins_of stage)) (util-pass leads stage is stage.does refl)

        file-pass : (it : Out) → file_value width true both_pass value it ≡ true
        file-pass out.Next = refl
        file-pass (out.File path mode) = sink (to.File path mode)
        file-pass out.Null = refl

        goes-pass : (it : Out) (piped : List ℕ) → goes_value width true both_pass value it piped ≡ true
        goes-pass it piped = by_test (goes_on it piped)
          where
            by_test : (goes : Bool) → (if goes then value (kind.Sink to.Output) 1 0 else true) ≡ true
            by_test true = sink to.Output
            by_test false = refl

        chain-pass : (leads : Bool) (stages : List Stage) → list_all is_stage stages ≡ true → chain_value width true both_pass value true leads stages ≡ true
        chain-pass leads [] all = refl
        chain-pass leads (stage ∷ []) all =
            and_from (main_value width true both_pass value true leads stage) (file_value width true both_pass value stage.out && goes_value width true both_pass value stage.out stage.piped)
            (main-pass leads stage (and_parts (is_stage stage) true all).0)
            (and_from (file_value width true both_pass value stage.out) (goes_value width true both_pass value stage.out stage.piped) (file-pass stage.out) (goes-pass stage.out stage.piped))
        chain-pass leads (stage ∷ following ∷ stages) all =
            let parts = and_parts (is_stage stage) (list_all is_stage (following ∷ stages)) all in
            and_from (main_value width true both_pass value true leads stage && file_value width true both_pass value stage.out) (chain_value width true both_pass value true false (following ∷ stages))
            (and_from (main_value width true both_pass value true leads stage) (file_value width true both_pass value stage.out) (main-pass leads stage parts.0) (file-pass stage.out))
            (chain-pass false (following ∷ stages) parts.1)

        pub chain-all : (number : ℕ) (comes : Coming) (stages : List Stage) (next : ℕ) → list_all is_stage stages ≡ true → MayBegin width comes stages
            → list_all (λ (it : Step). value it.kind (length it.ins) it.outs) (chain_steps width number comes stages next) ≡ true
        chain-all number comes stages next all may =
            all-found (chain_steps width number comes stages next) ∙ chain-gathered width true both_pass value all-gathers number comes stages next all may
            ∙ ap (λ (stream : Bool). chain_value width true both_pass value stream (begins comes) stages) (stream-pass comes) ∙ chain-pass (begins comes) stages all

  -- a test of the kinds alone
  pub of-kinds : (test : NodeKind → Bool) → ((text : List ℕ) → test (kind.Text text) ≡ true) → ((close : Bool) → test (kind.Cat close) ≡ true) → test kind.Drain ≡ true
      → ((source : From) → test (kind.Source source) ≡ true) → ((inv : Inv) → is_built_of inv ≡ true → test (kind.Whole inv) ≡ true)
      → test kind.Split ≡ true → ((inv : Inv) → is_built_of inv ≡ true → is_spread width inv ≡ true → test (kind.Map inv) ≡ true)
      → ((inv : Inv) → is_built_of inv ≡ true → is_spread width inv ≡ true → has_aggregator (class_of inv) ≡ true → test (kind.Agg inv) ≡ true)
      → ((inv : Inv) → is_built_of inv ≡ true → is_spread width inv ≡ true → has_aggregator (class_of inv) ≡ true → test (kind.Finish inv) ≡ true)
      → Pass (λ kind ins outs. test kind)
  of-kinds test text cat drain source whole split map agg finish = record {
    text = text;
    cat = λ close count some. cat close;
    drain = drain;
    source = source;
    whole = λ inv count built inputs. whole inv built;
    split = λ some. split;
    map = map;
    agg = agg;
    finish = finish;
  }

  -- WHAT IS LISTED
  abbrev joined_items : {Item : Type 0} → List Item → List Item → List Item
  joined_items one other = one ++ other

  module _ {Item : Type 0} (find : NodeKind → ℕ → ℕ → List Item) where
    abbrev pub listed : List Step → List Item
    listed steps = gathered width [] joined_items find steps

    pub listed-found : (steps : List Step) → flat_map (λ (it : Step). find it.kind (length it.ins) it.outs) steps ≡ listed steps
    listed-found [] = refl
    listed-found (it ∷ steps) = ap (λ (rest : List Item). find it.kind (length it.ins) it.outs ++ rest) (listed-found steps)

    pub list-gathers : ((text : List ℕ) → find (kind.Text text) 0 1 ≡ []) → ((close : Bool) (count : ℕ) → find (kind.Cat close) count 1 ≡ []) → find kind.Drain 1 0 ≡ [] → find kind.Split 1 width ≡ [] → Gathers width [] joined_items find
    list-gathers text cat drain split = record {
      left = λ it. refl;
      right = λ it. append-nil it;
      assoc = λ one two three. append_assoc one two three;
      of_text = text;
      of_cat = λ close count some. cat close count;
      of_drain = drain;
      of_split = λ some. split;
    }

    abbrev pub chain_list : Bool → List Stage → List Item
    chain_list leads stages = chain_value width [] joined_items find [] leads stages

  -- what is found of some of them
  abbrev pub option_items : {Item : Type 0} → Option Item → List Item
  option_items None = []
  option_items (Some item) = item ∷ []

  cons-items : {Item : Type 0} (it : Option Item) (rest : List Item) → cons_option it rest ≡ option_items it ++ rest
  cons-items None rest = refl
  cons-items (Some item) rest = refl

  pub found-listed : {Item : Type 0} (find : NodeKind → Option Item) (steps : List Step) → filter_map (λ (it : Step). find it.kind) steps ≡ listed (λ kind ins outs. option_items (find kind)) steps
  found-listed find [] = refl
  found-listed {Item} find (it ∷ steps) =
      ap (λ (rest : List Item). cons_option (find it.kind) rest) (found-listed find steps) ∙ cons-items (find it.kind) (listed (λ kind ins outs. option_items (find kind)) steps)

  -- the files that are read
  abbrev path_of_read : NodeKind → ℕ → ℕ → List Components
  path_of_read kind ins outs = option_items (path_read kind)

  abbrev joined_paths : List Components → List Components → List Components
  joined_paths one other = one ++ other

  ins-read : (ins : List In) → ins_value width [] joined_paths path_of_read [] ins ≡ filter_map file_in ins
  ins-read [] = refl
  ins-read (inlet.Stream ∷ ins) = ins-read ins
  ins-read (inlet.File path closed ∷ ins) = ap (λ (rest : List Components). path ∷ rest) (ins-read ins)
  ins-read (inlet.Empty ∷ ins) = ins-read ins

  util-read : (leads : Bool) (it : Does) (count : ℕ) → util_value width [] joined_paths path_of_read leads it count ≡ []
  util-read leads does.Skip count = refl
  util-read leads (does.Util inv) count = by_cat (is_leading_cat leads inv) (is_spread width inv)
    where
      by_cat : (cat spread : Bool) → (if cat then [] else if spread then repeated width [] joined_paths path_of_read width [] ++ (if has_aggregator (class_of inv) then folds_value width [] joined_paths path_of_read inv else []) else []) ≡ []
      by_cat true spread = refl
      by_cat false true = spread-none width [] joined_paths path_of_read (list-gathers path_of_read (λ text. refl) (λ close count. refl) refl refl) inv refl refl refl
      by_cat false false = refl

  file-read : (it : Out) → file_value width [] joined_paths path_of_read it ≡ []
  file-read out.Next = refl
  file-read (out.File path mode) = refl
  file-read out.Null = refl

  goes-read : (it : Out) (piped : List ℕ) → goes_value width [] joined_paths path_of_read it piped ≡ []
  goes-read it piped = by_test (goes_on it piped)
    where
      by_test : (goes : Bool) → (if goes then option_items (path_read (kind.Sink to.Output)) else []) ≡ []
      by_test true = refl
      by_test false = refl

  read-gathers : Gathers width [] joined_paths path_of_read
  read-gathers = list-gathers path_of_read (λ text. refl) (λ close count. refl) refl refl

  main-read : (leads : Bool) (stage : Stage) → main_value width [] joined_paths path_of_read [] leads stage ≡ filter_map file_in (ins_of stage)
  main-read leads stage =
      main-without width [] joined_paths path_of_read read-gathers (λ path mode. refl) [] leads stage
      ∙ ap (λ (own : List Components). ins_value width [] joined_paths path_of_read [] (ins_of stage) ++ own) (util-read leads stage.does (read_count stage.does (length stage.ins)))
      ∙ append-nil (ins_value width [] joined_paths path_of_read [] (ins_of stage)) ∙ ins-read (ins_of stage)

  all-read : (leads : Bool) (stages : List Stage) → chain_list path_of_read leads stages ≡ files_read stages
  all-read leads [] = refl
  all-read leads (stage ∷ []) =
      ap (λ (main : List Components). main ++ (file_value width [] joined_paths path_of_read stage.out ++ goes_value width [] joined_paths path_of_read stage.out stage.piped)) (main-read leads stage)
      ∙ ap (λ (file : List Components). filter_map file_in (ins_of stage) ++ (file ++ goes_value width [] joined_paths path_of_read stage.out stage.piped)) (file-read stage.out)
      ∙ ap (λ (goes : List Components). filter_map file_in (ins_of stage) ++ goes) (goes-read stage.out stage.piped)
  all-read leads (stage ∷ following ∷ stages) =
      ap (λ (main : List Components). (main ++ file_value width [] joined_paths path_of_read stage.out) ++ chain_list path_of_read false (following ∷ stages)) (main-read leads stage)
      ∙ ap (λ (file : List Components). (filter_map file_in (ins_of stage) ++ file) ++ chain_list path_of_read false (following ∷ stages)) (file-read stage.out)
      ∙ ap (λ (here : List Components). here ++ chain_list path_of_read false (following ∷ stages)) (append-nil (filter_map file_in (ins_of stage)))
      ∙ ap (λ (rest : List Components). filter_map file_in (ins_of stage) ++ rest) (all-read false (following ∷ stages))

  -- the stream of the first stage adds no path
  stream-paths : (find : NodeKind → ℕ → ℕ → List Components) → find (kind.Source from.Input) 0 1 ≡ [] → (comes : Coming) → stream_value width [] joined_paths find comes ≡ []
  stream-paths find none (coming.Begins begin) = by_first begin.now
    where
      by_first : (begin : First) → first_value width [] joined_paths find begin ≡ []
      by_first first.Input = none
      by_first (first.Text text) = refl
  stream-paths find none (coming.On parts) = refl
  stream-paths find none coming.Nothing = refl

  pub chain-reads : (number : ℕ) (comes : Coming) (stages : List Stage) (next : ℕ) → list_all is_stage stages ≡ true → MayBegin width comes stages → filter_map (λ (it : Step). path_read it.kind) (chain_steps width number comes stages next) ≡ files_read stages
  chain-reads number comes stages next all may =
      found-listed path_read (chain_steps width number comes stages next)
      ∙ chain-gathered width [] joined_paths path_of_read (list-gathers path_of_read (λ text. refl) (λ close count. refl) refl refl) number comes stages next all may
      ∙ ap (λ (stream : List Components). chain_value width [] joined_paths path_of_read stream (begins comes) stages) (stream-paths path_of_read refl comes) ∙ all-read (begins comes) stages

  -- the files that are written
  abbrev path_of_written : NodeKind → ℕ → ℕ → List Components
  path_of_written kind ins outs = option_items (path_written kind)

  ins-written : (ins : List In) → ins_value width [] joined_paths path_of_written [] ins ≡ []
  ins-written [] = refl
  ins-written (inlet.Stream ∷ ins) = ins-written ins
  ins-written (inlet.File path closed ∷ ins) = ins-written ins
  ins-written (inlet.Empty ∷ ins) = ins-written ins

  util-written : (leads : Bool) (it : Does) (count : ℕ) → util_value width [] joined_paths path_of_written leads it count ≡ []
  util-written leads does.Skip count = refl
  util-written leads (does.Util inv) count = by_cat (is_leading_cat leads inv) (is_spread width inv)
    where
      by_cat : (cat spread : Bool) → (if cat then [] else if spread then repeated width [] joined_paths path_of_written width [] ++ (if has_aggregator (class_of inv) then folds_value width [] joined_paths path_of_written inv else []) else []) ≡ []
      by_cat true spread = refl
      by_cat false true = spread-none width [] joined_paths path_of_written (list-gathers path_of_written (λ text. refl) (λ close count. refl) refl refl) inv refl refl refl
      by_cat false false = refl

  tees-written : (mode : Mode) (paths : List Components) → tees_value width [] joined_paths path_of_written mode paths ≡ paths
  tees-written mode [] = refl
  tees-written mode (path ∷ paths) = ap (λ (rest : List Components). path ∷ rest) (tees-written mode paths)

  teed-written : (stage : Stage) → is_stage stage ≡ true → (it : Does) → stage.does ≡ it → teed_value width [] joined_paths path_of_written it stage.tees ≡ stage.tees
  teed-written stage is does.Skip same = sym (skips-files stage is same)
  teed-written stage is (does.Util inv) same = tees-written (tee_mode inv) stage.tees

  main-written : (leads : Bool) (stage : Stage) → is_stage stage ≡ true → main_value width [] joined_paths path_of_written [] leads stage ≡ stage.tees
  main-written leads stage is =
      let teed : List Components = teed_value width [] joined_paths path_of_written stage.does stage.tees in
      ap (λ (ins : List Components). ins ++ (util_value width [] joined_paths path_of_written leads stage.does (read_count stage.does (length stage.ins)) ++ teed)) (ins-written (ins_of stage))
      ∙ ap (λ (own : List Components). own ++ teed) (util-written leads stage.does (read_count stage.does (length stage.ins)))
      ∙ teed-written stage is stage.does refl

  file-written : (it : Out) → file_value width [] joined_paths path_of_written it ≡ file_out it
  file-written out.Next = refl
  file-written (out.File path mode) = refl
  file-written out.Null = refl

  goes-written : (it : Out) (piped : List ℕ) → goes_value width [] joined_paths path_of_written it piped ≡ []
  goes-written it piped = by_test (goes_on it piped)
    where
      by_test : (goes : Bool) → (if goes then option_items (path_written (kind.Sink to.Output)) else []) ≡ []
      by_test true = refl
      by_test false = refl

  stage-written : (leads : Bool) (stage : Stage) → is_stage stage ≡ true → main_value width [] joined_paths path_of_written [] leads stage ++ file_value width [] joined_paths path_of_written stage.out ≡ stage.tees ++ file_out stage.out
  stage-written leads stage is =
      ap (λ (main : List Components). main ++ file_value width [] joined_paths path_of_written stage.out) (main-written leads stage is)
      ∙ ap (λ (file : List Components). stage.tees ++ file) (file-written stage.out)

  all-written : (leads : Bool) (stages : List Stage) → list_all is_stage stages ≡ true → chain_list path_of_written leads stages ≡ files_written stages
  all-written leads [] all = refl
  all-written leads (stage ∷ []) all =
      let is : is_stage stage ≡ true = (and_parts (is_stage stage) true all).0 in
      sym (append_assoc (main_value width [] joined_paths path_of_written [] leads stage) (file_value width [] joined_paths path_of_written stage.out) (goes_value width [] joined_paths path_of_written stage.out stage.piped))
      ∙ ap (λ (here : List Components). here ++ goes_value width [] joined_paths path_of_written stage.out stage.piped) (stage-written leads stage is)
      ∙ ap (λ (goes : List Components). (stage.tees ++ file_out stage.out) ++ goes) (goes-written stage.out stage.piped)
  all-written leads (stage ∷ following ∷ stages) all =
      let parts = and_parts (is_stage stage) (list_all is_stage (following ∷ stages)) all in
      ap (λ (here : List Components). here ++ chain_list path_of_written false (following ∷ stages)) (stage-written leads stage parts.0)
      ∙ ap (λ (rest : List Components). (stage.tees ++ file_out stage.out) ++ rest) (all-written false (following ∷ stages) parts.1)

  pub chain-writes : (number : ℕ) (comes : Coming) (stages : List Stage) (next : ℕ) → list_all is_stage stages ≡ true → MayBegin width comes stages
      → filter_map (λ (it : Step). path_written it.kind) (chain_steps width number comes stages next) ≡ files_written stages
  chain-writes number comes stages next all may =
      found-listed path_written (chain_steps width number comes stages next)
      ∙ chain-gathered width [] joined_paths path_of_written (list-gathers path_of_written (λ text. refl) (λ close count. refl) refl refl) number comes stages next all may
      ∙ ap (λ (stream : List Components). chain_value width [] joined_paths path_of_written stream (begins comes) stages) (stream-paths path_of_written refl comes) ∙ all-written (begins comes) stages all

  -- the words of utilities
  abbrev pub words_value : NodeKind → ℕ → ℕ → List (List (List ℕ))
  words_value kind ins outs = words_of_node kind ins

  abbrev joined_words : List (List (List ℕ)) → List (List (List ℕ)) → List (List (List ℕ))
  joined_words one other = one ++ other

  ins-words : (ins : List In) → ins_value width [] joined_words words_value [] ins ≡ []
  ins-words [] = refl
  ins-words (inlet.Stream ∷ ins) = ins-words ins
  ins-words (inlet.File path closed ∷ ins) = ins-words ins
  ins-words (inlet.Empty ∷ ins) = ins-words ins

  -- each stands as often as its utility runs
  once : (words : List (List (List ℕ))) → flat_map (λ words. replicate 1 words) words ≡ words
  once [] = refl
  once (word ∷ words) = ap (λ (others : List (List (List ℕ))). word ∷ others) (once words)

  often : (count : ℕ) (words : List (List ℕ)) → repeated width [] joined_words words_value count (words ∷ []) ≡ replicate count words
  often zero words = refl
  often (suc count) words = ap (λ (others : List (List (List ℕ))). words ∷ others) (often count words)

  never : (count : ℕ) → repeated width [] joined_words words_value count [] ≡ []
  never zero = refl
  never (suc count) = never count

  spread-words : (inv : Inv) → repeated width [] joined_words words_value width (words_with inv 1) ++ (if has_aggregator (class_of inv) then folds_value width [] joined_words words_value inv else [])
      ≡ flat_map (λ words. replicate width words) (words_with inv 1)
  spread-words inv =
      ap (λ (rest : List (List (List ℕ))). repeated width [] joined_words words_value width (words_with inv 1) ++ rest)
      (folds-none width [] joined_words words_value (list-gathers words_value (λ text. refl) (λ close count. refl) refl refl) inv refl refl)
      ∙ append-nil (repeated width [] joined_words words_value width (words_with inv 1)) ∙ by_test (is_cat inv || (1 == 0))
    where
      by_test : (test : Bool) → repeated width [] joined_words words_value width (if test then [] else words_of inv ∷ []) ≡ flat_map (λ words. replicate width words) (if test then [] else words_of inv ∷ [])
      by_test true = never width
      by_test false = often width (words_of inv) ∙ sym (append-nil (replicate width (words_of inv)))

  util-words : (leads : Bool) (stage : Stage) → is_stage stage ≡ true → (it : Does) → stage.does ≡ it → util_value width [] joined_words words_value leads it (read_count it (length stage.ins)) ≡ words_by width it
  util-words leads stage is does.Skip same = refl
  util-words leads stage is (does.Util inv) same = by_cat (is_leading_cat leads inv) refl (is_spread width inv) refl
    where
      fits : Fits inv stage
      fits = parts-of stage is inv same

      count : ℕ
      count = read_of inv (length stage.ins)

      by_cat : (leading : Bool) → is_leading_cat leads inv ≡ leading → (spread : Bool) → is_spread width inv ≡ spread
          → (if leading then [] else if spread then repeated width [] joined_words words_value width (words_with inv 1) ++ (if has_aggregator (class_of inv) then folds_value width [] joined_words words_value inv else []) else words_with inv (read_of inv (length stage.ins)))
          ≡ flat_map (λ words. replicate (if is_spread width inv then width else 1) words) (words_with inv (inputs_of inv))
      by_cat true is spread so =
          let none : words_with inv (inputs_of inv) ≡ [] = ap (λ (test : Bool). if test || (inputs_of inv == 0) then [] else words_of inv ∷ []) (and_parts (is_cat inv) leads is).0 in
          sym (ap (λ (all : List (List (List ℕ))). flat_map (λ words. replicate (if is_spread width inv then width else 1) words) all) none)
      by_cat false is true so =
          spread-words inv ∙ ap (λ (inputs : ℕ). flat_map (λ words. replicate width words) (words_with inv inputs)) (sym (spread-one width inv so))
          ∙ ap (λ (spread : Bool). flat_map (λ words. replicate (if spread then width else 1) words) (words_with inv (inputs_of inv))) (sym so)
      by_cat false is false so =
          ap (words_with inv) (sym fits.inputs) ∙ sym (once (words_with inv (inputs_of inv)))
          ∙ ap (λ (spread : Bool). flat_map (λ words. replicate (if spread then width else 1) words) (words_with inv (inputs_of inv))) (sym so)

  main-words : (leads : Bool) (stage : Stage) → is_stage stage ≡ true → main_value width [] joined_words words_value [] leads stage ≡ words_by width stage.does
  main-words leads stage is =
      main-without width [] joined_words words_value (list-gathers words_value (λ text. refl) (λ close count. refl) refl refl) (λ path mode. refl) [] leads stage
      ∙ ap (λ (ins : List (List (List ℕ))). ins ++ util_value width [] joined_words words_value leads stage.does (read_count stage.does (length stage.ins))) (ins-words (ins_of stage))
      ∙ util-words leads stage is stage.does refl

  file-words : (it : Out) → file_value width [] joined_words words_value it ≡ []
  file-words out.Next = refl
  file-words (out.File path mode) = refl
  file-words out.Null = refl

  goes-words : (it : Out) (piped : List ℕ) → goes_value width [] joined_words words_value it piped ≡ []
  goes-words it piped = by_test (goes_on it piped)
    where
      by_test : (goes : Bool) → (if goes then words_value (kind.Sink to.Output) 1 0 else []) ≡ []
      by_test true = refl
      by_test false = refl

  all-words : (leads : Bool) (stages : List Stage) → list_all is_stage stages ≡ true → chain_list words_value leads stages ≡ words_at width stages
  all-words leads [] all = refl
  all-words leads (stage ∷ []) all =
      let is : is_stage stage ≡ true = (and_parts (is_stage stage) true all).0 in
      ap (λ (main : List (List (List ℕ))). main ++ (file_value width [] joined_words words_value stage.out ++ goes_value width [] joined_words words_value stage.out stage.piped)) (main-words leads stage is)
      ∙ ap (λ (file : List (List (List ℕ))). words_by width stage.does ++ (file ++ goes_value width [] joined_words words_value stage.out stage.piped)) (file-words stage.out)
      ∙ ap (λ (goes : List (List (List ℕ))). words_by width stage.does ++ goes) (goes-words stage.out stage.piped)
  all-words leads (stage ∷ following ∷ stages) all =
      let parts = and_parts (is_stage stage) (list_all is_stage (following ∷ stages)) all in
      ap (λ (main : List (List (List ℕ))). (main ++ file_value width [] joined_words words_value stage.out) ++ chain_list words_value false (following ∷ stages)) (main-words leads stage parts.0)
      ∙ ap (λ (file : List (List (List ℕ))). (words_by width stage.does ++ file) ++ chain_list words_value false (following ∷ stages)) (file-words stage.out)
      ∙ ap (λ (here : List (List (List ℕ))). here ++ chain_list words_value false (following ∷ stages)) (append-nil (words_by width stage.does))
      ∙ ap (λ (rest : List (List (List ℕ))). words_by width stage.does ++ rest) (all-words false (following ∷ stages) parts.1)

  stream-words : (comes : Coming) → stream_value width [] joined_words words_value comes ≡ []
  stream-words (coming.Begins begin) = by_first begin.now
    where
      by_first : (begin : First) → first_value width [] joined_words words_value begin ≡ []
      by_first first.Input = refl
      by_first (first.Text text) = refl
  stream-words (coming.On parts) = refl
  stream-words coming.Nothing = refl

  pub chain-words : (number : ℕ) (comes : Coming) (stages : List Stage) (next : ℕ) → list_all is_stage stages ≡ true → MayBegin width comes stages
      → flat_map (λ (it : Step). words_of_node it.kind (length it.ins)) (chain_steps width number comes stages next) ≡ words_at width stages
  chain-words number comes stages next all may =
      listed-found words_value (chain_steps width number comes stages next)
      ∙ chain-gathered width [] joined_words words_value (list-gathers words_value (λ text. refl) (λ close count. refl) refl refl) number comes stages next all may
      ∙ ap (λ (stream : List (List (List ℕ))). chain_value width [] joined_words words_value stream (begins comes) stages) (stream-words comes) ∙ all-words (begins comes) stages all

  -- ONE IS THERE, AND HOW MANY
  abbrev pub either : Bool → Bool → Bool
  either one other = one || other

  abbrev pub any_value : (NodeKind → Bool) → NodeKind → ℕ → ℕ → Bool
  any_value test kind ins outs = test kind

  abbrev pub sum : ℕ → ℕ → ℕ
  sum one other = one + other

  abbrev pub number_value : (NodeKind → Bool) → NodeKind → ℕ → ℕ → ℕ
  number_value test kind ins outs = if test kind then 1 else 0

  pub any-found : (test : NodeKind → Bool) (steps : List Step) → list_any (λ (it : Step). test it.kind) steps ≡ gathered width false either (any_value test) steps
  any-found test [] = refl
  any-found test (it ∷ steps) = ap (λ (rest : Bool). test it.kind || rest) (any-found test steps)

  pub number-found : (test : NodeKind → Bool) (steps : List Step) → count_by (λ (it : Step). test it.kind) steps ≡ gathered width 0 sum (number_value test) steps
  number-found test [] = refl
  number-found test (it ∷ steps) =
      sum_by-cons (λ (it : Step). if test it.kind then 1 else 0) it steps ∙ ap (λ (rest : ℕ). (if test it.kind then 1 else 0) + rest) (number-found test steps)

  or-assoc : (one two three : Bool) → ((one || two) || three) ≡ (one || (two || three))
  or-assoc true two three = refl
  or-assoc false two three = refl

  any-gathers : (test : NodeKind → Bool) → ((text : List ℕ) → test (kind.Text text) ≡ false) → ((close : Bool) → test (kind.Cat close) ≡ false) → test kind.Drain ≡ false → test kind.Split ≡ false → Gathers width false either (any_value test)
  any-gathers test text cat drain split = record {
    left = λ it. refl;
    right = λ it. or-none it;
    assoc = or-assoc;
    of_text = text;
    of_cat = λ close count some. cat close;
    of_drain = drain;
    of_split = λ some. split;
  }

  pub number-gathers : (test : NodeKind → Bool) → ((text : List ℕ) → test (kind.Text text) ≡ false) → ((close : Bool) → test (kind.Cat close) ≡ false) → test kind.Drain ≡ false → test kind.Split ≡ false → Gathers width 0 sum (number_value test)
  number-gathers test text cat drain split = record {
    left = λ it. (omega arith);
    right = λ it. (omega arith);
    assoc = λ one two three. (omega arith);
    of_text = λ it. ap (λ (is : Bool). if is then 1 else 0) (text it);
    of_cat = λ close count some. ap (λ (is : Bool). if is then 1 else 0) (cat close);
    of_drain = ap (λ (is : Bool). if is then 1 else 0) drain;
    of_split = λ some. ap (λ (is : Bool). if is then 1 else 0) split;
  }

  -- the shell's input
  abbrev pub is_shell : Coming → Bool
  is_shell comes = stream_value width false either (any_value is_input) comes

  pub shell-is : (begin : First) → first_value width false either (any_value is_input) begin ≡ is_shell_input begin
  shell-is first.Input = refl
  shell-is (first.Text text) = refl

  util-input : (leads : Bool) (it : Does) (count : ℕ) → (util_value width false either (any_value is_input) leads it count ≡ false) × (util_value width 0 sum (number_value is_input) leads it count ≡ 0)
  util-input leads does.Skip count = (refl, refl)
  util-input leads (does.Util inv) count = by_cat (is_leading_cat leads inv) (is_spread width inv)
    where
      by_cat : (cat spread : Bool)
          → ((if cat then false else if spread then repeated width false either (any_value is_input) width false || (if has_aggregator (class_of inv) then folds_value width false either (any_value is_input) inv else false) else false) ≡ false)
          × (◌≡◌ {A = ℕ} (if cat then 0 else if spread then repeated width 0 sum (number_value is_input) width 0 + (if has_aggregator (class_of inv) then folds_value width 0 sum (number_value is_input) inv else 0) else 0) 0)
      by_cat true spread = (refl, refl)
      by_cat false true = (
        spread-none width false either (any_value is_input) (any-gathers is_input (λ text. refl) (λ close. refl) refl refl) inv refl refl refl,
        spread-none width 0 sum (number_value is_input) (number-gathers is_input (λ text. refl) (λ close. refl) refl refl) inv refl refl refl,
      )
      by_cat false false = (refl, refl)

  file-input : (it : Out) → (file_value width false either (any_value is_input) it ≡ false) × (file_value width 0 sum (number_value is_input) it ≡ 0)
  file-input out.Next = (refl, refl)
  file-input (out.File path mode) = (refl, refl)
  file-input out.Null = (refl, refl)

  goes-input : (it : Out) (piped : List ℕ) → (goes_value width false either (any_value is_input) it piped ≡ false) × (goes_value width 0 sum (number_value is_input) it piped ≡ 0)
  goes-input it piped = by_test (goes_on it piped)
    where
      by_test : (goes : Bool) → ((if goes then false else false) ≡ false) × (◌≡◌ {A = ℕ} (if goes then 0 else 0) 0)
      by_test true = (refl, refl)
      by_test false = (refl, refl)

  ins-input : (stream : Bool) (ins : List In) → ins_value width false either (any_value is_input) stream ins ≡ (stream && list_any is_stream ins)
  ins-input true [] = refl
  ins-input false [] = refl
  ins-input true (inlet.Stream ∷ ins) = refl
  ins-input false (inlet.Stream ∷ ins) = ins-input false ins
  ins-input stream (inlet.File path closed ∷ ins) = ins-input stream ins
  ins-input stream (inlet.Empty ∷ ins) = ins-input stream ins

  any-inputs : Gathers width false either (any_value is_input)
  any-inputs = any-gathers is_input (λ text. refl) (λ close. refl) refl refl

  number-inputs : Gathers width 0 sum (number_value is_input)
  number-inputs = number-gathers is_input (λ text. refl) (λ close. refl) refl refl

  teed-inputs : (stage : Stage) → teed_value width 0 sum (number_value is_input) stage.does stage.tees ≡ 0
  teed-inputs stage = teed-none width 0 sum (number_value is_input) number-inputs (λ path mode. refl) stage.does stage.tees

  main-input : (stream leads : Bool) (stage : Stage) → main_value width false either (any_value is_input) stream leads stage ≡ (stream && is_reader stage)
  main-input stream leads stage =
      main-without width false either (any_value is_input) any-inputs (λ path mode. refl) stream leads stage
      ∙ ap (λ (own : Bool). ins_value width false either (any_value is_input) stream (ins_of stage) || own) (util-input leads stage.does (read_count stage.does (length stage.ins))).0
      ∙ or-none (ins_value width false either (any_value is_input) stream (ins_of stage)) ∙ ins-input stream (ins_of stage)

  chain-input-none : (leads : Bool) (stages : List Stage) → chain_value width false either (any_value is_input) false leads stages ≡ false
  chain-input-none leads [] = refl
  chain-input-none leads (stage ∷ []) =
      ap (λ (main : Bool). main || (file_value width false either (any_value is_input) stage.out || goes_value width false either (any_value is_input) stage.out stage.piped)) (main-input false leads stage)
      ∙ ap (λ (file : Bool). file || goes_value width false either (any_value is_input) stage.out stage.piped) (file-input stage.out).0 ∙ (goes-input stage.out stage.piped).0
  chain-input-none leads (stage ∷ following ∷ stages) =
      ap (λ (main : Bool). (main || file_value width false either (any_value is_input) stage.out) || chain_value width false either (any_value is_input) false false (following ∷ stages)) (main-input false leads stage)
      ∙ ap (λ (file : Bool). file || chain_value width false either (any_value is_input) false false (following ∷ stages)) (file-input stage.out).0 ∙ chain-input-none false (following ∷ stages)

  any-input : (stream leads : Bool) (stages : List Stage) → chain_value width false either (any_value is_input) stream leads stages ≡ (stream && reads_stream stages)
  any-input true leads [] = refl
  any-input false leads [] = refl
  any-input stream leads (stage ∷ []) =
      ap (λ (main : Bool). main || (file_value width false either (any_value is_input) stage.out || goes_value width false either (any_value is_input) stage.out stage.piped)) (main-input stream leads stage)
      ∙ ap (λ (file : Bool). (stream && is_reader stage) || (file || goes_value width false either (any_value is_input) stage.out stage.piped)) (file-input stage.out).0
      ∙ ap (λ (goes : Bool). (stream && is_reader stage) || goes) (goes-input stage.out stage.piped).0 ∙ or-none (stream && is_reader stage)
  any-input stream leads (stage ∷ following ∷ stages) =
      ap (λ (main : Bool). (main || file_value width false either (any_value is_input) stage.out) || chain_value width false either (any_value is_input) false false (following ∷ stages)) (main-input stream leads stage)
      ∙ ap (λ (file : Bool). ((stream && is_reader stage) || file) || chain_value width false either (any_value is_input) false false (following ∷ stages)) (file-input stage.out).0
      ∙ ap (λ (rest : Bool). ((stream && is_reader stage) || false) || rest) (chain-input-none false (following ∷ stages))
      ∙ or-none ((stream && is_reader stage) || false) ∙ or-none (stream && is_reader stage)

  pub chain-input : (number : ℕ) (comes : Coming) (stages : List Stage) (next : ℕ) → list_all is_stage stages ≡ true → MayBegin width comes stages → list_any (λ (it : Step). is_input it.kind) (chain_steps width number comes stages next) ≡ (is_shell comes && reads_stream stages)
  chain-input number comes stages next all may =
      any-found is_input (chain_steps width number comes stages next)
      ∙ chain-gathered width false either (any_value is_input) (any-gathers is_input (λ text. refl) (λ close. refl) refl refl) number comes stages next all may
      ∙ any-input (is_shell comes) (begins comes) stages

  -- it is taken once
  ins-inputs : (stream : ℕ) (ins : List In) → stream ≤ 1 → ins_value width 0 sum (number_value is_input) stream ins ≤ count_by is_stream ins
  ins-inputs stream [] few = omega arith
  ins-inputs stream (inlet.Stream ∷ ins) few =
      let all : count_by is_stream (inlet.Stream ∷ ins) ≡ 1 + count_by is_stream ins = sum_by-cons (λ it. if is_stream it then 1 else 0) inlet.Stream ins in
      let rest = ins-inputs stream ins few in omega (arith, all, rest, few)
  ins-inputs stream (inlet.File path closed ∷ ins) few =
      let all : count_by is_stream (inlet.File path closed ∷ ins) ≡ 0 + count_by is_stream ins = sum_by-cons (λ it. if is_stream it then 1 else 0) (inlet.File path closed) ins in
      let rest = ins-inputs stream ins few in omega (arith, all, rest)
  ins-inputs stream (inlet.Empty ∷ ins) few =
      let all : count_by is_stream (inlet.Empty ∷ ins) ≡ 0 + count_by is_stream ins = sum_by-cons (λ it. if is_stream it then 1 else 0) inlet.Empty ins in
      let rest = ins-inputs stream ins few in omega (arith, all, rest)

  no-inputs : (ins : List In) → ins_value width 0 sum (number_value is_input) 0 ins ≡ 0
  no-inputs [] = refl
  no-inputs (inlet.Stream ∷ ins) = let rest = no-inputs ins in omega (arith, rest)
  no-inputs (inlet.File path closed ∷ ins) = let rest = no-inputs ins in omega (arith, rest)
  no-inputs (inlet.Empty ∷ ins) = let rest = no-inputs ins in omega (arith, rest)

  chain-inputs-none : (leads : Bool) (stages : List Stage) → chain_value width 0 sum (number_value is_input) 0 leads stages ≡ 0
  chain-inputs-none leads [] = refl
  chain-inputs-none leads (stage ∷ []) =
      let ins = no-inputs (ins_of stage) in
      let own = (util-input leads stage.does (read_count stage.does (length stage.ins))).1 in
      let teed = teed-inputs stage in
      let file = (file-input stage.out).1 in
      let goes = (goes-input stage.out stage.piped).1 in
      omega (arith, ins, own, teed, file, goes)
  chain-inputs-none leads (stage ∷ following ∷ stages) =
      let ins = no-inputs (ins_of stage) in
      let own = (util-input leads stage.does (read_count stage.does (length stage.ins))).1 in
      let teed = teed-inputs stage in
      let file = (file-input stage.out).1 in
      let rest = chain-inputs-none false (following ∷ stages) in
      omega (arith, ins, own, teed, file, rest)

  few-inputs : (stream : ℕ) (leads : Bool) (stages : List Stage) → stream ≤ 1 → list_all is_stage stages ≡ true → chain_value width 0 sum (number_value is_input) stream leads stages ≤ 1
  few-inputs stream leads [] few all = omega arith
  few-inputs stream leads (stage ∷ []) few all =
      let ins = ins-inputs stream (ins_of stage) few in
      let streams = few-streams stage (and_parts (is_stage stage) true all).0 in
      let own = (util-input leads stage.does (read_count stage.does (length stage.ins))).1 in
      let teed = teed-inputs stage in
      let file = (file-input stage.out).1 in
      let goes = (goes-input stage.out stage.piped).1 in
      omega (arith, ins, streams, own, teed, file, goes)
  few-inputs stream leads (stage ∷ following ∷ stages) few all =
      let ins = ins-inputs stream (ins_of stage) few in
      let streams = few-streams stage (and_parts (is_stage stage) (list_all is_stage (following ∷ stages)) all).0 in
      let own = (util-input leads stage.does (read_count stage.does (length stage.ins))).1 in
      let teed = teed-inputs stage in
      let file = (file-input stage.out).1 in
      let rest = chain-inputs-none false (following ∷ stages) in
      omega (arith, ins, streams, own, teed, file, rest)

  stream-few : (comes : Coming) → stream_value width 0 sum (number_value is_input) comes ≤ 1
  stream-few (coming.Begins begin) = by_first begin.now
    where
      by_first : (begin : First) → first_value width 0 sum (number_value is_input) begin ≤ 1
      by_first first.Input = omega arith
      by_first (first.Text text) = omega arith
  stream-few (coming.On parts) = omega arith
  stream-few coming.Nothing = omega arith

  pub chain-inputs : (number : ℕ) (comes : Coming) (stages : List Stage) (next : ℕ) → list_all is_stage stages ≡ true → MayBegin width comes stages → count_by (λ (it : Step). is_input it.kind) (chain_steps width number comes stages next) ≤ 1
  chain-inputs number comes stages next all may =
      let count = number-found is_input (chain_steps width number comes stages next) in
      let whole = chain-gathered width 0 sum (number_value is_input) (number-gathers is_input (λ text. refl) (λ close. refl) refl refl) number comes stages next all may in
      let few = few-inputs (stream_value width 0 sum (number_value is_input) comes) (begins comes) stages (stream-few comes) all in
      omega (arith, count, whole, few)

  -- the output
  ins-output : (ins : List In) → (ins_value width false either (any_value is_output) false ins ≡ false) × (ins_value width 0 sum (number_value is_output) 0 ins ≡ 0)
  ins-output [] = (refl, refl)
  ins-output (inlet.Stream ∷ ins) = let rest = ins-output ins in let none = rest.1 in (rest.0, omega (arith, none))
  ins-output (inlet.File path closed ∷ ins) = let rest = ins-output ins in let none = rest.1 in (rest.0, omega (arith, none))
  ins-output (inlet.Empty ∷ ins) = let rest = ins-output ins in let none = rest.1 in (rest.0, omega (arith, none))

  util-output : (leads : Bool) (it : Does) (count : ℕ) → (util_value width false either (any_value is_output) leads it count ≡ false) × (util_value width 0 sum (number_value is_output) leads it count ≡ 0)
  util-output leads does.Skip count = (refl, refl)
  util-output leads (does.Util inv) count = by_cat (is_leading_cat leads inv) (is_spread width inv)
    where
      by_cat : (cat spread : Bool)
          → ((if cat then false else if spread then repeated width false either (any_value is_output) width false || (if has_aggregator (class_of inv) then folds_value width false either (any_value is_output) inv else false) else false) ≡ false)
          × (◌≡◌ {A = ℕ} (if cat then 0 else if spread then repeated width 0 sum (number_value is_output) width 0 + (if has_aggregator (class_of inv) then folds_value width 0 sum (number_value is_output) inv else 0) else 0) 0)
      by_cat true spread = (refl, refl)
      by_cat false true = (
        spread-none width false either (any_value is_output) (any-gathers is_output (λ text. refl) (λ close. refl) refl refl) inv refl refl refl,
        spread-none width 0 sum (number_value is_output) (number-gathers is_output (λ text. refl) (λ close. refl) refl refl) inv refl refl refl,
      )
      by_cat false false = (refl, refl)

  file-output : (it : Out) → (file_value width false either (any_value is_output) it ≡ false) × (file_value width 0 sum (number_value is_output) it ≡ 0)
  file-output out.Next = (refl, refl)
  file-output (out.File path mode) = (refl, refl)
  file-output out.Null = (refl, refl)

  goes-output : (it : Out) (piped : List ℕ) → (goes_value width false either (any_value is_output) it piped ≡ goes_on it piped) × (goes_value width 0 sum (number_value is_output) it piped ≤ 1)
  goes-output it piped = by_test (goes_on it piped)
    where
      by_test : (goes : Bool) → ((if goes then true else false) ≡ goes) × ((if goes then 1 else 0) ≤ 1)
      by_test true = (refl, omega arith)
      by_test false = (refl, omega arith)

  any-outputs : Gathers width false either (any_value is_output)
  any-outputs = any-gathers is_output (λ text. refl) (λ close. refl) refl refl

  number-outputs : Gathers width 0 sum (number_value is_output)
  number-outputs = number-gathers is_output (λ text. refl) (λ close. refl) refl refl

  teed-outputs : (stage : Stage) → teed_value width 0 sum (number_value is_output) stage.does stage.tees ≡ 0
  teed-outputs stage = teed-none width 0 sum (number_value is_output) number-outputs (λ path mode. refl) stage.does stage.tees

  main-output : (leads : Bool) (stage : Stage) → main_value width false either (any_value is_output) false leads stage ≡ false
  main-output leads stage =
      main-without width false either (any_value is_output) any-outputs (λ path mode. refl) false leads stage
      ∙ ap (λ (ins : Bool). ins || util_value width false either (any_value is_output) leads stage.does (read_count stage.does (length stage.ins))) (ins-output (ins_of stage)).0
      ∙ (util-output leads stage.does (read_count stage.does (length stage.ins))).0

  any-output : (leads : Bool) (stages : List Stage) → chain_value width false either (any_value is_output) false leads stages ≡ gives_output stages
  any-output leads [] = refl
  any-output leads (stage ∷ []) =
      ap (λ (main : Bool). main || (file_value width false either (any_value is_output) stage.out || goes_value width false either (any_value is_output) stage.out stage.piped)) (main-output leads stage)
      ∙ ap (λ (file : Bool). file || goes_value width false either (any_value is_output) stage.out stage.piped) (file-output stage.out).0 ∙ (goes-output stage.out stage.piped).0
  any-output leads (stage ∷ following ∷ stages) =
      ap (λ (main : Bool). (main || file_value width false either (any_value is_output) stage.out) || chain_value width false either (any_value is_output) false false (following ∷ stages)) (main-output leads stage)
      ∙ ap (λ (file : Bool). file || chain_value width false either (any_value is_output) false false (following ∷ stages)) (file-output stage.out).0 ∙ any-output false (following ∷ stages)

  few-outputs : (leads : Bool) (stages : List Stage) → chain_value width 0 sum (number_value is_output) 0 leads stages ≤ 1
  few-outputs leads [] = omega arith
  few-outputs leads (stage ∷ []) =
      let ins = (ins-output (ins_of stage)).1 in
      let own = (util-output leads stage.does (read_count stage.does (length stage.ins))).1 in
      let teed = teed-outputs stage in
      let file = (file-output stage.out).1 in
      let goes = (goes-output stage.out stage.piped).1 in
      omega (arith, ins, own, teed, file, goes)
  few-outputs leads (stage ∷ following ∷ stages) =
      let ins = (ins-output (ins_of stage)).1 in
      let own = (util-output leads stage.does (read_count stage.does (length stage.ins))).1 in
      let teed = teed-outputs stage in
      let file = (file-output stage.out).1 in
      let rest = few-outputs false (following ∷ stages) in
      omega (arith, ins, own, teed, file, rest)

  stream-output : (comes : Coming) → (stream_value width false either (any_value is_output) comes ≡ false) × (stream_value width 0 sum (number_value is_output) comes ≡ 0)
  stream-output (coming.Begins begin) = by_first begin.now
    where
      by_first : (begin : First) → (first_value width false either (any_value is_output) begin ≡ false) × (first_value width 0 sum (number_value is_output) begin ≡ 0)
      by_first first.Input = (refl, refl)
      by_first (first.Text text) = (refl, refl)
  stream-output (coming.On parts) = (refl, refl)
  stream-output coming.Nothing = (refl, refl)

  pub chain-output : (number : ℕ) (comes : Coming) (stages : List Stage) (next : ℕ) → list_all is_stage stages ≡ true → MayBegin width comes stages → list_any (λ (it : Step). is_output it.kind) (chain_steps width number comes stages next) ≡ gives_output stages
  chain-output number comes stages next all may =
      any-found is_output (chain_steps width number comes stages next)
      ∙ chain-gathered width false either (any_value is_output) (any-gathers is_output (λ text. refl) (λ close. refl) refl refl) number comes stages next all may
      ∙ ap (λ (stream : Bool). chain_value width false either (any_value is_output) stream (begins comes) stages) (stream-output comes).0 ∙ any-output (begins comes) stages

  pub chain-outputs : (number : ℕ) (comes : Coming) (stages : List Stage) (next : ℕ) → list_all is_stage stages ≡ true → MayBegin width comes stages → count_by (λ (it : Step). is_output it.kind) (chain_steps width number comes stages next) ≤ 1
  chain-outputs number comes stages next all may =
      let count = number-found is_output (chain_steps width number comes stages next) in
      let whole = chain-gathered width 0 sum (number_value is_output) (number-gathers is_output (λ text. refl) (λ close. refl) refl refl) number comes stages next all may in
      let stream : chain_value width 0 sum (number_value is_output) (stream_value width 0 sum (number_value is_output) comes) (begins comes) stages ≡ chain_value width 0 sum (number_value is_output) 0 (begins comes) stages =
      ap (λ (stream : ℕ). chain_value width 0 sum (number_value is_output) stream (begins comes) stages) (stream-output comes).1 in
      let few = few-outputs (begins comes) stages in
      omega (arith, count, whole, stream, few)
