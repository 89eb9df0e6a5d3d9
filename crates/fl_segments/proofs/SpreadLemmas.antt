-- Each stage of a segment has its maps, or its whole.
use Rattle.std.proofs.Common.{◌≡◌, ℕ, zero, suc, ◌+◌, ◌<◌, ◌==◌, List, [], ◌∷◌, ◌++◌, Bool, true, false, ◌&&◌, Option, Some, None, if◌then◌else◌, length, nat_lt, slice_get, is_some, refl, ap, sym, ◌∙◌, arith, eq-eqb, ◌≤◌, ◌-◌}
use Rattle.std.specs.List.{count_by, list_all}
use Rattle.std.proofs.lemmas.Bool.{true≢false, and_from, and_parts, eqb-true, lt-ltb, ltb-true, ne_eqb}
use Rattle.std.proofs.lemmas.List.Folds.{list_all-append}
use Rattle.std.proofs.lemmas.List.Sums.{sum_by-append, sum_by-cons}
use Rattle.ps_world.specs.Paths.{Components}
use Rattle.ps_world.specs.declared.tree.Mode.{Mode}
use Rattle.ut_args.specs.declared.invocations.Inv.{Inv}
use Rattle.fl_graph.specs.declared.graphs.Cell.{Cell}
use Rattle.fl_graph.specs.declared.kinds.NodeKind.{NodeKind}
use Rattle.fl_graph.specs.declared.kinds.NodeKind.TheVariants as kind
use Rattle.fl_graph.specs.declared.kinds.From.{From}
use Rattle.fl_graph.specs.declared.kinds.From.TheVariants as from
use Rattle.fl_graph.specs.declared.kinds.To.{To}
use Rattle.fl_graph.specs.declared.kinds.To.TheVariants as to
use Rattle.fl_segments.specs.Spread.{HasItsGroups, IsSpread, count_at, is_map, is_unsplit, is_whole, maps_of, wholes_of, aggregates_of, finishes_of, is_aggregate, is_finish}
use Rattle.fl_segments.specs.Stages.{goes_on, ins_of, is_none, is_spread, is_stage, has_finish}
use Rattle.fl_segments.specs.Inner.Drawing.{Step, step, split_step, behind, cell_of, drawn, next_of, outs_of}
use Rattle.fl_segments.specs.Inner.Steps.{begins, beside_steps, chain_steps, comes_behind, stage_steps, does_steps, done_next, done_parts, done_steps, earlier_steps, end_next, front_edges, front_next, front_steps, goes_steps, group_steps, groups_from, is_leading_cat, last_steps, main_parts, main_steps, Tree, Leaf, Join, tree_steps, joins_of, ends_from, tree_edge, mapped_parts, mapped_steps, finish_steps, tree_of, main_next, fold_steps, mapped_edges}
use Rattle.fl_segments.specs.declared.parts.Coming.{Coming}
use Rattle.fl_segments.specs.declared.parts.Coming.TheVariants as coming
use Rattle.fl_segments.specs.declared.stages.Does.{Does}
use Rattle.fl_segments.specs.declared.stages.Does.TheVariants as does
use Rattle.fl_segments.specs.declared.stages.First.{First}
use Rattle.fl_segments.specs.declared.stages.First.TheVariants as first
use Rattle.fl_segments.specs.declared.stages.In.{In}
use Rattle.fl_segments.specs.declared.stages.In.TheVariants as inlet
use Rattle.fl_segments.specs.declared.stages.Out.{Out}
use Rattle.fl_segments.specs.declared.stages.Out.TheVariants as out
use Rattle.fl_segments.specs.declared.stages.Stage.{Stage}
use Rattle.fl_segments.proofs.ComingLemmas.{MayCome, goes-may}
use Rattle.fl_segments.proofs.DrawingLemmas.{all-drawn, joins_none}
use Rattle.fl_segments.proofs.FoundLemmas.{Gathers, begins-behind, chain-all, earlier-gathered, file_value, first_value, goes_value, ins_value, last-gathered, main_value, number-found, number-gathers, number_value, read_count, repeated, stream_value, sum, teed-none, teed_value, util_value}
use Rattle.fl_segments.specs.Groups.{is_grouped}
use Rattle.fl_segments.proofs.PlainLemmas.{cats-plain, front-plain, none-plain, beside-plain, goes-plain, ends-plain, mapped-plain, pass-if}
use Rattle.ut_args.specs.Classes.{class_of}
use Rattle.fl_graph.specs.Kinds.{has_aggregator}
use Rattle.fl_segments.specs.declared.parts.Parts.{Parts}

-- HOW MANY ARE OF A STAGE
-- all are of this stage, and all are of a later one
abbrev Own : ℕ → List Step → Type 0
Own number steps = list_all (λ (it : Step). it.stage == number) steps ≡ true

abbrev Later : ℕ → List Step → Type 0
Later number steps = list_all (λ (it : Step). nat_lt number it.stage) steps ≡ true

module _ (test : NodeKind → Bool) where
  abbrev count_steps : ℕ → List Step → ℕ
  count_steps number steps = count_by (λ (it : Step). (it.stage == number) && test it.kind) steps

  count-drawn : (number next : ℕ) (steps : List Step) → count_at number test (drawn next steps) ≡ count_steps number steps
  count-drawn number next [] = refl
  count-drawn number next (it ∷ steps) =
      sum_by-cons (λ (cell : Cell NodeKind). if (cell.stage == number) && test cell.kind then 1 else 0) (cell_of it (outs_of it.outs next)) (drawn (next_of it.outs next) steps)
      ∙ ap (λ (rest : ℕ). (if (it.stage == number) && test it.kind then 1 else 0) + rest) (count-drawn number (next_of it.outs next) steps)
      ∙ sym (sum_by-cons (λ (it : Step). if (it.stage == number) && test it.kind then 1 else 0) it steps)

  count-append : (number : ℕ) (front back : List Step) → count_steps number (front ++ back) ≡ count_steps number front + count_steps number back
  count-append number front back = sum_by-append (λ (it : Step). if (it.stage == number) && test it.kind then 1 else 0) front back

  count-cons : (number : ℕ) (it : Step) (steps : List Step) → count_steps number (it ∷ steps) ≡ (if (it.stage == number) && test it.kind then 1 else 0) + count_steps number steps
  count-cons number it steps = sum_by-cons (λ (it : Step). if (it.stage == number) && test it.kind then 1 else 0) it steps

  own-count : (number : ℕ) (steps : List Step) → Own number steps → count_steps number steps ≡ count_by (λ (it : Step). test it.kind) steps
  own-count number [] own = refl
  own-count number (it ∷ steps) own =
      let parts = and_parts (it.stage == number) (list_all (λ (it : Step). it.stage == number) steps) own in
      count-cons number it steps
      ∙ ap (λ (here : Bool). (if here && test it.kind then 1 else 0) + count_steps number steps) parts.0
      ∙ ap (λ (rest : ℕ). (if test it.kind then 1 else 0) + rest) (own-count number steps parts.1)
      ∙ sym (sum_by-cons (λ (it : Step). if test it.kind then 1 else 0) it steps)

  other-count : (number other : ℕ) (steps : List Step) → Own number steps → (number ≡ other → ⊥) → count_steps other steps ≡ 0
  other-count number other [] own differ = refl
  other-count number other (it ∷ steps) own differ =
      let parts = and_parts (it.stage == number) (list_all (λ (it : Step). it.stage == number) steps) own in
      let none : (it.stage == other) ≡ false = ne_eqb it.stage other (λ same. differ (sym (eqb-true it.stage number parts.0) ∙ same)) in
      let rest = other-count number other steps parts.1 differ in
      let sum : 0 + count_steps other steps ≡ 0 = omega (arith, rest) in
      count-cons other it steps
      ∙ ap (λ (here : Bool). (if here && test it.kind then 1 else 0) + count_steps other steps) none ∙ sum

  later-count : (number : ℕ) (steps : List Step) → Later number steps → count_steps number steps ≡ 0
  later-count number [] later = refl
  later-count number (it ∷ steps) later =
      let parts = and_parts (nat_lt number it.stage) (list_all (λ (it : Step). nat_lt number it.stage) steps) later in
      let less = ltb-true number it.stage parts.0 in
      let none : (it.stage == number) ≡ false = ne_eqb it.stage number (λ same. omega (arith, same, less)) in
      let rest = later-count number steps parts.1 in
      let sum : 0 + count_steps number steps ≡ 0 = omega (arith, rest) in
      count-cons number it steps
      ∙ ap (λ (here : Bool). (if here && test it.kind then 1 else 0) + count_steps number steps) none ∙ sum

-- THE STAGE OF EACH NODE
own-append : (number : ℕ) (front back : List Step) → Own number front → Own number back → Own number (front ++ back)
own-append number front back first second =
    list_all-append (λ (it : Step). it.stage == number) front back
    ∙ and_from (list_all (λ (it : Step). it.stage == number) front) (list_all (λ (it : Step). it.stage == number) back) first second

later-append : (number : ℕ) (front back : List Step) → Later number front → Later number back → Later number (front ++ back)
later-append number front back first second =
    list_all-append (λ (it : Step). nat_lt number it.stage) front back
    ∙ and_from (list_all (λ (it : Step). nat_lt number it.stage) front) (list_all (λ (it : Step). nat_lt number it.stage) back) first second

own-later : (number other : ℕ) (steps : List Step) → other < number → Own number steps → Later other steps
own-later number other [] less own = refl
own-later number other (it ∷ steps) less own =
    let parts = and_parts (it.stage == number) (list_all (λ (it : Step). it.stage == number) steps) own in
    let same = eqb-true it.stage number parts.0 in
    and_from (nat_lt other it.stage) (list_all (λ (it : Step). nat_lt other it.stage) steps) (lt-ltb other it.stage (omega (arith, less, same))) (own-later number other steps less parts.1)

-- those that join no maps, and those that do
abbrev is_own : ℕ → Step → Bool
is_own number it = it.stage == number

plain-own : (number : ℕ) (it : NodeKind) (ins : List ℕ) → joins_none it ≡ true → is_own number (step it ins number) ≡ true
plain-own number it ins none = eq-eqb number number refl

split-own : (number : ℕ) (ins : List ℕ) (parts : ℕ) → is_own number (split_step ins parts number) ≡ true
split-own number ins parts = eq-eqb number number refl

one-own : (number : ℕ) (it : NodeKind) (ins : List ℕ) → Own number (step it ins number ∷ [])
one-own number it ins = and_from (number == number) true (eq-eqb number number refl) refl

tree-own : (number : ℕ) (inv : Inv) (tree : Tree) (next : ℕ) → Own number (tree_steps number inv tree next)
tree-own number inv (Leaf edge) next = refl
tree-own number inv (Join one other) next =
    let left : List Step = tree_steps number inv one next in
    let right : List Step = tree_steps number inv other (next + joins_of one) in
    let ins : List ℕ = tree_edge one next ∷ tree_edge other (next + joins_of one) ∷ [] in
    own-append number (left ++ right) (step (kind.Agg inv) ins number ∷ []) (own-append number left right (tree-own number inv one next) (tree-own number inv other (next + joins_of one)))
    (one-own number (kind.Agg inv) ins)

fold-own : (number : ℕ) (inv : Inv) (parts : Parts) (next : ℕ) → Own number (fold_steps number inv parts.edges next)
fold-own number inv parts next =
    let tree : Tree = tree_of (length parts.edges) parts.edges in
    let edge : ℕ = tree_edge tree next in
    pass-if (is_own number) (has_aggregator (class_of inv)) (tree_steps number inv tree next ++ finish_steps number inv edge) []
    (own-append number (tree_steps number inv tree next) (finish_steps number inv edge) (tree-own number inv tree next)
    (pass-if (is_own number) (has_finish inv) (step (kind.Finish inv) (edge ∷ []) number ∷ []) [] (one-own number (kind.Finish inv) (edge ∷ [])) refl)) refl

does-own : (width number : ℕ) (leads : Bool) (it : Does) (text edges : List ℕ) (next : ℕ) → Own number (does_steps width number leads it text edges next)
does-own width number leads does.Skip text edges next = one-own number (kind.Text text) []
does-own width number leads (does.Util inv) text edges next =
    let mapped : List Step = mapped_steps width number inv edges next in
    let folds : List Step = fold_steps number inv (mapped_edges width number inv edges next) (behind next mapped) in
    pass-if (is_own number) (is_leading_cat leads inv) (if is_none edges then step (kind.Text []) [] number ∷ [] else []) (if is_spread width inv then mapped ++ folds else step (kind.Whole inv) edges number ∷ [])
    (none-plain number (is_own number) (plain-own number) (split-own number) edges)
    (pass-if (is_own number) (is_spread width inv) (mapped ++ folds) (step (kind.Whole inv) edges number ∷ [])
    (own-append number mapped folds (mapped-plain number (is_own number) (plain-own number) (split-own number) width inv edges next) (fold-own number inv (mapped_parts width number inv edges next false) (behind next mapped)))
    (one-own number (kind.Whole inv) edges))

stage-own : (width number : ℕ) (leads : Bool) (it : Does) (ins : List In) (text edges : List ℕ) (next : ℕ) → Own number (stage_steps width number leads it ins text edges next)
stage-own width number leads it ins text edges next =
    pass-if (is_own number) (is_grouped width leads it ins) (group_steps width number edges) (does_steps width number leads it text edges next)
    (cats-plain number (is_own number) (plain-own number) (split-own number) (groups_from width edges 0 width)) (does-own width number leads it text edges next)

module _ (width number : ℕ) (comes : Coming) (stage : Stage) (next : ℕ) where
  main-own : Own number (main_steps width number comes stage next)
  main-own =
      let front : List Step = front_steps number comes stage next in
      let done : List Step = done_steps width number comes stage next in
      let parts : Parts = done_parts width number comes stage next in
      let besides : List Step = beside_steps number stage.does stage.tees stage.first parts (done_next width number comes stage next) in
      own-append number front (done ++ besides) (front-plain number (is_own number) (plain-own number) (split-own number) comes stage next)
      (own-append number done besides (stage-own width number (begins comes) stage.does stage.ins stage.first (front_edges number comes stage next) (front_next number comes stage next))
      (beside-plain number (is_own number) (plain-own number) (split-own number) stage.does stage.tees stage.first parts (done_next width number comes stage next)))

  last-own : Own number (last_steps width number comes stage next)
  last-own =
      let parts : Parts = main_parts width number comes stage next in
      let from : ℕ = main_next width number comes stage next in
      own-append number (main_steps width number comes stage next) (ends_from number stage parts from) main-own
      (ends-plain number (is_own number) (plain-own number) (split-own number) stage parts from (end_next width number comes stage next))

  earlier-own : (following : Stage) → Own number (earlier_steps width number comes stage next following)
  earlier-own following =
      own-append number (main_steps width number comes stage next) (goes_steps width number comes stage next following) main-own
      (goes-plain number (is_own number) (plain-own number) (split-own number) width stage following (main_parts width number comes stage next) (main_next width number comes stage next))

-- those of later stages
chain-later : (width number : ℕ) (comes : Coming) (stages : List Stage) (next other : ℕ) → other < number → Later other (chain_steps width number comes stages next)
chain-later width number comes [] next other less = refl
chain-later width number comes (stage ∷ []) next other less = own-later number other (last_steps width number comes stage next) less (last-own width number comes stage next)
chain-later width number comes (stage ∷ following ∷ stages) next other less =
    let here : List Step = earlier_steps width number comes stage next following in
    let on : Coming = comes_behind width number comes stage next following in
    later-append other here (chain_steps width (number + 1) on (following ∷ stages) (behind next here))
    (own-later number other here less (earlier-own width number comes stage next following))
    (chain-later width (number + 1) on (following ∷ stages) (behind next here) other (omega (arith, less)))

-- MAPS AND WHOLES
-- a kind of node that only utilities have
pub record IsUtil (test : NodeKind → Bool) : Type 0 where
  pub text : (text : List ℕ) → test (kind.Text text) ≡ false
  pub cat : (close : Bool) → test (kind.Cat close) ≡ false
  pub drain : test kind.Drain ≡ false
  pub split : test kind.Split ≡ false
  pub source : (source : From) → test (kind.Source source) ≡ false
  pub sink : (sink : To) → test (kind.Sink sink) ≡ false
  pub tee : (path : Components) (mode : Mode) → test (kind.TeeFile path mode) ≡ false

some-same : (one other : Stage) → Some one ≡ Some other → one ≡ other
some-same one other same = ap (λ (it : Option Stage). stage_in one it) same
  where
    stage_in : Stage → Option Stage → Stage
    stage_in spare None = spare
    stage_in spare (Some it) = it

-- the first may lead
abbrev leads_so : Bool → ℕ → Bool
leads_so leads zero = leads
leads_so leads (suc place) = false

-- as many as its utility has
module _ (width : ℕ) (test : NodeKind → Bool) (each : Bool → Does → ℕ) (is_util : IsUtil test)
    (utils : (leads : Bool) (it : Does) (count : ℕ) → util_value width 0 (sum width) (number_value width test) leads it count ≡ each leads it) where
  no-source : (source : From) → number_value width test (kind.Source source) 0 1 ≡ 0
  no-source source = ap (λ (is : Bool). if is then 1 else 0) (is_util.source source)

  no-sink : (sink : To) → number_value width test (kind.Sink sink) 1 0 ≡ 0
  no-sink sink = ap (λ (is : Bool). if is then 1 else 0) (is_util.sink sink)

  gathers : Gathers width 0 (sum width) (number_value width test)
  gathers = number-gathers width test is_util.text is_util.cat is_util.drain is_util.split

  no-tees : (stage : Stage) → teed_value width 0 (sum width) (number_value width test) stage.does stage.tees ≡ 0
  no-tees stage = teed-none width 0 (sum width) (number_value width test) gathers (λ path mode. ap (λ (is : Bool). if is then 1 else 0) (is_util.tee path mode)) stage.does stage.tees

  no-ins : (ins : List In) → ins_value width 0 (sum width) (number_value width test) 0 ins ≡ 0
  no-ins [] = refl
  no-ins (inlet.Stream ∷ ins) = let rest = no-ins ins in omega (arith, rest)
  no-ins (inlet.File path closed ∷ ins) = let here = no-source (from.File path) in let rest = no-ins ins in omega (arith, here, rest)
  no-ins (inlet.Empty ∷ ins) = let rest = no-ins ins in omega (arith, rest)

  no-stream : (comes : Coming) → stream_value width 0 (sum width) (number_value width test) comes ≡ 0
  no-stream (coming.Begins begin) = by_first begin.now
    where
      by_first : (begin : First) → first_value width 0 (sum width) (number_value width test) begin ≡ 0
      by_first first.Input = no-source from.Input
      by_first (first.Text text) = refl
  no-stream (coming.On parts) = refl
  no-stream coming.Nothing = refl

  no-file : (it : Out) → file_value width 0 (sum width) (number_value width test) it ≡ 0
  no-file out.Next = refl
  no-file (out.File path mode) = no-sink (to.File path mode)
  no-file out.Null = refl

  no-goes : (it : Out) (piped : List ℕ) → goes_value width 0 (sum width) (number_value width test) it piped ≡ 0
  no-goes it piped = by_test (goes_on it piped)
    where
      by_test : (goes : Bool) → (if goes then number_value width test (kind.Sink to.Output) 1 0 else 0) ≡ 0
      by_test true = no-sink to.Output
      by_test false = refl

  main-value : (comes : Coming) (stage : Stage)
      → main_value width 0 (sum width) (number_value width test) (stream_value width 0 (sum width) (number_value width test) comes) (begins comes) stage ≡ each (begins comes) stage.does
  main-value comes stage =
      let ins : ins_value width 0 (sum width) (number_value width test) (stream_value width 0 (sum width) (number_value width test) comes) (ins_of stage) ≡ 0 =
      ap (λ (stream : ℕ). ins_value width 0 (sum width) (number_value width test) stream (ins_of stage)) (no-stream comes) ∙ no-ins (ins_of stage) in
      let own = utils (begins comes) stage.does (read_count stage.does (length stage.ins)) in
      let teed = no-tees stage in
      omega (arith, ins, own, teed)

  module _ (number : ℕ) (comes : Coming) (stage : Stage) (next : ℕ) (is : is_stage stage ≡ true) (may : MayCome width comes stage) where
    last-own-count : count_by (λ (it : Step). test it.kind) (last_steps width number comes stage next) ≡ each (begins comes) stage.does
    last-own-count =
        let count = number-found width test (last_steps width number comes stage next) in
        let whole = last-gathered width 0 (sum width) (number_value width test) gathers number comes stage next is may in
        let main = main-value comes stage in
        let file = no-file stage.out in
        let goes = no-goes stage.out stage.piped in
        omega (arith, count, whole, main, file, goes)

    earlier-own-count : (following : Stage) → count_by (λ (it : Step). test it.kind) (earlier_steps width number comes stage next following) ≡ each (begins comes) stage.does
    earlier-own-count following =
        let count = number-found width test (earlier_steps width number comes stage next following) in
        let whole = earlier-gathered width 0 (sum width) (number_value width test) gathers number comes stage following next is may in
        let main = main-value comes stage in
        let file = no-file stage.out in
        omega (arith, count, whole, main, file)

  -- the stage at this place has its own
  chain-count : (number : ℕ) (comes : Coming) (stage : Stage) (stages : List Stage) (next place : ℕ) (it : Stage) → slice_get (stage ∷ stages) place ≡ Some it → list_all is_stage (stage ∷ stages) ≡ true → MayCome width comes stage
      → count_steps test (number + place) (chain_steps width number comes (stage ∷ stages) next) ≡ each (leads_so (begins comes) place) it.does
  chain-count number comes stage [] next zero it found all may =
      let here : number + 0 ≡ number = omega arith in
      let steps : List Step = last_steps width number comes stage next in
      ap (λ (at : ℕ). count_steps test at steps) here ∙ own-count test number steps (last-own width number comes stage next)
      ∙ last-own-count number comes stage next (and_parts (is_stage stage) true all).0 may ∙ ap (λ (it : Stage). each (begins comes) it.does) (some-same stage it found)
  chain-count number comes stage [] next (suc place) it found all may = absurd (true≢false (sym (ap is_some found)))
  chain-count number comes stage (following ∷ stages) next zero it found all may =
      let at : number + 0 ≡ number = omega arith in
      let here : List Step = earlier_steps width number comes stage next following in
      let rest : List Step = chain_steps width (number + 1) (comes_behind width number comes stage next following) (following ∷ stages) (behind next here) in
      let parts = and_parts (is_stage stage) (list_all is_stage (following ∷ stages)) all in
      let none = later-count test number rest (chain-later width (number + 1) (comes_behind width number comes stage next following) (following ∷ stages) (behind next here) number (omega arith)) in
      let own = own-count test number here (earlier-own width number comes stage next following) in
      let both = count-append test number here rest in
      let sum : count_steps test number (here ++ rest) ≡ count_by (λ (it : Step). test it.kind) here = omega (arith, both, none, own) in
      ap (λ (at : ℕ). count_steps test at (here ++ rest)) at ∙ sum
      ∙ earlier-own-count number comes stage next parts.0 may following ∙ ap (λ (it : Stage). each (begins comes) it.does) (some-same stage it found)
  chain-count number comes stage (following ∷ stages) next (suc place) it found all may =
      let at : number + suc place ≡ (number + 1) + place = omega arith in
      let here : List Step = earlier_steps width number comes stage next following in
      let on : Coming = comes_behind width number comes stage next following in
      let rest : List Step = chain_steps width (number + 1) on (following ∷ stages) (behind next here) in
      let parts = and_parts (is_stage stage) (list_all is_stage (following ∷ stages)) all in
      let none = other-count test number (number + suc place) here (earlier-own width number comes stage next following) (λ same. omega (arith, same)) in
      let both = count-append test (number + suc place) here rest in
      let sum : count_steps test (number + suc place) (here ++ rest) ≡ count_steps test (number + suc place) rest = omega (arith, both, none) in
      sum ∙ ap (λ (at : ℕ). count_steps test at rest) at
      ∙ chain-count (number + 1) on following stages (behind next here) place it found parts.1 (goes-may width number comes stage following next)
      ∙ ap (λ (leads : Bool). each (leads_so leads place) it.does) (begins-behind width number comes stage next following) ∙ ap (λ (leads : Bool). each leads it.does) (later-leads place)
    where
      later-leads : (place : ℕ) → leads_so false place ≡ false
      later-leads zero = refl
      later-leads (suc place) = refl

-- how many its utility has
module _ (width : ℕ) where
  maps-util : IsUtil is_map
  maps-util = record { text = λ text. refl; cat = λ close. refl; drain = refl; split = refl; source = λ source. refl; sink = λ sink. refl; tee = λ path mode. refl }

  wholes-util : IsUtil is_whole
  wholes-util = record { text = λ text. refl; cat = λ close. refl; drain = refl; split = refl; source = λ source. refl; sink = λ sink. refl; tee = λ path mode. refl }

  aggs-util : IsUtil is_aggregate
  aggs-util = record { text = λ text. refl; cat = λ close. refl; drain = refl; split = refl; source = λ source. refl; sink = λ sink. refl; tee = λ path mode. refl }

  finishes-util : IsUtil is_finish
  finishes-util = record { text = λ text. refl; cat = λ close. refl; drain = refl; split = refl; source = λ source. refl; sink = λ sink. refl; tee = λ path mode. refl }

  -- so many ones, or nothing so often
  abbrev times_of : ℕ → ℕ → ℕ
  times_of zero count = 0
  times_of (suc one) count = count

  times-is : (test : NodeKind → Bool) (one count : ℕ) → one ≤ 1 → repeated width 0 (sum width) (number_value width test) count one ≡ times_of one count
  times-is test one zero few = by_one one
    where
      by_one : (one : ℕ) → 0 ≡ times_of one 0
      by_one zero = refl
      by_one (suc one) = refl
  times-is test zero (suc count) few = let rest = times-is test zero count few in omega (arith, rest)
  times-is test (suc one) (suc count) few = let rest = times-is test (suc one) count few in omega (arith, rest, few)

  maps-each : (leads : Bool) (it : Does) (count : ℕ) → util_value width 0 (sum width) (number_value width is_map) leads it count ≡ maps_of width leads it
  maps-each leads does.Skip count = refl
  maps-each leads (does.Util inv) count = by_test (is_leading_cat leads inv) (is_spread width inv) (has_aggregator (class_of inv)) (has_finish inv)
    where
      by_test : (cat spread folds finishes : Bool)
          → ◌≡◌ {A = ℕ} (if cat then 0 else if spread then repeated width 0 (sum width) (number_value width is_map) width 1 + (if folds then repeated width 0 (sum width) (number_value width is_map) (width - 1) 0 + (if finishes then 0 else 0) else 0) else 0)
          (if cat then 0 else if spread then width else 0)
      by_test true spread folds finishes = refl
      by_test false false folds finishes = refl
      by_test false true true true = let maps = times-is is_map 1 width (omega arith) in let aggs = times-is is_map 0 (width - 1) (omega arith) in omega (arith, maps, aggs)
      by_test false true true false = let maps = times-is is_map 1 width (omega arith) in let aggs = times-is is_map 0 (width - 1) (omega arith) in omega (arith, maps, aggs)
      by_test false true false finishes = let maps = times-is is_map 1 width (omega arith) in omega (arith, maps)

  wholes-each : (leads : Bool) (it : Does) (count : ℕ) → util_value width 0 (sum width) (number_value width is_whole) leads it count ≡ wholes_of width leads it
  wholes-each leads does.Skip count = refl
  wholes-each leads (does.Util inv) count = by_test (is_leading_cat leads inv) (is_spread width inv) (has_aggregator (class_of inv)) (has_finish inv)
    where
      by_test : (cat spread folds finishes : Bool)
          → ◌≡◌ {A = ℕ} (if cat then 0 else if spread then repeated width 0 (sum width) (number_value width is_whole) width 0 + (if folds then repeated width 0 (sum width) (number_value width is_whole) (width - 1) 0 + (if finishes then 0 else 0) else 0) else 1)
          (if cat then 0 else if spread then 0 else 1)
      by_test true spread folds finishes = refl
      by_test false false folds finishes = refl
      by_test false true true true = let maps = times-is is_whole 0 width (omega arith) in let aggs = times-is is_whole 0 (width - 1) (omega arith) in omega (arith, maps, aggs)
      by_test false true true false = let maps = times-is is_whole 0 width (omega arith) in let aggs = times-is is_whole 0 (width - 1) (omega arith) in omega (arith, maps, aggs)
      by_test false true false finishes = let maps = times-is is_whole 0 width (omega arith) in omega (arith, maps)

  aggs-each : (leads : Bool) (it : Does) (count : ℕ) → util_value width 0 (sum width) (number_value width is_aggregate) leads it count ≡ aggregates_of width leads it
  aggs-each leads does.Skip count = refl
  aggs-each leads (does.Util inv) count = by_test (is_leading_cat leads inv) (is_spread width inv) (has_aggregator (class_of inv)) (has_finish inv)
    where
      by_test : (cat spread folds finishes : Bool)
          → ◌≡◌ {A = ℕ} (if cat then 0 else if spread then repeated width 0 (sum width) (number_value width is_aggregate) width 0 + (if folds then repeated width 0 (sum width) (number_value width is_aggregate) (width - 1) 1 + (if finishes then 0 else 0) else 0) else 0)
          (if cat then 0 else if spread then (if folds then width - 1 else 0) else 0)
      by_test true spread folds finishes = refl
      by_test false false folds finishes = refl
      by_test false true true true = let maps = times-is is_aggregate 0 width (omega arith) in let aggs = times-is is_aggregate 1 (width - 1) (omega arith) in omega (arith, maps, aggs)
      by_test false true true false = let maps = times-is is_aggregate 0 width (omega arith) in let aggs = times-is is_aggregate 1 (width - 1) (omega arith) in omega (arith, maps, aggs)
      by_test false true false finishes = let maps = times-is is_aggregate 0 width (omega arith) in omega (arith, maps)

  finishes-each : (leads : Bool) (it : Does) (count : ℕ) → util_value width 0 (sum width) (number_value width is_finish) leads it count ≡ finishes_of width leads it
  finishes-each leads does.Skip count = refl
  finishes-each leads (does.Util inv) count = by_test (is_leading_cat leads inv) (is_spread width inv) (has_aggregator (class_of inv)) (has_finish inv)
    where
      by_test : (cat spread folds finishes : Bool)
          → ◌≡◌ {A = ℕ} (if cat then 0 else if spread then repeated width 0 (sum width) (number_value width is_finish) width 0 + (if folds then repeated width 0 (sum width) (number_value width is_finish) (width - 1) 0 + (if finishes then 1 else 0) else 0) else 0)
          (if cat then 0 else if spread then (if folds then (if finishes then 1 else 0) else 0) else 0)
      by_test true spread folds finishes = refl
      by_test false false folds finishes = refl
      by_test false true true true = let maps = times-is is_finish 0 width (omega arith) in let aggs = times-is is_finish 0 (width - 1) (omega arith) in omega (arith, maps, aggs)
      by_test false true true false = let maps = times-is is_finish 0 width (omega arith) in let aggs = times-is is_finish 0 (width - 1) (omega arith) in omega (arith, maps, aggs)
      by_test false true false finishes = let maps = times-is is_finish 0 width (omega arith) in omega (arith, maps)

  leads-is : (place : ℕ) (leads : Bool) → leads ≡ true → leads_so leads place ≡ (place == 0)
  leads-is zero leads is = is
  leads-is (suc place) leads is = sym (ne_eqb (suc place) 0 (λ same. omega (arith, same)))

  pub chain-spread : (comes : Coming) (stage : Stage) (stages : List Stage) → begins comes ≡ true → list_all is_stage (stage ∷ stages) ≡ true → MayCome width comes stage
      → HasItsGroups width (stage ∷ stages) (drawn 0 (chain_steps width 0 comes (stage ∷ stages) 0)) → IsSpread width (stage ∷ stages) (drawn 0 (chain_steps width 0 comes (stage ∷ stages) 0))
  chain-spread comes stage stages leads all may grouped =
      let steps : List Step = chain_steps width 0 comes (stage ∷ stages) 0 in
      record {
        stages = λ place it found. (let at : 0 + place ≡ place = omega arith in
            let first : leads_so (begins comes) place ≡ (place == 0) = leads-is place (begins comes) leads in
            record {
              maps = count-drawn is_map place 0 steps ∙ ap (λ (at : ℕ). count_steps is_map at steps) (sym at)
                  ∙ chain-count width is_map (maps_of width) maps-util maps-each 0 comes stage stages 0 place it found all may ∙ ap (λ (leads : Bool). maps_of width leads it.does) first;
              wholes = count-drawn is_whole place 0 steps ∙ ap (λ (at : ℕ). count_steps is_whole at steps) (sym at)
                  ∙ chain-count width is_whole (wholes_of width) wholes-util wholes-each 0 comes stage stages 0 place it found all may ∙ ap (λ (leads : Bool). wholes_of width leads it.does) first;
              aggregates = count-drawn is_aggregate place 0 steps ∙ ap (λ (at : ℕ). count_steps is_aggregate at steps) (sym at)
                  ∙ chain-count width is_aggregate (aggregates_of width) aggs-util aggs-each 0 comes stage stages 0 place it found all may ∙ ap (λ (leads : Bool). aggregates_of width leads it.does) first;
              finishes = count-drawn is_finish place 0 steps ∙ ap (λ (at : ℕ). count_steps is_finish at steps) (sym at)
                  ∙ chain-count width is_finish (finishes_of width) finishes-util finishes-each 0 comes stage stages 0 place it found all may ∙ ap (λ (leads : Bool). finishes_of width leads it.does) first;
            });
        groups = grouped;
        unsplit = λ one. all-drawn is_unsplit 0 steps
            ∙ chain-all width (λ kind ins outs. is_unsplit kind) (record {
              text = λ text. refl;
              cat = λ close count some. refl;
              drain = refl;
              source = λ source. refl;
              whole = λ inv count built inputs. refl;
              split = λ wide. absurd (omega (arith, wide, one));
              map = λ inv built spread. refl;
              agg = λ inv built spread folds. refl;
              finish = λ inv built spread folds. refl;
            }) (λ path mode. refl) (λ sink. refl) 0 comes (stage ∷ stages) 0 all may;
      }
