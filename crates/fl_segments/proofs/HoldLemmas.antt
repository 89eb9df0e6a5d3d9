-- In the graph of a segment aggregates and finishes join maps of their own words.
use Rattle.std.proofs.Common.{◌≡◌, ℕ, ◌+◌, ◌≤◌, List, [], ◌∷◌, ◌++◌, Bool, true, false, ◌&&◌, if◌then◌else◌, length, refl, ap, sym, subst, ◌∙◌, length-append, arith}
use Rattle.std.specs.List.{list_all, range_with_len}
use Rattle.std.proofs.lemmas.Bool.{and_from, and_parts, leb-true}
use Rattle.ut_args.specs.Classes.{class_of}
use Rattle.ut_args.specs.Invocations.{words_of}
use Rattle.ut_args.specs.declared.invocations.Inv.{Inv}
use Rattle.fl_graph.specs.Kinds.{has_aggregator}
use Rattle.fl_graph.specs.Makers.{Absent, Made, Mapped, absent, is_mapped, joins_maps}
use Rattle.fl_graph.specs.declared.kinds.NodeKind.{NodeKind}
use Rattle.fl_graph.specs.declared.kinds.NodeKind.TheVariants as kind
use Rattle.fl_segments.specs.Stages.{has_finish, is_none, is_spread, is_stage}
use Rattle.fl_segments.specs.Inner.Drawing.{Step, behind, drawn, split_step, step}
use Rattle.fl_segments.specs.Inner.Steps.{Tree, begins, beside_steps, chain_steps, comes_behind, does_steps, done_next, done_parts, done_steps, earlier_steps, end_next, finish_steps, fold_steps, front_edges, front_next, front_steps, goes_steps, group_steps, groups_from, is_leading_cat, last_steps, main_next, main_parts, main_steps, map_steps, mapped_parts, mapped_steps, out_steps, split_edges, split_steps, spread_steps, stage_steps, tree_edge, tree_of, tree_steps, util_steps, whole_edge, whole_steps, folded_steps}
use Rattle.fl_segments.specs.declared.parts.Coming.{Coming}
use Rattle.fl_segments.specs.declared.parts.Parts.{Parts}
use Rattle.fl_segments.specs.declared.stages.Does.{Does}
use Rattle.fl_segments.specs.declared.stages.Does.TheVariants as does
use Rattle.fl_segments.specs.declared.stages.Stage.{Stage}
use Rattle.fl_segments.proofs.DrawingLemmas.{AreBelow, joins_none}
use Rattle.fl_segments.proofs.FitLemmas.{few-streams}
use Rattle.fl_segments.proofs.JoinLemmas.{AllMapped, Holds, TreeHolds, holds-append, keeps-made, made-append, made-count, made-drawn, made_at, made_behind, mapped-self, none-holds, tree-holds}
use Rattle.fl_segments.specs.Groups.{is_grouped}
use Rattle.fl_segments.proofs.PlainLemmas.{beside-plain, cats-plain, ends-plain, front-plain, goes-plain, mapped-plain, none-plain, text-plain, util-plain}
use Rattle.fl_segments.proofs.RowLemmas.{get-here}
use Rattle.fl_segments.proofs.StageLemmas.{AllBelow, earlier-passes, front-passes, leaves, leaves-are, mapped-passes, mapped-some, open_coming, split-count, spread-wide}

-- nodes that join nothing
abbrev no_join : Step → Bool
no_join it = joins_none it.kind

plain-so : (number : ℕ) (it : NodeKind) (ins : List ℕ) → joins_none it ≡ true → no_join (step it ins number) ≡ true
plain-so number it ins none = none

split-so : (number : ℕ) (ins : List ℕ) (parts : ℕ) → no_join (split_step ins parts number) ≡ true
split-so number ins parts = refl

module _ (number : ℕ) (inv : Inv) where
  -- maps have the words of their utility
  maps-made : (edges : List ℕ) (made : List Made) → AllMapped number inv (made_behind made (map_steps number inv edges)) (range_with_len (length made) (length edges))
  maps-made [] made = refl
  maps-made (edge ∷ edges) made =
      let words : List (List ℕ) = words_of inv in
      let on : List Made = made ++ Mapped words ∷ [] in
      let rest : List Step = map_steps number inv edges in
      let size : length on ≡ length made + 1 = length-append made (Mapped words ∷ []) in
      and_from (is_mapped words (made_at (made_behind on rest) (length made))) (list_all (λ edge. is_mapped words (made_at (made_behind on rest) edge)) (range_with_len (length made + 1) (length edges)))
      (ap (is_mapped words) (keeps-made on rest (length made) (omega (arith, size)) ∙ get-here made [] (Mapped words) Absent) ∙ mapped-self number inv)
      (subst (λ (from : ℕ). AllMapped number inv (made_behind on rest) (range_with_len from (length edges))) size (maps-made edges on))

  mapped-made : (width : ℕ) (edges : List ℕ) (cut : Bool) (made : List Made)
      → AllMapped number inv (made_behind made (mapped_steps width number inv edges (length made))) (mapped_parts width number inv edges (length made) cut).edges
  mapped-made width edges cut made =
      let split : List Step = split_steps width number edges in
      let parts : List ℕ = split_edges width edges (length made) in
      let on : List Made = made_behind made split in
      subst (λ (all : List Made). AllMapped number inv all (range_with_len (behind (length made) split) width)) (sym (made-append made split (map_steps number inv parts)))
      (subst (λ (from : ℕ). AllMapped number inv (made_behind on (map_steps number inv parts)) (range_with_len from width)) (made-count made split)
      (subst (λ (count : ℕ). AllMapped number inv (made_behind on (map_steps number inv parts)) (range_with_len (length on) count)) (split-count width edges (length made)) (maps-made parts on)))

  -- what is made of maps
  fold-holds : (parts : Parts) (made : List Made) → 1 ≤ length parts.edges → AllBelow (length made) parts.edges → AllMapped number inv made parts.edges → Holds made (fold_steps number inv parts.edges (length made))
  fold-holds parts made some all mapped = by_test (has_aggregator (class_of inv))
    where
      by_finish : (edge : ℕ) (made : List Made) (finishes : Bool) → AllMapped number inv made (edge ∷ []) → Holds made (if finishes then step (kind.Finish inv) (edge ∷ []) number ∷ [] else [])
      by_finish edge made true mapped = and_from (is_mapped (words_of inv) (made_at made edge) && true) true mapped refl
      by_finish edge made false mapped = refl

      by_test : (folds : Bool)
          → Holds made (if folds then folded_steps number inv parts.edges (length made) else [])
      by_test false = refl
      by_test true =
          let tree : Tree = tree_of (length parts.edges) parts.edges in
          let took : leaves tree ≡ parts.edges = leaves-are (length parts.edges) parts.edges some (omega arith) in
          let it : TreeHolds number inv tree made = tree-holds number inv tree made (subst (AllBelow (length made)) (sym took) all) (subst (AllMapped number inv made) (sym took) mapped) in
          holds-append made (tree_steps number inv tree (length made)) (finish_steps number inv (tree_edge tree (length made))) it.holds
          (by_finish (tree_edge tree (length made)) (made_behind made (tree_steps number inv tree (length made))) (has_finish inv) it.mapped)

  util-holds : (width : ℕ) (leads : Bool) (edges : List ℕ) (made : List Made) → AllBelow (length made) edges → Holds made (util_steps width number leads inv edges (length made))
  util-holds width leads edges made all = by_test (is_leading_cat leads inv) (is_spread width inv) refl
    where
      by_test : (cat spread : Bool) → is_spread width inv ≡ spread
          → Holds made (if cat then (if is_none edges then step (kind.Text []) [] number ∷ [] else []) else if spread then spread_steps width number inv edges (length made) else step (kind.Whole inv) edges number ∷ [])
      by_test true spread is = none-holds made (if is_none edges then step (kind.Text []) [] number ∷ [] else []) (none-plain number no_join (plain-so number) (split-so number) edges)
      by_test false false is = none-holds made (step (kind.Whole inv) edges number ∷ []) (util-plain number no_join (plain-so number) (split-so number) inv edges)
      by_test false true is =
          let wide = leb-true 2 width (spread-wide width inv is) in
          let mapped : List Step = mapped_steps width number inv edges (length made) in
          let parts : Parts = mapped_parts width number inv edges (length made) false in
          let on : List Made = made_behind made mapped in
          let size : length on ≡ behind (length made) mapped = made-count made mapped in
          holds-append made mapped (fold_steps number inv parts.edges (behind (length made) mapped))
          (none-holds made mapped (mapped-plain number no_join (plain-so number) (split-so number) width inv edges (length made)))
          (subst (λ (from : ℕ). Holds on (fold_steps number inv parts.edges from)) size
          (fold-holds parts on (mapped-some width number inv edges false (length made) (omega (arith, wide)))
          (subst (λ (size : ℕ). AllBelow size parts.edges) (sym size) ((mapped-passes width number inv edges false (length made)).within all)) (mapped-made width edges false made)))

-- A STAGE
module _ (width number : ℕ) (comes : Coming) (stage : Stage) (made : List Made) (is : is_stage stage ≡ true) (all : AllBelow (length made) (open_coming comes)) where
  main-holds : Holds made (main_steps width number comes stage (length made))
  main-holds =
      let front : List Step = front_steps number comes stage (length made) in
      let done : List Step = done_steps width number comes stage (length made) in
      let edges : List ℕ = front_edges number comes stage (length made) in
      let parts : Parts = done_parts width number comes stage (length made) in
      let next : ℕ = done_next width number comes stage (length made) in
      let besides : List Step = beside_steps number stage.does stage.tees stage.first parts next in
      let on : List Made = made_behind made front in
      let size : length on ≡ front_next number comes stage (length made) = made-count made front in
      let below : AllBelow (length on) edges = subst (λ (size : ℕ). AllBelow size edges) (sym size) ((front-passes width number comes stage (length made) (few-streams stage is)).within all) in
      holds-append made front (done ++ besides) (none-holds made front (front-plain number no_join (plain-so number) (split-so number) comes stage (length made)))
      (holds-append on done besides
      (subst (λ (from : ℕ). Holds on (stage_steps width number (begins comes) stage.does stage.ins stage.first edges from)) size (by_test (is_grouped width (begins comes) stage.does stage.ins) on edges below))
      (none-holds (made_behind on done) besides (beside-plain number no_join (plain-so number) (split-so number) stage.does stage.tees stage.first parts next)))
    where
      by_does : (it : Does) (on : List Made) (edges : List ℕ) → AllBelow (length on) edges → Holds on (does_steps width number (begins comes) it stage.first edges (length on))
      by_does does.Skip on edges below = none-holds on (step (kind.Text stage.first) [] number ∷ []) (text-plain number no_join (plain-so number) (split-so number) stage.first)
      by_does (does.Util inv) on edges below = util-holds number inv width (begins comes) edges on below

      by_test : (groups : Bool) (on : List Made) (edges : List ℕ) → AllBelow (length on) edges
          → Holds on (if groups then group_steps width number edges else does_steps width number (begins comes) stage.does stage.first edges (length on))
      by_test true on edges below =
          none-holds on (group_steps width number edges) (cats-plain number no_join (plain-so number) (split-so number) (groups_from width edges 0 width))
      by_test false on edges below = by_does stage.does on edges below

  last-holds : Holds made (last_steps width number comes stage (length made))
  last-holds =
      let main : List Step = main_steps width number comes stage (length made) in
      let parts : Parts = main_parts width number comes stage (length made) in
      let next : ℕ = main_next width number comes stage (length made) in
      let ends : List Step = whole_steps number parts.edges ++ out_steps number stage.out stage.piped (whole_edge parts.edges next) (end_next width number comes stage (length made)) in
      holds-append made main ends main-holds
      (none-holds (made_behind made main) ends (ends-plain number no_join (plain-so number) (split-so number) stage parts next (end_next width number comes stage (length made))))

  earlier-holds : (following : Stage) → Holds made (earlier_steps width number comes stage (length made) following)
  earlier-holds following =
      let main : List Step = main_steps width number comes stage (length made) in
      let goes : List Step = goes_steps width number comes stage (length made) following in
      holds-append made main goes main-holds
      (none-holds (made_behind made main) goes
      (goes-plain number no_join (plain-so number) (split-so number) width stage following (main_parts width number comes stage (length made)) (main_next width number comes stage (length made))))

pub chain-holds : (width number : ℕ) (comes : Coming) (stage : Stage) (stages : List Stage) (made : List Made) → list_all is_stage (stage ∷ stages) ≡ true → AllBelow (length made) (open_coming comes)
    → Holds made (chain_steps width number comes (stage ∷ stages) (length made))
chain-holds width number comes stage [] made is all = last-holds width number comes stage made (and_parts (is_stage stage) true is).0 all
chain-holds width number comes stage (following ∷ stages) made is all =
    let parts = and_parts (is_stage stage) (list_all is_stage (following ∷ stages)) is in
    let here : List Step = earlier_steps width number comes stage (length made) following in
    let on : Coming = comes_behind width number comes stage (length made) following in
    let later : List Made = made_behind made here in
    let size : length later ≡ behind (length made) here = made-count made here in
    holds-append made here (chain_steps width (number + 1) on (following ∷ stages) (behind (length made) here)) (earlier-holds width number comes stage made parts.0 all following)
    (subst (λ (from : ℕ). Holds later (chain_steps width (number + 1) on (following ∷ stages) from)) size
    (chain-holds width (number + 1) on following stages later parts.1
    (subst (λ (size : ℕ). AllBelow size (open_coming on)) (sym size) ((earlier-passes width number comes stage (length made) (few-streams stage parts.0) following).within all))))

-- so it is of the graph
pub chain-joins : (width : ℕ) (comes : Coming) (stage : Stage) (stages : List Stage) → list_all is_stage (stage ∷ stages) ≡ true → AllBelow 0 (open_coming comes)
    → AreBelow 0 (chain_steps width 0 comes (stage ∷ stages) 0) → joins_maps (drawn 0 (chain_steps width 0 comes (stage ∷ stages) 0)) ≡ true
chain-joins width comes stage stages is all below =
    let steps : List Step = chain_steps width 0 comes (stage ∷ stages) 0 in
    ap (list_all (λ (holds : Bool). holds)) (made-drawn [] steps absent below (λ edge within. absurd (omega (arith, within)))) ∙ chain-holds width 0 comes stage stages [] is all
