-- The maps of the parts of an input, aggregated two by two in any order of neighbours, are the map of the whole.
use Rattle.std.proofs.Common.{◌≡◌, ℕ, suc, ◌+◌, ◌<◌, ◌≤◌, List, [], ◌∷◌, ◌++◌, Bool, true, false, ◌&&◌, if◌then◌else◌, drop, get_or, length, map, nat_lt, refl, ap, sym, subst, ◌∙◌, append-nil, append_assoc, arith}
use Rattle.std.specs.List.{concat, list_all}
use Rattle.std.proofs.lemmas.Bool.{true≢false, and_parts, ltb-true}
use Rattle.std.proofs.lemmas.List.Folds.{list_all-append}
use Rattle.ps_lines.specs.Lines.{is_closed, is_cutlist, is_empty}
use Rattle.ps_world.specs.Paths.{Components}
use Rattle.ut_args.specs.declared.invocations.Inv.{Inv}
use Rattle.fl_graph.specs.declared.kinds.NodeKind.TheVariants as kind
use Rattle.fl_classes.specs.Aggregates.{joined_maps, map_of}
use Rattle.fl_classes.specs.Laws.{IsParallel}
use Rattle.fl_classes.proofs.CutLemmas.{cut-joined, cut-rest}
use Rattle.fl_segments.specs.Inner.Drawing.{Step, step}
use Rattle.fl_segments.specs.Inner.Steps.{Tree, Leaf, Join, joins_of, tree_edge, tree_steps}
use Rattle.fl_segments.proofs.MeaningLemmas.{keeps-text, text_at, texts-append, texts_behind, texts-count}
use Rattle.fl_segments.proofs.RowLemmas.{get-here, map-both}
use Rattle.fl_segments.proofs.StageLemmas.{AllBelow, all-more, all-parts, leaves, tree-behind, tree-passes}

-- LISTS THAT ARE CUT AT ENDS OF LINES
concat-append : (front back : List (List ℕ)) → concat (front ++ back) ≡ concat front ++ concat back
concat-append [] back = refl
concat-append (text ∷ front) back = ap (λ (rest : List ℕ). text ++ rest) (concat-append front back) ∙ sym (append_assoc text (concat front) (concat back))

cut-front : (front back : List (List ℕ)) → is_cutlist (front ++ back) ≡ true → is_cutlist front ≡ true
cut-front [] back cut = refl
cut-front (text ∷ front) back cut = by_closed (is_closed text) cut (cut-front front back)
  where
    by_closed : (closed : Bool) → (if closed then is_cutlist (front ++ back) else list_all is_empty (front ++ back)) ≡ true → (is_cutlist (front ++ back) ≡ true → is_cutlist front ≡ true)
        → (if closed then is_cutlist front else list_all is_empty front) ≡ true
    by_closed true cut later = later cut
    by_closed false none later = (and_parts (list_all is_empty front) (list_all is_empty back) (sym (list_all-append is_empty front back) ∙ none)).0

cut-back : (front back : List (List ℕ)) → is_cutlist (front ++ back) ≡ true → is_cutlist back ≡ true
cut-back [] back cut = cut
cut-back (text ∷ front) back cut = cut-back front back (cut-rest text (front ++ back) cut)

cut-one : (text : List ℕ) → is_cutlist (text ∷ []) ≡ true
cut-one text = either (is_closed text)
  where
    either : (closed : Bool) → (if closed then true else true) ≡ true
    either true = refl
    either false = refl

empties-empty : (texts : List (List ℕ)) → list_all is_empty texts ≡ true → is_empty (concat texts) ≡ true
empties-empty [] none = refl
empties-empty ([] ∷ texts) none = empties-empty texts none
empties-empty ((byte ∷ text) ∷ texts) none = absurd (true≢false (sym none))

-- two lists that follow each other, joined, are cut so
pub cut-two : (front back : List (List ℕ)) → is_cutlist (front ++ back) ≡ true → is_cutlist (concat front ∷ concat back ∷ []) ≡ true
cut-two [] back cut = cut-one (concat back)
cut-two (text ∷ front) back cut = cut-joined text (concat front) (concat back ∷ []) (by_closed (is_closed text) cut (cut-two front back))
  where
    by_closed : (closed : Bool) → (if closed then is_cutlist (front ++ back) else list_all is_empty (front ++ back)) ≡ true
        → (is_cutlist (front ++ back) ≡ true → is_cutlist (concat front ∷ concat back ∷ []) ≡ true)
        → (if closed then is_cutlist (concat front ∷ concat back ∷ []) else list_all is_empty (concat front ∷ concat back ∷ [])) ≡ true
    by_closed true cut later = later cut
    by_closed false none later =
        let parts = and_parts (list_all is_empty front) (list_all is_empty back) (sym (list_all-append is_empty front back) ∙ none) in
        ap (λ (first : Bool). first && (is_empty (concat back) && true)) (empties-empty front parts.0) ∙ ap (λ (second : Bool). second && true) (empties-empty back parts.1)

-- the aggregate of the maps of two of them is the map of both
joined-two : (inv : Inv) → IsParallel inv → (front back : List (List ℕ)) → is_cutlist (front ++ back) ≡ true
    → joined_maps inv (map_of inv (concat front)) (map_of inv (concat back)) ≡ map_of inv (concat (front ++ back))
joined-two inv law front back cut = sym (law.joins (concat front) (concat back) (cut-two front back cut)) ∙ ap (map_of inv) (sym (concat-append front back))

one-less : (edge next : ℕ) → AllBelow next (edge ∷ []) → edge < next
one-less edge next all = ltb-true edge next (and_parts (nat_lt edge next) true all).0

-- LISTS OF MAPS
-- where two lists joined are the maps of a third, that is two lists
record SplitsSo (f : List ℕ → List ℕ) (texts one other : List (List ℕ)) : Type 0 where
  front : List (List ℕ)
  back : List (List ℕ)
  whole : texts ≡ front ++ back
  first : one ≡ map f front
  second : other ≡ map f back

same-rest : (one other : List ℕ) (ones others : List (List ℕ)) → (one ∷ ones) ≡ (other ∷ others) → (one ≡ other) × (ones ≡ others)
same-rest one other ones others same = (ap (λ (all : List (List ℕ)). get_or all 0 one) same, ap (drop 1) same)

splits-so : (f : List ℕ → List ℕ) (texts one other : List (List ℕ)) → one ++ other ≡ map f texts → SplitsSo f texts one other
splits-so f texts [] other same = record { front = []; back = texts; whole = refl; first = refl; second = same }
splits-so f [] (text ∷ one) other same = let size : suc (length (one ++ other)) ≡ 0 = ap length same in absurd (omega (arith, size))
splits-so f (part ∷ texts) (text ∷ one) other same =
    let parts = same-rest text (f part) (one ++ other) (map f texts) same in
    let rest : SplitsSo f texts one other = splits-so f texts one other parts.1 in
    record {
      front = part ∷ rest.front;
      back = rest.back;
      whole = ap (λ (all : List (List ℕ)). part ∷ all) rest.whole;
      first = ap (λ (text : List ℕ). text ∷ one) parts.0 ∙ ap (λ (all : List (List ℕ)). f part ∷ all) rest.first;
      second = rest.second;
    }

one-text : (f : List ℕ → List ℕ) (text : List ℕ) (texts : List (List ℕ)) → (text ∷ []) ≡ map f texts → text ≡ f (concat texts)
one-text f text [] same = let size : 1 ≡ 0 = ap length same in absurd (omega (arith, size))
one-text f text (part ∷ []) same = (same-rest text (f part) [] [] same).0 ∙ ap f (sym (append-nil part))
one-text f text (part ∷ next ∷ texts) same = let size : 1 ≡ suc (suc (length (map f texts))) = ap length same in absurd (omega (arith, size))

module _ (input : List ℕ) (files : Components → List ℕ) (number : ℕ) (inv : Inv) (law : IsParallel inv) where
  edges-keep : (texts : List (List ℕ)) (steps : List Step) (edges : List ℕ) → AllBelow (length texts) edges → map (text_at (texts_behind input files texts steps)) edges ≡ map (text_at texts) edges
  edges-keep texts steps [] all = refl
  edges-keep texts steps (edge ∷ edges) all =
      let parts = all-parts (length texts) (edge ∷ []) edges all in
      ap (λ (text : List ℕ). text ∷ map (text_at (texts_behind input files texts steps)) edges) (keeps-text input files texts steps edge (one-less edge (length texts) parts.0))
      ∙ ap (λ (rest : List (List ℕ)). text_at texts edge ∷ rest) (edges-keep texts steps edges parts.1)

  -- the tree's last edge has the map of the whole
  pub tree-text : (tree : Tree) (texts parts : List (List ℕ)) → AllBelow (length texts) (leaves tree) → map (text_at texts) (leaves tree) ≡ map (map_of inv) parts → is_cutlist parts ≡ true
      → text_at (texts_behind input files texts (tree_steps number inv tree (length texts))) (tree_edge tree (length texts)) ≡ map_of inv (concat parts)
  tree-text (Leaf edge) texts parts all are cut = one-text (map_of inv) (text_at texts edge) parts are
  tree-text (Join one other) texts parts all are cut =
      let next : ℕ = length texts in
      let left : List Step = tree_steps number inv one next in
      let right : ℕ → List Step = tree_steps number inv other in
      let below = all-parts next (leaves one) (leaves other) all in
      let split : SplitsSo (map_of inv) parts (map (text_at texts) (leaves one)) (map (text_at texts) (leaves other)) =
      splits-so (map_of inv) parts (map (text_at texts) (leaves one)) (map (text_at texts) (leaves other)) (sym (map-both (text_at texts) (leaves one) (leaves other)) ∙ are) in
      let both : is_cutlist (split.front ++ split.back) ≡ true = ap is_cutlist (sym split.whole) ∙ cut in
      let on : List (List ℕ) = texts_behind input files texts left in
      let size : length on ≡ next + joins_of one = texts-count input files texts left ∙ tree-behind number inv one next in
      let last : List (List ℕ) = texts_behind input files on (right (length on)) in
      let last_size : length last ≡ length on + joins_of other = texts-count input files on (right (length on)) ∙ tree-behind number inv other (length on) in
      let more : next ≤ length on = omega (arith, size) in
      let first : text_at on (tree_edge one next) ≡ map_of inv (concat split.front) = tree-text one texts split.front below.0 split.first (cut-front split.front split.back both) in
      let second : text_at last (tree_edge other (length on)) ≡ map_of inv (concat split.back) =
      tree-text other on split.back (all-more next (length on) more (leaves other) below.1) (edges-keep texts left (leaves other) below.1 ∙ split.second) (cut-back split.front split.back both) in
      let edge : ℕ = tree_edge one next in
      let edge_below : edge < length on =
      one-less edge (length on) (subst (λ (size : ℕ). AllBelow size (edge ∷ [])) (sym (texts-count input files texts left)) ((tree-passes number inv one next).within below.0)) in
      let kept : text_at last edge ≡ map_of inv (concat split.front) = keeps-text input files on (right (length on)) edge edge_below ∙ first in
      let agg : ℕ → List Step = λ from. step (kind.Agg inv) (edge ∷ tree_edge other from ∷ []) number ∷ [] in
      let end : length last ≡ next + joins_of one + joins_of other = omega (arith, size, last_size) in
      let texts_are : texts_behind input files texts (tree_steps number inv (Join one other) next) ≡ last ++ joined_maps inv (text_at last edge) (text_at last (tree_edge other (length on))) ∷ [] =
      ap (λ (from : ℕ). texts_behind input files texts ((left ++ right from) ++ agg from)) (sym size)
      ∙ texts-append input files texts (left ++ right (length on)) (agg (length on))
      ∙ ap (λ (all : List (List ℕ)). texts_behind input files all (agg (length on))) (texts-append input files texts left (right (length on))) in
      ap (λ (all : List (List ℕ)). text_at all (next + joins_of one + joins_of other)) texts_are
      ∙ ap (text_at (last ++ joined_maps inv (text_at last edge) (text_at last (tree_edge other (length on))) ∷ [])) (sym end)
      ∙ get-here last [] (joined_maps inv (text_at last edge) (text_at last (tree_edge other (length on)))) []
      ∙ ap (λ (text : List ℕ). joined_maps inv text (text_at last (tree_edge other (length on)))) kept
      ∙ ap (joined_maps inv (map_of inv (concat split.front))) second
      ∙ joined-two inv law split.front split.back both ∙ ap (λ (texts : List (List ℕ)). map_of inv (concat texts)) (sym split.whole)
