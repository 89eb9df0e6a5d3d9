-- Trees of aggregates: which edges their nodes take and give, in which order, and what they make of maps.
use Rattle.std.proofs.Common.{◌≡◌, ℕ, zero, suc, ◌+◌, ◌-◌, ◌<◌, ◌≤◌, ◌==◌, List, [], ◌∷◌, ◌++◌, Bool, true, false, ◌&&◌, nat_le, if◌then◌else◌, length, map, get_or, take, drop, refl, ap, sym, subst, ◌∙◌, append-nil, append_assoc, add-one, arith, eq-eqb, ⊎_elim, ◌⊎◌, inl, inr}
use Rattle.std.specs.List.{concat, flat_map, list_all, range_with_len}
use Rattle.std.proofs.lemmas.Bool.{true≢false, and_parts, and_from, or_left, or_right, or_cases, eqb-true}
use Rattle.std.proofs.lemmas.List.{map-append, length-take-le}
use Rattle.std.proofs.lemmas.Grind.{flat_map-append}
use Rattle.std.proofs.lemmas.List.Folds.{list_all-append}
use Rattle.ps_lines.specs.Lines.{is_closed, is_cutlist}
use Rattle.ut_args.specs.Invocations.{words_of}
use Rattle.ut_args.specs.declared.invocations.Inv.{Inv}
use Rattle.fl_graph.specs.Net.{has, count, takes, gives}
use Rattle.fl_graph.specs.Makers.{Made, Mapped, makes, tells_maps, is_mapped, all_hold}
use Rattle.fl_graph.specs.declared.graphs.Cell.{Cell}
use Rattle.fl_graph.specs.declared.kinds.NodeKind.{NodeKind}
use Rattle.fl_graph.specs.declared.kinds.NodeKind.TheVariants as kind
use Rattle.fl_graph.proofs.ListLemmas.{count-append}
use Rattle.fl_graph.proofs.NetLemmas.{has-front, has-back}
use Rattle.fl_classes.specs.Aggregates.{map_of, aggregate_of}
use Rattle.fl_classes.specs.Laws.{IsParallel}
use Rattle.fl_classes.proofs.CutLemmas.{cut-first, cut-joined}
use Rattle.fl_rewrites.specs.Suits.{Value, with_origin, asks}
use Rattle.fl_rewrites.proofs.OrderLemmas.{Each, each-front, each-back, OfAll, IsMet, told}
use Rattle.fl_rewrites.proofs.CarryLemmas.{Carries, text_of, asked}
use Rattle.fl_rewrites.proofs.PlacedLemmas.{sources_behind}
use Rattle.fl_rewrites.proofs.ValueLemmas.{fewer-append, fewer-cut, fewer-none, fewer-same}
use Rattle.fl_rewrites.proofs.ExchangeLemmas.{Follows, follows-append}
use Rattle.fl_rewrites.proofs.ExchangedLemmas.{held-both}
use Rattle.fl_rewrites.proofs.CarriedLemmas.{carries-parts}
use Rattle.fl_combine.specs.Aggregating.{agg_cell}
use Rattle.fl_segments.specs.Inner.Steps.{Tree, Leaf, Join, half_of, joins_of, tree_over}
use Rattle.fl_segments.proofs.StageLemmas.{leaves, over-few, over-halves, tree-joins}
use Rattle.fl_segments.proofs.FoldLemmas.{cut-two}
use Rattle.fl_combine.specs.Fanning.{root, tree_cells}
use Rattle.fl_combine.proofs.AggregateLemmas.{words-same}

row-parts : (edge next first second : ℕ) → count edge (range_with_len next (first + second)) ≡ count edge (range_with_len next first) + count edge (range_with_len (next + first) second)
row-parts edge next zero second =
    let none : next ≡ next + 0 = omega arith in
    let all : 0 + second ≡ second = omega arith in
    let moved = ap (λ (from : ℕ). count edge (range_with_len from second)) none in
    let size = ap (λ (it : ℕ). count edge (range_with_len next it)) all in omega (arith, moved, size)
row-parts edge next (suc first) second =
    let rest = row-parts edge (next + 1) first second in
    let size : suc first + second ≡ suc (first + second) = omega arith in
    let from : next + 1 + first ≡ next + suc first = omega arith in
    let moved = ap (λ (it : ℕ). count edge (range_with_len it second)) from in
    ap (λ (it : ℕ). count edge (range_with_len next it)) size ∙ omega (arith, rest, moved)

row-grown : (edge next size : ℕ) → count edge (range_with_len next (size + 1)) ≡ count edge (next ∷ []) + count edge (range_with_len (next + 1) size)
row-grown edge next size =
    let first = count-append edge (next ∷ []) (range_with_len (next + 1) size) in ap (λ (many : ℕ). count edge (range_with_len next many)) (add-one size) ∙ first

module _ (inv : Inv) (stage : ℕ) where
  abbrev agg : Tree → Tree → List ℕ → ℕ → Cell NodeKind
  agg left right outs next = agg_cell inv (root left next ∷ root right (next + joins_of left) ∷ []) outs stage

  abbrev own : Tree → ℕ → List (Cell NodeKind)
  own tree next = tree_cells inv stage tree (next ∷ []) (next + 1)

  parts-count : (pick : Cell NodeKind → List ℕ) (edge : ℕ) (left right : List (Cell NodeKind)) (last : Cell NodeKind)
      → count edge (flat_map pick (left ++ (right ++ last ∷ []))) ≡ count edge (flat_map pick left) + (count edge (flat_map pick right) + count edge (pick last))
  parts-count pick edge left right last =
      let one = ap (count edge) (flat_map-append pick left (right ++ last ∷ [])) ∙ count-append edge (flat_map pick left) (flat_map pick (right ++ last ∷ [])) in
      let two = ap (count edge) (flat_map-append pick right (last ∷ [])) ∙ count-append edge (flat_map pick right) (flat_map pick (last ∷ [])) in
      let three = count-append edge (pick last) [] in omega (arith, one, two, three)

  -- what the nodes give: the outs of the last, and edges of their own
  own-gives : (tree : Tree) (next edge : ℕ) → count edge (gives (own tree next)) ≡ count edge (range_with_len next (joins_of tree))
  own-gives (Leaf leaf) next edge = refl
  own-gives (Join left right) next edge =
      let whole = parts-count (λ cell. cell.outs) edge (own left (next + 1)) (own right (next + 1 + joins_of left)) (agg left right (next ∷ []) (next + 1)) in
      let one = own-gives left (next + 1) edge in
      let two = own-gives right (next + 1 + joins_of left) edge in
      let rows = row-parts edge (next + 1) (joins_of left) (joins_of right) in
      let grown = row-grown edge next (joins_of left + joins_of right) in omega (arith, whole, one, two, rows, grown)

  pub gives-tree : (left right : Tree) (outs : List ℕ) (next edge : ℕ)
      → count edge (gives (tree_cells inv stage (Join left right) outs next)) ≡ count edge outs + count edge (range_with_len next (joins_of left + joins_of right))
  gives-tree left right outs next edge =
      let whole = parts-count (λ cell. cell.outs) edge (own left next) (own right (next + joins_of left)) (agg left right outs next) in
      let one = own-gives left next edge in
      let two = own-gives right (next + joins_of left) edge in
      let rows = row-parts edge next (joins_of left) (joins_of right) in omega (arith, whole, one, two, rows)

  -- what they take: the edges that are joined, and those of their own
  own-takes : (tree : Tree) (next edge : ℕ) → count edge (takes (own tree next)) + count edge (root tree next ∷ []) ≡ count edge (leaves tree) + count edge (range_with_len next (joins_of tree))
  own-takes (Leaf leaf) next edge = omega arith
  own-takes (Join left right) next edge =
      let whole = parts-count (λ cell. cell.ins) edge (own left (next + 1)) (own right (next + 1 + joins_of left)) (agg left right (next ∷ []) (next + 1)) in
      let one = own-takes left (next + 1) edge in
      let two = own-takes right (next + 1 + joins_of left) edge in
      let both = count-append edge (leaves left) (leaves right) in
      let rows = row-parts edge (next + 1) (joins_of left) (joins_of right) in
      let grown = row-grown edge next (joins_of left + joins_of right) in omega (arith, whole, one, two, both, rows, grown)

  pub takes-tree : (left right : Tree) (outs : List ℕ) (next edge : ℕ)
      → count edge (takes (tree_cells inv stage (Join left right) outs next)) ≡ count edge (leaves left ++ leaves right) + count edge (range_with_len next (joins_of left + joins_of right))
  takes-tree left right outs next edge =
      let whole = parts-count (λ cell. cell.ins) edge (own left next) (own right (next + joins_of left)) (agg left right outs next) in
      let one = own-takes left next edge in
      let two = own-takes right (next + joins_of left) edge in
      let both = count-append edge (leaves left) (leaves right) in
      let rows = row-parts edge next (joins_of left) (joins_of right) in omega (arith, whole, one, two, both, rows)

  -- tests that hold of each aggregate
  pub all-tree : (test : Cell NodeKind → Bool) → ((one other : ℕ) (outs : List ℕ) → length outs ≡ 1 → test (agg_cell inv (one ∷ other ∷ []) outs stage) ≡ true)
      → (tree : Tree) (outs : List ℕ) (next : ℕ) → length outs ≡ 1 → list_all test (tree_cells inv stage tree outs next) ≡ true
  all-tree test holds (Leaf leaf) outs next size = refl
  all-tree test holds (Join left right) outs next size =
      let last : Cell NodeKind = agg left right outs next in
      list_all-append test (own left next) (own right (next + joins_of left) ++ last ∷ [])
      ∙ and_from (list_all test (own left next)) (list_all test (own right (next + joins_of left) ++ last ∷ [])) (all-tree test holds left (next ∷ []) (next + 1) refl)
      (list_all-append test (own right (next + joins_of left)) (last ∷ [])
      ∙ and_from (list_all test (own right (next + joins_of left))) (test last && true) (all-tree test holds right ((next + joins_of left) ∷ []) (next + joins_of left + 1) refl)
      (and_from (test last) true (holds (root left next) (root right (next + joins_of left)) outs size) refl))

  -- the edge that a tree gives is known, or one of its own
  given-last : (left right : Tree) (outs : List ℕ) (next edge : ℕ) → has edge outs ≡ true → has edge (gives (tree_cells inv stage (Join left right) outs next)) ≡ true
  given-last left right outs next edge there =
      let last : Cell NodeKind = agg left right outs next in
      ap (has edge) (flat_map-append (λ (cell : Cell NodeKind). cell.outs) (own left next) (own right (next + joins_of left) ++ last ∷ []))
      ∙ has-back edge (gives (own left next)) (gives (own right (next + joins_of left) ++ last ∷ []))
      (ap (has edge) (flat_map-append (λ (cell : Cell NodeKind). cell.outs) (own right (next + joins_of left)) (last ∷ []))
      ∙ has-back edge (gives (own right (next + joins_of left))) (outs ++ []) (has-front edge outs [] there))

  root-given : (known : ℕ → Type 0) (tree : Tree) (next : ℕ) → OfAll known (leaves tree) → known (root tree next) ⊎ (has (root tree next) (gives (own tree next)) ≡ true)
  root-given known (Leaf leaf) next all = inl (all leaf (or_left (leaf == leaf) false (eq-eqb leaf leaf refl)))
  root-given known (Join left right) next all = inr (given-last left right (next ∷ []) (next + 1) next (or_left (next == next) false (eq-eqb next next refl)))

  pub follows-tree : (known : ℕ → Type 0) (tree : Tree) (outs : List ℕ) (next : ℕ) → OfAll known (leaves tree) → Follows known (tree_cells inv stage tree outs next)
  follows-tree known (Leaf leaf) outs next all = tt
  follows-tree known (Join left right) outs next all =
      let last : Cell NodeKind = agg left right outs next in
      let lefts : OfAll known (leaves left) = λ edge there. all edge (has-front edge (leaves left) (leaves right) there) in
      let rights : OfAll known (leaves right) = λ edge there. all edge (has-back edge (leaves left) (leaves right) there) in
      follows-append known (own left next) (own right (next + joins_of left) ++ last ∷ []) (follows-tree known left (next ∷ []) (next + 1) lefts)
      (follows-append (λ edge. known edge ⊎ (has edge (gives (own left next)) ≡ true)) (own right (next + joins_of left)) (last ∷ [])
      (follows-tree (λ edge. known edge ⊎ (has edge (gives (own left next)) ≡ true)) right ((next + joins_of left) ∷ []) (next + joins_of left + 1) (λ edge there. inl (rights edge there))) (
        λ edge there.
            ⊎_elim (λ (first : (root left next == edge) ≡ true).
            subst (λ (it : ℕ). (known it ⊎ (has it (gives (own left next)) ≡ true)) ⊎ (has it (gives (own right (next + joins_of left))) ≡ true)) (eqb-true (root left next) edge first)
            (inl (root-given known left next lefts)))
            (λ (rest : has edge (root right (next + joins_of left) ∷ []) ≡ true).
            ⊎_elim (λ (second : (root right (next + joins_of left) == edge) ≡ true).
            subst (λ (it : ℕ). (known it ⊎ (has it (gives (own left next)) ≡ true)) ⊎ (has it (gives (own right (next + joins_of left))) ≡ true)) (eqb-true (root right (next + joins_of left)) edge second)
            (⊎_elim (λ (old : known (root right (next + joins_of left))). inl (inl old)) (λ (own_edge : has (root right (next + joins_of left)) (gives (own right (next + joins_of left))) ≡ true). inr own_edge)
            (root-given known right (next + joins_of left) rights)))
            (λ (none : false ≡ true). absurd (true≢false (sym none)))
            (or_cases (root right (next + joins_of left) == edge) false rest))
            (or_cases (root left next == edge) (has edge (root right (next + joins_of left) ∷ [])) there),
        tt,
      ))

pub concat-parts : (front back : List (List ℕ)) → concat (front ++ back) ≡ concat front ++ concat back
concat-parts [] back = refl
concat-parts (first ∷ front) back = ap (λ (rest : List ℕ). first ++ rest) (concat-parts front back) ∙ sym (append_assoc first (concat front) (concat back))

-- a value that carries the map of the texts joined whose maps it gathers
pub record IsMapOf (inv : Inv) (value : Value) (texts : List (List ℕ)) : Type 0 where
  pub text : value.text ≡ map_of inv (concat texts)
  pub maps : value.maps ≡ texts

module _ (inv : Inv) (stage : ℕ) (law : IsParallel inv) (sources : List (List ℕ)) (other : ℕ → Value) where
  -- the texts whose maps a tree joins
  abbrev pub gathers : Tree → List (List ℕ)
  gathers tree = flat_map (λ (value : Value). value.maps) (map other (leaves tree))

  gathers-both : (left right : Tree) → gathers (Join left right) ≡ gathers left ++ gathers right
  gathers-both left right =
      ap (flat_map (λ (value : Value). value.maps)) (map-append other (leaves left) (leaves right)) ∙ flat_map-append (λ (value : Value). value.maps) (map other (leaves left)) (map other (leaves right))

  pub record Holds (tree : Tree) (out : ℕ) (cells : List (Cell NodeKind)) : Type 0 where
    pub value : IsMapOf inv (other (root tree out)) (gathers tree)
    pub asked_all : all_hold (asked sources other cells) ≡ true

  pub tree-holds : (tree : Tree) (out next number : ℕ) → Carries sources number (tree_cells inv stage tree (out ∷ []) next) other → OfAll (λ edge. (other edge).text ≡ map_of inv (concat (other edge).maps)) (leaves tree)
      → is_cutlist (gathers tree) ≡ true → Holds tree out (tree_cells inv stage tree (out ∷ []) next)
  tree-holds (Leaf leaf) out next number carried all cut =
      let same : (other leaf).maps ++ [] ≡ (other leaf).maps = append-nil (other leaf).maps in
      record {
        value = record {
          text = all leaf (or_left (leaf == leaf) false (eq-eqb leaf leaf refl)) ∙ ap (λ (texts : List (List ℕ)). map_of inv (concat texts)) (sym same);
          maps = sym same;
        };
        asked_all = refl;
      }
  tree-holds (Join left right) out next number carried all cut =
      let lefts : List (Cell NodeKind) = own inv stage left next in
      let rights : List (Cell NodeKind) = own inv stage right (next + joins_of left) in
      let last : Cell NodeKind = agg inv stage left right (out ∷ []) next in
      let both : is_cutlist (gathers left ++ gathers right) ≡ true = ap is_cutlist (sym (gathers-both left right)) ∙ cut in
      let left_cut : is_cutlist (gathers left) ≡ true =
      ap is_cutlist (sym (append-nil (gathers left))) ∙ fewer-cut (fewer-append (fewer-same (gathers left)) (fewer-none (gathers right))) both in
      let right_cut : is_cutlist (gathers right) ≡ true = fewer-cut (fewer-append (fewer-none (gathers left)) (fewer-same (gathers right))) both in
      let first = carries-parts sources other number lefts (rights ++ last ∷ []) carried in
      let second = carries-parts sources other (sources_behind number lefts) rights (last ∷ []) first.1 in
      let one = tree-holds left next (next + 1) number first.0 (λ edge there. all edge (has-front edge (leaves left) (leaves right) there)) left_cut in
      let two = tree-holds right (next + joins_of left) (next + joins_of left + 1) (sources_behind number lefts) second.0 (λ edge there. all edge (has-back edge (leaves left) (leaves right) there)) right_cut in
      let left_value : Value = other (root left next) in
      let right_value : Value = other (root right (next + joins_of left)) in
      let is : other out ≡ with_origin (kind.Agg inv) (left_value ∷ right_value ∷ []) (aggregate_of inv (left_value.text ∷ right_value.text ∷ [])) = ap (λ (values : List Value). get_or values 0 (other out)) second.1.0 in
      let maps_are : left_value.maps ++ (right_value.maps ++ []) ≡ gathers left ++ gathers right =
      ap (λ (texts : List (List ℕ)). left_value.maps ++ texts) (append-nil right_value.maps) ∙ ap (λ (texts : List (List ℕ)). texts ++ right_value.maps) one.value.maps
      ∙ ap (λ (texts : List (List ℕ)). gathers left ++ texts) two.value.maps in
      let joined : aggregate_of inv (left_value.text ∷ right_value.text ∷ []) ≡ map_of inv (concat (gathers left) ++ concat (gathers right)) =
      ap (λ (text : List ℕ). aggregate_of inv (text ∷ right_value.text ∷ [])) one.value.text
      ∙ ap (λ (text : List ℕ). aggregate_of inv (map_of inv (concat (gathers left)) ∷ text ∷ [])) two.value.text
      ∙ sym (law.joins (concat (gathers left)) (concat (gathers right)) (cut-two (gathers left) (gathers right) both)) in
      record {
        value = record {
          text = ap text_of is ∙ joined ∙ ap (map_of inv) (sym (concat-parts (gathers left) (gathers right)) ∙ ap concat (sym (gathers-both left right)));
          maps = ap (λ (value : Value). value.maps) is ∙ maps_are ∙ sym (gathers-both left right);
        };
        asked_all =
            held-both asks other lefts (rights ++ last ∷ []) one.asked_all
            (held-both asks other rights (last ∷ []) two.asked_all (and_from (is_cutlist (left_value.maps ++ (right_value.maps ++ []))) true (ap is_cutlist maps_are ∙ both) refl));
      }

-- HOW TREES ARE MADE
module _ (inv : Inv) (stage : ℕ) (edges outs : List ℕ) (next : ℕ) where
  pub put_few : (old : List (Cell NodeKind)) → length edges < 2 → old ≡ old ++ tree_cells inv stage (tree_over edges) outs next
  put_few old few = sym (append-nil old) ∙ ap (λ (tree : Tree). old ++ tree_cells inv stage tree outs next) (sym (over-few edges (omega (arith, few))))

  -- two halves are put, and then what joins them
  pub put_halves : (front back : List ℕ) (behind : ℕ) (old one two new : List (Cell NodeKind)) → 2 ≤ length edges → front ≡ take (half_of (length edges)) edges → back ≡ drop (half_of (length edges)) edges
      → behind ≡ next + (half_of (length edges) - 1) → one ≡ old ++ tree_cells inv stage (tree_over front) (next ∷ []) (next + 1)
      → two ≡ one ++ tree_cells inv stage (tree_over back) (behind ∷ []) (behind + 1)
      → new ≡ two ++ agg_cell inv (root (tree_over front) next ∷ root (tree_over back) behind ∷ []) outs stage ∷ []
      → new ≡ old ++ tree_cells inv stage (tree_over edges) outs next
  put_halves front back behind old one two new many front_is back_is behind_is one_is two_is new_is =
      let half : ℕ = half_of (length edges) in
      let size : length front ≡ half = ap length front_is ∙ length-take-le half edges (omega (arith, many)) in
      let joins : joins_of (tree_over front) + 1 ≡ length front = tree-joins (length front) front (omega (arith, size, many)) (omega arith) in
      let at : behind ≡ next + joins_of (tree_over front) = omega (arith, behind_is, joins, size, many) in
      let left : List (Cell NodeKind) = tree_cells inv stage (tree_over front) (next ∷ []) (next + 1) in
      let right : ℕ → List (Cell NodeKind) = λ from. tree_cells inv stage (tree_over back) (from ∷ []) (from + 1) in
      let last : ℕ → List (Cell NodeKind) = λ from. agg_cell inv (root (tree_over front) next ∷ root (tree_over back) from ∷ []) outs stage ∷ [] in
      let trees : Join (tree_over front) (tree_over back) ≡ tree_over edges =
      ap (λ (edges : List ℕ). Join (tree_over edges) (tree_over back)) front_is
      ∙ ap (λ (rest : List ℕ). Join (tree_over (take half edges)) (tree_over rest)) back_is ∙ sym (over-halves edges many) in
      new_is ∙ ap (λ (cells : List (Cell NodeKind)). cells ++ last behind) (two_is ∙ ap (λ (cells : List (Cell NodeKind)). cells ++ right behind) one_is)
      ∙ append_assoc (old ++ left) (right behind) (last behind) ∙ append_assoc old left (right behind ++ last behind)
      ∙ ap (λ (from : ℕ). old ++ (left ++ (right from ++ last from))) at
      ∙ ap (λ (tree : Tree). old ++ tree_cells inv stage tree outs next) trees

  pub root_few : (edge : ℕ) → length edges < 2 → edge ≡ get_or edges 0 0 → edge ≡ root (tree_over edges) next
  root_few edge few is = is ∙ ap (λ (tree : Tree). root tree next) (sym (over-few edges (omega (arith, few))))

  pub root_many : 2 ≤ length edges → next ≡ root (tree_over edges) next
  root_many many = ap (λ (tree : Tree). root tree next) (sym (over-halves edges many))

pub ruleset put_laws = (put_few, put_halves)

pub ruleset root_laws = (root_few, root_many)
