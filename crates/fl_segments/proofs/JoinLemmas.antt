-- Aggregates and finishes join maps of their own words: who gives each edge is had from the nodes before, as texts are.
use Rattle.std.proofs.Common.{◌≡◌, ℕ, zero, suc, ◌+◌, ◌<◌, List, [], ◌∷◌, ◌++◌, Bool, true, ◌&&◌, get_or, length, map, nat_lt, replicate, refl, ap, sym, subst, ◌∙◌, arith}
use Rattle.std.specs.List.{list_all, range_with_len}
use Rattle.std.proofs.lemmas.Bool.{true≢false, and_from, and_parts, ltb-true}
use Rattle.std.proofs.lemmas.List.Folds.{list_all-append}
use Rattle.std.proofs.lemmas.List.FromFn.{length-range_with_len}
use Rattle.ut_args.specs.Invocations.{words_of}
use Rattle.ut_args.specs.declared.invocations.Inv.{Inv}
use Rattle.fl_graph.specs.Makers.{Absent, Made, Mapped, all_hold, is_mapped, made_by, makes, tells_maps}
use Rattle.fl_graph.specs.Net.{run, step as node_step, store}
use Rattle.fl_graph.specs.declared.kinds.NodeKind.{NodeKind}
use Rattle.fl_graph.specs.declared.kinds.NodeKind.TheVariants as kind
use Rattle.fl_graph.proofs.CheckLemmas.{same_as_words}
use Rattle.fl_graph.proofs.ListLemmas.{holds-has}
use Rattle.fl_graph.proofs.NetLemmas.{values-agree}
use Rattle.fl_segments.specs.Inner.Drawing.{Step, behind, drawn, next_of, outs_of, step}
use Rattle.fl_segments.specs.Inner.Steps.{Tree, Leaf, Join, joins_of, tree_edge, tree_steps}
use Rattle.fl_segments.proofs.DrawingLemmas.{AreBelow, joins_none, next-is}
use Rattle.fl_segments.proofs.RowLemmas.{Agrees, get-here, put-count, put-front, put_behind, store-row}
use Rattle.fl_segments.proofs.StageLemmas.{AllBelow, all-more, all-parts, leaves, tree-behind, tree-passes}

abbrev pub made_at : List Made → ℕ → Made
made_at made edge = get_or made edge Absent

-- who gives the edges behind a node, and behind all
abbrev pub made_on : List Made → Step → List Made
made_on made it = put_behind made (replicate it.outs (made_by it.kind))

abbrev pub made_behind : List Made → List Step → List Made
made_behind made [] = made
made_behind made (it ∷ steps) = made_behind (made_on made it) steps

-- what they tell
abbrev pub told_made : List Made → List Step → List Bool
told_made made [] = []
told_made made (it ∷ steps) = tells_maps it.kind (map (made_at made) it.ins) ++ told_made (made_on made it) steps

replicate-count : (count : ℕ) (it : Made) → length (replicate count it) ≡ count
replicate-count zero it = refl
replicate-count (suc count) it = ap suc (replicate-count count it)

on-count : (made : List Made) (it : Step) → length (made_on made it) ≡ next_of it.outs (length made)
on-count made it =
    put-count made (replicate it.outs (made_by it.kind)) ∙ ap (λ (count : ℕ). length made + count) (replicate-count it.outs (made_by it.kind)) ∙ sym (next-is it.outs (length made))

pub made-count : (made : List Made) (steps : List Step) → length (made_behind made steps) ≡ behind (length made) steps
made-count made [] = refl
made-count made (it ∷ steps) = made-count (made_on made it) steps ∙ ap (λ (from : ℕ). behind from steps) (on-count made it)

pub made-append : (made : List Made) (front back : List Step) → made_behind made (front ++ back) ≡ made_behind (made_behind made front) back
made-append made [] back = refl
made-append made (it ∷ front) back = made-append (made_on made it) front back

pub keeps-made : (made : List Made) (steps : List Step) (edge : ℕ) → edge < length made → made_at (made_behind made steps) edge ≡ made_at made edge
keeps-made made [] edge below = refl
keeps-made made (it ∷ steps) edge below =
    let size = on-count made it in
    let more = next-is it.outs (length made) in
    keeps-made (made_on made it) steps edge (omega (arith, below, size, more)) ∙ put-front Absent made (replicate it.outs (made_by it.kind)) edge below

-- so it is of the nodes that are drawn
pub made-drawn : (made : List Made) (steps : List Step) (values : ℕ → Made) → AreBelow (length made) steps → Agrees Absent values made
    → run makes tells_maps (drawn (length made) steps) values ≡ told_made made steps
made-drawn made [] values below agrees = refl
made-drawn made (it ∷ steps) values below agrees =
    let new : List Made = replicate it.outs (made_by it.kind) in
    let next : next_of it.outs (length made) ≡ length (made_on made it) = sym (on-count made it) in
    let row : List ℕ = outs_of it.outs (length made) in
    let same_ins : map values it.ins ≡ map (made_at made) it.ins =
    values-agree it.ins values (made_at made) (λ edge there. agrees edge (ltb-true edge (length made) (holds-has (λ edge. nat_lt edge (length made)) edge it.ins below.0 there))) in
    let stored : ℕ → Made = node_step makes (record { kind = it.kind; ins = it.ins; outs = row; stage = it.stage }) values in
    let put : (edge : ℕ) → stored edge ≡ store (range_with_len (length made) (length new)) new values edge = λ edge.
    ap (λ (count : ℕ). store row (replicate count (made_by it.kind)) values edge) (length-range_with_len (length made) it.outs)
    ∙ ap (λ (count : ℕ). store (range_with_len (length made) count) new values edge) (sym (replicate-count it.outs (made_by it.kind))) in
    ap (λ (ins : List Made). tells_maps it.kind ins ++ run makes tells_maps (drawn (next_of it.outs (length made)) steps) stored) same_ins
    ∙ ap (λ (rest : List Bool). tells_maps it.kind (map (made_at made) it.ins) ++ rest)
    (ap (λ (from : ℕ). run makes tells_maps (drawn from steps) stored) next
    ∙ made-drawn (made_on made it) steps stored (subst (λ (from : ℕ). AreBelow from steps) next below.1) (λ edge within. put edge ∙ store-row Absent made new values agrees edge within))

-- all that is told holds
abbrev pub Holds : List Made → List Step → Type 0
Holds made steps = all_hold (told_made made steps) ≡ true

pub holds-append : (made : List Made) (front back : List Step) → Holds made front → Holds (made_behind made front) back → Holds made (front ++ back)
holds-append made [] back first second = second
holds-append made (it ∷ front) back first second =
    let here : List Bool = tells_maps it.kind (map (made_at made) it.ins) in
    let parts = and_parts (all_hold here) (all_hold (told_made (made_on made it) front)) (sym (list_all-append (λ (holds : Bool). holds) here (told_made (made_on made it) front)) ∙ first) in
    list_all-append (λ (holds : Bool). holds) here (told_made (made_on made it) (front ++ back))
    ∙ and_from (all_hold here) (all_hold (told_made (made_on made it) (front ++ back))) parts.0 (holds-append (made_on made it) front back parts.1 second)

-- nodes that join nothing
plain-holds : (it : NodeKind) (made : List Made) → joins_none it ≡ true → all_hold (tells_maps it made) ≡ true
plain-holds (kind.Agg inv) made none = absurd (true≢false (sym none))
plain-holds (kind.Finish inv) made none = absurd (true≢false (sym none))
plain-holds other made none = refl

pub none-holds : (made : List Made) (steps : List Step) → list_all (λ (it : Step). joins_none it.kind) steps ≡ true → Holds made steps
none-holds made [] none = refl
none-holds made (it ∷ steps) none =
    let parts = and_parts (joins_none it.kind) (list_all (λ (it : Step). joins_none it.kind) steps) none in
    list_all-append (λ (holds : Bool). holds) (tells_maps it.kind (map (made_at made) it.ins)) (told_made (made_on made it) steps)
    ∙ and_from (all_hold (tells_maps it.kind (map (made_at made) it.ins))) (all_hold (told_made (made_on made it) steps)) (plain-holds it.kind (map (made_at made) it.ins) parts.0) (none-holds (made_on made it) steps parts.1)

-- THE TREE OF AGGREGATES
module _ (number : ℕ) (inv : Inv) where
  pub mapped-self : is_mapped (words_of inv) (Mapped (words_of inv)) ≡ true
  mapped-self = sym (same_as_words inv inv true (λ is. refl) (λ same. refl))

  -- these edges have maps of its words
  abbrev pub AllMapped : List Made → List ℕ → Type 0
  AllMapped made edges = list_all (λ edge. is_mapped (words_of inv) (made_at made edge)) edges ≡ true

  mapped-keeps : (made : List Made) (steps : List Step) (edges : List ℕ) → AllBelow (length made) edges → AllMapped made edges → AllMapped (made_behind made steps) edges
  mapped-keeps made steps [] all mapped = refl
  mapped-keeps made steps (edge ∷ edges) all mapped =
      let below = and_parts (nat_lt edge (length made)) (list_all (λ edge. nat_lt edge (length made)) edges) all in
      let parts = and_parts (is_mapped (words_of inv) (made_at made edge)) (list_all (λ edge. is_mapped (words_of inv) (made_at made edge)) edges) mapped in
      and_from (is_mapped (words_of inv) (made_at (made_behind made steps) edge)) (list_all (λ edge. is_mapped (words_of inv) (made_at (made_behind made steps) edge)) edges)
      (ap (is_mapped (words_of inv)) (keeps-made made steps edge (ltb-true edge (length made) below.0)) ∙ parts.0) (mapped-keeps made steps edges below.1 parts.1)

  mapped-both : (made : List Made) (one other : List ℕ) → AllMapped made (one ++ other) → AllMapped made one × AllMapped made other
  mapped-both made one other all =
      and_parts (list_all (λ edge. is_mapped (words_of inv) (made_at made edge)) one) (list_all (λ edge. is_mapped (words_of inv) (made_at made edge)) other)
      (sym (list_all-append (λ edge. is_mapped (words_of inv) (made_at made edge)) one other) ∙ all)

  -- the tree holds, and its last edge has such a map
  pub record TreeHolds (tree : Tree) (made : List Made) : Type 0 where
    pub holds : Holds made (tree_steps number inv tree (length made))
    pub mapped : AllMapped (made_behind made (tree_steps number inv tree (length made))) (tree_edge tree (length made) ∷ [])

  pub tree-holds : (tree : Tree) (made : List Made) → AllBelow (length made) (leaves tree) → AllMapped made (leaves tree) → TreeHolds tree made
  tree-holds (Leaf edge) made all mapped = record { holds = refl; mapped = mapped }
  tree-holds (Join one other) made all mapped =
      let next : ℕ = length made in
      let below = all-parts next (leaves one) (leaves other) all in
      let each = mapped-both made (leaves one) (leaves other) mapped in
      let left : List Step = tree_steps number inv one next in
      let right : ℕ → List Step = tree_steps number inv other in
      let on : List Made = made_behind made left in
      let size : length on ≡ next + joins_of one = made-count made left ∙ tree-behind number inv one next in
      let last : List Made = made_behind on (right (length on)) in
      let last_size : length last ≡ length on + joins_of other = made-count on (right (length on)) ∙ tree-behind number inv other (length on) in
      let first = tree-holds one made below.0 each.0 in
      let second = tree-holds other on (all-more next (length on) (omega (arith, size)) (leaves other) below.1) (mapped-keeps made left (leaves other) below.1 each.1) in
      let edge : ℕ = tree_edge one next in
      let edge_below : AllBelow (length on) (edge ∷ []) = subst (λ (size : ℕ). AllBelow size (edge ∷ [])) (sym (made-count made left)) ((tree-passes number inv one next).within below.0) in
      let kept : AllMapped last (edge ∷ []) = mapped-keeps on (right (length on)) (edge ∷ []) edge_below first.mapped in
      let agg : ℕ → Step = λ from. step (kind.Agg inv) (edge ∷ tree_edge other from ∷ []) number in
      let words : List (List ℕ) = words_of inv in
      let ins : AllMapped last (edge ∷ tree_edge other (length on) ∷ []) =
      and_from (is_mapped words (made_at last edge)) (is_mapped words (made_at last (tree_edge other (length on))) && true) (and_parts (is_mapped words (made_at last edge)) true kept).0 second.mapped in
      let told : Holds last (agg (length on) ∷ []) =
      and_from (is_mapped words (made_at last edge) && (is_mapped words (made_at last (tree_edge other (length on))) && true)) true ins refl in
      let all_hold : Holds made ((left ++ right (length on)) ++ agg (length on) ∷ []) =
      holds-append made (left ++ right (length on)) (agg (length on) ∷ []) (holds-append made left (right (length on)) first.holds second.holds)
      (subst (λ (made : List Made). Holds made (agg (length on) ∷ [])) (sym (made-append made left (right (length on)))) told) in
      let end : length last ≡ next + joins_of one + joins_of other = omega (arith, size, last_size) in
      let made_are : made_behind made (tree_steps number inv (Join one other) next) ≡ last ++ Mapped words ∷ [] =
      ap (λ (from : ℕ). made_behind made ((left ++ right from) ++ agg from ∷ [])) (sym size)
      ∙ made-append made (left ++ right (length on)) (agg (length on) ∷ [])
      ∙ ap (λ (all : List Made). made_behind all (agg (length on) ∷ [])) (made-append made left (right (length on))) in
      record {
        holds = subst (λ (from : ℕ). Holds made ((left ++ right from) ++ agg from ∷ [])) size all_hold;
        mapped = and_from (is_mapped words (made_at (made_behind made (tree_steps number inv (Join one other) next)) (next + joins_of one + joins_of other))) true
            (ap (λ (all : List Made). is_mapped words (made_at all (next + joins_of one + joins_of other))) made_are
            ∙ ap (λ (edge : ℕ). is_mapped words (made_at (last ++ Mapped words ∷ []) edge)) (sym end)
            ∙ ap (is_mapped words) (get-here last [] (Mapped words) Absent) ∙ mapped-self) refl;
      }
