-- What is told of nodes that have run to their stops.
use Rattle.std.proofs.Common.{◌≡◌, ℕ, ◌+◌, ◌<◌, ◌==◌, List, Bool, true, false, get_or, slice_get, Some, refl, ap, sym, subst, ◌∙◌, arith, eq-eqb}
use Rattle.std.specs.List.{list_any}
use Rattle.std.proofs.lemmas.Bool.{eqb-true, true≢false}
use Rattle.fl_classes.specs.Flow.{status_by}
use Rattle.fl_graph.specs.declared.graphs.StatusRule.{StatusRule}
use Rattle.fl_graph.specs.declared.graphs.StatusRule.TheVariants as status
use Rattle.fl_nodes.specs.Work.{is_fault}
use Rattle.fl_nodes.specs.declared.nodes.NodeDone.{NodeDone}

some_is : {X : Type 0} (one other : X) → Some one ≡ Some other → one ≡ other
some_is one other is = cc

-- no end of the first nodes has failed, and that of the next hasn't
pub no-fault-next : {E : Type 0} (nodes : List (NodeDone E)) (count : ℕ) (it : NodeDone E) → slice_get nodes count ≡ Some it → is_fault it.failure ≡ false
    → ((node : ℕ) (done : NodeDone E) → node < count → slice_get nodes node ≡ Some done → is_fault done.failure ≡ false)
    → (node : ℕ) (done : NodeDone E) → node < count + 1 → slice_get nodes node ≡ Some done → is_fault done.failure ≡ false
no-fault-next {E} nodes count it there none before node done low at = by_test (node == count) refl
  where
    by_test : (test : Bool) → (node == count) ≡ test → is_fault done.failure ≡ false
    by_test true is =
        let same : it ≡ done = some_is it done (sym there ∙ ap (λ (place : ℕ). slice_get nodes place) (sym (eqb-true node count is)) ∙ at) in
        subst (λ (one : NodeDone E). is_fault one.failure ≡ false) same none
    by_test false is =
        let apart : node ≡ count → ⊥ = λ same. true≢false (sym (eq-eqb node count same) ∙ is) in
        before node done (omega (arith, low, apart)) at

-- the status by whether a named node has selected a line
pub selected-some : (rule : StatusRule) (named : List ℕ) (some none : ℕ) (told : List Bool) (test : Bool) → rule ≡ status.Selected named some none
    → test ≡ list_any (λ node. get_or told node false) named → test ≡ true → some ≡ status_by rule told
selected-some rule named some none told test is any selects = subst (λ (it : StatusRule). some ≡ status_by it told) (sym is) (rw (sym any ∙ selects) refl)

pub selected-none : (rule : StatusRule) (named : List ℕ) (some none : ℕ) (told : List Bool) (test : Bool) → rule ≡ status.Selected named some none
    → test ≡ list_any (λ node. get_or told node false) named → test ≡ false → none ≡ status_by rule told
selected-none rule named some none told test is any lacks = subst (λ (it : StatusRule). none ≡ status_by it told) (sym is) (rw (sym any ∙ lacks) refl)
