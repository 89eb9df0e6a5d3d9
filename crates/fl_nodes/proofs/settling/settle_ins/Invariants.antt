use Rattle.std.proofs.Common.{◌≡◌, ℕ, List, map, take, drop, true}
use Rattle.std.specs.List.{list_all}
use Rattle.std.specs.Vec.Iter.{into_iter_items}
use Rattle.fl_graph.specs.Runs.{are_closed, is_clean}
use Rattle.fl_graph.specs.declared.pieces.Piece.{Piece}
use Rattle.fl_relay.specs.Edges.{EdgeId, gives_over, put_on, taken_from}
use Rattle.fl_nodes.specs.Stashes.{has_each, without_all, Lie}
use Rattle.fl_nodes.proofs.StashLemmas.{Left}
use Rattle.fl_nodes.proofs.settling.settle_ins.Given as goal

abbrev pub invariant-loop-taker : goal.invariant-loop-taker
invariant-loop-taker g l = record {
  left : Left l.stash.items l.edges l.place (into_iter_items l.taker-iterator);
  gone : l.stash.items ≡ without_all l.initial.stash.items (take l.place l.edges);
  there : has_each l.initial.stash.items l.edges ≡ has_each l.stash.items (drop l.place l.edges);
  closed : list_all (λ taker. are_closed (taken_from taker)) (into_iter_items l.initial.taker-iterator) ≡ true
      → list_all (λ taker. are_closed (taken_from taker)) (into_iter_items l.taker-iterator) ≡ true;
  settled : list_all (λ taker. are_closed (taken_from taker)) (into_iter_items l.initial.taker-iterator) ≡ true → (ids : ℕ → EdgeId) (pieces : ℕ → List Piece)
      → Lie gives_over put_on ids pieces l.initial.stash.items → map taken_from (into_iter_items l.taker-iterator) ≡ map pieces (drop l.place l.edges)
      → map taken_from (into_iter_items l.initial.taker-iterator) ≡ map pieces l.edges;
  clean : (ids : ℕ → EdgeId) (pieces : ℕ → List Piece) → Lie gives_over put_on ids pieces l.initial.stash.items
      → list_all (λ edge. is_clean (pieces edge)) (drop l.place l.edges) ≡ true → list_all (λ edge. is_clean (pieces edge)) l.edges ≡ true;
}
