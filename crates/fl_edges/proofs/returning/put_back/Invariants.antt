use Rattle.std.proofs.Common.{◌≡◌, drop, length, vec_len}
use Rattle.std.specs.Vec.Iter.{into_iter_items}
use Rattle.fl_edges.specs.Settled.{put_all}
use Rattle.fl_edges.proofs.returning.put_back.Given as goal

abbrev pub invariant-loop-giver : goal.invariant-loop-giver
invariant-loop-giver l = record {
  put : put_all l.stash.items (drop l.place l.edges) (into_iter_items l.giver-iterator) ≡ put_all l.initial.stash.items l.edges (into_iter_items l.initial.giver-iterator);
  counted : length (into_iter_items l.giver-iterator) ≡ length (drop l.place l.edges);
  len : vec_len l.stash ≡ vec_len l.initial.stash;
}
