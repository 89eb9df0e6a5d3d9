use Rattle.std.proofs.Common.{length}
use Rattle.std.specs.Vec.Iter.{into_iter_items}
use Rattle.fl_runner.proofs.PutLemmas.{PutBack}
use Rattle.fl_runner.proofs.owns.put_owns.Given as goal

abbrev pub invariant-loop-own : goal.invariant-loop-own
invariant-loop-own g l =
    PutBack (length l.initial.lent.readers.items) (length l.initial.lent.writers.items) l.roles l.initial.lent l.fn.owns.items
    l.node l.lent (into_iter_items l.own-iterator)
