use Rattle.std.proofs.Common.{◌≡◌, length}
use Rattle.ps_world.specs.Told.{Written}
use Rattle.ps_world.proofs.streams.write_all.Given as goal

abbrev pub invariant-loop-left : goal.invariant-loop-left
invariant-loop-left g l = record {
  written : Written (g.S.Sink.taken l.initial.sink) (g.S.Sink.taken l.sink) l.initial.left l.left;
  sent : g.S.Sink.sent l.sink ≡ g.S.Sink.sent l.initial.sink;
  count : g.S.Sink.faults l.sink ≡ g.S.Sink.faults l.initial.sink;
}

abbrev pub decreases-loop-left : goal.decreases-loop-left
decreases-loop-left g l = length l.left
