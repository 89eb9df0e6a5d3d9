use Rattle.std.proofs.Common.{◌+◌, ◌≤◌, vec_len, vec_capacity}
use Rattle.std.specs.Vec.Iter.{into_iter_items, into_iter_len}
use Rattle.fl_runner.specs.Lent.{end_state}
use Rattle.fl_runner.proofs.TakeLemmas.{Taken}
use Rattle.fl_runner.proofs.jobs.jobs_of.Given as goal

abbrev pub invariant-loop-start : goal.invariant-loop-start
invariant-loop-start g l = record {
  taken : Taken g.M.Machine.state
      (end_state g.R.Source.left g.W.Sink.taken g.I.Source.left g.O.Sink.taken g.R.Source.faults g.W.Sink.faults g.I.Source.faults g.O.Sink.faults)
      l.roles l.initial.lent l.fn.starts.items l.node l.lent l.jobs.items (into_iter_items l.start-iterator);
  room : vec_len l.jobs + into_iter_len l.start-iterator ≤ vec_capacity l.jobs;
}
