use Rattle.fl_graph.proofs.StateLemmas.{Run-start}
use Rattle.fl_graph.proofs.laws.a_run_begins.Goals as goal

pub returns : goal.returns
returns g c = Run-start (g.M.Machine.state c.args.machine.now) c.requires
