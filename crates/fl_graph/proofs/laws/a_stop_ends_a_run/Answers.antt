use Rattle.fl_graph.proofs.StateLemmas.{Run-stop}
use Rattle.fl_graph.proofs.laws.a_stop_ends_a_run.Goals as goal

pub returns : goal.returns
returns g c start taken put failed run = Run-stop start (g.M.Machine.state c.args.machine.now) taken put failed run c.requires.stop c.requires.may
