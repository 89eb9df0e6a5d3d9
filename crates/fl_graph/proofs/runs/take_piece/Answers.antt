use Rattle.fl_graph.proofs.StateLemmas.{take_run}
use Rattle.fl_graph.proofs.runs.take_piece.Goals as goal

pub returns-clause-run : goal.returns-clause-run
returns-clause-run g c start taken put failed run =
    take_run start (g.M.Machine.state c.args.machine.now) (g.M.Machine.state c.take.new.self) taken put failed c.args.piece c.take.result
    c.take.ensures.takes c.take.ensures.puts c.take.ensures.numbered_ins c.take.ensures.numbered_outs c.take.ensures.due c.take.ensures.selects c.take.ensures.broken c.take.ensures.memory run
