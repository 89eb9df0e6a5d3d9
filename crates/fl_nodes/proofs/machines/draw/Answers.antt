use Rattle.fl_graph.proofs.StateLemmas.{put_is_plain, put_run}
use Rattle.fl_nodes.proofs.MachineLemmas.{same_ports}
use Rattle.fl_nodes.proofs.machines.draw.Goals as goal

pub returns-clause-run : goal.returns-clause-run
returns-clause-run g c = λ start taken put failed.
    put_run start _ _ taken put failed _ c.requires.turn c.requires.may c.put.ensures.takes c.put.ensures.puts c.put.ensures.numbered_ins c.put.ensures.numbered_outs
    c.put.ensures.put c.put.ensures.selects c.put.ensures.broken c.put.ensures.memory

pub returns-clause-plain : goal.returns-clause-plain
returns-clause-plain g c = put_is_plain (g.M.Machine.state c.args.machine.now) (g.M.Machine.state c.put.new.self) c.put.result c.put.ensures.put

pub returns-clause-same : goal.returns-clause-same
returns-clause-same g c = same_ports _ _ _ _ c.put.ensures.takes c.put.ensures.puts c.put.ensures.numbered_ins c.put.ensures.numbered_outs
