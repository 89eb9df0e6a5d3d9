use Rattle.fl_graph.specs.Paths.{paths_read}
use Rattle.fl_commands.proofs.ReaderLemmas.{opens-so, out-none}
use Rattle.fl_commands.proofs.readers.open_files.Goals as goal

pub returns-in-Ok-clause-opens : goal.returns-in-Ok-clause-opens
returns-in-Ok-clause-opens g c =
    opens-so g.T.Reader.Source.left g.T.Reader.Source.faults (paths_read c.args.nodes.now) _ _ _ _ c.new.ensures.items c.in-Ok.ensures.texts c.in-Ok.ensures.count c.open_nodes.ensures.fresh c.open_nodes.ensures.out

pub returns-in-Err-clause-back : goal.returns-in-Err-clause-back
returns-in-Err-clause-back g c = c.give_back.ensures.out _ (c.open_nodes.ensures.out _ (out-none _ c.new.ensures.items _))
