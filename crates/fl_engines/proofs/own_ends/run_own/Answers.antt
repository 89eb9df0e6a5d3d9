use Rattle.std.proofs.Common.{rules}
use Rattle.fl_engines.proofs.OwnLemmas.{has_its_ends}
use Rattle.fl_engines.proofs.OwnRunLemmas.{own_runs}
use Rattle.fl_engines.proofs.own_ends.run_own.Goals as goal

pub run_graph-ran-requires-clause-ends : goal.run_graph-ran-requires-clause-ends
run_graph-ran-requires-clause-ends g c = let has = has_its_ends c.args.graph.now.nodes c.args.ends c.requires.ends in search (has, rules)

pub returns : goal.returns
returns g c =
    rw (c.came_out.ensures.came, c.came_out.ensures.ends)
    (own_runs g.R.Source.left g.I.Source.left g.W.Sink.taken g.O.Sink.taken g.R.Source.faults g.W.Sink.faults g.I.Source.faults g.O.Sink.faults
    c.args.graph.now c.args.ends c.requires.ends _ _ c.run_graph-ran.result c.run_graph-ran.ensures)
