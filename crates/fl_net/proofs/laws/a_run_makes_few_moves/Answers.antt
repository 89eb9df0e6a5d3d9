use Rattle.fl_net.proofs.MoveLemmas.{few_moves, few_over_edges}
use Rattle.fl_net.proofs.laws.a_run_makes_few_moves.Goals as goal

pub returns-clause-all : goal.returns-clause-all
returns-clause-all g c = λ inputs moves failed runs. few_moves _ c.args.graph.now.nodes c.args.graph.now.status c.requires inputs moves failed _ _ _ runs

pub returns-clause-edges : goal.returns-clause-edges
returns-clause-edges g c = λ inputs moves failed runs. few_over_edges _ c.args.graph.now.nodes c.args.graph.now.status c.requires inputs moves failed _ _ _ runs
