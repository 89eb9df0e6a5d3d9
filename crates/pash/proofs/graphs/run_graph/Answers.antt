use Rattle.pash.proofs.GraphLemmas.{run-executed}
use Rattle.pash.proofs.graphs.run_graph.Goals as goal

pub returns-clause-runs : goal.returns-clause-runs
returns-clause-runs g c = λ errors faults. run-executed _ _ _ _ _ _ _ errors _ _ _ _ faults _ _ _ _ _ _ c.graph_came.ensures c.execute-ended.ensures
