use Rattle.fl_net.proofs.HistoryLemmas.{history_carries, history_whole}
use Rattle.fl_net.proofs.laws.what_was_put_on_an_edge_is_of_its_flow.Goals as goal

pub returns-clause-carries : goal.returns-clause-carries
returns-clause-carries g c = λ inputs moves failed runs. record {
  carries = history_carries _ c.args.graph.now.nodes c.args.graph.now.status c.requires inputs moves failed _ _ _ runs;
  closed = runs.goes.reached.clean;
  waits = runs.goes.reached.queued;
}

pub returns-clause-whole : goal.returns-clause-whole
returns-clause-whole g c = λ inputs moves failed runs. history_whole _ c.args.graph.now.nodes c.args.graph.now.status c.requires inputs moves failed _ _ _ runs
