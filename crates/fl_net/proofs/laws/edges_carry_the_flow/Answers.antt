use Rattle.fl_net.proofs.LawLemmas.{edge_carries, edge_taken, edge_ended, edge_completed}
use Rattle.fl_net.proofs.laws.edges_carry_the_flow.Goals as goal

pub returns : goal.returns
returns c = λ sources taken put keeps edge within. record {
  carries = edge_carries c.args.graph.now.nodes c.args.graph.now.status c.requires sources taken put keeps edge within;
  taken = edge_taken c.args.graph.now.nodes c.args.graph.now.status c.requires sources taken put keeps edge within;
  ended = edge_ended c.args.graph.now.nodes c.args.graph.now.status c.requires sources taken put keeps edge within;
  completes = edge_completed c.args.graph.now.nodes c.args.graph.now.status c.requires sources taken put keeps edge within;
}
