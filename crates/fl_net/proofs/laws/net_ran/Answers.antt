use Rattle.fl_net.proofs.RanLemmas.{ran_front, ran_unbroken, ran_whole}
use Rattle.fl_net.proofs.laws.net_ran.Goals as goal

pub returns : goal.returns
returns c = λ sources pieces failed ran edge within. record {
  front = ran_front c.args.graph.now.nodes c.args.graph.now.status c.requires sources pieces failed ran edge within;
  whole = ran_whole c.args.graph.now.nodes c.args.graph.now.status c.requires sources pieces failed ran edge within;
  unbroken = ran_unbroken c.args.graph.now.nodes c.args.graph.now.status c.requires sources pieces failed ran edge within;
}
