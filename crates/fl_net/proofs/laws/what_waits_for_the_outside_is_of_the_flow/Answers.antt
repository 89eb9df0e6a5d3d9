use Rattle.fl_net.proofs.OuterLemmas.{waiting_carries, waiting_whole}
use Rattle.fl_net.proofs.laws.what_waits_for_the_outside_is_of_the_flow.Goals as goal

pub returns-clause-carries : goal.returns-clause-carries
returns-clause-carries g c = λ inputs moves failed runs. waiting_carries _ c.args.graph.now.nodes c.args.graph.now.status c.requires inputs moves failed _ _ _ runs

pub returns-clause-whole : goal.returns-clause-whole
returns-clause-whole g c = λ inputs moves failed runs unfailed stopped sources told node cell at_node sink.
    waiting_whole _ c.args.graph.now.nodes c.args.graph.now.status c.requires inputs moves failed _ _ _ runs sources told node cell at_node sink unfailed stopped
