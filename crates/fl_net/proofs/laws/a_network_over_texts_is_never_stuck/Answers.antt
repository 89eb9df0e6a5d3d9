use Rattle.fl_net.proofs.ProgressLemmas.{still_stops}
use Rattle.fl_net.proofs.laws.a_network_over_texts_is_never_stuck.Goals as goal

pub returns : goal.returns
returns g c = λ inputs moves failed runs all_ports cap has_rooms some_room still.
    still_stops _ c.args.graph.now.nodes c.args.graph.now.status c.requires inputs moves failed _ _ _ _ runs still all_ports cap has_rooms some_room
