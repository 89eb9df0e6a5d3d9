use Rattle.fl_net.proofs.ProgressLemmas.{never_stuck}
use Rattle.fl_net.proofs.laws.a_network_is_never_stuck.Goals as goal

pub returns : goal.returns
returns g c = λ left taken goes planned all_ports all_machines cap has_rooms some_room stuck.
    never_stuck _ c.args.graph.now.nodes c.args.graph.now.status c.requires goes.plan planned goes.wired
    _ _ _ _ left taken goes.follows goes.reached all_ports all_machines cap has_rooms some_room stuck
