use Rattle.std.proofs.Common.{[], ap}
use Rattle.std.specs.Option.{option_map_or}
use Rattle.fl_machines.proofs.MachineLemmas.{begins-copying}
use Rattle.fl_machines.proofs.machines.copying_machine.Goals as goal

pub returns : goal.returns
returns c =
    let machine = c.new.result in
    let facts = c.new.ensures in
    begins-copying c.args.kind.now c.args.ins c.args.outs c.requires.node c.requires.joined _ machine.taking machine.putting machine.broken _ facts.taking facts.putting facts.broken
    (ap (λ held. option_map_or (λ bytes. bytes) held []) facts.held) c.requires.copied
