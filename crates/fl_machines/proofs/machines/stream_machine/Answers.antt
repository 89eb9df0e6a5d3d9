use Rattle.std.proofs.Common.{rules, ◌==◌, [], ap, if◌then◌else◌}
use Rattle.fl_machines.proofs.MachineLemmas.{begins-some}
use Rattle.fl_machines.proofs.machines.stream_machine.Goals as goal

pub returns-in-Ok : goal.returns-in-Ok
returns-in-Ok c =
    let machine = c.new.result in
    let facts = c.new.ensures in
    begins-some c.args.kind.now c.args.ins c.args.outs c.requires.node c.requires.joined _ machine.taking machine.putting machine.broken _ _ facts.putting facts.broken (search rules) facts.taking
    (λ texts port. rw (facts.waiting, facts.taking, facts.stream) (ap (λ text. if port == 0 then text else []) (c.in-Ok.ensures.due (texts 0))))
    (λ texts. rw (facts.taking, facts.stream) (c.in-Ok.ensures.selects (texts 0)))
