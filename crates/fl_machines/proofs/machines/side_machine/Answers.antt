use Rattle.std.proofs.Common.{◌≡◌, ℕ, ◌==◌, nat_lt, [], if◌then◌else◌, ap, sym, ◌∙◌}
use Rattle.ut_args.specs.declared.invocations.Inv.TheVariants as inv
use Rattle.ut_slices.specs.Paste.{column_inputs}
use Rattle.ut_slices.specs.Inner.Rows.{has_port}
use Rattle.ut_slices.specs.contracts.sides.SidePortStream.TheImpl.{ghosts}
use Rattle.fl_classes.proofs.ClassLemmas.{paste-selects}
use Rattle.fl_machines.proofs.MachineLemmas.{begins-at_ports}
use Rattle.fl_machines.proofs.PasteLemmas.{side-ins, side-owed}
use Rattle.fl_machines.proofs.machines.side_machine.Goals as goal

pub new-requires-in-Ok-clause-ports : goal.new-requires-in-Ok-clause-ports
new-requires-in-Ok-clause-ports c = λ port.
    c.in-Ok.ensures.ports port ∙ ap (nat_lt port) (sym (side-ins c.args.paste.now c.args.ins c.args.outs c.requires.node c.requires.side))

pub returns-in-Ok-new : goal.returns-in-Ok-new
returns-in-Ok-new c =
    let paste = c.args.paste.now in
    let machine = c.in-Ok-new.machine in
    let facts = c.in-Ok-new.ensures in
    let count = side-ins paste c.args.ins c.args.outs c.requires.node c.requires.side in
    let used : (port : ℕ) → has_port port (column_inputs paste.args.operands) ≡ nat_lt port c.args.ins =
    λ port. sym (c.in-Ok.ensures.opens port) ∙ c.in-Ok.ensures.ports port ∙ ap (nat_lt port) (sym count) in
    begins-at_ports (inv.Paste paste) c.args.ins c.args.outs c.requires.node _ machine.opens.items machine.putting machine.broken _ facts.opens facts.putting facts.broken
    (λ texts port. rw (facts.waiting, facts.stream)
    (ap (λ text. if port == 0 then text else []) (side-owed paste c.args.ins c.args.outs c.requires.node c.requires.side (ghosts.due c.in-Ok.side) c.in-Ok.ensures.due used texts)))
    (λ texts. paste-selects texts paste)
