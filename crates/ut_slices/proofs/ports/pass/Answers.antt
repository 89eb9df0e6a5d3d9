use Rattle.std.proofs.Common.{rules, ◌≡◌, ◌<◌, ◌≤◌, length, get_or, refl}
use Rattle.ut_slices.proofs.PortLemmas.{total-passed, total-past, waiting-past}
use Rattle.ut_slices.proofs.ports.pass.Goals as goal

pub returns-then-place-len-clause-total : goal.returns-then-place-len-clause-total
returns-then-place-len-clause-total c =
    let within : c.args.number < length c.args.ports.now.items = search rules in
    let is : c.index_mut-port.result.now ≡ get_or c.args.ports.now.items c.args.number c.index_mut-port.result.now = search rules in
    total-passed c.args.ports.now.items c.args.number c.args.count c.index_mut-port.result.now _ within c.requires is refl

pub returns-else-place-len-clause-waiting : goal.returns-else-place-len-clause-waiting
returns-else-place-len-clause-waiting c =
    let past : length c.args.ports.now.items ≤ c.args.number = search rules in
    waiting-past c.args.ports.now.items c.args.number c.args.count past

pub returns-else-place-len-clause-total : goal.returns-else-place-len-clause-total
returns-else-place-len-clause-total c =
    let past : length c.args.ports.now.items ≤ c.args.number = search rules in
    total-past c.args.ports.now.items c.args.number c.args.count past c.requires
