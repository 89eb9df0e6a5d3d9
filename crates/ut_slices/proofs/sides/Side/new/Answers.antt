use Rattle.std.proofs.Common.{rules, ◌≡◌, ◌<◌, ◌^◌, ◌∷◌, [], ℕ, None, nat_lt, ap, sym, ◌∙◌}
use Rattle.ut_slices.specs.Inner.Ports.{is_open_at, waiting_at}
use Rattle.ut_slices.specs.Inner.Rows.{has_port}
use Rattle.ut_slices.specs.Paste.{column_inputs}
use Rattle.ut_slices.proofs.InputLemmas.{inputs-counted}
use Rattle.ut_slices.proofs.SideStepLemmas.{begun-read, begun-settled, due-begun}
use Rattle.ut_slices.proofs.sides.Side.new.Goals as goal

pub invariant_of-result : goal.invariant_of-result
invariant_of-result c =
    let plan = c.plan_of-plan.result in
    let walk = c.walk_of-walk.result in
    let next = c.in_ok-inputs.field-0.next in
    let used_first : (port : ℕ) → has_port port c.in_ok-inputs.field-0.inputs.items ≡ nat_lt port next = search rules in
    let opens_first : (port : ℕ) → is_open_at c.in_ok-ports.ports.items port ≡ nat_lt port next = search rules in
    let columns : plan.columns.items ≡ c.in_ok-inputs.field-0.inputs.items = search rules in
    let used : (port : ℕ) → has_port port plan.columns.items ≡ nat_lt port next = λ port. ap (λ columns. has_port port columns) columns ∙ used_first port in
    let opens : (port : ℕ) → is_open_at walk.ports.items port ≡ nat_lt port next = λ port. ap (λ ports. is_open_at ports port) c.walk_of-walk.ensures.ports ∙ opens_first port in
    record { read = begun-read plan walk next used opens c.walk_of-walk.ensures.column; settled = λ unspent. begun-settled plan walk next used opens c.walk_of-walk.ensures.begun }

pub returns-clause-due : goal.returns-clause-due
returns-clause-due c =
    let plan = c.plan_of-plan.result in
    let walk = c.walk_of-walk.result in
    let next = c.in_ok-inputs.field-0.next in
    let used_first : (port : ℕ) → has_port port c.in_ok-inputs.field-0.inputs.items ≡ nat_lt port next = search rules in
    let opens_first : (port : ℕ) → is_open_at c.in_ok-ports.ports.items port ≡ nat_lt port next = search rules in
    let columns : plan.columns.items ≡ c.in_ok-inputs.field-0.inputs.items = search rules in
    let used : (port : ℕ) → has_port port plan.columns.items ≡ nat_lt port next = λ port. ap (λ columns. has_port port columns) columns ∙ used_first port in
    let opens : (port : ℕ) → is_open_at walk.ports.items port ≡ nat_lt port next = λ port. ap (λ ports. is_open_at ports port) c.walk_of-walk.ensures.ports ∙ opens_first port in
    let empty : (port : ℕ) → waiting_at walk.ports.items port ≡ [] = λ port. ap (λ ports. waiting_at ports port) c.walk_of-walk.ensures.ports ∙ c.in_ok-ports.ensures.empty port in
    let marks : plan.delimiters.items ≡ None ∷ c.args.args.now.delimiters = search rules in
    let inputs : c.in_ok-inputs.field-0.inputs.items ≡ column_inputs c.args.args.now.operands = search rules in
    due-begun plan walk c.args.args.now.delimiters (column_inputs c.args.args.now.operands) next marks (columns ∙ inputs) used empty opens
    c.walk_of-walk.ensures.column c.walk_of-walk.ensures.delimiter c.walk_of-walk.ensures.front c.walk_of-walk.ensures.begun c.walk_of-walk.ensures.within

pub returns-clause-ports : goal.returns-clause-ports
returns-clause-ports c = λ port.
    let walk = c.walk_of-walk.result in
    let next = c.in_ok-inputs.field-0.next in
    let used_first : (port : ℕ) → has_port port c.in_ok-inputs.field-0.inputs.items ≡ nat_lt port next = search rules in
    let opens_first : (port : ℕ) → is_open_at c.in_ok-ports.ports.items port ≡ nat_lt port next = search rules in
    let inputs : c.in_ok-inputs.field-0.inputs.items ≡ column_inputs c.args.args.now.operands = search rules in
    let few : next < 2 ^ 32 = search rules in
    let count = inputs-counted c.args.args.now.operands next few (λ port. ap (λ columns. has_port port columns) (sym inputs) ∙ used_first port) in
    ap (λ ports. is_open_at ports port) c.walk_of-walk.ensures.ports ∙ opens_first port ∙ ap (nat_lt port) count
