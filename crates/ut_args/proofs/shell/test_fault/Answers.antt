use Rattle.std.proofs.Common.{◌∙◌}
use Rattle.ut_args.proofs.WordLemmas.{test_fault-many, test_fault-two}
use Rattle.ut_args.proofs.shell.test_fault.Goals as goal

pub returns-in-len2 : goal.returns-in-len2
returns-in-len2 c =
    c.fault_of_two.ensures
    ∙ test_fault-two c.args.arguments.now c.operator-item.result c.as_slice.result.now c.in-len2.len_at_least c.in-len2.len_below c.operator-item.is c.as_slice.ensures.value

pub returns-in_default : goal.returns-in_default
returns-in_default c = test_fault-many c.args.arguments.now c.in_default.len_at_least
