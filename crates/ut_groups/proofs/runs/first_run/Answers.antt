use Rattle.std.proofs.Common.{rules, ◌+◌, ◌≤◌, length, sym, subst, arith}
use Rattle.ut_groups.specs.Inner.Runs.{BeginsWithRun}
use Rattle.ut_groups.proofs.CommonLemmas.{common-most}
use Rattle.ut_groups.proofs.RunLemmas.{begins_with_run}
use Rattle.ut_groups.proofs.runs.first_run.Goals as goal

pub overflow_add-result : goal.overflow_add-result
overflow_add-result c =
    let most : 1 + c.times-repeats.result ≤ length c.args.text.now =
    omega (arith, c.times-repeats.ensures.few, c.common.ensures, common-most c.in_ok-line.behind_first.now c.args.text.now, c.in_ok-line.ensures.shorter) in
    search (rules, most)

pub returns-clause-run : goal.returns-clause-run
returns-clause-run c =
    let line = c.in_ok-line.line.now in
    let behind_first = c.in_ok-line.behind_first.now in
    subst (λ behind. BeginsWithRun c.args.text.now line (1 + c.times-repeats.result) behind_first behind) (sym c.split_at.ensures.back)
    (begins_with_run c.args.text.now line behind_first c.common.result c.times-repeats.result c.in_ok-line.ensures.cut c.requires c.common.ensures
    c.times-repeats.ensures.low c.times-repeats.ensures.high)
