use Rattle.std.proofs.Common.{◌<◌, arith}
use Rattle.ut_regex.proofs.TwinLemmas.{first_push, twins_push}
use Rattle.ut_regex.proofs.twins.twins_of.Goals as goal

pub loop-code-preserved : goal.loop-code-preserved
loop-code-preserved c =
    let l = c.loop-code in
    let kept = l.invariant in
    let steps = c.args.steps.now in
    let made = c.in_ok-push.ensures.items in
    let twin = c.twin_of.ensures in record {
      twins = twins_push c.args.fold steps l.twins.items c.push.new.self.items l.code c.twin_of.result kept.twins made twin.before twin.twin;
      first = first_push c.args.fold steps l.twins.items c.push.new.self.items l.code c.twin_of.result kept.twins made kept.first twin.first;
    }

pub returns-clause-first : goal.returns-clause-first
returns-clause-first c = λ byte earlier within before twins.
    let so_far : byte < c.loop-code.code = omega (arith, c.loop-code-test.false) in
    c.loop-code.invariant.first byte earlier so_far before twins
