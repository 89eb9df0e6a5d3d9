use Rattle.std.proofs.Common.{◌≡◌, [], rules}
use Rattle.fl_commands.proofs.WriterLemmas.{ended-calm, ended-failed, ended-fills, ended-kept, ended-later, ended-out, ended-paths, ended-rose, ended-some, returned}
use Rattle.fl_commands.proofs.writers.end_writers.Goals as goal

pub loop-number-preserved : goal.loop-number-preserved
loop-number-preserved g c =
    let taken = g.T.Writer.Sink.taken in
    let faults = g.T.Writer.Sink.faults in
    let before = c.loop-number.invariant in
    record {
      paths = ended-paths taken faults _ _ _ _ c.in-Some.ensures.items _ _ _ c.in-Some-pop.ensures.items before.paths _ _ _ _ _ c.first_error-ended.ensures c.end_write.ensures.ok c.end_write.ensures.failed c.end_write.ensures.memory;
      out = λ first count out. ended-out taken faults _ _ _ _ c.in-Some.ensures.items _ _ _ c.in-Some-pop.ensures.items before.paths _ _ _ _ _ c.first_error-ended.ensures c.end_write.ensures.ok c.end_write.ensures.failed c.end_write.ensures.memory first count (before.out first count out);
      fills = ended-fills taken faults _ _ _ _ c.in-Some.ensures.items _ _ _ c.in-Some-pop.ensures.items before.paths _ _ _ _ _ c.first_error-ended.ensures c.end_write.ensures.ok c.end_write.ensures.failed c.end_write.ensures.memory _ before.fills;
      none = ended-some taken faults _ _ _ _ c.in-Some.ensures.items _ _ _ c.in-Some-pop.ensures.items before.paths _ _ _ _ _ c.first_error-ended.ensures c.end_write.ensures.ok c.end_write.ensures.failed c.end_write.ensures.memory _ _ before.none;
      kept = ended-kept taken faults _ _ _ _ c.in-Some.ensures.items _ _ _ c.in-Some-pop.ensures.items before.paths _ _ _ _ _ c.first_error-ended.ensures c.end_write.ensures.ok c.end_write.ensures.failed c.end_write.ensures.memory _ _ before.kept;
      later = ended-later taken faults _ _ _ _ c.in-Some.ensures.items _ _ _ c.in-Some-pop.ensures.items before.paths _ _ _ _ _ c.first_error-ended.ensures c.end_write.ensures.ok c.end_write.ensures.failed c.end_write.ensures.memory _ _ _ c.end_write.ensures.cause before.later;
      calm = ended-calm taken faults _ _ _ _ c.in-Some.ensures.items _ _ _ c.in-Some-pop.ensures.items before.paths _ _ _ _ _ c.first_error-ended.ensures c.end_write.ensures.ok c.end_write.ensures.failed c.end_write.ensures.memory _ _ _ c.end_write.ensures.cause before.later _ before.calm;
      failed = ended-failed taken faults _ _ _ _ c.in-Some.ensures.items _ _ _ c.in-Some-pop.ensures.items before.paths _ _ _ _ _ c.first_error-ended.ensures c.end_write.ensures.ok c.end_write.ensures.failed c.end_write.ensures.memory _ _ _ c.end_write.ensures.cause before.later before.failed;
      rose = ended-rose taken faults _ _ _ _ c.in-Some.ensures.items _ _ _ c.in-Some-pop.ensures.items before.paths _ _ _ _ _ c.first_error-ended.ensures c.end_write.ensures.ok c.end_write.ensures.failed c.end_write.ensures.memory _ _ _ c.end_write.ensures.cause before.later _ before.rose;
    }

pub returns : goal.returns
returns g c =
    let none : c.loop-number.writers.items ≡ [] = search rules in
    returned g.T.Writer.Sink.taken g.T.Writer.Sink.faults _ _ _ _ _ _ _ _ _ none c.loop-number.invariant.paths
    c.loop-number.invariant.out c.loop-number.invariant.fills c.loop-number.invariant.none c.loop-number.invariant.kept c.loop-number.invariant.later c.loop-number.invariant.calm c.loop-number.invariant.failed c.loop-number.invariant.rose
