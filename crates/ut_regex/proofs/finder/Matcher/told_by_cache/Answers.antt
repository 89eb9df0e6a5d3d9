use Rattle.std.proofs.Common.{Some}
use Rattle.ut_regex.proofs.AnswerLemmas.{made-same}
use Rattle.ut_regex.proofs.FilledLemmas.{serves-held}
use Rattle.ut_regex.proofs.finder.Matcher.told_by_cache.Goals as goal

pub invariant_of-self : goal.invariant_of-self
invariant_of-self c = record {
  serves = serves-held c.has.new.machine (Some c.has.new.self) c.has.ensures.serves;
  made = made-same c.args.self.now.machine c.has.new.machine c.args.self.now.table c.args.self.now.literal c.has.ensures.same c.args.self.now.made;
}
