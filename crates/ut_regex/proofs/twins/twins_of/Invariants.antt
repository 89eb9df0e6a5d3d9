use Rattle.ut_regex.specs.Inner.Twins.{AreFirst, HasTwins}
use Rattle.ut_regex.proofs.twins.twins_of.Given as goal

abbrev pub invariant-loop-code : goal.invariant-loop-code
invariant-loop-code l = record {
  twins : HasTwins l.fold l.steps l.twins.items l.code;
  first : AreFirst l.fold l.steps l.twins.items l.code;
}
