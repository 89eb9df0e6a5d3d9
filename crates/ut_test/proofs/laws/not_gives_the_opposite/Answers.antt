use Rattle.std.proofs.Common.{refl}
use Rattle.ut_args.specs.Operators.{unary_of}
use Rattle.ut_test.proofs.laws.not_gives_the_opposite.Goals as goal

pub returns-clause-one : goal.returns-clause-one
unfolding unary_of
returns-clause-one c places word = refl
