-- What the arguments of `test` ask, between the reading of its words and the look at a place.
use Rattle.std.specs.Prelude.{ℕ, List, Bool, true, false}
use Rattle.ps_world.specs.declared.places.Place.{Place}
use Rattle.ut_test.specs.declared.outcomes.Tested.{Tested}
use Rattle.ut_test.specs.declared.questions.Question.{Question}
use Rattle.ut_test.specs.declared.questions.Question.TheVariants as question
use Rattle.ut_test.specs.Operators.{stands}
use Rattle.ut_test.specs.Tests.{answer, opposite}

abbrev pub unless_negated : Bool → Tested → Tested
unless_negated true answered = opposite answered
unless_negated false answered = answered

-- the answer to a question, where a path names a place
abbrev pub answered : (List ℕ → Place) → Question → Tested
answered places (question.Known known) = known
answered places (question.Look asked path negated) = unless_negated negated (answer (stands asked (places path.now)))

-- the question hangs on a place
abbrev pub hangs : Question → Bool
hangs (question.Known known) = false
hangs (question.Look asked path negated) = true
