use Rattle.pash.proofs.WordLemmas.{none-of-one}
use Rattle.pash.proofs.words.read_trial.Goals as goal

pub returns-in_default : goal.returns-in_default
returns-in_default c = none-of-one _ c.in_default.len_below
