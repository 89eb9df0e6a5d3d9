use Rattle.std.proofs.Common.{◌≡◌, Ok, rules}
use Rattle.pash.specs.Meaning.{meaning}
use Rattle.pash.specs.Words.{texts}
use Rattle.pash.proofs.TopLemmas.{meaning-so, prefixes-so, status-so}
use Rattle.pash.proofs.top.pash.Goals as goal

pub returns-in-Ok-clause-meaning : goal.returns-in-Ok-clause-meaning
returns-in-Ok-clause-meaning g c =
    let is : c.run_words-outcome.result.outcome ≡ Ok c.in-Ok.field-0 = search rules in
    meaning-so (λ reads expansions. meaning reads expansions (texts c.args.words.now)) _ _ _ c.in-Ok.field-0 is c.run_words-outcome.ensures.runs

pub returns-in-Ok-clause-prefixes : goal.returns-in-Ok-clause-prefixes
returns-in-Ok-clause-prefixes g c = prefixes-so (λ reads expansions. meaning reads expansions (texts c.args.words.now)) _ _ _ c.run_words-outcome.ensures.runs

pub returns-in-Ok-clause-status : goal.returns-in-Ok-clause-status
returns-in-Ok-clause-status g c =
    let is : c.run_words-outcome.result.outcome ≡ Ok c.in-Ok.field-0 = search rules in
    status-so _ _ c.in-Ok.field-0 is c.run_words-outcome.ensures.why

pub returns-in-Err-clause-prefixes : goal.returns-in-Err-clause-prefixes
returns-in-Err-clause-prefixes g c = prefixes-so (λ reads expansions. meaning reads expansions (texts c.args.words.now)) _ _ _ c.run_words-outcome.ensures.runs

pub returns-in-Ok-clause-kept : goal.returns-in-Ok-clause-kept
returns-in-Ok-clause-kept g c = c.run_words-outcome.ensures.runs.kept

pub returns-in-Err-clause-kept : goal.returns-in-Err-clause-kept
returns-in-Err-clause-kept g c = c.run_words-outcome.ensures.runs.kept
