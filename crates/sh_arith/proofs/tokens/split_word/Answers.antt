use Rattle.sh_arith.proofs.TokenLemmas.{word_taken}
use Rattle.sh_arith.proofs.tokens.split_word.Goals as goal

pub returns-clause-word : goal.returns-clause-word
returns-clause-word c = word_taken c.args.text.now _ c.past_word-rest.ensures.past
