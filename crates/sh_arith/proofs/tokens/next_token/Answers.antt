use Rattle.std.proofs.Common.{sym, ◌∙◌}
use Rattle.sh_arith.proofs.TokenLemmas.{word_shorter}
use Rattle.sh_arith.proofs.tokens.next_token.Goals as goal

pub returns-then-is_name_byte-clause-shorter : goal.returns-then-is_name_byte-clause-shorter
returns-then-is_name_byte-clause-shorter c =
    word_shorter c.word_token.result c.args.text.now _ _ _ c.word_token.ensures.rest c.split_word.ensures.past c.in_ok-first.ensures.cases.0 (sym c.is_name_byte.ensures ∙ c.if-is_name_byte.true)
