use Rattle.std.proofs.Common.{subst, IfOk}
use Rattle.sh_words.specs.Words.{ReadsWord}
use Rattle.sh_words.specs.Built.{outcome_of}
use Rattle.sh_parse.proofs.text_words.TextWords.read.Goals as goal

pub returns : goal.returns
returns c =
    subst (λ bytes. IfOk c.read_word_in.result (λ read. ReadsWord c.args.first bytes (outcome_of read))) c.bytes.ensures c.read_word_in.ensures
