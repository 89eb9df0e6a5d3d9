use Rattle.std.proofs.Common.{ap, refl}
use Rattle.sh_words.specs.Words.{WordOutcome}
use Rattle.sh_words.specs.Built.{outcome_of}
use Rattle.sh_parse.specs.Outcomes.{bytes_at}
use Rattle.sh_parse.proofs.ManyWords.{word_read}
use Rattle.sh_parse.proofs.text_words.TextWordsWordReader.word.Goals as goal

pub returns : goal.returns
returns c =
    ap (λ (read : WordOutcome). read.tree)
    (word_read c.args.first c.in_ok-number.field-0 (bytes_at c.args.self.now.text.now c.args.at) (bytes_at c.args.self.now.text.now c.args.at)
    (outcome_of c.in_ok-read.read) c.in_ok-number.ensures refl c.in_ok-read.ensures)
