use Rattle.std.proofs.Common.{ap, ◌∙◌}
use Rattle.sh_words.specs.Words.{WordOutcome, assigned_name}
use Rattle.sh_words.specs.Built.{outcome_of}
use Rattle.sh_parse.specs.Outcomes.{bytes_at}
use Rattle.sh_parse.proofs.ManyWords.{value_read}
use Rattle.sh_parse.proofs.text_words.TextWordsWordReader.assign.Goals as goal

pub returns : goal.returns
returns c =
    let value = value_read c.args.first c.in_ok-first.first (bytes_at c.args.self.now.text.now c.args.at) c.bytes-bytes.result.now
    (outcome_of c.in_ok-name.read) c.in_ok-first.ensures c.bytes-bytes.ensures c.in_ok-name.ensures.value in
    λ i. ((c.in_ok-name.ensures.name ∙ ap assigned_name c.bytes-bytes.ensures) i, ap (λ (read : WordOutcome). read.tree) value i)
