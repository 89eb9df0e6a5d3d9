use Rattle.std.proofs.Common.{ap, ◌∙◌, refl, false}
use Rattle.sh_words.specs.Words.{WordOutcome}
use Rattle.sh_words.specs.Assigning.{word_assigns}
use Rattle.sh_words.specs.Built.{outcome_of}
use Rattle.sh_parse.specs.Outcomes.{bytes_at, in_text}
use Rattle.sh_parse.proofs.ManyWords.{word_read}
use Rattle.sh_parse.proofs.text_words.TextWordsWordReader.look.Goals as goal

pub returns-clause-fault : goal.returns-clause-fault
returns-clause-fault c =
    c.in_ok-in_text.ensures ∙ ap (λ (read : WordOutcome). in_text c.args.at.from read.fault)
    (word_read 0 0 (bytes_at c.args.self.now.text.now c.args.at) (bytes_at c.args.self.now.text.now c.args.at) (outcome_of c.in_ok-read.read) refl refl c.in_ok-read.ensures)

pub returns-clause-assigns : goal.returns-clause-assigns
returns-clause-assigns c =
    c.assigns_in.ensures ∙ ap (λ (read : WordOutcome). word_assigns false read.tree)
    (word_read 0 0 (bytes_at c.args.self.now.text.now c.args.at) (bytes_at c.args.self.now.text.now c.args.at) (outcome_of c.in_ok-read.read) refl refl c.in_ok-read.ensures)
