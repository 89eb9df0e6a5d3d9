-- The words of a text, as a function: each word has exactly one outcome (`sh_words::laws`), and this is it. The outcome itself is the
-- relation of `Outcomes`; only the code that reads a text's words is tied to its words by this function.
use Rattle.std.specs.Prelude.{ℕ, false, List, length}
use Rattle.sh_words.specs.Words.{WordOutcome, assigned_name, assigned_value}
use Rattle.sh_words.specs.Assigning.{word_assigns}
use Rattle.sh_words.proofs.Readings.{behind_one}
use Rattle.sh_parse.specs.Kinds.{spelled}
use Rattle.sh_parse.specs.Pieces.{WordViews}
use Rattle.sh_parse.specs.Outcomes.{bytes_at, in_text}

abbrev pub word_of : ℕ → List ℕ → WordOutcome
word_of first bytes = (behind_one first (length bytes) bytes).0

abbrev pub value_of : ℕ → List ℕ → WordOutcome
value_of first bytes = (behind_one first (length bytes) (assigned_value bytes)).0

abbrev pub words_of : List ℕ → WordViews
words_of text =
    record {
      word = λ at first. (word_of first (bytes_at text at)).tree;
      assign = λ at first. (assigned_name (bytes_at text at), (value_of first (bytes_at text at)).tree);
      name = λ at. spelled (bytes_at text at);
      fault = λ at. in_text at.from (word_of 0 (bytes_at text at)).fault;
      assigns = λ at. word_assigns false (word_of 0 (bytes_at text at)).tree;
    }
