-- What a word is that the code has read.
use Rattle.sh_tree.specs.Views.{word_tree}
use Rattle.sh_words.specs.Words.{WordOutcome}
use Rattle.sh_words.specs.declared.reading.ReadWord.{ReadWord}

abbrev pub outcome_of : ReadWord → WordOutcome
outcome_of read = record { tree = word_tree read.word; subs = read.subs; fault = read.fault }
