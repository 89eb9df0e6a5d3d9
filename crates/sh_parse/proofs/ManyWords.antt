-- Every text has words, and they are one.
use Rattle.std.proofs.Common.{◌≡◌, ℕ, false, List, length, refl, sym, ◌∙◌, ap}
use Rattle.sh_tree.specs.Trees.{WordTree}
use Rattle.sh_words.specs.Words.{WordOutcome, ReadsBehind, ReadsWord, ReadsAssign, assigned_value}
use Rattle.sh_words.proofs.Readings.{behind_one}
use Rattle.sh_parse.specs.Inner.WordsOf.{word_of, value_of, words_of}
use Rattle.sh_words.specs.Assigning.{word_assigns}
use Rattle.sh_parse.specs.Pieces.{WordViews}
use Rattle.sh_parse.specs.Outcomes.{bytes_at, in_text, IsReadAs, AreWordsOf}

-- a word has one outcome
behind_same : (first total : ℕ) (text : List ℕ) (one other : WordOutcome) → ReadsBehind first total text one
    → ReadsBehind first total text other → one ≡ other
behind_same first total text one other a b =
    let (outcome, (reads, only)) = behind_one first total text in only one a ∙ sym (only other b)

word_one : (first : ℕ) (bytes : List ℕ) (one other : WordOutcome) → ReadsWord first bytes one → ReadsWord first bytes other → one ≡ other
word_one first bytes = behind_same first (length bytes) bytes

assign_one : (first : ℕ) (bytes : List ℕ) (one other : WordOutcome) → ReadsAssign first bytes one → ReadsAssign first bytes other
    → one ≡ other
assign_one first bytes = behind_same first (length bytes) (assigned_value bytes)

-- a word is read in one way
read_one : {Reads : WordOutcome → Type 0} {one other : WordTree} → ((a b : WordOutcome) → Reads a → Reads b → a ≡ b)
    → IsReadAs Reads one → IsReadAs Reads other → one ≡ other
read_one same first second = first.same ∙ ap (λ (outcome : WordOutcome). outcome.tree) (same first.outcome second.outcome first.reads second.reads) ∙ sym second.same

pub words_same : (text : List ℕ) (one other : WordViews) → AreWordsOf text one → AreWordsOf text other → one ≡ other
words_same text one other first second = λ i. record {
  word = λ at number. read_one {Reads = ReadsWord number (bytes_at text at)} (word_one number (bytes_at text at)) (first.word at number) (second.word at number) i;
  assign = λ at number. (
    (first.assigned at number ∙ sym (second.assigned at number)) i,
    read_one {Reads = ReadsAssign number (bytes_at text at)} (assign_one number (bytes_at text at)) (first.value at number) (second.value at number) i,
  );
  name = λ at. (first.name at ∙ sym (second.name at)) i;
  fault = λ at. ((first.look at).fault_is
      ∙ ap (λ (outcome : WordOutcome). in_text at.from outcome.fault) (word_one 0 (bytes_at text at) (first.look at).outcome (second.look at).outcome (first.look at).reads (second.look at).reads)
      ∙ sym (second.look at).fault_is) i;
  assigns = λ at. ((first.look at).assigns_is
      ∙ ap (λ (outcome : WordOutcome). word_assigns false outcome.tree) (word_one 0 (bytes_at text at) (first.look at).outcome (second.look at).outcome (first.look at).reads (second.look at).reads)
      ∙ sym (second.look at).assigns_is) i;
}

-- and some
word_some : (first : ℕ) (bytes : List ℕ) → ReadsWord first bytes (word_of first bytes)
word_some first bytes = (behind_one first (length bytes) bytes).1.0

value_some : (first : ℕ) (bytes : List ℕ) → ReadsAssign first bytes (value_of first bytes)
value_some first bytes = (behind_one first (length bytes) (assigned_value bytes)).1.0

pub some_words : (text : List ℕ) → AreWordsOf text (words_of text)
some_words text = record {
  word = λ at first. record { outcome = word_of first (bytes_at text at); reads = word_some first (bytes_at text at); same = refl };
  value = λ at first. record { outcome = value_of first (bytes_at text at); reads = value_some first (bytes_at text at); same = refl };
  assigned = λ at first. refl;
  name = λ at. refl;
  look = λ at. record { outcome = word_of 0 (bytes_at text at); reads = word_some 0 (bytes_at text at); fault_is = refl; assigns_is = refl };
}

-- what is read of a word is what it is, also where its bytes and its number are known by others
module _ (first number : ℕ) (bytes read : List ℕ) (outcome : WordOutcome) (same : number ≡ first) (is : read ≡ bytes) where
  pub word_read : ReadsWord number read outcome → outcome ≡ word_of first bytes
  word_read reads =
      word_one number read outcome (word_of number read) reads (word_some number read) ∙ ap (λ n. word_of n read) same ∙ ap (word_of first) is

  pub value_read : ReadsAssign number read outcome → outcome ≡ value_of first bytes
  value_read reads =
      assign_one number read outcome (value_of number read) reads (value_some number read) ∙ ap (λ n. value_of n read) same ∙ ap (value_of first) is
