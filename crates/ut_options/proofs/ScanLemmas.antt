-- What words give where other operands stand behind the same options.
use Rattle.std.proofs.Common.{◌≡◌, ℕ, Bool, true, false, List, [], ◌∷◌, ◌++◌, Option, Some, None, Result, Ok, Err, refl, ap, sym, subst, ◌∙◌, codes, if◌then◌else◌}
use Rattle.std.proofs.lemmas.Bool.{true≢false}
use Rattle.std.specs.Result.{is_ok}
use Rattle.std.specs.Str.{bytes_eq}
use Rattle.ps_lines.specs.Lines.{is_empty}
use Rattle.ut_options.specs.Rows.{Row, takes}
use Rattle.ut_options.specs.Scanning.{behind, count_letter, goes_on, is_count, is_operand, letters_given, letters_of, letters_step, operands_alone, scanned_from, step_by}
use Rattle.ut_options.specs.declared.given.Given.{Given}
use Rattle.ut_options.specs.declared.letters.Takes.{Takes}
use Rattle.ut_options.specs.declared.letters.Takes.TheVariants as taking
use Rattle.ut_options.specs.declared.scanning.Step.{Step}
use Rattle.ut_options.specs.declared.scanning.Step.TheVariants as step
use Rattle.ut_options.specs.declared.scanning.Scanned.{Scanned}
use Rattle.ut_options.specs.declared.usage.Usage.{Usage}

-- the first of the words, if any, is an operand as it stands
abbrev pub begins_with_operand : List (List ℕ) → Bool
begins_with_operand [] = true
begins_with_operand (word ∷ rest) = is_operand word

-- where no option was first, none is
abbrev pub MayStandFor : List (List ℕ) → List (List ℕ) → Type 0
MayStandFor operands others = begins_with_operand operands ≡ true → begins_with_operand others ≡ true

-- the words before the operands give these options whatever operands stand behind them
pub record ReadsFront (row : Row) (waiting : Option ℕ) (words : List (List ℕ)) (read : Scanned) : Type 0 where
  pub front : List (List ℕ)
  pub whole : words ≡ front ++ read.operands
  pub reads : (others : List (List ℕ)) → MayStandFor read.operands others
      → scanned_from row waiting (front ++ others) ≡ Ok (record { options = read.options; operands = others })

ok_or : {Value Fault : Type 0} → Value → Result Value Fault → Value
ok_or fallback (Ok value) = value
ok_or fallback (Err fault) = fallback

-- the same read otherwise
same-read : (row : Row) (waiting : Option ℕ) (words : List (List ℕ)) (one other : Scanned) → one ≡ other
    → ReadsFront row waiting words one → ReadsFront row waiting words other
same-read row waiting words one other same reads = subst (λ read. ReadsFront row waiting words read) same reads

module _ {Value Fault : Type 0} where
  pub same-ok : (whole : Result Value Fault) (one other : Value) → whole ≡ Ok one → whole ≡ Ok other → one ≡ other
  unfolding ok_or
  same-ok whole one other first second = ap (ok_or one) (sym first ∙ second)

  pub no-fault : (fault : Fault) (value : Value) → Err fault ≡ Ok value → ⊥
  no-fault fault value same = true≢false (sym (ap is_ok same))

-- words that begin with an operand are operands
all-operands : (row : Row) (words : List (List ℕ)) → begins_with_operand words ≡ true → scanned_from row None words ≡ operands_alone words
all-operands row [] first = refl
all-operands row (word ∷ rest) first = rw first refl

-- letters are read on or refused: they end no options
abbrev IsOfLetters : Step → Type 0
IsOfLetters (step.Next next) = Unit {0}
IsOfLetters (step.Unlisted letter) = Unit {0}
IsOfLetters step.Operands = ⊥
IsOfLetters step.Ends = ⊥

by_takes : (taken : Takes) (letter : ℕ) (rest : List ℕ) (others : Step) → IsOfLetters others → IsOfLetters (step_by taken letter rest others)
by_takes taking.Nothing letter rest others of = of
by_takes taking.Argument letter rest others of = by_rest (is_empty rest)
  where
    by_rest : (none : Bool) → IsOfLetters (if none then step.Next (Some letter) else step.Next None)
    by_rest true = tt
    by_rest false = tt
by_takes taking.Unlisted letter rest others of = tt

of-letters : (row : Row) (letters : List ℕ) → IsOfLetters (letters_step row letters)
of-letters row [] = tt
of-letters row (letter ∷ rest) = by_takes (takes row letter) letter rest (letters_step row rest) (of-letters row rest)

-- one word, and those behind it
module _ (row : Row) (waiting : Option ℕ) (word : List ℕ) (rest : List (List ℕ)) (read : Scanned)
    (on : (next : Option ℕ) (read : Scanned) → scanned_from row next rest ≡ Ok read → ReadsFront row next rest read) where
  -- a word that is read on gives these options before those behind it
  goes-front : (next : Option ℕ) (given : List Given) (within : Result Scanned Usage)
      → ((others : List (List ℕ)) → scanned_from row waiting (word ∷ others) ≡ behind given (scanned_from row next others))
      → scanned_from row next rest ≡ within → behind given within ≡ Ok read → ReadsFront row waiting (word ∷ rest) read
  goes-front next given (Err fault) gives is whole = absurd (no-fault fault read whole)
  goes-front next given (Ok inner) gives is whole =
      let tail = on next inner is in
      same-read row waiting (word ∷ rest) (record { options = given ++ inner.options; operands = inner.operands }) read (same-ok _ _ read refl whole)
      (record {
        front = word ∷ tail.front;
        whole = ap (λ others. word ∷ others) tail.whole;
        reads = λ others may. gives (tail.front ++ others) ∙ ap (behind given) (tail.reads others may);
      })

  step-front : (at : Step) (given : List Given) → IsOfLetters at
      → ((others : List (List ℕ)) → scanned_from row waiting (word ∷ others) ≡ behind given (goes_on at word others (λ next. scanned_from row next others)))
      → scanned_from row waiting (word ∷ rest) ≡ Ok read → ReadsFront row waiting (word ∷ rest) read
  step-front (step.Next next) given of gives whole = goes-front next given (scanned_from row next rest) gives refl (sym (gives rest) ∙ whole)
  step-front (step.Unlisted letter) given of gives whole = absurd (no-fault _ read (sym (gives rest) ∙ whole))
  step-front step.Operands given of gives whole = absurd of
  step-front step.Ends given of gives whole = absurd of

-- the same where no letter waits
module _ (row : Row) (word : List ℕ) (rest : List (List ℕ)) (read : Scanned)
    (on : (next : Option ℕ) (read : Scanned) → scanned_from row next rest ≡ Ok read → ReadsFront row next rest read)
    (whole : scanned_from row None (word ∷ rest) ≡ Ok read) where
  operands-front : is_operand word ≡ true → ReadsFront row None (word ∷ rest) read
  operands-front first =
      same-read row None (word ∷ rest) (record { options = []; operands = word ∷ rest }) read (same-ok _ _ read (all-operands row (word ∷ rest) first) whole)
      (record { front = []; whole = refl; reads = λ others may. all-operands row others (may first) })

  ends-front : is_operand word ≡ false → bytes_eq word (codes "--") ≡ true → ReadsFront row None (word ∷ rest) read
  ends-front option ends =
      let gives : (others : List (List ℕ)) → scanned_from row None (word ∷ others) ≡ operands_alone others = λ others. rw (option, ends) refl in
      same-read row None (word ∷ rest) (record { options = []; operands = rest }) read (same-ok _ _ read (gives rest) whole)
      (record { front = word ∷ []; whole = refl; reads = λ others may. gives others })

  letters-front : is_operand word ≡ false → bytes_eq word (codes "--") ≡ false → ReadsFront row None (word ∷ rest) read
  letters-front option goes = by_count (is_count row (letters_of word)) refl
    where
      by_count : (count : Bool) → is_count row (letters_of word) ≡ count → ReadsFront row None (word ∷ rest) read
      by_count true count =
          step-front row None word rest read on (step.Next None) (record { letter = count_letter; argument = letters_of word } ∷ []) tt
          (λ others. rw (option, goes, count) refl) whole
      by_count false count =
          step-front row None word rest read on (letters_step row (letters_of word)) (letters_given row (letters_of word)) (of-letters row (letters_of word))
          (λ others. rw (option, goes, count) refl) whole

  none-front : ReadsFront row None (word ∷ rest) read
  none-front = by_operand (is_operand word) refl
    where
      by_ends : is_operand word ≡ false → (ends : Bool) → bytes_eq word (codes "--") ≡ ends → ReadsFront row None (word ∷ rest) read
      by_ends option true is = ends-front option is
      by_ends option false is = letters-front option is

      by_operand : (operand : Bool) → is_operand word ≡ operand → ReadsFront row None (word ∷ rest) read
      by_operand true is = operands-front is
      by_operand false is = by_ends is (bytes_eq word (codes "--")) refl

-- words give the same options whatever operands stand behind them, where no option is first of these
pub reads-front : (row : Row) (waiting : Option ℕ) (words : List (List ℕ)) (read : Scanned) → scanned_from row waiting words ≡ Ok read → ReadsFront row waiting words read
reads-front row None [] read whole =
    same-read row None [] (record { options = []; operands = [] }) read (same-ok _ _ read refl whole)
    (record { front = []; whole = refl; reads = λ others may. all-operands row others (may refl) })
reads-front row (Some letter) [] read whole = absurd (no-fault _ read whole)
reads-front row None (word ∷ rest) read whole = none-front row word rest read (λ next read is. reads-front row next rest read is) whole
reads-front row (Some letter) (word ∷ rest) read whole =
    step-front row (Some letter) word rest read (λ next read is. reads-front row next rest read is)
    (step.Next None) (record { letter = letter; argument = word } ∷ []) tt (λ others. refl) whole
