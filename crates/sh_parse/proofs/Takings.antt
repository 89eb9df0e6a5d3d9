-- What is read of a word's bytes, without what it is: where it ends, and the numbers of its first and its next command substitution. So it is
-- read where each `${` has a form.
use Rattle.std.proofs.Common.{◌≡◌, ℕ, Bool, true, false, not, ◌&&◌, Option, None, Some, ◌+◌, List, [], ◌∷◌, refl, sym, ◌∙◌, ap, subst}
use Rattle.std.specs.Option.{option_or}
use Rattle.sh_tree.specs.Trees.{PartTree}
use Rattle.sh_tree.specs.declared.words.Param.{Param}
use Rattle.sh_lex.specs.Heads.{trims}
use Rattle.sh_lex.specs.declared.heads.Operator.{Operator}
use Rattle.sh_words.specs.Steps.{Step, ends, passes, gives, expands, step}
use Rattle.sh_words.specs.Parameters.{Expansion, whole, with_word, commands, arithmetic_text, no_form, expansion}
use Rattle.sh_words.specs.Words.{Outcome, done, Made, made, onto, found_onto, with_form, calculated, Passes, in_commands, ReadsPieces, has_ended, passes_on, gives_piece, expands_to, ReadsExpansion, is_parameter, is_substitution, has_word, has_arithmetic, has_no_form, word_too_deep, arithmetic_too_deep}
use Rattle.sh_words.specs.declared.steps.Owner.TheVariants as owner
use Rattle.sh_words.specs.declared.steps.Mode.{Mode}
use Rattle.sh_words.specs.declared.steps.Mode.TheVariants as mode

mutual
  pub data Takes : Mode → ℕ → List ℕ → ℕ → List ℕ → Type 0 where
    takes_end : {at : Mode} {number : ℕ} {text rest : List ℕ} → step at text ≡ ends rest → Takes at number text number rest
    takes_quote : {at next : Mode} {number last : ℕ} {text rest left : List ℕ} → step at text ≡ passes next rest
        → Takes next number rest last left → Takes at number text last left
    takes_piece : {at next : Mode} {number last : ℕ} {piece : PartTree} {text rest left : List ℕ} → step at text ≡ gives piece next rest
        → Takes next number rest last left → Takes at number text last left
    takes_dollar : {at : Mode} {number middle last start : ℕ} {is_quoted : Bool} {text rest after left : List ℕ}
        → step at text ≡ expands is_quoted start rest → TakesOne is_quoted number rest middle after → Takes at middle after last left
        → Takes at number text last left

  -- an expansion, by the text behind its `$`
  pub data TakesOne : Bool → ℕ → List ℕ → ℕ → List ℕ → Type 0 where
    takes_whole : {is_quoted measured : Bool} {number : ℕ} {what : Param} {text rest : List ℕ} → expansion text ≡ whole what measured rest
        → TakesOne is_quoted number text number rest
    takes_commands : {is_quoted : Bool} {number : ℕ} {text inner rest : List ℕ} → expansion text ≡ commands inner
        → Passes in_commands inner rest → TakesOne is_quoted number text (number + 1) rest
    takes_word : {is_quoted : Bool} {number last : ℕ} {what : Param} {by : Operator} {text inner rest : List ℕ}
        → expansion text ≡ with_word what by inner → Takes (mode.Word (owner.Braces (is_quoted && not (trims by)))) number inner last rest
        → TakesOne is_quoted number text last rest
    takes_arithmetic : {is_quoted : Bool} {number last : ℕ} {text inner rest : List ℕ} → expansion text ≡ arithmetic_text inner
        → Takes (mode.Arithmetic 0) number inner last rest → TakesOne is_quoted number text last rest

-- an expansion, and what is taken behind it
pub record Then (at : Mode) (One : ℕ → List ℕ → Type 0) (last : ℕ) (left : List ℕ) : Type 0 where
  pub middle : ℕ
  pub after : List ℕ
  pub one : One middle after
  pub more : Takes at middle after last left

-- by the next step
abbrev pub TakesBy : Mode → Step → ℕ → ℕ → List ℕ → Type 0
TakesBy at (ends rest) number last left = (last ≡ number) × (left ≡ rest)
TakesBy at (passes next rest) number last left = Takes next number rest last left
TakesBy at (gives piece next rest) number last left = Takes next number rest last left
TakesBy at (expands is_quoted start rest) number last left = Then at (TakesOne is_quoted number rest) last left

pub taken-by : {at : Mode} {number last : ℕ} {text left : List ℕ} → Takes at number text last left → TakesBy at (step at text) number last left
taken-by {at = at} {number = number} {left = left} (takes_end e) = subst (λ s. TakesBy at s number number left) (sym e) (refl, refl)
taken-by {at = at} {number = number} {last = last} {left = left} (takes_quote e more) = subst (λ s. TakesBy at s number last left) (sym e) more
taken-by {at = at} {number = number} {last = last} {left = left} (takes_piece e more) = subst (λ s. TakesBy at s number last left) (sym e) more
taken-by {at = at} {number = number} {last = last} {left = left} (takes_dollar {middle = middle} {after = after} e one more) =
    subst (λ s. TakesBy at s number last left) (sym e) (record { middle = middle; after = after; one = one; more = more })

-- by what an expansion is
abbrev pub TakesForm : Bool → Expansion → ℕ → ℕ → List ℕ → Type 0
TakesForm is_quoted (whole what measured rest) number last left = (last ≡ number) × (left ≡ rest)
TakesForm is_quoted (with_word what by inner) number last left = Takes (mode.Word (owner.Braces (is_quoted && not (trims by)))) number inner last left
TakesForm is_quoted (commands inner) number last left = (last ≡ number + 1) × Passes in_commands inner left
TakesForm is_quoted (arithmetic_text inner) number last left = Takes (mode.Arithmetic 0) number inner last left
TakesForm is_quoted no_form number last left = ⊥

pub taken-form : {is_quoted : Bool} {number last : ℕ} {text left : List ℕ} → TakesOne is_quoted number text last left
    → TakesForm is_quoted (expansion text) number last left
taken-form {is_quoted = is_quoted} {number = number} {left = left} (takes_whole e) =
    subst (λ x. TakesForm is_quoted x number number left) (sym e) (refl, refl)
taken-form {is_quoted = is_quoted} {number = number} {left = left} (takes_commands e passed) =
    subst (λ x. TakesForm is_quoted x number (number + 1) left) (sym e) (refl, passed)
taken-form {is_quoted = is_quoted} {number = number} {last = last} {left = left} (takes_word e more) =
    subst (λ x. TakesForm is_quoted x number last left) (sym e) more
taken-form {is_quoted = is_quoted} {number = number} {last = last} {left = left} (takes_arithmetic e more) =
    subst (λ x. TakesForm is_quoted x number last left) (sym e) more

-- WORDS WITHOUT A FAULT are taken so
abbrev pub fault_of : Outcome → Option ℕ
fault_of (done word fault next rest) = fault

abbrev pub fault_in : Made → Option ℕ
fault_in (made found fault next rest) = fault

abbrev pub IsTaken : Mode → ℕ → List ℕ → Outcome → Type 0
IsTaken at number text (done word fault next rest) = Takes at number text next rest

abbrev IsTakenOne : Bool → ℕ → List ℕ → Made → Type 0
IsTakenOne is_quoted number text (made found fault next rest) = TakesOne is_quoted number text next rest

none_first : (one other : Option ℕ) → option_or one other ≡ None → one ≡ None
none_first None other e = refl
none_first (Some value) other e = e

none_behind : (one other : Option ℕ) → option_or one other ≡ None → other ≡ None
none_behind None other e = e
none_behind (Some value) other e = absurd cc

onto-fault : (piece : PartTree) (end : Outcome) → fault_of (onto piece end) ≡ None → fault_of end ≡ None
onto-fault piece (done word fault next rest) e = e

taken-piece : (at next : Mode) (number : ℕ) (text rest : List ℕ) (piece : PartTree) (end : Outcome) → step at text ≡ gives piece next rest
    → IsTaken next number rest end → IsTaken at number text (onto piece end)
taken-piece at next number text rest piece (done word fault last left) e more = takes_piece e more

taken-quote : (at next : Mode) (number : ℕ) (text rest : List ℕ) (end : Outcome) → step at text ≡ passes next rest
    → IsTaken next number rest end → IsTaken at number text end
taken-quote at next number text rest (done word fault last left) e more = takes_quote e more

taken-dollar : (at : Mode) (number middle start : ℕ) (is_quoted : Bool) (text rest after : List ℕ) (found : Option PartTree) (fault : Option ℕ) (end : Outcome)
    → step at text ≡ expands is_quoted start rest → TakesOne is_quoted number rest middle after → IsTaken at middle after end
    → IsTaken at number text (found_onto found fault end)
taken-dollar at number middle start is_quoted text rest after found fault (done word other last left) e one more = takes_dollar e one more

found-first : (found : Option PartTree) (fault : Option ℕ) (end : Outcome) → fault_of (found_onto found fault end) ≡ None → fault ≡ None
found-first found fault (done word other next rest) e = none_first fault other e

found-behind : (found : Option PartTree) (fault : Option ℕ) (end : Outcome) → fault_of (found_onto found fault end) ≡ None → fault_of end ≡ None
found-behind found fault (done word other next rest) e = none_behind fault other e

form-fault : (what : Param) (by : Operator) (is_quoted : Bool) (end : Outcome) → fault_in (with_form what by is_quoted end) ≡ None → fault_of end ≡ None
form-fault what by is_quoted (done word fault next rest) e = e

calculated-fault : (is_quoted : Bool) (end : Outcome) → fault_in (calculated is_quoted end) ≡ None → fault_of end ≡ None
calculated-fault is_quoted (done word fault next rest) e = e

taken-word : (is_quoted : Bool) (number : ℕ) (text inner : List ℕ) (what : Param) (by : Operator) (end : Outcome) → expansion text ≡ with_word what by inner
    → IsTaken (mode.Word (owner.Braces (is_quoted && not (trims by)))) number inner end → IsTakenOne is_quoted number text (with_form what by is_quoted end)
taken-word is_quoted number text inner what by (done word fault next rest) e more = takes_word e more

taken-arithmetic : (is_quoted : Bool) (number : ℕ) (text inner : List ℕ) (end : Outcome) → expansion text ≡ arithmetic_text inner
    → IsTaken (mode.Arithmetic 0) number inner end → IsTakenOne is_quoted number text (calculated is_quoted end)
taken-arithmetic is_quoted number text inner (done word fault next rest) e more = takes_arithmetic e more

mutual
  pub pieces-taken : {most number : ℕ} {at : Mode} {text : List ℕ} {end : Outcome} → ReadsPieces most at number text end → fault_of end ≡ None
      → IsTaken at number text end
  pieces-taken (has_ended e) none = takes_end e
  pieces-taken {number = number} {at = at} {text = text} (passes_on {next = next} {rest = rest} {end = end} e reads) none =
      taken-quote at next number text rest end e (pieces-taken reads none)
  pieces-taken {number = number} {at = at} {text = text} (gives_piece {next = next} {rest = rest} {piece = piece} {end = end} e reads) none =
      taken-piece at next number text rest piece end e (pieces-taken reads (onto-fault piece end none))
  pieces-taken {number = number} {at = at} {text = text} (expands_to {left = left} {next = next} {is_quoted = is_quoted} {rest = rest} {after = after} {found = found} {fault = fault} {end = end} e inside reads) none =
      taken-dollar at number next left is_quoted text rest after found fault end e (one-taken inside (found-first found fault end none))
      (pieces-taken reads (found-behind found fault end none))

  one-taken : {most left number : ℕ} {is_quoted : Bool} {text : List ℕ} {end : Made} → ReadsExpansion most is_quoted left number text end
      → fault_in end ≡ None → IsTakenOne is_quoted number text end
  one-taken (is_parameter e) none = takes_whole e
  one-taken (is_substitution e passed) none = takes_commands e passed
  one-taken {number = number} {is_quoted = is_quoted} {text = text} (has_word {what = what} {by = by} {inner = inner} {end = end} e reads) none =
      taken-word is_quoted number text inner what by end e (pieces-taken reads (form-fault what by is_quoted end none))
  one-taken {number = number} {is_quoted = is_quoted} {text = text} (has_arithmetic {inner = inner} {end = end} e reads) none =
      taken-arithmetic is_quoted number text inner end e (pieces-taken reads (calculated-fault is_quoted end none))
  one-taken (has_no_form e passed) none = absurd cc
  one-taken (word_too_deep e) none = absurd cc
  one-taken (arithmetic_too_deep e) none = absurd cc
