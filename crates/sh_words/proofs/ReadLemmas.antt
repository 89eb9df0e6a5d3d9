-- The cases of the definition, each with equations in place of its forms.
use Rattle.std.proofs.Common.{◌≡◌, ℕ, zero, suc, Bool, not, ◌&&◌, ◌+◌, ◌-◌, Option, None, Some, List, [], refl, sym, subst, arith}
use Rattle.std.specs.Option.{option_map, option_or}
use Rattle.sh_tree.specs.Trees.{WordTree, PartTree, parameter, substitution, arithmetic}
use Rattle.sh_tree.specs.declared.words.Param.{Param}
use Rattle.sh_lex.specs.Heads.{trims}
use Rattle.sh_words.specs.Parameters.{whole, with_word, commands, arithmetic_text, no_form, expansion, bare_form, form_of}
use Rattle.sh_words.specs.Words.{Outcome, done, Made, made, Passes, in_commands, in_braces, behind_byte, ReadsBehind, ReadsPieces, ReadsExpansion, is_parameter, is_substitution, has_word, has_arithmetic, has_no_form, word_too_deep, arithmetic_too_deep}
use Rattle.sh_words.specs.declared.steps.Owner.TheVariants as owner
use Rattle.sh_words.specs.declared.steps.Mode.TheVariants as mode
use Rattle.sh_words.specs.declared.steps.Owner.{Owner}
use Rattle.sh_words.specs.declared.reading.TheConstants.{MAX_LEVELS}
use Rattle.sh_lex.specs.declared.Operator.{Operator}

-- one level is open less in a word, and in an arithmetic expansion
one_below : (most : ℕ) → (most ≡ 0 → ⊥) → most ≡ suc (most - 1)
one_below zero some = absurd (some refl)
one_below (suc most) some = omega arith

module _ (most left number : ℕ) (is_quoted : Bool) (text inner : List ℕ) where
  pub substitution_read : (next : ℕ) (rest : List ℕ) (piece : PartTree) → expansion text ≡ commands inner → Passes in_commands inner rest
      → next ≡ number + 1 → piece ≡ substitution number is_quoted
      → ReadsExpansion most is_quoted left number text (made (Some piece) None next rest)
  substitution_read next rest piece e passed same is = rw (same, is) (is_substitution e passed)

  pub word_read : (what : Param) (by : Operator) (of : Owner) (tree : WordTree) (fault : Option ℕ) (next : ℕ) (rest : List ℕ) (piece : PartTree)
      → (most ≡ 0 → ⊥) → expansion text ≡ with_word what by inner → of ≡ owner.Braces (is_quoted && not (trims by))
      → ReadsPieces (most - 1) (mode.Word of) number inner (done tree fault next rest)
      → piece ≡ parameter what (form_of by tree) is_quoted
      → ReadsExpansion most is_quoted left number text (made (Some piece) fault next rest)
  word_read what by of tree fault next rest piece some e same reads is =
      rw is (subst (λ n. ReadsExpansion n is_quoted left number text (made (Some (parameter what (form_of by tree) is_quoted)) fault next rest))
      (sym (one_below most some))
      (has_word e (subst (λ o. ReadsPieces (most - 1) (mode.Word o) number inner (done tree fault next rest)) same reads)))

  pub word_deep : (what : Param) (by : Operator) (part : Made) → most ≡ 0 → expansion text ≡ with_word what by inner
      → part ≡ made None (Some left) number [] → ReadsExpansion most is_quoted left number text part
  word_deep what by part none e is = rw is (subst (λ n. ReadsExpansion n is_quoted left number text (made None (Some left) number []))
      (sym none) (word_too_deep e))

  pub arithmetic_read : (tree : WordTree) (fault : Option ℕ) (next : ℕ) (rest : List ℕ) (piece : PartTree) → (most ≡ 0 → ⊥)
      → expansion text ≡ arithmetic_text inner → ReadsPieces (most - 1) (mode.Arithmetic 0) number inner (done tree fault next rest)
      → piece ≡ arithmetic tree is_quoted → ReadsExpansion most is_quoted left number text (made (Some piece) fault next rest)
  arithmetic_read tree fault next rest piece some e reads is =
      rw is (subst (λ n. ReadsExpansion n is_quoted left number text (made (Some (arithmetic tree is_quoted)) fault next rest))
      (sym (one_below most some)) (has_arithmetic e reads))

  pub arithmetic_deep : (part : Made) → most ≡ 0 → expansion text ≡ arithmetic_text inner
      → part ≡ made None (Some left) number [] → ReadsExpansion most is_quoted left number text part
  arithmetic_deep part none e is = rw is (subst (λ n. ReadsExpansion n is_quoted left number text (made None (Some left) number []))
      (sym none) (arithmetic_too_deep e))

pub parameter_read : (most left number : ℕ) (is_quoted measured : Bool) (what : Param) (text rest : List ℕ) (piece : PartTree)
    → whole what measured rest ≡ expansion text → piece ≡ parameter what (bare_form measured) is_quoted
    → ReadsExpansion most is_quoted left number text (made (Some piece) None number rest)
parameter_read most left number is_quoted measured what text rest piece e is = rw is (is_parameter (sym e))

pub no_form_read : (most left number : ℕ) (is_quoted : Bool) (text inner rest : List ℕ) (part : Made) → expansion text ≡ no_form
    → inner ≡ behind_byte text → Passes (in_braces is_quoted left) inner rest → part ≡ made None (Some left) number rest
    → ReadsExpansion most is_quoted left number text part
no_form_read most left number is_quoted text inner rest part e same passed is =
    rw is (has_no_form e (subst (λ i. Passes (in_braces is_quoted left) i rest) same passed))

-- a word, from the pieces of its text
pub behind_read : (first total number subs : ℕ) (text rest : List ℕ) (tree read : WordTree) (fault offset : Option ℕ)
    → ReadsPieces MAX_LEVELS (mode.Word owner.Token) first text (done tree fault number rest) → read ≡ tree → subs ≡ number - first
    → offset ≡ option_map (λ left. total - left) fault
    → ReadsBehind first total text (record { tree = read; subs = subs; fault = offset })
behind_read first total number subs text rest tree read fault offset reads same counted told =
    (done tree fault number rest, (reads, rw (same, counted, told) refl))

-- the first place without a form, at the end of a text and behind an expansion
option_or-none : (one : Option ℕ) → option_or one None ≡ one
option_or-none None = refl
option_or-none (Some place) = refl

option_or-option_or : (one other last : Option ℕ) → option_or one (option_or other last) ≡ option_or (option_or one other) last
option_or-option_or None other last = refl
option_or-option_or (Some place) other last = refl

pub ended_read : (Reads : Outcome → Type 0) (word tree : WordTree) (fault : Option ℕ) (number : ℕ) (rest : List ℕ) → word ≡ tree
    → Reads (done tree (option_or fault None) number rest) → Reads (done word fault number rest)
ended_read Reads word tree fault number rest same reads =
    rw same (subst (λ f. Reads (done tree f number rest)) (option_or-none fault) reads)

pub found_read : (Reads : Outcome → Type 0) (word tree : WordTree) (first one other last : Option ℕ) (number : ℕ) (rest : List ℕ)
    → word ≡ tree → first ≡ option_or one other → Reads (done tree (option_or one (option_or other last)) number rest)
    → Reads (done word (option_or first last) number rest)
found_read Reads word tree first one other last number rest same told reads =
    rw (same, told) (subst (λ f. Reads (done tree f number rest)) (option_or-option_or one other last) reads)
