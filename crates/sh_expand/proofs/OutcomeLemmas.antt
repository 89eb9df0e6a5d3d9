-- Words have one outcome, which a call tells.
use Rattle.std.proofs.Common.{◌≡◌, ◌≤◌, ◌<◌, ℕ, ◌⊎◌, inl, inr, Bool, false, List, length, IfOk, IfErr, IsErrOf, Result, Ok, Err, refl, sym, ap, ap₂, ◌∙◌, subst}
use Rattle.std.proofs.lemmas.List.{length-map}
use Rattle.std.proofs.lemmas.Bool.{le-ltb, lt-ltb}
use Rattle.std.specs.Global.{Vec}
use Rattle.ps_lines.specs.Texts.{texts_of}
use Rattle.ps_world.specs.Files.{Files}
use Rattle.ps_world.specs.Paths.{Components}
use Rattle.sh_arith.specs.Variables.{Variables}
use Rattle.sh_tree.specs.Trees.{WordTree}
use Rattle.sh_expand.specs.declared.faults.ExpandFault.{ExpandFault}
use Rattle.sh_expand.specs.declared.faults.ExpandFault.TheVariants as fault
use Rattle.sh_expand.specs.declared.fields.TheConstants.{MAX_FIELDS}
use Rattle.sh_expand.specs.Given.{Given}
use Rattle.sh_expand.specs.Fields.{AreFields, Pass, all_passed, passes, PatternIn, in_none, in_words, Stop, TextGives, TextStops, IsOutside, IsMeant, IsOfWords, TooMany}
use Rattle.sh_expand.specs.Outcomes.{MeantFault, unset, no_value, shown, Outcome, HaveFields, HasText, HavePattern, IsTheOutcome, Expansions, AreExpansions, told_of, told_fields, Tells}
use Rattle.sh_expand.proofs.SomeLemmas.{fields_or_fault, pass_or_stop, text_or_fault}
use Rattle.sh_expand.proofs.UniqueLemmas.{one_fields, one_stop, one_finding, fields_pass, pattern_passes, pass_no_stop, one_text, one_text_stop, text_no_stop}

-- a fault that words mean is one that is told, and the other way round
meant : (why : MeantFault) → IsMeant (shown why)
meant (unset name text) = tt
meant (no_value why) = tt

record IsShown (told : ExpandFault) : Type 0 where
  why : MeantFault
  same : shown why ≡ told

shown_of : (told : ExpandFault) → IsMeant told → IsShown told
shown_of (fault.Unset name text) means = record { why = unset name text; same = refl }
shown_of (fault.Arith why) means = record { why = no_value why; same = refl }
shown_of fault.ArgsTooMany means = absurd means
shown_of fault.Failed means = absurd means
shown_of fault.Memory means = absurd means

same_shown : (one other : MeantFault) → shown one ≡ shown other → one ≡ other
same_shown (unset name text) (unset other next) e = cc
same_shown (unset name text) (no_value why) e = absurd cc
same_shown (no_value why) (unset name text) e = absurd cc
same_shown (no_value why) (no_value other) e = cc

-- the same meaning and the same variables are the same outcome
same_meaning : {Meaning : Type 0} {one other : Meaning} {after later : Variables} → (one ≡ other) × (after ≡ later) → ◌≡◌ {A = Outcome Meaning} (Ok one, after) (Ok other, later)
same_meaning {Meaning} same = ap₂ (λ (m : Meaning) (v : Variables). (Ok m, v)) same.0 same.1

same_fault : {Meaning : Type 0} {one other : MeantFault} {after later : Variables} → (shown one ≡ shown other) × (after ≡ later) → ◌≡◌ {A = Outcome Meaning} (Err one, after) (Err other, later)
same_fault {Meaning} {one} {other} same = ap₂ (λ (w : MeantFault) (v : Variables). (Err w, v)) (same_shown one other same.0) same.1

-- a fault that words mean, from the relation
stopped : {Meaning : Type 0} {Has : Outcome Meaning → Type 0} {Stops : ExpandFault → Variables → Type 0}
    → ((why : MeantFault) (after : Variables) → Stops (shown why) after → Has (Err why, after))
    → (told : ExpandFault) × (after : Variables) × Stops told after × IsMeant told → (outcome : Outcome Meaning) × Has outcome
stopped {Meaning} {Has} {Stops} puts (told, after, stops, means) =
    let it = shown_of told means in
    ((Err it.why, after), puts it.why after (subst (λ f. Stops f after) (sym it.same) stops))

some_fields : (files : Files) (home : Components) (given : Given) (before : Variables) (words : List WordTree) → (outcome : Outcome (List (List ℕ))) × HaveFields files home given before words outcome
some_fields files home given before words =
    elim (fields_or_fault files home given words before) [
      | inl (fields, after, are) ↦ ((Ok fields, after), are)
      | inr stops ↦ stopped {Has = HaveFields files home given before words} {Stops = Stop given before words} (λ why after is. is) stops
    ]

some_text : (given : Given) (before : Variables) (word : WordTree) → (outcome : Outcome (List ℕ)) × HasText given before word outcome
some_text given before word =
    elim (text_or_fault given word before) [
      | inl (text, after, gives) ↦ ((Ok text, after), gives)
      | inr stops ↦ stopped {Has = HasText given before word} {Stops = TextStops given before word} (λ why after is. is) stops
    ]

-- words that have marks have a pattern byte or none
passed_finding : {given : Given} {before after : Variables} {words : List WordTree} → Pass given before words after → (found : Bool) × PatternIn given before words found after
passed_finding all_passed = (false, in_none)
passed_finding (passes has passed) = let (found, is) = passed_finding passed in (_, in_words has is)

some_pattern : (given : Given) (before : Variables) (words : List WordTree) → (outcome : Outcome Bool) × HavePattern given before words outcome
some_pattern given before words =
    elim (pass_or_stop given words before) [
      | inl (after, passed) ↦ let (found, is) = passed_finding passed in ((Ok found, after), is)
      | inr stops ↦ stopped {Has = HavePattern given before words} {Stops = Stop given before words} (λ why after is. is) stops
    ]

one_of_fields : (files : Files) (home : Components) (given : Given) (before : Variables) (words : List WordTree) (one other : Outcome (List (List ℕ))) → HaveFields files home given before words one → HaveFields files home given before words other → one ≡ other
one_of_fields files home given before words (Ok fields, after) (Ok others, later) x y = same_meaning (one_fields x y)
one_of_fields files home given before words (Ok fields, after) (Err why, later) x y = absurd (pass_no_stop (fields_pass x) y (meant why))
one_of_fields files home given before words (Err why, after) (Ok others, later) x y = absurd (pass_no_stop (fields_pass y) x (meant why))
one_of_fields files home given before words (Err why, after) (Err other, later) x y = same_fault (one_stop x y (meant why) (meant other))

one_of_texts : (given : Given) (before : Variables) (word : WordTree) (one other : Outcome (List ℕ)) → HasText given before word one → HasText given before word other → one ≡ other
one_of_texts given before word (Ok text, after) (Ok next, later) x y = same_meaning (one_text x y)
one_of_texts given before word (Ok text, after) (Err why, later) x y = absurd (text_no_stop x y (meant why))
one_of_texts given before word (Err why, after) (Ok next, later) x y = absurd (text_no_stop y x (meant why))
one_of_texts given before word (Err why, after) (Err other, later) x y = same_fault (one_text_stop x y (meant why) (meant other))

one_of_patterns : (given : Given) (before : Variables) (words : List WordTree) (one other : Outcome Bool) → HavePattern given before words one → HavePattern given before words other → one ≡ other
one_of_patterns given before words (Ok found, after) (Ok next, later) x y = same_meaning (one_finding x y)
one_of_patterns given before words (Ok found, after) (Err why, later) x y = absurd (pass_no_stop (pattern_passes x) y (meant why))
one_of_patterns given before words (Err why, after) (Ok next, later) x y = absurd (pass_no_stop (pattern_passes y) x (meant why))
one_of_patterns given before words (Err why, after) (Err other, later) x y = same_fault (one_stop x y (meant why) (meant other))

-- the outcome of all words, as functions
pub all_expansions : Expansions
all_expansions = record {
  fields = λ files home given before words. (some_fields files home given before words).0;
  text = λ given before word. (some_text given before word).0;
  pattern = λ given before words. (some_pattern given before words).0;
}

pub are_expansions : AreExpansions all_expansions
unfolding all_expansions
are_expansions = record {
  fields = λ files home given before words. record { has = (some_fields files home given before words).1; only = λ other has. one_of_fields files home given before words _ other (some_fields files home given before words).1 has };
  text = λ given before word. record { has = (some_text given before word).1; only = λ other has. one_of_texts given before word _ other (some_text given before word).1 has };
  pattern = λ given before words. record { has = (some_pattern given before words).1; only = λ other has. one_of_patterns given before words _ other (some_pattern given before words).1 has };
}

-- What calls tell

-- a text or a Bool, or a fault of words
module _ {Value Meaning : Type 0} (seen : Value → Meaning) (Has : Outcome Meaning → Type 0) (it : Outcome Meaning) (is : IsTheOutcome Has it) (after : Variables) where
  fault_told : (why : ExpandFault) → IsOfWords why → ((means : MeantFault) → shown means ≡ why → Has (Err means, after)) → IsOutside why ⊎ (told_of it ≡ (Err why, after))
  fault_told (fault.Unset name text) of_words stops = inr (ap told_of (is.only (Err (unset name text), after) (stops (unset name text) refl)))
  fault_told (fault.Arith why) of_words stops = inr (ap told_of (is.only (Err (no_value why), after) (stops (no_value why) refl)))
  fault_told fault.ArgsTooMany of_words stops = absurd of_words
  fault_told fault.Failed of_words stops = absurd of_words
  fault_told fault.Memory of_words stops = inl (inl refl)

  tells : (result : Result Value ExpandFault) → IfErr result IsOfWords
      → IfOk result (λ (value : Value). Has (Ok (seen value), after))
      → IfErr result (λ (why : ExpandFault). (means : MeantFault) → shown means ≡ why → Has (Err means, after))
      → Tells seen (told_of it) result after
  tells (Ok value) of_words gives stops = ap told_of (is.only (Ok (seen value), after) gives)
  tells (Err why) of_words gives stops = fault_told why of_words stops

by_fault : {Value : Type 0} (Stops : ExpandFault → Type 0) (result : Result Value ExpandFault) → IfErr result Stops → IfErr result (λ (why : ExpandFault). (means : MeantFault) → shown means ≡ why → Stops (shown means))
by_fault Stops (Ok value) stops = tt
by_fault Stops (Err why) stops = λ means same. subst Stops (sym same) stops

module _ (expansions : Expansions) (are : AreExpansions expansions) (given : Given) (before after : Variables) where
  pub text_tells : (word : WordTree) (result : Result (Vec ℕ) ExpandFault) → IfErr result IsOfWords
      → IfOk result (λ (text : Vec ℕ). TextGives given before word text.items after) → IfErr result (λ (why : ExpandFault). TextStops given before word why after)
      → Tells (λ (text : Vec ℕ). text.items) (told_of (expansions.text given before word)) result after
  text_tells word result of_words gives stops = tells (λ (text : Vec ℕ). text.items) (HasText given before word) _ (are.text given before word) after result of_words gives (by_fault (λ (why : ExpandFault). TextStops given before word why after) result stops)

  pub pattern_tells : (words : List WordTree) (result : Result Bool ExpandFault) → IfErr result IsOfWords
      → IfOk result (λ (found : Bool). PatternIn given before words found after) → IfErr result (λ (why : ExpandFault). Stop given before words why after)
      → Tells (λ (found : Bool). found) (told_of (expansions.pattern given before words)) result after
  pattern_tells words result of_words gives stops = tells (λ (found : Bool). found) (HavePattern given before words) _ (are.pattern given before words) after result of_words gives (by_fault (λ (why : ExpandFault). Stop given before words why after) result stops)

few : (fields : List (List ℕ)) (after : Variables) → length fields ≤ MAX_FIELDS → told_fields (Ok fields, after) ≡ (Ok fields, after)
few fields after low = rw (le-ltb MAX_FIELDS (length fields) low) refl

too_many : (fields : List (List ℕ)) (after : Variables) → MAX_FIELDS < length fields → told_fields (Ok fields, after) ≡ (Err fault.ArgsTooMany, after)
too_many fields after more = rw (lt-ltb MAX_FIELDS (length fields) more) refl

-- fields, or a fault of words, or too many fields
module _ (expansions : Expansions) (are : AreExpansions expansions) (files : Files) (home : Components) (given : Given) (before after : Variables) (words : List WordTree) where
  abbrev it : Outcome (List (List ℕ))
  it = expansions.fields files home given before words

  only : (other : Outcome (List (List ℕ))) → HaveFields files home given before words other → told_fields it ≡ told_fields other
  only other has = ap told_fields ((are.fields files home given before words).only other has)

  fields_fault : (why : ExpandFault) → Stop given before words why after → (why ≡ fault.ArgsTooMany → TooMany MAX_FIELDS (λ (fields : List (List ℕ)). AreFields files home given before words fields after))
      → IsOutside why ⊎ (told_fields it ≡ (Err why, after))
  fields_fault (fault.Unset name text) stops many = inr (only (Err (unset name text), after) stops)
  fields_fault (fault.Arith why) stops many = inr (only (Err (no_value why), after) stops)
  fields_fault fault.ArgsTooMany stops many = let more = many refl in inr (only (Ok more.fields, after) more.are ∙ too_many more.fields after more.more)
  fields_fault fault.Failed stops many = inl (inr refl)
  fields_fault fault.Memory stops many = inl (inl refl)

  pub fields_tell : (result : Result (Vec (Vec ℕ)) ExpandFault) → IfOk result (λ (fields : Vec (Vec ℕ)). AreFields files home given before words (texts_of fields.items) after)
      → IfOk result (λ (fields : Vec (Vec ℕ)). length fields.items ≤ MAX_FIELDS) → (IsErrOf result fault.ArgsTooMany → TooMany MAX_FIELDS (λ (fields : List (List ℕ)). AreFields files home given before words fields after))
      → IfErr result (λ (why : ExpandFault). Stop given before words why after) → Tells (λ (fields : Vec (Vec ℕ)). texts_of fields.items) (told_fields it) result after
  fields_tell (Ok fields) gives low many stops =
      only (Ok (texts_of fields.items), after) gives ∙ few (texts_of fields.items) after (subst (λ count. count ≤ MAX_FIELDS) (sym (length-map fields.items (λ (text : Vec ℕ). text.items))) low)
  fields_tell (Err why) gives low many stops = fields_fault why stops (λ e. many (ap Err e))
