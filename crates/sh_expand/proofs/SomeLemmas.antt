-- Words have an outcome: their fields, or the first fault that they mean.
use Rattle.std.proofs.Common.{◌≡◌, ℕ, zero, suc, ◌⊎◌, inl, inr, Bool, true, false, List, [], ◌∷◌, ◌++◌, length, take, drop, Option, Result, Ok, Err, refl, ap, subst, ◌∙◌, arith, if◌then◌else◌}
use Rattle.std.proofs.lemmas.Bool.{cases_lt}
use Rattle.ps_world.specs.Files.{Files}
use Rattle.ps_world.specs.Paths.{Components}
use Rattle.sh_arith.specs.Variables.{Variables}
use Rattle.sh_arith.specs.Values.{Outcome as Value, assigned_text}
use Rattle.sh_arith.specs.Arithmetic.{HasOutcome}
use Rattle.sh_arith.specs.declared.faults.ArithFault.{ArithFault}
use Rattle.sh_arith.specs.declared.faults.ArithFault.TheVariants as arith_fault_is
use Rattle.sh_arith.proofs.NeverLemmas.{no_memory}
use Rattle.sh_arith.proofs.SomeLemmas.{some_outcome}
use Rattle.sh_pattern.specs.declared.elements.Element.{Element}
use Rattle.sh_pattern.proofs.NamingLemmas.{some_expansion}
use Rattle.sh_pattern.proofs.PatternLemmas.{Decided, fits_decided, some_reading}
use Rattle.sh_tree.specs.Trees.{WordTree, no_part, part, PartTree, plain, quoted, parameter, substitution, arithmetic, FormTree, bare as bare_form, length_of, default, assign, check_omitted, check, alternate, cut_suffix, cut_prefix}
use Rattle.sh_tree.specs.declared.words.Param.{Param}
use Rattle.sh_expand.specs.declared.faults.ExpandFault.{ExpandFault}
use Rattle.sh_expand.specs.declared.faults.ValueFault.{ValueFault}
use Rattle.sh_expand.specs.declared.faults.ValueFault.TheVariants as value_fault
use Rattle.sh_expand.specs.declared.marks.Marked.{Marked}
use Rattle.sh_expand.specs.declared.parameters.Setting.{Setting}
use Rattle.sh_expand.specs.declared.parameters.Setting.TheVariants as setting
use Rattle.sh_pattern.specs.declared.trims.Side.{Side}
use Rattle.sh_pattern.specs.declared.trims.Side.TheVariants as side
use Rattle.sh_expand.specs.Faults.{told, arith_fault}
use Rattle.sh_expand.specs.Fields.{AreFields, no_word, next_word, AreNames, no_field, next_field, IsMeant, Pass, all_passed, passes, Stop, stops_here, stops_later, word_stops, TextGives, has_text, TextStops, text_stops}
use Rattle.sh_expand.specs.Given.{Given}
use Rattle.sh_expand.specs.Marks.{bare, pattern_of, value}
use Rattle.sh_expand.specs.Parameters.{is_usable, or_nothing, parameter_text}
use Rattle.sh_expand.specs.Separators.{ifs_of}
use Rattle.sh_expand.specs.Splitting.{split}
use Rattle.sh_pattern.specs.Trims.{FitsAt, IsNowhere, IsFirst, IsLast, IsBest, left_of, Cuts, cut, whole}
use Rattle.sh_expand.specs.Values.{Outcome, Begun, at_once, needs, begun, form_begun, Trims, trims, Computes, computes, fails, FormEnds, left_by, Ends, word_in, word_in_form, text_in, WordGives, no_more, one_more, first_stops, later_stops, PartGives, told_at_once, by_its_word, its_word_stops}

-- Cuts

-- the first and the last place at which something holds that is decided
module _ (Holds : ℕ → Type 0) (decide : (place : ℕ) → Decided (Holds place)) where
  none_at_all : (Holds 0 → ⊥) → IsNowhere Holds 0
  none_at_all none place within here = none (subst Holds (omega (arith, within)) here)

  none_more : (end : ℕ) → IsNowhere Holds end → (Holds (suc end) → ⊥) → IsNowhere Holds (suc end)
  none_more end before none place within here =
      elim (cases_lt end place) [
        | inl behind ↦ none (subst Holds (omega (arith, within, behind)) here)
        | inr earlier ↦ before place earlier here
      ]

  first_place : (end : ℕ) → ((place : ℕ) × IsFirst Holds end place) ⊎ IsNowhere Holds end
  first_place zero =
      elim (decide 0) [
        | inl here ↦ inl (0, record { within = omega arith; here = here; least = λ other within there. omega arith })
        | inr none ↦ inr (none_at_all none)
      ]
  first_place (suc end) = by_before (first_place end) (decide (suc end))
    where
      by_before : ((place : ℕ) × IsFirst Holds end place) ⊎ IsNowhere Holds end → Decided (Holds (suc end)) → ((place : ℕ) × IsFirst Holds (suc end) place) ⊎ IsNowhere Holds (suc end)
      by_before (inl (place, first)) last =
          let low = first.within in
          inl (
            place,
            record {
              within = omega (arith, low);
              here = first.here;
              least = λ other within there.
                  elim (cases_lt end other) [
                    | inl behind ↦ omega (arith, low, behind)
                    | inr earlier ↦ first.least other earlier there
                  ];
            },
          )
      by_before (inr none) (inl here) =
          inl (
            suc end,
            record {
              within = omega arith;
              here = here;
              least = λ other within there.
                  elim (cases_lt end other) [
                    | inl behind ↦ omega (arith, behind)
                    | inr earlier ↦ absurd (none other earlier there)
                  ];
            },
          )
      by_before (inr none) (inr not_here) = inr (none_more end none not_here)

  last_place : (end : ℕ) → ((place : ℕ) × IsLast Holds end place) ⊎ IsNowhere Holds end
  last_place zero =
      elim (decide 0) [
        | inl here ↦ inl (0, record { within = omega arith; here = here; greatest = λ other within there. within })
        | inr none ↦ inr (none_at_all none)
      ]
  last_place (suc end) = by_last (decide (suc end)) (last_place end)
    where
      by_last : Decided (Holds (suc end)) → ((place : ℕ) × IsLast Holds end place) ⊎ IsNowhere Holds end → ((place : ℕ) × IsLast Holds (suc end) place) ⊎ IsNowhere Holds (suc end)
      by_last (inl here) before = inl (suc end, record { within = omega arith; here = here; greatest = λ other within there. within })
      by_last (inr not_here) (inl (place, last)) =
          let low = last.within in
          inl (
            place,
            record {
              within = omega (arith, low);
              here = last.here;
              greatest = λ other within there.
                  elim (cases_lt end other) [
                    | inl behind ↦ absurd (not_here (subst Holds (omega (arith, within, behind)) there))
                    | inr earlier ↦ last.greatest other earlier there
                  ];
            },
          )
      by_last (inr not_here) (inr none) = inr (none_more end none not_here)

  best_place : (cut_from : Side) (longest : Bool) (end : ℕ) → ((place : ℕ) × IsBest cut_from longest Holds end place) ⊎ IsNowhere Holds end
  best_place side.Prefix false end = first_place end
  best_place side.Prefix true end = last_place end
  best_place side.Suffix false end = last_place end
  best_place side.Suffix true end = first_place end

fits_at_decided : (cut_from : Side) (pattern : List Element) (text : List ℕ) (place : ℕ) → Decided (FitsAt cut_from pattern text place)
fits_at_decided side.Prefix pattern text place = fits_decided pattern (take place text)
fits_at_decided side.Suffix pattern text place = fits_decided pattern (drop place text)

some_cut : (cut_from : Side) (longest : Bool) (pattern : List Element) (text : List ℕ) → (rest : List ℕ) × Cuts cut_from longest pattern text rest
some_cut cut_from longest pattern text =
    elim (best_place (FitsAt cut_from pattern text) (fits_at_decided cut_from pattern text) cut_from longest (length text)) [
      | inl (place, best) ↦ (left_of cut_from place text, cut place best)
      | inr none ↦ (text, whole none)
    ]

-- Outcomes

-- no memory was wanted
abbrev IsSound : Result (List Marked) ValueFault → Type 0
IsSound (Ok marks) = Unit {0}
IsSound (Err (value_fault.Unset name text)) = Unit {0}
IsSound (Err (value_fault.Arith why)) = Unit {0}
IsSound (Err value_fault.Memory) = ⊥

-- there is an outcome
data SomeOutcome (Gives : Outcome → Type 0) : Type 0 where
  some : (result : Result (List Marked) ValueFault) (after : Variables) → Gives (result, after) → IsSound result → SomeOutcome Gives

some_trimmed : (cut_from : Side) (longest flag : Bool) (text : List ℕ) (marks : List Marked) → (rest : List ℕ) × Trims cut_from longest flag text marks (Ok (value flag rest))
some_trimmed cut_from longest flag text marks =
    let (pattern, reads) = some_reading (pattern_of marks) in
    let (rest, cuts) = some_cut cut_from longest pattern text in
    (rest, trims pattern rest reads cuts)

sound_arith : (why : ArithFault) → (why ≡ arith_fault_is.Memory → ⊥) → IsSound (Err (arith_fault why))
sound_arith arith_fault_is.Syntax other = tt
sound_arith arith_fault_is.DivideByZero other = tt
sound_arith arith_fault_is.Overflow other = tt
sound_arith (arith_fault_is.NotANumber name) other = tt
sound_arith arith_fault_is.Deep other = tt
sound_arith arith_fault_is.Memory other = other refl

some_computed : (flag : Bool) (text : List ℕ) (variables : Variables) → SomeOutcome (Computes flag text variables)
some_computed flag text variables = by_value (some_outcome text variables)
  where
    by_value : (value : Value) × HasOutcome text variables value → SomeOutcome (Computes flag text variables)
    by_value ((Ok number, after), has) = some (Ok (value flag (assigned_text number))) after (computes has) tt
    by_value ((Err why, after), has) =
        some (Err (arith_fault why)) after (fails has) (sound_arith why (λ memory. no_memory text variables (Err why, after) has (ap (λ (it : ArithFault). Err it) memory)))

-- what a form makes of the marks of its word
some_form_end : (what : Param) (flag : Bool) (text : List ℕ) (marks : List Marked) (form : FormTree)
    → (result : Result (List Marked) ValueFault) × FormEnds what flag text marks form result × IsSound result
some_form_end what flag text marks bare_form = (Ok [], refl, tt)
some_form_end what flag text marks length_of = (Ok [], refl, tt)
some_form_end what flag text marks (default colon word) = (_, refl, tt)
some_form_end what flag text marks (assign colon word) = (_, refl, tt)
some_form_end what flag text marks (check_omitted colon) = (Ok [], refl, tt)
some_form_end what flag text marks (check colon word) = (_, refl, tt)
some_form_end what flag text marks (alternate colon word) = (_, refl, tt)
some_form_end what flag text marks (cut_suffix longest word) = let (rest, cuts) = some_trimmed side.Suffix longest flag text marks in (Ok (value flag rest), cuts, tt)
some_form_end what flag text marks (cut_prefix longest word) = let (rest, cuts) = some_trimmed side.Prefix longest flag text marks in (Ok (value flag rest), cuts, tt)

-- what a part makes of them
some_end : (text : Option (List ℕ)) (marks : List Marked) (variables : Variables) (it : PartTree) → SomeOutcome (Ends text marks variables it)
some_end text marks variables (plain written) = some (Ok []) variables refl tt
some_end text marks variables (quoted written) = some (Ok []) variables refl tt
some_end text marks variables (parameter what form flag) =
    let (result, ends, sound) = some_form_end what flag (or_nothing text) marks form in
    some result (left_by what marks form variables result) (ends, refl) sound
some_end text marks variables (substitution number flag) = some (Ok []) variables refl tt
some_end text marks variables (arithmetic word flag) = some_computed flag (bare marks) variables

module _ (given : Given) where
  -- what a word gives that is used so
  abbrev SomeWord : WordTree → Type 0
  SomeWord word = (used : Setting) (before : Variables) → SomeOutcome (WordGives given used before word)

  -- a part begins with its marks or its fault, or needs its word
  abbrev Begins : Begun → WordTree → Type 0
  Begins (at_once result) word = IsSound result
  Begins (needs within other) word = other ≡ word

  usable_begins : (usable : Bool) (result : Result (List Marked) ValueFault) (otherwise : Begun) (word : WordTree) → IsSound result → Begins otherwise word
      → Begins (if usable then at_once result else otherwise) word
  usable_begins true result otherwise word sound begins = sound
  usable_begins false result otherwise word sound begins = begins

  set_begins : (usable : Bool) (result : Result (List Marked) ValueFault) (otherwise : Begun) (word : WordTree) → IsSound result → Begins otherwise word
      → Begins (if usable then otherwise else at_once result) word
  set_begins true result otherwise word sound begins = begins
  set_begins false result otherwise word sound begins = sound

  form_begins : (used : Setting) (what : Param) (flag : Bool) (text : Option (List ℕ)) (form : FormTree) → Begins (form_begun given used what flag text form) (word_in_form form)
  form_begins used what flag text bare_form = tt
  form_begins used what flag text length_of = tt
  form_begins used what flag text (default colon word) = usable_begins (is_usable colon text) _ _ word tt refl
  form_begins used what flag text (assign colon word) = usable_begins (is_usable colon text) _ _ word tt refl
  form_begins used what flag text (check_omitted colon) = usable_begins (is_usable colon text) _ _ no_part tt tt
  form_begins used what flag text (check colon word) = usable_begins (is_usable colon text) _ _ word tt refl
  form_begins used what flag text (alternate colon word) = set_begins (is_usable colon text) _ _ word tt refl
  form_begins used what flag text (cut_suffix longest word) = refl
  form_begins used what flag text (cut_prefix longest word) = refl

  part_begins : (used : Setting) (variables : Variables) (it : PartTree) → Begins (begun given used variables it) (word_in it)
  part_begins used variables (plain text) = tt
  part_begins used variables (quoted text) = tt
  part_begins used variables (parameter what form flag) = form_begins used what flag (parameter_text given variables what) form
  part_begins used variables (substitution number flag) = tt
  part_begins used variables (arithmetic word flag) = refl

  -- a part whose word has an outcome has one
  some_part : (it : PartTree) → SomeWord (word_in it) → (used : Setting) (before : Variables) → SomeOutcome (PartGives given used before it)
  some_part it inner used before = by_begin (begun given used before it) refl (part_begins used before it)
    where
      ended : {within : Setting} {between : Variables} {marks : List Marked} → begun given used before it ≡ needs within (word_in it) → WordGives given within before (word_in it) (Ok marks, between)
          → SomeOutcome (Ends (text_in given before it) marks between it) → SomeOutcome (PartGives given used before it)
      ended begins gives (some result after ends sound) = some result after (by_its_word begins gives ends) sound

      by_word : (within : Setting) → begun given used before it ≡ needs within (word_in it) → SomeOutcome (WordGives given within before (word_in it)) → SomeOutcome (PartGives given used before it)
      by_word within begins (some (Ok marks) between gives sound) =
          ended begins gives (some_end (text_in given before it) marks between it)
      by_word within begins (some (Err fault) after gives sound) =
          some (Err fault) after (its_word_stops begins gives) sound

      by_begin : (how : Begun) → begun given used before it ≡ how → Begins how (word_in it) → SomeOutcome (PartGives given used before it)
      by_begin (at_once result) begins sound = some result before (told_at_once begins) sound
      by_begin (needs within word) begins same = by_word within (begins ∙ ap (needs within) same) (inner within before)

  -- the first part and the others
  some_parts : (first : PartTree) (rest : WordTree) (used : Setting) (before : Variables) → SomeOutcome (PartGives given used before first) → ((between : Variables) → SomeOutcome (WordGives given used between rest))
      → SomeOutcome (WordGives given used before (part first rest))
  some_parts first rest used before (some (Err fault) after gives sound) others =
      some (Err fault) after (first_stops gives) sound
  some_parts first rest used before (some (Ok marks) between gives sound) others = by_rest (others between)
    where
      by_rest : SomeOutcome (WordGives given used between rest) → SomeOutcome (WordGives given used before (part first rest))
      by_rest (some (Ok more) after behind also) = some (Ok (marks ++ more)) after (one_more gives behind) tt
      by_rest (some (Err fault) after behind also) = some (Err fault) after (later_stops gives behind) also

  nothing_given : SomeWord no_part
  nothing_given used before = some (Ok []) before no_more tt

  mutual
    some_word : (word : WordTree) → SomeWord word
    some_word no_part = nothing_given
    some_word (part first rest) = λ used before. some_parts first rest used before (some_part first (some_inner first) used before) (λ between. some_word rest used between)

    some_inner : (it : PartTree) → SomeWord (word_in it)
    some_inner (plain text) = nothing_given
    some_inner (quoted text) = nothing_given
    some_inner (parameter what form flag) = some_in_form form
    some_inner (substitution number flag) = nothing_given
    some_inner (arithmetic word flag) = some_word word

    some_in_form : (form : FormTree) → SomeWord (word_in_form form)
    some_in_form bare_form = nothing_given
    some_in_form length_of = nothing_given
    some_in_form (default colon word) = some_word word
    some_in_form (assign colon word) = some_word word
    some_in_form (check_omitted colon) = nothing_given
    some_in_form (check colon word) = some_word word
    some_in_form (alternate colon word) = some_word word
    some_in_form (cut_suffix longest word) = some_word word
    some_in_form (cut_prefix longest word) = some_word word

  meant : (fault : ValueFault) → IsSound (Err fault) → IsMeant (told fault)
  meant (value_fault.Unset name text) sound = tt
  meant (value_fault.Arith why) sound = tt
  meant value_fault.Memory sound = sound

  -- all words have marks, or one has a fault
  pub pass_or_stop : (words : List WordTree) (before : Variables)
      → ((after : Variables) × Pass given before words after) ⊎ ((fault : ExpandFault) × (after : Variables) × Stop given before words fault after × IsMeant fault)
  pass_or_stop [] before = inl (before, all_passed)
  pass_or_stop (word ∷ words) before = by_word (some_word word setting.Outer before) (pass_or_stop words)
    where
      by_word : SomeOutcome (WordGives given setting.Outer before word)
          → ((between : Variables) → ((after : Variables) × Pass given between words after) ⊎ ((fault : ExpandFault) × (after : Variables) × Stop given between words fault after × IsMeant fault))
          → ((after : Variables) × Pass given before (word ∷ words) after) ⊎ ((fault : ExpandFault) × (after : Variables) × Stop given before (word ∷ words) fault after × IsMeant fault)
      by_word (some (Err fault) after gives sound) others = inr (told fault, after, stops_here (word_stops refl gives), meant fault sound)
      by_word (some (Ok marks) between gives sound) others =
          elim (others between) [
            | inl (after, passed) ↦ inl (after, passes gives passed)
            | inr (fault, after, stops, means) ↦ inr (fault, after, stops_later gives stops, means)
          ]

  -- a word of which nothing is split has a text, or a fault
  pub text_or_fault : (word : WordTree) (before : Variables)
      → ((text : List ℕ) × (after : Variables) × TextGives given before word text after) ⊎ ((fault : ExpandFault) × (after : Variables) × TextStops given before word fault after × IsMeant fault)
  text_or_fault word before = by_word (some_word word setting.Joined before)
    where
      by_word : SomeOutcome (WordGives given setting.Joined before word)
          → ((text : List ℕ) × (after : Variables) × TextGives given before word text after) ⊎ ((fault : ExpandFault) × (after : Variables) × TextStops given before word fault after × IsMeant fault)
      by_word (some (Ok marks) after gives sound) = inl (bare marks, after, has_text gives)
      by_word (some (Err fault) after gives sound) = inr (told fault, after, text_stops refl gives, meant fault sound)

-- Fields

module _ (files : Files) (home : Components) where
  pub some_names : (fields : List (List Marked)) → (names : List (List ℕ)) × AreNames files home fields names
  some_names [] = ([], no_field)
  some_names (field ∷ fields) =
      let (names, expands) = some_expansion files home (pattern_of field) in
      let (others, are) = some_names fields in
      (names ++ others, next_field expands are)

  -- words that have marks have fields
  pub passed_fields : {given : Given} {before after : Variables} {words : List WordTree} → Pass given before words after → (fields : List (List ℕ)) × AreFields files home given before words fields after
  passed_fields all_passed = ([], no_word)
  passed_fields (passes {between = between} {marks = marks} has passed) =
      let (names, are) = some_names (split (ifs_of between) marks) in
      let (others, later) = passed_fields passed in
      (names ++ others, next_word has are later)

  pub fields_or_fault : (given : Given) (words : List WordTree) (before : Variables)
      → ((fields : List (List ℕ)) × (after : Variables) × AreFields files home given before words fields after)
      ⊎ ((fault : ExpandFault) × (after : Variables) × Stop given before words fault after × IsMeant fault)
  fields_or_fault given words before =
      elim (pass_or_stop given words before) [
        | inl (after, passed) ↦ let (fields, are) = passed_fields passed in inl (fields, after, are)
        | inr stopped ↦ inr stopped
      ]
