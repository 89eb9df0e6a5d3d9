-- Words have one outcome at most, but for want of memory.
use Rattle.std.proofs.Common.{◌≡◌, ◌≤◌, ◌||◌, ◌++◌, ℕ, ℤ, Bool, true, false, List, [], ◌∷◌, length, Option, Result, Ok, Err, inl, inr, refl, sym, ap, ap₂, subst, ◌∙◌, arith}
use Rattle.std.specs.List.{list_any, AllByRecursion}
use Rattle.std.specs.List.Sorted.{IsStrictlySortedBy}
use Rattle.std.specs.Ordering.{nat_cmp}
use Rattle.std.specs.Cmp.Lexicographic.{slice_cmp}
use Rattle.std.specs.declared.cmp.Ordering.TheVariants.{Less, Greater}
use Rattle.std.proofs.lemmas.Cmp.{nat_list_cmp_total, tied_itself}
use Rattle.std.proofs.lemmas.Bool.{false≢true}
use Rattle.ps_world.specs.Files.{Files}
use Rattle.ps_world.specs.Paths.{Components}
use Rattle.sh_arith.specs.declared.faults.ArithFault.{ArithFault}
use Rattle.sh_arith.specs.Variables.{Variables}
use Rattle.sh_arith.specs.Values.{Outcome as Value, assigned_text}
use Rattle.sh_arith.proofs.OutcomeLemmas.{one_outcome}
use Rattle.sh_pattern.specs.declared.marks.Mark.{Mark}
use Rattle.sh_pattern.specs.declared.elements.Element.{Element}
use Rattle.sh_pattern.specs.PathExpansion.{IsAmong, AreNamed, Expands, unlooked, matched, unmatched}
use Rattle.sh_pattern.proofs.ReadingLemmas.{one_reading}
use Rattle.sh_tree.specs.Trees.{WordTree, PartTree, plain, quoted, parameter, substitution, arithmetic, FormTree, bare as bare_form, length_of, default, assign, check_omitted, check, alternate, cut_suffix, cut_prefix}
use Rattle.sh_tree.specs.declared.words.Param.{Param}
use Rattle.sh_expand.proofs.FieldLemmas.{neither, alone}
use Rattle.sh_expand.specs.declared.faults.ExpandFault.{ExpandFault}
use Rattle.sh_expand.specs.declared.faults.ExpandFault.TheVariants as fault
use Rattle.sh_expand.specs.declared.faults.ValueFault.{ValueFault}
use Rattle.sh_expand.specs.declared.faults.ValueFault.TheVariants as value_fault
use Rattle.sh_expand.specs.declared.marks.Marked.{Marked}
use Rattle.sh_expand.specs.declared.parameters.Setting.{Setting}
use Rattle.sh_pattern.specs.declared.trims.Side.{Side}
use Rattle.sh_pattern.specs.declared.trims.Side.TheVariants as side
use Rattle.sh_expand.specs.Faults.{told, arith_fault}
use Rattle.sh_expand.specs.Given.{Given}
use Rattle.sh_expand.specs.Marks.{bare, value, has_pattern}
use Rattle.sh_expand.specs.Parameters.{or_nothing}
use Rattle.sh_expand.specs.Separators.{ifs_of}
use Rattle.sh_expand.specs.Splitting.{split}
use Rattle.sh_pattern.specs.Trims.{FitsAt, IsBest, left_of, Cuts, cut, whole}
use Rattle.sh_expand.specs.Values.{Outcome, at_once, needs, Trims, trims, Computes, computes, fails, short, short_at_last, FormEnds, left_by, Ends, text_in, WordGives, no_more, one_more, first_stops, later_stops, PartGives, told_at_once, by_its_word, its_word_stops, no_memory, none_after_its_word}
use Rattle.sh_expand.specs.Fields.{HasMarks, AreNames, no_field, next_field, AreFields, no_word, next_word, Pass, all_passed, passes, PatternIn, in_none, in_words, WordStops, word_stops, fails_behind, Stop, stops_here, stops_later, fails_here, too_many, HasSomeMarks, IsPlain, IsOutside, IsMeant, TextGives, has_text, TextStops, text_stops, text_short}

-- Cuts

one_best : (cut_from : Side) (longest : Bool) (Holds : ℕ → Type 0) (end place other : ℕ) → IsBest cut_from longest Holds end place → IsBest cut_from longest Holds end other → place ≡ other
one_best side.Prefix false Holds end place other x y = let a = x.least other y.within y.here in let b = y.least place x.within x.here in omega (arith, a, b)
one_best side.Prefix true Holds end place other x y = let a = x.greatest other y.within y.here in let b = y.greatest place x.within x.here in omega (arith, a, b)
one_best side.Suffix false Holds end place other x y = let a = x.greatest other y.within y.here in let b = y.greatest place x.within x.here in omega (arith, a, b)
one_best side.Suffix true Holds end place other x y = let a = x.least other y.within y.here in let b = y.least place x.within x.here in omega (arith, a, b)

best_is : (cut_from : Side) (longest : Bool) (Holds : ℕ → Type 0) (end place : ℕ) → IsBest cut_from longest Holds end place → (place ≤ end) × Holds place
best_is side.Prefix false Holds end place x = (x.within, x.here)
best_is side.Prefix true Holds end place x = (x.within, x.here)
best_is side.Suffix false Holds end place x = (x.within, x.here)
best_is side.Suffix true Holds end place x = (x.within, x.here)

one_cut : {cut_from : Side} {longest : Bool} {pattern : List Element} {text rest other : List ℕ} → Cuts cut_from longest pattern text rest → Cuts cut_from longest pattern text other → rest ≡ other
one_cut {cut_from} {longest} {pattern} {text} (cut place x) (cut next y) = ap (λ at. left_of cut_from at text) (one_best cut_from longest (FitsAt cut_from pattern text) (length text) place next x y)
one_cut {cut_from} {longest} {pattern} {text} (cut place x) (whole none) = let is = best_is cut_from longest (FitsAt cut_from pattern text) (length text) place x in absurd (none place is.0 is.1)
one_cut {cut_from} {longest} {pattern} {text} (whole none) (cut place x) = let is = best_is cut_from longest (FitsAt cut_from pattern text) (length text) place x in absurd (none place is.0 is.1)
one_cut (whole none) (whole also) = refl

one_trimmed : {cut_from : Side} {longest flag : Bool} {text : List ℕ} {marks : List Marked} {one other : Result (List Marked) ValueFault} → Trims cut_from longest flag text marks one → Trims cut_from longest flag text marks other → one ≡ other
one_trimmed {cut_from} {longest} {flag} {text} (trims pattern rest x y) (trims next left z w) =
    ap (λ kept. Ok (value flag kept)) (one_cut y (subst (λ p. Cuts cut_from longest p text left) (one_reading z x) w))

-- Outcomes

-- memory wasn't wanted
abbrev IsWhole : Result (List Marked) ValueFault → Type 0
IsWhole result = result ≡ Err value_fault.Memory → ⊥

marks_whole : {marks : List Marked} → IsWhole (Ok marks)
marks_whole e = cc

record SameMarks (marks others : List Marked) (after later : Variables) : Type 0 where
  what : marks ≡ others
  left : after ≡ later

same_marks : {marks others : List Marked} {after later : Variables} → ◌≡◌ {A = Outcome} (Ok marks, after) (Ok others, later) → SameMarks marks others after later
same_marks {marks} {others} e =
    let result : ◌≡◌ {A = Result (List Marked) ValueFault} (Ok marks) (Ok others) = ap (λ (o : Outcome). o.0) e in
    record { what = cc; left = ap (λ (o : Outcome). o.1) e }

not_both : {marks : List Marked} {why : ValueFault} {after later : Variables} → ◌≡◌ {A = Outcome} (Ok marks, after) (Err why, later) → ⊥
not_both {marks} {why} e = let result : ◌≡◌ {A = Result (List Marked) ValueFault} (Ok marks) (Err why) = ap (λ (o : Outcome). o.0) e in cc

not_either : {marks : List Marked} {why : ValueFault} {after later : Variables} → ◌≡◌ {A = Outcome} (Err why, later) (Ok marks, after) → ⊥
not_either {marks} {why} e = let result : ◌≡◌ {A = Result (List Marked) ValueFault} (Err why) (Ok marks) = ap (λ (o : Outcome). o.0) e in cc

same_number : {number other : ℤ} {after later : Variables} (flag : Bool) → ◌≡◌ {A = Value} (Ok number, after) (Ok other, later) → ◌≡◌ {A = Outcome} (Ok (value flag (assigned_text number)), after) (Ok (value flag (assigned_text other)), later)
same_number {number} {other} flag e =
    let result : ◌≡◌ {A = Result ℤ ArithFault} (Ok number) (Ok other) = ap (λ (o : Value). o.0) e in
    let numbers : number ≡ other = cc in
    ap₂ (λ (n : ℤ) (v : Variables). (Ok (value flag (assigned_text n)), v)) numbers (ap (λ (o : Value). o.1) e)

same_fault : {why other : ArithFault} {after later : Variables} → ◌≡◌ {A = Value} (Err why, after) (Err other, later) → ◌≡◌ {A = Outcome} (Err (arith_fault why), after) (Err (arith_fault other), later)
same_fault {why} {other} e =
    let result : ◌≡◌ {A = Result ℤ ArithFault} (Err why) (Err other) = ap (λ (o : Value). o.0) e in
    let faults : why ≡ other = cc in
    ap₂ (λ (f : ArithFault) (v : Variables). (Err (arith_fault f), v)) faults (ap (λ (o : Value). o.1) e)

no_number : {number : ℤ} {why : ArithFault} {after later : Variables} → ◌≡◌ {A = Value} (Ok number, after) (Err why, later) → ⊥
no_number {number} {why} e = let result : ◌≡◌ {A = Result ℤ ArithFault} (Ok number) (Err why) = ap (λ (o : Value). o.0) e in cc

one_computed : {flag : Bool} {text : List ℕ} {before : Variables} {one other : Outcome} → Computes flag text before one → Computes flag text before other → IsWhole one.0 → IsWhole other.0 → one ≡ other
one_computed {flag} {text} {before} (computes x) (computes y) h k = same_number flag (one_outcome text before _ _ x y)
one_computed {flag} {text} {before} (computes x) (fails y) h k = absurd (no_number (one_outcome text before _ _ x y))
one_computed {flag} {text} {before} (fails x) (computes y) h k = absurd (no_number (one_outcome text before _ _ y x))
one_computed {flag} {text} {before} (fails x) (fails y) h k = same_fault (one_outcome text before _ _ x y)
one_computed (computes x) (short y) h k = absurd (k refl)
one_computed (computes x) (short_at_last y) h k = absurd (k refl)
one_computed (fails x) (short y) h k = absurd (k refl)
one_computed (fails x) (short_at_last y) h k = absurd (k refl)
one_computed (short x) y h k = absurd (h refl)
one_computed (short_at_last x) y h k = absurd (h refl)

one_form : (what : Param) (flag : Bool) (text : List ℕ) (marks : List Marked) (form : FormTree) {one other : Result (List Marked) ValueFault} → FormEnds what flag text marks form one → FormEnds what flag text marks form other → one ≡ other
one_form what flag text marks bare_form x y = x ∙ sym y
one_form what flag text marks length_of x y = x ∙ sym y
one_form what flag text marks (default colon word) x y = x ∙ sym y
one_form what flag text marks (assign colon word) x y = x ∙ sym y
one_form what flag text marks (check_omitted colon) x y = x ∙ sym y
one_form what flag text marks (check colon word) x y = x ∙ sym y
one_form what flag text marks (alternate colon word) x y = x ∙ sym y
one_form what flag text marks (cut_suffix longest word) x y = one_trimmed x y
one_form what flag text marks (cut_prefix longest word) x y = one_trimmed x y

one_end : (text : Option (List ℕ)) (marks : List Marked) (before : Variables) (it : PartTree) {one other : Outcome} → Ends text marks before it one → Ends text marks before it other → IsWhole one.0 → IsWhole other.0 → one ≡ other
one_end text marks before (plain written) x y h k = x ∙ sym y
one_end text marks before (quoted written) x y h k = x ∙ sym y
one_end text marks before (parameter what form flag) x y h k =
    let results = one_form what flag (or_nothing text) marks form x.0 y.0 in
    let lefts = x.1 ∙ ap (left_by what marks form before) results ∙ sym y.1 in
    ap₂ (λ (r : Result (List Marked) ValueFault) (v : Variables). (r, v)) results lefts
one_end text marks before (substitution number flag) x y h k = x ∙ sym y
one_end text marks before (arithmetic word flag) x y h k = one_computed x y h k

-- how a part begins

same_result : {one other : Result (List Marked) ValueFault} → at_once one ≡ at_once other → one ≡ other
same_result e = cc

record SameNeeds (within other : Setting) (word next : WordTree) : Type 0 where
  use_of : within ≡ other
  word_of : word ≡ next

same_needs : {within other : Setting} {word next : WordTree} → needs within word ≡ needs other next → SameNeeds within other word next
same_needs e = record { use_of = cc; word_of = cc }

not_at_once : {result : Result (List Marked) ValueFault} {within : Setting} {word : WordTree} → at_once result ≡ needs within word → ⊥
not_at_once e = cc

-- a word's marks, told at the place of another's
moved : {given : Given} {within other : Setting} {before : Variables} {word next : WordTree} {outcome : Outcome} → SameNeeds within other word next → WordGives given other before next outcome → WordGives given within before word outcome
moved {given} {within} {other} {before} {word} {next} {outcome} same x =
    subst (λ w. WordGives given within before w outcome) (sym same.word_of) (subst (λ u. WordGives given u before next outcome) (sym same.use_of) x)

mutual
  pub one_word : {given : Given} {used : Setting} {before : Variables} {word : WordTree} {one other : Outcome} → WordGives given used before word one → WordGives given used before word other → IsWhole one.0 → IsWhole other.0 → one ≡ other
  one_word no_more no_more h k = refl
  one_word {given} {used} (one_more {rest = rest} x y) (one_more {after = later} {others = others} z w) h k =
      let first = same_marks (one_part x z marks_whole marks_whole) in
      let more = same_marks (one_word y (subst (λ v. WordGives given used v rest (Ok others, later)) (sym first.left) w) marks_whole marks_whole) in
      ap₂ (λ (m : List Marked) (v : Variables). (Ok m, v)) (ap₂ (λ (a : List Marked) (b : List Marked). a ++ b) first.what more.what) more.left
  one_word (one_more x y) (first_stops z) h k = absurd (not_both (one_part x z marks_whole k))
  one_word {given} {used} (one_more {rest = rest} x y) (later_stops {after = later} {fault = why} z w) h k =
      let first = same_marks (one_part x z marks_whole marks_whole) in
      absurd (not_both (one_word y (subst (λ v. WordGives given used v rest (Err why, later)) (sym first.left) w) marks_whole k))
  one_word (first_stops x) (one_more z w) h k = absurd (not_either (one_part x z h marks_whole))
  one_word (first_stops x) (first_stops z) h k = one_part x z h k
  one_word (first_stops x) (later_stops z w) h k = absurd (not_either (one_part x z h marks_whole))
  one_word {given} {used} (later_stops {rest = rest} x y) (one_more {after = later} {others = others} z w) h k =
      let first = same_marks (one_part x z marks_whole marks_whole) in
      absurd (not_either (one_word y (subst (λ v. WordGives given used v rest (Ok others, later)) (sym first.left) w) h marks_whole))
  one_word (later_stops x y) (first_stops z) h k = absurd (not_both (one_part x z marks_whole k))
  one_word {given} {used} (later_stops {rest = rest} x y) (later_stops {after = later} {fault = why} z w) h k =
      let first = same_marks (one_part x z marks_whole marks_whole) in
      one_word y (subst (λ v. WordGives given used v rest (Err why, later)) (sym first.left) w) h k

  one_part : {given : Given} {used : Setting} {before : Variables} {it : PartTree} {one other : Outcome} → PartGives given used before it one → PartGives given used before it other → IsWhole one.0 → IsWhole other.0 → one ≡ other
  one_part {before = before} (told_at_once x) (told_at_once y) h k = ap (λ (r : Result (List Marked) ValueFault). (r, before)) (same_result (sym x ∙ y))
  one_part (told_at_once x) (by_its_word y word end) h k = absurd (not_at_once (sym x ∙ y))
  one_part (told_at_once x) (its_word_stops y word) h k = absurd (not_at_once (sym x ∙ y))
  one_part (told_at_once x) (no_memory y) h k = absurd (k (ap Err y))
  one_part (told_at_once x) (none_after_its_word y z word) h k = absurd (k (ap Err y))
  one_part (by_its_word x word end) (told_at_once y) h k = absurd (not_at_once (sym y ∙ x))
  one_part {given} {before = before} {it = it} {other = other} (by_its_word {between = between} {marks = marks} x word end) (by_its_word {between = beyond} {marks = others} y also last) h k =
      let same = same_marks (one_word word (moved (same_needs (sym x ∙ y)) also) marks_whole marks_whole) in
      let there = subst (λ v. Ends (text_in given before it) others v it other) (sym same.left) last in
      one_end (text_in given before it) marks between it end (subst (λ m. Ends (text_in given before it) m between it other) (sym same.what) there) h k
  one_part (by_its_word x word end) (its_word_stops y also) h k = absurd (not_both (one_word word (moved (same_needs (sym x ∙ y)) also) marks_whole k))
  one_part (by_its_word x word end) (no_memory y) h k = absurd (k (ap Err y))
  one_part (by_its_word x word end) (none_after_its_word y z also) h k = absurd (k (ap Err y))
  one_part (its_word_stops x word) (told_at_once y) h k = absurd (not_at_once (sym y ∙ x))
  one_part (its_word_stops x word) (by_its_word y also last) h k = absurd (not_either (one_word word (moved (same_needs (sym x ∙ y)) also) h marks_whole))
  one_part (its_word_stops x word) (its_word_stops y also) h k = one_word word (moved (same_needs (sym x ∙ y)) also) h k
  one_part (its_word_stops x word) (no_memory y) h k = absurd (k (ap Err y))
  one_part (its_word_stops x word) (none_after_its_word y z also) h k = absurd (k (ap Err y))
  one_part (no_memory x) y h k = absurd (h (ap Err x))
  one_part (none_after_its_word x z word) y h k = absurd (h (ap Err x))

-- Names

-- a text is below none that is itself
below_other : (one other : List ℕ) → one ≡ other → slice_cmp nat_cmp one other ≡ Less → ⊥
below_other one other same less =
    let tied = tied_itself nat_list_cmp_total one in
    let again : slice_cmp nat_cmp one one ≡ Less = subst (λ (t : List ℕ). slice_cmp nat_cmp one t ≡ Less) (sym same) less in
    cc

below_each : (first name : List ℕ) (others : List (List ℕ)) → AllByRecursion (λ (other : List ℕ). slice_cmp nat_cmp first other ≡ Less) others → IsAmong others name → slice_cmp nat_cmp first name ≡ Less
below_each first name [] below among = elim among [ ]
below_each first name (next ∷ others) below (inl same) = subst (λ (t : List ℕ). slice_cmp nat_cmp first t ≡ Less) same below.0
below_each first name (next ∷ others) below (inr among) = below_each first name others below.1 among

-- of two texts, not each is below the other
not_around : (one other : List ℕ) → slice_cmp nat_cmp one other ≡ Less → slice_cmp nat_cmp other one ≡ Less → ⊥
not_around one other less more = let turned = nat_list_cmp_total.antisymm one other in let back : slice_cmp nat_cmp one other ≡ Greater = rw more at turned in cc

-- lists in order are one where each text of the one is in the other
heads_same : (first next : List ℕ) (others more : List (List ℕ)) → IsStrictlySortedBy (slice_cmp nat_cmp) (first ∷ others) → IsStrictlySortedBy (slice_cmp nat_cmp) (next ∷ more)
    → IsAmong (next ∷ more) first → IsAmong (first ∷ others) next → first ≡ next
unfolding IsStrictlySortedBy
heads_same first next others more sorted ordered (inl same) back = sym same
heads_same first next others more sorted ordered (inr among) (inl same) = same
heads_same first next others more sorted ordered (inr among) (inr back) = absurd (not_around first next (below_each first next others sorted.0 back) (below_each next first more ordered.0 among))

behind_head : (first next : List ℕ) (others more : List (List ℕ)) (name : List ℕ) → first ≡ next → IsStrictlySortedBy (slice_cmp nat_cmp) (first ∷ others) → IsAmong others name → IsAmong (next ∷ more) name → IsAmong more name
unfolding IsStrictlySortedBy
behind_head first next others more name same sorted among (inl head) = absurd (below_other first name (same ∙ head) (below_each first name others sorted.0 among))
behind_head first next others more name same sorted among (inr later) = later

same_texts : (names others : List (List ℕ)) → IsStrictlySortedBy (slice_cmp nat_cmp) names → IsStrictlySortedBy (slice_cmp nat_cmp) others
    → ((name : List ℕ) → IsAmong names name → IsAmong others name) → ((name : List ℕ) → IsAmong others name → IsAmong names name) → names ≡ others
unfolding IsStrictlySortedBy
same_texts [] [] sorted ordered there back = refl
same_texts [] (next ∷ more) sorted ordered there back = absurd (back next (inl refl))
same_texts (first ∷ others) [] sorted ordered there back = absurd (there first (inl refl))
same_texts (first ∷ others) (next ∷ more) sorted ordered there back =
    let heads = heads_same first next others more sorted ordered (there first (inl refl)) (back next (inl refl)) in
    let tails = same_texts others more sorted.1 ordered.1
    (λ name among. behind_head first next others more name heads sorted among (there name (inr among)))
    (λ name among. behind_head next first more others name (sym heads) ordered among (back name (inr among))) in
    ap₂ (λ (n : List ℕ) (ns : List (List ℕ)). n ∷ ns) heads tails

one_naming : {files : Files} {home : Components} {text : List Mark} {names others : List (List ℕ)} → AreNamed files home text names → AreNamed files home text others → names ≡ others
one_naming {names = names} {others = others} x y = same_texts names others x.sorted y.sorted (λ name among. y.all name (x.each name among)) (λ name among. x.all name (y.each name among))

one_expansion : {files : Files} {home : Components} {text : List Mark} {names others : List (List ℕ)} → Expands files home text names → Expands files home text others → names ≡ others
one_expansion (unlooked x) (unlooked y) = refl
one_expansion (unlooked x) (matched y are) = absurd (false≢true (sym x ∙ y))
one_expansion (unlooked x) (unmatched y are) = absurd (false≢true (sym x ∙ y))
one_expansion (matched x are) (unlooked y) = absurd (false≢true (sym y ∙ x))
one_expansion (matched x are) (matched y also) = one_naming are also
one_expansion (matched x are) (unmatched y none) = let same = one_naming are none in absurd cc
one_expansion (unmatched x none) (unlooked y) = absurd (false≢true (sym y ∙ x))
one_expansion (unmatched x none) (matched y are) = let same = one_naming none are in absurd cc
one_expansion (unmatched x none) (unmatched y also) = refl

pub one_names : {files : Files} {home : Components} {fields : List (List Marked)} {names others : List (List ℕ)} → AreNames files home fields names → AreNames files home fields others → names ≡ others
one_names no_field no_field = refl
one_names (next_field x more) (next_field y rest) = ap₂ (λ (a : List (List ℕ)) (b : List (List ℕ)). a ++ b) (one_expansion x y) (one_names more rest)

-- Words

one_has : {given : Given} {before after later : Variables} {word : WordTree} {marks others : List Marked} → HasMarks given before word marks after → HasMarks given before word others later → SameMarks marks others after later
one_has x y = same_marks (one_word x y marks_whole marks_whole)

pub one_pass : {given : Given} {before after later : Variables} {words : List WordTree} → Pass given before words after → Pass given before words later → after ≡ later
one_pass all_passed all_passed = refl
one_pass {given} {later = later} (passes {words = words} x more) (passes y rest) =
    let same = one_has x y in one_pass more (subst (λ v. Pass given v words later) (sym same.left) rest)

pub one_fields : {files : Files} {home : Components} {given : Given} {before after later : Variables} {words : List WordTree} {fields others : List (List ℕ)} → AreFields files home given before words fields after → AreFields files home given before words others later → (fields ≡ others) × (after ≡ later)
one_fields no_word no_word = (refl, refl)
one_fields {files} {home} {given} {later = later} (next_word {between = between} {words = words} {marks = marks} x named more) (next_word {between = beyond} {names = names} {others = others} y also rest) =
    let same = one_has x y in
    let here = subst (λ v. AreNames files home (split (ifs_of v) marks) names) (sym same.left) (subst (λ m. AreNames files home (split (ifs_of beyond) m) names) (sym same.what) also) in
    let tails = one_fields more (subst (λ v. AreFields files home given v words others later) (sym same.left) rest) in
    (ap₂ (λ (a : List (List ℕ)) (b : List (List ℕ)). a ++ b) (one_names named here) tails.0, tails.1)

pub one_finding : {given : Given} {before after later : Variables} {words : List WordTree} {found other : Bool} → PatternIn given before words found after → PatternIn given before words other later → (found ≡ other) × (after ≡ later)
one_finding in_none in_none = (refl, refl)
one_finding {given} {later = later} (in_words {words = words} x more) (in_words {found = next} y rest) =
    let same = one_has x y in
    let tails = one_finding more (subst (λ v. PatternIn given v words next later) (sym same.left) rest) in
    (ap₂ (λ (a : Bool) (b : Bool). a || b) (ap₂ (λ (v : Variables) (m : List Marked). list_any has_pattern (split (ifs_of v) m)) same.left same.what) tails.0, tails.1)

-- Words without a pattern byte

-- the first word has none in the fields of its marks, whichever way it has them, nor have the others behind it
pub first_plain : {given : Given} {before between after : Variables} {word : WordTree} {words : List WordTree} {marks : List Marked} {found : Bool} → HasMarks given before word marks between → PatternIn given before (word ∷ words) found after → found ≡ false
    → (list_any has_pattern (split (ifs_of between) marks) ≡ false) × PatternIn given between words false after
first_plain {given} {after = after} x (in_words {between = beyond} {words = words} {marks = others} {found = found} y rest) none =
    let same = one_has x y in
    let each = neither (list_any has_pattern (split (ifs_of beyond) others)) found none in
    let here = ap₂ (λ (v : Variables) (m : List Marked). list_any has_pattern (split (ifs_of v) m)) same.left same.what in
    let behind = subst (λ (b : Bool). PatternIn given beyond words b after) each.1 rest in
    (here ∙ each.0, subst (λ (v : Variables). PatternIn given v words false after) (sym same.left) behind)

-- nor has the first word alone
pub marks_plain : {given : Given} {before after : Variables} {word : WordTree} {marks : List Marked} → HasMarks given before word marks after → IsPlain given before (word ∷ []) → list_any has_pattern (split (ifs_of after) marks) ≡ false
marks_plain has none = (first_plain has none.1 refl).0

-- so a call that leaves a tree as it was at such a word does so behind others that did
pub untouched_here : {Tree : Type 0} (was here now : Tree) (given : Given) (begin before : Variables) (all left words : List WordTree) (word : WordTree) → left ≡ word ∷ words
    → (IsPlain given before (word ∷ []) → now ≡ here) → (IsPlain given begin all → (here ≡ was) × IsPlain given before left) → IsPlain given begin all → now ≡ was
untouched_here was here now given begin before all left words word front stays go none =
    let so = go none in
    stays (alone (subst (λ (these : List WordTree). IsPlain given before these) front so.1)) ∙ so.0

pub untouched_step : {Tree : Type 0} (was here now : Tree) (given : Given) (begin before between : Variables) (all left words : List WordTree) (word : WordTree) → left ≡ word ∷ words → HasSomeMarks given before word between
    → (IsPlain given before (word ∷ []) → now ≡ here) → (IsPlain given begin all → (here ≡ was) × IsPlain given before left) → IsPlain given begin all → (now ≡ was) × IsPlain given between words
untouched_step was here now given begin before between all left words word front has stays go none =
    let these = subst (λ (these : List WordTree). IsPlain given before these) front (go none).1 in
    (untouched_here was here now given begin before all left words word front stays go none, (these.0, (first_plain has.1 these.1 refl).1))

pub fields_pass : {files : Files} {home : Components} {given : Given} {before after : Variables} {words : List WordTree} {fields : List (List ℕ)} → AreFields files home given before words fields after → Pass given before words after
fields_pass no_word = all_passed
fields_pass (next_word x named more) = passes x (fields_pass more)

pub pattern_passes : {given : Given} {before after : Variables} {words : List WordTree} {found : Bool} → PatternIn given before words found after → Pass given before words after
pattern_passes in_none = all_passed
pattern_passes (in_words x more) = passes x (pattern_passes more)

-- Faults

-- a fault that is meant is neither want of memory nor of the tree
not_outside : (shown : ExpandFault) → IsMeant shown → IsOutside shown → ⊥
not_outside (fault.Unset name text) meant (inl e) = cc
not_outside (fault.Unset name text) meant (inr e) = cc
not_outside (fault.Arith why) meant (inl e) = cc
not_outside (fault.Arith why) meant (inr e) = cc
not_outside fault.ArgsTooMany meant e = elim meant [ ]
not_outside fault.Failed meant e = elim meant [ ]
not_outside fault.Memory meant e = elim meant [ ]

-- nor is the fault of the word that it tells
is_whole : {why : ValueFault} {shown : ExpandFault} → shown ≡ told why → IsMeant shown → IsWhole (Err why)
is_whole {why} {shown} tells meant e =
    let same : ◌≡◌ {A = Result (List Marked) ValueFault} (Err why) (Err value_fault.Memory) = e in
    let short : why ≡ value_fault.Memory = cc in
    not_outside shown meant (inl (tells ∙ ap told short))

same_why : {why other : ValueFault} {after later : Variables} → ◌≡◌ {A = Outcome} (Err why, after) (Err other, later) → (why ≡ other) × (after ≡ later)
same_why {why} {other} e =
    let result : ◌≡◌ {A = Result (List Marked) ValueFault} (Err why) (Err other) = ap (λ (o : Outcome). o.0) e in
    let faults : why ≡ other = cc in
    (faults, ap (λ (o : Outcome). o.1) e)

-- a word that has marks has no fault
no_stop : {given : Given} {before after later : Variables} {word : WordTree} {marks : List Marked} {shown : ExpandFault} → HasMarks given before word marks after → WordStops given before word shown later → IsMeant shown → ⊥
no_stop x (word_stops tells y) meant = not_both (one_word x y marks_whole (is_whole tells meant))
no_stop {shown = shown} x (fails_behind away y) meant = not_outside shown meant away

one_word_stop : {given : Given} {before after later : Variables} {word : WordTree} {shown other : ExpandFault} → WordStops given before word shown after → WordStops given before word other later → IsMeant shown → IsMeant other → (shown ≡ other) × (after ≡ later)
one_word_stop (word_stops tells x) (word_stops tell y) meant also =
    let same = same_why (one_word x y (is_whole tells meant) (is_whole tell also)) in (tells ∙ ap told same.0 ∙ sym tell, same.1)
one_word_stop {other = other} (word_stops tells x) (fails_behind away y) meant also = absurd (not_outside other also away)
one_word_stop {shown = shown} (fails_behind away x) y meant also = absurd (not_outside shown meant away)

pub one_stop : {given : Given} {before after later : Variables} {words : List WordTree} {shown other : ExpandFault} → Stop given before words shown after → Stop given before words other later → IsMeant shown → IsMeant other → (shown ≡ other) × (after ≡ later)
one_stop (stops_here x) (stops_here y) meant also = one_word_stop x y meant also
one_stop (stops_here x) (stops_later y rest) meant also = absurd (no_stop y x meant)
one_stop {other = other} (stops_here x) (fails_here away) meant also = absurd (not_outside other also away)
one_stop (stops_later x more) (stops_here y) meant also = absurd (no_stop x y also)
one_stop {given} {later = later} {other = other} (stops_later {words = words} x more) (stops_later y rest) meant also =
    let same = one_has x y in one_stop more (subst (λ v. Stop given v words other later) (sym same.left) rest) meant also
one_stop {other = other} (stops_later x more) (fails_here away) meant also = absurd (not_outside other also away)
one_stop {shown = shown} (fails_here away) y meant also = absurd (not_outside shown meant away)
one_stop too_many y meant also = absurd meant

pub pass_no_stop : {given : Given} {before after later : Variables} {words : List WordTree} {shown : ExpandFault} → Pass given before words after → Stop given before words shown later → IsMeant shown → ⊥
pass_no_stop all_passed too_many meant = meant
pass_no_stop {shown = shown} all_passed (fails_here away) meant = not_outside shown meant away
pass_no_stop (passes x more) (stops_here y) meant = no_stop x y meant
pass_no_stop {given} {later = later} {shown = shown} (passes {words = words} x more) (stops_later y rest) meant =
    let same = one_has x y in pass_no_stop more (subst (λ v. Stop given v words shown later) (sym same.left) rest) meant
pass_no_stop {shown = shown} (passes x more) (fails_here away) meant = not_outside shown meant away

-- the fault of too many fields is told behind the last word
many_pass : {given : Given} {before after : Variables} {words : List WordTree} {shown : ExpandFault} → Stop given before words shown after → shown ≡ fault.ArgsTooMany → Pass given before words after
many_pass (stops_here (word_stops {fault = value_fault.Unset name text} tells y)) e = absurd cc
many_pass (stops_here (word_stops {fault = value_fault.Arith why} tells y)) e = absurd cc
many_pass (stops_here (word_stops {fault = value_fault.Memory} tells y)) e = absurd cc
many_pass (stops_here (fails_behind (inl f) y)) e = absurd cc
many_pass (stops_here (fails_behind (inr f) y)) e = absurd cc
many_pass (stops_later x more) e = passes x (many_pass more e)
many_pass (fails_here (inl f)) e = absurd cc
many_pass (fails_here (inr f)) e = absurd cc
many_pass too_many e = all_passed

pub too_many_passes : {given : Given} {before after : Variables} {words : List WordTree} → Stop given before words fault.ArgsTooMany after → Pass given before words after
too_many_passes x = many_pass x refl

-- Texts

pub one_text : {given : Given} {before after later : Variables} {word : WordTree} {text other : List ℕ} → TextGives given before word text after → TextGives given before word other later → (text ≡ other) × (after ≡ later)
one_text (has_text x) (has_text y) = let same = same_marks (one_word x y marks_whole marks_whole) in (ap bare same.what, same.left)

pub text_no_stop : {given : Given} {before after later : Variables} {word : WordTree} {text : List ℕ} {shown : ExpandFault} → TextGives given before word text after → TextStops given before word shown later → IsMeant shown → ⊥
text_no_stop (has_text x) (text_stops tells y) meant = not_both (one_word x y marks_whole (is_whole tells meant))
text_no_stop {shown = shown} (has_text x) (text_short tells y) meant = not_outside shown meant (inl tells)

pub one_text_stop : {given : Given} {before after later : Variables} {word : WordTree} {shown other : ExpandFault} → TextStops given before word shown after → TextStops given before word other later → IsMeant shown → IsMeant other → (shown ≡ other) × (after ≡ later)
one_text_stop (text_stops tells x) (text_stops tell y) meant also =
    let same = same_why (one_word x y (is_whole tells meant) (is_whole tell also)) in (tells ∙ ap told same.0 ∙ sym tell, same.1)
one_text_stop {other = other} (text_stops tells x) (text_short tell y) meant also = absurd (not_outside other also (inl tell))
one_text_stop {shown = shown} (text_short tells x) y meant also = absurd (not_outside shown meant (inl tells))
