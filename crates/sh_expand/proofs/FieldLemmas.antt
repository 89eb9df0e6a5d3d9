-- Steps by which words have their fields.
use Rattle.std.proofs.Common.{◌≡◌, inl, inr, ◌<◌, ◌+◌, ◌++◌, Option, Some, None, IfSome, length, get_or, drop, add-one, ◌∷◌, ◌||◌, ℕ, Bool, true, false, List, [], map, refl, sym, ap, ap₂, ◌∙◌, subst}
use Rattle.std.specs.List.{list_any}
use Rattle.std.proofs.lemmas.Bool.{true≢false}
use Rattle.std.proofs.lemmas.List.{map-append, append_assoc, append-nil}
use Rattle.std.proofs.Math.Seq.{drop-cons}
use Rattle.ps_world.specs.TreeState.{TreeState}
use Rattle.sh_tree.specs.declared.words.Word.{Word}
use Rattle.sh_tree.specs.Views.{word_tree}
use Rattle.ps_world.specs.Files.{Files}
use Rattle.ps_world.specs.Paths.{Components}
use Rattle.ps_world.specs.declared.error.WorldErr.{WorldErr}
use Rattle.ps_world.specs.declared.error.WorldErr.TheVariants as world
use Rattle.sh_pattern.specs.PathExpansion.{Expands, unlooked, has_special, bytes_of}
use Rattle.sh_arith.specs.Variables.{Variables}
use Rattle.sh_tree.specs.Trees.{WordTree}
use Rattle.sh_expand.specs.declared.faults.ValueFault.{ValueFault}
use Rattle.sh_expand.specs.declared.faults.ValueFault.TheVariants as value
use Rattle.sh_expand.specs.declared.marks.Marked.{Marked}
use Rattle.sh_expand.specs.declared.marks.Marked.TheVariants.{Written, Quoted, Loose, EmptyPart, FieldEnd}
use Rattle.sh_expand.specs.Faults.{told}
use Rattle.sh_expand.specs.Given.{Given}
use Rattle.sh_expand.specs.Marks.{bare, pattern_of, has_pattern, is_pattern}
use Rattle.sh_expand.specs.Separators.{ifs_of}
use Rattle.sh_expand.specs.Splitting.{split}
use Rattle.sh_expand.specs.Fields.{HasMarks, AreNames, no_field, next_field, AreFields, no_word, next_word, Pass, all_passed, passes, Stop, stops_later, too_many, PatternIn, in_none, in_words, IsPlain, Sees, Appends, WordFields, has_fields, WordStops, word_stops, fails_behind, TextGives, has_text, TextStops, text_stops, text_short, IsOfWords, IsOfWordsOrTree, IsOutside, outside}

-- what words tell is of words
pub of_words : (fault : ValueFault) → IsOfWords (told fault)
of_words (value.Unset name text) = tt
of_words (value.Arith why) = tt
of_words value.Memory = tt

pub ruleset texts = (of_words, text_stops, text_short, has_text, word_stops)

-- a field as patterns see it has the same bytes
pub same_bytes : (field : List Marked) → bytes_of (pattern_of field) ≡ bare field
same_bytes [] = refl
same_bytes (Written byte ∷ rest) = ap (λ (all : List ℕ). byte ∷ all) (same_bytes rest)
same_bytes (Quoted byte ∷ rest) = ap (λ (all : List ℕ). byte ∷ all) (same_bytes rest)
same_bytes (Loose byte ∷ rest) = ap (λ (all : List ℕ). byte ∷ all) (same_bytes rest)
same_bytes (EmptyPart ∷ rest) = same_bytes rest
same_bytes (FieldEnd ∷ rest) = same_bytes rest

-- and the same pattern bytes
pub same_pattern : (field : List Marked) → has_special (pattern_of field) ≡ has_pattern field
same_pattern [] = refl
same_pattern (Written byte ∷ rest) = ap (λ (b : Bool). is_pattern (Written byte) || b) (same_pattern rest)
same_pattern (Quoted byte ∷ rest) = same_pattern rest
same_pattern (Loose byte ∷ rest) = ap (λ (b : Bool). is_pattern (Loose byte) || b) (same_pattern rest)
same_pattern (EmptyPart ∷ rest) = same_pattern rest
same_pattern (FieldEnd ∷ rest) = same_pattern rest

-- a field without pattern bytes is its text
pub itself : (files : Files) (home : Components) (field : List Marked) (old new : List (List ℕ)) → has_pattern field ≡ false → new ≡ old ++ bare field ∷ [] → Appends (λ (names : List (List ℕ)). Expands files home (pattern_of field) names) old new
itself files home field old new plain grew = record {
  names = bare field ∷ [];
  grew = grew;
  are = rw (← same_bytes field) (unlooked (same_pattern field ∙ plain));
}

-- what a tree tells holds in the files that it tells
told_files : (held : Option Files) (own : Components) (Holds : Files → Components → Type 0) → IfSome held (λ (files : Files). Holds files own) → (files : Files) (home : Components) → held ≡ Some files → own ≡ home → Holds files home
told_files None own Holds here files home there same = absurd cc
told_files (Some found) own Holds here files home there same =
    let this : found ≡ files = cc in
    subst (λ (f : Files). Holds f home) this (subst (λ (c : Components). Holds found c) same here)

-- a field that is looked up
pub named : (state : TreeState) (field : List Marked) (old new names : List (List ℕ)) → has_pattern field ≡ true → new ≡ old ++ names → IfSome state.held (λ (files : Files). Expands files state.home (pattern_of field) names)
    → (files : Files) (home : Components) → Sees state (has_pattern field ≡ false) files home → Appends (λ (all : List (List ℕ)). Expands files home (pattern_of field) all) old new
named state field old new names looked grew are files home (inl plain) = absurd (true≢false (sym looked ∙ plain))
named state field old new names looked grew are files home (inr told) = record {
  names = names;
  grew = grew;
  are = told_files state.held state.home (λ (f : Files) (c : Components). Expands f c (pattern_of field) names) are files home told.0 told.1;
}

pub is_outside : (fault : WorldErr) → IsOutside (outside fault)
is_outside world.Failed = inr refl
is_outside world.Memory = inl refl

pub outside_of_tree : (fault : WorldErr) → IsOfWordsOrTree (outside fault)
outside_of_tree world.Failed = tt
outside_of_tree world.Memory = tt

pub ruleset names = (map-append, itself, named, is_outside, outside_of_tree, fails_behind, word_stops)

-- names before those that are added
pub append_behind : {Are : List (List ℕ) → Type 0} (start old new names others : List (List ℕ)) → new ≡ old ++ names → Appends Are start (old ++ (names ++ others)) → Appends Are start (new ++ others)
append_behind {Are} start old new names others grew added =
    let same : old ++ (names ++ others) ≡ new ++ others = sym (append_assoc old names others) ∙ ap (λ (all : List (List ℕ)). all ++ others) (sym grew) in
    subst (λ (all : List (List ℕ)). Appends Are start all) same added

-- where no field that is left has a pattern byte, neither the first has one nor the others
pub neither : (one other : Bool) → (one || other) ≡ false → (one ≡ false) × (other ≡ false)
neither true other e = absurd cc
neither false other e = (refl, e)

pub unasked_step : {Tree : Type 0} (was here now : Tree) (whole fields rest : List (List Marked)) (field : List Marked) → fields ≡ field ∷ rest
    → (has_pattern field ≡ false → now ≡ here)
    → (list_any has_pattern whole ≡ false → (here ≡ was) × (list_any has_pattern fields ≡ false))
    → list_any has_pattern whole ≡ false → (now ≡ was) × (list_any has_pattern rest ≡ false)
unasked_step was here now whole fields rest field front stays go plain =
    let so = go plain in
    let each = neither (has_pattern field) (list_any has_pattern rest) (subst (λ (all : List (List Marked)). list_any has_pattern all ≡ false) front so.1) in
    (stays each.0 ∙ so.0, each.1)

-- where it holds that none is looked up, it holds of fewer too
pub sees_on : {Plain Other : Type 0} (was here : TreeState) (files : Files) (home : Components) → here ≡ was → (Plain → Other) → Sees was Plain files home → Sees here Other files home
sees_on was here files home same go (inl plain) = inl (go plain)
sees_on was here files home same go (inr told) = inr (ap (λ (s : TreeState). s.held) same ∙ told.0, ap (λ (s : TreeState). s.home) same ∙ told.1)

pub names_step : (was here : TreeState) (whole fields rest : List (List Marked)) (field : List Marked) (start old new : List (List ℕ)) → here ≡ was → fields ≡ field ∷ rest
    → (list_any has_pattern whole ≡ false → list_any has_pattern fields ≡ false)
    → ((files : Files) (home : Components) → Sees here (has_pattern field ≡ false) files home → Appends (λ (names : List (List ℕ)). Expands files home (pattern_of field) names) old new)
    → ((files : Files) (home : Components) → Sees was (list_any has_pattern whole ≡ false) files home → (others : List (List ℕ)) → AreNames files home fields others → Appends (λ (names : List (List ℕ)). AreNames files home whole names) start (old ++ others))
    → (files : Files) (home : Components) → Sees was (list_any has_pattern whole ≡ false) files home → (others : List (List ℕ)) → AreNames files home rest others → Appends (λ (names : List (List ℕ)). AreNames files home whole names) start (new ++ others)
names_step was here whole fields rest field start old new same front stays added go files home sees others are =
    let plain = λ (none : list_any has_pattern whole ≡ false). (neither (has_pattern field) (list_any has_pattern rest) (subst (λ (all : List (List Marked)). list_any has_pattern all ≡ false) front (stays none))).0 in
    let first = added files home (sees_on was here files home same plain sees) in
    append_behind start old new first.names others first.grew (go files home sees (first.names ++ others) (subst (λ (all : List (List Marked)). AreNames files home all (first.names ++ others)) (sym front) (next_field first.are are)))

pub or_nothing_more : (found : Bool) → (found || false) ≡ found
or_nothing_more true = refl
or_nothing_more false = refl

-- where no pattern byte is left in words, none is in the first
pub alone : {given : Given} {before : Variables} {word : WordTree} {words : List WordTree} → IsPlain given before (word ∷ words) → IsPlain given before (word ∷ [])
alone {given} {before} {word} {words} plain = first_of plain.1 refl
  where
    first_of : {after : Variables} {found : Bool} → PatternIn given before (word ∷ words) found after → found ≡ false → IsPlain given before (word ∷ [])
    first_of (in_words {between = between} {marks = marks} {found = found} x rest) none =
        let here = list_any has_pattern (split (ifs_of between) marks) in
        let each = neither here found none in
        (between, subst (λ (b : Bool). PatternIn given before (word ∷ []) b between) (or_nothing_more here ∙ each.0) (in_words x in_none))

-- the words from a place on
pub words_step : (words : List Word) (place : ℕ) (one : Word) → one ≡ get_or words place one → place < length words → map word_tree (drop place words) ≡ word_tree one ∷ map word_tree (drop (place + 1) words)
words_step words place one here below =
    let cut : drop place words ≡ get_or words place one ∷ drop (place + 1) words = rw add-one (drop-cons words place one below) in
    ap (map word_tree) cut ∙ ap (λ (w : Word). word_tree w ∷ map word_tree (drop (place + 1) words)) (sym here)

pub one_word : (files : Files) (home : Components) (given : Given) (before between after : Variables) (word : WordTree) (words : List WordTree) (names others : List (List ℕ)) → WordFields files home given before word names between
    → AreFields files home given between words others after → AreFields files home given before (word ∷ words) (names ++ others) after
one_word files home given before between after word words names others (has_fields has named) are = next_word has named are

pub fields_behind : (files : Files) (home : Components) (given : Given) (begin end : Variables) (whole : List WordTree) (old new names others : List (List ℕ)) → new ≡ old ++ names
    → AreFields files home given begin whole (old ++ (names ++ others)) end → AreFields files home given begin whole (new ++ others) end
fields_behind files home given begin end whole old new names others grew are =
    let same : old ++ (names ++ others) ≡ new ++ others = sym (append_assoc old names others) ∙ ap (λ (all : List (List ℕ)). all ++ others) (sym grew) in
    subst (λ (all : List (List ℕ)). AreFields files home given begin whole all end) same are

pub fields_step : (was here : TreeState) (Plain : Type 0) (given : Given) (begin before between : Variables) (whole left words : List WordTree) (word : WordTree) (old new : List (List ℕ)) → here ≡ was → left ≡ word ∷ words
    → (Plain → IsPlain given before left)
    → ((files : Files) (home : Components) → Sees here (IsPlain given before (word ∷ [])) files home → Appends (λ (names : List (List ℕ)). WordFields files home given before word names between) old new)
    → ((files : Files) (home : Components) → Sees was Plain files home → (others : List (List ℕ)) (end : Variables) → AreFields files home given before left others end → AreFields files home given begin whole (old ++ others) end)
    → (files : Files) (home : Components) → Sees was Plain files home → (others : List (List ℕ)) (end : Variables) → AreFields files home given between words others end → AreFields files home given begin whole (new ++ others) end
fields_step was here Plain given begin before between whole left words word old new same front plain added go files home sees others end are =
    let first = added files home (sees_on was here files home same (λ none. alone (subst (λ (these : List WordTree). IsPlain given before these) front (plain none))) sees) in
    fields_behind files home given begin end whole old new first.names others first.grew
    (go files home sees (first.names ++ others) end (subst (λ (all : List WordTree). AreFields files home given before all (first.names ++ others) end) (sym front) (one_word files home given before between end word words first.names others first.are are)))

or_joined : (found here more : Bool) → (found || (here || more)) ≡ ((found || here) || more)
or_joined true here more = refl
or_joined false here more = refl

pub pattern_on : (given : Given) (begin before between : Variables) (whole left words : List WordTree) (word : WordTree) (marks items : List Marked) (ifs : List ℕ) (found here : Bool) → left ≡ word ∷ words → items ≡ marks → ifs ≡ ifs_of between → HasMarks given before word marks between
    → here ≡ list_any has_pattern (split ifs items)
    → ((more : Bool) (end : Variables) → PatternIn given before left more end → PatternIn given begin whole (found || more) end)
    → (more : Bool) (end : Variables) → PatternIn given between words more end → PatternIn given begin whole ((found || here) || more) end
pattern_on given begin before between whole left words word marks items ifs found here front same separators has told go more end rest =
    let this : here ≡ list_any has_pattern (split (ifs_of between) marks) = told ∙ ap₂ (λ (i : List ℕ) (m : List Marked). list_any has_pattern (split i m)) separators same in
    let one : PatternIn given before (word ∷ words) (here || more) end = rw this (in_words has rest) in
    rw (← or_joined found here more) (go (here || more) end (rw front one))

pub pattern_end : (given : Given) (begin end : Variables) (whole left : List WordTree) (found : Bool) → left ≡ []
    → ((more : Bool) (last : Variables) → PatternIn given end left more last → PatternIn given begin whole (found || more) last) → PatternIn given begin whole found end
pattern_end given begin end whole left found over go = subst (λ (b : Bool). PatternIn given begin whole b end) (or_nothing_more found) (go false end (rw over in_none))
