-- Names that were appended: all of them, or the first, where there are too many.
use Rattle.std.proofs.Common.{◌≡◌, ℕ, ◌+◌, ◌<◌, ◌≤◌, Bool, true, false, ◌||◌, List, [], ◌∷◌, ◌++◌, length, map, Result, Ok, Err, OnOk, refl, sym, ap, ◌∙◌, subst, arith}
use Rattle.std.specs.List.{list_any}
use Rattle.std.proofs.lemmas.List.{append_assoc, append-nil, length-append}
use Rattle.ps_world.specs.Files.{Files}
use Rattle.ps_world.specs.Paths.{Components}
use Rattle.ps_world.specs.TreeState.{TreeState}
use Rattle.sh_arith.specs.Variables.{Variables}
use Rattle.sh_pattern.specs.declared.marks.Mark.{Mark}
use Rattle.sh_pattern.specs.PathExpansion.{Expands, unlooked, matched, unmatched}
use Rattle.sh_tree.specs.Trees.{WordTree}
use Rattle.sh_tree.specs.Views.{word_tree}
use Rattle.sh_tree.specs.declared.words.Word.{Word}
use Rattle.sh_expand.specs.declared.marks.Marked.{Marked}
use Rattle.sh_expand.specs.Given.{Given}
use Rattle.sh_expand.specs.Marks.{has_pattern}
use Rattle.sh_expand.specs.Separators.{ifs_of}
use Rattle.sh_expand.specs.Splitting.{split, AreUpTo}
use Rattle.sh_expand.specs.Fields.{HasMarks, AreNames, no_field, next_field, AreFields, no_word, Pass, WordFields, has_fields, IsPlain, Sees, Appends, AppendsUpTo, TooMany}
use Rattle.sh_expand.proofs.FieldLemmas.{neither, one_word, sees_on}
use Rattle.sh_expand.proofs.SomeLemmas.{some_names, passed_fields}

-- all names were appended
pub names_end : (state : TreeState) (most : ℕ) (whole fields : List (List Marked)) (start new : List (List ℕ)) → fields ≡ []
    → ((files : Files) (home : Components) → Sees state (list_any has_pattern whole ≡ false) files home → (others : List (List ℕ)) → AreNames files home fields others → Appends (λ (names : List (List ℕ)). AreNames files home whole names) start (new ++ others))
    → (files : Files) (home : Components) → Sees state (list_any has_pattern whole ≡ false) files home → AppendsUpTo most (λ (names : List (List ℕ)). AreNames files home whole names) start new
names_end state most whole fields start new over go files home sees =
    let all = go files home sees [] (rw over no_field) in
    record { names = all.names; left_out = []; grew = all.grew; all = λ low. refl; are = all.are }

-- there are too many
pub names_cut : (state : TreeState) (most : ℕ) (whole fields : List (List Marked)) (start new : List (List ℕ)) → most < length new
    → ((files : Files) (home : Components) → Sees state (list_any has_pattern whole ≡ false) files home → (others : List (List ℕ)) → AreNames files home fields others → Appends (λ (names : List (List ℕ)). AreNames files home whole names) start (new ++ others))
    → (files : Files) (home : Components) → Sees state (list_any has_pattern whole ≡ false) files home → AppendsUpTo most (λ (names : List (List ℕ)). AreNames files home whole names) start new
names_cut state most whole fields start new more go files home sees =
    let others = some_names files home fields in
    let all = go files home sees others.0 others.1 in
    record { names = all.names; left_out = others.0; grew = all.grew; all = λ low. absurd (omega (arith, low, more)); are = all.are }

-- each field has a name
one_at_least : {files : Files} {home : Components} {text : List Mark} {names : List (List ℕ)} → Expands files home text names → 1 ≤ length names
one_at_least (unlooked x) = omega arith
one_at_least (matched x are) = omega arith
one_at_least (unmatched x are) = omega arith

names_for_all : {files : Files} {home : Components} {fields : List (List Marked)} {names : List (List ℕ)} → AreNames files home fields names → length fields ≤ length names
names_for_all no_field = omega arith
names_for_all (next_field {names = names} {others = others} x more) = omega (arith, one_at_least x, names_for_all more, length-append names others)

-- names of the fields of two lists
both : {files : Files} {home : Components} {front back : List (List Marked)} {names others : List (List ℕ)} → AreNames files home front names → AreNames files home back others → AreNames files home (front ++ back) (names ++ others)
both no_field later = later
both {files} {home} {back = back} {others = last} (next_field {field = field} {fields = fields} {names = names} {others = others} x more) later =
    subst (λ (all : List (List ℕ)). AreNames files home (field ∷ (fields ++ back)) all) (sym (append_assoc names others last)) (next_field x (both more later))

no_names : {files : Files} {home : Components} {fields : List (List Marked)} {names : List (List ℕ)} → fields ≡ [] → AreNames files home fields names → names ≡ []
no_names none no_field = refl
no_names none (next_field x more) = absurd cc

any-append : (front back : List (List Marked)) → list_any has_pattern (front ++ back) ≡ (list_any has_pattern front || list_any has_pattern back)
any-append [] back = refl
any-append (field ∷ fields) back = ap (λ (b : Bool). has_pattern field || b) (any-append fields back) ∙ sym (or_assoc (has_pattern field) (list_any has_pattern fields) (list_any has_pattern back))
  where
    or_assoc : (one other last : Bool) → ((one || other) || last) ≡ (one || (other || last))
    or_assoc true other last = refl
    or_assoc false other last = refl

pub plain_front : (most : ℕ) (all front : List (List Marked)) → AreUpTo most all front → list_any has_pattern all ≡ false → list_any has_pattern front ≡ false
plain_front most all front cut plain =
    (neither (list_any has_pattern front) (list_any has_pattern cut.left_out) (sym (any-append front cut.left_out) ∙ ap (list_any has_pattern) cut.cut ∙ plain)).0

-- where the fields were cut there are too many names too
cut_names : (state : TreeState) (most : ℕ) (all front : List (List Marked)) (old new : List (List ℕ)) → AreUpTo most all front
    → ((files : Files) (home : Components) → Sees state (list_any has_pattern front ≡ false) files home → AppendsUpTo most (λ (names : List (List ℕ)). AreNames files home front names) old new)
    → (files : Files) (home : Components) → Sees state (list_any has_pattern all ≡ false) files home → AppendsUpTo most (λ (names : List (List ℕ)). AreNames files home all names) old new
cut_names state most all front old new cut appended files home sees =
    let first = appended files home (sees_on state state files home refl (plain_front most all front cut) sees) in
    let others = some_names files home cut.left_out in
    record {
      names = first.names ++ others.0;
      left_out = first.left_out ++ others.0;
      grew = sym (append_assoc new first.left_out others.0) ∙ ap (λ (texts : List (List ℕ)). texts ++ others.0) first.grew ∙ append_assoc old first.names others.0;
      all = λ low.
          let none = first.all low in
          let count : length new ≡ length old + length first.names =
          ap length (sym (append-nil new) ∙ ap (λ (texts : List (List ℕ)). new ++ texts) (sym none) ∙ first.grew) ∙ length-append old first.names in
          let few : length front ≤ most = omega (arith, low, count, names_for_all first.are) in
          ap (λ (texts : List (List ℕ)). texts ++ others.0) none ∙ no_names (cut.whole few) others.1;
      are = subst (λ (fields : List (List Marked)). AreNames files home fields (first.names ++ others.0)) cut.cut (both first.are others.1);
    }

pub cut_names_of : {Fault : Type 0} (result : Result Unit Fault) (state : TreeState) (most : ℕ) (all front : List (List Marked)) (old new : List (List ℕ)) → AreUpTo most all front
    → ((files : Files) (home : Components) → Sees state (list_any has_pattern front ≡ false) files home → OnOk result (AppendsUpTo most (λ (names : List (List ℕ)). AreNames files home front names) old new))
    → (files : Files) (home : Components) → Sees state (list_any has_pattern all ≡ false) files home → OnOk result (AppendsUpTo most (λ (names : List (List ℕ)). AreNames files home all names) old new)
cut_names_of (Ok done) state most all front old new cut appended = cut_names state most all front old new cut appended
cut_names_of (Err fault) state most all front old new cut appended = λ files home sees. tt

-- the fields of a word
pub word_fields : (state : TreeState) (most : ℕ) (given : Given) (before after : Variables) (word : WordTree) (marks items : List Marked) (ifs : List ℕ) (old new : List (List ℕ)) → ifs ≡ ifs_of after → items ≡ marks → HasMarks given before word marks after
    → (IsPlain given before (word ∷ []) → list_any has_pattern (split ifs items) ≡ false)
    → ((files : Files) (home : Components) → Sees state (list_any has_pattern (split ifs items) ≡ false) files home → AppendsUpTo most (λ (names : List (List ℕ)). AreNames files home (split ifs items) names) old new)
    → (files : Files) (home : Components) → Sees state (IsPlain given before (word ∷ [])) files home → AppendsUpTo most (λ (names : List (List ℕ)). WordFields files home given before word names after) old new
word_fields state most given before after word marks items ifs old new separators same has plain appended files home sees =
    let all = appended files home (sees_on state state files home refl plain sees) in
    record {
      names = all.names;
      left_out = all.left_out;
      grew = all.grew;
      all = all.all;
      are = has_fields has (subst (λ (m : List Marked). AreNames files home (split (ifs_of after) m) all.names) same (subst (λ (i : List ℕ). AreNames files home (split i items) all.names) separators all.are));
    }

-- where there are not too many, all were appended
pub appends_all : (most : ℕ) {Are : List (List ℕ) → Type 0} (old new : List (List ℕ)) → length new ≤ most → AppendsUpTo most Are old new → Appends Are old new
appends_all most old new low up = record { names = up.names; grew = sym (append-nil new) ∙ ap (λ (texts : List (List ℕ)). new ++ texts) (sym (up.all low)) ∙ up.grew; are = up.are }

pub no_words : (words : List Word) → length words ≡ 0 → map word_tree words ≡ []
no_words [] none = refl
no_words (first ∷ rest) none = absurd cc

-- the fields of words are all there
pub fields_end : (state : TreeState) (Plain : Type 0) (given : Given) (begin end : Variables) (whole left : List WordTree) (new : List (List ℕ)) → left ≡ []
    → ((files : Files) (home : Components) → Sees state Plain files home → (others : List (List ℕ)) (last : Variables) → AreFields files home given end left others last → AreFields files home given begin whole (new ++ others) last)
    → (files : Files) (home : Components) → Sees state Plain files home → AreFields files home given begin whole new end
fields_end state Plain given begin end whole left new over go files home sees = rw append-nil at (go files home sees [] end (rw over no_word))

-- or there are too many, behind a word with more than may be
pub too_many_fields : (was here : TreeState) (Plain : Type 0) (most : ℕ) (given : Given) (begin before between end : Variables) (whole left words : List WordTree) (word : WordTree) (old new : List (List ℕ)) → here ≡ was → left ≡ word ∷ words
    → most < length new → (Plain → IsPlain given before (word ∷ [])) → Pass given between words end
    → ((files : Files) (home : Components) → Sees here (IsPlain given before (word ∷ [])) files home → AppendsUpTo most (λ (names : List (List ℕ)). WordFields files home given before word names between) old new)
    → ((files : Files) (home : Components) → Sees was Plain files home → (others : List (List ℕ)) (last : Variables) → AreFields files home given before left others last → AreFields files home given begin whole (old ++ others) last)
    → (files : Files) (home : Components) → Sees was Plain files home → TooMany most (λ (fields : List (List ℕ)). AreFields files home given begin whole fields end)
too_many_fields was here Plain most given begin before between end whole left words word old new same front more plain passed appended go files home sees =
    let first = appended files home (sees_on was here files home same plain sees) in
    let others = passed_fields files home passed in
    let these = one_word files home given before between end word words first.names others.0 first.are others.1 in
    let are = go files home sees (first.names ++ others.0) end (subst (λ (all : List WordTree). AreFields files home given before all (first.names ++ others.0) end) (sym front) these) in
    record {
      fields = old ++ (first.names ++ others.0);
      are = are;
      more =
          let count : length new + length first.left_out ≡ length old + length first.names = sym (length-append new first.left_out) ∙ ap length first.grew ∙ length-append old first.names in
          omega (arith, more, count, length-append old (first.names ++ others.0), length-append first.names others.0);
    }
