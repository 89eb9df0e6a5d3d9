-- Steps of field splitting.
use Rattle.std.proofs.Common.{◌≡◌, ℕ, ◌<◌, Bool, true, false, ◌||◌, List, [], ◌∷◌, ◌++◌, length, refl, sym, ap, ◌∙◌, arith}
use Rattle.std.specs.List.{list_any}
use Rattle.std.proofs.lemmas.List.{map-append, append_assoc, append-nil}
use Rattle.sh_expand.specs.declared.marks.Marked.{Marked}
use Rattle.sh_expand.specs.declared.splitting.Before.{Before}
use Rattle.sh_expand.specs.declared.splitting.Before.TheVariants as before
use Rattle.sh_expand.specs.declared.splitting.Class.{Class}
use Rattle.sh_expand.specs.declared.splitting.Class.TheVariants as class
use Rattle.sh_expand.specs.declared.splitting.Act.{Act}
use Rattle.sh_expand.specs.declared.splitting.Act.TheVariants as act
use Rattle.sh_expand.specs.Marks.{is_pattern, has_pattern}
use Rattle.sh_expand.specs.Splitting.{onto, spliced, held, IsHeld, class_of, act_at, after, at_mark, split_behind, keeps_pattern, AreUpTo}

pub spliced-end : (field : List Marked) (fields : List (List Marked)) → spliced field ([] ∷ fields) ≡ field ∷ fields
spliced-end [] fields = refl
spliced-end (mark ∷ marks) fields = ap (onto mark) (spliced-end marks fields)

pub spliced-onto : (field : List Marked) (mark : Marked) (fields : List (List Marked)) → spliced (field ++ mark ∷ []) fields ≡ spliced field (onto mark fields)
spliced-onto [] mark fields = refl
spliced-onto (first ∷ rest) mark fields = ap (onto first) (spliced-onto rest mark fields)

-- the field that has begun ends
pub ended : (fields : List (List Marked)) (field : List Marked) (more : List (List Marked)) → (fields ++ field ∷ []) ++ more ≡ fields ++ spliced field ([] ∷ more)
ended fields field more = append_assoc fields (field ∷ []) more ∙ ap (λ (all : List (List Marked)). fields ++ all) (sym (spliced-end field more))

pub last : (fields : List (List Marked)) (field : List Marked) → fields ++ field ∷ [] ≡ fields ++ spliced field ([] ∷ [])
last fields field = ap (λ (all : List (List Marked)). fields ++ all) (sym (spliced-end field []))

pub none : (fields : List (List Marked)) (field : List Marked) → field ≡ [] → fields ≡ fields ++ spliced field []
none fields field empty = sym (ap (λ (marks : List Marked). fields ++ spliced marks []) empty ∙ append-nil fields)

pub ruleset puts = (map-append, spliced-onto, ended, last, none)

-- what is held stays so
pub held_after : (class : Class) (stands : Before) (mark : Marked) (field : List Marked) → IsHeld stands field → IsHeld (after class stands) (held (act_at class stands) mark field)
held_after class.Content stands mark field h = tt
held_after class.White before.Start mark field h = h
held_after class.White before.Field mark field h = refl
held_after class.White before.White mark field h = h
held_after class.Ender before.Start mark field h = refl
held_after class.Ender before.Field mark field h = refl
held_after class.Ender before.White mark field h = h
held_after class.ArgumentEnd before.Start mark field h = h
held_after class.ArgumentEnd before.Field mark field h = refl
held_after class.ArgumentEnd before.White mark field h = h

-- a mark is put
pub step : (all done next : List (List Marked)) (field grown marks rest : List Marked) (ifs : List ℕ) (stands behind : Before) (act : Act) (class : Class) (mark : Marked)
    → marks ≡ mark ∷ rest → class ≡ class_of ifs mark → act ≡ act_at class stands → behind ≡ after class stands
    → ((more : List (List Marked)) → next ++ spliced grown more ≡ done ++ spliced field (at_mark act mark more))
    → done ++ spliced field (split_behind ifs stands marks) ≡ all
    → next ++ spliced grown (split_behind ifs behind rest) ≡ all
step all done next field grown marks rest ifs stands behind act class mark front classed acted moved put whole =
    let here : at_mark act mark (split_behind ifs behind rest) ≡ at_mark (act_at (class_of ifs mark) stands) mark (split_behind ifs (after (class_of ifs mark) stands) rest) = cc in
    put (split_behind ifs behind rest) ∙ ap (λ (fields : List (List Marked)). done ++ spliced field fields) here
    ∙ ap (λ (all_marks : List Marked). done ++ spliced field (split_behind ifs stands all_marks)) (sym front) ∙ whole

pub holds : (field grown : List Marked) (stands behind : Before) (act : Act) (class : Class) (mark : Marked)
    → act ≡ act_at class stands → behind ≡ after class stands → grown ≡ held act mark field → IsHeld stands field → IsHeld behind grown
holds field grown stands behind act class mark acted moved grew before_it =
    let marks : grown ≡ held (act_at class stands) mark field = cc in
    rw (moved, marks) (held_after class stands mark field before_it)

-- the first field has the pattern byte of a mark in front of it
any-onto : (mark : Marked) (fields : List (List Marked)) → list_any has_pattern (onto mark fields) ≡ (is_pattern mark || list_any has_pattern fields)
any-onto mark [] = or_false (is_pattern mark)
  where
    or_false : (b : Bool) → ((b || false) || false) ≡ (b || false)
    or_false true = refl
    or_false false = refl
any-onto mark (field ∷ fields) = or_assoc (is_pattern mark) (has_pattern field) (list_any has_pattern fields)
  where
    or_assoc : (one other last : Bool) → ((one || other) || last) ≡ (one || (other || last))
    or_assoc true other last = refl
    or_assoc false other last = refl

any-at_mark : (done : Act) (mark : Marked) (fields : List (List Marked)) → list_any has_pattern (at_mark done mark fields) ≡ (keeps_pattern done mark || list_any has_pattern fields)
any-at_mark act.Keep mark fields = any-onto mark fields
any-at_mark act.Skip mark fields = refl
any-at_mark act.End mark fields = refl

-- a mark is looked at
pub looked : (ifs : List ℕ) (stands behind : Before) (act : Act) (class : Class) (mark : Marked) (marks rest : List Marked) (found all : Bool)
    → marks ≡ mark ∷ rest → class ≡ class_of ifs mark → act ≡ act_at class stands → behind ≡ after class stands → found ≡ keeps_pattern act mark
    → list_any has_pattern (split_behind ifs stands marks) ≡ all → (found || list_any has_pattern (split_behind ifs behind rest)) ≡ all
looked ifs stands behind act class mark marks rest found all front classed acted moved tests whole =
    let here : act ≡ act_at (class_of ifs mark) stands = cc in
    let next : behind ≡ after (class_of ifs mark) stands = cc in
    let test : found ≡ keeps_pattern (act_at (class_of ifs mark) stands) mark = cc in
    rw (test, next)
    (sym (any-at_mark (act_at (class_of ifs mark) stands) mark (split_behind ifs (after (class_of ifs mark) stands) rest))
    ∙ ap (λ (all_marks : List Marked). list_any has_pattern (split_behind ifs stands all_marks)) (sym front) ∙ whole)

-- cut off at the end of a field, where there are too many
pub cut_short : (most : ℕ) (all fields : List (List Marked)) (left : List (List Marked)) → most < length fields → fields ++ left ≡ all → AreUpTo most all fields
cut_short most all fields left more whole = record { left_out = left; cut = whole; whole = λ low. absurd (omega (arith, low, more)) }

-- not cut off
pub all_there : (most : ℕ) (all fields : List (List Marked)) → fields ≡ all → AreUpTo most all fields
all_there most all fields same = record { left_out = []; cut = append-nil fields ∙ same; whole = λ low. refl }
