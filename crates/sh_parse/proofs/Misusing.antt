-- What is sought is the first misuse, and there is one first.
use Rattle.std.proofs.Common.{◌≡◌, ℕ, ◌+◌, ◌≤◌, min, Bool, true, false, ◌&&◌, cond, List, [], ◌∷◌, ◌++◌, length, refl, sym, ◌∙◌, ap, subst, append_assoc, nat_le, nat_lt, arith, ◌⊎◌, inl, inr, Option, Some, None}
use Rattle.std.proofs.lemmas.Bool.{le-leb, ltb-true, ltb-false, and_parts, cond-true}
use Rattle.std.proofs.lemmas.Option.{none-some, same_Some, cond_some}
use Rattle.std.proofs.Math.Nat.{min-le_left, min-le_right}
use Rattle.sh_parse.specs.Pieces.{WordViews}
use Rattle.sh_parse.specs.Places.{begins_piece}
use Rattle.sh_parse.specs.Inner.Owed.{Pending, Move, Next, Verdict, again, push, opens, skip, stuck, move, moved, step, levels, verdict, verdict_behind, goes, deeper, fails, fine, deep}
use Rattle.sh_parse.specs.Stops.{offset_of}
use Rattle.sh_parse.specs.Misuses.{IsIllFormed, MayBegin, mixes, IsMixed, FirstMisuse}
use Rattle.sh_parse.specs.Inner.Seeking.{earliest, form_at, first_form, takes, may_open, owed_behind, begins_mixed, mix_at, first_mix, earlier}
use Rattle.sh_parse.proofs.Tops.{reads_fine, fine_reads}
use Rattle.sh_parse.proofs.Completes.{Sound, anything, finish, completes, step_sound, NextSound}
use Rattle.sh_parse.specs.declared.items.Item.{Item}
use Rattle.sh_parse.specs.declared.items.Item.TheVariants as item
use Rattle.sh_parse.specs.declared.items.Span.{Span}
use Rattle.sh_parse.specs.declared.items.WordKind.{WordKind}
use Rattle.sh_parse.specs.declared.pieces.Slot.TheVariants as place
use Rattle.sh_parse.specs.declared.misuses.Misuse.{Misuse}
use Rattle.sh_parse.specs.declared.misuses.Misuse.TheVariants as misuse

-- the lesser of two offsets
abbrev AtMost : Option ℕ → ℕ → Type 0
AtMost None offset = ⊥
AtMost (Some least) offset = least ≤ offset

at_most_itself : (found : Option ℕ) (offset : ℕ) → found ≡ Some offset → AtMost found offset
at_most_itself None offset h = absurd (none-some offset h)
at_most_itself (Some least) offset h = let same = same_Some least offset h in omega (arith, same)

at_most_left : (one other : Option ℕ) (offset : ℕ) → AtMost one offset → AtMost (earliest one other) offset
at_most_left None other offset h = absurd h
at_most_left (Some one) None offset h = h
at_most_left (Some one) (Some other) offset h = let less = min-le_left one other in omega (arith, less)

at_most_right : (one other : Option ℕ) (offset : ℕ) → AtMost other offset → AtMost (earliest one other) offset
at_most_right None other offset h = h
at_most_right (Some one) None offset h = absurd h
at_most_right (Some one) (Some other) offset h = let less = min-le_right one other in omega (arith, less)

min_is : (one other offset : ℕ) → min one other ≡ offset → (one ≡ offset) ⊎ (other ≡ offset)
min_is one other offset h = grind arith

earliest_is : (one other : Option ℕ) (offset : ℕ) → earliest one other ≡ Some offset → (one ≡ Some offset) ⊎ (other ≡ Some offset)
earliest_is None other offset h = inr h
earliest_is (Some one) None offset h = inl h
earliest_is (Some one) (Some other) offset h = by_sum (min_is one other offset (same_Some (min one other) offset h))
  where
    by_sum : (one ≡ offset) ⊎ (other ≡ offset) → (Some one ≡ Some offset) ⊎ (Some other ≡ Some offset)
    by_sum (inl e) = inl (ap Some e)
    by_sum (inr e) = inr (ap Some e)

-- the expansions without a form
module _ (views : WordViews) where
  form_least : (before : List Item) (kind : WordKind) (at : Span) (behind : List Item) (offset : ℕ) → views.fault at ≡ Some offset
      → AtMost (first_form views (before ++ item.Word kind at ∷ behind)) offset
  form_least [] kind at behind offset h =
      at_most_left (views.fault at) (first_form views behind) offset (at_most_itself (views.fault at) offset h)
  form_least (first ∷ before) kind at behind offset h =
      at_most_right (form_at views first) (first_form views (before ++ item.Word kind at ∷ behind)) offset
      (form_least before kind at behind offset h)

  forms_least : (items : List Item) (offset : ℕ) → IsIllFormed views items offset → AtMost (first_form views items) offset
  forms_least items offset is =
      subst (λ all. AtMost (first_form views all) offset) (sym is.whole) (form_least is.before is.kind is.at is.behind offset is.fault)

  here_form : (first : Item) (rest : List Item) (offset : ℕ) → form_at views first ≡ Some offset → IsIllFormed views (first ∷ rest) offset
  here_form (item.Word kind at) rest offset h =
      record { before = []; kind = kind; at = at; behind = rest; whole = refl; fault = h }
  here_form _ rest offset h = absurd (none-some offset h)

  later_form : (first : Item) (rest : List Item) (offset : ℕ) → IsIllFormed views rest offset → IsIllFormed views (first ∷ rest) offset
  later_form first rest offset is = record {
    before = first ∷ is.before;
    kind = is.kind;
    at = is.at;
    behind = is.behind;
    whole = ap (λ all. first ∷ all) is.whole;
    fault = is.fault;
  }

  either_form : (first : Item) (rest : List Item) (offset : ℕ) → (form_at views first ≡ Some offset) ⊎ (first_form views rest ≡ Some offset)
      → (first_form views rest ≡ Some offset → IsIllFormed views rest offset) → IsIllFormed views (first ∷ rest) offset
  either_form first rest offset (inl h) found = here_form first rest offset h
  either_form first rest offset (inr h) found = later_form first rest offset (found h)

  form_found : (items : List Item) (offset : ℕ) → first_form views items ≡ Some offset → IsIllFormed views items offset
  form_found [] offset h = absurd (none-some offset h)
  form_found (first ∷ rest) offset h =
      either_form first rest offset (earliest_is (form_at views first) (first_form views rest) offset h) (form_found rest offset)

-- where a command may begin: some list goes on with a `(` there, at some number of levels, or at all from some number on
abbrev MayOne : List Item → List Pending → Type 0
MayOne before stack = (most : ℕ) × ((behind : List Item) × (verdict most (before ++ item.Open 0 ∷ behind) stack ≡ fine))

abbrev MayAll : List Item → List Pending → Type 0
MayAll before stack = (least : ℕ) × ((most : ℕ) → least ≤ most
    → (behind : List Item) × (verdict most (before ++ item.Open 0 ∷ behind) stack ≡ fine))

fits_fine : (test : Bool) (rest : Verdict) (left : ℕ) → cond test rest (deep left) ≡ fine → rest ≡ fine
fits_fine true rest left h = h
fits_fine false rest left h = cc

fine_behind : (most left : ℕ) (rest : List Pending → Verdict) (next : Next) → verdict_behind most left rest next ≡ fine
    → rest (owed_behind next) ≡ fine
fine_behind most left rest (goes stack) h = h
fine_behind most left rest (deeper stack) h = fits_fine (nat_le (levels stack) most) (rest stack) left h
fine_behind most left rest fails h = cc

one_behind : (first : Item) (before : List Item) (stack : List Pending) → MayOne (first ∷ before) stack
    → MayOne before (owed_behind (step stack first))
one_behind first before stack may =
    let (most, (behind, h)) = may in
    let all : List Item = before ++ item.Open 0 ∷ behind in
    (most, (behind, fine_behind most (length all + 1) (verdict most all) (step stack first) h))

abbrev is_next : Next → Bool
is_next (goes stack) = true
is_next (deeper stack) = true
is_next fails = false

may_open_by : (m : Move) (stack : List Pending) (below : Bool) (next : Next) → below ≡ is_next next → takes m below ≡ is_next (moved m stack next)
may_open_by (push parts) stack below next e = refl
may_open_by (opens parts) stack below next e = refl
may_open_by skip stack below next e = e
may_open_by stuck stack below next e = refl

may_open_is : (stack : List Pending) → may_open stack ≡ is_next (step stack (item.Open 0))
may_open_is [] = refl
may_open_is (part ∷ stack) =
    may_open_by (move part (item.Open 0)) stack (may_open stack) (step stack (item.Open 0)) (may_open_is stack)

fine_next : (most left : ℕ) (rest : List Pending → Verdict) (next : Next) → verdict_behind most left rest next ≡ fine → is_next next ≡ true
fine_next most left rest (goes stack) h = refl
fine_next most left rest (deeper stack) h = refl
fine_next most left rest fails h = cc

one_opens : (stack : List Pending) → MayOne [] stack → may_open stack ≡ true
one_opens stack may =
    let (most, (behind, h)) = may in
    may_open_is stack ∙ fine_next most (length behind + 1) (verdict most behind) (step stack (item.Open 0)) h

on_true : (test : Bool) (one other : Verdict) → test ≡ true → cond test one other ≡ one
on_true test one other e = ap (λ b. cond b one other) e

module _ (first : Item) (stack : List Pending) where
  goes_to : (behind : List Pending) → step stack first ≡ goes behind → (most : ℕ) (rest : List Item)
      → verdict most (first ∷ rest) stack ≡ verdict most rest behind
  goes_to behind e most rest = ap (λ n. verdict_behind most (length rest + 1) (verdict most rest) n) e

  deeper_to : (behind : List Pending) → step stack first ≡ deeper behind → (most : ℕ) → levels behind ≤ most → (rest : List Item)
      → verdict most (first ∷ rest) stack ≡ verdict most rest behind
  deeper_to behind e most less rest =
      ap (λ n. verdict_behind most (length rest + 1) (verdict most rest) n) e
      ∙ on_true (nat_le (levels behind) most) _ _ (le-leb (levels behind) most less)

here_by : (stack : List Pending) (next : Next) → step stack (item.Open 0) ≡ next → is_next next ≡ true → NextSound next → MayAll [] stack
here_by stack (goes behind) e h sound =
    (0, λ most less. (finish behind, goes_to (item.Open 0) stack behind e most (finish behind) ∙ completes most behind sound))
here_by stack (deeper behind) e h sound = (
  levels behind,
  λ most less. (finish behind, deeper_to (item.Open 0) stack behind e most less (finish behind) ∙ completes most behind sound),
)
here_by stack fails e h sound = cc

all_here : (stack : List Pending) → may_open stack ≡ true → Sound anything stack → MayAll [] stack
all_here stack h sound =
    here_by stack (step stack (item.Open 0)) refl (sym (may_open_is stack) ∙ h) (step_sound stack (item.Open 0) sound)

nothing_owed : (most : ℕ) (before behind : List Item) → verdict most (before ++ item.Open 0 ∷ behind) [] ≡ fine → ⊥
nothing_owed most [] behind h = cc
nothing_owed most (first ∷ before) behind h = cc

behind_by : (first : Item) (before : List Item) (stack : List Pending) (next : Next) → step stack first ≡ next
    → MayAll before (owed_behind next) → MayAll (first ∷ before) stack
behind_by first before stack (goes behind) e may =
    let (least, all) = may in (
      least,
      λ most less. let (rest, h) = all most less in (rest, goes_to first stack behind e most (before ++ item.Open 0 ∷ rest) ∙ h),
    )
behind_by first before stack (deeper behind) e may =
    let (least, all) = may in (
      least + levels behind,
      λ most less. let (rest, h) = all most (omega arith) in
          (rest, deeper_to first stack behind e most (omega arith) (before ++ item.Open 0 ∷ rest) ∙ h),
    )
behind_by first before stack fails e may =
    let (least, all) = may in let (rest, h) = all least (omega arith) in absurd (nothing_owed least before rest h)

owed_sound : (next : Next) → NextSound next → Sound anything (owed_behind next)
owed_sound (goes stack) h = h
owed_sound (deeper stack) h = h
owed_sound fails h = tt

-- the mixed commands
record MixedFrom (views : WordViews) (items : List Item) (stack : List Pending) (offset : ℕ) : Type 0 where
  pub before : List Item
  pub first : Item
  pub behind : List Item
  pub whole : items ≡ before ++ first ∷ behind
  pub may : MayAll before stack
  pub begins : begins_piece place.First first ≡ true
  pub mixed : mixes views (first ∷ behind) ≡ true
  pub place : offset ≡ offset_of first

module _ (views : WordViews) where
  mix_here : (stack : List Pending) (first : Item) (rest : List Item) → may_open stack ≡ true → begins_piece place.First first ≡ true
      → mixes views (first ∷ rest) ≡ true → begins_mixed views stack first (first ∷ rest) ≡ true
  mix_here stack first rest may begins mixed =
      ap (λ b. b && (may_open stack && mixes views (first ∷ rest))) begins ∙ ap (λ b. b && mixes views (first ∷ rest)) may ∙ mixed

  mix_least : (before : List Item) (stack : List Pending) (first : Item) (behind : List Item) (offset : ℕ) → MayOne before stack
      → begins_piece place.First first ≡ true → mixes views (first ∷ behind) ≡ true → offset ≡ offset_of first
      → AtMost (first_mix views (before ++ first ∷ behind) stack) offset
  mix_least [] stack first behind offset may begins mixed place =
      at_most_left (mix_at views stack (first ∷ behind)) (first_mix views behind (owed_behind (step stack first))) offset
      (at_most_itself (mix_at views stack (first ∷ behind)) offset
      (cond-true (begins_mixed views stack first (first ∷ behind)) (Some (offset_of first)) None
      (mix_here stack first behind (one_opens stack may) begins mixed) ∙ ap Some (sym place)))
  mix_least (next ∷ before) stack first behind offset may begins mixed place =
      at_most_right (mix_at views stack (next ∷ before ++ first ∷ behind))
      (first_mix views (before ++ first ∷ behind) (owed_behind (step stack next))) offset
      (mix_least before (owed_behind (step stack next)) first behind offset (one_behind next before stack may) begins mixed place)

  may_one : (before : List Item) → MayBegin views before → MayOne before (again ∷ [])
  may_one before may =
      let (most, (behind, (script, reads))) = may in (
        most,
        (
          behind,
          sym (ap (λ all. verdict most all (again ∷ [])) (append_assoc before (item.Open 0 ∷ []) behind))
              ∙ reads_fine views most ((before ++ item.Open 0 ∷ []) ++ behind) script reads,
        ),
      )

  may_begin : (before : List Item) → MayAll before (again ∷ []) → MayBegin views before
  may_begin before may =
      let (least, all) = may in
      let (behind, h) = all least (omega arith) in (
        least,
        (
          behind,
          fine_reads views least ((before ++ item.Open 0 ∷ []) ++ behind)
              (ap (λ all. verdict least all (again ∷ [])) (append_assoc before (item.Open 0 ∷ []) behind) ∙ h),
        ),
      )

  mixes_least : (items : List Item) (offset : ℕ) → IsMixed views items offset → AtMost (first_mix views items (again ∷ [])) offset
  mixes_least items offset is =
      subst (λ all. AtMost (first_mix views all (again ∷ [])) offset) (sym is.whole)
      (mix_least is.before (again ∷ []) is.first is.behind offset (may_one is.before is.may_begin) is.begins is.mixed is.place)

  here_mix : (first : Item) (rest : List Item) (stack : List Pending) (offset : ℕ) → Sound anything stack
      → mix_at views stack (first ∷ rest) ≡ Some offset → MixedFrom views (first ∷ rest) stack offset
  here_mix first rest stack offset sound h =
      let is = cond_some (begins_mixed views stack first (first ∷ rest)) (offset_of first) offset h in
      let outer = and_parts (begins_piece place.First first) (may_open stack && mixes views (first ∷ rest)) is.0 in
      let inner = and_parts (may_open stack) (mixes views (first ∷ rest)) outer.1 in
      record {
        before = [];
        first = first;
        behind = rest;
        whole = refl;
        may = all_here stack inner.0 sound;
        begins = outer.0;
        mixed = inner.1;
        place = sym is.1;
      }

  later_mix : (first : Item) (rest : List Item) (stack : List Pending) (offset : ℕ)
      → MixedFrom views rest (owed_behind (step stack first)) offset → MixedFrom views (first ∷ rest) stack offset
  later_mix first rest stack offset is = record {
    before = first ∷ is.before;
    first = is.first;
    behind = is.behind;
    whole = ap (λ all. first ∷ all) is.whole;
    may = behind_by first is.before stack (step stack first) refl is.may;
    begins = is.begins;
    mixed = is.mixed;
    place = is.place;
  }

  either_mix : (first : Item) (rest : List Item) (stack : List Pending) (offset : ℕ) → Sound anything stack
      → (mix_at views stack (first ∷ rest) ≡ Some offset) ⊎ (first_mix views rest (owed_behind (step stack first)) ≡ Some offset)
      → (first_mix views rest (owed_behind (step stack first)) ≡ Some offset → MixedFrom views rest (owed_behind (step stack first)) offset)
      → MixedFrom views (first ∷ rest) stack offset
  either_mix first rest stack offset sound (inl h) found = here_mix first rest stack offset sound h
  either_mix first rest stack offset sound (inr h) found = later_mix first rest stack offset (found h)

  mix_found : (items : List Item) (stack : List Pending) (offset : ℕ) → Sound anything stack → first_mix views items stack ≡ Some offset
      → MixedFrom views items stack offset
  mix_found [] stack offset sound h = absurd (none-some offset h)
  mix_found (first ∷ rest) stack offset sound h =
      either_mix first rest stack offset sound
      (earliest_is (mix_at views stack (first ∷ rest)) (first_mix views rest (owed_behind (step stack first))) offset h)
      (mix_found rest (owed_behind (step stack first)) offset (owed_sound (step stack first) (step_sound stack first sound)))

  mixed_found : (items : List Item) (offset : ℕ) → first_mix views items (again ∷ []) ≡ Some offset → IsMixed views items offset
  mixed_found items offset h =
      let is = mix_found items (again ∷ []) offset tt h in
      record {
        before = is.before;
        first = is.first;
        behind = is.behind;
        whole = is.whole;
        may_begin = may_begin is.before is.may;
        begins = is.begins;
        mixed = is.mixed;
        place = is.place;
      }

  -- the earlier of the least form and the least mix is the first misuse
  module _ (items : List Item) where
    forms_from : (form : Option ℕ) → first_form views items ≡ form → (other : ℕ) → IsIllFormed views items other → AtMost form other
    forms_from form e other is = subst (λ found. AtMost found other) e (forms_least views items other is)

    mixes_from : (mix : Option ℕ) → first_mix views items (again ∷ []) ≡ mix → (other : ℕ) → IsMixed views items other → AtMost mix other
    mixes_from mix e other is = subst (λ found. AtMost found other) e (mixes_least items other is)

    by_order : (form mix : ℕ) → first_form views items ≡ Some form → first_mix views items (again ∷ []) ≡ Some mix
        → (test : Bool) → nat_lt mix form ≡ test
        → FirstMisuse views items (cond test (Some (misuse.Mix mix)) (Some (misuse.Form form)))
    by_order form mix forms mixes true less =
        let before = ltb-true mix form less in
        record {
          is = mixed_found items mix mixes;
          of_forms = λ other is. let least = forms_from (Some form) forms other is in omega (arith, before, least);
          of_mixes = mixes_from (Some mix) mixes;
        }
    by_order form mix forms mixes false less =
        let before = ltb-false mix form less in
        record {
          is = form_found views items form forms;
          of_forms = forms_from (Some form) forms;
          of_mixes = λ other is. let least = mixes_from (Some mix) mixes other is in omega (arith, before, least);
        }

    by_both : (form mix : Option ℕ) → first_form views items ≡ form → first_mix views items (again ∷ []) ≡ mix
        → FirstMisuse views items (earlier form mix)
    by_both None None forms mixes = record { formed = forms_from None forms; unmixed = mixes_from None mixes }
    by_both (Some form) None forms mixes = record {
      is = form_found views items form forms;
      of_forms = forms_from (Some form) forms;
      of_mixes = λ other is. absurd (mixes_from None mixes other is);
    }
    by_both None (Some mix) forms mixes = record {
      is = mixed_found items mix mixes;
      of_forms = λ other is. absurd (forms_from None forms other is);
      of_mixes = mixes_from (Some mix) mixes;
    }
    by_both (Some form) (Some mix) forms mixes = by_order form mix forms mixes (nat_lt mix form) refl

    pub earlier_is_first : FirstMisuse views items (earlier (first_form views items) (first_mix views items (again ∷ [])))
    earlier_is_first = by_both (first_form views items) (first_mix views items (again ∷ [])) refl refl

-- there is a first misuse, or none
pub misuse_some : (views : WordViews) (items : List Item) → (found : Option Misuse) × FirstMisuse views items found
misuse_some views items =
    (earlier (first_form views items) (first_mix views items (again ∷ [])), earlier_is_first views items)

-- and no second
pub misuse_one : (views : WordViews) (items : List Item) (one other : Option Misuse) → FirstMisuse views items one
    → FirstMisuse views items other → one ≡ other
misuse_one views items None None one other = refl
misuse_one views items None (Some (misuse.Form form)) one other = absurd (one.formed form other.is)
misuse_one views items None (Some (misuse.Mix mix)) one other = absurd (one.unmixed mix other.is)
misuse_one views items (Some (misuse.Form form)) None one other = absurd (other.formed form one.is)
misuse_one views items (Some (misuse.Mix mix)) None one other = absurd (other.unmixed mix one.is)
misuse_one views items (Some (misuse.Form form)) (Some (misuse.Form same)) one other =
    let less = one.of_forms same other.is in
    let more = other.of_forms form one.is in
    let e : form ≡ same = omega (arith, less, more) in ap (λ offset. Some (misuse.Form offset)) e
misuse_one views items (Some (misuse.Form form)) (Some (misuse.Mix mix)) one other =
    let less = one.of_mixes mix other.is in
    let more = other.of_forms form one.is in absurd (omega (arith, less, more))
misuse_one views items (Some (misuse.Mix mix)) (Some (misuse.Form form)) one other =
    let less = one.of_forms form other.is in
    let more = other.of_mixes mix one.is in absurd (omega (arith, less, more))
misuse_one views items (Some (misuse.Mix mix)) (Some (misuse.Mix same)) one other =
    let less = one.of_mixes same other.is in
    let more = other.of_mixes mix one.is in
    let e : mix ≡ same = omega (arith, less, more) in ap (λ offset. Some (misuse.Mix offset)) e
