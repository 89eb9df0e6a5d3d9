-- The marks stay right along the line.
use Rattle.std.proofs.Common.{ℕ, zero, suc, ◌≡◌, ◌+◌, ◌<◌, ◌≤◌, ◌⊎◌, inl, inr, Bool, true, false, ◌&&◌, ◌||◌, ◌==◌, List, length, slice_index_or, refl, ap, sym, subst, arith}
use Rattle.std.proofs.lemmas.Bool.Decides.{Decides-eqb, leb_tells}
use Rattle.ut_regex.specs.Spans.{fits, Copies}
use Rattle.ut_regex.specs.Inner.Program.{Core, point, at_begin, at_end, nothing, both, either, many, maybe}
use Rattle.ut_regex.proofs.Marks.{shape, skips, closes, passes, entering, Runs, Behind, Closed, Right}

-- tests joined by and, and by or
pub and_first : (a b : Bool) → (a && b) ≡ true → a ≡ true
and_first true b h = refl
and_first false b h = h

pub and_second : (a b : Bool) → (a && b) ≡ true → b ≡ true
and_second true b h = h
and_second false b h = absurd (cc)

pub and_both : (a b : Bool) → a ≡ true → b ≡ true → (a && b) ≡ true
and_both true b h k = k
and_both false b h k = absurd (cc)

pub or_cases : (a b : Bool) → (a || b) ≡ true → (a ≡ true) ⊎ (b ≡ true)
or_cases true b h = inl refl
or_cases false b h = inr h

pub or_first : (a b : Bool) → a ≡ true → (a || b) ≡ true
or_first true b h = refl
or_first false b h = absurd (cc)

pub or_second : (a b : Bool) → b ≡ true → (a || b) ≡ true
or_second true b h = refl
or_second false b h = h

-- a place is before another, or is that one
before_or_at : (from to : ℕ) → from ≤ to → (from < to) ⊎ (from ≡ to)
before_or_at from to h = elim (leb_tells to from) [ inl k ↦ inr (omega (arith, k.1)) | inr k ↦ inl k.1 ]

-- copies end no earlier than they begin, where one does
forward_copies : (One : ℕ → ℕ → Type 0) → ((from to : ℕ) → One from to → from ≤ to)
    → (count from to : ℕ) → Copies One count from to → from ≤ to
forward_copies One each zero from to h = omega (arith, h)
forward_copies One each (suc count) from to (middle, a, b) =
    omega (arith, forward_copies One each count from middle a, each middle to b)

-- a sweep leaves the shape as it is
pub shape-entering : (begins ends fold : Bool) (byte : ℕ) (entered : Bool) (core : Core)
    → shape (entering begins ends fold byte entered core) ≡ shape core
shape-entering begins ends fold byte entered (point one mark) = refl
shape-entering begins ends fold byte entered at_begin = refl
shape-entering begins ends fold byte entered at_end = refl
shape-entering begins ends fold byte entered nothing = refl
shape-entering begins ends fold byte entered (both first second) =
    let a = shape-entering begins ends fold byte entered first in
    let b = shape-entering begins ends fold byte (passes begins ends entered first) second in
    cc
shape-entering begins ends fold byte entered (either first second) =
    let a = shape-entering begins ends fold byte entered first in
    let b = shape-entering begins ends fold byte entered second in
    cc
shape-entering begins ends fold byte entered (many part) =
    ap many (shape-entering begins ends fold byte (closes begins ends part || entered) part)
shape-entering begins ends fold byte entered (maybe part) = ap maybe (shape-entering begins ends fold byte entered part)

pub shape-shape : (core : Core) → shape (shape core) ≡ shape core
shape-shape (point one mark) = refl
shape-shape at_begin = refl
shape-shape at_end = refl
shape-shape nothing = refl
shape-shape (both first second) = let a = shape-shape first in let b = shape-shape second in cc
shape-shape (either first second) = let a = shape-shape first in let b = shape-shape second in cc
shape-shape (many part) = ap many (shape-shape part)
shape-shape (maybe part) = ap maybe (shape-shape part)

module _ (fold : Bool) (line : List ℕ) where
  -- what is spanned ends no earlier than it begins
  pub forward : (core : Core) (from to : ℕ) → Runs fold line (shape core) from to → from ≤ to
  forward (point one mark) from to h = omega (arith, h.1)
  forward at_begin from to h = omega (arith, h.1)
  forward at_end from to h = omega (arith, h.1)
  forward nothing from to h = omega (arith, h)
  forward (both first second) from to (middle, a, b) = omega (arith, forward first from middle a, forward second middle to b)
  forward (either first second) from to (inl a) = forward first from to a
  forward (either first second) from to (inr b) = forward second from to b
  forward (many part) from to (count, h) =
      forward_copies (Runs fold line (shape part)) (λ i j one. forward part i j one) count from to h
  forward (maybe part) from to (inl h) = omega (arith, h)
  forward (maybe part) from to (inr h) = forward part from to h

  -- a place of the line, with the tests whether it is the line's beginning or end
  module _ (place : ℕ) where
    abbrev begins : Bool
    begins = place == 0

    abbrev ends : Bool
    ends = place == length line

    -- it skips exactly where it spans nothing at the place
    pub skips_sound : (core : Core) → skips begins ends core ≡ true → Runs fold line (shape core) place place
    skips_sound (point one mark) h = absurd (cc)
    skips_sound at_begin h = ((Decides-eqb place 0).0 h, refl)
    skips_sound at_end h = ((Decides-eqb place (length line)).0 h, refl)
    skips_sound nothing h = refl
    skips_sound (both first second) h =
        (place, skips_sound first (and_first _ _ h), skips_sound second (and_second (skips begins ends first) _ h))
    skips_sound (either first second) h =
        elim (or_cases (skips begins ends first) _ h) [ inl a ↦ inl (skips_sound first a) | inr b ↦ inr (skips_sound second b) ]
    skips_sound (many part) h = (0, refl)
    skips_sound (maybe part) h = inl refl

    pub skips_complete : (core : Core) → Runs fold line (shape core) place place → skips begins ends core ≡ true
    skips_complete (point one mark) h = absurd (omega (arith, h.1))
    skips_complete at_begin h = (Decides-eqb place 0).1 h.0
    skips_complete at_end h = (Decides-eqb place (length line)).1 h.0
    skips_complete nothing h = refl
    skips_complete (both first second) (middle, a, b) =
        let e : middle ≡ place = omega (arith, forward first place middle a, forward second middle place b) in
        and_both _ _ (skips_complete first (subst (λ m. Runs fold line (shape first) place m) e a))
        (skips_complete second (subst (λ m. Runs fold line (shape second) m place) e b))
    skips_complete (either first second) (inl a) = or_first _ _ (skips_complete first a)
    skips_complete (either first second) (inr b) = or_second (skips begins ends first) _ (skips_complete second b)
    skips_complete (many part) h = refl
    skips_complete (maybe part) h = refl

    -- it closes exactly where it was entered at an earlier place and spans up to this one
    pub closes_sound : (core : Core) (Entered : ℕ → Type 0) → Right fold line core Entered place
        → closes begins ends core ≡ true → Closed fold line core Entered place
    closes_sound (point one mark) Entered right h = right.0 h
    closes_sound at_begin Entered right h = absurd (cc)
    closes_sound at_end Entered right h = absurd (cc)
    closes_sound nothing Entered right h = absurd (cc)
    closes_sound (both first second) Entered right h =
        elim (or_cases (closes begins ends second) _ h) [
          | inl b ↦
              let t = closes_sound second (Behind fold line first Entered) right.1 b in
              let k = t.2 in
              (k.0, omega (arith, t.1, forward first k.0 t.0 k.2), k.1, (t.0, k.2, t.3))
          | inr ab ↦
              let t = closes_sound first Entered right.0 (and_second (skips begins ends second) _ ab) in
              (t.0, t.1, t.2, (place, t.3, skips_sound second (and_first _ _ ab)))
        ]
    closes_sound (either first second) Entered right h =
        elim (or_cases (closes begins ends first) _ h) [
          | inl a ↦ let t = closes_sound first Entered right.0 a in (t.0, t.1, t.2, inl t.3)
          | inr b ↦ let t = closes_sound second Entered right.1 b in (t.0, t.1, t.2, inr t.3)
        ]
    closes_sound (many part) Entered right h =
        let t = closes_sound part (Behind fold line (many part) Entered) right h in
        let k = t.2 in
        (k.0, omega (arith, t.1, forward (many part) k.0 t.0 k.2), k.1, (suc k.2.0, (t.0, k.2.1, t.3)))
    closes_sound (maybe part) Entered right h = let t = closes_sound part Entered right h in (t.0, t.1, t.2, inr t.3)

    pub closes_complete : (core : Core) (Entered : ℕ → Type 0) → Right fold line core Entered place
        → Closed fold line core Entered place → closes begins ends core ≡ true
    closes_complete (point one mark) Entered right h = right.1 h
    closes_complete at_begin Entered right (from, earlier, entered, run) = absurd (omega (arith, run.1))
    closes_complete at_end Entered right (from, earlier, entered, run) = absurd (omega (arith, run.1))
    closes_complete nothing Entered right (from, earlier, entered, run) = absurd (omega (arith, run))
    closes_complete (both first second) Entered right (from, earlier, entered, run) =
        elim (before_or_at run.0 place (forward second run.0 place run.2)) [
          | inl before ↦
              or_first _ _ (closes_complete second (Behind fold line first Entered) right.1 (run.0, before, (from, entered, run.1), run.2))
          | inr at ↦
              or_second (closes begins ends second) _ (and_both _ _
              (skips_complete second (subst (λ m. Runs fold line (shape second) m place) at run.2))
              (closes_complete first Entered right.0
              (from, earlier, entered, subst (λ m. Runs fold line (shape first) from m) at run.1)))
        ]
    closes_complete (either first second) Entered right (from, earlier, entered, inl a) =
        or_first _ _ (closes_complete first Entered right.0 (from, earlier, entered, a))
    closes_complete (either first second) Entered right (from, earlier, entered, inr b) =
        or_second (closes begins ends first) _ (closes_complete second Entered right.1 (from, earlier, entered, b))
    closes_complete (many part) Entered right (from, earlier, entered, (count, run)) =
        closes_copies part Entered right (closes_complete part (Behind fold line (many part) Entered) right) from count earlier entered run
      where
        closes_copies : (part : Core) (Entered : ℕ → Type 0) → Right fold line (many part) Entered place
            → (Closed fold line part (Behind fold line (many part) Entered) place → closes begins ends part ≡ true)
            → (from count : ℕ) → from < place → Entered from → Copies (Runs fold line (shape part)) count from place
            → closes begins ends part ≡ true
        closes_copies part Entered right last from zero earlier entered run = absurd (omega (arith, run))
        closes_copies part Entered right last from (suc count) earlier entered (middle, run, one) =
            elim (before_or_at middle place (forward part middle place one)) [
              | inl before ↦ last (middle, before, (from, entered, (count, run)), one)
              | inr at ↦ closes_copies part Entered right last from count earlier entered
                  (subst (λ m. Copies (Runs fold line (shape part)) count from m) at run)
            ]
    closes_complete (maybe part) Entered right (from, earlier, entered, inl h) = absurd (omega (arith, h))
    closes_complete (maybe part) Entered right (from, earlier, entered, inr h) =
        closes_complete part Entered right (from, earlier, entered, h)

    -- the way leads on exactly where it was entered here or earlier and spans up to this place
    pub passes_sound : (core : Core) (Entered : ℕ → Type 0) (entered : Bool) → Right fold line core Entered place
        → (entered ≡ true → Entered place) → passes begins ends entered core ≡ true → Behind fold line core Entered place
    passes_sound core Entered entered right here h =
        elim (or_cases (closes begins ends core) _ h) [
          | inl a ↦ let t = closes_sound core Entered right a in (t.0, t.2, t.3)
          | inr b ↦ (place, here (and_second (skips begins ends core) _ b), skips_sound core (and_first _ _ b))
        ]

    pub passes_complete : (core : Core) (Entered : ℕ → Type 0) (entered : Bool) → Right fold line core Entered place
        → (Entered place → entered ≡ true) → Behind fold line core Entered place → passes begins ends entered core ≡ true
    passes_complete core Entered entered right here (from, came, run) =
        elim (before_or_at from place (forward core from place run)) [
          | inl before ↦ or_first _ _ (closes_complete core Entered right (from, before, came, run))
          | inr at ↦
              or_second (closes begins ends core) _ (and_both _ _
              (skips_complete core (subst (λ m. Runs fold line (shape core) m place) at run))
              (here (subst Entered at came)))
        ]

    -- a sweep over the byte at the place makes the marks right for the next one
    pub entering_right : (core : Core) (Entered : ℕ → Type 0) (entered : Bool) → place < length line
        → Right fold line core Entered place → (entered ≡ true → Entered place) → (Entered place → entered ≡ true)
        → Right fold line (entering begins ends fold (slice_index_or line place 0) entered core) Entered (place + 1)
    entering_right (point one mark) Entered entered within right sound complete = (
      λ h. (place, omega arith, sound (and_first _ _ h), (within, refl, and_second entered _ h)),
      λ (from, earlier, came, run).
          let e : from ≡ place = omega (arith, run.1) in
          and_both _ _ (complete (subst Entered e came)) (subst (λ p. fits fold one (slice_index_or line p 0) ≡ true) e run.2),
    )
    entering_right at_begin Entered entered within right sound complete = tt
    entering_right at_end Entered entered within right sound complete = tt
    entering_right nothing Entered entered within right sound complete = tt
    entering_right (both first second) Entered entered within right sound complete = (
      entering_right first Entered entered within right.0 sound complete,
      let P : Core → Type 0 = λ form.
          Right fold line (entering begins ends fold (slice_index_or line place 0) (passes begins ends entered first) second)
          (λ to. (from : ℕ) × Entered from × Runs fold line form from to) (place + 1) in
          subst P (sym (shape-entering begins ends fold (slice_index_or line place 0) entered first))
          (entering_right second (Behind fold line first Entered) (passes begins ends entered first) within right.1
          (passes_sound first Entered entered right.0 sound) (passes_complete first Entered entered right.0 complete)),
    )
    entering_right (either first second) Entered entered within right sound complete = (
      entering_right first Entered entered within right.0 sound complete,
      entering_right second Entered entered within right.1 sound complete,
    )
    entering_right (many part) Entered entered within right sound complete =
        let P : Core → Type 0 = λ form.
        Right fold line (entering begins ends fold (slice_index_or line place 0) (closes begins ends part || entered) part)
        (λ to. (from : ℕ) × Entered from × Runs fold line (many form) from to) (place + 1) in
        subst P (sym (shape-entering begins ends fold (slice_index_or line place 0) (closes begins ends part || entered) part))
        (entering_right part (Behind fold line (many part) Entered) (closes begins ends part || entered) within right
        (passes_sound (many part) Entered entered right sound) (passes_complete (many part) Entered entered right complete))
    entering_right (maybe part) Entered entered within right sound complete =
        entering_right part Entered entered within right sound complete

  -- before a byte is read no mark is set, and that is right
  pub shape_right : (core : Core) (Entered : ℕ → Type 0) → Right fold line (shape core) Entered 0
  shape_right (point one mark) Entered = (λ h. absurd (cc), λ (from, earlier, came, run). absurd (omega arith))
  shape_right at_begin Entered = tt
  shape_right at_end Entered = tt
  shape_right nothing Entered = tt
  shape_right (both first second) Entered = (shape_right first Entered, shape_right second (Behind fold line (shape first) Entered))
  shape_right (either first second) Entered = (shape_right first Entered, shape_right second Entered)
  shape_right (many part) Entered = shape_right part (Behind fold line (many (shape part)) Entered)
  shape_right (maybe part) Entered = shape_right part Entered
