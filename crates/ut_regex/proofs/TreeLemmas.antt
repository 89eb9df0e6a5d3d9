-- A program spans what its expression spans.
use Rattle.std.proofs.Common.{ℕ, zero, suc, ◌≡◌, ◌+◌, ◌-◌, ◌≤◌, ◌==◌, if◌then◌else◌, inl, inr, Bool, true, false, List, Option, Some, None, IfSome, refl, ap, sym, subst, arith}
use Rattle.std.proofs.lemmas.Bool.{eqb-true}
use Rattle.std.proofs.lemmas.Bool.Decides.{leb_tells}
use Rattle.ut_regex.specs.Tree.{Tree, leaf, line_begin, line_end, empty, group, sequence, alternative, repetition}
use Rattle.ut_regex.specs.Spans.{Copies, Spans}
use Rattle.ut_regex.specs.Inner.Program.{Core, both, many, maybe, copies, options, at_most_once, repeated, core}
use Rattle.ut_regex.proofs.Marks.{Runs, shape}

-- copies of what spans less are copies of what spans more
pub Copies-map : (One Other : ℕ → ℕ → Type 0) → ((from to : ℕ) → One from to → Other from to)
    → (count from to : ℕ) → Copies One count from to → Copies Other count from to
Copies-map One Other more zero from to h = h
Copies-map One Other more (suc count) from to (middle, a, b) =
    (middle, Copies-map One Other more count from middle a, more middle to b)

-- copies in front of copies, and their parting
Copies-append : (One : ℕ → ℕ → Type 0) (first second from middle to : ℕ) → Copies One first from middle → Copies One second middle to
    → Copies One (first + second) from to
Copies-append One first zero from middle to a b =
    let e : first + zero ≡ first = omega arith in
    rw e (subst (λ m. Copies One first from m) (sym b) a)
Copies-append One first (suc second) from middle to a (last, b, one) =
    let e : first + suc second ≡ suc (first + second) = omega arith in
    rw e (last, Copies-append One first second from middle last a b, one)

Copies-parts : (One : ℕ → ℕ → Type 0) (first second from to : ℕ) → Copies One (first + second) from to
    → (middle : ℕ) × Copies One first from middle × Copies One second middle to
Copies-parts One first zero from to h =
    let e : first + zero ≡ first = omega arith in
    (to, subst (λ n. Copies One n from to) e h, refl)
Copies-parts One first (suc second) from to h =
    let e : first + suc second ≡ suc (first + second) = omega arith in
    let k = subst (λ n. Copies One n from to) e h in
    let t = Copies-parts One first second from k.0 k.1 in
    (t.0, t.1, (k.0, t.2, k.2))

-- a part as often as bounds with a greatest number say, where it is told whether that is 1
limited : ℕ → ℕ → Core → Bool → Core
limited low high part once = if once then at_most_once low part else options (copies part low) part (high - low)

module _ (fold : Bool) (line : List ℕ) where
  -- copies that are written out
  copies_sound : (part : Core) (count from to : ℕ) → Runs fold line (copies part count) from to → Copies (Runs fold line part) count from to
  copies_sound part zero from to h = h
  copies_sound part (suc count) from to (middle, a, b) = (middle, copies_sound part count from middle a, b)

  copies_complete : (part : Core) (count from to : ℕ) → Copies (Runs fold line part) count from to → Runs fold line (copies part count) from to
  copies_complete part zero from to h = h
  copies_complete part (suc count) from to (middle, a, b) = (middle, copies_complete part count from middle a, b)

  -- a number of copies within limits
  Between : Core → ℕ → ℕ → ℕ → ℕ → Type 0
  Between part low high from to = (count : ℕ) × (low ≤ count) × (count ≤ high) × Copies (Runs fold line part) count from to

  options_sound : (part : Core) (low more from to : ℕ) → Runs fold line (options (copies part low) part more) from to → Between part low (low + more) from to
  unfolding Between
  options_sound part low zero from to h = (low, omega arith, omega arith, copies_sound part low from to h)
  options_sound part low (suc more) from to (middle, front, inl none) =
      let t = options_sound part low more from middle front in
      (t.0, t.1, omega (arith, t.2), subst (λ m. Copies (Runs fold line part) t.0 from m) (sym none) t.3)
  options_sound part low (suc more) from to (middle, front, inr one) =
      let t = options_sound part low more from middle front in
      (suc t.0, omega (arith, t.1), omega (arith, t.2), (middle, t.3, one))

  options_complete : (part : Core) (low more from to : ℕ) → Between part low (low + more) from to → Runs fold line (options (copies part low) part more) from to
  unfolding Between
  options_complete part low zero from to (count, least, most, h) =
      let e : count ≡ low = omega (arith, least, most) in
      copies_complete part low from to (subst (λ n. Copies (Runs fold line part) n from to) e h)
  options_complete part low (suc more) from to (count, least, most, h) =
      elim (leb_tells count (low + more)) [
        | inl within ↦ (to, options_complete part low more from to (count, least, within.1, h), inl refl)
        | inr beyond ↦
            let e : count ≡ suc (low + more) = omega (arith, most, beyond.1) in
            let t = subst (λ n. Copies (Runs fold line part) n from to) e h in
            (t.0, options_complete part low more from t.0 (low + more, omega arith, omega arith, t.1), inr t.2)
      ]

  -- copies without a greatest number
  open_sound : (part : Core) (low from to : ℕ) → Runs fold line (both (copies part low) (many part)) from to
      → (count : ℕ) × (low ≤ count) × Copies (Runs fold line part) count from to
  open_sound part low from to (middle, front, (more, back)) =
      (low + more, omega arith, Copies-append (Runs fold line part) low more from middle to (copies_sound part low from middle front) back)

  open_complete : (part : Core) (low count from to : ℕ) → low ≤ count → Copies (Runs fold line part) count from to
      → Runs fold line (both (copies part low) (many part)) from to
  open_complete part low count from to least h =
      let e : count ≡ low + (count - low) = omega (arith, least) in
      let t = Copies-parts (Runs fold line part) low (count - low) from to (subst (λ n. Copies (Runs fold line part) n from to) e h) in
      (t.0, copies_complete part low from t.0 t.1, (count - low, t.2))

  -- copies with a greatest number
  limited_sound : (low high : ℕ) (part : Core) → low ≤ high → (once : Bool) → (high == 1) ≡ once → (from to : ℕ) → Runs fold line (limited low high part once) from to
      → (count : ℕ) × ((low ≤ count) × (count ≤ high)) × Copies (Runs fold line part) count from to
  unfolding Between limited
  limited_sound zero high part ordered true is from to (inl none) = (0, (omega arith, omega arith), none)
  limited_sound zero high part ordered true is from to (inr one) = (1, (omega arith, omega (arith, eqb-true high 1 is)), (from, refl, one))
  limited_sound (suc low) high part ordered true is from to one =
      let high_one = eqb-true high 1 is in (1, (omega (arith, ordered, high_one), omega (arith, high_one)), (from, refl, one))
  limited_sound low high part ordered false is from to h =
      let t = options_sound part low (high - low) from to h in (t.0, (t.1, omega (arith, t.2, ordered)), t.3)

  limited_complete : (low high : ℕ) (part : Core) (once : Bool) → (high == 1) ≡ once → (from to count : ℕ)
      → (low ≤ count) × (count ≤ high) → Copies (Runs fold line part) count from to → Runs fold line (limited low high part once) from to
  unfolding Between limited
  limited_complete zero high part true is from to zero allowed h = inl h
  limited_complete zero high part true is from to (suc zero) allowed (middle, same, one) = inr (subst (λ at. Runs fold line part at to) same one)
  limited_complete zero high part true is from to (suc (suc count)) allowed h = absurd (omega (arith, allowed.1, eqb-true high 1 is))
  limited_complete (suc low) high part true is from to zero allowed h = absurd (omega (arith, allowed.0))
  limited_complete (suc low) high part true is from to (suc zero) allowed (middle, same, one) = subst (λ at. Runs fold line part at to) same one
  limited_complete (suc low) high part true is from to (suc (suc count)) allowed h = absurd (omega (arith, allowed.1, eqb-true high 1 is))
  limited_complete low high part false is from to count allowed h =
      options_complete part low (high - low) from to (count, allowed.0, omega (arith, allowed.1, allowed.0), h)

  -- a part as often as bounds say
  repeated_sound : (low : ℕ) (high : Option ℕ) (part : Core) → ((most : ℕ) → high ≡ Some most → low ≤ most) → (from to : ℕ)
      → Runs fold line (repeated high low part) from to
      → (count : ℕ) × ((low ≤ count) × IfSome high (λ most. count ≤ most)) × Copies (Runs fold line part) count from to
  unfolding limited
  repeated_sound zero None part ordered from to (count, h) = (count, (omega arith, tt), h)
  repeated_sound (suc low) None part ordered from to h =
      let t = open_sound part (suc low) from to h in (t.0, (t.1, tt), t.2)
  repeated_sound low (Some high) part ordered from to h = limited_sound low high part (ordered high refl) (high == 1) refl from to h

  repeated_complete : (low : ℕ) (high : Option ℕ) (part : Core) → (from to count : ℕ)
      → (low ≤ count) × IfSome high (λ most. count ≤ most) → Copies (Runs fold line part) count from to
      → Runs fold line (repeated high low part) from to
  unfolding limited
  repeated_complete zero None part from to count allowed h = (count, h)
  repeated_complete (suc low) None part from to count allowed h = open_complete part (suc low) count from to allowed.0 h
  repeated_complete low (Some high) part from to count allowed h = limited_complete low high part (high == 1) refl from to count allowed h

  -- the program of an expression spans exactly what the expression spans
  pub core_sound : (re : Tree) (from to : ℕ) → Runs fold line (core re) from to → Spans fold line re from to
  core_sound (leaf one) from to h = h
  core_sound line_begin from to h = h
  core_sound line_end from to h = h
  core_sound empty from to h = h
  core_sound (group part) from to h = core_sound part from to h
  core_sound (sequence first second) from to (middle, a, b) = (middle, core_sound first from middle a, core_sound second middle to b)
  core_sound (alternative first second) from to (inl a) = inl (core_sound first from to a)
  core_sound (alternative first second) from to (inr b) = inr (core_sound second from to b)
  core_sound (repetition bounds part) from to h =
      let t = repeated_sound bounds.low bounds.high (core part) bounds.ordered from to h in
      (t.0, t.1, Copies-map (Runs fold line (core part)) (Spans fold line part) (λ i j one. core_sound part i j one) t.0 from to t.2)

  pub core_complete : (re : Tree) (from to : ℕ) → Spans fold line re from to → Runs fold line (core re) from to
  core_complete (leaf one) from to h = h
  core_complete line_begin from to h = h
  core_complete line_end from to h = h
  core_complete empty from to h = h
  core_complete (group part) from to h = core_complete part from to h
  core_complete (sequence first second) from to (middle, a, b) =
      (middle, core_complete first from middle a, core_complete second middle to b)
  core_complete (alternative first second) from to (inl a) = inl (core_complete first from to a)
  core_complete (alternative first second) from to (inr b) = inr (core_complete second from to b)
  core_complete (repetition bounds part) from to (count, allowed, h) =
      repeated_complete bounds.low bounds.high (core part) from to count allowed
      (Copies-map (Spans fold line part) (Runs fold line (core part)) (λ i j one. core_complete part i j one) count from to h)

-- the program of an expression has no mark
shape-copies : (part : Core) (count : ℕ) → shape part ≡ part → shape (copies part count) ≡ copies part count
shape-copies part zero h = refl
shape-copies part (suc count) h = let a = shape-copies part count h in cc

shape-options : (front part : Core) (more : ℕ) → shape front ≡ front → shape part ≡ part → shape (options front part more) ≡ options front part more
shape-options front part zero g h = g
shape-options front part (suc more) g h = let a = shape-options front part more g h in cc

shape-limited : (low high : ℕ) (part : Core) (once : Bool) → shape part ≡ part → shape (limited low high part once) ≡ limited low high part once
unfolding limited
shape-limited zero high part true h = ap maybe h
shape-limited (suc low) high part true h = h
shape-limited low high part false h = shape-options (copies part low) part (high - low) (shape-copies part low h) h

shape-repeated : (low : ℕ) (high : Option ℕ) (part : Core) → shape part ≡ part → shape (repeated high low part) ≡ repeated high low part
unfolding limited
shape-repeated zero None part h = ap many h
shape-repeated (suc low) None part h = let a = shape-copies part low h in cc
shape-repeated low (Some high) part h = shape-limited low high part (high == 1) h

pub shape-core : (re : Tree) → shape (core re) ≡ core re
shape-core (leaf one) = refl
shape-core line_begin = refl
shape-core line_end = refl
shape-core empty = refl
shape-core (group part) = shape-core part
shape-core (sequence first second) = let a = shape-core first in let b = shape-core second in cc
shape-core (alternative first second) = let a = shape-core first in let b = shape-core second in cc
shape-core (repetition bounds part) = shape-repeated bounds.low bounds.high (core part) (shape-core part)
