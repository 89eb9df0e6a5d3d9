-- A table's answer is the machine's.
use Rattle.std.proofs.Common.{ℕ, ◌≡◌, ◌+◌, ◌*◌, ◌<◌, ◌≤◌, ◌↔◌, inl, inr, Bool, true, false, not, cond, if◌then◌else◌, ◌&&◌, ◌||◌, ◌==◌, List, [], ◌∷◌, ◌++◌, length, slice_index_or, refl, ap, ap₂, sym, ◌∙◌, subst, arith, append_assoc, append-nil, length-append, suc, Fits, w8}
use Rattle.std.proofs.Math.Seq.{get_or-append_seam}
use Rattle.std.proofs.lemmas.Bool.{ne_eqb, not-true}
use Rattle.std.proofs.lemmas.Bool.Decides.{Decides-eqb}
use Rattle.ut_regex.specs.declared.program.Op.{Op}
use Rattle.ut_regex.specs.declared.table.TheConstants.{FOUND}
use Rattle.ut_regex.specs.Tree.{Tree}
use Rattle.ut_regex.specs.Spans.{Has}
use Rattle.ut_regex.specs.Inner.Program.{Core, point, at_begin, at_end, nothing, both, either, many, maybe, core, steps}
use Rattle.ut_regex.specs.Inner.Seeks.{Seeks, swept, leads_on, marked}
use Rattle.ut_regex.specs.Answers.{answered, is_had}
use Rattle.ut_regex.specs.Inner.Tables.{State, first_state, state_at, after, leads_at, runs, IsTable}
use Rattle.ut_regex.specs.Inner.Made.{IsMade}
use Rattle.ut_regex.specs.declared.machine.Machine.{Machine}
use Rattle.ut_regex.specs.declared.table.Table.{Table}
use Rattle.ut_regex.proofs.Marks.{skips, closes, passes}
use Rattle.ut_regex.proofs.CoreLemmas.{or_cases, or_first, or_second, and_first, and_second, and_both}
use Rattle.ut_regex.proofs.ScanLemmas.{Scanned, entry, scan_start, scanned_on, has_part, has_last, led_is, leads_sound}

-- what leads on inside the line leads on at its end
skips_end : (begins : Bool) (program : Core) → skips begins false program ≡ true → skips begins true program ≡ true
skips_end begins (point one mark) h = h
skips_end begins at_begin h = h
skips_end begins at_end h = refl
skips_end begins nothing h = h
skips_end begins (both first second) h =
    and_both _ _ (skips_end begins first (and_first _ _ h)) (skips_end begins second (and_second (skips begins false first) _ h))
skips_end begins (either first second) h = elim (or_cases (skips begins false first) _ h) [
  | inl a ↦ or_first _ _ (skips_end begins first a)
  | inr b ↦ or_second (skips begins true first) _ (skips_end begins second b)
]
skips_end begins (many part) h = h
skips_end begins (maybe part) h = h

closes_end : (begins : Bool) (program : Core) → closes begins false program ≡ true → closes begins true program ≡ true
closes_end begins (point one mark) h = h
closes_end begins at_begin h = h
closes_end begins at_end h = h
closes_end begins nothing h = h
closes_end begins (both first second) h = elim (or_cases (closes begins false second) _ h) [
  | inl b ↦ or_first _ _ (closes_end begins second b)
  | inr a ↦ or_second (closes begins true second) _
      (and_both _ _ (skips_end begins second (and_first _ _ a)) (closes_end begins first (and_second (skips begins false second) _ a)))
]
closes_end begins (either first second) h = elim (or_cases (closes begins false first) _ h) [
  | inl a ↦ or_first _ _ (closes_end begins first a)
  | inr b ↦ or_second (closes begins true first) _ (closes_end begins second b)
]
closes_end begins (many part) h = closes_end begins part h
closes_end begins (maybe part) h = closes_end begins part h

passes_end : (begins ends entered : Bool) (program : Core) → passes begins false entered program ≡ true → passes begins ends entered program ≡ true
passes_end begins false entered program h = h
passes_end begins true entered program h = elim (or_cases (closes begins false program) _ h) [
  | inl a ↦ or_first _ _ (closes_end begins program a)
  | inr b ↦ or_second (closes begins true program) _
      (and_both _ _ (skips_end begins program (and_first _ _ b)) (and_second (skips begins false program) _ b))
]

-- an expression that ends in a line is had by it
has_led : (fold whole : Bool) (re : Tree) (line bits : List _) (place : ℕ) (scanned : Scanned fold whole re line bits place)
    → whole ≡ false → place ≤ length line → passes (place == 0) false (entry whole place) scanned.program ≡ true → Has fold whole line re
has_led fold true re line bits place scanned part within led = absurd (cc)
has_led fold false re line bits place scanned part within led =
    has_part fold re line bits place scanned within
    (leads_sound fold false re line bits place scanned (place == length line) refl
    (passes_end (place == 0) (place == length line) (entry false place) scanned.program led))

-- each byte is one
abbrev pub AreBytes : List ℕ → Type 0
AreBytes [] = Unit {0}
AreBytes (byte ∷ rest) = (byte < 256) × AreBytes rest

module _ (fold whole : Bool) (re : Tree) (line : List ℕ) (ops : List Op) (program : ops ≡ steps (core re)) where
  -- the marks behind a byte
  scanned_after : (s : State) (front rest : List ℕ) (byte : ℕ) → line ≡ front ++ byte ∷ rest → Scanned fold whole re line s.bits (length front)
      → s.begins ≡ (length front == 0) → (whole ≡ false → leads_at ops whole false s ≡ false)
      → Scanned fold whole re line (after ops fold whole s byte).bits (length front + 1)
  scanned_after s front rest byte cut scanned begins quiet =
      let place = length front in
      let within : place < length line = omega (arith, ap length cut, length-append front (byte ∷ rest)) in
      let here : slice_index_or line place 0 ≡ byte = ap (λ all. slice_index_or all place 0) cut ∙ get_or-append_seam front byte rest 0 in
      let there : marked fold (slice_index_or line place 0) ((place == 0) || not whole) ops (swept (place == 0) false ops s.bits).kept
      ≡ (after ops fold whole s byte).bits =
      ap₂ (λ b begins. marked fold b (begins || not whole) ops (swept begins false ops s.bits).kept) here (sym begins) in
      subst (λ bits. Scanned fold whole re line bits (place + 1)) there
      (scanned_on fold whole re line s.bits place scanned ops fold whole
      (leads_on ((place == 0) || not whole) (swept (place == 0) false ops s.bits)) (swept (place == 0) false ops s.bits).kept
      (marked fold (slice_index_or line place 0) ((place == 0) || not whole) ops (swept (place == 0) false ops s.bits).kept)
      program refl refl within refl
      (λ part. subst (λ b. leads_on (b || not whole) (swept b false ops s.bits) ≡ false) begins (quiet part)) refl refl)

  -- where the expression ends in a state the line has it
  led_has : (s : State) (place : ℕ) (scanned : Scanned fold whole re line s.bits place) → s.begins ≡ (place == 0) → whole ≡ false → place ≤ length line
      → leads_at ops whole false s ≡ true → Has fold whole line re
  led_has s place scanned begins part within led =
      has_led fold whole re line s.bits place scanned part within
      (sym (led_is fold whole re line s.bits place scanned ops whole false (leads_at ops whole false s) program refl
      (ap (λ b. leads_on (b || not whole) (swept b false ops s.bits)) begins)) ∙ led)

  -- the answer of a machine for what is left of the line, from a state on
  answered_right : (rest front : List ℕ) (s : State) → line ≡ front ++ rest → Scanned fold whole re line s.bits (length front)
      → s.begins ≡ (length front == 0) → (answered ops fold whole s rest ≡ true) ↔ Has fold whole line re
  answered_right [] front s cut scanned begins =
      let at : length front ≡ length line = sym (ap length (cut ∙ append-nil front)) in
      has_last fold whole re line s.bits (length front) scanned at ops whole s.begins (leads_at ops whole true s) program refl
      (begins ∙ ap (λ n. n == 0) at) refl
  answered_right (byte ∷ rest) front s cut scanned begins =
      by_led (not whole && leads_at ops whole false s) refl (λ s scanned begins. answered_right rest (front ++ byte ∷ []) s (cut ∙ sym (append_assoc front (byte ∷ []) rest)) scanned begins)
    where
      by_led : (led : Bool) → (not whole && leads_at ops whole false s) ≡ led
          → ((s : State) → Scanned fold whole re line s.bits (length (front ++ byte ∷ [])) → s.begins ≡ (length (front ++ byte ∷ []) == 0)
          → (answered ops fold whole s rest ≡ true) ↔ Has fold whole line re)
          → ((if led then true else answered ops fold whole (after ops fold whole s byte) rest) ≡ true) ↔ Has fold whole line re
      by_led true is onward =
          let within : length front ≤ length line = omega (arith, ap length cut, length-append front (byte ∷ rest)) in
          let part : whole ≡ false = not-true whole (and_first (not whole) _ is) in
          (λ _. led_has s (length front) scanned begins part within (and_second (not whole) _ is), λ _. refl)
      by_led false is onward =
          let later : false ≡ (length front + 1 == 0) = sym (ne_eqb (length front + 1) 0 (λ h. omega (arith, h))) in
          let long : length (front ++ byte ∷ []) ≡ length front + 1 = length-append front (byte ∷ []) in
          onward (after ops fold whole s byte)
          (subst (λ n. Scanned fold whole re line (after ops fold whole s byte).bits n) (sym long)
          (scanned_after s front rest byte cut scanned begins (λ part. sym (ap (λ w. not w && leads_at ops whole false s) part) ∙ is)))
          (later ∙ ap (λ n. n == 0) (sym long))

-- the answer of an expression's machine is whether the line has the expression
pub had-has : (fold whole : Bool) (re : Tree) (line : List ℕ) → (is_had fold whole re line ≡ true) ↔ Has fold whole line re
had-has fold whole re line = answered_right fold whole re line (steps (core re)) refl line [] first_state refl (scan_start fold whole re line) refl

module _ (fold whole : Bool) (re : Tree) (line : List ℕ) (ops : List Op) (program : ops ≡ steps (core re))
    (states : List State) (next : List ℕ) (ends : List Bool) (table : IsTable ops fold whole states next ends) where
  pub runs_right : (rest front : List ℕ) (state : ℕ) → AreBytes rest → line ≡ front ++ rest → state < length states
      → Scanned fold whole re line (state_at states state).bits (length front) → (state_at states state).begins ≡ (length front == 0)
      → (whole ≡ false → leads_at ops whole false (state_at states state) ≡ false)
      → (runs next ends state rest ≡ true) ↔ Has fold whole line re
  runs_right [] front state bytes cut known scanned begins quiet =
      let at : length front ≡ length line = sym (ap length (cut ∙ append-nil front)) in
      let s = state_at states state in
      has_last fold whole re line s.bits (length front) scanned at ops whole s.begins (slice_index_or ends state true) program refl
      (begins ∙ ap (λ n. n == 0) at) (table.last state known)
  runs_right (byte ∷ rest) front state (small, bytes) cut known scanned begins quiet =
      let s = state_at states state in
      let e = slice_index_or next (256 * state + byte) FOUND in
      let target = after ops fold whole s byte in
      let within : 256 * state + byte < length next = omega (arith, table.full, known, small) in
      let there = scanned_after fold whole re line ops program s front rest byte cut scanned begins quiet in
      let later : target.begins ≡ (length front + 1 == 0) = sym (ne_eqb (length front + 1) 0 (λ h. omega (arith, h))) in
      let whole_line : line ≡ (front ++ byte ∷ []) ++ rest = cut ∙ sym (append_assoc front (byte ∷ []) rest) in
      let long : length (front ++ byte ∷ []) ≡ length front + 1 = length-append front (byte ∷ []) in
      let place_within : length front + 1 ≤ length line = omega (arith, ap length cut, length-append front (byte ∷ rest)) in
      elim (table.entries state byte small within) [
        | inl found ↦
            let answer : runs next ends state (byte ∷ rest) ≡ true =
            ap (λ b. cond b true (runs next ends e rest)) ((Decides-eqb e FOUND).1 found.0) in
            (λ h. led_has fold whole re line ops program target (length front + 1) there later found.1 place_within found.2, λ h. answer)
        | inr goes ↦
            let answer : runs next ends state (byte ∷ rest) ≡ runs next ends e rest =
            ap (λ b. cond b true (runs next ends e rest)) (ne_eqb e FOUND (λ h. omega (arith, h, goes.0))) in
            let r = runs_right rest (front ++ byte ∷ []) e bytes whole_line goes.1
            (subst (λ n. Scanned fold whole re line (state_at states e).bits n) (sym long)
            (subst (λ t. Scanned fold whole re line t.bits (length front + 1)) (sym goes.2) there))
            (ap (λ t. t.begins) goes.2 ∙ later ∙ ap (λ n. n == 0) (sym long))
            (λ part. ap (λ t. leads_at ops whole false t) goes.2 ∙ goes.3 part) in
            (λ h. r.0 (sym answer ∙ h), λ h. answer ∙ r.1 h)
      ]

  -- a table's answer for a line is whether the line has the expression
  pub table_has : AreBytes line → (runs next ends 0 line ≡ true) ↔ Has fold whole line re
  table_has bytes =
      runs_right line [] 0 bytes refl table.some
      (subst (λ s. Scanned fold whole re line s.bits 0) (sym table.first) (scan_start fold whole re line))
      (ap (λ s. s.begins) table.first)
      (λ part. ap (λ s. leads_at ops whole false s) table.first ∙ table.quiet part)

-- a text of bytes
pub are_bytes : (line : List ℕ) → ((place : ℕ) → Fits w8 (slice_index_or line place 0)) → AreBytes line
are_bytes [] fits = tt
are_bytes (byte ∷ rest) fits = (let first = fits 0 in omega arith, are_bytes rest (λ place. fits (suc place)))

-- the table of a machine that seeks an expression answers for it
pub made_has : (machine : Machine) (fold whole : Bool) (re : Tree) (line : List ℕ) (table : Table) → Seeks machine fold whole re → AreBytes line
    → IsMade machine.steps.items machine.fold machine.whole table → (runs table.next.items table.ends.items 0 line ≡ true) ↔ Has fold whole line re
made_has machine fold whole re line table seeks bytes made =
    let there : IsMade machine.steps.items fold whole table =
    subst (λ w. IsMade machine.steps.items fold w table) seeks.is_whole (subst (λ f. IsMade machine.steps.items f machine.whole table) seeks.folds made) in
    table_has fold whole re line machine.steps.items seeks.program there.0 table.next.items table.ends.items there.1 bytes
