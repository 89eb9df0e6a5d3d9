-- The sweeps over the steps of a program compute its marks.
use Rattle.std.proofs.Common.{ℕ, ◌≡◌, Bool, true, false, ◌||◌, List, [], ◌∷◌, ◌++◌, reverse, refl, ap, sym, ◌∙◌, append_assoc}
use Rattle.std.proofs.lemmas.List.{reverse-append}
use Rattle.ut_regex.specs.declared.program.Op.{Op}
use Rattle.ut_regex.specs.declared.program.Op.TheVariants as op
use Rattle.ut_regex.specs.Inner.Program.{Core, point, at_begin, at_end, nothing, both, either, many, maybe, steps}
use Rattle.ut_regex.specs.Inner.Sweeps.{top, below, risen, sunk}
use Rattle.ut_regex.proofs.Marks.{shape, marks, skips, closes, passes, entering}

-- the stack begins with the marks of the program. Behind its end every bit is false
abbrev pub Holds : Core → List Bool → List Bool → Type 0
Holds (point one mark) bits rest = (top bits ≡ mark) × (below bits ≡ rest)
Holds at_begin bits rest = bits ≡ rest
Holds at_end bits rest = bits ≡ rest
Holds nothing bits rest = bits ≡ rest
Holds (both first second) bits rest = (middle : List Bool) × Holds first bits middle × Holds second middle rest
Holds (either first second) bits rest = (middle : List Bool) × Holds first bits middle × Holds second middle rest
Holds (many part) bits rest = Holds part bits rest
Holds (maybe part) bits rest = Holds part bits rest

pub Holds-marks : (core : Core) (rest : List Bool) → Holds core (marks core ++ rest) rest
Holds-marks (point one mark) rest = (refl, refl)
Holds-marks at_begin rest = refl
Holds-marks at_end rest = refl
Holds-marks nothing rest = refl
Holds-marks (both first second) rest =
    (marks second ++ rest, rw append_assoc (Holds-marks first (marks second ++ rest)), Holds-marks second rest)
Holds-marks (either first second) rest =
    (marks second ++ rest, rw append_assoc (Holds-marks first (marks second ++ rest)), Holds-marks second rest)
Holds-marks (many part) rest = Holds-marks part rest
Holds-marks (maybe part) rest = Holds-marks part rest

pub Holds-shape : (core : Core) → Holds (shape core) [] []
Holds-shape (point one mark) = (refl, refl)
Holds-shape at_begin = refl
Holds-shape at_end = refl
Holds-shape nothing = refl
Holds-shape (both first second) = ([], Holds-shape first, Holds-shape second)
Holds-shape (either first second) = ([], Holds-shape first, Holds-shape second)
Holds-shape (many part) = Holds-shape part
Holds-shape (maybe part) = Holds-shape part

-- what the sweep up keeps for the way back
abbrev pub kept : Bool → Bool → Core → List Bool
kept begins ends (point one mark) = []
kept begins ends at_begin = []
kept begins ends at_end = []
kept begins ends nothing = []
kept begins ends (both first second) =
    skips begins ends first ∷ closes begins ends first ∷ (kept begins ends second ++ kept begins ends first)
kept begins ends (either first second) = kept begins ends second ++ kept begins ends first
kept begins ends (many part) = closes begins ends part ∷ kept begins ends part
kept begins ends (maybe part) = kept begins ends part

pub risen-steps : (begins ends : Bool) (core : Core) (more : List Op) (values bits rest before : List Bool) → Holds core bits rest
    → risen begins ends (steps core ++ more) (record { values = values; marks = bits; kept = before })
    ≡ risen begins ends more (record {
      values = skips begins ends core ∷ closes begins ends core ∷ values;
      marks = rest;
      kept = kept begins ends core ++ before;
    })
risen-steps begins ends (point one mark) more values bits rest before h =
    let a = h.0 in let b = h.1 in
    ap (λ mark. risen begins ends more (record { values = false ∷ mark ∷ values; marks = below bits; kept = before })) a
    ∙ ap (λ left. risen begins ends more (record { values = false ∷ mark ∷ values; marks = left; kept = before })) b
risen-steps begins ends at_begin more values bits rest before h =
    ap (λ left. risen begins ends more (record { values = begins ∷ false ∷ values; marks = left; kept = before })) h
risen-steps begins ends at_end more values bits rest before h =
    ap (λ left. risen begins ends more (record { values = ends ∷ false ∷ values; marks = left; kept = before })) h
risen-steps begins ends nothing more values bits rest before h =
    ap (λ left. risen begins ends more (record { values = true ∷ false ∷ values; marks = left; kept = before })) h
risen-steps begins ends (both first second) more values bits rest before (middle, a, b) =
    let order : (steps first ++ steps second ++ op.Both ∷ []) ++ more ≡ steps first ++ (steps second ++ (op.Both ∷ more)) = simp append_assoc in
    ap (λ all. risen begins ends all (record { values = values; marks = bits; kept = before })) order
    ∙ risen-steps begins ends first (steps second ++ (op.Both ∷ more)) values bits middle before a
    ∙ risen-steps begins ends second (op.Both ∷ more) (skips begins ends first ∷ closes begins ends first ∷ values) middle rest
    (kept begins ends first ++ before) b
    ∙ ap (λ all. risen begins ends more (record {
      values = skips begins ends (both first second) ∷ closes begins ends (both first second) ∷ values;
      marks = rest;
      kept = skips begins ends first ∷ closes begins ends first ∷ all;
    }))
    (sym (append_assoc (kept begins ends second) (kept begins ends first) before))
risen-steps begins ends (either first second) more values bits rest before (middle, a, b) =
    let order : (steps first ++ steps second ++ op.Either ∷ []) ++ more ≡ steps first ++ (steps second ++ (op.Either ∷ more)) = simp append_assoc in
    ap (λ all. risen begins ends all (record { values = values; marks = bits; kept = before })) order
    ∙ risen-steps begins ends first (steps second ++ (op.Either ∷ more)) values bits middle before a
    ∙ risen-steps begins ends second (op.Either ∷ more) (skips begins ends first ∷ closes begins ends first ∷ values) middle rest
    (kept begins ends first ++ before) b
    ∙ ap (λ all. risen begins ends more (record {
      values = skips begins ends (either first second) ∷ closes begins ends (either first second) ∷ values;
      marks = rest;
      kept = all;
    }))
    (sym (append_assoc (kept begins ends second) (kept begins ends first) before))
risen-steps begins ends (many part) more values bits rest before h =
    let order : (steps part ++ op.Many ∷ []) ++ more ≡ steps part ++ (op.Many ∷ more) = simp append_assoc in
    ap (λ all. risen begins ends all (record { values = values; marks = bits; kept = before })) order
    ∙ risen-steps begins ends part (op.Many ∷ more) values bits rest before h
risen-steps begins ends (maybe part) more values bits rest before h =
    let order : (steps part ++ op.Maybe ∷ []) ++ more ≡ steps part ++ (op.Maybe ∷ more) = simp append_assoc in
    ap (λ all. risen begins ends all (record { values = values; marks = bits; kept = before })) order
    ∙ risen-steps begins ends part (op.Maybe ∷ more) values bits rest before h

-- the steps of a program, the last one first
abbrev pub back : Core → List Op
back (point one mark) = op.Point one ∷ []
back at_begin = op.Begin ∷ []
back at_end = op.End ∷ []
back nothing = op.Empty ∷ []
back (both first second) = op.Both ∷ (back second ++ back first)
back (either first second) = op.Either ∷ (back second ++ back first)
back (many part) = op.Many ∷ back part
back (maybe part) = op.Maybe ∷ back part

pub reverse-steps : (core : Core) → reverse (steps core) ≡ back core
reverse-steps (point one mark) = refl
reverse-steps at_begin = refl
reverse-steps at_end = refl
reverse-steps nothing = refl
reverse-steps (both first second) =
    reverse-append (steps first ++ steps second) (op.Both ∷ [])
    ∙ ap (λ all. op.Both ∷ all) (reverse-append (steps first) (steps second)
    ∙ ap (λ all. all ++ reverse (steps first)) (reverse-steps second)
    ∙ ap (λ all. back second ++ all) (reverse-steps first))
reverse-steps (either first second) =
    reverse-append (steps first ++ steps second) (op.Either ∷ [])
    ∙ ap (λ all. op.Either ∷ all) (reverse-append (steps first) (steps second)
    ∙ ap (λ all. all ++ reverse (steps first)) (reverse-steps second)
    ∙ ap (λ all. back second ++ all) (reverse-steps first))
reverse-steps (many part) = reverse-append (steps part) (op.Many ∷ []) ∙ ap (λ all. op.Many ∷ all) (reverse-steps part)
reverse-steps (maybe part) = reverse-append (steps part) (op.Maybe ∷ []) ∙ ap (λ all. op.Maybe ∷ all) (reverse-steps part)

pub sunk-back : (begins ends fold : Bool) (byte : ℕ) (entered : Bool) (core : Core) (more : List Op) (entries before bits : List Bool)
    → sunk fold byte (back core ++ more) (record { entries = entered ∷ entries; kept = kept begins ends core ++ before; marks = bits })
    ≡ sunk fold byte more (record {
      entries = entries;
      kept = before;
      marks = marks (entering begins ends fold byte entered core) ++ bits;
    })
sunk-back begins ends fold byte entered (point one mark) more entries before bits = refl
sunk-back begins ends fold byte entered at_begin more entries before bits = refl
sunk-back begins ends fold byte entered at_end more entries before bits = refl
sunk-back begins ends fold byte entered nothing more entries before bits = refl
sunk-back begins ends fold byte entered (both first second) more entries before bits =
    ap (λ all. sunk fold byte all (record {
      entries = passes begins ends entered first ∷ entered ∷ entries;
      kept = (kept begins ends second ++ kept begins ends first) ++ before;
      marks = bits;
    }))
    (append_assoc (back second) (back first) more)
    ∙ ap (λ all. sunk fold byte (back second ++ (back first ++ more)) (record {
      entries = passes begins ends entered first ∷ entered ∷ entries;
      kept = all;
      marks = bits;
    }))
    (append_assoc (kept begins ends second) (kept begins ends first) before)
    ∙ sunk-back begins ends fold byte (passes begins ends entered first) second (back first ++ more) (entered ∷ entries)
    (kept begins ends first ++ before) bits
    ∙ sunk-back begins ends fold byte entered first more entries before
    (marks (entering begins ends fold byte (passes begins ends entered first) second) ++ bits)
    ∙ ap (λ all. sunk fold byte more (record { entries = entries; kept = before; marks = all }))
    (sym (append_assoc (marks (entering begins ends fold byte entered first))
    (marks (entering begins ends fold byte (passes begins ends entered first) second)) bits))
sunk-back begins ends fold byte entered (either first second) more entries before bits =
    ap (λ all. sunk fold byte all (record {
      entries = entered ∷ entered ∷ entries;
      kept = (kept begins ends second ++ kept begins ends first) ++ before;
      marks = bits;
    }))
    (append_assoc (back second) (back first) more)
    ∙ ap (λ all. sunk fold byte (back second ++ (back first ++ more)) (record {
      entries = entered ∷ entered ∷ entries;
      kept = all;
      marks = bits;
    }))
    (append_assoc (kept begins ends second) (kept begins ends first) before)
    ∙ sunk-back begins ends fold byte entered second (back first ++ more) (entered ∷ entries)
    (kept begins ends first ++ before) bits
    ∙ sunk-back begins ends fold byte entered first more entries before
    (marks (entering begins ends fold byte entered second) ++ bits)
    ∙ ap (λ all. sunk fold byte more (record { entries = entries; kept = before; marks = all }))
    (sym (append_assoc (marks (entering begins ends fold byte entered first))
    (marks (entering begins ends fold byte entered second)) bits))
sunk-back begins ends fold byte entered (many part) more entries before bits =
    sunk-back begins ends fold byte (closes begins ends part || entered) part more entries before bits
sunk-back begins ends fold byte entered (maybe part) more entries before bits =
    sunk-back begins ends fold byte entered part more entries before bits
