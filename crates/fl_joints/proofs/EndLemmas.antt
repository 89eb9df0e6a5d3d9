-- The first or the last lines of a text are cut once more, with what comes behind them: what was cut off before doesn't count.
use Rattle.std.proofs.Common.{◌≡◌, ◌==◌, ◌||◌, ◌<◌, ◌≤◌, ◌+◌, ◌-◌, ℕ, zero, suc, List, [], ◌∷◌, ◌++◌, length, take, drop, Bool, true, false, refl, ap, sym, subst, ◌∙◌, ⊎_elim, append-nil, arith, if◌then◌else◌}
use Rattle.std.specs.List.{concat, onto_first}
use Rattle.std.proofs.lemmas.Bool.{cases_lt, true≢false}
use Rattle.ps_lines.specs.Lines.{is_closed, is_empty}
use Rattle.ut_args.specs.declared.commands.Origin.{Origin}
use Rattle.ut_args.specs.declared.commands.Origin.TheVariants as origin
use Rattle.ut_args.specs.declared.commands.Unit.{Unit}
use Rattle.ut_args.specs.declared.commands.Unit.TheVariants as unit
use Rattle.ut_slices.specs.Ends.{first_lines, last, last_lines, whole_lines}
use Rattle.ut_slices.specs.Tail.{tail_by}
use Rattle.ut_slices.specs.Inner.Cuts.{BeginsLast}
use Rattle.ut_slices.proofs.EndLemmas.{BeginsLast-all, BeginsLast-bytes, Walked, first-onto, last-few}
use Rattle.fl_classes.specs.Kinds.{is_from_end}

-- how many lines are wanted behind a byte
abbrev left_behind : ℕ → ℕ → ℕ
left_behind byte count = if byte == 10 then count else suc count

first-byte : (count byte : ℕ) (text : List ℕ) → first_lines (suc count) (byte ∷ text) ≡ byte ∷ first_lines (left_behind byte count) text
first-byte count byte text = by_test (byte == 10)
  where
    by_test : (ends : Bool)
        → concat (take (suc count) (if ends then (byte ∷ []) ∷ whole_lines text else onto_first byte (whole_lines text))) ≡ byte ∷ first_lines (if ends then count else suc count) text
    by_test true = refl
    by_test false = first-onto (suc count) byte (whole_lines text) (omega arith)

pub first-again : (count : ℕ) (front back : List ℕ) → first_lines count (first_lines count front ++ back) ≡ first_lines count (front ++ back)
first-again zero front back = refl
first-again (suc count) [] back = refl
first-again (suc count) (byte ∷ front) back =
    ap (λ text. first_lines (suc count) (text ++ back)) (first-byte count byte front)
    ∙ first-byte count byte (first_lines (left_behind byte count) front ++ back)
    ∙ ap (λ text. byte ∷ text) (first-again (left_behind byte count) front back) ∙ sym (first-byte count byte (front ++ back))

-- where the end of a text begins, it is all that counts of the text
begins-again : (last : List ℕ → List ℕ) (text back : List ℕ) (place : ℕ) → BeginsLast last text place → last (last text ++ back) ≡ last (text ++ back)
begins-again last text back place begins =
    let end : last text ≡ drop place text = ap last (sym (append-nil text)) ∙ begins.keeps [] ∙ ap last (append-nil (drop place text)) ∙ begins.whole in
    ap (λ text. last (text ++ back)) end ∙ sym (begins.keeps back)

-- a byte before a text makes a line more at most, and none where the text begins with a line that it joins
byte-more : (byte : ℕ) (text : List ℕ) → length (whole_lines (byte ∷ text)) ≤ 1 + length (whole_lines text)
byte-more byte text = by_test (byte == 10) (whole_lines text)
  where
    by_test : (ends : Bool) (others : List (List ℕ)) → length (if ends then (byte ∷ []) ∷ others else onto_first byte others) ≤ 1 + length others
    by_test true others = omega arith
    by_test false [] = omega arith
    by_test false (line ∷ others) = omega arith

byte-joins : (byte next : ℕ) (text : List ℕ) → length (onto_first byte (whole_lines (next ∷ text))) ≡ length (whole_lines (next ∷ text))
byte-joins byte next text = by_test (next == 10) (whole_lines text)
  where
    by_test : (ends : Bool) (others : List (List ℕ))
        → length (onto_first byte (if ends then (next ∷ []) ∷ others else onto_first next others)) ≡ length (if ends then (next ∷ []) ∷ others else onto_first next others)
    by_test true others = refl
    by_test false [] = refl
    by_test false (line ∷ others) = refl

-- so a cut before fewer lines stands at an end of a line
byte-alone : (ends : Bool) (byte : ℕ) (back : List ℕ) → length (whole_lines back) < length (if ends then (byte ∷ []) ∷ whole_lines back else onto_first byte (whole_lines back))
    → (ends || is_empty back) ≡ true
byte-alone true byte back more = refl
byte-alone false byte [] more = refl
byte-alone false byte (next ∷ text) more = absurd (omega (arith, more, byte-joins byte next text))

ends-before : (byte : ℕ) (front text back : List ℕ) → text ≡ front ++ back → (is_closed front || is_empty back) ≡ true → length (whole_lines back) < length (whole_lines (byte ∷ text))
    → (is_closed (byte ∷ front) || is_empty back) ≡ true
ends-before byte (next ∷ front) text back whole ends more = ends
ends-before byte [] text back whole ends more = byte-alone (byte == 10) byte back (subst (λ text. length (whole_lines back) < length (whole_lines (byte ∷ text))) whole more)

-- a text is cut before its last lines
cut-last : (text : List ℕ) (count : ℕ) → count ≤ length (whole_lines text) → (front : List ℕ) × Walked text count front 0
cut-last [] count few = ([], record { back = []; whole = refl; lines = omega (arith, few); ends = refl })
cut-last (byte ∷ text) count few =
    ⊎_elim (λ (more : count < length (whole_lines (byte ∷ text))).
    let cut = cut-last text count (omega (arith, more, byte-more byte text)) in
    let fewer : length (whole_lines cut.1.back) < length (whole_lines (byte ∷ text)) = omega (arith, more, cut.1.lines) in (
      byte ∷ cut.0,
      record {
        back = cut.1.back;
        whole = ap (λ text. byte ∷ text) cut.1.whole;
        lines = cut.1.lines;
        ends = ends-before byte cut.0 text cut.1.back cut.1.whole cut.1.ends fewer;
      },
    ))
    (λ (all : length (whole_lines (byte ∷ text)) ≤ count). ([], record { back = byte ∷ text; whole = refl; lines = omega (arith, few, all); ends = refl }))
    (cases_lt count (length (whole_lines (byte ∷ text))))

pub last-again : (of : Unit) (count : ℕ) (front back : List ℕ) → last of count (last of count front ++ back) ≡ last of count (front ++ back)
last-again unit.Bytes count front back =
    begins-again (λ text. drop (length text - count) text) front back (length front - count) (BeginsLast-bytes count front (length front - count) refl)
last-again unit.Lines count front back =
    ⊎_elim (λ (more : count < length (whole_lines front)).
    let cut = cut-last front count (omega (arith, more)) in
    begins-again (last_lines count) front back (length cut.0) (BeginsLast-all front count cut.0 0 (omega arith) cut.1))
    (λ (few : length (whole_lines front) ≤ count). ap (λ text. last_lines count (text ++ back)) (last-few count front few))
    (cases_lt count (length (whole_lines front)))

pub ends-again : (of : Unit) (from : Origin) → is_from_end from ≡ true → (front back : List ℕ) → tail_by of from (tail_by of from front ++ back) ≡ tail_by of from (front ++ back)
ends-again of (origin.Start number) from_end front back = absurd (true≢false (sym from_end))
ends-again of (origin.End number) from_end front back = last-again of number front back
