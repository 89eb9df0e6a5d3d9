-- What is held at the ports of a merge.
use Rattle.std.proofs.Common.{◌≡◌, ◌==◌, ◌+◌, ◌-◌, ◌<◌, ◌≤◌, ℕ, zero, suc, List, [], ◌∷◌, ◌++◌, length, drop, take, set, get_or, Bool, true, false, nat_lt, refl, ap, sym, ◌∙◌, arith, if◌then◌else◌, length-append, length-drop}
use Rattle.std.specs.Option.{option_map_or}
use Rattle.std.proofs.lemmas.Bool.{cond-true, cond-false, lt-ltb, le-ltb, ltb-true, ltb-false}
use Rattle.std.proofs.lemmas.List.{drop-append-le, drop-drop}
use Rattle.std.proofs.lemmas.Option.{slice_get_read}
use Rattle.std.proofs.Math.Seq.{drop-append-add, take-append_seam}
use Rattle.ps_lines.specs.Lines.{closing, has_newline, is_closed, CutsLine}
use Rattle.ps_lines.proofs.ClosedLemmas.{closed-drop, closed-plain}
use Rattle.ps_lines.proofs.LineLemmas.{is_closed-closing}
use Rattle.ut_sort.specs.Choices.{EndsFirstLine}
use Rattle.ut_sort.specs.Sides.{held, held_at, is_open_at, total_held}
use Rattle.ut_sort.specs.declared.texts.Side.{Side}

-- THE FIRST LINE, by how many bytes it has
pub cuts-first : (text line rest : List ℕ) (size : ℕ) → size ≡ length line → CutsLine text line rest → EndsFirstLine text size
cuts-first text line rest size is cut =
    let front : take size text ≡ line = (λ i. take (is i) (cut.whole i)) ∙ take-append_seam line (10 ∷ rest) in
    let back : drop (size + 1) text ≡ rest = (λ i. drop (is i + 1) (cut.whole i)) ∙ drop-append-add line (10 ∷ rest) 1 in
    record {
      plain = ap has_newline front ∙ cut.plain;
      whole = cut.whole ∙ (λ i. sym front i ++ 10 ∷ sym back i);
    }

-- a side that has ended is closed
closed-at : (sides : List Side) (port : ℕ) → is_open_at sides port ≡ false → is_closed (held_at sides port) ≡ true
closed-at [] zero ended = refl
closed-at [] (suc port) ended = refl
closed-at (side ∷ sides) zero ended = side.closed ended
closed-at (side ∷ sides) (suc port) ended = closed-at sides port ended

pub none-held : (sides : List Side) (port : ℕ) → has_newline (held_at sides port) ≡ false → is_open_at sides port ≡ false → held_at sides port ≡ []
none-held sides port plain ended = closed-plain (held_at sides port) (closed-at sides port ended) plain

pub ruleset cuts = (cuts-first, none-held)

-- A SIDE ends
pub closing-push : (text : List ℕ) (at : ℕ) → at ≤ length text → is_closed (drop at text) ≡ false → drop at (text ++ 10 ∷ []) ≡ closing (drop at text)
closing-push text at within unclosed =
    drop-append-le at text (10 ∷ []) within ∙ sym (cond-false (is_closed (drop at text)) (drop at text) (drop at text ++ 10 ∷ []) unclosed)

pub closing-same : (text : List ℕ) → is_closed text ≡ true → text ≡ closing text
closing-same text closed = sym (cond-true (is_closed text) text (text ++ 10 ∷ []) closed)

pub closing-closed : (text : List ℕ) (at : ℕ) → at ≤ length text → is_closed (drop at text) ≡ false → is_closed (drop at (text ++ 10 ∷ [])) ≡ true
closing-closed text at within unclosed = ap is_closed (closing-push text at within unclosed) ∙ is_closed-closing (drop at text)

pub ruleset closes = (closing-push, closing-same, closing-closed)

-- some of what is held goes
pub drop-more : (text : List ℕ) (at count : ℕ) → drop (at + count) text ≡ drop count (drop at text)
drop-more text at count = ap (λ (place : ℕ). drop place text) (omega arith) ∙ sym (drop-drop count at text)

pub closed-more : (text : List ℕ) (at count : ℕ) → is_closed (drop at text) ≡ true → is_closed (drop (at + count) text) ≡ true
closed-more text at count closed = ap is_closed (drop-more text at count) ∙ closed-drop (drop at text) count closed

pub ruleset goes = (drop-more, closed-more, length-drop)

total_set : (sides : List Side) (place count : ℕ) (new : Side) → place < length sides → length (held new) + count ≡ length (held_at sides place)
    → total_held (set sides place new) + count ≡ total_held sides
total_set [] place count new within left = absurd (omega arith)
total_set (side ∷ sides) zero count new within left =
    let left : length (held new) + count ≡ length (held side) = left in omega arith
total_set (side ∷ sides) (suc place) count new within left =
    let rest = total_set sides place count new (omega arith) left in omega arith

pub total-passed : (sides : List Side) (place count : ℕ) (side new : Side) → place < length sides → count ≤ length (held_at sides place) → side ≡ get_or sides place side
    → held new ≡ drop count (held side) → total_held (set sides place new) + count ≡ total_held sides
total-passed sides place count side new within enough is left =
    let found : held_at sides place ≡ held side = ap (λ it. option_map_or held it []) (slice_get_read sides (length sides) place side refl within is) in
    let size : length (held new) ≡ length (held_at sides place) - count =
    ap length left ∙ length-drop count (held side) ∙ ap (λ (text : List ℕ). length text - count) (sym found) in
    total_set sides place count new within (omega arith)

-- sides of which nothing is held yet
pub record AreFresh (sides : List Side) : Type 0 where
  pub empty : (port : ℕ) → held_at sides port ≡ []
  pub all_open : (port : ℕ) → is_open_at sides port ≡ nat_lt port (length sides)

held-push : (sides : List Side) (last : Side) → ((port : ℕ) → held_at sides port ≡ []) → held last ≡ [] → (port : ℕ) → held_at (sides ++ last ∷ []) port ≡ []
held-push [] last empty none zero = none
held-push [] last empty none (suc port) = refl
held-push (first ∷ sides) last empty none zero = empty 0
held-push (first ∷ sides) last empty none (suc port) = held-push sides last (λ port. empty (suc port)) none port

lt-suc : (one other : ℕ) → nat_lt (suc one) (suc other) ≡ nat_lt one other
lt-suc one other = by_test (nat_lt one other) refl
  where
    by_test : (test : Bool) → nat_lt one other ≡ test → nat_lt (suc one) (suc other) ≡ nat_lt one other
    by_test true is = let less : one < other = ltb-true one other is in lt-ltb (suc one) (suc other) (omega arith) ∙ sym is
    by_test false is = let less : other ≤ one = ltb-false one other is in le-ltb (suc one) (suc other) (omega arith) ∙ sym is

open-push : (sides : List Side) (last : Side) → ((port : ℕ) → is_open_at sides port ≡ nat_lt port (length sides)) → last.is_open ≡ true
    → (port : ℕ) → is_open_at (sides ++ last ∷ []) port ≡ nat_lt port (length (sides ++ last ∷ []))
open-push [] last opens opened zero = opened ∙ sym (lt-ltb 0 1 (omega arith))
open-push [] last opens opened (suc port) = sym (le-ltb (suc port) 1 (omega arith))
open-push (first ∷ sides) last opens opened zero = opens 0 ∙ lt-ltb 0 (suc (length sides)) (omega arith) ∙ sym (lt-ltb 0 (suc (length (sides ++ last ∷ []))) (omega arith))
open-push (first ∷ sides) last opens opened (suc port) =
    open-push sides last (λ port. opens (suc port) ∙ lt-suc port (length sides)) opened port ∙ sym (lt-suc port (length (sides ++ last ∷ [])))

pub AreFresh-none : AreFresh []
AreFresh-none = record { empty = λ port. refl; all_open = λ port. sym (le-ltb port 0 (omega arith)) }

pub AreFresh-push : (sides : List Side) (last : Side) → AreFresh sides → held last ≡ [] → last.is_open ≡ true → AreFresh (sides ++ last ∷ [])
AreFresh-push sides last fresh none opened = record { empty = held-push sides last fresh.empty none; all_open = open-push sides last fresh.all_open opened }

pub ruleset fresh = (AreFresh-none, AreFresh-push)
