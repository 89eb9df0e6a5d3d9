-- The line in which a place stands.
use Rattle.std.proofs.Common.{◌≡◌, ℕ, ◌+◌, ◌≤◌, ◌==◌, true, false, List, [], ◌∷◌, ◌++◌, length, get_or, take, drop, Some, None, refl, ap, sym, ◌∙◌, append_assoc, arith, length-append, length-drop}
use Rattle.std.proofs.Math.Seq.{take-append_seam}
use Rattle.std.proofs.lemmas.Bool.{or_parts, or_from, eqb-true}
use Rattle.std.proofs.lemmas.List.{take-append-drop, take_more, get_or-drop}
use Rattle.memchr.specs.Find.{IsFirstByte, IsLastByte, is_byte}
use Rattle.ps_lines.specs.Lines.{has_newline, is_closed, CutsLine}
use Rattle.ps_lines.proofs.ClosedLemmas.{closed-drop, closed-plain}
use Rattle.ps_lines.proofs.LineLemmas.{is_closed-push}
use Rattle.ps_lines.proofs.NewlineLemmas.{has_newline-none}
use Rattle.ut_regex.specs.Having.{CutsOut}

-- a search for the last newline cuts the text there
pub none-plain : (text : List ℕ) → IsLastByte (is_byte 10) text None → has_newline text ≡ false
none-plain text none = has_newline-none text (λ place low. none place (omega arith) low)

pub last-closed : (text : List ℕ) (end : ℕ) → IsLastByte (is_byte 10) text (Some end) → is_closed (take (end + 1) text) ≡ true
last-closed text end found =
    let newline : get_or text end 0 ≡ 10 = eqb-true (get_or text end 0) 10 found.1 in
    let front : take (end + 1) text ≡ take end text ++ 10 ∷ [] = take_more text end 0 found.0.high ∙ ap (λ byte. take end text ++ byte ∷ []) newline in
    ap is_closed front ∙ is_closed-push (take end text) 10

-- up to a newline a text is closed
pub newline-closed : (text : List ℕ) (place offset : ℕ) → IsFirstByte (is_byte 10) (drop place text) (Some offset) → is_closed (take (place + offset + 1) text) ≡ true
newline-closed text place offset found =
    let end = place + offset in
    let newline : get_or text end 0 ≡ 10 = sym (get_or-drop place text offset 0) ∙ eqb-true (get_or (drop place text) offset 0) 10 found.1 in
    let size = length-drop place text in
    let within = found.0.high in
    let front : take (end + 1) text ≡ take end text ++ 10 ∷ [] =
    take_more text end 0 (omega (arith, size, within)) ∙ ap (λ byte. take end text ++ byte ∷ []) newline in
    ap is_closed front ∙ is_closed-push (take end text) 10

pub last-plain : (text : List ℕ) (end : ℕ) → IsLastByte (is_byte 10) text (Some end) → has_newline (drop (end + 1) text) ≡ false
last-plain text end found =
    has_newline-none (drop (end + 1) text) (λ place low is. found.0.after (end + 1 + place) (omega arith) (grind (arith, length-drop)) (ap (λ byte. byte == 10) (sym (get_or-drop (end + 1) text place 0)) ∙ is))

has_newline-append : (front back : List ℕ) → has_newline front ≡ false → has_newline back ≡ false → has_newline (front ++ back) ≡ false
has_newline-append [] back first second = second
has_newline-append (byte ∷ front) back first second =
    let parts = or_parts (byte == 10) (has_newline front) first in
    or_from (byte == 10) (has_newline (front ++ back)) parts.0 (has_newline-append front back parts.1 second)

drop-seam : (front back : List ℕ) → drop (length front) (front ++ back) ≡ back
drop-seam [] back = refl
drop-seam (byte ∷ front) back = drop-seam front back

-- where no newline follows a place of a closed text, the place is its end
pub at-end : (text : List ℕ) (place : ℕ) → place ≤ length text → has_newline (drop place text) ≡ false → is_closed text ≡ true → place ≡ length text
at-end text place within plain closed =
    let none : length (drop place text) ≡ 0 = ap length (closed-plain (drop place text) (closed-drop text place closed) plain) in
    let size = length-drop place text in
    omega arith

-- the line that a place cuts in two
pub cuts-out : (text before begun ended rest : List ℕ) (place : ℕ) → take place text ≡ before ++ begun → is_closed before ≡ true → has_newline begun ≡ false
    → CutsLine (drop place text) ended rest → CutsOut text before (take (length begun + length ended) (drop (length before) text)) rest
cuts-out text before begun ended rest place first ends plain last =
    let whole : text ≡ before ++ ((begun ++ ended) ++ 10 ∷ rest) =
    sym (take-append-drop place text) ∙ ap (λ front. front ++ drop place text) first ∙ ap (λ back. (before ++ begun) ++ back) last.whole
    ∙ append_assoc before begun (ended ++ 10 ∷ rest) ∙ ap (λ back. before ++ back) (sym (append_assoc begun ended (10 ∷ rest))) in
    let line : take (length begun + length ended) (drop (length before) text) ≡ begun ++ ended =
    ap (λ text. take (length begun + length ended) (drop (length before) text)) whole
    ∙ ap (take (length begun + length ended)) (drop-seam before ((begun ++ ended) ++ 10 ∷ rest))
    ∙ ap (λ size. take size ((begun ++ ended) ++ 10 ∷ rest)) (sym (length-append begun ended)) ∙ take-append_seam (begun ++ ended) (10 ∷ rest) in
    record {
      ends = ends;
      plain = ap has_newline line ∙ has_newline-append begun ended plain last.plain;
      whole = whole ∙ ap (λ line. before ++ (line ++ 10 ∷ rest)) (sym line);
    }
