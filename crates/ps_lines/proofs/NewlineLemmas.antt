-- Where newlines stand in a text, place by place.
use Rattle.std.proofs.Common.{◌≡◌, ℕ, zero, suc, ◌+◌, ◌-◌, ◌<◌, ◌≤◌, ◌≢◌, ◌==◌, true, false, List, [], ◌∷◌, Some, None, length, get_or, take, drop, refl, ap, ◌∙◌, arith, length-drop}
use Rattle.std.proofs.lemmas.Bool.Decides.{nat_tests}
use Rattle.std.proofs.lemmas.Bool.{or_from, false_from_ne_true, eqb-true}
use Rattle.std.proofs.lemmas.List.{take_rest, get_or-drop, get_or-take, drop_more, drop-drop, take-append-drop, length-take}
use Rattle.memchr.specs.Find.{IsFirstByte, is_byte}
use Rattle.ps_lines.specs.Lines.{is_closed, has_newline, HasNoNewline, BeginsNextLine, CutsLine}

-- a text that isn't empty is closed where its last byte is a newline
pub is_closed-last : (text : List ℕ) (place default : ℕ) → length text ≡ place + 1 → is_closed text ≡ (get_or text place default == 10)
is_closed-last [] place default long = absurd (omega arith)
is_closed-last (byte ∷ []) zero default long = refl
is_closed-last (byte ∷ []) (suc place) default long = absurd (omega arith)
is_closed-last (byte ∷ next ∷ rest) zero default long = absurd (omega arith)
is_closed-last (byte ∷ next ∷ rest) (suc place) default long = is_closed-last (next ∷ rest) place default (omega arith)

module _ (text : List ℕ) (from : ℕ) where
  -- a search of the rest of the text that finds no newline
  pub HasNoNewline-sought : IsFirstByte (is_byte 10) (take (length text - from) (drop from text)) None → HasNoNewline text from (length text)
  HasNoNewline-sought none =
      let sought : IsFirstByte (is_byte 10) (drop from text) None = rw take_rest at none in
      λ place low high newline. grind (arith, nat_tests, sought (place - from), length-drop, get_or-drop)

  -- a search that finds one
  pub BeginsNextLine-sought : (offset : ℕ) → IsFirstByte (is_byte 10) (take (length text - from) (drop from text)) (Some offset)
      → BeginsNextLine text from (from + offset + 1)
  BeginsNextLine-sought offset found =
      let sought : IsFirstByte (is_byte 10) (drop from text) (Some offset) = rw take_rest at found in
      record {
        after = omega arith;
        within = grind (arith, length-drop, sought.0.high);
        newline = grind (arith, nat_tests, sought.1, get_or-drop);
        first = λ place low high newline. grind (arith, nat_tests, sought.0.before (place - from), length-drop, get_or-drop);
      }

-- a text that has no newline at any place
pub has_newline-none : (text : List ℕ) → ((place : ℕ) → place < length text → (get_or text place 0 == 10) ≡ true → ⊥) → has_newline text ≡ false
has_newline-none [] none = refl
has_newline-none (byte ∷ rest) none =
    or_from (byte == 10) (has_newline rest) (false_from_ne_true (byte == 10) (none 0 (omega arith)))
    (has_newline-none rest (λ place low. none (suc place) (omega arith)))

pub has_newline-sought : (text : List ℕ) → IsFirstByte (is_byte 10) text None → has_newline text ≡ false
has_newline-sought text none = has_newline-none text (λ place low. none place (omega arith) low)

-- the first newline cuts the first line off
pub CutsLine-at : (text : List ℕ) (end : ℕ) → end < length text → get_or text end 0 ≡ 10
    → ((place : ℕ) → place < end → get_or text place 0 ≢ 10) → CutsLine text (take end text) (drop (end + 1) text)
CutsLine-at text end within newline first =
    record {
      plain = has_newline-none (take end text) (λ place low newline. grind (arith, nat_tests, first place, length-take, get_or-take));
      whole = rw (← newline, ← drop_more, take-append-drop);
    }

pub CutsLine-sought : (text : List ℕ) (end : ℕ) → IsFirstByte (is_byte 10) text (Some end)
    → CutsLine text (take end text) (take (length text - (end + 1)) (drop (end + 1) text))
CutsLine-sought text end found =
    rw take_rest (CutsLine-at text end found.0.high (eqb-true (get_or text end 0) 10 found.1)
    (λ place low newline. grind (arith, nat_tests, found.0.before place)))

-- the last byte decides
pub ruleset last_byte = (nat_tests, is_closed-last)

-- the place of the next line cuts a line from the rest of the text
pub CutsLine-next : (text : List ℕ) (from next : ℕ) → from ≤ length text → BeginsNextLine text from next
    → CutsLine (drop from text) (take (next - 1 - from) (drop from text)) (drop next text)
CutsLine-next text from next within begins =
    let end = next - 1 - from in
    let newline : get_or (drop from text) end 0 ≡ 10 = grind (arith, get_or-drop, begins.newline) in
    let rest : drop (end + 1) (drop from text) ≡ drop next text = drop-drop (end + 1) from text ∙ ap (λ place. drop place text) (omega (arith, begins.after)) in
    rw (← rest) (CutsLine-at (drop from text) end (grind (arith, length-drop, begins.within, begins.after)) newline
    (λ place low newline. grind (arith, get_or-drop, begins.first (from + place))))

-- and where there is none, the rest has no newline
pub has_newline-rest : (text : List ℕ) (from : ℕ) → HasNoNewline text from (length text) → has_newline (drop from text) ≡ false
has_newline-rest text from none =
    has_newline-none (drop from text) (λ place low newline. grind (arith, nat_tests, length-drop, get_or-drop, none (from + place)))
