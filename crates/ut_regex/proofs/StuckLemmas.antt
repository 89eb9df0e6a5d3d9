-- In a state that no byte leaves, no line has the expression, and of a text the next line is begun behind the line's end.
use Rattle.std.proofs.Common.{ℕ, ◌≡◌, ◌==◌, ◌+◌, ◌*◌, ◌<◌, Bool, true, false, List, [], ◌∷◌, ◌++◌, Option, Some, None, length, slice_index, slice_index_or, true≢false, if◌then◌else◌, refl, ap, ap₂, sym, ◌∙◌, arith}
use Rattle.std.proofs.lemmas.Bool.{ne_eqb, or_parts}
use Rattle.std.specs.Option.{ForSome, unwrap_or}
use Rattle.ps_lines.specs.declared.newlines.TheConstants.{NEWLINE}
use Rattle.ps_lines.specs.Lines.{has_newline}
use Rattle.ut_regex.specs.declared.table.TheConstants.{FOUND}
use Rattle.ut_regex.specs.Inner.Idling.{IsStuck, WaitsForLine}
use Rattle.ut_regex.specs.Inner.Tables.{runs, left_at_found, IsForTexts}
use Rattle.ut_regex.proofs.TextLemmas.{goes-on}
use Rattle.ut_regex.proofs.RunLemmas.{AreBytes}

module _ (next : List ℕ) (ends : List Bool) (stuck : ℕ) (sticks : IsStuck next ends stuck) where
  -- the table goes on
  unfound : (stuck == FOUND) ≡ false
  unfound = ne_eqb stuck FOUND (λ same. omega (arith, same, sticks.known))

  pub stuck-lacks : (line : List ℕ) → AreBytes line → runs next ends stuck line ≡ false
  stuck-lacks [] bytes = sticks.fails
  stuck-lacks (byte ∷ line) bytes =
      ap (λ entry. if entry == FOUND then true else runs next ends entry line) (sticks.stays byte bytes.0)
      ∙ ap (λ (test : Bool). if test then true else runs next ends stuck line) unfound ∙ stuck-lacks line bytes.1

  -- in texts only a newline leaves it
  pub waits-for-line : (entries : List ℕ) → IsForTexts next ends entries → WaitsForLine entries stuck
  waits-for-line entries for_texts = record {
    known = sticks.known;
    behind = λ byte small.
        for_texts stuck byte small ∙ ap₂ (λ (ended : Bool) entry. if byte == NEWLINE then (if ended then FOUND else 0) else entry) sticks.fails (sticks.stays byte small);
  }

module _ (entries : List ℕ) (stuck : ℕ) (waits : WaitsForLine entries stuck) where
  -- the entry for a byte of a line, and for its end
  passes : (byte : ℕ) (rest : List ℕ) → byte < 256 → (byte == NEWLINE) ≡ false → left_at_found entries stuck (byte ∷ rest) ≡ left_at_found entries stuck rest
  passes byte rest small plain =
      goes-on entries stuck byte stuck rest (waits.behind byte small ∙ ap (λ (test : Bool). if test then 0 else stuck) plain)
      (ne_eqb stuck FOUND (λ same. omega (arith, same, waits.known)))

  pub stuck-line : (line rest : List ℕ) → AreBytes (line ++ NEWLINE ∷ rest) → has_newline line ≡ false
      → left_at_found entries stuck (line ++ NEWLINE ∷ rest) ≡ left_at_found entries 0 rest
  stuck-line [] rest bytes plain = goes-on entries stuck NEWLINE 0 rest (waits.behind NEWLINE bytes.0) refl
  stuck-line (byte ∷ line) rest bytes plain =
      let both = or_parts (byte == NEWLINE) (has_newline line) plain in
      passes byte (line ++ NEWLINE ∷ rest) bytes.0 both.0 ∙ stuck-line line rest bytes.1 both.1

  pub stuck-end : (text : List ℕ) → AreBytes text → has_newline text ≡ false → left_at_found entries stuck text ≡ None
  stuck-end [] bytes plain = refl
  stuck-end (byte ∷ text) bytes plain =
      let both = or_parts (byte == NEWLINE) (has_newline text) plain in
      passes byte text bytes.0 both.0 ∙ stuck-end text bytes.1 both.1

-- a line that comes to such a state, where a table has one, lacks the expression
pub stuck-answer : (next : List ℕ) (ends : List Bool) (stuck : Option ℕ) → ForSome stuck (λ state. IsStuck next ends state) → (entry : ℕ) → (entry == FOUND) ≡ false
    → entry ≡ unwrap_or stuck FOUND → (line : List ℕ) → AreBytes line → runs next ends entry line ≡ false
stuck-answer next ends None sticks entry goes is line bytes = absurd (true≢false (ap (λ entry. entry == FOUND) (sym is) ∙ goes))
stuck-answer next ends (Some stuck) sticks entry goes is line bytes = ap (λ state. runs next ends state line) is ∙ stuck-lacks next ends stuck (sticks stuck refl) line bytes

pub stuck-behind : (next : List ℕ) (ends : List Bool) (stuck : Option ℕ) → ForSome stuck (λ state. IsStuck next ends state) → (state entry : ℕ) (line : List ℕ)
    → 0 < length line → AreBytes line → entry ≡ slice_index_or next (256 * state + slice_index line 0) FOUND → (entry == FOUND) ≡ false → entry ≡ unwrap_or stuck FOUND
    → runs next ends state line ≡ false
stuck-behind next ends stuck sticks state entry [] some bytes at goes is = absurd (omega (arith, some))
stuck-behind next ends stuck sticks state entry (byte ∷ line) some bytes at goes is =
    ap (λ entry. if entry == FOUND then true else runs next ends entry line) (sym at)
    ∙ ap (λ (test : Bool). if test then true else runs next ends entry line) goes ∙ stuck-answer next ends stuck sticks entry goes is line bytes.1
