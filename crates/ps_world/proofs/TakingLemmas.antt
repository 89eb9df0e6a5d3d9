-- A line that is taken byte by byte.
use Rattle.std.proofs.Common.{◌≡◌, ℕ, ◌-◌, ◌==◌, List, [], ◌∷◌, ◌++◌, false, length, Option, slice_set, refl, ap, ◌∙◌, arith}
use Rattle.std.proofs.lemmas.List.{length-append, set-append_right}
use Rattle.ps_lines.specs.declared.newlines.TheConstants.{NEWLINE}
use Rattle.ps_world.specs.Told.{TookOfLine, bytes_then}

-- a byte was taken, and put in the place of another
pub took-byte : (old new : Option (List ℕ)) (text pushed : List ℕ) (place byte : ℕ) → old ≡ bytes_then (byte ∷ []) new → (byte == NEWLINE) ≡ false
    → pushed ≡ text ++ NEWLINE ∷ [] → place ≡ length pushed → TookOfLine old new text (slice_set pushed (place - 1) byte)
took-byte old new text pushed place byte from other is at =
    let size : place - 1 ≡ length text = omega (arith, at ∙ ap length is ∙ length-append text (NEWLINE ∷ [])) in
    let none : length text - length text ≡ 0 = omega arith in
    record {
      part = byte ∷ [];
      to = rw (is, size) (set-append_right text (NEWLINE ∷ []) (length text) (length text) byte refl (omega arith) ∙ rw none refl);
      plain = rw other refl;
      from = from;
    }
