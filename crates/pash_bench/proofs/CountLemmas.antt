-- Counting newlines from line to line.
use Rattle.std.proofs.Common.{◌≡◌, ℕ, ◌+◌, ◌==◌, ◌≤◌, Bool, false, List, [], ◌∷◌, ◌++◌, length, take, drop, ◌-◌, count_by, cond, true, refl, ap, sym, ◌∙◌, zero-add, add_comm, append-nil}
use Rattle.std.proofs.lemmas.List.Sums.{sum_by-cons, count_by-le-length}
use Rattle.std.proofs.lemmas.Bool.{or_parts}
use Rattle.ps_lines.specs.Lines.{has_newline, BeginsNextLine, HasNoNewline}
use Rattle.ps_lines.proofs.NewlineLemmas.{CutsLine-next, has_newline-rest}

-- how many bytes are newlines
abbrev pub newline_count : List ℕ → ℕ
newline_count text = count_by (λ byte. byte == 10) text

newline_count-cons : (byte : ℕ) (rest : List ℕ) (ends : Bool) → (byte == 10) ≡ ends → newline_count (byte ∷ rest) ≡ cond ends 1 0 + newline_count rest
newline_count-cons byte rest ends is =
    sum_by-cons (λ byte. cond (byte == 10) 1 0) byte rest ∙ ap (λ ends. cond ends 1 0 + newline_count rest) is

-- a text without a newline adds none to what follows
newline_count-plain : (line rest : List ℕ) → has_newline line ≡ false → newline_count (line ++ rest) ≡ newline_count rest
newline_count-plain [] rest plain = refl
newline_count-plain (byte ∷ line) rest plain =
    let parts = or_parts (byte == 10) (has_newline line) plain in
    newline_count-cons byte (line ++ rest) false parts.0 ∙ zero-add _ ∙ newline_count-plain line rest parts.1

-- a step to the next line counts one newline, and where there is none no newline is left
pub newline_count-next : (text : List ℕ) (from next : ℕ) → from ≤ length text → BeginsNextLine text from next
    → newline_count (drop from text) ≡ newline_count (drop next text) + 1
newline_count-next text from next within begins =
    let cut = CutsLine-next text from next within begins in
    ap newline_count cut.whole ∙ newline_count-plain (take (next - 1 - from) (drop from text)) (10 ∷ drop next text) cut.plain ∙ newline_count-cons 10 (drop next text) true refl ∙ add_comm 1 _

pub newline_count-rest : (text : List ℕ) (from : ℕ) → HasNoNewline text from (length text) → newline_count (drop from text) ≡ 0
newline_count-rest text from none =
    ap newline_count (sym (append-nil (drop from text))) ∙ newline_count-plain (drop from text) [] (has_newline-rest text from none)

pub ruleset newline_steps = (newline_count-next, newline_count-rest, count_by-le-length)
