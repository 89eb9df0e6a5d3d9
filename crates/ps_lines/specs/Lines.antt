-- Lines (XBD 3.206, 3.195 and 3.243). The code seeks newlines and takes the line before each; the definitions go from the last byte to
-- the first.
use Rattle.std.specs.Prelude.{◌≡◌, ℕ, ◌-◌, ◌<◌, ◌≤◌, ◌≢◌, ◌==◌, List, [], ◌∷◌, ◌++◌, Bool, true, false, not, if◌then◌else◌, length, slice_index}
use Rattle.std.specs.List.{list_any, list_all, onto_first}
use Rattle.ps_lines.specs.declared.newlines.TheConstants.{NEWLINE}

-- the lines of a text are the texts between its newlines: a last one that no newline ends counts, and an empty rest does not
abbrev pub lines : List ℕ → List (List ℕ)
lines [] = []
lines (byte ∷ rest) = if byte == NEWLINE then [] ∷ lines rest else onto_first byte (lines rest)

-- a newline is among the bytes
abbrev pub has_newline : List ℕ → Bool
has_newline text = list_any (λ byte. byte == NEWLINE) text

-- no newline is within any of these lines
abbrev pub are_lines : List (List ℕ) → Bool
are_lines texts = list_all (λ line. not (has_newline line)) texts

-- the text of these lines, each with a newline at its end
abbrev pub text_of_lines : List (List ℕ) → List ℕ
text_of_lines [] = []
text_of_lines (line ∷ others) = line ++ NEWLINE ∷ text_of_lines others

-- the text is empty or ends in a newline
abbrev pub is_closed : List ℕ → Bool
is_closed [] = true
is_closed (byte ∷ []) = byte == NEWLINE
is_closed (_ ∷ byte ∷ rest) = is_closed (byte ∷ rest)

-- the text with a newline added where it is not closed
abbrev pub closing : List ℕ → List ℕ
closing text = if is_closed text then text else text ++ NEWLINE ∷ []

-- there is no byte
abbrev pub is_empty : List ℕ → Bool
is_empty [] = true
is_empty (_ ∷ _) = false

-- the list of texts cuts their whole at ends of lines: a text that is not closed is followed by empty texts only
abbrev pub is_cutlist : List (List ℕ) → Bool
is_cutlist [] = true
is_cutlist (text ∷ others) = if is_closed text then is_cutlist others else list_all is_empty others

-- the text is this line, a newline and this rest
pub record CutsLine (text line rest : List ℕ) : Type 0 where
  pub plain : has_newline line ≡ false
  pub whole : text ≡ line ++ NEWLINE ∷ rest

-- the parts without the last one where it is empty
abbrev pub without_empty_rest : List (List ℕ) → List (List ℕ)
without_empty_rest [] = []
without_empty_rest (part ∷ []) = if is_empty part then [] else part ∷ []
without_empty_rest (part ∷ next ∷ others) = part ∷ without_empty_rest (next ∷ others)

-- none of the bytes from place `from` up to place `end` is a newline
abbrev pub HasNoNewline : List ℕ → ℕ → ℕ → Type 0
HasNoNewline text from end = (place : ℕ) → from ≤ place → place < end → slice_index text place ≢ NEWLINE

-- `next` is the place after the first newline at or after place `from`
pub record BeginsNextLine (text : List ℕ) (from next : ℕ) : Type 0 where
  pub after : from < next
  pub within : next ≤ length text
  pub newline : slice_index text (next - 1) ≡ NEWLINE
  pub first : HasNoNewline text from (next - 1)
