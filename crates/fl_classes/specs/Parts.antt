-- The parts into which a text is split (own): at ends of lines, and as even as these allow. The code finds the ends from the left.
use Rattle.std.specs.Prelude.{ℕ, zero, suc, ◌+◌, ◌-◌, ◌*◌, ◌/◌, List, [], ◌∷◌, ◌==◌, length, take, drop, if◌then◌else◌}
use Rattle.ps_lines.specs.declared.newlines.TheConstants.{NEWLINE}

-- how many bytes of a text its first line has, with its newline; all where there is none
abbrev pub line_size : List ℕ → ℕ
line_size [] = 0
line_size (byte ∷ text) = if byte == NEWLINE then 1 else 1 + line_size text

-- the least place at or after this one that is the beginning, the end or just after a newline
abbrev pub next_end : List ℕ → ℕ → ℕ
next_end text zero = 0
next_end [] (suc place) = 0
next_end (byte ∷ text) (suc zero) = line_size (byte ∷ text)
next_end (byte ∷ text) (suc (suc place)) = 1 + next_end text (suc place)

-- where a part of so many ends at the earliest, in a text of this length: its share, rounded up
abbrev pub share : ℕ → ℕ → ℕ → ℕ
share part parts size = (part * size + (parts - 1)) / parts

-- where it ends
abbrev pub part_end : List ℕ → ℕ → ℕ → ℕ
part_end text parts part = next_end text (share part parts (length text))

-- the bytes from one place to another
abbrev pub slice : List ℕ → ℕ → ℕ → List ℕ
slice text from end = take (end - from) (drop from text)

-- so many parts, from the one with this number
abbrev pub parts_from : List ℕ → ℕ → ℕ → ℕ → List (List ℕ)
parts_from text parts part zero = []
parts_from text parts part (suc left) =
    slice text (part_end text parts part) (part_end text parts (part + 1)) ∷ parts_from text parts (part + 1) left

abbrev pub parts_of : List ℕ → ℕ → List (List ℕ)
parts_of text parts = parts_from text parts 0 parts
