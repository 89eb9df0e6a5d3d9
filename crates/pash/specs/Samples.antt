-- The text that a seed gives (own): lines of three words, each of two letters, by a linear congruential generator.
use Rattle.std.specs.Prelude.{ℕ, zero, suc, ◌+◌, ◌*◌, ◌/◌, ◌%◌, ◌^◌, List, [], ◌∷◌, ◌++◌, codes}

-- the number that comes next
abbrev pub next_number : ℕ → ℕ
next_number number = (number * 1664525 + 1013904223) % 2 ^ 32

-- a number's word: one of the letters a to h, and one of a to d
abbrev pub word_of : ℕ → List ℕ
word_of number = (97 + number / 65536 % 8) ∷ (97 + number / 65536 / 8 % 4) ∷ []

-- the third number from here
abbrev pub third_number : ℕ → ℕ
third_number number = next_number (next_number (next_number number))

-- the words of the next three numbers, in one line
abbrev pub line_behind : ℕ → List ℕ
line_behind number =
    word_of (next_number number) ++ codes " " ++ word_of (next_number (next_number number)) ++ codes " " ++ word_of (third_number number) ++ codes "\n"

-- so many lines, each from the numbers behind those of the line before
abbrev pub sample_text : ℕ → ℕ → List ℕ
sample_text seed zero = []
sample_text seed (suc lines) = line_behind seed ++ sample_text (third_number seed) lines
