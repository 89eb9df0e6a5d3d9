-- A step never gives back more text than it was given, and less unless the construct has ended: so every construct has an end.
use Rattle.std.specs.Prelude.{◌≡◌, ℕ, false, ◌<◌, ◌≤◌, List, ◌∷◌, length}
use Rattle.sh_lex.specs.Bytes.{ends_word}
use Rattle.sh_lex.specs.Texts.{unspliced}
use Rattle.sh_lex.specs.Acts.{Act, goes, enters, ends, offends, Found, nothing, gap, open_parenthesis, close_parenthesis, token, word, offence}

-- of `count` bytes an act leaves fewer, or as many where it ends the construct
abbrev pub Shrinks : ℕ → Act → Type 0
Shrinks count (goes next rest) = length rest < count
Shrinks count (enters inner outer rest) = length rest < count
Shrinks count (ends rest) = length rest ≤ count
Shrinks count (offends fault) = Unit {0}

-- a byte of a word stands at the text
abbrev pub BeginsWord : List ℕ → Type 0
BeginsWord text = (byte : ℕ) × ((rest : List ℕ) × ((unspliced text ≡ byte ∷ rest) × (ends_word byte ≡ false)))

-- what was found at a text leaves less of it, and a word has a byte
abbrev pub LeavesLess : List ℕ → Found → Type 0
LeavesLess text nothing = Unit {0}
LeavesLess text (gap rest) = length rest < length text
LeavesLess text (open_parenthesis rest) = length rest < length text
LeavesLess text (close_parenthesis rest) = length rest < length text
LeavesLess text (token kind rest) = length rest < length text
LeavesLess text word = BeginsWord text
LeavesLess text (offence fault) = Unit {0}
