-- How large an expression is. Own: what is too large isn't read.
use Rattle.std.specs.Prelude.{ℕ, ◌+◌, ◌*◌, ◌<◌, ◌≤◌, ◌⊎◌, max, Option, Some, None}
use Rattle.ut_regex.specs.declared.sizes.TheConstants.{MAX_PLACES, MAX_NESTING}
use Rattle.ut_regex.specs.Tree.{Tree, leaf, line_begin, line_end, empty, group, sequence, alternative, repetition}

-- what a sequence counts besides its parts. It counts once, however many parts it has
abbrev pub row_place : Tree → ℕ
row_place (sequence first second) = 0
row_place (leaf one) = 1
row_place line_begin = 1
row_place line_end = 1
row_place empty = 1
row_place (group part) = 1
row_place (alternative first second) = 1
row_place (repetition bounds part) = 1

-- what an alternative counts besides its sides. It counts once, however many sides it has
abbrev pub bar_place : Tree → ℕ
bar_place (alternative first second) = 0
bar_place (leaf one) = 1
bar_place line_begin = 1
bar_place line_end = 1
bar_place empty = 1
bar_place (group part) = 1
bar_place (sequence first second) = 1
bar_place (repetition bounds part) = 1

-- how often a repeated part counts: as often as it may stand, or once more than it has to where there is no limit
abbrev pub times : ℕ → Option ℕ → ℕ
times low None = low + 1
times low (Some high) = high

-- the places of an expression
abbrev pub places : Tree → ℕ
places (leaf one) = 1
places line_begin = 1
places line_end = 1
places empty = 1
places (group part) = places part
places (sequence first second) = places first + places second + row_place first
places (alternative first second) = places first + places second + bar_place first
places (repetition bounds part) = places part * times bounds.low bounds.high + 1

-- how deep its groups are nested
abbrev pub nesting : Tree → ℕ
nesting (leaf one) = 0
nesting line_begin = 0
nesting line_end = 0
nesting empty = 0
nesting (group part) = nesting part + 1
nesting (sequence first second) = max (nesting first) (nesting second)
nesting (alternative first second) = max (nesting first) (nesting second)
nesting (repetition bounds part) = nesting part

-- it may be read
abbrev pub IsSmall : Tree → Type 0
IsSmall re = (places re ≤ MAX_PLACES) × (nesting re ≤ MAX_NESTING)

-- it is too large to be read
abbrev pub IsTooLarge : Tree → Type 0
IsTooLarge re = (MAX_PLACES < places re) ⊎ (MAX_NESTING < nesting re)
