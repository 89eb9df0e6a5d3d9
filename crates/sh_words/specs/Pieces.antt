-- The tree of a word from its pieces. From the left a word gives bytes, plain or quoted, and expansions; a piece is written as a part.
-- Bytes that follow one another with the same quoting are one part, and an empty quoted string is a part only where no quoted part is
-- beside it (XCU 2.2, 2.6.6). The code adds pieces at the end.
use Rattle.std.specs.Prelude.{ℕ, Bool, true, false, List, ◌++◌}
use Rattle.std.specs.declared.option.Option.{Option}
use Rattle.std.specs.declared.option.Option.TheVariants.{None, Some}
use Rattle.sh_tree.specs.Trees.{WordTree, part, PartTree, plain, quoted}

-- a piece in front of a word
abbrev pub before : PartTree → WordTree → WordTree
before (plain bytes) (part (plain more) rest) = part (plain (bytes ++ more)) rest
before (quoted bytes) (part (quoted more) rest) = part (quoted (bytes ++ more)) rest
before piece word = part piece word

-- what an expansion gives in front of a word: nothing, where it has no form
abbrev pub found_before : Option PartTree → WordTree → WordTree
found_before None word = word
found_before (Some piece) word = before piece word

-- bytes, with whether they are quoted
abbrev pub literal : Bool → List ℕ → PartTree
literal true bytes = quoted bytes
literal false bytes = plain bytes
