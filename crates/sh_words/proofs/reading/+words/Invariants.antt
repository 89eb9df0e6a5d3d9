-- The pieces so far stand in front of all that the rest gives. The levels that may still open decide which call is the smaller.
use Rattle.std.proofs.Common.{ℕ, ◌+◌, ◌*◌, ◌≤◌, Option, List, length}
use Rattle.std.specs.Option.{option_or}
use Rattle.sh_tree.specs.Trees.{WordTree}
use Rattle.sh_words.specs.Inner.Built.{built, open_in}
use Rattle.sh_words.specs.Words.{done, ReadsPieces}
use Rattle.sh_words.proofs.reading.+words.Given as goal

abbrev pub decreases-pieces : goal.decreases-pieces
decreases-pieces l = 3 * l.most + 2

abbrev pub decreases-expanded : goal.decreases-expanded
decreases-expanded l = 3 * l.most + 1

abbrev pub decreases-with_word : goal.decreases-with_word
decreases-with_word l = 3 * l.most

abbrev pub decreases-arithmetic : goal.decreases-arithmetic
decreases-arithmetic l = 3 * l.most

abbrev pub invariant-pieces-loop-after : goal.invariant-pieces-loop-after
invariant-pieces-loop-after l = record {
  read : (word : WordTree) (fault : Option ℕ) (number : ℕ) (rest : List ℕ) → ReadsPieces l.fn.most l.at l.next l.rest (done word fault number rest)
      → ReadsPieces l.fn.most l.fn.mode l.fn.number l.fn.text (done (built l.building word) (option_or l.fault fault) number rest);
  depth : open_in l.at + length l.rest ≤ length l.fn.text;
}

abbrev pub decreases-pieces-loop-after : goal.decreases-pieces-loop-after
decreases-pieces-loop-after l = length l.rest
