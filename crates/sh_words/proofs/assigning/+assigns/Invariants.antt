-- What the parts that are left assign is what all assign.
use Rattle.std.proofs.Common.{◌≡◌, drop}
use Rattle.sh_tree.specs.Trees.{no_part}
use Rattle.sh_words.specs.Inner.Built.{trees_onto}
use Rattle.sh_words.specs.Assigning.{word_assigns}
use Rattle.sh_words.proofs.assigning.+assigns.Given as goal

abbrev pub invariant-parts_assign-loop-part : goal.invariant-parts_assign-loop-part
invariant-parts_assign-loop-part l =
    word_assigns l.fn.arithmetic (trees_onto l.fn.parts no_part) ≡ word_assigns l.fn.arithmetic (trees_onto (drop l.part-index l.fn.parts) no_part)
