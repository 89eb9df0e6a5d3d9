use Rattle.std.proofs.Common.{List, ◌++◌, ◌≤◌, length}
use Rattle.sh_pattern.specs.declared.elements.Item.{Item}
use Rattle.sh_pattern.specs.declared.marks.Mark.{Mark}
use Rattle.sh_pattern.specs.Brackets.{IsItems, IsList}
use Rattle.sh_pattern.proofs.brackets.read_list.Given as goal

abbrev pub invariant-loop-item : goal.invariant-loop-item
invariant-loop-item l = record {
  read : (others : List Item) (after : List Mark) → IsItems l.rest others after → IsList l.fn.text (l.items.items ++ others) after;
  back : (items : List Item) (after : List Mark) → IsList l.fn.text items after → (others : List Item) × IsItems l.rest others after;
  shorter : length l.rest ≤ length l.fn.text;
}

abbrev pub decreases-loop-item : goal.decreases-loop-item
decreases-loop-item l = length l.rest
