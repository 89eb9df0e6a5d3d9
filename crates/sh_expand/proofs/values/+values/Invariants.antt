use Rattle.std.proofs.Common.{List, ◌++◌, drop, Ok, Err}
use Rattle.sh_arith.specs.Variables.{Variables}
use Rattle.sh_expand.specs.declared.faults.ValueFault.{ValueFault}
use Rattle.sh_expand.specs.declared.marks.Marked.{Marked}
use Rattle.sh_expand.specs.Given.{given_of}
use Rattle.sh_expand.specs.Values.{WordGives, Adds}
use Rattle.sh_tree.specs.Views.{parts_tree}
use Rattle.sh_expand.proofs.values.+values.Given as goal

-- what the parts that are left give, behind the marks so far, is what all give
abbrev pub invariant-add_parts-loop-part : goal.invariant-add_parts-loop-part
invariant-add_parts-loop-part l = record {
  go : (others : List Marked) (end : Variables) → WordGives (given_of l.fn.known) l.fn.used l.env (parts_tree (drop l.part-index l.fn.parts)) (Ok others, end)
      → Adds (λ (marks : List Marked). WordGives (given_of l.fn.known) l.fn.used l.fn.env (parts_tree l.fn.parts) (Ok marks, end)) l.fn.out.items (l.out.items ++ others);
  stop : (fault : ValueFault) (end : Variables) → WordGives (given_of l.fn.known) l.fn.used l.env (parts_tree (drop l.part-index l.fn.parts)) (Err fault, end)
      → WordGives (given_of l.fn.known) l.fn.used l.fn.env (parts_tree l.fn.parts) (Err fault, end);
}
