use Rattle.std.proofs.Common.{map, drop}
use Rattle.sh_arith.specs.Variables.{Variables}
use Rattle.sh_tree.specs.Views.{word_tree}
use Rattle.sh_expand.specs.declared.faults.ExpandFault.{ExpandFault}
use Rattle.sh_expand.specs.Given.{given_of}
use Rattle.sh_expand.specs.Fields.{Stop}
use Rattle.sh_expand.proofs.fields.fault_behind.Given as goal

-- how the words that are left stop, so do all
abbrev pub invariant-loop-word : goal.invariant-loop-word
invariant-loop-word l = (shown : ExpandFault) (end : Variables) → Stop (given_of l.fn.known) l.env (map word_tree (drop l.word-index l.fn.words)) shown end → Stop (given_of l.fn.known) l.fn.env (map word_tree l.fn.words) shown end
