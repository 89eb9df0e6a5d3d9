use Rattle.std.proofs.Common.{◌≡◌, ◌++◌, length}
use Rattle.ps_lines.specs.Texts.{texts_of}
use Rattle.sh_expand.specs.Parameters.{joined_behind}
use Rattle.sh_expand.proofs.parameters.add_others.Given as goal

abbrev pub invariant-loop-text : goal.invariant-loop-text
invariant-loop-text l =
    l.out.items ++ joined_behind l.separator (texts_of l.left) ≡ l.fn.out.items ++ joined_behind l.separator (texts_of l.texts)

abbrev pub decreases-loop-text : goal.decreases-loop-text
decreases-loop-text l = length l.left
