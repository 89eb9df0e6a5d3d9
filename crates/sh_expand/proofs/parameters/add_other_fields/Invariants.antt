use Rattle.std.proofs.Common.{◌≡◌, ◌++◌, length}
use Rattle.ps_lines.specs.Texts.{texts_of}
use Rattle.sh_expand.specs.Parameters.{behind_fields}
use Rattle.sh_expand.proofs.parameters.add_other_fields.Given as goal

abbrev pub invariant-loop-text : goal.invariant-loop-text
invariant-loop-text l =
    l.out.items ++ behind_fields l.quoted (texts_of l.left) ≡ l.fn.out.items ++ behind_fields l.quoted (texts_of l.texts)

abbrev pub decreases-loop-text : goal.decreases-loop-text
decreases-loop-text l = length l.left
