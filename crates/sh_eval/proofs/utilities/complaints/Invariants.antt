use Rattle.std.proofs.Common.{drop, ◌≡◌, ◌++◌}
use Rattle.ps_lines.specs.Texts.{texts_of}
use Rattle.sh_eval.specs.Inner.Inputs.{lines_of}
use Rattle.sh_eval.proofs.utilities.complaints.Given as goal

-- what is told of the operands that are left comes behind what was told
abbrev pub invariant-loop-text : goal.invariant-loop-text
invariant-loop-text l = lines_of l.name (texts_of l.texts) l.operands ≡ l.lines.items ++ lines_of l.name (texts_of (drop l.text-index l.texts)) l.left
