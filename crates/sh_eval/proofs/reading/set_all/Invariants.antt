use Rattle.std.proofs.Common.{drop, ◌≡◌}
use Rattle.ps_lines.specs.Texts.{texts_of}
use Rattle.sh_eval.specs.Reading.{all_set}
use Rattle.sh_eval.proofs.reading.set_all.Given as goal

-- what comes of the names and texts that are left comes of all
abbrev pub invariant-loop-name : goal.invariant-loop-name
invariant-loop-name l = all_set (texts_of l.fn.names) (texts_of l.fn.texts) l.fn.variables ≡ all_set (texts_of (drop l.name-index l.fn.names)) (texts_of l.left) l.variables
