use Rattle.std.proofs.Common.{take}
use Rattle.ps_lines.specs.Texts.{texts_of}
use Rattle.sh_pattern.specs.Finding.{AddsFitting}
use Rattle.sh_pattern.proofs.expansion.add_fitting.Given as goal

abbrev pub invariant-loop-name : goal.invariant-loop-name
invariant-loop-name l = AddsFitting (texts_of (take l.name-index l.names)) l.from l.component l.ending l.initial.found.items l.found.items
