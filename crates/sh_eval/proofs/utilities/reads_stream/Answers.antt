use Rattle.std.proofs.Common.{◌∙◌, sym}
use Rattle.sh_eval.proofs.OperandSteps.{reads-some}
use Rattle.sh_eval.proofs.utilities.reads_stream.Goals as goal

pub returns-in-len1-up : goal.returns-in-len1-up
returns-in-len1-up c = c.names_stream.ensures ∙ sym (reads-some _ c.in-len1-up.len_at_least)
