use Rattle.ps_lines.specs.ByteSet.{has_byte}
use Rattle.ps_lines.proofs.ByteSetLemmas.{has-none}
use Rattle.ps_lines.proofs.byte_set.ByteSet.empty.Goals as goal

pub returns : goal.returns
unfolding has_byte
returns c = has-none
