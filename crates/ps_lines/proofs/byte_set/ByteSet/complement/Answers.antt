use Rattle.ps_lines.specs.ByteSet.{has_byte}
use Rattle.ps_lines.proofs.byte_set.ByteSet.complement.Goals as goal

pub returns : goal.returns
unfolding has_byte
returns c = c.complement_words.ensures
