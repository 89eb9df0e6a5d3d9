use Rattle.std.proofs.Common.{◌==◌, ap}
use Rattle.std.proofs.lemmas.Nat.Bits.{shr_and_one}
use Rattle.ps_lines.specs.ByteSet.{has_byte}
use Rattle.ps_lines.proofs.byte_set.ByteSet.has.Goals as goal

pub returns : goal.returns
unfolding has_byte
returns c = ap (λ bit. bit == 1) (shr_and_one _ _)
