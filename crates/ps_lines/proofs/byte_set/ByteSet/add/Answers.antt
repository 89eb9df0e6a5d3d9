use Rattle.std.proofs.Common.{arith}
use Rattle.ps_lines.specs.ByteSet.{has_byte}
use Rattle.ps_lines.proofs.ByteSetLemmas.{has-with_bit}
use Rattle.ps_lines.proofs.byte_set.ByteSet.add.Goals as goal

pub returns : goal.returns
unfolding has_byte
returns c = λ byte. has-with_bit c.args.self.now.words c.args.added byte (omega arith)
