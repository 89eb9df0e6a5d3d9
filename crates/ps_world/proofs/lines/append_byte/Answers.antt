use Rattle.std.proofs.Common.{rules}
use Rattle.ps_world.proofs.TakingLemmas.{took-byte}
use Rattle.ps_world.proofs.lines.append_byte.Goals as goal

pub returns-in-Ok-Some-clause-more : goal.returns-in-Ok-Some-clause-more
returns-in-Ok-Some-clause-more g c =
    took-byte _ _ c.args.line.now.items c.push.new.self.items c.len-end.result c.in-Ok-Some.byte (search rules) (search rules) (search rules) (search rules)
