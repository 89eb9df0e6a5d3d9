use Rattle.std.proofs.Common.{rules}
use Rattle.ps_world.proofs.ToldLemmas.{written_more}
use Rattle.ps_world.proofs.streams.write_all.Goals as goal

pub loop-left-preserved : goal.loop-left-preserved
loop-left-preserved g c = record {
  written = written_more _ _ _ _ _ _ c.loop-left.invariant.written c.in_ok-count.ensures.taken;
  sent = search rules;
  count = search rules;
}
