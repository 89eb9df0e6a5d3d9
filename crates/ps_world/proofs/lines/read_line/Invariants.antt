use Rattle.std.proofs.Common.{◌≡◌, ◌-◌, ◌^◌}
use Rattle.ps_world.specs.Told.{TookOfLine}
use Rattle.ps_world.proofs.lines.read_line.Given as goal

abbrev pub invariant-loop-closed : goal.invariant-loop-closed
invariant-loop-closed g l = record {
  took : TookOfLine (g.S.Source.left l.initial.source) (g.S.Source.left l.source) l.initial.line.items l.line.items;
  count : g.S.Source.faults l.source ≡ g.S.Source.faults l.initial.source;
}

abbrev pub decreases-loop-closed : goal.decreases-loop-closed
decreases-loop-closed g l = 2 ^ 41 - g.S.Source.given l.source
