use Rattle.std.proofs.Common.{◌≡◌, ◌≤◌, ◌-◌, ◌^◌, length}
use Rattle.ps_world.specs.Told.{bytes_then}
use Rattle.ps_world.proofs.streams.read_through.Given as goal

abbrev pub invariant-loop-text : goal.invariant-loop-text
invariant-loop-text g l = record {
  before : g.S.Source.left l.initial.source ≡ bytes_then l.text.items (g.S.Source.left l.source);
  within : length l.text.items ≤ l.most;
  count : g.S.Source.faults l.source ≡ g.S.Source.faults l.initial.source;
}

abbrev pub decreases-loop-text : goal.decreases-loop-text
decreases-loop-text g l = 2 ^ 41 - g.S.Source.given l.source
