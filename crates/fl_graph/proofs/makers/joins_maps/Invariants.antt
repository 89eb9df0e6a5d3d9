use Rattle.std.proofs.Common.{◌≡◌, ◌≤◌, [], length, take, drop}
use Rattle.fl_graph.specs.Checks.{each_after, joins_its_maps}
use Rattle.fl_graph.proofs.makers.joins_maps.Given as goal

abbrev pub invariant-loop-place : goal.invariant-loop-place
invariant-loop-place l = (l.place ≤ length l.nodes) × (each_after joins_its_maps (take l.place l.nodes) (drop l.place l.nodes) ≡ each_after joins_its_maps [] l.nodes)
