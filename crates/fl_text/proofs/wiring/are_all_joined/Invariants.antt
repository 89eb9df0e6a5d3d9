use Rattle.std.proofs.Common.{◌≡◌, ◌≤◌, None, drop, length, replicate}
use Rattle.fl_text.specs.Inner.Wirings.{each_joins}
use Rattle.fl_text.proofs.wiring.are_all_joined.Given as goal

abbrev pub invariant-loop-place : goal.invariant-loop-place
invariant-loop-place l = (l.place ≤ length l.nodes) × (each_joins l.nodes l.makers.items l.place (drop l.place l.nodes) ≡ each_joins l.nodes (replicate l.edges None) 0 l.nodes)
