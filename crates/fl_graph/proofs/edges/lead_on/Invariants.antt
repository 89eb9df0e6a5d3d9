use Rattle.std.proofs.Common.{◌≡◌, ◌≤◌, [], length, take, drop}
use Rattle.fl_graph.specs.Checks.{each_after, takes_given}
use Rattle.fl_graph.proofs.edges.lead_on.Given as goal

abbrev pub invariant-loop-place : goal.invariant-loop-place
invariant-loop-place l = (l.place ≤ length l.nodes) × (each_after takes_given (take l.place l.nodes) (drop l.place l.nodes) ≡ each_after takes_given [] l.nodes)
