use Rattle.std.proofs.Common.{◌≡◌, drop}
use Rattle.fl_text.specs.Inner.Wirings.{set_all}
use Rattle.fl_text.proofs.wiring.set_makers.Given as goal

abbrev pub invariant-loop-edge : goal.invariant-loop-edge
invariant-loop-edge l = set_all l.makers.items (drop l.edge-index l.edges) l.node ≡ set_all l.initial.makers.items l.edges l.node
