use Rattle.std.proofs.Common.{[], Bool, take, reverse}
use Rattle.ut_regex.specs.Tree.{with_nodes}
use Rattle.ut_regex.specs.Inner.Literals.{AreRequired}
use Rattle.ut_regex.proofs.literals.required_of.Given as goal

abbrev pub invariant-loop-node : goal.invariant-loop-node
invariant-loop-node l = (fold : Bool) → AreRequired fold (reverse l.parts.items) (with_nodes [] (take l.node-index l.nodes))
