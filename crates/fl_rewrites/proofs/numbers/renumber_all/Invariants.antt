use Rattle.std.proofs.Common.{◌≡◌}
use Rattle.fl_rewrites.specs.Numbering.{renamed}
use Rattle.fl_rewrites.specs.Inner.Tables.{looked_up}
use Rattle.fl_rewrites.proofs.TableLemmas.{changed_up_to}
use Rattle.fl_rewrites.proofs.numbers.renumber_all.Given as goal

abbrev pub invariant-loop-node : goal.invariant-loop-node
invariant-loop-node l = l.nodes.items ≡ changed_up_to (renamed (looked_up l.places l.count)) l.node l.initial.nodes.items
