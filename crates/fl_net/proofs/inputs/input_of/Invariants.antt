use Rattle.std.proofs.Common.{◌≡◌, drop}
use Rattle.fl_net.specs.Inputs.{input_of}
use Rattle.fl_net.proofs.inputs.input_of.Given as goal

abbrev pub invariant-loop-other : goal.invariant-loop-other
invariant-loop-other l = input_of (drop l.other-index l.inputs) l.node ≡ input_of l.inputs l.node
