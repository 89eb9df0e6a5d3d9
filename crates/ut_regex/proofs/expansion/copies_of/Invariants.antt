use Rattle.std.proofs.Common.{◌≡◌}
use Rattle.ut_regex.specs.Inner.Program.{Core, copies, steps}
use Rattle.ut_regex.proofs.expansion.copies_of.Given as goal

abbrev pub invariant-loop-done : goal.invariant-loop-done
invariant-loop-done l = (whole : Core) → l.part ≡ steps whole → l.made.items ≡ steps (copies whole l.done)
