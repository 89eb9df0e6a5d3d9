use Rattle.std.proofs.Common.{◌≡◌}
use Rattle.ut_regex.specs.Inner.Program.{Core, options, steps}
use Rattle.ut_regex.proofs.expansion.add_options.Given as goal

abbrev pub invariant-loop-done : goal.invariant-loop-done
invariant-loop-done l =
    (front whole : Core) → l.initial.made.items ≡ steps front → l.part ≡ steps whole → l.made.items ≡ steps (options front whole l.done)
