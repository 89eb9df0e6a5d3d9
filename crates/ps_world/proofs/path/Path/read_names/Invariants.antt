use Rattle.std.proofs.Common.{◌≡◌, length}
use Rattle.ps_world.specs.Paths.{components, path_from}
use Rattle.ps_world.proofs.PathLemmas.{path_after}
use Rattle.ps_world.proofs.path.Path.read_names.Given as goal

abbrev pub invariant-loop-name : goal.invariant-loop-name
invariant-loop-name l = path_from (components l.initial.left) ≡ path_after l.path (components l.left)

abbrev pub decreases-loop-name : goal.decreases-loop-name
decreases-loop-name l = length l.left
