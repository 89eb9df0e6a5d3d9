-- A path that is read component by component.
use Rattle.std.proofs.Common.{ℕ, List, ◌++◌, Option, Some, None, cond}
use Rattle.std.specs.List.{list_all}
use Rattle.ps_world.specs.Paths.{Components, is_name}

-- a path, and after it these components, if all are names
abbrev pub path_after : Components → List (List ℕ) → Option Components
path_after path names = cond (list_all is_name names) (Some (path ++ names)) None
