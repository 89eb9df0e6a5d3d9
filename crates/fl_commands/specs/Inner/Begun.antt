-- Files that can be begun, one after another.
use Rattle.std.specs.Prelude.{List, [], ◌∷◌, Option, Some, None}
use Rattle.ps_world.specs.Files.{CanBeMade, Files}
use Rattle.ps_world.specs.Paths.{Components}
use Rattle.ps_world.specs.declared.tree.Mode.{Mode}
use Rattle.fl_graph.specs.declared.graphs.Cell.{Cell}
use Rattle.fl_graph.specs.declared.kinds.NodeKind.{NodeKind}
use Rattle.fl_commands.specs.Graphs.{begun_for, target}

-- the file that is written so, if there is one
abbrev pub CanBegin : Files → Option (Components × Mode) → Type 0
CanBegin files None = Unit {0}
CanBegin files (Some aim) = CanBeMade files aim.0

-- those that nodes write, each behind the ones before it
abbrev pub AllCanBegin : Files → List (Cell NodeKind) → Type 0
AllCanBegin files [] = Unit {0}
AllCanBegin files (cell ∷ cells) = CanBegin files (target cell.kind) × AllCanBegin (begun_for (target cell.kind) files) cells

-- the path of the file that is begun, if there is one
abbrev pub aimed_at : Option (Components × Mode) → List Components
aimed_at None = []
aimed_at (Some aim) = aim.0 ∷ []
