-- What a run on threads wants before a node begins (own).
use Rattle.std.specs.Prelude.{◌≡◌, ◌<◌, ◌≤◌, ◌^◌, List, [], length, vec_capacity}
use Rattle.fl_graph.specs.declared.graphs.Cell.{Cell}
use Rattle.fl_graph.specs.declared.kinds.NodeKind.{NodeKind}
use Rattle.fl_core.specs.Roles.{HasRoles}
use Rattle.fl_core.specs.declared.end_lists.Ends.{Ends}
use Rattle.fl_runner.specs.Rooms.{HasRooms}
use Rattle.fl_runner.specs.declared.prepared.Prepared.{Prepared}

-- each node has its role, and there is room for the rest
pub record IsPrepared {R W I O Reader Writer Own Job : Type 0} (cells : List (Cell NodeKind)) (ends : Ends R W I O) (prepared : Prepared Reader Writer Own Job) : Type 0 where
  pub few : length cells < 2 ^ 32
  pub roles : HasRoles cells ends prepared.roles.items
  pub rooms : HasRooms cells ends prepared.rooms
  pub none : prepared.jobs.items ≡ []
  pub fit : length cells ≤ vec_capacity prepared.jobs
