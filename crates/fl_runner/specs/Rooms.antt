-- Room for all that a run on threads hands over and gets back (own).
use Rattle.std.specs.Prelude.{◌≡◌, ◌≤◌, List, [], length, vec_len, vec_capacity}
use Rattle.fl_core.specs.declared.end_lists.Ends.{Ends}
use Rattle.fl_edges.specs.Settled.{IsBare}
use Rattle.fl_graph.specs.Net.{gives}
use Rattle.fl_graph.specs.declared.graphs.Cell.{Cell}
use Rattle.fl_graph.specs.declared.kinds.NodeKind.{NodeKind}
use Rattle.fl_runner.specs.declared.rooms.BackRooms.{BackRooms}
use Rattle.fl_runner.specs.declared.rooms.Rooms.{Rooms}

-- room for what these nodes give back, with nothing in it yet
pub record HasBackRooms {Own : Type 0} (cells : List (Cell NodeKind)) (back : BackRooms Own) : Type 0 where
  pub givers : back.givers.items ≡ []
  pub takers : back.takers.items ≡ []
  pub owns : back.owns.items ≡ []
  pub givers_fit : length cells ≤ vec_capacity back.givers
  pub takers_fit : length cells ≤ vec_capacity back.takers
  pub owns_fit : length cells ≤ vec_capacity back.owns
  pub stash : vec_len back.stash ≡ length (gives cells)
  pub bare : IsBare back.stash.items

-- and for these ends out of their lists
pub record HasRooms {R W I O Reader Writer Own : Type 0} (cells : List (Cell NodeKind)) (ends : Ends R W I O) (rooms : Rooms Reader Writer Own) : Type 0 where
  pub readers : rooms.out.readers.items ≡ []
  pub writers : rooms.out.writers.items ≡ []
  pub readers_fit : vec_len ends.readers ≤ vec_capacity rooms.out.readers
  pub writers_fit : vec_len ends.writers ≤ vec_capacity rooms.out.writers
  pub back : HasBackRooms cells rooms.back
