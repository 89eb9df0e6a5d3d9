-- Files of bounded length. (own: what an object without failing calls owes, since a source gives at most 2^40 bytes)
use Rattle.std.specs.Prelude.{ℕ, ◌^◌, ◌≤◌, List, length, Bool, nat_le}
use Rattle.std.specs.Option.{unwrap_or}
use Rattle.std.specs.List.{list_all}
use Rattle.std.specs.Prelude.{[]}
use Rattle.ps_world.specs.Paths.{Components}
use Rattle.ps_world.specs.Files.{Files, bytes_at}
use Rattle.ps_fakes.specs.Trees.{Entry}

-- the bytes are few enough for a source
abbrev pub is_bounded : List ℕ → Bool
is_bounded bytes = nat_le (length bytes) (2 ^ 40)

-- so are those of each file
pub record AreBounded (files : Files) : Type 0 where
  pub bytes : (path : Components) → length (bytes_at files path) ≤ 2 ^ 40

-- so are those of each file among the entries
abbrev pub are_bounded : List Entry → Bool
are_bounded entries = list_all (λ entry. is_bounded (unwrap_or entry.1 [])) entries
