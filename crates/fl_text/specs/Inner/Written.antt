-- Members put into an object.
use Rattle.std.specs.Prelude.{ℕ, List, Option, Some, None}
use Rattle.serde_json.specs.Data.{Data, Members, put}

-- with a member at this key, where there is one
abbrev pub put_some : List ℕ → Option Data → Members → Members
put_some key None members = members
put_some key (Some value) members = put key value members
