-- An object's members taken one after another, in the order of their keys.
use Rattle.std.specs.Prelude.{ℕ, List, Bool, true, false, Option, Some, None, if◌then◌else◌}
use Rattle.std.specs.Str.{bytes_eq}
use Rattle.serde_json.specs.Data.{Data, Members, no_members, member}

-- the value of the first member, where it has this key
abbrev pub found : List ℕ → Members → Option Data
found key no_members = None
found key (member name value rest) = if bytes_eq name key then Some value else None

-- the members without the first, where it has this key
abbrev pub behind : List ℕ → Members → Members
behind key no_members = no_members
behind key (member name value rest) = if bytes_eq name key then rest else member name value rest

abbrev pub are_none : Members → Bool
are_none no_members = true
are_none (member name value rest) = false
