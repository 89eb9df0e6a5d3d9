-- What the end that a node has outside is to its callers (own).
use Rattle.std.specs.Prelude.{◌≡◌, ℕ, List, Bool, true, false, Option, None}

-- which end it is: none, that of a file which is read or written, or a standard stream
pub data Role : Type 0 where
  Nothing : Role
  Reader : Role
  Writer : Role
  Input : Role
  Output : Role

pub record EndState : Type 0 where
  pub role : Role
  -- whether it is read, and whether it is written
  pub reads : Bool
  pub writes : Bool
  -- the bytes still to come, where it is read and tells them, and those that it has taken, where it is written and tells them
  pub left : Option (List ℕ)
  pub taken : Option (List ℕ)
  -- how many of its calls have failed
  pub faults : ℕ

-- it is the same end, at another time
pub record SameEnd (was now : EndState) : Type 0 where
  pub role : now.role ≡ was.role
  pub reads : now.reads ≡ was.reads
  pub writes : now.writes ≡ was.writes

-- an end that is read, one that is written, and none
abbrev pub reading : Role → Option (List ℕ) → ℕ → EndState
reading role left faults = record { role = role; reads = true; writes = false; left = left; taken = None; faults = faults }

abbrev pub writing : Role → Option (List ℕ) → ℕ → EndState
writing role taken faults = record { role = role; reads = false; writes = true; left = None; taken = taken; faults = faults }

abbrev pub nothing : EndState
nothing = record { role = Nothing; reads = false; writes = false; left = None; taken = None; faults = 0 }
