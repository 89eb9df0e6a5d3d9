-- What the calls on the ends of a graph's nodes do to them (own).
use Rattle.std.specs.Prelude.{◌≡◌, ◌<◌, ◌≤◌, ℕ, List, Bool, length, take, Option, Result, Ok, IfOk, OnOk, OnErr, MatchResult}
use Rattle.ps_world.specs.Told.{bytes_then, then_bytes, GrewByPrefix, IsEnded}
use Rattle.ps_world.specs.declared.error.WorldErr.{WorldErr}

-- so much was left at an end, so much is now, and a read of the first into the front of a buffer has this answer (`Source::read`)
pub record DidRead (was now : Option (List ℕ)) (buffer : List ℕ) (result : Result ℕ WorldErr) : Type 0 where
  pub bound : IfOk result (λ count. count ≤ length buffer)
  pub bytes : MatchResult result (λ count. was ≡ bytes_then (take count buffer) now) (λ _. now ≡ was)
  pub ended : result ≡ Ok 0 → 0 < length buffer → IsEnded now

-- an end had taken so much, it has taken so much now, and a write of all these bytes has this answer (`write_all`): on an error it has
-- taken a front of them
pub record DidWrite {T : Type 0} (was now : Option (List ℕ)) (bytes : List ℕ) (result : Result T WorldErr) : Type 0 where
  pub ok : OnOk result (now ≡ then_bytes was bytes)
  pub err : OnErr result (GrewByPrefix was now bytes)

-- the same nodes have ends to read and to write, and what no call changes is the same
pub record KeepsEnds {Ends Kept : Type 0} (reading writing : Ends → ℕ → Bool) (holding : Ends → Kept) (old new : Ends) : Type 0 where
  pub reads : (node : ℕ) → reading new node ≡ reading old node
  pub writes : (node : ℕ) → writing new node ≡ writing old node
  pub borrows : holding new ≡ holding old
