-- Bytes at which what is sought may begin, where these are one to three.
use Rattle.std.specs.Prelude.{ℕ, ◌≡◌, ◌<◌, ◌≤◌, Bool, true, false}
use Rattle.memchr.specs.Find.{is_byte3}

-- these bytes pass the test and no other; some of the three may be one
abbrev pub AreThese : (ℕ → Bool) → ℕ → ℕ → ℕ → Type 0
AreThese test first second third = (byte : ℕ) → byte < 256 → test byte ≡ is_byte3 first second third byte

-- the next byte that passes behind one that does, or that one where it is the last
pub record IsNext (test : ℕ → Bool) (member next : ℕ) : Type 0 where
  pub passes : test next ≡ true
  pub before : member ≤ next
  pub between : (byte : ℕ) → member < byte → byte < next → test byte ≡ false
  pub last : next ≡ member → (byte : ℕ) → member < byte → byte < 256 → test byte ≡ false
