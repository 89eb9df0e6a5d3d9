-- Counts of faults. Each object of the outside keeps one; it never falls, and it has 64 bits, so it stands still at its type's end.
use Rattle.std.specs.Prelude.{◌≡◌, ℕ, ◌+◌, ◌-◌, ◌<◌, ◌^◌, ◌≤◌, min, Result, OnOk, IsErrOf}
use Rattle.ps_world.specs.declared.error.WorldErr.{WorldErr}
use Rattle.ps_world.specs.declared.error.WorldErr.TheVariants.{Failed, Memory}

-- one more, up to the end of the counter's type
abbrev pub one_more : ℕ → ℕ
one_more count = min (count + 1) (2 ^ 64 - 1)

-- a count rose, or stood at its type's end as the call began, where it shows nothing
abbrev pub Rose : ℕ → ℕ → Type 0
Rose before now = one_more before ≤ now

-- what a call's answer says of its object's count: it never falls, it rose where the call failed, and stands elsewhere
pub record Counts {T : Type 0} (before now : ℕ) (result : Result T WorldErr) : Type 0 where
  pub later : before ≤ now
  pub failed : IsErrOf result Failed → Rose before now
  pub ok : OnOk result (now ≡ before)
  pub memory : IsErrOf result Memory → now ≡ before

-- what the answer to a writer's return says of the tree's count: it never falls, it rose where the writer's count is above 0 and where
-- the return failed, and stands elsewhere
pub record CountsReturn {T : Type 0} (of_writer before now : ℕ) (result : Result T WorldErr) : Type 0 where
  pub later : before ≤ now
  pub writer : 0 < of_writer → Rose before now
  pub failed : IsErrOf result Failed → Rose before now
  pub ok : of_writer ≡ 0 → OnOk result (now ≡ before)
  pub memory : of_writer ≡ 0 → IsErrOf result Memory → now ≡ before
