-- What a stack of bits holds, and how many it has room for.
use Rattle.std.specs.Prelude.{ℕ, Bool, List}
use Rattle.ut_regex.specs.Inner.Sweeps.{Rising, Sinking}

pub record Held : Type 0 where
  pub bits : List Bool
  pub capacity : ℕ

-- what the three stacks of the sweep up hold
abbrev pub rising : Held → Held → Held → Rising
rising values marks kept = record { values = values.bits; marks = marks.bits; kept = kept.bits }

-- what the three stacks of the sweep back hold
abbrev pub sinking : Held → Held → Held → Sinking
sinking entries kept marks = record { entries = entries.bits; kept = kept.bits; marks = marks.bits }
