-- When what a machine has written is put (own).
use Rattle.std.specs.Prelude.{ℕ, List, length, nat_le, Bool}
use Rattle.fl_machines.specs.declared.waiting.TheConstants.{HALF_PIECE}

-- so much waits that it is put before more is taken
abbrev pub is_worth_putting : List ℕ → Bool
is_worth_putting waiting = nat_le HALF_PIECE (length waiting)
