-- The inputs of columns, as they are counted.
use Rattle.std.specs.Prelude.{◌≡◌, ◌<◌, ℕ, nat_lt, Some}
use Rattle.ut_slices.specs.Inner.Rows.{has_port}
use Rattle.ut_slices.specs.declared.columns.Columns.{Columns}

-- the columns have all inputs up to the next one, and no other
pub record AreUsed (columns : Columns) : Type 0 where
  pub used : (input : ℕ) → has_port input columns.inputs.items ≡ nat_lt input columns.next
  pub shared : (input : ℕ) → columns.standard ≡ Some input → input < columns.next
