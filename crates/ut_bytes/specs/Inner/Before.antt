-- The byte before the next one, as a number: 256 where there is none.
use Rattle.std.specs.Prelude.{ℕ, ◌==◌, Option, None, Some, if◌then◌else◌}

abbrev pub before_of : ℕ → Option ℕ
before_of last = if last == 256 then None else Some last
