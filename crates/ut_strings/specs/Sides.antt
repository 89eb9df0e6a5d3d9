-- What a string stands for, before and behind the place that is filled.
use Rattle.std.specs.Prelude.{ℕ, List, Option}

-- the bytes before that place, the byte that fills it, if there is such a place, and the bytes behind it
pub record Sides : Type 0 where
  pub front : List ℕ
  pub fill : Option ℕ
  pub back : List ℕ
