-- Programs of a matcher: expressions whose repetitions are written out, with a mark at each byte that was just read.
use Rattle.std.specs.Prelude.{ℕ, zero, suc, ◌-◌, ◌==◌, if◌then◌else◌, Bool, false, List, [], ◌∷◌, ◌++◌, map, reverse, Option, Some, None, Vec}
use Rattle.ut_regex.specs.declared.tree.Leaf.{Leaf}
use Rattle.std.specs.declared.alloc.Global.{Global}
use Rattle.ut_regex.specs.declared.program.Op.{Op}
use Rattle.ut_regex.specs.declared.program.Op.TheVariants as op
use Rattle.ut_regex.specs.Tree.{Tree, leaf, line_begin, line_end, empty, group, sequence, alternative, repetition}

-- an expression whose repetitions are written out. The mark of a point says that its byte was the last one read
pub data Core : Type 0 where
  point : Leaf → Bool → Core
  at_begin : Core
  at_end : Core
  nothing : Core
  both : Core → Core → Core
  either : Core → Core → Core
  many : Core → Core
  maybe : Core → Core

-- a part so many times
abbrev pub copies : Core → ℕ → Core
copies part zero = nothing
copies part (suc count) = both (copies part count) part

-- so many times more, each of which may be left out
abbrev pub options : Core → Core → ℕ → Core
options front part zero = front
options front part (suc count) = both (options front part count) (maybe part)

-- a part that may stand once at most
abbrev pub at_most_once : ℕ → Core → Core
at_most_once zero part = maybe part
at_most_once (suc low) part = part

-- a part as often as bounds say
abbrev pub repeated : Option ℕ → ℕ → Core → Core
repeated None zero part = many part
repeated None (suc low) part = both (copies part (suc low)) (many part)
repeated (Some high) low part = if high == 1 then at_most_once low part else options (copies part low) part (high - low)

-- the program of an expression, without a mark
abbrev pub core : Tree → Core
core (leaf one) = point one false
core line_begin = at_begin
core line_end = at_end
core empty = nothing
core (group part) = core part
core (sequence first second) = both (core first) (core second)
core (alternative first second) = either (core first) (core second)
core (repetition bounds part) = repeated bounds.high bounds.low (core part)

-- the programs of trees
abbrev pub cores : List Tree → List Core
cores trees = map (λ re. core re) trees

-- the steps of a program, in postfix
abbrev pub steps : Core → List Op
steps (point one mark) = op.Point one ∷ []
steps at_begin = op.Begin ∷ []
steps at_end = op.End ∷ []
steps nothing = op.Empty ∷ []
steps (both first second) = steps first ++ steps second ++ op.Both ∷ []
steps (either first second) = steps first ++ steps second ++ op.Either ∷ []
steps (many part) = steps part ++ op.Many ∷ []
steps (maybe part) = steps part ++ op.Maybe ∷ []

-- the steps of the parts that a stack of them holds, of which the last comes first
abbrev pub parts_of : List (Vec Op Global) → List (List Op)
parts_of parts = reverse (map (λ part. part.items) parts)

-- the steps of each tree's program
abbrev pub programs : List Tree → List (List Op)
programs trees = map (λ re. steps (core re)) trees
