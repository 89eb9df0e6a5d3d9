-- Whether a line has an expression, as a value: what the machine of the expression answers, which carries a set of places along the line.
-- That it is true of exactly the lines that have the expression is a law (`laws::lines_are_answered`).
use Rattle.std.specs.Prelude.{ℕ, not, Bool, true, false, ◌&&◌, List, [], ◌∷◌, if◌then◌else◌}
use Rattle.ut_regex.specs.declared.finder.Matcher.{Matcher}
use Rattle.ut_regex.specs.declared.program.Op.{Op}
use Rattle.ut_regex.specs.Tree.{Tree}
use Rattle.ut_regex.specs.Inner.Program.{core, steps}
use Rattle.ut_regex.specs.Inner.Tables.{State, first_state, after, leads_at}

-- the answer of a machine for what is left of a line, from a state on
abbrev pub answered : List Op → Bool → Bool → State → List ℕ → Bool
answered ops fold whole s [] = leads_at ops whole true s
answered ops fold whole s (byte ∷ rest) = if not whole && leads_at ops whole false s then true else answered ops fold whole (after ops fold whole s byte) rest

-- a line has the expression; with `fold` letters are compared in both cases, and with `whole` the expression is the whole line
abbrev pub is_had : Bool → Bool → Tree → List ℕ → Bool
is_had fold whole re line = answered (steps (core re)) fold whole first_state line

-- what a matcher answers for a line
abbrev pub answers : Matcher → List ℕ → Bool
answers matcher line = answered matcher.machine.steps.items matcher.machine.fold matcher.machine.whole first_state line
