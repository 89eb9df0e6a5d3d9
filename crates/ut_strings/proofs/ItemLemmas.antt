-- Counts from a place on.
use Rattle.std.proofs.Common.{◌≡◌, ℕ, ◌+◌, Option, Some, None, option_map, refl, ap, sym, add_assoc, arith}
use Rattle.ut_strings.specs.Items.{one_more}

-- a count, with so many before it
abbrev pub raised : ℕ → Option ℕ → Option ℕ
raised before count = option_map (λ number. before + number) count

pub raised-more : (before : ℕ) (count : Option ℕ) → raised before (one_more count) ≡ raised (before + 1) count
raised-more before None = refl
raised-more before (Some number) = ap Some (omega arith)

pub raised-none : (count : Option ℕ) → count ≡ raised 0 count
raised-none None = refl
raised-none (Some number) = ap Some (omega arith)

pub ruleset count_steps = (raised-more, raised-none)
