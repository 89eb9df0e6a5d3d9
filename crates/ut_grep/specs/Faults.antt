-- The first fault of the patterns of grep (XCU grep; XBD 9): that of the first pattern which isn't read. Bytes as they stand have none.
use Rattle.std.specs.Prelude.{ℕ, ◌⊎◌, ◌&&◌, List, [], ◌∷◌, Bool, true, false, nat_le, Option, Some, None, if◌then◌else◌}
use Rattle.std.proofs.Common.{inl, inr}
use Rattle.ut_args.specs.declared.commands.Syntax.{Syntax}
use Rattle.ut_args.specs.declared.commands.Syntax.TheVariants as syntax
use Rattle.ut_regex.specs.declared.fault.ReFault.{ReFault}
use Rattle.ut_regex.specs.declared.fault.ReFault.TheVariants.{TooLarge}
use Rattle.ut_regex.specs.declared.sizes.TheConstants.{MAX_PLACES, MAX_NESTING}
use Rattle.ut_regex.specs.Reading.{Faults, IsRead}
use Rattle.ut_regex.specs.Sizes.{nesting, places}
use Rattle.ut_regex.specs.Tree.{Tree}
use Rattle.ut_regex.proofs.TotalLemmas.{reading}

-- an expression may be read
abbrev pub is_small : Tree → Bool
is_small re = nat_le (places re) MAX_PLACES && nat_le (nesting re) MAX_NESTING

-- the fault of a pattern: every text is an expression, which may be too large, or has a first fault
abbrev pub fault_read : (basic : Bool) (pattern : List ℕ) → IsRead basic pattern ⊎ ((fault : ReFault) × Faults basic pattern fault) → Option ReFault
fault_read basic pattern (inl read) = if is_small read.0 then None else Some TooLarge
fault_read basic pattern (inr faulty) = Some faulty.0

abbrev pub fault_of : Syntax → List ℕ → Option ReFault
fault_of syntax.Basic pattern = fault_read true pattern (reading true pattern)
fault_of syntax.Extended pattern = fault_read false pattern (reading false pattern)
fault_of syntax.Fixed pattern = None

-- the first pattern that has one, with its fault
abbrev pub or_faulty : List ℕ → Option ReFault → Option (List ℕ × ReFault) → Option (List ℕ × ReFault)
or_faulty pattern None later = later
or_faulty pattern (Some fault) later = Some (pattern, fault)

abbrev pub first_faulty : Syntax → List (List ℕ) → Option (List ℕ × ReFault)
first_faulty form [] = None
first_faulty form (pattern ∷ patterns) = or_faulty pattern (fault_of form pattern) (first_faulty form patterns)
