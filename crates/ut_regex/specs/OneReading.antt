-- Every text has one reading.
use Rattle.std.specs.Prelude.{ℕ, ◌≡◌, ◌⊎◌, Bool, List}
use Rattle.ut_regex.specs.declared.fault.ReFault.{ReFault}
use Rattle.ut_regex.specs.Tree.{Tree}
use Rattle.ut_regex.specs.Reading.{Reads, Faults}
use Rattle.ut_regex.specs.Same.{SameTree}

-- the text is an expression of this tree, of no other, and has no fault
pub record HasTree (basic : Bool) (text : List ℕ) (re : Tree) : Type 0 where
  pub reads : Reads basic text re
  pub only : (other : Tree) → Reads basic text other → SameTree re other
  pub no_fault : (fault : ReFault) → Faults basic text fault → ⊥

-- the text has this first fault, no other, and is no expression
pub record HasFirstFault (basic : Bool) (text : List ℕ) (fault : ReFault) : Type 0 where
  pub met : Faults basic text fault
  pub only : (other : ReFault) → Faults basic text other → other ≡ fault
  pub not_read : (re : Tree) → Reads basic text re → ⊥

-- the text is an expression of exactly one tree or has exactly one first fault, and not both
abbrev pub HasOneReading : Bool → List ℕ → Type 0
HasOneReading basic text = ((re : Tree) × HasTree basic text re) ⊎ ((fault : ReFault) × HasFirstFault basic text fault)
