-- Variables (XCU 2.5): a finite map from names to texts. The code keeps a list in the order of the names.
use Rattle.std.specs.Prelude.{◌≡◌, ℕ, zero, suc, List, [], ◌∷◌, map, T}
use Rattle.std.specs.FinMap as variables
use Rattle.std.specs.declared.cmp.Ordering.TheVariants.{Less, Greater}
use Rattle.sh_arith.specs.declared.variables.Variable.{Variable}
use Rattle.sh_arith.specs.Names.{name_cmp}

-- the variables that are set, each with its text
abbrev pub Variables : Type 0
Variables = variables.FinMap name_cmp (List ℕ)

-- each variable's name and text
abbrev pub pairs : List Variable → List (List ℕ × List ℕ)
pairs = map (λ variable. (variable.name, variable.value))

-- the map that a list of variables stands for
abbrev pub variables_of : List Variable → variables.FinMap name_cmp (List ℕ)
variables_of list = variables.from_entries (pairs list)

-- the names strictly rise
abbrev pub AreOrdered : List Variable → Type 0
AreOrdered list = T (variables.is_sorted name_cmp (pairs list))

-- the variable of this name stands at this place
abbrev pub IsAt : List ℕ → List Variable → ℕ → Type 0
IsAt name [] place = ⊥
IsAt name (variable ∷ rest) zero = variable.name ≡ name
IsAt name (variable ∷ rest) (suc place) = IsAt name rest place

-- the names of all are above this one
abbrev pub AreAbove : List ℕ → List Variable → Type 0
AreAbove name [] = Unit {0}
AreAbove name (variable ∷ rest) = (name_cmp variable.name name ≡ Greater) × AreAbove name rest

-- the names before this place are below this one, and those from it on above it
abbrev pub IsGapFor : List ℕ → List Variable → ℕ → Type 0
IsGapFor name list zero = AreAbove name list
IsGapFor name [] (suc place) = ⊥
IsGapFor name (variable ∷ rest) (suc place) = (name_cmp variable.name name ≡ Less) × IsGapFor name rest place
