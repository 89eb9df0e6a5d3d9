-- What the operands of a utility name (XCU, each utility's page): the standard input, or what a path leads to.
use Rattle.std.specs.Prelude.{◌≡◌, ℕ, List, [], ◌∷◌, ◌++◌, Bool, true, false, not, ◌&&◌, if◌then◌else◌}
use Rattle.ps_world.specs.Files.{Files}
use Rattle.ps_world.specs.Paths.{Components}
use Rattle.ps_world.specs.Places.{IsNoNullPath, StandsIn, resolve}
use Rattle.ps_world.specs.declared.places.Place.{Place}
use Rattle.ps_world.specs.declared.places.Place.TheVariants as place
use Rattle.ut_args.specs.Inputs.{is_standard}
pub use Rattle.ut_args.specs.Inputs.{deals}
use Rattle.fl_segments.specs.declared.stages.In.{In}
use Rattle.fl_segments.specs.declared.stages.In.TheVariants as inlet
use Rattle.fl_commands.specs.declared.operands.Operand.{Operand}
use Rattle.fl_commands.specs.declared.operands.Operand.TheVariants as operand

-- what a text names, in these files and from this working directory
abbrev pub named : Files → Components → List ℕ → Operand
named files home text = if is_standard text then operand.Standard else operand.At (resolve files home text)

-- there is something to read: a file, or the null device
abbrev pub is_readable : Place → Bool
is_readable place.Missing = false
is_readable (place.Makeable path) = false
is_readable (place.Dir path) = false
is_readable (place.File path) = true
is_readable place.Null = true

-- an operand has no input
abbrev pub lacks : Operand → Bool
lacks operand.Standard = false
lacks (operand.At place) = not (is_readable place)

-- the inputs that operands name. The first `-` takes the standard input to its end: the next ones are empty, or no inputs where its lines are
-- dealt
abbrev pub in_at : Place → List In
in_at place.Missing = []
in_at (place.Makeable path) = []
in_at (place.Dir path) = []
in_at (place.File path) = inlet.File path false ∷ []
in_at place.Null = inlet.Empty ∷ []

abbrev pub in_again : Bool → List In
in_again deals = if deals then [] else inlet.Empty ∷ []

abbrev pub in_standard : Bool → Bool → List In
in_standard deals is_taken = if is_taken then in_again deals else inlet.Stream ∷ []

abbrev pub ins_from : Bool → Bool → List Operand → List In
ins_from deals is_taken [] = []
ins_from deals is_taken (operand.Standard ∷ rest) = in_standard deals is_taken ++ ins_from deals true rest
ins_from deals is_taken (operand.At place ∷ rest) = in_at place ++ ins_from deals is_taken rest

-- without an operand the standard input is read
abbrev pub ins_of : Bool → List Operand → List In
ins_of deals [] = inlet.Stream ∷ []
ins_of deals (first ∷ rest) = ins_from deals false (first ∷ rest)

-- which operands give no input of their own: those that have none, and, where lines are dealt, each `-` but the first
abbrev pub without_input : Bool → Bool → List Operand → List Bool
without_input deals is_taken [] = []
without_input deals is_taken (operand.Standard ∷ rest) = (deals && is_taken) ∷ without_input deals true rest
without_input deals is_taken (operand.At place ∷ rest) = lacks (operand.At place) ∷ without_input deals is_taken rest

-- WHERE NO FILES ARE TOLD: the empty text names nothing, no path is that of the null device, and `-` names the standard input, which nothing
-- else does
abbrev pub IsEmptyMissing : List ℕ → Operand → Type 0
IsEmptyMissing [] found = found ≡ operand.At place.Missing
IsEmptyMissing (byte ∷ bytes) found = Unit {0}

abbrev pub IsApart : Operand → Type 0
IsApart operand.Standard = Unit {0}
IsApart (operand.At place) = IsNoNullPath place

abbrev pub is_stream_operand : Operand → Bool
is_stream_operand operand.Standard = true
is_stream_operand (operand.At place) = false

pub record IsNamed (text : List ℕ) (found : Operand) : Type 0 where
  pub empty : IsEmptyMissing text found
  pub apart : IsApart found
  pub standard : is_standard text ≡ is_stream_operand found

abbrev pub AreNamed : List (List ℕ) → List Operand → Type 0
AreNamed [] [] = Unit {0}
AreNamed [] (first ∷ rest) = ⊥
AreNamed (text ∷ texts) [] = ⊥
AreNamed (text ∷ texts) (first ∷ rest) = IsNamed text first × AreNamed texts rest

-- WHERE FILES ARE TOLD: what is named stands there
abbrev pub Stands : Files → Operand → Type 0
Stands files operand.Standard = Unit {0}
Stands files (operand.At place) = StandsIn files place

abbrev pub AllStand : Files → List Operand → Type 0
AllStand files [] = Unit {0}
AllStand files (first ∷ rest) = Stands files first × AllStand files rest
