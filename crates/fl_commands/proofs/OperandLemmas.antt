-- What operands name, one behind the other.
use Rattle.std.proofs.Common.{◌≡◌, ℕ, List, [], ◌∷◌, ◌++◌, refl}
use Rattle.std.proofs.Common.{false, ap}
use Rattle.std.specs.FinMap as map
use Rattle.ps_world.specs.Files.{Files}
use Rattle.ps_world.specs.Paths.{Components}
use Rattle.ps_world.specs.Places.{needs_files, resolve}
use Rattle.ps_world.specs.declared.places.Place.{Place}
use Rattle.ut_args.specs.Inputs.{is_standard}
use Rattle.fl_commands.specs.Operands.{AllStand, AreNamed, IsApart, IsEmptyMissing, Stands, is_stream_operand}
use Rattle.fl_commands.specs.declared.operands.Operand.{Operand}
use Rattle.fl_commands.specs.declared.operands.Operand.TheVariants as operand

-- one more stands there
pub all-stand : (files : Files) (before : List Operand) (last : Operand) → AllStand files before → Stands files last → AllStand files (before ++ last ∷ [])
all-stand files [] last stand one = (one, tt)
all-stand files (first ∷ before) last stand one = (stand.0, all-stand files before last stand.1 one)

-- one more is named
pub are-named : (texts : List (List ℕ)) (before : List Operand) (text : List ℕ) (last : Operand) → AreNamed texts before → IsEmptyMissing text last → IsApart last
    → is_standard text ≡ is_stream_operand last → AreNamed (texts ++ text ∷ []) (before ++ last ∷ [])
are-named [] [] text last are empty apart standard = (record { empty = empty; apart = apart; standard = standard }, tt)
are-named [] (first ∷ before) text last are empty apart standard = absurd are
are-named (other ∷ texts) [] text last are empty apart standard = absurd are
are-named (other ∷ texts) (first ∷ before) text last are empty apart standard = (are.0, are-named texts before text last are.1 empty apart standard)

-- the empty text names nothing, whatever files there are
pub empty-missing : (text : List ℕ) (place : Place) → (needs_files text ≡ false → (files : Files) (home : Components) → place ≡ resolve files home text) → IsEmptyMissing text (operand.At place)
empty-missing [] place is = ap operand.At (is refl map.empty [])
empty-missing (byte ∷ bytes) place is = tt

pub ruleset operand_steps = (all-stand, are-named)
