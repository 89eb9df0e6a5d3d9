-- What isn't written holds what it held.
use Rattle.std.proofs.Common.{◌≡◌, ℕ, List, [], ◌∷◌, ◌++◌, Bool, inr, if◌then◌else◌, Option, subst, sym}
use Rattle.std.specs.Option.{option_map}
use Rattle.ps_world.specs.Files.{Bytes, Files, IsOneOf, bytes_at}
use Rattle.ps_world.specs.Paths.{Components}
use Rattle.fl_commands.specs.Writers.{ChangesOnly}
use Rattle.fl_commands.proofs.WriterLemmas.{among-front, only-more, only-set, only-within}
use Rattle.sh_eval.specs.Leading.{begun_at}
use Rattle.sh_eval.specs.Writing.{added_to}

-- more is written
pub kept-more : (first held : Option Files) (were written paths : List Components) (held' : Option Files) → ((path : Components) → IsOneOf were path → IsOneOf written path)
    → ((path : Components) → IsOneOf paths path → IsOneOf written path) → ChangesOnly were first held → ChangesOnly paths held held' → ChangesOnly written first held'
kept-more first held were written paths held' before among kept only = only-more (only-within before kept) (only-within among only)

-- a path is
pub kept-step : (first held : Option Files) (were : List Components) (path : Components) (held' : Option Files) → ChangesOnly were first held → ChangesOnly (path ∷ []) held held' → ChangesOnly (path ∷ were) first held'
kept-step first held were path held' kept only =
    kept-more first held were (path ∷ were) (path ∷ []) held' (λ at one. inr one) (among-front (path ∷ []) were) kept only

-- a file is begun, or is longer
pub only-begun : (anew : Bool) (path : Components) (held held' : Option Files) → held' ≡ option_map (begun_at anew path) held → ChangesOnly (path ∷ []) held held'
only-begun anew path held held' is =
    subst (ChangesOnly (path ∷ []) held) (sym is) (only-set path (λ (files : Files). Bytes (if anew then [] else bytes_at files path)) held)

pub only-added : (path : Components) (bytes : List ℕ) (held held' : Option Files) → held' ≡ option_map (added_to path bytes) held → ChangesOnly (path ∷ []) held held'
only-added path bytes held held' is =
    subst (ChangesOnly (path ∷ []) held) (sym is) (only-set path (λ (files : Files). Bytes (bytes_at files path ++ bytes)) held)
