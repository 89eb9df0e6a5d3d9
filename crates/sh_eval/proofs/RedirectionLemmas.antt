-- Redirections as they are done.
use Rattle.std.proofs.Common.{◌≡◌, ℕ, List, [], Bool, true, false, if◌then◌else◌, Option, Some, None, IfSome, Result, Ok, Err, OnOk, refl, ap, ◌∙◌, subst}
use Rattle.std.specs.FinMap as map
use Rattle.std.specs.Option.{option_map}
use Rattle.ps_world.specs.Paths.{Components}
use Rattle.ps_world.specs.Files.{Files, Bytes, bytes_at, begun}
use Rattle.ps_world.specs.TreeState.{TreeState, IsFilled, lend, take_out, take_back, fill}
use Rattle.ps_world.specs.declared.error.WorldErr.{WorldErr}
use Rattle.ps_world.specs.declared.tree.Mode.{Mode}
use Rattle.ps_world.proofs.WritingLemmas.{fill-take_out}
use Rattle.sh_eval.specs.Leading.{begun_at, mode_of}

begun-so : (anew : Bool) (path : Components) (files : Files) → begun files path (mode_of anew) ≡ (if anew then [] else bytes_at files path)
begun-so true path files = refl
begun-so false path files = refl

-- what the files are when one is begun, and its writer has come back at once
pub held-begun : (old mid new : TreeState) (anew : Bool) (path : Components) (how : Mode) (taken : Option (List ℕ)) (outcome : Result Unit WorldErr) → how ≡ mode_of anew
    → IfSome old.held (λ files. taken ≡ Some (begun files path how)) → mid ≡ lend (take_out path old) → OnOk outcome (IsFilled path taken mid new) → OnOk outcome (new.held ≡ option_map (begun_at anew path) old.held)
held-begun old mid new anew path how taken (Err fault) is begins out filled = tt
held-begun old mid new anew path how taken (Ok value) is begins out filled =
    ap (λ (state : TreeState). state.held)
    (filled.state ∙ ap (λ (state : TreeState). take_back (fill path filled.bytes state)) out ∙ ap (λ (state : TreeState). take_back (lend state)) (fill-take_out old path filled.bytes))
    ∙ by_held old.held begins
  where
    by_held : (held : Option Files) → IfSome held (λ files. taken ≡ Some (begun files path how)) → option_map (λ (files : Files). map.insert files path (Bytes filled.bytes)) held ≡ option_map (begun_at anew path) held
    by_held None begins = refl
    by_held (Some files) begins =
        let same : filled.bytes ≡ begun files path how = subst (λ (told : Option (List ℕ)). IfSome told (λ written. filled.bytes ≡ written)) begins filled.told in
        ap (λ (it : List ℕ). Some (map.insert files path (Bytes it))) (same ∙ ap (begun files path) is ∙ begun-so anew path files)
