-- The resolution of a path, component by component.
use Rattle.std.proofs.Common.{◌≡◌, ℕ, List, [], ◌∷◌, Option, Some, None, Bool, true, false, cond, refl, sym, ap, ◌∙◌}
use Rattle.std.specs.Option.{IfSome, option_map_or}
use Rattle.std.specs.List.{onto_first}
use Rattle.ps_world.specs.Paths.{components, Components, is_slash}
use Rattle.ps_world.specs.Files.{Files}
use Rattle.ps_world.specs.Places.{enter, resolve_from, BeginsWithComponent}
use Rattle.ps_world.specs.declared.places.Place.TheVariants as place

-- every text has a first component
first_of : (byte : ℕ) (begins : Bool) (parts : List (List ℕ)) → (first : List ℕ) × ((others : List (List ℕ)) × (cond begins ([] ∷ parts) (onto_first byte parts) ≡ first ∷ others))
first_of byte true parts = ([], (parts, refl))
first_of byte false [] = (byte ∷ [], ([], refl))
first_of byte false (part ∷ parts) = (byte ∷ part, (parts, refl))

components-begin : (text : List ℕ) → (first : List ℕ) × ((others : List (List ℕ)) × (components text ≡ first ∷ others))
components-begin [] = ([], ([], refl))
components-begin (byte ∷ text) = first_of byte (is_slash byte) (components text)

-- a component that isn't the last leads on from the directory that it names, or nowhere
pub resolve_from-enter : (files : Files) (dir : Components) (component rest : List ℕ)
    → resolve_from files dir (component ∷ components rest)
    ≡ option_map_or (λ inner. resolve_from files inner (components rest)) (enter files dir component) place.Missing
resolve_from-enter files dir component rest = let parts = components-begin rest in rw parts.1.1 refl

-- where a component leads nowhere, the path names nothing
pub resolve_from-stuck : (held : Option Files) (start dir : Components) (text left component rest : List ℕ)
    → IfSome held (λ files. resolve_from files start (components text) ≡ resolve_from files dir (components left))
    → BeginsWithComponent left component rest
    → IfSome held (λ files. enter files dir component ≡ None)
    → IfSome held (λ files. place.Missing ≡ resolve_from files start (components text))
resolve_from-stuck None start dir text left component rest so_far begins nowhere = tt
resolve_from-stuck (Some files) start dir text left component rest so_far begins nowhere =
    sym (so_far ∙ ap (resolve_from files dir) begins.components_are ∙ resolve_from-enter files dir component rest ∙ ap (λ inner. option_map_or (λ next. resolve_from files next (components rest)) inner place.Missing) nowhere)
