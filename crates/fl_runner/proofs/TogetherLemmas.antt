-- The jobs of a graph's nodes, and what came of them, held against the graph and its ends.
use Rattle.std.proofs.Common.{◌≡◌, ℕ, zero, suc, List, [], ◌∷◌, map, slice_get, Option, Some, refl, ap, sym, ◌∙◌}
use Rattle.std.specs.Option.{option_and_then}
use Rattle.std.proofs.lemmas.Option.{get_or_from_slice_get}
use Rattle.fl_graph.specs.declared.graphs.Cell.{Cell}
use Rattle.fl_graph.specs.declared.kinds.NodeKind.{NodeKind}
use Rattle.fl_core.specs.EndLists.{NodeEnd, end_at, own_end}
use Rattle.fl_core.specs.Roles.{HasRoles, end_by, role_at}
use Rattle.fl_core.specs.declared.end_lists.Ends.{Ends}
use Rattle.fl_core.specs.declared.roles.Role.{Role}
use Rattle.fl_core.specs.declared.roles.Role.TheVariants as role
use Rattle.fl_core.proofs.RoleLemmas.{end_of_role}

some_is : {X : Type 0} (one other : X) → Some one ≡ Some other → one ≡ other
some_is one other is = cc

-- what two lists tell in one order they tell in their places
pub told-at : {A B Told : Type 0} (tell : A → Told) (told : B → Told) (ones : List A) (others : List B) → map tell ones ≡ map told others → (place : ℕ) (one : A) → slice_get ones place ≡ Some one
    → (other : B) × ((slice_get others place ≡ Some other) × (tell one ≡ told other))
told-at tell told [] others same place one is = absurd (cc)
told-at tell told (first ∷ ones) [] same place one is = absurd (cc)
told-at {A} {B} {Told} tell told (first ∷ ones) (second ∷ others) same zero one is =
    let here : tell first ≡ told second = cc in
    (second, (refl, ap tell (sym (some_is first one is)) ∙ here))
told-at {A} {B} {Told} tell told (first ∷ ones) (second ∷ others) same (suc place) one is =
    let rest : map tell ones ≡ map told others = cc in told-at tell told ones others rest place one is

-- the end of a node, by its role
module _ {R W I O : Type 0} (cells : List (Cell NodeKind)) (ends : Ends R W I O) (roles : List Role) (own : HasRoles cells ends roles) where
  pub end_here : (node : ℕ) (cell : Cell NodeKind) → slice_get cells node ≡ Some cell → end_by (role_at roles node) ends ≡ own_end cell.kind node ends
  end_here node cell at =
      end_of_role cells _ _ roles own.all own.each ends refl refl node ∙ ap (λ (found : Option (Cell NodeKind)). option_and_then (λ (cell : Cell NodeKind). own_end cell.kind node ends) found) at

  -- what is told of the ends of all roles in order is told of each node's
  pub end_told : {A : Type 0} (tell : A → Option (NodeEnd R W I O)) (items : List A) → map tell items ≡ map (λ one. end_by one ends) roles → (node : ℕ) (item : A) → slice_get items node ≡ Some item
      → tell item ≡ end_at cells ends node
  end_told tell items same node item at =
      let found = told-at tell (λ (one : Role). end_by one ends) items roles same node item at in
      found.1.1
      ∙ ap (λ (one : Role). end_by one ends) (sym (get_or_from_slice_get roles node found.0 role.Nothing found.1.0))
      ∙ end_of_role cells _ _ roles own.all own.each ends refl refl node
