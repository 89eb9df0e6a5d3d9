-- One step of the code that seeks the first misuse.
use Rattle.std.proofs.Common.{◌≡◌, ◌⊎◌, inl, inr, true, false, List, [], ◌∷◌, ◌++◌, sym, ap}
use Rattle.sh_parse.specs.Inner.Owed.{Pending, Move, push, opens, skip, stuck, move, moved, step}
use Rattle.sh_parse.specs.Inner.Moves.{owing_of}
use Rattle.sh_parse.specs.Inner.Seeking.{takes, may_open, owed_behind}
use Rattle.sh_parse.proofs.Checks.{push_is, opens_is, skip_is, stuck_is}
use Rattle.sh_parse.specs.declared.items.Item.{Item}
use Rattle.sh_parse.specs.declared.items.Item.TheVariants as item
use Rattle.sh_parse.specs.declared.parts.Parts.{Parts}
use Rattle.sh_parse.specs.declared.parts.Move.TheVariants as by
use Rattle.sh_parse.specs.declared.parts.Owing.{Owing}

module _ (first : Item) (part : Pending) (stack : List Pending) where
  by_move : (m : Move) → move part first ≡ m → step (part ∷ stack) first ≡ moved m stack (step stack first)
  by_move m e = ap (λ x. moved x stack (step stack first)) e

  pub step_goes : (parts : List Pending) → (move part first ≡ push parts) ⊎ (move part first ≡ opens parts)
      → owed_behind (step (part ∷ stack) first) ≡ parts ++ stack
  step_goes parts (inl e) = ap owed_behind (by_move (push parts) e)
  step_goes parts (inr e) = ap owed_behind (by_move (opens parts) e)

  pub step_skips : move part first ≡ skip → step (part ∷ stack) first ≡ step stack first
  step_skips e = by_move skip e

  pub step_stuck : move part first ≡ stuck → owed_behind (step (part ∷ stack) first) ≡ []
  step_stuck e = ap owed_behind (by_move stuck e)

module _ (part : Pending) (below : List Pending) (owing : Owing) (same : owing_of owing ≡ move part (item.Open 0)) where
  by_open : (m : Move) → move part (item.Open 0) ≡ m → may_open (part ∷ below) ≡ takes m (may_open below)
  by_open m e = ap (λ x. takes x (may_open below)) e

  pub open_goes : ((parts : Parts) × (owing.what ≡ by.Push parts)) ⊎ ((parts : Parts) × (owing.what ≡ by.Opens parts))
      → true ≡ may_open (part ∷ below)
  open_goes (inl (parts, is)) = sym (by_open _ (push_is owing (move part (item.Open 0)) parts same is))
  open_goes (inr (parts, is)) = sym (by_open _ (opens_is owing (move part (item.Open 0)) parts same is))

  pub open_skips : owing.what ≡ by.Skip → may_open (part ∷ below) ≡ may_open below
  open_skips is = by_open skip (skip_is owing (move part (item.Open 0)) same is)

  pub open_stuck : owing.what ≡ by.Stuck → false ≡ may_open (part ∷ below)
  open_stuck is = sym (by_open stuck (stuck_is owing (move part (item.Open 0)) same is))
