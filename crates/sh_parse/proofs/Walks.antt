-- One step of what is read.
use Rattle.std.proofs.Common.{◌≡◌, ◌⊎◌, inl, inr, List, ◌∷◌, ◌++◌, ap, sym, ◌∙◌}
use Rattle.sh_parse.specs.Pieces.{WordViews}
use Rattle.sh_parse.specs.Inner.Owed.{Pending, Move, push, opens, skip, stuck, move}
use Rattle.sh_parse.specs.Inner.Building.{State, walked, walk_by, acted, left_out, role_of}
use Rattle.sh_parse.specs.declared.items.Item.{Item}

module _ (views : WordViews) (first : Item) (part : Pending) (stack : List Pending) (now : State) where
  by_move : (m : Move) → move part first ≡ m
      → walked views (part ∷ stack) first now
      ≡ walk_by m stack (acted views (role_of part) first now) (walked views stack first (left_out part now))
  by_move m e = ap (λ x. walk_by x stack (acted views (role_of part) first now) (walked views stack first (left_out part now))) e

  pub goes_on : (parts behind : List Pending) (after : State) → (move part first ≡ push parts) ⊎ (move part first ≡ opens parts)
      → behind ≡ parts ++ stack → after ≡ acted views (role_of part) first now → walked views (part ∷ stack) first now ≡ (behind, after)
  goes_on parts behind after m e same = either m ∙ ap (λ x. (x, acted views (role_of part) first now)) (sym e) ∙ ap (λ x. (behind, x)) (sym same)
    where
      either : (move part first ≡ push parts) ⊎ (move part first ≡ opens parts)
          → walked views (part ∷ stack) first now ≡ (parts ++ stack, acted views (role_of part) first now)
      either (inl m) = by_move (push parts) m
      either (inr m) = by_move (opens parts) m

  pub left_over : (after : State) → (move part first ≡ skip) ⊎ (move part first ≡ stuck) → after ≡ left_out part now
      → walked views (part ∷ stack) first now ≡ walked views stack first after
  left_over after (inl m) same = by_move skip m ∙ ap (λ x. walked views stack first x) (sym same)
  left_over after (inr m) same = by_move stuck m ∙ ap (λ x. walked views stack first x) (sym same)
