-- One step of the check.
use Rattle.std.proofs.Common.{◌≡◌, ◌⊎◌, inl, inr, ℕ, ◌+◌, ◌<◌, ◌≤◌, List, [], ◌∷◌, ◌++◌, length, cond, sym, ◌∙◌, ap, nat_le}
use Rattle.std.proofs.lemmas.Bool.{le-leb, lt-leb}
use Rattle.sh_parse.specs.Inner.Owed.{Pending, Move, push, opens, skip, stuck, move, moved, step, levels, verdict, verdict_behind, bad, deep}
use Rattle.sh_parse.specs.Inner.Moves.{parts_of, move_of, with_more, owing_of, stacked}
use Rattle.sh_parse.proofs.Runs.{on_push, on_skip, on_opens}
use Rattle.sh_parse.proofs.Movings.{stacked_last}
use Rattle.sh_parse.specs.declared.items.Item.{Item}
use Rattle.sh_parse.specs.declared.items.TheConstants.{MAX_LEVELS}
use Rattle.sh_parse.specs.declared.parts.Parts.{Parts}
use Rattle.sh_parse.specs.declared.parts.Move.TheVariants as by
use Rattle.sh_parse.specs.declared.parts.Owing.{Owing}

pub popped : (old new : List Pending) (part : Pending) → old ≡ new ++ part ∷ [] → stacked old ≡ part ∷ stacked new
popped old new part e = ap stacked e ∙ stacked_last new part

pub push_is : (owing : Owing) (m : Move) (parts : Parts) → owing_of owing ≡ m → owing.what ≡ by.Push parts
    → m ≡ push (parts_of parts ++ parts_of owing.behind)
push_is owing m parts e is = sym e ∙ ap (λ w. with_more (move_of w) (parts_of owing.behind)) is

pub opens_is : (owing : Owing) (m : Move) (parts : Parts) → owing_of owing ≡ m → owing.what ≡ by.Opens parts
    → m ≡ opens (parts_of parts ++ parts_of owing.behind)
opens_is owing m parts e is = sym e ∙ ap (λ w. with_more (move_of w) (parts_of owing.behind)) is

pub skip_is : (owing : Owing) (m : Move) → owing_of owing ≡ m → owing.what ≡ by.Skip → m ≡ skip
skip_is owing m e is = sym e ∙ ap (λ w. with_more (move_of w) (parts_of owing.behind)) is

pub stuck_is : (owing : Owing) (m : Move) → owing_of owing ≡ m → owing.what ≡ by.Stuck → m ≡ stuck
stuck_is owing m e is = sym e ∙ ap (λ w. with_more (move_of w) (parts_of owing.behind)) is

pub goes_is : (owing : Owing) (m : Move) (parts : Parts) → owing_of owing ≡ m → (owing.what ≡ by.Push parts) ⊎ (owing.what ≡ by.Opens parts)
    → (m ≡ push (parts_of parts ++ parts_of owing.behind)) ⊎ (m ≡ opens (parts_of parts ++ parts_of owing.behind))
goes_is owing m parts e (inl is) = inl (push_is owing m parts e is)
goes_is owing m parts e (inr is) = inr (opens_is owing m parts e is)

pub halts_is : (owing : Owing) (m : Move) → owing_of owing ≡ m → (owing.what ≡ by.Skip) ⊎ (owing.what ≡ by.Stuck) → (m ≡ skip) ⊎ (m ≡ stuck)
halts_is owing m e (inl is) = inl (skip_is owing m e is)
halts_is owing m e (inr is) = inr (stuck_is owing m e is)

module _ (first : Item) (part : Pending) (stack : List Pending) (rest : List Item) where
  pub push_steps : (parts behind : List Pending) → move part first ≡ push parts → behind ≡ parts ++ stack
      → verdict MAX_LEVELS (first ∷ rest) (part ∷ stack) ≡ verdict MAX_LEVELS rest behind
  push_steps parts behind m e = on_push MAX_LEVELS part first rest parts stack m ∙ ap (λ s. verdict MAX_LEVELS rest s) (sym e)

  pub opens_steps : (parts behind : List Pending) → move part first ≡ opens parts → behind ≡ parts ++ stack → levels behind ≤ MAX_LEVELS
      → verdict MAX_LEVELS (first ∷ rest) (part ∷ stack) ≡ verdict MAX_LEVELS rest behind
  opens_steps parts behind m e less =
      on_opens MAX_LEVELS part first rest parts stack m (ap (λ s. nat_le (levels s) MAX_LEVELS) (sym e) ∙ le-leb (levels behind) MAX_LEVELS less)
      ∙ ap (λ s. verdict MAX_LEVELS rest s) (sym e)

  pub opens_over : (parts behind : List Pending) (left : ℕ) → move part first ≡ opens parts → behind ≡ parts ++ stack → MAX_LEVELS < levels behind
      → length rest + 1 ≡ left → verdict MAX_LEVELS (first ∷ rest) (part ∷ stack) ≡ deep left
  opens_over parts behind left m e more count =
      ap (λ n. verdict_behind MAX_LEVELS (length rest + 1) (verdict MAX_LEVELS rest) (moved n stack (step stack first))) m
      ∙ ap (λ b. cond b (verdict MAX_LEVELS rest (parts ++ stack)) (deep (length rest + 1)))
      (ap (λ s. nat_le (levels s) MAX_LEVELS) (sym e) ∙ lt-leb (levels behind) MAX_LEVELS more)
      ∙ ap deep count

  pub skip_steps : move part first ≡ skip → verdict MAX_LEVELS (first ∷ rest) (part ∷ stack) ≡ verdict MAX_LEVELS (first ∷ rest) stack
  skip_steps m = on_skip MAX_LEVELS part first rest stack m

  pub stuck_steps : (left : ℕ) → move part first ≡ stuck → length rest + 1 ≡ left
      → verdict MAX_LEVELS (first ∷ rest) (part ∷ stack) ≡ bad left
  stuck_steps left m count =
      ap (λ n. verdict_behind MAX_LEVELS (length rest + 1) (verdict MAX_LEVELS rest) (moved n stack (step stack first))) m ∙ ap bad count
