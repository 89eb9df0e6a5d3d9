use Rattle.std.proofs.Common.{rules, ◌≡◌, ◌∷◌, [], List, ℕ, ◌<◌, ◌≤◌, length, inl, inr, refl, sym, subst}
use Rattle.sh_pattern.specs.Standing.{from_side, FitsFrom}
use Rattle.sh_pattern.proofs.StandingLemmas.{ends_here, ends_not, length-from_side}
use Rattle.sh_pattern.proofs.trims.may_end.Goals as goal

pub returns-then-past_stars-elements : goal.returns-then-past_stars-elements
returns-then-past_stars-elements c =
    let p = from_side c.args.side c.args.elements.now in
    let step : c.loop-place.left.now ≡ c.in-Some.place.now ∷ c.in-Some.rest.now = search rules in
    let low : length c.args.elements.now ≤ c.past_stars.result = search rules in
    let over : length p ≤ c.past_stars.result = subst (λ (n : ℕ). n ≤ c.past_stars.result) (sym (length-from_side c.args.side c.args.elements.now)) low in
    let here = ends_here p c.in-Some.place.now c.past_stars.result c.past_stars.ensures.no_star c.past_stars.ensures.same over in
    (λ is. c.loop-place.invariant.1 (subst (λ (all : List ℕ). FitsFrom p all []) (sym step) (inl here)), λ fits. refl)

pub loop-place-preserved : goal.loop-place-preserved
loop-place-preserved c =
    let p = from_side c.args.side c.args.elements.now in
    let step : c.loop-place.left.now ≡ c.in-Some.place.now ∷ c.in-Some.rest.now = search rules in
    let high : c.past_stars.result < length c.args.elements.now = search rules in
    let within : c.past_stars.result < length p = subst (λ (n : ℕ). c.past_stars.result < n) (sym (length-from_side c.args.side c.args.elements.now)) high in
    let not_here = ends_not p c.in-Some.place.now c.past_stars.result c.past_stars.ensures.no_star c.past_stars.ensures.same within in (
      λ fits. elim (subst (λ (all : List ℕ). FitsFrom p all []) step (c.loop-place.invariant.0 fits)) [ inl here ↦ absurd (not_here here) | inr later ↦ later ],
      λ fits. c.loop-place.invariant.1 (subst (λ (all : List ℕ). FitsFrom p all []) (sym step) (inr fits)),
    )
