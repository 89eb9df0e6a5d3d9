use Rattle.std.proofs.Common.{rules, ◌≡◌, ℕ, List, ◌↔◌, ◌⊎◌, drop, sym, subst}
use Rattle.sh_pattern.specs.Fits.{Fits}
use Rattle.sh_pattern.specs.Standing.{FitsFrom}
use Rattle.sh_pattern.proofs.StandingLemmas.{last_already, from-append}
use Rattle.sh_pattern.proofs.trims.add.Goals as goal

pub returns-then-last-place : goal.returns-then-last-place
returns-then-last-place c =
    let same : c.in-Some.last.now ≡ c.args.place = search rules in
    last_already c.args.places.now.items c.deref.result.now c.in-Some.last.now c.args.place c.deref.ensures.value c.in-Some.ensures.value same

pub returns : goal.returns
returns c = λ pattern text.
    subst (λ (all : List ℕ). FitsFrom pattern all text ↔ (FitsFrom pattern c.args.places.now.items text ⊎ Fits (drop c.args.place pattern) text)) (sym c.in_ok-push.ensures.items) (from-append pattern c.args.places.now.items c.args.place text)
