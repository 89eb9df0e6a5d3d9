use Rattle.std.proofs.Common.{rules, ◌≡◌, ◌≤◌, ℕ, List, length, sym, ap, subst, ◌∙◌}
use Rattle.sh_pattern.specs.declared.elements.Element.{Element}
use Rattle.sh_pattern.specs.Trims.{Cuts, left_of}
use Rattle.sh_pattern.specs.Standing.{place_of}
use Rattle.sh_pattern.proofs.StandingLemmas.{best_within, place_within, cut_at, uncut}
use Rattle.sh_pattern.proofs.trims.trimmed.Goals as goal

pub place_of-requires : goal.place_of-requires
place_of-requires c = best_within _ (length c.args.text.now) c.args.longest c.in_ok-count.field-0 c.in-Some.count c.in-Some.is c.in_ok-count.ensures

pub left_of-requires : goal.left_of-requires
left_of-requires c =
    subst (λ (place : ℕ). place ≤ length c.args.text.now) (sym c.place_of.ensures)
    (place_within c.args.side c.in-Some.count (length c.args.text.now) (best_within _ (length c.args.text.now) c.args.longest c.in_ok-count.field-0 c.in-Some.count c.in-Some.is c.in_ok-count.ensures))

pub returns-in-Some : goal.returns-in-Some
returns-in-Some c =
    let text = c.args.text.now in
    let same : c.as_slice.result.now ≡ c.args.pattern.now = search rules in
    let cuts = cut_at c.as_slice.result.now text c.args.side c.args.longest c.in_ok-count.field-0 c.in-Some.count c.in-Some.is c.in_ok-count.ensures in
    subst (λ (rest : List ℕ). Cuts c.args.side c.args.longest c.args.pattern.now text rest) (sym (c.left_of.ensures ∙ ap (λ (place : ℕ). left_of c.args.side place text) c.place_of.ensures))
    (subst (λ (p : List Element). Cuts c.args.side c.args.longest p text (left_of c.args.side (place_of c.args.side c.in-Some.count (length text)) text)) same cuts)

pub returns-in-None : goal.returns-in-None
returns-in-None c =
    let same : c.as_slice.result.now ≡ c.args.pattern.now = search rules in
    subst (λ (p : List Element). Cuts c.args.side c.args.longest p c.args.text.now c.args.text.now) same (uncut c.as_slice.result.now c.args.text.now c.args.side c.args.longest c.in_ok-count.field-0 c.in-None.is c.in_ok-count.ensures)
