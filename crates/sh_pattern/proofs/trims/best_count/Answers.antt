use Rattle.std.proofs.Common.{rules, ◌≤◌, ◌<◌, ◌+◌, ◌↔◌, ◌∷◌, ℕ, List, [], length, Option, MatchOption, IsTrue, inl, inr, sym, ap, subst, ◌∙◌}
use Rattle.sh_pattern.specs.Trims.{IsNowhere}
use Rattle.sh_pattern.specs.Standing.{from_side, FitsFirst, FitsFrom, IsBestCount, later}
use Rattle.sh_pattern.proofs.StandingLemmas.{Stands, LastBelow, first_found, here_fits, fits_here, over, at_the_end, nowhere_left, one_on, stands_next, enough, not_enough, below_end, length-from_side}
use Rattle.sh_pattern.proofs.trims.best_count.Goals as goal

pub returns-then-is_enough : goal.returns-then-is_enough
returns-then-is_enough c =
    let p = from_side c.args.side c.args.elements.now in
    let text = from_side c.args.side c.args.text.now in
    let l = c.bytes in
    let done = enough c.may_end-ends.result c.args.longest (sym c.is_enough.ensures ∙ c.if-is_enough.true) in
    let here = here_fits p text l.standing.items l.count l.invariant.stands (subst (λ (all : List ℕ). FitsFrom p all []) c.as_slice.ensures.value (c.may_end-ends.ensures.0 done.0)) in
    first_found (FitsFirst p text) (length c.args.text.now) l.count c.args.longest l.found done.1 l.invariant.none l.invariant.within here l.invariant.last

pub returns-then-is_over : goal.returns-then-is_over
returns-then-is_over c =
    let p = from_side c.args.side c.args.elements.now in
    let text = from_side c.args.side c.args.text.now in
    let l = c.bytes in
    let end = length c.args.text.now in
    let ends_iff : IsTrue c.may_end-ends.result ↔ FitsFirst p text l.count = (
      λ is. here_fits p text l.standing.items l.count l.invariant.stands (subst (λ (all : List ℕ). FitsFrom p all []) c.as_slice.ensures.value (c.may_end-ends.ensures.0 is)),
      λ fits. c.may_end-ends.ensures.1 (subst (λ (all : List ℕ). FitsFrom p all []) (sym c.as_slice.ensures.value) (fits_here p text l.standing.items l.count l.invariant.stands fits)),
    ) in
    let beyond : (other_count : ℕ) → l.count < other_count → other_count ≤ end → FitsFirst p text other_count → ⊥ =
    elim (c.is_over.ensures.0 c.if-is_over.true) [
      | inl same ↦ at_the_end (FitsFirst p text) end l.count same
      | inr none ↦ nowhere_left p text l.standing.items end l.count (sym c.as_slice-in-bytes.ensures.value ∙ none) l.invariant.stands
    ] in
    subst (λ (found : Option ℕ). MatchOption found (IsNowhere (FitsFirst p text) end) (IsBestCount c.args.longest (FitsFirst p text) end)) (sym c.later-found.ensures)
    (over (FitsFirst p text) end l.count c.args.longest c.may_end-ends.result l.found (not_enough c.may_end-ends.result c.args.longest (sym c.is_enough.ensures ∙ c.if-is_enough.false)) l.invariant.none l.invariant.within
    (one_on (FitsFirst p text) l.count c.may_end-ends.result l.found ends_iff l.invariant.last) beyond)

pub bytes-preserved : goal.bytes-preserved
bytes-preserved c =
    let p = from_side c.args.side c.args.elements.now in
    let text = from_side c.args.side c.args.text.now in
    let l = c.bytes in
    let end = length c.args.text.now in
    let ends_iff : IsTrue c.may_end-ends.result ↔ FitsFirst p text l.count = (
      λ is. here_fits p text l.standing.items l.count l.invariant.stands (subst (λ (all : List ℕ). FitsFrom p all []) c.as_slice.ensures.value (c.may_end-ends.ensures.0 is)),
      λ fits. c.may_end-ends.ensures.1 (subst (λ (all : List ℕ). FitsFrom p all []) (sym c.as_slice.ensures.value) (fits_here p text l.standing.items l.count l.invariant.stands fits)),
    ) in
    let below : l.count < end = below_end l.count end l.invariant.within (λ same. let is = c.is_over.ensures.1 (inl same) in let no = c.if-is_over.false in cc) in
    let within : l.count < length text = subst (λ (n : ℕ). l.count < n) (sym (length-from_side c.args.side c.args.text.now)) below in
    let steps : (more : List ℕ) → FitsFrom p l.standing.items (c.item_at-byte.result.now ∷ more) ↔ FitsFrom p c.step.new.next.items more = λ more.
    subst (λ (all : List ℕ). FitsFrom p all (c.item_at-byte.result.now ∷ more) ↔ FitsFrom p c.step.new.next.items more) c.as_slice-in-bytes-2.ensures.value (c.in_ok-step.ensures more) in
    let stands : Stands p text (l.count + 1) c.step.new.next.items = stands_next p text l.standing.items c.step.new.next.items l.count c.item_at-byte.result.now within c.item_at-byte.ensures steps l.invariant.stands in
    record {
      within = search rules;
      stands = rw c.swap.ensures.x_after stands;
      last = subst (λ (found : Option ℕ). LastBelow (FitsFirst p text) (l.count + 1) found) (sym c.later-found.ensures) (one_on (FitsFirst p text) l.count c.may_end-ends.result l.found ends_iff l.invariant.last);
      none = λ few. c.later-found.ensures ∙ ap (λ ends. later ends l.count l.found) (not_enough c.may_end-ends.result c.args.longest (sym c.is_enough.ensures ∙ c.if-is_enough.false) few) ∙ l.invariant.none few;
    }
