use Rattle.std.proofs.Common.{true, false, sym, ◌∙◌}
use Rattle.ps_fakes.proofs.ListingLemmas.{pushed_text, with_one}
use Rattle.ps_fakes.proofs.listing.add_name.Goals as goal

pub returns-then-is_listed-clause-names : goal.returns-then-is_listed-clause-names
returns-then-is_listed-clause-names c =
    with_one c.args.names.now.items c.in-Some.name.now _ true c.in-Some.ensures.name (sym c.if-is_listed.true ∙ (rw c.as_slice.ensures.value at c.is_listed.ensures))

pub returns-clause-names : goal.returns-clause-names
returns-clause-names c =
    pushed_text c.args.names.now.items c.push.new.self.items c.in_ok-from_slice.field-0 c.in-Some.name.now c.in_ok-from_slice.ensures.items c.in_ok-push.ensures.items
    ∙ with_one c.args.names.now.items c.in-Some.name.now _ false c.in-Some.ensures.name (sym c.if-is_listed.false ∙ (rw c.as_slice.ensures.value at c.is_listed.ensures))
