use Rattle.std.proofs.Common.{true, false, sym, ◌∙◌}
use Rattle.ps_fakes.proofs.ListingLemmas.{name_of_last, no_name}
use Rattle.ps_fakes.proofs.listing.name_in.Goals as goal

pub returns-in_default-clause-name : goal.returns-in_default-clause-name
returns-in_default-clause-name c = no_name c.args.dir.now c.args.path.now c.as_slice.result.now (rw c.as_slice.ensures.value c.path.view_is) c.in_default.ensures.cases

pub returns-then-eq-clause-name : goal.returns-then-eq-clause-name
returns-then-eq-clause-name c =
    rw c.as_slice-then-eq.ensures.value (name_of_last c.args.dir.now c.args.path.now c.as_slice-2.result.now c.in-Some.above.now c.as_slice.result.now c.in-Some.name.now true
    (rw c.as_slice-2.ensures.value c.dir.view_is) (rw c.as_slice.ensures.value c.path.view_is) c.in-Some.ensures.cases.0 (sym c.if-eq.true ∙ c.eq.ensures))

pub returns-else-eq-clause-name : goal.returns-else-eq-clause-name
returns-else-eq-clause-name c =
    name_of_last c.args.dir.now c.args.path.now c.as_slice-2.result.now c.in-Some.above.now c.as_slice.result.now c.in-Some.name.now false
    (rw c.as_slice-2.ensures.value c.dir.view_is) (rw c.as_slice.ensures.value c.path.view_is) c.in-Some.ensures.cases.0 (sym c.if-eq.false ∙ c.eq.ensures)
