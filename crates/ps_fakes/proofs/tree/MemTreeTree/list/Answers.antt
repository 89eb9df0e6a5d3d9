use Rattle.ps_fakes.proofs.ListingLemmas.{is_listing_of}
use Rattle.ps_fakes.proofs.tree.MemTreeTree.list.Goals as goal

pub returns-clause-names : goal.returns-clause-names
returns-clause-names c = is_listing_of _ _ _ (rw c.as_slice.ensures.value at c.in_ok-names.ensures.names)
