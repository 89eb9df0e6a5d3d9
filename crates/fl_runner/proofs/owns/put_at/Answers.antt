use Rattle.std.proofs.Common.{◌≡◌, slice_set, Some, subst, rules}
use Rattle.fl_core.specs.EndLists.{numbers_of}
use Rattle.fl_core.proofs.RoleLemmas.{same_numbers}
use Rattle.fl_runner.proofs.owns.put_at.Goals as goal

pub returns-clause-numbers : goal.returns-clause-numbers
returns-clause-numbers g c =
    subst (λ number. numbers_of (slice_set c.args.lent.now.items c.args.place (number, Some c.args.end)) ≡ numbers_of c.args.lent.now.items) (search rules)
    (same_numbers c.args.lent.now.items c.args.place (Some c.args.end) c.index_mut.result.now)
