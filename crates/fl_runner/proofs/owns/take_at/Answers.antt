use Rattle.std.proofs.Common.{◌≡◌, slice_set, subst, rules}
use Rattle.fl_core.specs.EndLists.{numbers_of}
use Rattle.fl_core.proofs.RoleLemmas.{same_numbers}
use Rattle.fl_runner.proofs.owns.take_at.Goals as goal

pub returns-clause-numbers : goal.returns-clause-numbers
returns-clause-numbers g c =
    subst (λ number. numbers_of (slice_set c.args.lent.now.items c.args.place (number, c.take.new.self)) ≡ numbers_of c.args.lent.now.items) (search rules)
    (same_numbers c.args.lent.now.items c.args.place c.take.new.self c.index_mut.result.now)
