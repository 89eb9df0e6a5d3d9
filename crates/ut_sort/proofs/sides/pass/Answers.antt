use Rattle.std.proofs.Common.{rules, ◌≡◌, get_or}
use Rattle.ut_sort.proofs.SideLemmas.{total-passed}
use Rattle.ut_sort.proofs.sides.pass.Goals as goal

pub returns-clause-total : goal.returns-clause-total
returns-clause-total c =
    let is : c.index_mut.result.now ≡ get_or c.args.sides.now.items c.args.place c.index_mut.result.now = search rules in
    total-passed c.args.sides.now.items c.args.place c.args.count c.index_mut.result.now _ c.requires.within c.requires.enough is c.let_go.ensures.held
