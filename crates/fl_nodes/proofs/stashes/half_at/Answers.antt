use Rattle.std.proofs.Common.{◌<◌, length, Option, slice_set, ap, ◌∙◌, rules}
use Rattle.fl_nodes.proofs.StashLemmas.{half_of-within}
use Rattle.fl_nodes.proofs.stashes.half_at.Goals as goal

pub returns-clause-half : goal.returns-clause-half
returns-clause-half g c =
    let known : c.args.edge < length c.args.stash.now.items = search rules in
    c.take.ensures.value ∙ c.index_mut.ensures.value ∙ half_of-within c.args.stash.now.items c.args.edge c.index_mut.result.now known

pub returns-clause-gone : goal.returns-clause-gone
returns-clause-gone g c = ap (λ (gone : Option g.row.T.Denot). slice_set c.args.stash.now.items c.args.edge gone) c.take.ensures.after
