use Rattle.std.proofs.Common.{◌∙◌}
use Rattle.ut_args.specs.declared.invocations.Inv.TheVariants as inv
use Rattle.ut_sort.specs.contracts.mergers.MergerPortStream.TheImpl.{ghosts}
use Rattle.fl_joints.proofs.AggregateLemmas.{merge-begins, merges-joined}
use Rattle.fl_joints.proofs.makers.merge.Goals as goal

pub returns : goal.returns
returns c =
    let made = c.in_ok-machine.machine in
    let is = c.in_ok-machine.ensures in
    merge-begins (inv.Sort c.args.sort.now) c.args.ins _ (ghosts.due made.stream) made.opens.items made.putting made.broken made.waiting is.waiting is.opens is.putting is.broken
    (λ texts. (λ i. ghosts.due (is.stream i) texts) ∙ c.in_ok-merger.ensures.due texts ∙ merges-joined texts c.args.sort.now c.args.ins c.requires.ports)
