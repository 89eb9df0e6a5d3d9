use Rattle.std.proofs.Common.{rules, ◌≡◌, slice_get, None}
use Rattle.ut_slices.proofs.SideStepLemmas.{needs-none, needs-whole}
use Rattle.ut_slices.proofs.sides.SidePortStream.needs.Goals as goal

pub returns-in-None-clause-none : goal.returns-in-None-clause-none
returns-in-None-clause-none c =
    let side = c.args.self.now in
    let behind : slice_get side.plan.columns.items side.walk.column ≡ None = search rules in
    needs-none side.plan side.walk behind side.read (side.settled c.requires)

pub returns-in-None-clause-whole : goal.returns-in-None-clause-whole
returns-in-None-clause-whole c =
    let side = c.args.self.now in
    let behind : slice_get side.plan.columns.items side.walk.column ≡ None = search rules in
    needs-whole side.plan side.walk behind (side.settled c.requires)
