use Rattle.std.proofs.Common.{rules, ◌≡◌, List, ℕ, ◌∷◌}
use Rattle.ut_streams.proofs.StreamLemmas.{OnOk-is_ok, Wrote-broken}
use Rattle.ut_groups.specs.Inner.Open.{due_behind, due_of, group_at, group_held}
use Rattle.ut_groups.proofs.GroupingLemmas.{Wrote-kept, Wrote-opened}
use Rattle.ut_groups.proofs.uniq.GroupLines.add.Goals as goal

pub returns-in-Ok : goal.returns-in-Ok
returns-in-Ok c =
    let it = c.args.self.now in
    let line = c.args.line.now in
    let now = c.keep.new.self in
    let same : c.as_slice.result.now ≡ it.first.items = search rules in
    Wrote-opened it.grouping it.is_open it.first.items c.as_slice.result.now it.count (λ more. line ∷ more)
    (λ more. due_of now.grouping now.is_open (group_held now.first.items now.count) more) c.args.out.now.items c.pass.new.out.items _ c.requires same
    (Wrote-kept (λ more. due_behind it.grouping (group_held c.as_slice.result.now it.count) (line ∷ more)) it.grouping now.grouping (group_at c.pass.new.group)
    (group_held now.first.items now.count) now.is_open c.args.out.now.items c.pass.new.out.items _ c.in-Ok.ensures c.keep.ensures.grouping
    (OnOk-is_ok c.keep.result _ c.keep.ensures.opened) (OnOk-is_ok c.keep.result _ c.keep.ensures.group))

pub returns : goal.returns
returns c =
    let it = c.args.self.now in
    let line = c.args.line.now in
    let same : c.as_slice.result.now ≡ it.first.items = search rules in
    Wrote-opened it.grouping it.is_open it.first.items c.as_slice.result.now it.count (λ more. line ∷ more) _ c.args.out.now.items c.pass.new.out.items _ c.requires same
    (Wrote-broken (λ more. due_behind it.grouping (group_held c.as_slice.result.now it.count) (line ∷ more)) (due_behind it.grouping (group_at c.pass.new.group)) _
    c.args.out.now.items c.pass.new.out.items c.in-Err.ensures)
