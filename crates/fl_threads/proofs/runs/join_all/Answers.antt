use Rattle.std.proofs.Common.{rules, ◌≡◌, length, subst, ap, ◌∙◌}
use Rattle.std.proofs.lemmas.List.{nil_from_length}
use Rattle.std.specs.Vec.Iter.{into_iter_items}
use Rattle.fl_threads.specs.Threads.{EachOf, begun_jobs}
use Rattle.fl_threads.proofs.Rows.{all-came, all-back}
use Rattle.fl_threads.proofs.runs.join_all.Goals as goal

pub returns-clause-ran : goal.returns-clause-ran
returns-clause-ran g c =
    let none : length (into_iter_items c.loop-one.one-iterator) ≡ 0 = search rules in
    let told : into_iter_items c.into_iter-one-iterator.result ≡ c.args.told.items = search rules in
    λ goes. subst (λ items. EachOf g.J.Job.comes (begun_jobs items) c.loop-one.done.items) told
    (all-came _ _ _ _ _ (nil_from_length _ none) (c.loop-one.invariant.1 goes))

pub returns-clause-back : goal.returns-clause-back
returns-clause-back g c =
    let none : length (into_iter_items c.loop-one.one-iterator) ≡ 0 = search rules in
    let told : into_iter_items c.into_iter-one-iterator.result ≡ c.args.told.items = search rules in
    λ stands. all-back _ _ _ _ (nil_from_length _ none) (c.loop-one.invariant.2 stands) ∙ ap (λ items. begun_jobs items) told
