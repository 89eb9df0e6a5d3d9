use Rattle.std.proofs.Common.{◌≡◌, length, refl, rules}
use Rattle.std.specs.Vec.Iter.{into_iter_items}
use Rattle.std.proofs.lemmas.List.{nil_from_length}
use Rattle.fl_runner.proofs.PutLemmas.{put-all, put-first, put-fits, put-next}
use Rattle.fl_runner.proofs.owns.put_owns.Goals as goal

pub loop-own-init : goal.loop-own-init
loop-own-init g c = put-first _ _ _ _ _ _ (search rules) c.requires.fit

pub put_own-requires : goal.put_own-requires
put_own-requires g c = put-fits _ _ _ _ _ _ _ _ c.loop-own.invariant c.in-Some.own _ c.in-Some.ensures.steps.0 _ refl refl refl

pub loop-own-preserved : goal.loop-own-preserved
loop-own-preserved g c =
    put-next _ _ _ _ _ _ _ _ c.loop-own.invariant c.in-Some.own _ c.in-Some.ensures.steps.0 _ refl c.requires.apart _ c.put_own.ensures.end c.put_own.ensures.others
    c.put_own.ensures.readers c.put_own.ensures.writers

pub returns-clause-ends : goal.returns-clause-ends
returns-clause-ends g c =
    let none : length (into_iter_items c.loop-own.own-iterator) ≡ 0 = search rules in
    (put-all _ _ _ _ _ _ _ _ c.loop-own.invariant (nil_from_length (into_iter_items c.loop-own.own-iterator) none)).ends

pub returns-clause-others : goal.returns-clause-others
returns-clause-others g c =
    let none : length (into_iter_items c.loop-own.own-iterator) ≡ 0 = search rules in
    (put-all _ _ _ _ _ _ _ _ c.loop-own.invariant (nil_from_length (into_iter_items c.loop-own.own-iterator) none)).others
