use Rattle.std.proofs.Common.{◌≡◌, length, refl, arith, rules}
use Rattle.std.specs.Vec.Iter.{into_iter_items}
use Rattle.std.proofs.lemmas.List.{nil_from_length}
use Rattle.fl_runner.specs.Lent.{end_state}
use Rattle.fl_edges.proofs.EachLemmas.{each-length}
use Rattle.fl_runner.proofs.OwnLemmas.{state_is}
use Rattle.fl_runner.proofs.TakeLemmas.{taken-all, taken-first, taken-next, taken-ready, taken-within}
use Rattle.fl_runner.proofs.jobs.jobs_of.Goals as goal

pub loop-start-init : goal.loop-start-init
loop-start-init g c = record { taken = taken-first _ _ _ _ _ _ (search rules) c.requires.ready _ c.requires.none; room = search rules }

pub overflow_cast-node : goal.overflow_cast-node
overflow_cast-node g c =
    let within = taken-within _ _ _ _ _ _ _ _ _ c.loop-start.invariant.taken c.in-Some.start _ c.in-Some.ensures.steps.0 in
    let counted = each-length _ c.args.roles.now c.args.starts.items c.requires.ready in
    let size = c.args.starts.ok.0 in
    let few = c.requires.few in
    omega (arith, within, counted, size, few)

pub job_of-requires : goal.job_of-requires
job_of-requires g c =
    taken-ready _ (end_state g.R.Source.left g.W.Sink.taken g.I.Source.left g.O.Sink.taken g.R.Source.faults g.W.Sink.faults g.I.Source.faults g.O.Sink.faults) _ _ _ _ _ _ _
    c.loop-start.invariant.taken c.in-Some.start _ c.in-Some.ensures.steps.0 _ refl c.requires.apart c.take_own-own.result c.take_own-own.ensures.own
    (state_is c.loop-start.jobs.items (end_state g.R.Source.left g.W.Sink.taken g.I.Source.left g.O.Sink.taken g.R.Source.faults g.W.Sink.faults g.I.Source.faults g.O.Sink.faults) refl (λ inlet. refl) (λ writer. refl) (λ inlet. refl) (λ out. refl) c.take_own-own.result)

pub loop-start-preserved : goal.loop-start-preserved
loop-start-preserved g c = record {
  taken =
      taken-next _ (end_state g.R.Source.left g.W.Sink.taken g.I.Source.left g.O.Sink.taken g.R.Source.faults g.W.Sink.faults g.I.Source.faults g.O.Sink.faults) _ _ _ _ _ _ _
      c.loop-start.invariant.taken c.in-Some.start _ c.in-Some.ensures.steps.0 _ refl c.requires.apart c.take_own-own.result c.take_own-own.ensures.own _ c.take_own-own.ensures.others
      c.take_own-own.ensures.readers c.take_own-own.ensures.writers c.job_of.result c.job_of.ensures.machine c.job_of.ensures.takers c.job_of.ensures.givers c.job_of.ensures.own _ (search rules);
  room = search rules;
}

pub returns-clause-starts : goal.returns-clause-starts
returns-clause-starts g c =
    let none : length (into_iter_items c.loop-start.start-iterator) ≡ 0 = search rules in
    (taken-all _ _ _ _ _ _ _ _ _ c.loop-start.invariant.taken (nil_from_length (into_iter_items c.loop-start.start-iterator) none)).starts

pub returns-clause-owns : goal.returns-clause-owns
returns-clause-owns g c =
    let none : length (into_iter_items c.loop-start.start-iterator) ≡ 0 = search rules in
    (taken-all _ _ _ _ _ _ _ _ _ c.loop-start.invariant.taken (nil_from_length (into_iter_items c.loop-start.start-iterator) none)).owns

pub returns-clause-others : goal.returns-clause-others
returns-clause-others g c =
    let none : length (into_iter_items c.loop-start.start-iterator) ≡ 0 = search rules in
    (taken-all _ _ _ _ _ _ _ _ _ c.loop-start.invariant.taken (nil_from_length (into_iter_items c.loop-start.start-iterator) none)).others
