use Rattle.std.proofs.Common.{rules, refl, sym, subst, ◌≡◌, ◌≤◌, ◌∙◌, ◌+◌, ℕ, length, arith}
use Rattle.fl_segments.specs.declared.chains.TheConstants.{MAX_STAGES}
use Rattle.sh_eval.specs.Inner.Gathering.{IsFront}
use Rattle.sh_eval.specs.declared.gathering.Segment.{Segment}
use Rattle.sh_eval.proofs.GatheringLemmas.{added-counted, front-gathered, gathers-on}
use Rattle.sh_eval.proofs.gathering.gather_front.Goals as goal

pub loop-stage-init : goal.loop-stage-init
loop-stage-init g c =
    record {
      counted = search rules;
      within = search rules;
      most = search rules;
      rest = λ last low high more others all. rw (c.new-2.ensures.items, c.new.ensures.items) all;
      state = refl;
      faults = refl;
    }

pub loop-stage-preserved : goal.loop-stage-preserved
loop-stage-preserved g c =
    let adds = c.in_ok-added.ensures.added c.if-not-added.false in
    let below = c.loop-stage-test.true in
    let most : c.loop-stage.stage-index + 1 ≤ MAX_STAGES = search rules in
    record {
      counted = added-counted _ _ _ _ _ _ adds _ c.loop-stage.invariant.counted;
      within = omega (arith, below);
      most = most;
      rest = gathers-on c.args.stages.now c.loop-stage.stage-index c.stage-item.result c.args.shell.now c.args.held.now (g.T.Tree.state c.args.tree.now) _ _ _
          c.loop-stage.invariant.state c.stage-item.is adds c.loop-stage.invariant.rest;
      state = c.in_ok-added.ensures.state ∙ c.loop-stage.invariant.state;
      faults = c.in_ok-added.ensures.cause.ok ∙ c.loop-stage.invariant.faults;
    }

pub returns-then-len-eq-MAX_STAGES-clause-front : goal.returns-then-len-eq-MAX_STAGES-clause-front
returns-then-len-eq-MAX_STAGES-clause-front g c =
    front-gathered c.args.stages.now c.loop-stage.stage-index c.args.shell.now c.args.held.now (g.T.Tree.state c.args.tree.now) _
    c.loop-stage.invariant.counted c.loop-stage.invariant.within c.loop-stage.invariant.most c.loop-stage.invariant.rest

pub returns-then-not-added-clause-front : goal.returns-then-not-added-clause-front
returns-then-not-added-clause-front g c =
    subst (IsFront c.args.stages.now c.args.shell.now c.args.held.now (g.T.Tree.state c.args.tree.now)) (sym (c.in_ok-added.ensures.kept c.if-not-added.true))
    (front-gathered c.args.stages.now c.loop-stage.stage-index c.args.shell.now c.args.held.now (g.T.Tree.state c.args.tree.now) _
    c.loop-stage.invariant.counted c.loop-stage.invariant.within c.loop-stage.invariant.most c.loop-stage.invariant.rest)

pub returns-clause-front : goal.returns-clause-front
returns-clause-front g c =
    front-gathered c.args.stages.now c.loop-stage.stage-index c.args.shell.now c.args.held.now (g.T.Tree.state c.args.tree.now) _
    c.loop-stage.invariant.counted c.loop-stage.invariant.within c.loop-stage.invariant.most c.loop-stage.invariant.rest
