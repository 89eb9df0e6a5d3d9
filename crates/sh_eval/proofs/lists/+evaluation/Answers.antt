use Rattle.std.proofs.Common.{rules, ◌≡◌, ◌+◌, ◌-◌, ◌≤◌, not, ℕ, List, drop, length, Option, Some, Err, arith, refl, sym, ap, subst, ◌∙◌}
use Rattle.sh_eval.specs.Commands.{all_turns, failed, goes_round, in_loop, its_status, some_command, substitution, subshell, staged, succeeded, with_kept, with_text}
use Rattle.sh_eval.specs.declared.outcomes.How.TheVariants as how
use Rattle.sh_eval.specs.declared.gathering.Segment.{Segment}
use Rattle.sh_eval.specs.declared.session.Session.{Session}
use Rattle.sh_eval.specs.declared.streams.From.{From}
use Rattle.sh_eval.specs.Inner.Bodies.{body_means, round_means, rounds_mean, turn_means}
use Rattle.std.specs.FinMap as finite
use Rattle.std.specs.Prelude.{IfSome}
use Rattle.ps_lines.specs.Texts.{texts_of}
use Rattle.sh_arith.specs.Variables.{Variables}
use Rattle.sh_eval.specs.Shells.{with_env}
use Rattle.sh_eval.specs.States.{piping, reading, unpiped}
use Rattle.sh_eval.specs.Inner.Gathering.{GathersFront}
use Rattle.sh_eval.specs.Inner.Staging.{members_mean, part_means, rest_means}
use Rattle.ps_world.specs.TreeState.{TreeState}
use Rattle.sh_eval.specs.Meaning.{has_item, list_means, command_means, stages_means}
use Rattle.sh_eval.specs.Segments.{runs_through}
use Rattle.sh_eval.specs.Table.{pages}
use Rattle.sh_tree.specs.Views.{list_tree, command_tree, stages_tree}
use Rattle.sh_eval.proofs.Growing.{adds-some_command, adds-substitution, same-turns, list-adds, command-adds, adds-subshell}
use Rattle.sh_eval.proofs.ListSteps.{items-followed, items-stopped, items-done, and_or-followed, and_or-stopped, joined-followed, joined-stopped, joined-done, next-runs, next-skipped, pipeline-followed, pipeline-stopped, within, wanted-at, stages-followed, stages-stopped, stages-done, staged-wanted, staged-within, rest-adds}
use Rattle.sh_eval.proofs.CommandSteps.{succeeds-so, fails-so, wanted-behind, subs-followed, subs-stopped, subs-done, substituted-empty, substituted-some, simple-followed, simple-stopped, if-stopped, if-taken, if-passed, if-else, if-none, if-body, compound-stopped, compound-opened, body-adds, while-body, until-body, while-turn, until-turn, turn-adds, turns-add, loop-adds, for-arguments, for-stopped, for-followed, for_behind, for-adds, for-fields, round-adds, rounds-add, round-of}
use Rattle.sh_eval.proofs.LoopSteps.{over-here, left-here, again-here, done-here, in-loop, turns-over, turns-left, turns-again, turn-left, turn-held, turn-failed, body-noted}
use Rattle.sh_eval.proofs.OpeningLemmas.{looked-in-vain}
use Rattle.sh_eval.proofs.SegmentSteps.{gathered-rest, part-followed, part-stopped, runnable}
use Rattle.sh_eval.proofs.UtilitySteps.{asked-before}
use Rattle.sh_eval.proofs.Steps.{failed-early, goes-gone, gone-so, no-fewer, wanted, sound-behind}
use Rattle.sh_tree.specs.declared.commands.Command.TheShapes.{weighed-Command-If-0-at-2}
use Rattle.sh_tree.specs.declared.commands.Command.TheViews.{size-Command, sized-If}
use Rattle.sh_tree.proofs.commands.List.TheLaws.{the_size}
use Rattle.sh_eval.proofs.MeasureLemmas.{element-falls, part-falls, second-weighs}
use Rattle.sh_eval.proofs.lists.+evaluation.Goals as goal

pub eval_items-loop-item-init : goal.eval_items-loop-item-init
eval_items-loop-item-init g t c = record { rest = λ came new all. all; sound = c.requires.sound }

pub eval_items-returns-then-not-goes_on : goal.eval_items-returns-then-not-goes_on
eval_items-returns-then-not-goes_on g t c =
    c.loop-item.invariant.rest _ _ (items-stopped c.args.items.now c.loop-item.item-index c.item-item.result _ _ _ c.item-item.is c.loop-item-test.true
    (sym c.goes_on.ensures ∙ c.if-not-goes_on.true) c.eval_and_or-how.ensures)

pub eval_items-loop-item-preserved : goal.eval_items-loop-item-preserved
eval_items-loop-item-preserved g t c =
    record {
      rest = λ came new rest. c.loop-item.invariant.rest came new (items-followed c.args.items.now c.loop-item.item-index c.item-item.result _ _ _ _ _ c.item-item.is c.loop-item-test.true
          (sym c.goes_on.ensures ∙ c.if-not-goes_on.false) c.eval_and_or-how.ensures rest);
      sound = sound-behind _ _ (c.eval_and_or-how.ensures.keeps (goes-gone _ (sym c.goes_on.ensures ∙ c.if-not-goes_on.false))) c.loop-item.invariant.sound;
    }

pub eval_items-returns : goal.eval_items-returns
eval_items-returns g t c = c.loop-item.invariant.rest _ _ (items-done c.args.items.now c.loop-item.item-index _ c.loop-item-test.false)

pub eval_and_or-returns-then-not-goes_on : goal.eval_and_or-returns-then-not-goes_on
eval_and_or-returns-then-not-goes_on g t c = and_or-stopped c.args.item.now _ _ _ (sym c.goes_on.ensures ∙ c.if-not-goes_on.true) c.eval_pipeline-how.ensures

pub eval_and_or-returns : goal.eval_and_or-returns
eval_and_or-returns g t c = and_or-followed c.args.item.now _ _ _ _ _ _ c.as_slice.ensures.value (sym c.goes_on.ensures ∙ c.if-not-goes_on.false) c.eval_pipeline-how.ensures c.eval_joined.ensures

pub eval_joined-loop-join-init : goal.eval_joined-loop-join-init
eval_joined-loop-join-init g t c = record { rest = λ came new all. all; sound = c.requires.sound }

pub eval_joined-returns-then-not-goes_on : goal.eval_joined-returns-then-not-goes_on
eval_joined-returns-then-not-goes_on g t c =
    c.loop-join.invariant.rest _ _ (joined-stopped c.args.rest.now c.loop-join.join-index _ _ _ _ c.loop-join-item.is c.loop-join-test.true
    (sym c.goes_on.ensures ∙ c.if-not-goes_on.true) c.eval_next-how.ensures)

pub eval_joined-loop-join-preserved : goal.eval_joined-loop-join-preserved
eval_joined-loop-join-preserved g t c =
    record {
      rest = λ came new rest. c.loop-join.invariant.rest came new (joined-followed c.args.rest.now c.loop-join.join-index _ _ _ _ _ _ c.loop-join-item.is c.loop-join-test.true
          (sym c.goes_on.ensures ∙ c.if-not-goes_on.false) c.eval_next-how.ensures rest);
      sound = sound-behind _ _ (c.eval_next-how.ensures.keeps (goes-gone _ (sym c.goes_on.ensures ∙ c.if-not-goes_on.false))) c.loop-join.invariant.sound;
    }

pub eval_joined-returns : goal.eval_joined-returns
eval_joined-returns g t c = c.loop-join.invariant.rest _ _ (joined-done c.args.rest.now c.loop-join.join-index _ c.loop-join-test.false)

pub eval_next-returns-then-joins : goal.eval_next-returns-then-joins
eval_next-returns-then-joins g t c = next-runs c.args.join c.args.next.now _ _ _ (sym c.joins.ensures ∙ c.if-joins.true) c.eval_pipeline.ensures

pub eval_next-returns : goal.eval_next-returns
eval_next-returns g t c = next-skipped c.args.join c.args.next.now _ (sym c.joins.ensures ∙ c.if-joins.false)

pub eval_pipeline-returns-then-not-goes_on : goal.eval_pipeline-returns-then-not-goes_on
eval_pipeline-returns-then-not-goes_on g t c = pipeline-stopped c.args.pipeline.now _ _ _ _ c.as_slice.ensures.value (sym c.goes_on.ensures ∙ c.if-not-goes_on.true) c.eval_stages-how.ensures

pub eval_pipeline-returns : goal.eval_pipeline-returns
eval_pipeline-returns g t c = pipeline-followed c.args.pipeline.now _ _ _ _ c.as_slice.ensures.value (sym c.goes_on.ensures ∙ c.if-not-goes_on.false) c.eval_stages-how.ensures _ c.negate.ensures

pub eval_subshell-returns : goal.eval_subshell-returns
eval_subshell-returns g t c =
    within (λ expansions. list_means expansions pages (list_tree c.args.list.now)) (λ session. session) (λ old new. new) its_status _ _ _ _ _ _ _ _ _ _ _ _
    c.in-Ok.ensures refl c.take_status.ensures refl c.settled.ensures same-turns (λ old new. same-turns new) (λ old new same. same) c.eval_list-how.ensures

pub eval_subshell-returns-in_default : goal.eval_subshell-returns-in_default
eval_subshell-returns-in_default g t c =
    wanted (λ expansions. subshell (list_means expansions pages (list_tree c.args.list.now))) _
    (λ expansions. adds-subshell (list_means expansions pages (list_tree c.args.list.now)) (list-adds expansions pages (list_tree c.args.list.now)))

pub eval_front-run_part-played-requires-clause-segment : goal.eval_front-run_part-played-requires-clause-segment
eval_front-run_part-played-requires-clause-segment g t c κs lent =
    let found : c.in-Ok-Some.field-0 ≡ Some c.in-Ok-Some.segment = search rules in
    let gathers : GathersFront (drop c.args.place c.args.stages.now) c.args.shell.now c.args.session.now.streams (g.T.Tree.state c.args.tree.now) c.in-Ok-Some.segment =
    gathered-rest c.args.stages.now c.args.place c.args.shell.now c.args.session.now.streams (g.T.Tree.state c.args.tree.now) c.in-Ok-Some.field-0 c.in-Ok-Some.segment found c.in-Ok-Some.ensures.gathers in
    runnable (drop c.args.place c.args.stages.now) c.args.shell.now c.args.session.now.streams (g.T.Tree.state c.args.tree.now) _ c.in-Ok-Some.segment c.in-Ok-Some.ensures.state gathers

pub eval_front-returns-in-Ok-Some-clause-stopped : goal.eval_front-returns-in-Ok-Some-clause-stopped
eval_front-returns-in-Ok-Some-clause-stopped g t c =
    let found : c.in-Ok-Some.field-0 ≡ Some c.in-Ok-Some.segment = search rules in
    let gathers : GathersFront (drop c.args.place c.args.stages.now) c.args.shell.now c.args.session.now.streams (g.T.Tree.state c.args.tree.now) c.in-Ok-Some.segment =
    gathered-rest c.args.stages.now c.args.place c.args.shell.now c.args.session.now.streams (g.T.Tree.state c.args.tree.now) c.in-Ok-Some.field-0 c.in-Ok-Some.segment found c.in-Ok-Some.ensures.gathers in
    let counted : c.len-taken.result ≡ length c.in-Ok-Some.segment.members.items = search rules in
    λ off. part-stopped c.args.stages.now c.args.place c.in-Ok-Some.segment c.args.shell.now c.args.session.now (g.T.Tree.state c.args.tree.now) _ _ gathers c.len-taken.result counted _ _ off
    (asked-before (λ expansions. part_means c.args.place (length c.args.stages.now - c.args.place - c.len-taken.result) (members_mean c.in-Ok-Some.segment.members.items expansions)) _ _ _ _ _ _ _ _ _ _ _ _
    c.in-Ok-Some.ensures.state c.in-Ok-Some.ensures.cause.ok c.run_part-played.ensures)

pub eval_front-returns-in-Ok-Some-clause-followed : goal.eval_front-returns-in-Ok-Some-clause-followed
eval_front-returns-in-Ok-Some-clause-followed g t c =
    let found : c.in-Ok-Some.field-0 ≡ Some c.in-Ok-Some.segment = search rules in
    let gathers : GathersFront (drop c.args.place c.args.stages.now) c.args.shell.now c.args.session.now.streams (g.T.Tree.state c.args.tree.now) c.in-Ok-Some.segment =
    gathered-rest c.args.stages.now c.args.place c.args.shell.now c.args.session.now.streams (g.T.Tree.state c.args.tree.now) c.in-Ok-Some.field-0 c.in-Ok-Some.segment found c.in-Ok-Some.ensures.gathers in
    let counted : c.len-taken.result ≡ length c.in-Ok-Some.segment.members.items = search rules in
    λ is came last others. part-followed c.args.stages.now c.args.place c.in-Ok-Some.segment c.args.shell.now c.args.session.now (g.T.Tree.state c.args.tree.now) _ _ gathers c.len-taken.result counted _ _ _ _ is
    (asked-before (λ expansions. part_means c.args.place (length c.args.stages.now - c.args.place - c.len-taken.result) (members_mean c.in-Ok-Some.segment.members.items expansions)) _ _ _ _ _ _ _ _ _ _ _ _
    c.in-Ok-Some.ensures.state c.in-Ok-Some.ensures.cause.ok c.run_part-played.ensures) others

pub eval_front-returns-in-Ok-None-clause-stopped : goal.eval_front-returns-in-Ok-None-clause-stopped
eval_front-returns-in-Ok-None-clause-stopped g t c =
    λ off. stages-stopped c.args.stages.now c.args.place c.index-stages-place.result c.position_of-position.result c.position_of-position.ensures c.index-stages-place.is c.requires.below c.requires.several _ _ _ off
    (asked-before (λ expansions. staged c.position_of-position.result (command_means expansions pages (command_tree c.index-stages-place.result))) _ _ _ _ _ _ _ _ _ _ _ _
    c.in-Ok-None.ensures.state c.in-Ok-None.ensures.cause.ok c.eval_stage-played.ensures)

pub eval_front-returns-in-Ok-None-clause-followed : goal.eval_front-returns-in-Ok-None-clause-followed
eval_front-returns-in-Ok-None-clause-followed g t c =
    λ is came last others. stages-followed c.args.stages.now c.args.place c.index-stages-place.result c.position_of-position.result c.position_of-position.ensures c.index-stages-place.is c.requires.below c.requires.several _ _ _ _ _ is
    (asked-before (λ expansions. staged c.position_of-position.result (command_means expansions pages (command_tree c.index-stages-place.result))) _ _ _ _ _ _ _ _ _ _ _ _
    c.in-Ok-None.ensures.state c.in-Ok-None.ensures.cause.ok c.eval_stage-played.ensures) others

pub eval_front-returns-in-Err-clause-stopped : goal.eval_front-returns-in-Err-clause-stopped
eval_front-returns-in-Err-clause-stopped g t c =
    λ off. rw c.how_of.ensures
    (looked-in-vain c.in-Err.error (λ expansions. rest_means expansions c.args.place (drop c.args.place c.args.stages.now)) (λ expansions. rest-adds expansions c.args.place (drop c.args.place c.args.stages.now))
    _ _ _ _ _ _ _ _ _ _ c.in-Err.ensures.state c.in-Err.ensures.cause.later (λ failed. c.in-Err.ensures.cause.failed (ap Err failed)))

pub eval_several-returns-then-not-goes_on : goal.eval_several-returns-then-not-goes_on
eval_several-returns-then-not-goes_on g t c = c.loop-place.invariant.rest _ _ (c.eval_front-played.ensures.stopped (sym c.goes_on.ensures ∙ c.if-not-goes_on.true))

pub eval_several-returns : goal.eval_several-returns
eval_several-returns g t c = c.loop-place.invariant.rest _ _ (stages-done c.args.stages.now c.loop-place.place _ c.loop-place-test.false)

pub eval_stage-returns-in_default : goal.eval_stage-returns-in_default
eval_stage-returns-in_default g t c =
    staged-wanted (λ expansions. command_means expansions pages (command_tree c.args.command.now)) c.args.position _ _ _ _ _ _ c.in_default.ensures.turns
    (λ expansions. command-adds expansions pages (command_tree c.args.command.now))

pub eval_stage-returns : goal.eval_stage-returns
eval_stage-returns g t c =
    staged-within (λ expansions. command_means expansions pages (command_tree c.args.command.now)) _ _ _ _ _ _ _ _ _ _ _ _ c.args.position c.in-Ok.aside c.in-Ok.ensures.shell c.in-Ok.ensures.session c.in-Ok.ensures.aside
    c.leave_stage.ensures.shell c.leave_stage.ensures.session c.settled.ensures c.eval_command-how.ensures

pub eval_subs-loop-list-init : goal.eval_subs-loop-list-init
eval_subs-loop-list-init g t c = record { rest = λ came new all. all; sound = c.requires.sound }

pub eval_subs-returns-then-not-goes_on : goal.eval_subs-returns-then-not-goes_on
eval_subs-returns-then-not-goes_on g t c =
    c.loop-list.invariant.rest _ _ (subs-stopped c.args.subs.now c.loop-list.list-index c.list-item.result _ _ _ c.list-item.is c.loop-list-test.true
    (sym c.goes_on.ensures ∙ c.if-not-goes_on.true) c.eval_substitution-how.ensures)

pub eval_subs-loop-list-preserved : goal.eval_subs-loop-list-preserved
eval_subs-loop-list-preserved g t c =
    record {
      rest = λ came new rest. c.loop-list.invariant.rest came new (subs-followed c.args.subs.now c.loop-list.list-index c.list-item.result _ _ _ _ _ c.list-item.is c.loop-list-test.true
          (sym c.goes_on.ensures ∙ c.if-not-goes_on.false) c.eval_substitution-how.ensures rest);
      sound = sound-behind _ _ (c.eval_substitution-how.ensures.keeps (goes-gone _ (sym c.goes_on.ensures ∙ c.if-not-goes_on.false))) c.loop-list.invariant.sound;
    }

pub eval_subs-returns : goal.eval_subs-returns
eval_subs-returns g t c = c.loop-list.invariant.rest _ _ (subs-done c.args.subs.now c.loop-list.list-index _ c.loop-list-test.false)

pub eval_body-returns-in-While : goal.eval_body-returns-in-While
eval_body-returns-in-While g t c = while-body c.args.command.now _ _ _ _ _ _ c.in-While.is c.eval_while.ensures

pub eval_body-returns-in-Until : goal.eval_body-returns-in-Until
eval_body-returns-in-Until g t c = until-body c.args.command.now _ _ _ _ _ _ c.in-Until.is c.eval_while-in-Until.ensures

pub eval_body-returns-in-Simple : goal.eval_body-returns-in-Simple
eval_body-returns-in-Simple g t c = wanted (λ expansions. body_means expansions pages (command_tree c.args.command.now)) _ (λ expansions. body-adds expansions (command_tree c.args.command.now))

pub eval_command-returns-in-Err : goal.eval_command-returns-in-Err
eval_command-returns-in-Err g t c =
    compound-opened c.args.command.now _ _ c.in-Group.is c.as_slice.ensures.value _ _ _ _ _ (sym c.goes_on.ensures ∙ c.if-not-goes_on.false) c.eval_tail-how.ensures
    (c.in-Err.ensures.err _ _ (λ expansions. body_means expansions pages (command_tree c.args.command.now)) (λ expansions. body-adds expansions (command_tree c.args.command.now)))

pub eval_command-returns-in-Ok : goal.eval_command-returns-in-Ok
eval_command-returns-in-Ok g t c =
    compound-opened c.args.command.now _ _ c.in-Group.is c.as_slice.ensures.value _ _ _ _ _ (sym c.goes_on.ensures ∙ c.if-not-goes_on.false) c.eval_tail-how.ensures
    (c.in-Ok.ensures.ok _ _ (λ expansions. body_means expansions pages (command_tree c.args.command.now)) _ _ _ c.eval_body-how.ensures c.close.ensures)

pub eval_command-returns-then-not-goes_on : goal.eval_command-returns-then-not-goes_on
eval_command-returns-then-not-goes_on g t c = compound-stopped c.args.command.now _ c.in-Group.is _ _ _ (sym c.goes_on.ensures ∙ c.if-not-goes_on.true) c.eval_tail-how.ensures

pub eval_if-eval_condition-how-requires : goal.eval_if-eval_condition-how-requires
eval_if-eval_condition-how-requires g t c κs outlive = (
  part-falls (λ branch. (weighed-Command-If-0-at-2).weight _ the_size branch)
      c.as_slice-branch-items.result.now c.loop-branch.branch-index c.branch-item.result (size-Command c.args.command.now) t c.loop-branch-test.true c.branch-item.is
      (let whole = ap size-Command c.in-If.is ∙ sized-If _ _ _ in rw (c.as_slice-branch-items.ensures.value, whole) (omega arith)) c.decreases,
  (
    outlive.0,
    (
      outlive.1.0,
      (
        outlive.1.1.0,
        (
          outlive.1.1.1.0,
          (
            outlive.1.1.1.1.0,
            (
              outlive.1.1.1.1.1.0,
              (
                outlive.1.1.1.1.1.1.0,
                (
                  outlive.1.1.1.1.1.1.1.0,
                  (
                    outlive.1.1.1.1.1.1.1.1,
                    (search rules, (search rules, (search rules, (search rules, (search rules, (search rules, c.loop-branch.invariant.sound)))))),
                  ),
                ),
              ),
            ),
          ),
        ),
      ),
    ),
  ),
)

pub eval_if-eval_branch-requires : goal.eval_if-eval_branch-requires
eval_if-eval_branch-requires g t c κs outlive = (
  part-falls (λ branch. (weighed-Command-If-0-at-2).weight _ the_size branch)
      c.as_slice-branch-items.result.now c.loop-branch.branch-index c.branch-item.result (size-Command c.args.command.now) t c.loop-branch-test.true c.branch-item.is
      (let whole = ap size-Command c.in-If.is ∙ sized-If _ _ _ in rw (c.as_slice-branch-items.ensures.value, whole) (omega arith)) c.decreases,
  (
    outlive.0,
    (
      outlive.1.0,
      (
        outlive.1.1.0,
        (
          outlive.1.1.1.0,
          (
            outlive.1.1.1.1.0,
            (
              outlive.1.1.1.1.1.0,
              (
                outlive.1.1.1.1.1.1.0,
                (
                  outlive.1.1.1.1.1.1.1.0,
                  (
                    outlive.1.1.1.1.1.1.1.1,
                    (search rules, (search rules, (search rules, (search rules, (search rules, (search rules, sound-behind _ _ (c.eval_condition-how.ensures.keeps (goes-gone _ (sym c.goes_on.ensures ∙ c.if-not-goes_on.false))) c.loop-branch.invariant.sound)))))),
                  ),
                ),
              ),
            ),
          ),
        ),
      ),
    ),
  ),
)

pub eval_if-eval_list-requires-clause-sound : goal.eval_if-eval_list-requires-clause-sound
eval_if-eval_list-requires-clause-sound g t c κs outlive = c.loop-branch.invariant.sound

pub eval_if-loop-branch-init : goal.eval_if-loop-branch-init
eval_if-loop-branch-init g t c =
    record {
      rest = λ came new all. if-body c.args.command.now _ _ _ _ _ _ _ c.in-If.is c.as_slice-branch-items.ensures.value all;
      sound = c.requires.sound;
    }

pub eval_if-loop-branch-preserved : goal.eval_if-loop-branch-preserved
eval_if-loop-branch-preserved g t c =
    record {
      rest = λ came new rest. c.loop-branch.invariant.rest came new (if-passed _ _ c.loop-branch.branch-index _ c.branch-item.is c.loop-branch-test.true _ _ _ _ _ (sym c.goes_on.ensures ∙ c.if-not-goes_on.false) c.if-shell-eq0.false c.eval_condition-how.ensures rest);
      sound = sound-behind _ _ (c.eval_condition-how.ensures.keeps (goes-gone _ (sym c.goes_on.ensures ∙ c.if-not-goes_on.false))) c.loop-branch.invariant.sound;
    }

pub eval_if-returns-in-None : goal.eval_if-returns-in-None
eval_if-returns-in-None g t c = c.loop-branch.invariant.rest _ _ (if-none _ _ c.loop-branch.branch-index _ _ _ _ _ _ c.loop-branch-test.false c.in-None.is refl)

pub eval_if-returns-in-Some : goal.eval_if-returns-in-Some
eval_if-returns-in-Some g t c = c.loop-branch.invariant.rest _ _ (if-else _ _ _ c.loop-branch.branch-index _ _ _ c.loop-branch-test.false c.in-Some.is c.eval_list.ensures)

pub eval_if-returns-in_default : goal.eval_if-returns-in_default
eval_if-returns-in_default g t c = wanted (λ expansions. body_means expansions pages (command_tree c.args.command.now)) _ (λ expansions. body-adds expansions (command_tree c.args.command.now))

pub eval_if-returns-then-not-goes_on : goal.eval_if-returns-then-not-goes_on
eval_if-returns-then-not-goes_on g t c =
    c.loop-branch.invariant.rest _ _ (if-stopped _ _ c.loop-branch.branch-index _ c.branch-item.is c.loop-branch-test.true _ _ _ (sym c.goes_on.ensures ∙ c.if-not-goes_on.true) c.eval_condition-how.ensures)

pub eval_if-returns-then-shell-eq0 : goal.eval_if-returns-then-shell-eq0
eval_if-returns-then-shell-eq0 g t c =
    c.loop-branch.invariant.rest _ _ (if-taken _ _ c.loop-branch.branch-index _ c.branch-item.is c.loop-branch-test.true _ _ _ _ _ (sym c.goes_on.ensures ∙ c.if-not-goes_on.false) c.if-shell-eq0.true c.eval_condition-how.ensures c.eval_branch.ensures)

pub eval_loop_body-returns : goal.eval_loop_body-returns
eval_loop_body-returns g t c = body-noted (λ expansions. list_means expansions pages (list_tree c.args.body.now)) _ _ _ _ _ _ _ _ c.note_body.ensures c.eval_list-how.ensures

pub eval_simple-returns : goal.eval_simple-returns
eval_simple-returns g t c =
    simple-followed c.args.simple.now _ _ _ _ c.as_slice.ensures.value c.as_slice-2.ensures.value c.as_slice-3.ensures.value c.as_slice-4.ensures.value _ _ _ _ _ _ _ _ _ _ c.begin_command.ensures (sym c.goes_on.ensures ∙ c.if-not-goes_on.false) c.eval_subs-how.ensures c.run_simple.ensures

pub eval_simple-returns-then-not-goes_on : goal.eval_simple-returns-then-not-goes_on
eval_simple-returns-then-not-goes_on g t c = simple-stopped c.args.simple.now _ c.as_slice.ensures.value _ _ _ _ _ _ _ _ c.begin_command.ensures (sym c.goes_on.ensures ∙ c.if-not-goes_on.true) c.eval_subs-how.ensures

pub eval_substituted-returns : goal.eval_substituted-returns
eval_substituted-returns g t c = substituted-some c.args.list.now _ _ _ (c.has_command.ensures.some c.if-not-has_command.false) c.eval_list.ensures

pub eval_substituted-returns-then-not-has_command : goal.eval_substituted-returns-then-not-has_command
eval_substituted-returns-then-not-has_command g t c = substituted-empty c.args.list.now _ _ _ _ _ _ (c.has_command.ensures.none c.if-not-has_command.true) refl

pub eval_substitution-returns : goal.eval_substitution-returns
eval_substitution-returns g t c =
    within (λ expansions. some_command (has_item (list_tree c.args.list.now)) (list_means expansions pages (list_tree c.args.list.now))) piping (λ old new. unpiped old.streams.to new) with_text _ _ _ _ _ _ _ _ _ _ _ _
    c.in-Ok.ensures (search rules) (c.in-Ok-keep_text.ensures ∙ ap (λ (text : List ℕ). with_kept text c.eval_substituted-how.new.shell.status c.args.shell.now) (c.as_slice.ensures.value ∙ c.close_pipe-text.ensures.text)) (search rules) c.settled.ensures same-turns (λ old new. same-turns new) (λ old new same. record { output = refl; errors = same.errors }) c.eval_substituted-how.ensures

pub eval_substitution-returns-in_default : goal.eval_substitution-returns-in_default
eval_substitution-returns-in_default g t c = wanted (λ expansions. substitution (some_command (has_item (list_tree c.args.list.now)) (list_means expansions pages (list_tree c.args.list.now)))) _ (λ expansions. adds-substitution (some_command (has_item (list_tree c.args.list.now)) (list_means expansions pages (list_tree c.args.list.now))) (adds-some_command (has_item (list_tree c.args.list.now)) (list_means expansions pages (list_tree c.args.list.now)) (list-adds expansions pages (list_tree c.args.list.now))))

pub eval_substitution-returns-in_default-open_pipe : goal.eval_substitution-returns-in_default-open_pipe
eval_substitution-returns-in_default-open_pipe g t c = wanted-at (λ expansions. substitution (some_command (has_item (list_tree c.args.list.now)) (list_means expansions pages (list_tree c.args.list.now)))) _ _ _ _ _ _ (search rules) (λ expansions. adds-substitution (some_command (has_item (list_tree c.args.list.now)) (list_means expansions pages (list_tree c.args.list.now))) (adds-some_command (has_item (list_tree c.args.list.now)) (list_means expansions pages (list_tree c.args.list.now)) (list-adds expansions pages (list_tree c.args.list.now))))

pub eval_substitution-returns-in_default-keep_text : goal.eval_substitution-returns-in_default-keep_text
eval_substitution-returns-in_default-keep_text g t c =
    wanted-behind (λ expansions. substitution (some_command (has_item (list_tree c.args.list.now)) (list_means expansions pages (list_tree c.args.list.now)))) _ _ _ _ _ _ _ _
    (within (λ expansions. some_command (has_item (list_tree c.args.list.now)) (list_means expansions pages (list_tree c.args.list.now))) piping (λ old new. unpiped old.streams.to new) with_text _ _ _ _ _ _ _ _ _ _ _ _
    c.in-Ok.ensures (search rules) refl (search rules) refl same-turns (λ old new. same-turns new) (λ old new same. record { output = refl; errors = same.errors }) c.eval_substituted-how.ensures)

pub eval_turn-returns-in_default : goal.eval_turn-returns-in_default
eval_turn-returns-in_default g t c = wanted (λ expansions. turn_means expansions pages (command_tree c.args.command.now)) _ (λ expansions. turn-adds expansions (command_tree c.args.command.now))

pub eval_turns-loop-session-preserved-else-not-goes_round-7 : goal.eval_turns-loop-session-preserved-else-not-goes_round-7
eval_turns-loop-session-preserved-else-not-goes_round-7 g t c =
    record {
      rest = λ came new rest. c.loop-session.invariant.rest came new (turns-again (λ expansions. turn_means expansions pages (command_tree c.args.command.now)) (λ expansions. turn-adds expansions (command_tree c.args.command.now)) _ _ _ _ _ _ _ _ _ _ c.loop-session-test.true refl (sym c.goes_round.ensures ∙ c.if-not-goes_round.false) c.eval_turn-how.ensures rest);
      sound = sound-behind _ _ (c.eval_turn-how.ensures.keeps (gone-so goes_round _ (sym c.goes_round.ensures ∙ c.if-not-goes_round.false))) c.loop-session.invariant.sound;
    }

pub eval_turns-returns : goal.eval_turns-returns
eval_turns-returns g t c = c.loop-session.invariant.rest _ _ (turns-over (λ expansions. turn_means expansions pages (command_tree c.args.command.now)) (λ expansions. turn-adds expansions (command_tree c.args.command.now)) _ _ _ _ _ c.loop-session-test.false)

pub eval_turns-returns-then-not-goes_round : goal.eval_turns-returns-then-not-goes_round
eval_turns-returns-then-not-goes_round g t c =
    c.loop-session.invariant.rest _ _ (turns-left (λ expansions. turn_means expansions pages (command_tree c.args.command.now)) (λ expansions. turn-adds expansions (command_tree c.args.command.now)) _ _ _ _ _ _ _ _ _ c.loop-session-test.true refl (sym c.goes_round.ensures ∙ c.if-not-goes_round.true) c.left_by.ensures c.eval_turn-how.ensures)

pub eval_until_turn-returns : goal.eval_until_turn-returns
eval_until_turn-returns g t c =
    until-turn c.args.command.now _ _ _ _ _ _ c.in-Until.is (turn-held failed (λ expansions. list_means expansions pages (list_tree _)) (λ expansions. list_means expansions pages (list_tree _)) (λ expansions. list-adds expansions pages (list_tree _)) _ _ _ _ _ (sym c.goes_on.ensures ∙ c.if-not-goes_on.false)
    (λ state same. ap not (fails-so _ state same c.if-shell-eq0.false)) c.eval_list-how.ensures c.eval_loop_body.ensures)

pub eval_until_turn-returns-in_default : goal.eval_until_turn-returns-in_default
eval_until_turn-returns-in_default g t c = wanted (λ expansions. turn_means expansions pages (command_tree c.args.command.now)) _ (λ expansions. turn-adds expansions (command_tree c.args.command.now))

pub eval_until_turn-returns-then-not-goes_on : goal.eval_until_turn-returns-then-not-goes_on
eval_until_turn-returns-then-not-goes_on g t c =
    until-turn c.args.command.now _ _ _ _ _ _ c.in-Until.is (turn-left failed (λ expansions. list_means expansions pages (list_tree _)) (λ expansions. list_means expansions pages (list_tree _)) (λ expansions. list-adds expansions pages (list_tree _)) _ _ _ _ _ _ _ _ (sym c.goes_on.ensures ∙ c.if-not-goes_on.true) c.leave_condition.ensures c.eval_list-how.ensures)

pub eval_until_turn-returns-then-shell-eq0 : goal.eval_until_turn-returns-then-shell-eq0
eval_until_turn-returns-then-shell-eq0 g t c =
    until-turn c.args.command.now _ _ _ _ _ _ c.in-Until.is (turn-failed failed (λ expansions. list_means expansions pages (list_tree _)) (λ expansions. list_means expansions pages (list_tree _)) (λ expansions. list-adds expansions pages (list_tree _)) _ _ _ _ _ _ _ _ (sym c.goes_on.ensures ∙ c.if-not-goes_on.false)
    (λ state same. ap not (succeeds-so _ state same c.if-shell-eq0.true)) refl c.eval_list-how.ensures)

pub eval_while_turn-returns : goal.eval_while_turn-returns
eval_while_turn-returns g t c =
    while-turn c.args.command.now _ _ _ _ _ _ c.in-While.is (turn-held succeeded (λ expansions. list_means expansions pages (list_tree _)) (λ expansions. list_means expansions pages (list_tree _)) (λ expansions. list-adds expansions pages (list_tree _)) _ _ _ _ _ (sym c.goes_on.ensures ∙ c.if-not-goes_on.false)
    (λ state same. succeeds-so _ state same c.if-shell-ne0.false) c.eval_list-how.ensures c.eval_loop_body.ensures)

pub eval_while_turn-returns-in_default : goal.eval_while_turn-returns-in_default
eval_while_turn-returns-in_default g t c = wanted (λ expansions. turn_means expansions pages (command_tree c.args.command.now)) _ (λ expansions. turn-adds expansions (command_tree c.args.command.now))

pub eval_while_turn-returns-then-not-goes_on : goal.eval_while_turn-returns-then-not-goes_on
eval_while_turn-returns-then-not-goes_on g t c =
    while-turn c.args.command.now _ _ _ _ _ _ c.in-While.is (turn-left succeeded (λ expansions. list_means expansions pages (list_tree _)) (λ expansions. list_means expansions pages (list_tree _)) (λ expansions. list-adds expansions pages (list_tree _)) _ _ _ _ _ _ _ _ (sym c.goes_on.ensures ∙ c.if-not-goes_on.true) c.leave_condition.ensures c.eval_list-how.ensures)

pub eval_while_turn-returns-then-shell-ne0 : goal.eval_while_turn-returns-then-shell-ne0
eval_while_turn-returns-then-shell-ne0 g t c =
    while-turn c.args.command.now _ _ _ _ _ _ c.in-While.is (turn-failed succeeded (λ expansions. list_means expansions pages (list_tree _)) (λ expansions. list_means expansions pages (list_tree _)) (λ expansions. list-adds expansions pages (list_tree _)) _ _ _ _ _ _ _ _ (sym c.goes_on.ensures ∙ c.if-not-goes_on.false)
    (λ state same. fails-so _ state same c.if-shell-ne0.true) refl c.eval_list-how.ensures)

pub eval_while-returns : goal.eval_while-returns
eval_while-returns g t c = in-loop (λ expansions. all_turns (turn_means expansions pages (command_tree c.args.command.now))) _ _ _ _ _ _ _ _ _ _ _ _ _ (search rules) (search rules) c.eval_turns-how.ensures

pub eval_while-returns-in_default : goal.eval_while-returns-in_default
eval_while-returns-in_default g t c =
    failed-early (λ expansions. in_loop (all_turns (turn_means expansions pages (command_tree c.args.command.now))))
    (λ expansions. loop-adds (all_turns (turn_means expansions pages (command_tree c.args.command.now))) (turns-add expansions (command_tree c.args.command.now))) _ _ _ _ _ _ _ how.Memory (λ gone. gone) (no-fewer _) tt

pub eval_for-returns-in_default : goal.eval_for-returns-in_default
eval_for-returns-in_default g t c = wanted (λ expansions. body_means expansions pages (command_tree c.args.command.now)) _ (λ expansions. body-adds expansions (command_tree c.args.command.now))

pub eval_for-returns-in_default-copy : goal.eval_for-returns-in_default-copy
eval_for-returns-in_default-copy g t c = wanted (λ expansions. body_means expansions pages (command_tree c.args.command.now)) _ (λ expansions. body-adds expansions (command_tree c.args.command.now))

pub eval_for-returns-in-Ok : goal.eval_for-returns-in-Ok
eval_for-returns-in-Ok g t c = for-arguments c.args.command.now _ _ _ _ _ _ _ _ c.in-For.is c.in-None.is (c.as_slice.ensures ∙ c.in-Ok.ensures) c.eval_for_over.ensures

pub eval_for-returns-then-not-goes_on : goal.eval_for-returns-then-not-goes_on
eval_for-returns-then-not-goes_on g t c = for-stopped c.args.command.now _ _ _ _ _ _ c.in-For.is c.in-Some.is c.as_slice-in-Some.ensures.value _ _ _ _ _ _ _ _ c.begin_command.ensures (sym c.goes_on.ensures ∙ c.if-not-goes_on.true) c.eval_subs-how.ensures

pub eval_for-returns-in-Err : goal.eval_for-returns-in-Err
eval_for-returns-in-Err g t c =
    for-followed c.args.command.now _ _ _ _ _ _ _ c.in-For.is c.in-Some.is c.as_slice-in-Some.ensures.value c.as_slice-in-Some-2.ensures.value _ _ _ _ _ _ _ _ _ _ c.begin_command.ensures (sym c.goes_on.ensures ∙ c.if-not-goes_on.false) c.eval_subs-how.ensures
    (c.in-Err.ensures.err _ _ (for_behind c.args.command.now) (for-adds c.args.command.now))

pub eval_for-returns-in-Ok-expand_words : goal.eval_for-returns-in-Ok-expand_words
eval_for-returns-in-Ok-expand_words g t c =
    for-followed c.args.command.now _ _ _ _ _ _ _ c.in-For.is c.in-Some.is c.as_slice-in-Some.ensures.value c.as_slice-in-Some-2.ensures.value _ _ _ _ _ _ _ _ _ _ c.begin_command.ensures (sym c.goes_on.ensures ∙ c.if-not-goes_on.false) c.eval_subs-how.ensures
    (c.in-Ok-expand_words.ensures.ok _ _ (for_behind c.args.command.now) _ _ (for-fields c.args.command.now _ _ _ _ _ (ap texts_of c.as_slice-in-Some-3.ensures.value) c.eval_for_over-in-Some.ensures))

pub eval_for_over-returns-in_default : goal.eval_for_over-returns-in_default
eval_for_over-returns-in_default g t c =
    failed-early (λ expansions. in_loop (rounds_mean expansions pages (command_tree c.args.command.now) (texts_of c.args.fields.now)))
    (λ expansions. loop-adds (rounds_mean expansions pages (command_tree c.args.command.now) (texts_of c.args.fields.now)) (rounds-add expansions (command_tree c.args.command.now) (texts_of c.args.fields.now))) _ _ _ _ _ _ _ how.Memory (λ gone. gone) (no-fewer _) tt

pub eval_for_over-returns : goal.eval_for_over-returns
eval_for_over-returns g t c = in-loop (λ expansions. rounds_mean expansions pages (command_tree c.args.command.now) (texts_of c.args.fields.now)) _ _ _ _ _ _ _ _ _ _ _ _ _ (search rules) (search rules) c.eval_rounds-how.ensures

pub eval_round-returns-in_default-set : goal.eval_round-returns-in_default-set
eval_round-returns-in_default-set g t c =
    failed-early (λ expansions. round_means expansions pages (command_tree c.args.command.now) c.args.field.now) (λ expansions. round-adds expansions (command_tree c.args.command.now) c.args.field.now) _ _ _ _ _ _ _ how.Memory (λ gone. gone) (no-fewer _) tt

pub eval_round-returns-in_default : goal.eval_round-returns-in_default
eval_round-returns-in_default g t c =
    failed-early (λ expansions. round_means expansions pages (command_tree c.args.command.now) c.args.field.now) (λ expansions. round-adds expansions (command_tree c.args.command.now) c.args.field.now) _ _ _ _ _ _ _ how.Memory (λ gone. gone) (no-fewer _) tt

pub eval_round-returns : goal.eval_round-returns
eval_round-returns g t c =
    round-of c.args.command.now _ _ _ _ _ _ _ _ _ _ _ _ _ c.in-For.is
    (ap (λ (it : Variables). with_env it c.args.shell.now) (c.in-Ok.ensures.ok ∙ ap (λ (it : List ℕ). finite.insert c.args.shell.now.variables it c.args.field.now) c.as_slice.ensures))
    c.eval_loop_body.ensures

pub eval_rounds-returns-then-session-ge-MAX_TURNS : goal.eval_rounds-returns-then-session-ge-MAX_TURNS
eval_rounds-returns-then-session-ge-MAX_TURNS g t c = c.loop-field.invariant.rest _ _ (over-here (command_tree c.args.command.now) c.args.fields.now c.loop-field.field-index c.field-item.result _ c.field-item.is c.loop-field-test.true refl _ _ _ _ _ c.if-session-ge-MAX_TURNS.true)

pub eval_rounds-returns-then-not-goes_round : goal.eval_rounds-returns-then-not-goes_round
eval_rounds-returns-then-not-goes_round g t c =
    c.loop-field.invariant.rest _ _ (left-here (command_tree c.args.command.now) c.args.fields.now c.loop-field.field-index c.field-item.result _ c.field-item.is c.loop-field-test.true c.as_slice.ensures.value _ _ _ _ _ _ _ _ _ (let under = c.if-session-ge-MAX_TURNS.false in omega (arith, under)) refl
    (sym c.goes_round.ensures ∙ c.if-not-goes_round.true) c.left_by.ensures c.eval_round-how.ensures)

pub eval_rounds-loop-field-preserved : goal.eval_rounds-loop-field-preserved
eval_rounds-loop-field-preserved g t c =
    record {
      rest = λ came new rest. c.loop-field.invariant.rest came new (again-here (command_tree c.args.command.now) c.args.fields.now c.loop-field.field-index c.field-item.result _ c.field-item.is c.loop-field-test.true c.as_slice.ensures.value _ _ _ _ _ _ _ _ _ _ (let under = c.if-session-ge-MAX_TURNS.false in omega (arith, under)) refl
          (sym c.goes_round.ensures ∙ c.if-not-goes_round.false) c.eval_round-how.ensures rest);
      sound = sound-behind _ _ (c.eval_round-how.ensures.keeps (gone-so goes_round _ (sym c.goes_round.ensures ∙ c.if-not-goes_round.false))) c.loop-field.invariant.sound;
    }

pub eval_rounds-returns : goal.eval_rounds-returns
eval_rounds-returns g t c = c.loop-field.invariant.rest _ _ (done-here (command_tree c.args.command.now) c.args.fields.now c.loop-field.field-index _ _ _ _ _ _ c.loop-field-test.false refl)

pub eval_joined-eval_next-how-requires : goal.eval_joined-eval_next-how-requires
eval_joined-eval_next-how-requires g t c κs outlive = (
  element-falls _ c.args.rest.now c.loop-join.join-index c.loop-join-item.result _ t (second-weighs _ _ _) c.loop-join-test.true c.loop-join-item.is c.decreases,
  (
    outlive.0,
    (
      outlive.1.0,
      (
        outlive.1.1.0,
        (
          outlive.1.1.1.0,
          (
            outlive.1.1.1.1.0,
            (
              outlive.1.1.1.1.1.0,
              (
                outlive.1.1.1.1.1.1.0,
                (
                  outlive.1.1.1.1.1.1.1.0,
                  (
                    outlive.1.1.1.1.1.1.1.1,
                    (search rules, (search rules, (search rules, (search rules, (search rules, (search rules, c.loop-join.invariant.sound)))))),
                  ),
                ),
              ),
            ),
          ),
        ),
      ),
    ),
  ),
)
