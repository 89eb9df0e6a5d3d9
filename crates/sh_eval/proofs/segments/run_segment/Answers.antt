use Rattle.std.proofs.Common.{None, ℕ, ◌∙◌, List, subst, sym}
use Rattle.fl_commands.specs.Runs.{pipeline_asks}
use Rattle.fl_commands.specs.declared.members.Member.{Member}
use Rattle.ps_world.specs.TreeState.{TreeState}
use Rattle.sh_eval.specs.Contract.{drawn_of, point_of}
use Rattle.sh_eval.specs.Inner.Gathering.{AllLooked, AreTold, calls_of}
use Rattle.sh_eval.specs.Inner.Runs.{AreMeant, pipeline_does, reads_head}
use Rattle.sh_eval.proofs.SegmentSteps.{emptied-so, lines-stopped, members-ran, members-stopped, pipeline-meant}
use Rattle.sh_eval.proofs.Steps.{goes-gone, sound-behind}
use Rattle.sh_eval.proofs.segments.run_segment.Goals as goal

pub run_task-how-requires-clause-sound : goal.run_task-how-requires-clause-sound
run_task-how-requires-clause-sound g c κs within =
    sound-behind _ _ ((c.tell_some-how.ensures.evaluates c.args.shell.now (drawn_of None None) 0).keeps (goes-gone _ (sym c.goes_on.ensures ∙ c.if-not-goes_on.false))) c.requires.sound

pub returns-then-not-goes_on : goal.returns-then-not-goes_on
returns-then-not-goes_on g c =
    lines-stopped c.args.segment.members.items c.as_slice.result.now (point_of _ _ (g.T.Tree.state c.args.tree.now) _ _)
    (subst (λ (it : List ℕ). AreTold c.args.segment.members.items it (g.T.Tree.state c.args.tree.now)) (sym c.as_slice.ensures.value) c.requires.segment.told) _ _
    (sym c.goes_on.ensures ∙ c.if-not-goes_on.true) (c.tell_some-how.ensures.evaluates _ _ _)

pub returns-then-not-goes_on-2 : goal.returns-then-not-goes_on-2
returns-then-not-goes_on-2 g c =
    members-stopped c.args.segment.members.items c.as_slice.result.now (point_of _ _ (g.T.Tree.state c.args.tree.now) _ _)
    (subst (λ (it : List ℕ). AreTold c.args.segment.members.items it (g.T.Tree.state c.args.tree.now)) (sym c.as_slice.ensures.value) c.requires.segment.told) _ _ _ _
    (sym c.goes_on.ensures ∙ c.if-not-goes_on.false) (sym c.goes_on-2.ensures ∙ c.if-not-goes_on-2.true) (c.tell_some-how.ensures.evaluates _ _ _)
    (c.run_task-how.ensures (pipeline_does (calls_of c.args.segment.members.items))
    (λ own. subst (λ (it : List Member). AreMeant (pipeline_asks it) (reads_head it) (pipeline_does (calls_of c.args.segment.members.items)) (g.T.Tree.state c.tell_some-how.new.tree)) (sym c.as_slice-2.ensures.value)
    (pipeline-meant c.args.segment.members.items c.args.segment.lines.items (g.T.Tree.state c.tell_some-how.new.tree) c.requires.segment.some c.requires.segment.teeless
    (subst (λ (it : TreeState). AllLooked it c.args.segment.members.items) (sym (c.tell_some-how.ensures.aside c.requires.segment.plain)) c.requires.segment.looked)
    (subst (λ (it : TreeState). AreTold c.args.segment.members.items c.args.segment.lines.items it) (sym (c.tell_some-how.ensures.aside c.requires.segment.plain)) c.requires.segment.told))))

pub returns : goal.returns
returns g c =
    members-ran c.args.segment.members.items c.as_slice.result.now (point_of _ _ (g.T.Tree.state c.args.tree.now) _ _)
    (subst (λ (it : List ℕ). AreTold c.args.segment.members.items it (g.T.Tree.state c.args.tree.now)) (sym c.as_slice.ensures.value) c.requires.segment.told) _ _ _ _ _
    (sym c.goes_on.ensures ∙ c.if-not-goes_on.false) (sym c.goes_on-2.ensures ∙ c.if-not-goes_on-2.false) (c.tell_some-how.ensures.evaluates _ _ _)
    (c.run_task-how.ensures (pipeline_does (calls_of c.args.segment.members.items))
    (λ own. subst (λ (it : List Member). AreMeant (pipeline_asks it) (reads_head it) (pipeline_does (calls_of c.args.segment.members.items)) (g.T.Tree.state c.tell_some-how.new.tree)) (sym c.as_slice-2.ensures.value)
    (pipeline-meant c.args.segment.members.items c.args.segment.lines.items (g.T.Tree.state c.tell_some-how.new.tree) c.requires.segment.some c.requires.segment.teeless
    (subst (λ (it : TreeState). AllLooked it c.args.segment.members.items) (sym (c.tell_some-how.ensures.aside c.requires.segment.plain)) c.requires.segment.looked)
    (subst (λ (it : TreeState). AreTold c.args.segment.members.items c.args.segment.lines.items it) (sym (c.tell_some-how.ensures.aside c.requires.segment.plain)) c.requires.segment.told))))
    (emptied-so _ _ _ _ _ _ c.empty_pipe.ensures)
