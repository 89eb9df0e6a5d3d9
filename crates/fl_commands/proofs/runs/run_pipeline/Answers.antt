use Rattle.std.proofs.Common.{◌≡◌, List, IfSome, true, length, ◌∙◌, ap, subst, sym, arith}
use Rattle.std.specs.List.{list_all}
use Rattle.ps_world.specs.Files.{bytes_at}
use Rattle.ps_world.specs.TreeState.{TreeState}
use Rattle.fl_graph.specs.Paths.{ArePathsApart}
use Rattle.fl_segments.specs.Groups.{marks_hold}
use Rattle.fl_segments.specs.Stages.{files_read, files_written, is_stage}
use Rattle.fl_segments.specs.declared.stages.Stage.{Stage}
use Rattle.fl_commands.specs.Inner.Segments.{AllThere, segment_asks}
use Rattle.fl_commands.specs.Runs.{Runs}
use Rattle.fl_commands.proofs.MarkLemmas.{members-apart, members-asks, members-count, members-stages, members-there, members-written}
use Rattle.fl_commands.specs.Writers.{AreFilesAt}
use Rattle.fl_commands.proofs.StageLemmas.{begun-so}
use Rattle.fl_commands.proofs.RunLemmas.{asked-alike, none-marked, ran-behind}
use Rattle.fl_commands.proofs.runs.run_pipeline.Goals as goal

pub returns-in-Err : goal.returns-in-Err
returns-in-Err g c =
    subst (Runs _ _ _ _ _ _ _ _ _ _ _) (sym c.of_tree.ensures)
    (none-marked _ _ _ _ _ _ _ _ _ _ c.in-Err.error c.stages_at.ensures.state c.in-Err.ensures.cause)

pub run_segment-requires-clause-some : goal.run_segment-requires-clause-some
run_segment-requires-clause-some g c κs within =
    let many = ap (λ (it : List Stage). length it) c.as_slice.ensures.value ∙ members-count c.args.members.now c.in-Ok.stages.items c.in-Ok.ensures.stages in
    let some = c.requires.some in
    omega (arith, many, some)

pub run_segment-requires-clause-most : goal.run_segment-requires-clause-most
run_segment-requires-clause-most g c κs within =
    let many = ap (λ (it : List Stage). length it) c.as_slice.ensures.value ∙ members-count c.args.members.now c.in-Ok.stages.items c.in-Ok.ensures.stages in
    let most = c.requires.most in
    omega (arith, many, most)

pub run_segment-requires-clause-stages : goal.run_segment-requires-clause-stages
run_segment-requires-clause-stages g c κs within =
    subst (λ (it : List Stage). list_all is_stage it ≡ true) (sym c.as_slice.ensures.value)
    (members-stages c.args.members.now c.in-Ok.stages.items c.in-Ok.ensures.stages c.requires.ready)

pub run_segment-requires-clause-paths : goal.run_segment-requires-clause-paths
run_segment-requires-clause-paths g c κs within =
    subst (λ (it : List Stage). ArePathsApart (files_read it) (files_written it)) (sym c.as_slice.ensures.value)
    (members-apart c.args.members.now c.in-Ok.stages.items c.in-Ok.ensures.stages c.requires.ready c.requires.apart)

pub run_segment-requires-clause-begun : goal.run_segment-requires-clause-begun
run_segment-requires-clause-begun g c κs within =
    subst (λ (state : TreeState). IfSome state.held (λ files. AreFilesAt files (files_written c.as_slice.result.now))) (sym c.stages_at.ensures.state)
    (begun-so (g.T.Tree.state c.args.tree.now).held _ _ (ap files_written c.as_slice.ensures.value ∙ members-written c.args.members.now c.in-Ok.stages.items c.in-Ok.ensures.stages) c.requires.begun)

pub run_segment-requires-clause-there : goal.run_segment-requires-clause-there
run_segment-requires-clause-there g c κs within =
    subst (λ (state : TreeState). IfSome state.held (λ files. AllThere files c.as_slice.result.now)) (sym c.stages_at.ensures.state)
    (subst (λ (it : List Stage). IfSome (g.T.Tree.state c.args.tree.now).held (λ files. AllThere files it)) (sym c.as_slice.ensures.value)
    (members-there c.args.members.now c.in-Ok.stages.items c.in-Ok.ensures.stages _ c.requires.whole c.requires.stand))

pub run_segment-requires-clause-marks : goal.run_segment-requires-clause-marks
run_segment-requires-clause-marks g c κs within = λ files told.
    ap (marks_hold (bytes_at files)) c.as_slice.ensures.value ∙ c.in-Ok.ensures.marks files (sym (ap (λ (state : TreeState). state.held) c.stages_at.ensures.state) ∙ told)

pub returns : goal.returns
returns g c =
    ran-behind _ _ _ _ _ _ _ _ _ _ _ _ _ _ _ _ c.stages_at.ensures.state c.in-Ok.ensures.cause.ok
    (asked-alike _ _
    (ap (λ (it : List Stage). segment_asks it c.args.from.now) c.as_slice.ensures.value
    ∙ members-asks c.args.members.now c.in-Ok.stages.items c.in-Ok.ensures.stages c.requires.ready c.args.from.now)
    _ _ _ _ _ _ _ _ _ _ _ c.run_segment.ensures)
