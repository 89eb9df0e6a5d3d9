use Rattle.std.proofs.Common.{◌≡◌, List, IfSome, true, ◌∙◌, ap, subst, sym}
use Rattle.std.specs.List.{list_all}
use Rattle.fl_graph.specs.Paths.{ArePathsApart}
use Rattle.ps_world.specs.Files.{bytes_at}
use Rattle.fl_segments.specs.Groups.{marks_hold}
use Rattle.fl_segments.specs.Stages.{files_read, files_written, is_stage}
use Rattle.fl_segments.specs.declared.stages.Stage.{Stage}
use Rattle.fl_commands.specs.Inner.Segments.{AllThere, segment_asks}
use Rattle.fl_commands.proofs.MarkLemmas.{one-none}
use Rattle.fl_commands.proofs.RunLemmas.{asked-alike, nothing-ran}
use Rattle.fl_commands.proofs.StageLemmas.{begun-so, one-apart, one-asks, one-stage, one-there, one-written}
use Rattle.fl_commands.proofs.runs.run_command.Goals as goal

pub returns-in_default : goal.returns-in_default
returns-in_default g c = nothing-ran _ _ _ _ _ _

pub run_segment-requires-clause-stages : goal.run_segment-requires-clause-stages
run_segment-requires-clause-stages g c κs within =
    subst (λ (it : List Stage). list_all is_stage it ≡ true) (sym c.as_slice.ensures)
    (one-stage c.args.inv.now c.args.operands.now c.args.tees.now c.in-Ok.stage c.in-Ok.ensures c.requires.built c.requires.named c.requires.few c.requires.tees)

pub run_segment-requires-clause-paths : goal.run_segment-requires-clause-paths
run_segment-requires-clause-paths g c κs within =
    subst (λ (it : List Stage). ArePathsApart (files_read it) (files_written it)) (sym c.as_slice.ensures)
    (one-apart c.args.inv.now c.args.operands.now c.args.tees.now c.in-Ok.stage c.in-Ok.ensures c.requires.built c.requires.named c.requires.few c.requires.apart)

pub run_segment-requires-clause-begun : goal.run_segment-requires-clause-begun
run_segment-requires-clause-begun g c κs within =
    begun-so (g.T.Tree.state c.args.tree.now).held _ _ (ap files_written c.as_slice.ensures ∙ one-written c.args.inv.now c.args.operands.now c.args.tees.now c.in-Ok.stage c.in-Ok.ensures) c.requires.begun

pub run_segment-requires-clause-there : goal.run_segment-requires-clause-there
run_segment-requires-clause-there g c κs within =
    subst (λ (it : List Stage). IfSome (g.T.Tree.state c.args.tree.now).held (λ files. AllThere files it)) (sym c.as_slice.ensures)
    (one-there c.args.inv.now c.args.operands.now c.args.tees.now c.in-Ok.stage c.in-Ok.ensures _ c.requires.whole c.requires.stand)

pub run_segment-requires-clause-marks : goal.run_segment-requires-clause-marks
run_segment-requires-clause-marks g c κs within = λ files told.
    ap (marks_hold (bytes_at files)) c.as_slice.ensures ∙ one-none (bytes_at files) c.args.inv.now c.args.operands.now c.args.tees.now c.in-Ok.stage c.in-Ok.ensures

pub returns : goal.returns
returns g c =
    asked-alike _ _
    (ap (λ (it : List Stage). segment_asks it c.args.from.now) c.as_slice.ensures
    ∙ one-asks c.args.inv.now c.args.operands.now c.args.tees.now c.in-Ok.stage c.in-Ok.ensures c.requires.built c.requires.named c.requires.few c.requires.tees c.args.from.now)
    _ _ _ _ _ _ _ _ _ _ _ c.run_segment.ensures
