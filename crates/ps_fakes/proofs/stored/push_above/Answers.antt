use Rattle.std.proofs.Common.{ap, ◌∙◌}
use Rattle.ps_world.specs.Paths.{parent_of}
use Rattle.ps_fakes.proofs.FolderLemmas.{parent_climbed, climbed_more, pushed_folder}
use Rattle.ps_fakes.proofs.stored.push_above.Goals as goal

pub steps-preserved : goal.steps-preserved
steps-preserved c =
    let up = c.pop.ensures ∙ ap parent_of c.steps.invariant.0 ∙ parent_climbed c.args.path.now c.steps.counter in (
      up,
      climbed_more c.args.path.now c.steps.counter _ _ _ _ (c.in_ok-copy.ensures ∙ up) c.steps.invariant.1
          (pushed_folder c.steps.stored.items c.push.new.self.items c.folder.result c.in_ok-copy.field-0 c.folder.ensures c.in_ok-push.ensures.items),
    )
