use Rattle.std.proofs.Common.{map, ap}
use Rattle.ps_lines.specs.Texts.{texts_of}
use Rattle.sh_tree.specs.Views.{redir_tree}
use Rattle.sh_eval.specs.Asking.{asked_by}
use Rattle.sh_eval.specs.Inner.Bodies.{assign_tree}
use Rattle.sh_eval.specs.Simple.{checked}
use Rattle.sh_eval.specs.Table.{pages}
use Rattle.sh_eval.proofs.Growing.{adds-checked, asked-adds}
use Rattle.sh_eval.proofs.SimpleSteps.{behind-targets, behind_fields, fields-add}
use Rattle.sh_eval.proofs.simple.run_simple.Goals as goal

pub returns-in-Err : goal.returns-in-Err
returns-in-Err g c = c.in-Err.ensures.err _ _ (behind_fields (map assign_tree c.args.assigns.now) (map redir_tree c.args.redirs.now)) (fields-add (map assign_tree c.args.assigns.now) (map redir_tree c.args.redirs.now))

pub returns-in-Err-expand_targets : goal.returns-in-Err-expand_targets
returns-in-Err-expand_targets g c =
    c.in-Ok.ensures.ok _ _ (behind_fields (map assign_tree c.args.assigns.now) (map redir_tree c.args.redirs.now)) _ _
    (c.in-Err-expand_targets.ensures.err _ _ (λ expansions targets. checked expansions pages (map assign_tree c.args.assigns.now) targets (asked_by (texts_of c.in-Ok.fields.items)))
    (λ expansions targets. adds-checked expansions pages (map assign_tree c.args.assigns.now) targets (asked_by (texts_of c.in-Ok.fields.items)) (asked-adds (texts_of c.in-Ok.fields.items))))

pub returns : goal.returns
returns g c =
    c.in-Ok.ensures.ok _ _ (behind_fields (map assign_tree c.args.assigns.now) (map redir_tree c.args.redirs.now)) _ _
    (behind-targets (map assign_tree c.args.assigns.now) (map redir_tree c.args.redirs.now) _ _ _ _ _ _ _ _ (ap texts_of c.as_slice-2.ensures.value) c.as_slice.ensures.value (c.in-Ok-expand_targets.ensures.ok _ _) c.run_fields.ensures)
