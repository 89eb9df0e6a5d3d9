use Rattle.std.proofs.Common.{arith, ap, map}
use Rattle.std.proofs.lemmas.List.{nil_from_length}
use Rattle.ps_lines.specs.Texts.{texts_of}
use Rattle.sh_eval.specs.Inner.Bodies.{assign_tree}
use Rattle.sh_eval.proofs.SimpleSteps.{named, unnamed}
use Rattle.sh_eval.proofs.simple.run_fields.Goals as goal

pub returns-in-empty : goal.returns-in-empty
returns-in-empty g c = unnamed (map assign_tree c.args.assigns.now) c.args.targets.now _ _ _ _ (ap texts_of (nil_from_length c.args.fields.now (let below = c.in-empty.len_below in omega (arith, below)))) c.run_in_redirections.ensures

pub returns-in-len1-up : goal.returns-in-len1-up
returns-in-len1-up g c =
    named (λ field. field.items) (map assign_tree c.args.assigns.now) c.args.targets.now _ c.args.fields.now c.name-item.result _ _ _ c.name-item.is
    (let some = c.in-len1-up.len_at_least in omega (arith, some)) c.as_slice.ensures.value c.run_named.ensures
