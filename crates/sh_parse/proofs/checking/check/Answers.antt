use Rattle.std.proofs.Common.{sym, subst}
use Rattle.sh_parse.specs.Stops.{HasStop}
use Rattle.sh_parse.specs.declared.items.TheConstants.{MAX_LEVELS}
use Rattle.sh_parse.specs.declared.refusals.SyntaxRefusal.TheVariants as refusal
use Rattle.sh_parse.proofs.Tops.{fine_reads, has_script, has_bad, has_deep}
use Rattle.sh_parse.proofs.checking.check.Goals as goal

pub returns-in-Ok-clause-script : goal.returns-in-Ok-clause-script
returns-in-Ok-clause-script c = λ views.
    let found = fine_reads views MAX_LEVELS c.args.items.now c.in-Ok.ensures.fine in
    (found.0, has_script views c.args.items.now found.0 found.1)

pub returns-in-Err-Bad-clause-refusal : goal.returns-in-Err-Bad-clause-refusal
returns-in-Err-Bad-clause-refusal c = λ views.
    has_bad views c.args.items.now c.in-Err-Bad.field-0-0 (rw c.in-Err-Bad.field-0-is at c.in-Err-Bad.ensures.stop)

pub returns-in-Err-Deep-clause-refusal : goal.returns-in-Err-Deep-clause-refusal
returns-in-Err-Deep-clause-refusal c = λ views.
    subst (λ offset. HasStop views c.args.items.now (refusal.TooDeep offset)) (sym c.offset_left.ensures)
    (has_deep views c.args.items.now c.in-Err-Deep.left (rw c.in-Err-Deep.field-0-is at c.in-Err-Deep.ensures.stop))
