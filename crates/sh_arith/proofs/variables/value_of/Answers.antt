use Rattle.std.proofs.Common.{Some, ap, ◌∙◌, sym}
use Rattle.sh_arith.proofs.VariableLemmas.{find_at, find_gap}
use Rattle.sh_arith.proofs.variables.value_of.Goals as goal

pub returns-in-Ok : goal.returns-in-Ok
returns-in-Ok c =
    ap (λ text. Some text) c.as_slice.ensures
    ∙ sym (find_at c.args.variables.now c.in-Ok.place c.args.name.now _ c.requires.ordered c.in-Ok.ensures.found)

pub returns-in-Err : goal.returns-in-Err
returns-in-Err c = sym (find_gap c.args.variables.now _ c.args.name.now c.in-Err.ensures.absent)
