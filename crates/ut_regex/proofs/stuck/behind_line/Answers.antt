use Rattle.std.proofs.Common.{ap, subst, ◌∙◌}
use Rattle.ut_regex.specs.Inner.Tables.{left_at_found}
use Rattle.ut_regex.proofs.StuckLemmas.{stuck-line, stuck-end}
use Rattle.ut_regex.proofs.RunLemmas.{AreBytes, are_bytes}
use Rattle.ut_regex.proofs.stuck.behind_line.Goals as goal

pub returns-in-Some-clause-same : goal.returns-in-Some-clause-same
returns-in-Some-clause-same c = λ next waits.
    let cut = c.in-Some.ensures.cut in
    ap (left_at_found next c.args.stuck) cut.whole
    ∙ stuck-line next c.args.stuck waits _ _ (subst AreBytes cut.whole (are_bytes c.args.text.now c.type_inv.text)) cut.plain

pub returns-in-None-clause-same : goal.returns-in-None-clause-same
returns-in-None-clause-same c = λ next waits. stuck-end next c.args.stuck waits c.args.text.now (are_bytes c.args.text.now c.type_inv.text) c.in-None.ensures.none
