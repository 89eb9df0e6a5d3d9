use Rattle.std.proofs.Common.{sym, ap, ◌∙◌}
use Rattle.ut_args.specs.declared.invocations.Inv.{Inv}
use Rattle.fl_classes.proofs.ClassLemmas.{head-selects, paste-selects}
use Rattle.fl_machines.specs.Kinds.{reads_at_once}
use Rattle.fl_machines.proofs.PasteLemmas.{serial-owed, serial-so}
use Rattle.fl_machines.proofs.any_series.AnySeries.of_inv.Goals as goal

pub returns-in-Ok-new-clause-selects : goal.returns-in-Ok-new-clause-selects
returns-in-Ok-new-clause-selects c = λ texts. rw c.in-Head.is (sym (head-selects texts c.in-Head.head))

pub returns-in-Ok-new-2-clause-due : goal.returns-in-Ok-new-2-clause-due
returns-in-Ok-new-2-clause-due c = λ texts.
    rw c.in-Paste.is
    (c.in-Ok-new-2.ensures.due texts
    ∙ serial-owed c.in-Paste.paste texts (serial-so c.in-Paste.paste (ap (λ (it : Inv). reads_at_once it) (sym c.in-Paste.is) ∙ c.requires.in_order)))

pub returns-in-Ok-new-2-clause-selects : goal.returns-in-Ok-new-2-clause-selects
returns-in-Ok-new-2-clause-selects c = λ texts. rw c.in-Paste.is (sym (paste-selects texts c.in-Paste.paste))
