use Rattle.std.proofs.Common.{sym, ◌∙◌}
use Rattle.fl_classes.proofs.ClassLemmas.{tr-map}
use Rattle.fl_machines.proofs.any_stream.AnyStream.of_map.Goals as goal

pub returns-in-Ok-new-clause-due : goal.returns-in-Ok-new-clause-due
returns-in-Ok-new-clause-due c = λ text. rw c.in-Tr.is (c.in-Ok-new.ensures.due text ∙ sym (tr-map c.in-Tr.tr text))
