use Rattle.std.proofs.Common.{ℕ, ◌∙◌, ap, drop, sym}
use Rattle.sh_eval.proofs.rests.Rest.take.Goals as goal

pub returns-then-read-eq0-clause-text : goal.returns-then-read-eq0-clause-text
returns-then-read-eq0-clause-text c = sym (ap (λ (it : ℕ). drop it c.text.inside.text.items) c.if-read-eq0.true) ∙ c.text.view_is ∙ c.replace.ensures.value
