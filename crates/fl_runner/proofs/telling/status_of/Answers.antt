use Rattle.std.proofs.Common.{map, rules}
use Rattle.fl_runner.proofs.TellLemmas.{selected-none, selected-some}
use Rattle.fl_runner.proofs.telling.status_of.Goals as goal

pub returns-then-any_selected : goal.returns-then-any_selected
returns-then-any_selected g c =
    selected-some c.args.rule.now c.in-Selected.named c.in-Selected.some c.in-Selected.none (map (λ done. done.selected) c.args.nodes.now) c.any_selected.result (search rules) (search rules) (search rules)

pub returns-else-any_selected : goal.returns-else-any_selected
returns-else-any_selected g c =
    selected-none c.args.rule.now c.in-Selected.named c.in-Selected.some c.in-Selected.none (map (λ done. done.selected) c.args.nodes.now) c.any_selected.result (search rules) (search rules) (search rules)
