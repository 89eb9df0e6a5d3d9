use Rattle.std.proofs.Common.{rules, ◌≡◌, ◌∙◌, ◌<◌, [], false, refl, sym}
use Rattle.fl_machines.specs.contracts.any_series.AnySeriesSeries.TheImpl.{ghosts}
use Rattle.fl_machines.proofs.MachineLemmas.{begins-in_series, owed-none, owed-some, picked-none, picked-some}
use Rattle.fl_machines.proofs.machines.series_machine.Goals as goal

pub returns-in-Ok-of_nothing : goal.returns-in-Ok-of_nothing
returns-in-Ok-of_nothing c =
    let inv = c.args.inv.now in
    let machine = c.in-Ok-of_nothing.machine in
    let facts = c.in-Ok-of_nothing.ensures in
    let none : c.args.ins ≡ 0 = search rules in
    begins-in_series inv c.args.ins c.args.outs c.requires.node _ machine.at machine.ins machine.putting machine.broken _ _ facts.at (facts.ins ∙ sym none) facts.putting facts.broken
    (λ texts port. owed-none inv (ghosts.due machine.series) (λ texts. false) machine.at machine.ins c.args.ins facts.at facts.ins none texts machine.waiting port
    (facts.waiting ∙ c.in-Ok.ensures.due []))
    (λ texts. picked-none inv (λ texts. []) (ghosts.selects machine.series) machine.at machine.ins c.args.ins facts.at facts.ins none texts (ghosts.selected machine.series)
    (facts.selected ∙ c.in-Ok.ensures.selects []))

pub returns : goal.returns
returns c =
    let inv = c.args.inv.now in
    let machine = c.new.result in
    let facts = c.new.ensures in
    let some : 0 < c.args.ins = search rules in
    begins-in_series inv c.args.ins c.args.outs c.requires.node _ machine.at machine.ins machine.putting machine.broken _ _ facts.at facts.ins facts.putting facts.broken
    (λ texts port. rw (facts.waiting, facts.series) (owed-some inv (ghosts.due c.in-Ok.series) (λ texts. false) machine.at machine.ins c.args.ins facts.at facts.ins some texts [] port
    refl c.in-Ok.ensures.due))
    (λ texts. rw facts.series (picked-some inv (λ texts. []) (ghosts.selects c.in-Ok.series) machine.at machine.ins c.args.ins facts.at facts.ins some texts
    (ghosts.selected c.in-Ok.series) c.in-Ok.ensures.selects))
