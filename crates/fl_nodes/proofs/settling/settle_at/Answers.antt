use Rattle.std.proofs.Common.{◌≡◌, Some, ap, sym, ◌∙◌, rules}
use Rattle.fl_graph.specs.Runs.{is_clean}
use Rattle.fl_nodes.specs.Stashes.{half_of}
use Rattle.fl_nodes.proofs.settling.settle_at.Goals as goal

pub settle_edge-requires : goal.settle_edge-requires
settle_edge-requires g c =
    let there : half_of c.args.stash.now.items c.args.edge ≡ Some c.in-Some.giver = search rules in
    record { same = c.requires.same ∙ sym (c.requires.lie c.args.edge c.in-Some.giver there).0 }

pub returns-in-Some-clause-settled : goal.returns-in-Some-clause-settled
returns-in-Some-clause-settled g c = λ is closed ids pieces lie.
    let there : half_of c.args.stash.now.items c.args.edge ≡ Some c.in-Some.giver = search rules in
    sym (c.settle_edge.ensures.all closed) ∙ (lie c.args.edge c.in-Some.giver there).1

pub returns-in-Some-clause-clean : goal.returns-in-Some-clause-clean
returns-in-Some-clause-clean g c = λ is ids pieces lie.
    let there : half_of c.args.stash.now.items c.args.edge ≡ Some c.in-Some.giver = search rules in
    ap is_clean (sym (lie c.args.edge c.in-Some.giver there).1) ∙ c.settle_edge.ensures.clean
