use Rattle.std.proofs.Common.{rules, ◌≡◌, Some, subst, sym}
use Rattle.fl_graph.specs.declared.graphs.Graph.{Graph}
use Rattle.fl_rewrites.specs.Keeps.{Keeps}
use Rattle.fl_split.specs.Inserting.{site_of}
use Rattle.fl_split.proofs.InsertLemmas.{site-keeps}
use Rattle.fl_split.proofs.inserting.insert_split.Goals as goal

pub returns-in-Ok-clause-kept : goal.returns-in-Ok-clause-kept
returns-in-Ok-clause-kept c =
    let site : site_of c.args.edge c.args.parts c.args.graph.nodes ≡ Some c.in-Some.place = search rules in
    subst (λ (new : Graph). Keeps c.args.graph new) (sym c.in-Ok.ensures) (site-keeps c.args.graph c.args.edge c.args.parts c.in-Some.place c.requires site)
