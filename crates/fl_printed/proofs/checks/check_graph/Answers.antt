use Rattle.std.proofs.Common.{None, Some, rules}
use Rattle.fl_printed.proofs.CheckLemmas.{can-run, given-so}
use Rattle.fl_printed.proofs.checks.check_graph.Goals as goal

pub returns-in-Ok-None-clause-checked : goal.returns-in-Ok-None-clause-checked
returns-in-Ok-None-clause-checked g c =
    given-so (g.T.Tree.state c.args.tree.now).held (g.T.Tree.state c.args.tree.now).home c.args.graph c.in-Ok-None.field-0 None (search rules) c.in-Ok-None.ensures.found

pub returns-in-Ok-None-clause-runs : goal.returns-in-Ok-None-clause-runs
returns-in-Ok-None-clause-runs g c =
    can-run (g.T.Tree.state c.args.tree.now) c.args.graph c.in-Ok-None.field-0 (search rules) c.requires.valid c.in-Ok-None.ensures.found

pub returns-in-Ok-Some-clause-checked : goal.returns-in-Ok-Some-clause-checked
returns-in-Ok-Some-clause-checked g c =
    given-so (g.T.Tree.state c.args.tree.now).held (g.T.Tree.state c.args.tree.now).home c.args.graph c.in-Ok-Some.field-0 (Some c.in-Ok-Some.cause) (search rules)
    c.in-Ok-Some.ensures.found
