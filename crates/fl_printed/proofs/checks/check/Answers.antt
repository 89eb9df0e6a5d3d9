use Rattle.std.proofs.Common.{refl, rules}
use Rattle.fl_text.specs.Readings.{no_graph, no_json, of_graph, other_version}
use Rattle.fl_text.specs.Texts.{IsNoGraph, IsNoJson, IsOfOtherVersion}
use Rattle.fl_printed.specs.declared.checks.Unfit.TheVariants as unfit
use Rattle.fl_printed.proofs.CheckLemmas.{checked-so, faulty-so}
use Rattle.fl_printed.proofs.checks.check.Goals as goal

pub returns-in-Ok-clause-checked : goal.returns-in-Ok-clause-checked
returns-in-Ok-clause-checked g c =
    checked-so (g.T.Tree.state c.args.tree.now).held (g.T.Tree.state c.args.tree.now).home c.args.text.now (of_graph c.in-Ok.graph) _
    (c.in-Ok.ensures.graph, c.in-Ok.ensures.text) c.check_graph.ensures.checked

pub returns-in-Err-NotJson-clause-checked : goal.returns-in-Err-NotJson-clause-checked
returns-in-Err-NotJson-clause-checked g c =
    let has : IsNoJson c.args.text.now = search rules in
    faulty-so (g.T.Tree.state c.args.tree.now).held (g.T.Tree.state c.args.tree.now).home c.args.text.now no_json unfit.NotJson has (λ files. refl)

pub returns-in-Err-BadVersion-clause-checked : goal.returns-in-Err-BadVersion-clause-checked
returns-in-Err-BadVersion-clause-checked g c =
    let has : IsOfOtherVersion c.args.text.now = search rules in
    faulty-so (g.T.Tree.state c.args.tree.now).held (g.T.Tree.state c.args.tree.now).home c.args.text.now other_version unfit.BadVersion has (λ files. refl)

pub returns-in-Err-NotGraph-clause-checked : goal.returns-in-Err-NotGraph-clause-checked
returns-in-Err-NotGraph-clause-checked g c =
    let has : IsNoGraph c.args.text.now = search rules in
    faulty-so (g.T.Tree.state c.args.tree.now).held (g.T.Tree.state c.args.tree.now).home c.args.text.now no_graph unfit.NotGraph has (λ files. refl)
