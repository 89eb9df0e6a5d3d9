use Rattle.std.proofs.Common.{◌≡◌, drop, IfSome}
use Rattle.ps_lines.specs.Texts.{texts_of}
use Rattle.fl_commands.specs.Writers.{AreFilesAt}
use Rattle.sh_eval.specs.Inner.Teeing.{Begins, made_of}
use Rattle.sh_eval.specs.Teeing.{making, none_made}
use Rattle.sh_eval.proofs.teeing.begin_all.Given as goal

-- what the files that are left mean here is what all meant
abbrev pub invariant-loop-text : goal.invariant-loop-text
invariant-loop-text g l = record {
  begins : Begins (making l.fn.anew l.fn.name (texts_of l.fn.texts) none_made) (making l.fn.anew l.fn.name (texts_of (drop l.text-index l.fn.texts)) (made_of l.begun)) (g.T.Tree.state l.fn.tree) (g.T.Tree.state l.tree);
  there : IfSome (g.T.Tree.state l.tree).held (λ held. AreFilesAt held l.begun.files.items);
  calm : g.T.Tree.faults l.tree ≡ g.T.Tree.faults l.fn.tree;
}
