use Rattle.std.proofs.Common.{drop, map, ◌≡◌, ◌++◌, Some}
use Rattle.ps_lines.specs.Texts.{texts_of}
use Rattle.sh_eval.specs.States.{State}
use Rattle.sh_eval.specs.Teeing.{written_use}
use Rattle.sh_eval.proofs.busy.add_files.Given as goal

-- the uses that are known, and those of the files that are left, are those of all
abbrev pub invariant-loop-text : goal.invariant-loop-text
invariant-loop-text g l = record {
  rest : (state : State) → (g.T.Tree.state l.fn.tree).held ≡ Some state.world.files → (g.T.Tree.state l.fn.tree).home ≡ state.world.home
      → l.uses.items ++ map (written_use state) (texts_of (drop l.text-index l.fn.texts)) ≡ l.fn.uses.items ++ map (written_use state) (texts_of l.fn.texts);
  state : g.T.Tree.state l.tree ≡ g.T.Tree.state l.fn.tree;
  faults : g.T.Tree.faults l.tree ≡ g.T.Tree.faults l.fn.tree;
}
