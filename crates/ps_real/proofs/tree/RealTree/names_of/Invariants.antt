use Rattle.std.proofs.Common.{◌≡◌, IsTrue}
use Rattle.std.specs.List.{list_all}
use Rattle.ps_lines.specs.Texts.{texts_of}
use Rattle.ps_world.specs.Paths.{is_name}
use Rattle.ps_real.proofs.tree.RealTree.names_of.Given as goal

abbrev pub invariant-loop-entry : goal.invariant-loop-entry
invariant-loop-entry l = record {
  names : IsTrue (list_all is_name (texts_of l.names.items));
  kept : l.self ≡ l.initial.self;
}
