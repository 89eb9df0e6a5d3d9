use Rattle.std.proofs.Common.{◌≡◌, ◌++◌, ℕ, false, List, length}
use Rattle.std.specs.List.{list_any}
use Rattle.ps_lines.specs.Texts.{texts_of}
use Rattle.ps_world.specs.Files.{Files}
use Rattle.ps_world.specs.Paths.{Components}
use Rattle.sh_expand.specs.Marks.{has_pattern}
use Rattle.sh_expand.specs.Splitting.{fields_of}
use Rattle.sh_expand.specs.Fields.{AreNames, Appends, Sees}
use Rattle.sh_expand.proofs.fields.add_all_names.Given as goal

-- the names so far, and those of the fields that are left, are those of all
abbrev pub invariant-loop-field : goal.invariant-loop-field
invariant-loop-field g l = record {
  state : g.T.Tree.state l.tree ≡ g.T.Tree.state l.fn.tree;
  faults : g.T.Tree.faults l.tree ≡ g.T.Tree.faults l.fn.tree;
  unasked : list_any has_pattern (fields_of l.fn.fields) ≡ false → (l.tree ≡ l.fn.tree) × (list_any has_pattern (fields_of l.left) ≡ false);
  go : (files : Files) (home : Components) → Sees (g.T.Tree.state l.fn.tree) (list_any has_pattern (fields_of l.fn.fields) ≡ false) files home
      → (others : List (List ℕ)) → AreNames files home (fields_of l.left) others
      → Appends (λ (names : List (List ℕ)). AreNames files home (fields_of l.fn.fields) names) (texts_of l.fn.out.items) (texts_of l.out.items ++ others);
}

abbrev pub decreases-loop-field : goal.decreases-loop-field
decreases-loop-field g l = length l.left
