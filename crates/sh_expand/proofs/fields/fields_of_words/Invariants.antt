use Rattle.std.proofs.Common.{◌≡◌, ◌≤◌, ◌++◌, ℕ, List, length, map}
use Rattle.ps_lines.specs.Texts.{texts_of}
use Rattle.ps_world.specs.Files.{Files}
use Rattle.ps_world.specs.Paths.{Components}
use Rattle.sh_arith.specs.Variables.{Variables}
use Rattle.sh_tree.specs.Views.{word_tree}
use Rattle.sh_expand.specs.declared.faults.ExpandFault.{ExpandFault}
use Rattle.sh_expand.specs.declared.fields.TheConstants.{MAX_FIELDS}
use Rattle.sh_expand.specs.Given.{given_of}
use Rattle.sh_expand.specs.Fields.{AreFields, Pass, Stop, IsPlain, Sees}
use Rattle.sh_expand.proofs.fields.fields_of_words.Given as goal

-- what the words that are left give, behind the fields so far, is what all give
abbrev pub invariant-loop-word : goal.invariant-loop-word
invariant-loop-word g l = record {
  state : g.T.Tree.state l.tree ≡ g.T.Tree.state l.fn.tree;
  faults : g.T.Tree.faults l.tree ≡ g.T.Tree.faults l.fn.tree;
  few : length l.fields.items ≤ MAX_FIELDS;
  unasked : IsPlain (given_of l.fn.known) l.fn.env (map word_tree l.fn.words) → (l.tree ≡ l.fn.tree) × IsPlain (given_of l.fn.known) l.env (map word_tree l.left);
  go : (files : Files) (home : Components) → Sees (g.T.Tree.state l.fn.tree) (IsPlain (given_of l.fn.known) l.fn.env (map word_tree l.fn.words)) files home
      → (others : List (List ℕ)) (end : Variables) → AreFields files home (given_of l.fn.known) l.env (map word_tree l.left) others end
      → AreFields files home (given_of l.fn.known) l.fn.env (map word_tree l.fn.words) (texts_of l.fields.items ++ others) end;
  pass : (end : Variables) → Pass (given_of l.fn.known) l.env (map word_tree l.left) end → Pass (given_of l.fn.known) l.fn.env (map word_tree l.fn.words) end;
  stop : (shown : ExpandFault) (end : Variables) → Stop (given_of l.fn.known) l.env (map word_tree l.left) shown end → Stop (given_of l.fn.known) l.fn.env (map word_tree l.fn.words) shown end;
}

abbrev pub decreases-loop-word : goal.decreases-loop-word
decreases-loop-word g l = length l.left
