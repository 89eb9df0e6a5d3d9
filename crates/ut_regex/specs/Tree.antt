-- Regular expressions as trees (XBD 9.3.8, 9.4.9). The code keeps a tree as the list of its nodes in postfix.
use Rattle.std.specs.Prelude.{List, [], ◌∷◌}
use Rattle.ut_regex.specs.declared.tree.Leaf.{Leaf}
use Rattle.ut_regex.specs.declared.tree.Bounds.{Bounds}
use Rattle.ut_regex.specs.declared.tree.Node.{Node}
use Rattle.ut_regex.specs.declared.tree.Node.TheVariants as node
use Rattle.ut_regex.specs.declared.tree.Regex.{Regex}

-- an expression: one byte, an anchor, nothing, a part in parentheses, two parts in order, one of two parts, or a part
-- some number of times. Parentheses change nothing but how places are counted
pub data Tree : Type 0 where
  leaf : Leaf → Tree
  line_begin : Tree
  line_end : Tree
  empty : Tree
  group : Tree → Tree
  sequence : Tree → Tree → Tree
  alternative : Tree → Tree → Tree
  repetition : Bounds → Tree → Tree

-- the last tree of a list, of which the last comes first
abbrev pub last_tree : List Tree → Tree
last_tree [] = empty
last_tree (tree ∷ trees) = tree

-- the trees before the last
abbrev pub trees_before : List Tree → List Tree
trees_before [] = []
trees_before (tree ∷ trees) = trees

-- the trees that are there once a node stands behind them: it takes its parts, and they become one tree
abbrev pub with_node : List Tree → Node → List Tree
with_node trees (node.Leaf one) = leaf one ∷ trees
with_node trees node.Begin = line_begin ∷ trees
with_node trees node.End = line_end ∷ trees
with_node trees node.Empty = empty ∷ trees
with_node trees node.Group = group (last_tree trees) ∷ trees_before trees
with_node trees node.Sequence = sequence (last_tree (trees_before trees)) (last_tree trees) ∷ trees_before (trees_before trees)
with_node trees node.Alternative =
    alternative (last_tree (trees_before trees)) (last_tree trees) ∷ trees_before (trees_before trees)
with_node trees (node.Repetition bounds) = repetition bounds (last_tree trees) ∷ trees_before trees

-- the trees that nodes in postfix make, behind those that are there
abbrev pub with_nodes : List Tree → List Node → List Tree
with_nodes trees [] = trees
with_nodes trees (first ∷ nodes) = with_nodes (with_node trees first) nodes

-- the tree of an expression
abbrev pub tree : Regex → Tree
tree re = last_tree (with_nodes [] re.nodes.items)
