-- A tree that grows piece by piece, from the left. The list of trees has the last one first, and so has that of open groups.
use Rattle.std.specs.Prelude.{Bool, true, false, List, [], ◌∷◌, reverse}
use Rattle.ut_regex.specs.declared.building.Level.{Level}
use Rattle.ut_regex.specs.declared.building.Builder.{Builder}
use Rattle.ut_regex.specs.declared.building.Parts.{Parts}
use Rattle.ut_regex.specs.declared.building.Parts.TheVariants as parts
use Rattle.ut_regex.specs.declared.pieces.Piece.{Piece}
use Rattle.ut_regex.specs.declared.pieces.Piece.TheVariants as piece
use Rattle.ut_regex.specs.declared.tree.Node.TheVariants as node
use Rattle.ut_regex.specs.Tree.{Tree, leaf, line_begin, line_end, empty, with_node, with_nodes}

-- the trees that are whole so far, where the innermost open group has come to, and where those around it have
pub record Built : Type 0 where
  pub trees : List Tree
  pub level : Level
  pub outer : List Level

-- what a builder holds
abbrev pub built : Builder → Built
built b = record { trees = with_nodes [] b.nodes.items; level = b.level; outer = reverse b.outer.items }

-- nothing was read in a group
abbrev pub fresh : Level
fresh = record { barred = false; parts = parts.Nothing }

-- nothing was read
abbrev pub start : Built
start = record { trees = []; level = fresh; outer = [] }

-- the innermost open group of a list, of which the innermost comes first
abbrev pub innermost : List Level → Level
innermost [] = fresh
innermost (level ∷ levels) = level

-- the groups around the innermost
abbrev pub around : List Level → List Level
around [] = []
around (level ∷ levels) = levels

-- the parts of a side become one before the next
abbrev pub joined : Parts → List Tree → List Tree
joined parts.Nothing trees = trees
joined parts.One trees = trees
joined parts.More trees = with_node trees node.Sequence

-- one part more
abbrev pub one_more : Parts → Parts
one_more parts.Nothing = parts.One
one_more parts.One = parts.More
one_more parts.More = parts.More

abbrev pub with_part : Level → Level
with_part level = record { barred = level.barred; parts = one_more level.parts }

-- the parts of a side become one at its end
abbrev pub side_ended : Parts → List Tree → List Tree
side_ended parts.Nothing trees = empty ∷ trees
side_ended parts.One trees = trees
side_ended parts.More trees = with_node trees node.Sequence

-- a side becomes one with those before it
abbrev pub sides_joined : Bool → List Tree → List Tree
sides_joined false trees = trees
sides_joined true trees = with_node trees node.Alternative

abbrev pub ended : Level → List Tree → List Tree
ended level trees = sides_joined level.barred (side_ended level.parts trees)

-- an item of one piece
abbrev pub with_item : Tree → Built → Built
with_item re s = record { trees = re ∷ joined s.level.parts s.trees; level = with_part s.level; outer = s.outer }

-- one piece more
abbrev pub grown : Piece → Built → Built
grown (piece.One one) s = with_item (leaf one) s
grown piece.Begin s = with_item line_begin s
grown piece.End s = with_item line_end s
grown piece.Open s = record { trees = joined s.level.parts s.trees; level = fresh; outer = with_part s.level ∷ s.outer }
grown piece.Close s = record { trees = with_node (ended s.level s.trees) node.Group; level = innermost s.outer; outer = around s.outer }
grown piece.Bar s = record { trees = ended s.level s.trees; level = record { barred = true; parts = parts.Nothing }; outer = s.outer }
grown (piece.Repeat bounds) s = record { trees = with_node s.trees (node.Repetition bounds); level = s.level; outer = s.outer }

-- all pieces of a list, one after another
abbrev pub grown_by : List Piece → Built → Built
grown_by [] s = s
grown_by (one ∷ pieces) s = grown_by pieces (grown one s)
