-- What a simple command is made of (XCU 2.9.1): its assignments, words and redirections, in text order. They are gathered by kind,
-- and the command substitutions of all of them are numbered in text order.
use Rattle.std.specs.Prelude.{ℕ, Bool, List, [], ◌∷◌, ◌++◌}
use Rattle.std.specs.declared.option.Option.{Option}
use Rattle.sh_tree.specs.Trees.{WordTree, SimpleTree, simple_command, SubTrees, no_sub, sub, TailTree, tail, WordsTree, words}
use Rattle.sh_tree.specs.Numbering.{sub_count}
use Rattle.sh_tree.specs.declared.commands.How.{How}
use Rattle.sh_tree.specs.declared.commands.How.TheVariants as how
use Rattle.sh_parse.specs.declared.items.Span.{Span}

-- what words are, by where they stand and the number of their first substitution; and of each where its first `${` stands that has none of
-- the forms of an expansion, and whether an expansion in it assigns a variable
pub record WordViews : Type 0 where
  pub word : Span → ℕ → WordTree
  pub assign : Span → ℕ → List ℕ × WordTree
  pub name : Span → List ℕ
  pub fault : Span → Option ℕ
  pub assigns : Span → Bool

-- the word of each piece, and the lists of its substitutions
pub data Piece : Type 0 where
  assign : Span → SubTrees → Piece
  argument : Span → SubTrees → Piece
  redirection : ℕ → How → Span → SubTrees → Piece

abbrev pub subs_then : SubTrees → SubTrees → SubTrees
subs_then no_sub more = more
subs_then (sub first rest) more = sub first (subs_then rest more)

-- a command with one more piece
abbrev pub with_piece : WordViews → SimpleTree → Piece → SimpleTree
with_piece views (simple_command assigns arguments redirs subs) (assign at inner) =
    simple_command (assigns ++ views.assign at (sub_count subs) ∷ []) arguments redirs (subs_then subs inner)
with_piece views (simple_command assigns arguments redirs subs) (argument at inner) =
    simple_command assigns (arguments ++ views.word at (sub_count subs) ∷ []) redirs (subs_then subs inner)
with_piece views (simple_command assigns arguments redirs subs) (redirection number how at inner) =
    simple_command assigns arguments
    (redirs ++ record { number = number; how = how; word = views.word at (sub_count subs) } ∷ []) (subs_then subs inner)

-- a command with more pieces
abbrev pub gathered : WordViews → SimpleTree → List Piece → SimpleTree
gathered views command [] = command
gathered views command (first ∷ rest) = gathered views (with_piece views command first) rest

abbrev pub no_piece : SimpleTree
no_piece = simple_command [] [] [] no_sub

-- the redirections behind a compound command, and the words of a `for`
abbrev pub tail_of : SimpleTree → TailTree
tail_of (simple_command assigns arguments redirs subs) = tail redirs subs

abbrev pub words_of : SimpleTree → WordsTree
words_of (simple_command assigns arguments redirs subs) = words arguments subs

-- the descriptor of a redirection without a number (XCU 2.7): standard input or standard output
abbrev pub default_number : How → ℕ
default_number how.Read = 0
default_number how.Write = 1
default_number how.Append = 1
default_number how.Copy = 1
