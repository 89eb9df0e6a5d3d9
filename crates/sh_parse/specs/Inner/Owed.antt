-- What is still owed: the rest of each rule that is open, the innermost first. An item steps a stack where some rule goes on with it,
-- so a list of items begins a script exactly where its items step one after another.
use Rattle.std.specs.Prelude.{ℕ, ◌+◌, nat_le, Bool, true, false, List, [], ◌∷◌, ◌++◌, length, cond}
use Rattle.std.specs.declared.option.Option.{Option}
use Rattle.std.specs.declared.option.Option.TheVariants.{None, Some}
use Rattle.sh_parse.specs.Places.{used, redirects, is_name}
pub use Rattle.sh_parse.specs.declared.parts.Pending.{Pending}
pub use Rattle.sh_parse.specs.declared.parts.Pending.TheVariants.{Pieces as pieces, Operator as operator, Target as target, Substitutions as substitutions, Pipeline as a_pipeline, Command as a_command, Pipes as pipes, NextCommand as next_command, Joins as joins, NextPipeline as next_pipeline, Separator as separator, Again as again, Body as body, CloseBrace as close_brace, CloseParenthesis as close_parenthesis, CloseSubstitution as close_substitution, ThenBody as then_body, Branches as branches, EndIf as end_if, DoBody as do_body, EndLoop as end_loop, LoopName as loop_name, LoopHead as loop_head, LoopLines as loop_lines, LoopSeparator as loop_separator, LoopDo as loop_do}
use Rattle.sh_parse.specs.declared.items.Item.{Item}
use Rattle.sh_parse.specs.declared.items.Item.TheVariants as item
use Rattle.sh_parse.specs.declared.items.WordKind.TheVariants as word
use Rattle.sh_parse.specs.declared.items.Reserved.{Reserved}
use Rattle.sh_parse.specs.declared.items.Reserved.TheVariants as reserved
use Rattle.sh_parse.specs.declared.pieces.Slot.{Slot}
use Rattle.sh_parse.specs.declared.pieces.Slot.TheVariants as place
use Rattle.sh_parse.specs.declared.pieces.Use.{Use}
use Rattle.sh_parse.specs.declared.pieces.Use.TheVariants as use_as

-- the word `!`
abbrev pub is_bang : Item → Bool
is_bang (item.Word (word.Reserved reserved.Bang) _) = true
is_bang _ = false

-- the parts that stand for an open level
abbrev pub is_level : Pending → Bool
is_level close_brace = true
is_level close_parenthesis = true
is_level close_substitution = true
is_level then_body = true
is_level branches = true
is_level end_if = true
is_level do_body = true
is_level end_loop = true
is_level loop_name = true
is_level loop_head = true
is_level loop_lines = true
is_level loop_separator = true
is_level loop_do = true
is_level _ = false

abbrev pub levels : List Pending → ℕ
levels [] = 0
levels (first ∷ rest) = cond (is_level first) (levels rest + 1) (levels rest)

-- what a part makes of an item: more is owed in its place, or that and a level opens; the part is done; no rule goes on
pub data Move : Type 0 where
  push : List Pending → Move
  opens : List Pending → Move
  skip : Move
  stuck : Move

-- what a command owes behind its first item
abbrev pub compound_by : Reserved → Move
compound_by reserved.OpenBrace = opens (body ∷ close_brace ∷ pieces place.Tail ∷ [])
compound_by reserved.If = opens (body ∷ then_body ∷ pieces place.Tail ∷ [])
compound_by reserved.While = opens (body ∷ do_body ∷ pieces place.Tail ∷ [])
compound_by reserved.Until = opens (body ∷ do_body ∷ pieces place.Tail ∷ [])
compound_by reserved.For = opens (loop_name ∷ pieces place.Tail ∷ [])
compound_by _ = stuck

abbrev pub word_by : Use → Move
word_by use_as.Assigned = push (substitutions ∷ pieces place.BeforeName ∷ [])
word_by (use_as.Given behind) = push (substitutions ∷ pieces behind ∷ [])
word_by use_as.Unused = skip

abbrev pub redirection_by : Pending → Option Slot → Move
redirection_by part (Some behind) = push (part ∷ pieces behind ∷ [])
redirection_by part None = skip

-- what a piece owes behind its first item
abbrev pub piece_by : Slot → Item → Move
piece_by at (item.Word kind _) = word_by (used at kind)
piece_by at (item.IoNumber _ _) = redirection_by operator (redirects at)
piece_by at (item.Redirect _ _) = redirection_by target (redirects at)
piece_by at _ = skip

-- a move of a part that must be there
abbrev pub needed : Move → Move
needed skip = stuck
needed other = other

abbrev pub command_by : Item → Move
command_by (item.Word (word.Reserved name) _) = compound_by name
command_by (item.Open _) = opens (body ∷ close_parenthesis ∷ pieces place.Tail ∷ [])
command_by first = needed (piece_by place.First first)

abbrev pub pipeline_by : Item → Move
pipeline_by (item.Word (word.Reserved reserved.Bang) at) = push (a_command ∷ [])
pipeline_by first = command_by first

-- a move with more owed behind it, and another where no rule goes on
abbrev pub followed : Move → List Pending → Move → Move
followed (push parts) more otherwise = push (parts ++ more)
followed (opens parts) more otherwise = opens (parts ++ more)
followed skip more otherwise = otherwise
followed stuck more otherwise = otherwise

abbrev pub branch_by : Item → Move
branch_by (item.Word (word.Reserved reserved.Elif) at) = push (body ∷ then_body ∷ [])
branch_by (item.Word (word.Reserved reserved.Else) at) = push (body ∷ end_if ∷ [])
branch_by (item.Word (word.Reserved reserved.Fi) at) = push []
branch_by _ = stuck

abbrev pub move : Pending → Item → Move
move (pieces at) first = piece_by at first
move operator (item.Redirect how _) = push (target ∷ [])
move operator _ = stuck
move target (item.Word kind at) = push (substitutions ∷ [])
move target _ = stuck
move substitutions (item.SubOpen at) = opens (again ∷ close_substitution ∷ substitutions ∷ [])
move substitutions _ = skip
move a_pipeline first = followed (pipeline_by first) (pipes ∷ []) stuck
move a_command first = command_by first
move pipes item.Pipe = push (next_command ∷ pipes ∷ [])
move pipes _ = skip
move next_command item.Newline = push (next_command ∷ [])
move next_command first = command_by first
move joins (item.Join sign) = push (next_pipeline ∷ joins ∷ [])
move joins _ = skip
move next_pipeline item.Newline = push (next_pipeline ∷ [])
move next_pipeline first = followed (pipeline_by first) (pipes ∷ []) stuck
move separator item.Semi = push (again ∷ [])
move separator item.Newline = push (again ∷ [])
move separator _ = skip
move again item.Newline = push (again ∷ [])
move again first = followed (pipeline_by first) (pipes ∷ joins ∷ separator ∷ []) skip
move body item.Newline = push (body ∷ [])
move body first = followed (pipeline_by first) (pipes ∷ joins ∷ separator ∷ []) stuck
move close_brace (item.Word (word.Reserved reserved.CloseBrace) at) = push []
move close_brace _ = stuck
move close_parenthesis item.Close = push []
move close_parenthesis _ = stuck
move close_substitution item.SubClose = push []
move close_substitution _ = stuck
move then_body (item.Word (word.Reserved reserved.Then) at) = push (body ∷ branches ∷ [])
move then_body _ = stuck
move branches first = branch_by first
move end_if (item.Word (word.Reserved reserved.Fi) at) = push []
move end_if _ = stuck
move do_body (item.Word (word.Reserved reserved.Do) at) = push (body ∷ end_loop ∷ [])
move do_body _ = stuck
move end_loop (item.Word (word.Reserved reserved.Done) at) = push []
move end_loop _ = stuck
move loop_name (item.Word kind at) = cond (is_name kind) (push (loop_head ∷ [])) stuck
move loop_name _ = stuck
move loop_head (item.Word (word.Reserved reserved.Do) at) = push (body ∷ end_loop ∷ [])
move loop_head (item.Word word.In at) = push (pieces place.Loop ∷ loop_separator ∷ [])
move loop_head item.Newline = push (loop_lines ∷ [])
move loop_head item.Semi = push (loop_do ∷ [])
move loop_head _ = stuck
move loop_lines (item.Word (word.Reserved reserved.Do) at) = push (body ∷ end_loop ∷ [])
move loop_lines (item.Word word.In at) = push (pieces place.Loop ∷ loop_separator ∷ [])
move loop_lines item.Newline = push (loop_lines ∷ [])
move loop_lines _ = stuck
move loop_separator item.Semi = push (loop_do ∷ [])
move loop_separator item.Newline = push (loop_do ∷ [])
move loop_separator _ = stuck
move loop_do item.Newline = push (loop_do ∷ [])
move loop_do (item.Word (word.Reserved reserved.Do) at) = push (body ∷ end_loop ∷ [])
move loop_do _ = stuck

-- the stack behind an item
pub data Next : Type 0 where
  goes : List Pending → Next
  deeper : List Pending → Next
  fails : Next

abbrev pub moved : Move → List Pending → Next → Next
moved (push parts) stack otherwise = goes (parts ++ stack)
moved (opens parts) stack otherwise = deeper (parts ++ stack)
moved skip stack otherwise = otherwise
moved stuck stack otherwise = fails

abbrev pub step : List Pending → Item → Next
step [] first = fails
step (part ∷ stack) first = moved (move part first) stack (step stack first)

-- the parts that may be left out
abbrev pub is_option : Pending → Bool
is_option (pieces _) = true
is_option substitutions = true
is_option pipes = true
is_option joins = true
is_option separator = true
is_option again = true
is_option _ = false

abbrev pub may_end : List Pending → Bool
may_end [] = true
may_end (part ∷ stack) = cond (is_option part) (may_end stack) false

-- the items are read; or so many are left at the first that no rule goes on with, or that opens a level too many
pub data Verdict : Type 0 where
  fine : Verdict
  bad : ℕ → Verdict
  deep : ℕ → Verdict

abbrev pub verdict_behind : ℕ → ℕ → (List Pending → Verdict) → Next → Verdict
verdict_behind most left rest (goes stack) = rest stack
verdict_behind most left rest (deeper stack) = cond (nat_le (levels stack) most) (rest stack) (deep left)
verdict_behind most left rest fails = bad left

-- how a stack takes items, where at most `most` levels may be open
abbrev pub verdict : ℕ → List Item → List Pending → Verdict
verdict most [] stack = cond (may_end stack) fine (bad 0)
verdict most (first ∷ rest) stack = verdict_behind most (length rest + 1) (verdict most rest) (step stack first)
