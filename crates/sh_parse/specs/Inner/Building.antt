-- How the tree of a list of items comes about in one pass: beside what is owed stand the constructs that are open, each with what
-- was read of it. All is total: where no rule goes on, nothing more is built, and only lists that are read have a meaning.
use Rattle.std.specs.Prelude.{ℕ, Bool, true, false, List, [], ◌∷◌, ◌++◌}
use Rattle.std.specs.declared.option.Option.{Option}
use Rattle.std.specs.declared.option.Option.TheVariants.{None, Some}
use Rattle.sh_tree.specs.Trees.{AndOrTree, ListTree, no_item, item, and_or, none_joined, PipelineTree, pipeline, no_command, CommandTree, simple, group, subshell, if_branches, while_loop, until_loop, for_loop, no_branch, no_else, else_list, InTree, no_in, in_words, WordsTree, SimpleTree, simple_command, TailTree, no_sub, sub, ScriptTree}
use Rattle.sh_tree.specs.Views.{commands_onto, joined_onto, branches_onto}
use Rattle.sh_tree.specs.declared.commands.How.{How}
use Rattle.sh_tree.specs.declared.commands.How.TheVariants as how
use Rattle.sh_tree.specs.declared.commands.Join.{Join}
use Rattle.sh_tree.specs.declared.commands.Join.TheVariants as join
use Rattle.sh_tree.specs.Numbering.{sub_count}
use Rattle.sh_parse.specs.Pieces.{WordViews, subs_then, no_piece, tail_of, words_of, default_number}
use Rattle.sh_parse.specs.Places.{used}
use Rattle.sh_parse.specs.Grammar.{script_of}
use Rattle.sh_parse.specs.Inner.Owed.{Pending, Move, push, opens, skip, stuck, move, pieces, operator, target, pipes, joins, a_pipeline, a_command, next_command, next_pipeline, again, body, loop_name}
use Rattle.sh_parse.specs.declared.items.Item.{Item}
use Rattle.sh_parse.specs.declared.items.Item.TheVariants as token
use Rattle.sh_parse.specs.declared.items.Span.{Span}
use Rattle.sh_parse.specs.declared.items.WordKind.{WordKind}
use Rattle.sh_parse.specs.declared.items.WordKind.TheVariants as word
use Rattle.sh_parse.specs.declared.items.Reserved.{Reserved}
use Rattle.sh_parse.specs.declared.items.Reserved.TheVariants as reserved
use Rattle.sh_parse.specs.declared.pieces.Slot.{Slot}
use Rattle.sh_parse.specs.declared.pieces.Slot.TheVariants as place
use Rattle.sh_parse.specs.declared.building.Role.{Role}
use Rattle.sh_parse.specs.declared.building.Role.TheVariants as at_role
use Rattle.sh_parse.specs.declared.pieces.Use.{Use}
use Rattle.sh_parse.specs.declared.pieces.Use.TheVariants as use_as

-- what is open, with its parts that are read
pub data Compound : Type 0 where
  whole : Compound
  in_group : Compound
  in_subshell : Compound
  in_condition : List (ListTree × ListTree) → Compound
  in_branch : List (ListTree × ListTree) → ListTree → Compound
  in_else : List (ListTree × ListTree) → Compound
  in_while : Compound
  in_while_body : ListTree → Compound
  in_until : Compound
  in_until_body : ListTree → Compound
  unnamed : Compound
  in_for : List ℕ → InTree → Compound

-- a list that is read: its and-or lists; the pipelines of the next one; the operator before, the `!` and the commands of the next of these
pub data Listing : Type 0 where
  listing : ListTree → Option (PipelineTree × List (Join × PipelineTree)) → Join → Bool → List CommandTree → Listing

-- a command that is read: its pieces; the number and the operator of a redirection; the compound command before them, with its last list
pub data Making : Type 0 where
  making : SimpleTree → ℕ → How → Option (Compound × ListTree) → Making

pub data Level : Type 0 where
  level : Compound → Listing → Making → Level

-- the innermost construct, and those around it
pub data State : Type 0 where
  state : Compound → Listing → Making → List Level → State

abbrev pub nothing : Listing
nothing = listing no_item None join.And false []

abbrev pub fresh : Making
fresh = making no_piece 0 how.Read None

abbrev pub start : State
start = state whole nothing fresh []

abbrev pub list_then : ListTree → ListTree → ListTree
list_then no_item more = more
list_then (item first rest) more = item first (list_then rest more)

abbrev pub list_of : Listing → ListTree
list_of (listing list chain sign negated stages) = list

-- a compound command, behind its last list
abbrev pub compound : Compound → ListTree → TailTree → CommandTree
compound in_subshell list redirs = subshell list redirs
compound (in_branch branches condition) list redirs =
    if_branches (branches_onto (branches ++ (condition, list) ∷ []) no_branch) no_else redirs
compound (in_else branches) list redirs = if_branches (branches_onto branches no_branch) (else_list list) redirs
compound (in_while_body condition) list redirs = while_loop condition list redirs
compound (in_until_body condition) list redirs = until_loop condition list redirs
compound (in_for name among) list redirs = for_loop name among list redirs
compound _ list redirs = group list redirs

abbrev pub command_made : SimpleTree → Option (Compound × ListTree) → CommandTree
command_made read None = simple read
command_made read (Some made) = compound made.0 made.1 (tail_of read)

-- pipelines with one more
abbrev pub chained : Option (PipelineTree × List (Join × PipelineTree)) → Join → PipelineTree → PipelineTree × List (Join × PipelineTree)
chained None sign last = (last, [])
chained (Some (first, others)) sign last = (first, others ++ (sign, last) ∷ [])

abbrev pub and_or_of : PipelineTree × List (Join × PipelineTree) → AndOrTree
and_or_of chain = and_or chain.0 (joined_onto chain.1 none_joined)

abbrev pub chain_list : Option (PipelineTree × List (Join × PipelineTree)) → ListTree
chain_list None = no_item
chain_list (Some chain) = item (and_or_of chain) no_item

abbrev pub with_stage : Listing → CommandTree → Listing
with_stage (listing list chain sign negated stages) last = listing list chain sign negated (stages ++ last ∷ [])

abbrev pub pipeline_done : Listing → Listing
pipeline_done (listing list chain sign negated stages) =
    listing list (Some (chained chain sign (pipeline negated (commands_onto stages no_command)))) join.And false []

abbrev pub and_or_done : Listing → Listing
and_or_done (listing list chain sign negated stages) = listing (list_then list (chain_list chain)) None sign negated stages

abbrev pub with_sign : Join → Listing → Listing
with_sign sign (listing list chain _ negated stages) = listing list chain sign negated stages

abbrev pub with_bang : Listing → Listing
with_bang (listing list chain sign _ stages) = listing list chain sign true stages

-- the pieces of a command with one more
abbrev pub with_assign : WordViews → Span → Making → Making
with_assign views at (making (simple_command assigns arguments redirs subs) number by made) =
    making (simple_command (assigns ++ views.assign at (sub_count subs) ∷ []) arguments redirs subs) number by made

abbrev pub with_argument : WordViews → Span → Making → Making
with_argument views at (making (simple_command assigns arguments redirs subs) number by made) =
    making (simple_command assigns (arguments ++ views.word at (sub_count subs) ∷ []) redirs subs) number by made

abbrev pub with_target : WordViews → Span → Making → Making
with_target views at (making (simple_command assigns arguments redirs subs) number by made) =
    making
    (simple_command assigns arguments (redirs ++ record { number = number; how = by; word = views.word at (sub_count subs) } ∷ []) subs)
    0 how.Read made

abbrev pub with_sub : ListTree → Making → Making
with_sub list (making (simple_command assigns arguments redirs subs) number by made) =
    making (simple_command assigns arguments redirs (subs_then subs (sub list no_sub))) number by made

abbrev pub with_number : ℕ → Making → Making
with_number number (making read _ by made) = making read number by made

abbrev pub with_how : How → Making → Making
with_how by (making read number _ made) = making read number by made

abbrev pub with_compound : Compound → ListTree → Making → Making
with_compound construct list (making read number by made) = making read number by (Some (construct, list))

-- a construct behind a reserved word inside it, and behind the words of a `for`
abbrev pub turned : Compound → Reserved → ListTree → Compound
turned (in_condition branches) reserved.Then list = in_branch branches list
turned (in_branch branches condition) reserved.Elif list = in_condition (branches ++ (condition, list) ∷ [])
turned (in_branch branches condition) reserved.Else list = in_else (branches ++ (condition, list) ∷ [])
turned in_while reserved.Do list = in_while_body list
turned in_until reserved.Do list = in_until_body list
turned construct _ list = construct

abbrev pub with_words : Compound → WordsTree → Compound
with_words (in_for name _) among = in_for name (in_words among)
with_words construct among = construct

-- what is read of the innermost construct changes
abbrev pub on_listing : (Listing → Listing) → State → State
on_listing change (state construct list command outer) = state construct (change list) command outer

abbrev pub on_making : (Making → Making) → State → State
on_making change (state construct list command outer) = state construct list (change command) outer

abbrev pub turns : Reserved → State → State
turns name (state construct list command outer) = state (turned construct name (list_of list)) nothing command outer

abbrev pub named : List ℕ → State → State
named name (state construct list command outer) = state (in_for name no_in) list command outer

-- a construct opens, and the innermost ends
abbrev pub opened : Compound → State → State
opened inner (state construct list command outer) = state inner nothing fresh (level construct list command ∷ outer)

abbrev pub closed : State → State
closed (state inner list command []) = state inner list command []
closed (state inner list _ (level construct outside command ∷ outer)) =
    state construct outside (with_compound inner (list_of list) command) outer

abbrev pub sub_closed : State → State
sub_closed (state inner list command []) = state inner list command []
sub_closed (state inner list _ (level construct outside command ∷ outer)) =
    state construct outside (with_sub (list_of list) command) outer

-- a command, the words of a `for`, a pipeline, an and-or list ends
abbrev pub command_done : Level → Level
command_done (level construct list (making read number by made)) = level construct (with_stage list (command_made read made)) fresh

abbrev pub words_done : Level → Level
words_done (level construct list (making read number by made)) = level (with_words construct (words_of read)) list fresh

abbrev pub innermost : Level → List Level → State
innermost (level construct list command) outer = state construct list command outer

abbrev pub pieces_over : Bool → State → State
pieces_over false (state construct list command outer) = innermost (command_done (level construct list command)) outer
pieces_over true (state construct list command outer) = innermost (words_done (level construct list command)) outer

abbrev pub is_loop : Slot → Bool
is_loop place.Loop = true
is_loop _ = false

abbrev pub left_out : Pending → State → State
left_out (pieces at) now = pieces_over (is_loop at) now
left_out pipes now = on_listing pipeline_done now
left_out joins now = on_listing and_or_done now
left_out _ now = now

-- what a word is at a part
abbrev pub role_of : Pending → Role
role_of (pieces at) = at_role.Piece at
role_of operator = at_role.Operator
role_of target = at_role.Target
role_of loop_name = at_role.Name
role_of a_pipeline = at_role.Piece place.First
role_of a_command = at_role.Piece place.First
role_of next_command = at_role.Piece place.First
role_of next_pipeline = at_role.Piece place.First
role_of again = at_role.Piece place.First
role_of body = at_role.Piece place.First
role_of _ = at_role.Piece place.Tail

abbrev pub keyword : Reserved → State → State
keyword reserved.Bang now = on_listing with_bang now
keyword reserved.OpenBrace now = opened in_group now
keyword reserved.If now = opened (in_condition []) now
keyword reserved.While now = opened in_while now
keyword reserved.Until now = opened in_until now
keyword reserved.For now = opened unnamed now
keyword reserved.CloseBrace now = closed now
keyword reserved.Fi now = closed now
keyword reserved.Done now = closed now
keyword reserved.Case now = now
keyword reserved.Esac now = now
keyword name now = turns name now

abbrev pub no_piece_by : WordKind → State → State
no_piece_by (word.Reserved name) now = keyword name now
no_piece_by _ now = now

abbrev pub word_as : WordViews → Use → WordKind → Span → State → State
word_as views use_as.Assigned kind at now = on_making (with_assign views at) now
word_as views (use_as.Given _) kind at now = on_making (with_argument views at) now
word_as views use_as.Unused kind at now = no_piece_by kind now

abbrev pub word_by_role : WordViews → Role → WordKind → Span → State → State
word_by_role views (at_role.Piece spot) kind at now = word_as views (used spot kind) kind at now
word_by_role views at_role.Target kind at now = on_making (with_target views at) now
word_by_role views at_role.Name kind at now = named (views.name at) now
word_by_role views at_role.Operator kind at now = now

abbrev pub redirect_by_role : Role → How → State → State
redirect_by_role at_role.Operator by now = on_making (with_how by) now
redirect_by_role _ by now = on_making (with_how by) (on_making (with_number (default_number by)) now)

-- what an item adds
abbrev pub acted : WordViews → Role → Item → State → State
acted views at (token.Word kind span) now = word_by_role views at kind span now
acted views at (token.IoNumber number _) now = on_making (with_number number) now
acted views at (token.Redirect by _) now = redirect_by_role at by now
acted views at (token.Join sign) now = on_listing (with_sign sign) now
acted views at (token.Open _) now = opened in_subshell now
acted views at token.Close now = closed now
acted views at (token.SubOpen _) now = opened whole now
acted views at token.SubClose now = sub_closed now
acted views at _ now = now

-- what is owed behind an item, and what is read then
abbrev pub walk_by : Move → List Pending → State → List Pending × State → List Pending × State
walk_by (push parts) stack now otherwise = (parts ++ stack, now)
walk_by (opens parts) stack now otherwise = (parts ++ stack, now)
walk_by skip stack now otherwise = otherwise
walk_by stuck stack now otherwise = otherwise

abbrev pub walked : WordViews → List Pending → Item → State → List Pending × State
walked views [] first now = ([], now)
walked views (part ∷ stack) first now =
    walk_by (move part first) stack (acted views (role_of part) first now) (walked views stack first (left_out part now))

abbrev pub ended : List Pending → State → State
ended [] now = now
ended (part ∷ stack) now = ended stack (left_out part now)

abbrev pub behind : (List Pending → State → State) → List Pending × State → State
behind rest found = rest found.0 found.1

-- what is read of the items
abbrev pub build : WordViews → List Item → List Pending → State → State
build views [] stack now = ended stack now
build views (first ∷ rest) stack now = behind (build views rest) (walked views stack first now)

abbrev pub script_built : State → ScriptTree
script_built (state construct list command outer) = script_of (list_of list)
