-- The tree that a value of the code stands for: a fold, with lists for vectors.
use Rattle.std.specs.Prelude.{Bool, List, [], ◌∷◌, map}
use Rattle.std.specs.declared.option.Option.{Option}
use Rattle.std.specs.declared.option.Option.TheVariants.{None, Some}
use Rattle.std.specs.Option.{option_map}
use Rattle.sh_tree.specs.Trees.{WordTree, no_part, part, PartTree, plain, quoted, parameter, substitution, arithmetic, FormTree, bare, length_of, default, assign, check_omitted, check, alternate, cut_suffix, cut_prefix, RedirTree, ListTree, no_item, item, AndOrTree, and_or, JoinedTrees, none_joined, joined, PipelineTree, pipeline, CommandTrees, no_command, command, CommandTree, simple, group, subshell, if_branches, while_loop, until_loop, for_loop, BranchTrees, no_branch, branch, ElseTree, no_else, else_list, SimpleTree, simple_command, InTree, no_in, in_words, WordsTree, words, TailTree, tail, SubTrees, no_sub, sub, ScriptTree}
use Rattle.sh_tree.specs.declared.words.Word.{Word}
use Rattle.sh_tree.specs.declared.words.Part.{Part}
use Rattle.sh_tree.specs.declared.words.Form.{Form}
use Rattle.sh_tree.specs.declared.words.Form.TheOpen.{Form-F, Part-F, Word-F}
use Rattle.sh_tree.specs.declared.words.Form.TheFolds.{fold-Word, fold-Part, fold-Form}
use Rattle.sh_tree.specs.declared.commands.Join.{Join}
use Rattle.sh_tree.specs.declared.commands.List as declared_list
use Rattle.sh_tree.specs.declared.commands.Redir.{Redir}
use Rattle.sh_tree.specs.declared.commands.Script.{Script}
use Rattle.sh_tree.specs.declared.commands.AndOr.{AndOr}
use Rattle.sh_tree.specs.declared.commands.Command.{Command}
use Rattle.sh_tree.specs.declared.commands.Pipeline.{Pipeline}
use Rattle.sh_tree.specs.declared.commands.Simple.{Simple}
use Rattle.sh_tree.specs.declared.commands.Tail.{Tail}
use Rattle.sh_tree.specs.declared.commands.Words.{Words}
use Rattle.sh_tree.specs.declared.commands.Command.TheOpen.{Command-F, AndOr-F, List-F, Pipeline-F, Simple-F, Tail-F, Words-F}
use Rattle.sh_tree.specs.declared.commands.Command.TheFolds.{fold-List, fold-Command, fold-AndOr, fold-Pipeline, fold-Simple, fold-Tail, fold-Words}

-- the parts in front of `more`
abbrev pub parts_onto : List PartTree → WordTree → WordTree
parts_onto [] more = more
parts_onto (first ∷ rest) more = part first (parts_onto rest more)

abbrev pub check_form : Bool → Option WordTree → FormTree
check_form colon None = check_omitted colon
check_form colon (Some word) = check colon word

abbrev pub form_step : Form-F FormTree PartTree WordTree → FormTree
form_step Form-F.«Form::Plain» = bare
form_step Form-F.Length = length_of
form_step (Form-F.Default colon word) = default colon word
form_step (Form-F.Assign colon word) = assign colon word
form_step (Form-F.Check colon word) = check_form colon word
form_step (Form-F.Alternate colon word) = alternate colon word
form_step (Form-F.CutSuffix longest word) = cut_suffix longest word
form_step (Form-F.CutPrefix longest word) = cut_prefix longest word

abbrev pub part_step : Part-F FormTree PartTree WordTree → PartTree
part_step (Part-F.«Part::Plain» text) = plain text
part_step (Part-F.Quoted text) = quoted text
part_step (Part-F.Param what form flag) = parameter what form flag
part_step (Part-F.Sub number flag) = substitution number flag
part_step (Part-F.Arith parts flag) = arithmetic (parts_onto parts.items no_part) flag

abbrev pub word_step : Word-F FormTree PartTree WordTree → WordTree
word_step word = parts_onto word.parts.items no_part

-- the tree of a word
abbrev pub word_tree : Word → WordTree
word_tree = fold-Word FormTree PartTree WordTree form_step part_step word_step

-- the trees of a part and of a form, and of the word with these parts
abbrev pub part_tree : Part → PartTree
part_tree = fold-Part FormTree PartTree WordTree form_step part_step word_step

abbrev pub form_tree : Form → FormTree
form_tree = fold-Form FormTree PartTree WordTree form_step part_step word_step

abbrev pub parts_tree : List Part → WordTree
parts_tree parts = parts_onto (map part_tree parts) no_part

-- a redirection
abbrev pub redir_tree : Redir → RedirTree
redir_tree redir = record { number = redir.number; how = redir.how; word = word_tree redir.word }

-- what is in front of `more`
abbrev pub items_onto : List AndOrTree → ListTree → ListTree
items_onto [] more = more
items_onto (first ∷ rest) more = item first (items_onto rest more)

abbrev pub commands_onto : List CommandTree → CommandTrees → CommandTrees
commands_onto [] more = more
commands_onto (first ∷ rest) more = command first (commands_onto rest more)

abbrev pub joined_onto : List (Join × PipelineTree) → JoinedTrees → JoinedTrees
joined_onto [] more = more
joined_onto (first ∷ rest) more = joined first.0 first.1 (joined_onto rest more)

abbrev pub branches_onto : List (ListTree × ListTree) → BranchTrees → BranchTrees
branches_onto [] more = more
branches_onto (first ∷ rest) more = branch first.0 first.1 (branches_onto rest more)

abbrev pub subs_onto : List ListTree → SubTrees → SubTrees
subs_onto [] more = more
subs_onto (first ∷ rest) more = sub first (subs_onto rest more)

abbrev pub else_of : Option ListTree → ElseTree
else_of None = no_else
else_of (Some list) = else_list list

abbrev pub in_of : Option WordsTree → InTree
in_of None = no_in
in_of (Some list) = in_words list

-- one level of each type, its insides being trees already
abbrev pub command_step : Command-F CommandTree AndOrTree ListTree PipelineTree SimpleTree TailTree WordsTree → CommandTree
command_step (Command-F.Simple it) = simple it
command_step (Command-F.Group list behind) = group list behind
command_step (Command-F.Subshell list behind) = subshell list behind
command_step (Command-F.If branches otherwise behind) =
    if_branches (branches_onto branches.items no_branch) (else_of otherwise) behind
command_step (Command-F.While condition body behind) = while_loop condition body behind
command_step (Command-F.Until condition body behind) = until_loop condition body behind
command_step (Command-F.For name list body behind) = for_loop name (in_of list) body behind

abbrev pub and_or_step : AndOr-F CommandTree AndOrTree ListTree PipelineTree SimpleTree TailTree WordsTree → AndOrTree
and_or_step it = and_or it.first (joined_onto it.rest.items none_joined)

abbrev pub list_step : List-F CommandTree AndOrTree ListTree PipelineTree SimpleTree TailTree WordsTree → ListTree
list_step it = items_onto it.items.items no_item

abbrev pub pipeline_step : Pipeline-F CommandTree AndOrTree ListTree PipelineTree SimpleTree TailTree WordsTree → PipelineTree
pipeline_step it = pipeline it.negated (commands_onto it.stages.items no_command)

abbrev pub simple_step : Simple-F CommandTree AndOrTree ListTree PipelineTree SimpleTree TailTree WordsTree → SimpleTree
simple_step it =
    simple_command (map (λ assign. (assign.0, word_tree assign.1)) it.assigns.items) (map word_tree it.words.items)
    (map redir_tree it.redirs.items) (subs_onto it.subs.items no_sub)

abbrev pub tail_step : Tail-F CommandTree AndOrTree ListTree PipelineTree SimpleTree TailTree WordsTree → TailTree
tail_step it = tail (map redir_tree it.redirs.items) (subs_onto it.subs.items no_sub)

abbrev pub words_step : Words-F CommandTree AndOrTree ListTree PipelineTree SimpleTree TailTree WordsTree → WordsTree
words_step it = words (map word_tree it.words.items) (subs_onto it.subs.items no_sub)

-- the trees of a command and of what is in it
abbrev pub command_tree : Command → CommandTree
command_tree =
    fold-Command CommandTree AndOrTree ListTree PipelineTree SimpleTree TailTree WordsTree command_step and_or_step list_step
    pipeline_step simple_step tail_step words_step

abbrev pub and_or_tree : AndOr → AndOrTree
and_or_tree =
    fold-AndOr CommandTree AndOrTree ListTree PipelineTree SimpleTree TailTree WordsTree command_step and_or_step list_step
    pipeline_step simple_step tail_step words_step

abbrev pub pipeline_tree : Pipeline → PipelineTree
pipeline_tree =
    fold-Pipeline CommandTree AndOrTree ListTree PipelineTree SimpleTree TailTree WordsTree command_step and_or_step list_step
    pipeline_step simple_step tail_step words_step

abbrev pub simple_tree : Simple → SimpleTree
simple_tree =
    fold-Simple CommandTree AndOrTree ListTree PipelineTree SimpleTree TailTree WordsTree command_step and_or_step list_step
    pipeline_step simple_step tail_step words_step

abbrev pub tail_tree : Tail → TailTree
tail_tree =
    fold-Tail CommandTree AndOrTree ListTree PipelineTree SimpleTree TailTree WordsTree command_step and_or_step list_step
    pipeline_step simple_step tail_step words_step

abbrev pub words_tree : Words → WordsTree
words_tree =
    fold-Words CommandTree AndOrTree ListTree PipelineTree SimpleTree TailTree WordsTree command_step and_or_step list_step
    pipeline_step simple_step tail_step words_step

-- the tree of a list
abbrev pub list_tree : declared_list.List → ListTree
list_tree =
    fold-List CommandTree AndOrTree ListTree PipelineTree SimpleTree TailTree WordsTree command_step and_or_step list_step
    pipeline_step simple_step tail_step words_step

-- the trees of what stands one behind the other in the code
abbrev pub items_tree : List AndOr → ListTree
items_tree items = items_onto (map and_or_tree items) no_item

abbrev pub joined_tree : List (Join × Pipeline) → JoinedTrees
joined_tree rest = joined_onto (map (λ next. (next.0, pipeline_tree next.1)) rest) none_joined

abbrev pub stages_tree : List Command → CommandTrees
stages_tree stages = commands_onto (map command_tree stages) no_command

abbrev pub branches_tree : List (declared_list.List × declared_list.List) → BranchTrees
branches_tree branches = branches_onto (map (λ branch. (list_tree branch.0, list_tree branch.1)) branches) no_branch

abbrev pub subs_tree : List declared_list.List → SubTrees
subs_tree subs = subs_onto (map list_tree subs) no_sub

-- the tree of a script
abbrev pub script_tree : Script → ScriptTree
script_tree script = option_map list_tree script.body
