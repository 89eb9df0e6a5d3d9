-- One level of a tree: the tree of a value is made of the trees of its parts. A struct of the cycle that contracts don't see as a
-- record is taken apart by `out-AndOr` and the like.
use Rattle.std.proofs.Common.{◌≡◌, ℕ, Bool, map, Option, Some, None, rules}
use Rattle.std.specs.Option.{option_map}
use Rattle.std.specs.declared.alloc.Global.{Global}
use Rattle.std.specs.declared.vec.Vec.{Vec}
use Rattle.ps_lines.specs.declared.text.Text.{Text}
use Rattle.sh_tree.specs.Trees.{bare, length_of, default, assign, check_omitted, check, alternate, cut_suffix, cut_prefix, plain, quoted, parameter, substitution, arithmetic, and_or, pipeline, simple, group, subshell, if_branches, while_loop, until_loop, for_loop, simple_command, words, tail}
use Rattle.sh_tree.specs.Views.{word_tree, part_tree, form_tree, parts_tree, redir_tree, list_tree, and_or_tree, pipeline_tree, command_tree, simple_tree, tail_tree, words_tree, items_tree, joined_tree, stages_tree, branches_tree, subs_tree, else_of, in_of}
use Rattle.sh_tree.specs.declared.words.Word.{Word}
use Rattle.sh_tree.specs.declared.words.Part.{Part}
use Rattle.sh_tree.specs.declared.words.Param.{Param}
use Rattle.sh_tree.specs.declared.words.Form as form_type
use Rattle.sh_tree.specs.declared.words.Form.TheVariants as form
use Rattle.sh_tree.specs.declared.words.Part.TheVariants as part
use Rattle.sh_tree.specs.declared.commands.List as declared_list
use Rattle.sh_tree.specs.declared.commands.AndOr.{AndOr}
use Rattle.sh_tree.specs.declared.commands.Pipeline.{Pipeline}
use Rattle.sh_tree.specs.declared.commands.Simple.{Simple}
use Rattle.sh_tree.specs.declared.commands.Tail.{Tail}
use Rattle.sh_tree.specs.declared.commands.Words.{Words}
use Rattle.sh_tree.specs.declared.commands.Command.{the_lemmas}
use Rattle.sh_tree.specs.declared.commands.Command.TheViews.{out-AndOr, out-List, out-Simple, out-Tail, out-Words}
use Rattle.sh_tree.specs.declared.commands.Command.TheVariants as command

-- a word, and each part and form of one
pub word_tree-is : (it : Word) → word_tree it ≡ parts_tree it.parts.items
word_tree-is it = search (rules, form_type.the_lemmas)

pub part_tree-plain : (text : Text) → part_tree (part.Plain text) ≡ plain text
part_tree-plain text = search (rules, form_type.the_lemmas)

pub part_tree-quoted : (text : Text) → part_tree (part.Quoted text) ≡ quoted text
part_tree-quoted text = search (rules, form_type.the_lemmas)

pub part_tree-parameter : (what : Param) (it : form_type.Form) (flag : Bool)
    → part_tree (part.Param what it flag) ≡ parameter what (form_tree it) flag
part_tree-parameter what it flag = search (rules, form_type.the_lemmas)

pub part_tree-substitution : (number : ℕ) (flag : Bool) → part_tree (part.Sub number flag) ≡ substitution number flag
part_tree-substitution number flag = search (rules, form_type.the_lemmas)

pub part_tree-arithmetic : (parts : Vec Part Global) (flag : Bool)
    → part_tree (part.Arith parts flag) ≡ arithmetic (parts_tree parts.items) flag
part_tree-arithmetic parts flag = search (rules, form_type.the_lemmas)

pub form_tree-plain : form_tree form.Plain ≡ bare
form_tree-plain = search (rules, form_type.the_lemmas)

pub form_tree-length : form_tree form.Length ≡ length_of
form_tree-length = search (rules, form_type.the_lemmas)

pub form_tree-default : (colon : Bool) (it : Word) → form_tree (form.Default colon it) ≡ default colon (word_tree it)
form_tree-default colon it = search (rules, form_type.the_lemmas)

pub form_tree-assign : (colon : Bool) (it : Word) → form_tree (form.Assign colon it) ≡ assign colon (word_tree it)
form_tree-assign colon it = search (rules, form_type.the_lemmas)

pub form_tree-check_omitted : (colon : Bool) → form_tree (form.Check colon None) ≡ check_omitted colon
form_tree-check_omitted colon = search (rules, form_type.the_lemmas)

pub form_tree-check : (colon : Bool) (it : Word) → form_tree (form.Check colon (Some it)) ≡ check colon (word_tree it)
form_tree-check colon it = search (rules, form_type.the_lemmas)

pub form_tree-alternate : (colon : Bool) (it : Word) → form_tree (form.Alternate colon it) ≡ alternate colon (word_tree it)
form_tree-alternate colon it = search (rules, form_type.the_lemmas)

pub form_tree-cut_suffix : (longest : Bool) (it : Word) → form_tree (form.CutSuffix longest it) ≡ cut_suffix longest (word_tree it)
form_tree-cut_suffix longest it = search (rules, form_type.the_lemmas)

pub form_tree-cut_prefix : (longest : Bool) (it : Word) → form_tree (form.CutPrefix longest it) ≡ cut_prefix longest (word_tree it)
form_tree-cut_prefix longest it = search (rules, form_type.the_lemmas)

-- a list, an and-or list and a pipeline
pub list_tree-is : (it : declared_list.List) → list_tree it ≡ items_tree (out-List it).items.items
list_tree-is it = search (rules, the_lemmas)

pub and_or_tree-is : (it : AndOr) → and_or_tree it ≡ and_or (pipeline_tree (out-AndOr it).first) (joined_tree (out-AndOr it).rest.items)
and_or_tree-is it = search (rules, the_lemmas)

pub pipeline_tree-is : (it : Pipeline) → pipeline_tree it ≡ pipeline it.negated (stages_tree it.stages.items)
pipeline_tree-is it = search (rules, the_lemmas)

-- each command
pub command_tree-simple : (it : Simple) → command_tree (command.Simple it) ≡ simple (simple_tree it)
command_tree-simple it = search (rules, the_lemmas)

pub command_tree-group : (list : declared_list.List) (behind : Tail)
    → command_tree (command.Group list behind) ≡ group (list_tree list) (tail_tree behind)
command_tree-group list behind = search (rules, the_lemmas)

pub command_tree-subshell : (list : declared_list.List) (behind : Tail)
    → command_tree (command.Subshell list behind) ≡ subshell (list_tree list) (tail_tree behind)
command_tree-subshell list behind = search (rules, the_lemmas)

pub command_tree-if : (branches : Vec (declared_list.List × declared_list.List) Global) (otherwise : Option declared_list.List)
    (behind : Tail) → command_tree (command.If branches otherwise behind)
    ≡ if_branches (branches_tree branches.items) (else_of (option_map list_tree otherwise)) (tail_tree behind)
command_tree-if branches otherwise behind = search (rules, the_lemmas)

pub command_tree-while : (condition body : declared_list.List) (behind : Tail)
    → command_tree (command.While condition body behind) ≡ while_loop (list_tree condition) (list_tree body) (tail_tree behind)
command_tree-while condition body behind = search (rules, the_lemmas)

pub command_tree-until : (condition body : declared_list.List) (behind : Tail)
    → command_tree (command.Until condition body behind) ≡ until_loop (list_tree condition) (list_tree body) (tail_tree behind)
command_tree-until condition body behind = search (rules, the_lemmas)

pub command_tree-for : (name : Text) (list : Option Words) (body : declared_list.List) (behind : Tail)
    → command_tree (command.For name list body behind)
    ≡ for_loop name (in_of (option_map words_tree list)) (list_tree body) (tail_tree behind)
command_tree-for name list body behind = search (rules, the_lemmas)

-- a simple command, the words of a `for`, and what stands behind a compound command
pub simple_tree-is : (it : Simple) → simple_tree it
    ≡ simple_command (map (λ (one : Text × Word). (one.0, word_tree one.1)) (out-Simple it).assigns.items)
    (map word_tree (out-Simple it).words.items) (map redir_tree (out-Simple it).redirs.items) (subs_tree (out-Simple it).subs.items)
simple_tree-is it = search (rules, the_lemmas)

pub words_tree-is : (it : Words)
    → words_tree it ≡ words (map word_tree (out-Words it).words.items) (subs_tree (out-Words it).subs.items)
words_tree-is it = search (rules, the_lemmas)

pub tail_tree-is : (it : Tail)
    → tail_tree it ≡ tail (map redir_tree (out-Tail it).redirs.items) (subs_tree (out-Tail it).subs.items)
tail_tree-is it = search (rules, the_lemmas)

-- the levels of words, of lists and of commands
pub ruleset of_words = (
  word_tree-is,
  part_tree-plain,
  part_tree-quoted,
  part_tree-parameter,
  part_tree-substitution,
  part_tree-arithmetic,
  form_tree-plain,
  form_tree-length,
  form_tree-default,
  form_tree-assign,
  form_tree-check_omitted,
  form_tree-check,
  form_tree-alternate,
  form_tree-cut_suffix,
  form_tree-cut_prefix,
)

pub ruleset of_lists = (list_tree-is, and_or_tree-is, pipeline_tree-is)

pub ruleset of_commands = (
  command_tree-simple,
  command_tree-group,
  command_tree-subshell,
  command_tree-if,
  command_tree-while,
  command_tree-until,
  command_tree-for,
  simple_tree-is,
  words_tree-is,
  tail_tree-is,
)
