-- What the code's parts of a script stand for: the states in which it is built.
use Rattle.std.specs.Prelude.{List, [], ◌∷◌, ◌++◌, map}
use Rattle.std.specs.declared.option.Option.{Option}
use Rattle.std.specs.Option.{option_map}
use Rattle.sh_tree.specs.Trees.{ListTree, PipelineTree, SubTrees, SimpleTree, simple_command}
use Rattle.sh_tree.specs.Views.{word_tree, redir_tree, list_tree, in_of, command_tree, pipeline_tree, words_tree, items_tree, subs_tree}
use Rattle.sh_tree.specs.declared.commands.Join.{Join}
use Rattle.sh_tree.specs.declared.commands.List as declared_list
use Rattle.sh_tree.specs.declared.commands.Pipeline.{Pipeline}
use Rattle.sh_parse.specs.Inner.Building as b
use Rattle.sh_parse.specs.declared.levels.Compound.{Compound}
use Rattle.sh_parse.specs.declared.levels.Compound.TheVariants as open_one
use Rattle.sh_parse.specs.declared.levels.Chain.{Chain}
use Rattle.sh_parse.specs.declared.levels.Listing.{Listing}
use Rattle.sh_parse.specs.declared.levels.Making.{Making}
use Rattle.sh_parse.specs.declared.levels.Level.{Level}
use Rattle.sh_parse.specs.declared.building.Building as declared_building

abbrev pub branch_of : declared_list.List × declared_list.List → ListTree × ListTree
branch_of branch = (list_tree branch.0, list_tree branch.1)

abbrev pub construct_of : Compound → b.Compound
construct_of open_one.Whole = b.whole
construct_of open_one.Group = b.in_group
construct_of open_one.Subshell = b.in_subshell
construct_of (open_one.Condition branches) = b.in_condition (map branch_of branches.items)
construct_of (open_one.Branch branches condition) = b.in_branch (map branch_of branches.items) (list_tree condition)
construct_of (open_one.Otherwise branches) = b.in_else (map branch_of branches.items)
construct_of open_one.While = b.in_while
construct_of (open_one.WhileBody condition) = b.in_while_body (list_tree condition)
construct_of open_one.Until = b.in_until
construct_of (open_one.UntilBody condition) = b.in_until_body (list_tree condition)
construct_of open_one.Unnamed = b.unnamed
construct_of (open_one.For name among) = b.in_for name (in_of (option_map words_tree among))

abbrev pub joined_of : Join × Pipeline → Join × PipelineTree
joined_of one = (one.0, pipeline_tree one.1)

abbrev pub chain_parts : Chain → PipelineTree × List (Join × PipelineTree)
chain_parts chain = (pipeline_tree chain.first, map joined_of chain.rest.items)

abbrev pub chain_of : Option Chain → Option (PipelineTree × List (Join × PipelineTree))
chain_of chain = option_map chain_parts chain

abbrev pub listing_of : Listing → b.Listing
listing_of list =
    b.listing (items_tree list.items.items) (chain_of list.chain) list.sign list.negated
    (map command_tree list.stages.items)

abbrev pub made_of : Option (Compound × declared_list.List) → Option (b.Compound × ListTree)
made_of made = option_map (λ pair. (construct_of pair.0, list_tree pair.1)) made

abbrev pub subs_of : Making → SubTrees
subs_of command = subs_tree command.subs.items

abbrev pub pieces_of : Making → SimpleTree
pieces_of command =
    simple_command (map (λ assign. (assign.0, word_tree assign.1)) command.assigns.items) (map word_tree command.words.items)
    (map redir_tree command.redirs.items) (subs_of command)

abbrev pub making_of : Making → b.Making
making_of command = b.making (pieces_of command) command.number command.how (made_of command.compound)

abbrev pub level_of : Level → b.Level
level_of one = b.level (construct_of one.construct) (listing_of one.list) (making_of one.command)

-- from the innermost
abbrev pub levels_of : List Level → List b.Level
levels_of [] = []
levels_of (first ∷ rest) = levels_of rest ++ level_of first ∷ []

abbrev pub state_of : declared_building.Building → b.State
state_of building = b.innermost (level_of building.level) (levels_of building.outer.items)
