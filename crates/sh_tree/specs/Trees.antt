-- The syntax tree of a script (XCU 2.10, narrowed), without the memory that holds it. Two values of the code are the same tree where
-- these are equal. The code has the same with vectors.
use Rattle.std.specs.Prelude.{ℕ, Bool, List}
use Rattle.std.specs.declared.option.Option.{Option}
use Rattle.sh_tree.specs.declared.words.Param.{Param}
use Rattle.sh_tree.specs.declared.commands.How.{How}
use Rattle.sh_tree.specs.declared.commands.Join.{Join}

mutual
  -- a word is its parts, in order
  pub data WordTree : Type 0 where
    no_part : WordTree
    part : PartTree → WordTree → WordTree

  -- the flag of an expansion says whether it is quoted
  pub data PartTree : Type 0 where
    plain : List ℕ → PartTree
    quoted : List ℕ → PartTree
    parameter : Param → FormTree → Bool → PartTree
    substitution : ℕ → Bool → PartTree
    arithmetic : WordTree → Bool → PartTree

  -- the flag says whether there is a colon, or whether the longest is removed
  pub data FormTree : Type 0 where
    bare : FormTree
    length_of : FormTree
    default : Bool → WordTree → FormTree
    assign : Bool → WordTree → FormTree
    check_omitted : Bool → FormTree
    check : Bool → WordTree → FormTree
    alternate : Bool → WordTree → FormTree
    cut_suffix : Bool → WordTree → FormTree
    cut_prefix : Bool → WordTree → FormTree

-- a redirection
pub record RedirTree : Type 0 where
  pub number : ℕ
  pub how : How
  pub word : WordTree

mutual
  -- a list is its and-or lists, in order
  pub data ListTree : Type 0 where
    no_item : ListTree
    item : AndOrTree → ListTree → ListTree

  -- a pipeline, and the others with the operator before each
  pub data AndOrTree : Type 0 where
    and_or : PipelineTree → JoinedTrees → AndOrTree

  pub data JoinedTrees : Type 0 where
    none_joined : JoinedTrees
    joined : Join → PipelineTree → JoinedTrees → JoinedTrees

  -- the flag says whether `!` stands before it
  pub data PipelineTree : Type 0 where
    pipeline : Bool → CommandTrees → PipelineTree

  pub data CommandTrees : Type 0 where
    no_command : CommandTrees
    command : CommandTree → CommandTrees → CommandTrees

  pub data CommandTree : Type 0 where
    simple : SimpleTree → CommandTree
    group : ListTree → TailTree → CommandTree
    subshell : ListTree → TailTree → CommandTree
    if_branches : BranchTrees → ElseTree → TailTree → CommandTree
    while_loop : ListTree → ListTree → TailTree → CommandTree
    until_loop : ListTree → ListTree → TailTree → CommandTree
    for_loop : List ℕ → InTree → ListTree → TailTree → CommandTree

  -- the conditions of an `if` with their bodies
  pub data BranchTrees : Type 0 where
    no_branch : BranchTrees
    branch : ListTree → ListTree → BranchTrees → BranchTrees

  pub data ElseTree : Type 0 where
    no_else : ElseTree
    else_list : ListTree → ElseTree

  -- assignments, words, redirections, substitutions
  pub data SimpleTree : Type 0 where
    simple_command : List (List ℕ × WordTree) → List WordTree → List RedirTree → SubTrees → SimpleTree

  -- the words behind `in`
  pub data InTree : Type 0 where
    no_in : InTree
    in_words : WordsTree → InTree

  pub data WordsTree : Type 0 where
    words : List WordTree → SubTrees → WordsTree

  -- redirections and their substitutions
  pub data TailTree : Type 0 where
    tail : List RedirTree → SubTrees → TailTree

  pub data SubTrees : Type 0 where
    no_sub : SubTrees
    sub : ListTree → SubTrees → SubTrees

-- a script: a list, or nothing
abbrev pub ScriptTree : Type 0
ScriptTree = Option ListTree
