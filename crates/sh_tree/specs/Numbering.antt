-- Which command substitution a part of a word stands for (XCU 2.6.3): the one with its number among those of the command. The
-- assignments, words and redirections of a simple command name its substitutions from 0 on, each once; and so do the words of a `for`,
-- and the redirections behind a compound command.
use Rattle.std.specs.Prelude.{ℕ, ◌+◌, List, [], ◌∷◌, ◌++◌}
use Rattle.std.specs.List.{range_with_len}
use Rattle.std.specs.List.Sorted.{IsPermutation}
use Rattle.std.specs.declared.option.Option.TheVariants.{None, Some}
use Rattle.sh_tree.specs.Trees.{WordTree, no_part, part, PartTree, plain, quoted, parameter, substitution, arithmetic, FormTree, bare, length_of, default, assign, check_omitted, check, alternate, cut_suffix, cut_prefix, RedirTree, ListTree, no_item, item, AndOrTree, and_or, JoinedTrees, none_joined, joined, PipelineTree, pipeline, CommandTrees, no_command, command, CommandTree, simple, group, subshell, if_branches, while_loop, until_loop, for_loop, BranchTrees, no_branch, branch, ElseTree, no_else, else_list, SimpleTree, simple_command, InTree, no_in, in_words, WordsTree, words, TailTree, tail, SubTrees, no_sub, sub, ScriptTree}

-- the numbers of a word's command substitutions, in text order, those in the words of its expansions at their place
abbrev mutual
  pub word_numbers : WordTree → List ℕ
  word_numbers no_part = []
  word_numbers (part first rest) = part_numbers first ++ word_numbers rest

  pub part_numbers : PartTree → List ℕ
  part_numbers (plain bytes) = []
  part_numbers (quoted bytes) = []
  part_numbers (parameter what form is_quoted) = form_numbers form
  part_numbers (substitution number is_quoted) = number ∷ []
  part_numbers (arithmetic word is_quoted) = word_numbers word

  pub form_numbers : FormTree → List ℕ
  form_numbers bare = []
  form_numbers length_of = []
  form_numbers (default colon word) = word_numbers word
  form_numbers (assign colon word) = word_numbers word
  form_numbers (check_omitted colon) = []
  form_numbers (check colon word) = word_numbers word
  form_numbers (alternate colon word) = word_numbers word
  form_numbers (cut_suffix longest word) = word_numbers word
  form_numbers (cut_prefix longest word) = word_numbers word

abbrev pub assigns_numbers : List (List ℕ × WordTree) → List ℕ
assigns_numbers [] = []
assigns_numbers (first ∷ rest) = word_numbers first.1 ++ assigns_numbers rest

abbrev pub words_numbers : List WordTree → List ℕ
words_numbers [] = []
words_numbers (first ∷ rest) = word_numbers first ++ words_numbers rest

abbrev pub redirs_numbers : List RedirTree → List ℕ
redirs_numbers [] = []
redirs_numbers (first ∷ rest) = word_numbers first.word ++ redirs_numbers rest

abbrev pub sub_count : SubTrees → ℕ
sub_count no_sub = 0
sub_count (sub first rest) = sub_count rest + 1

-- the numbers are 0, 1 and so on up to the number of substitutions, in some order
abbrev pub NameEach : List ℕ → SubTrees → Type 0
NameEach numbers subs = IsPermutation numbers (range_with_len 0 (sub_count subs))

-- each command, those inside others too, numbers its command substitutions so
abbrev mutual
  pub IsNumberedList : ListTree → Type 0
  IsNumberedList no_item = Unit {0}
  IsNumberedList (item first rest) = IsNumberedAndOr first × IsNumberedList rest

  pub IsNumberedAndOr : AndOrTree → Type 0
  IsNumberedAndOr (and_or first rest) = IsNumberedPipeline first × AreNumberedJoined rest

  pub AreNumberedJoined : JoinedTrees → Type 0
  AreNumberedJoined none_joined = Unit {0}
  AreNumberedJoined (joined sign first rest) = IsNumberedPipeline first × AreNumberedJoined rest

  pub IsNumberedPipeline : PipelineTree → Type 0
  IsNumberedPipeline (pipeline negated commands) = AreNumberedCommands commands

  pub AreNumberedCommands : CommandTrees → Type 0
  AreNumberedCommands no_command = Unit {0}
  AreNumberedCommands (command first rest) = IsNumberedCommand first × AreNumberedCommands rest

  pub IsNumberedCommand : CommandTree → Type 0
  IsNumberedCommand (simple it) = IsNumberedSimple it
  IsNumberedCommand (group list behind) = IsNumberedList list × IsNumberedTail behind
  IsNumberedCommand (subshell list behind) = IsNumberedList list × IsNumberedTail behind
  IsNumberedCommand (if_branches branches otherwise behind) =
      AreNumberedBranches branches × (IsNumberedElse otherwise × IsNumberedTail behind)
  IsNumberedCommand (while_loop condition body behind) = IsNumberedList condition × (IsNumberedList body × IsNumberedTail behind)
  IsNumberedCommand (until_loop condition body behind) = IsNumberedList condition × (IsNumberedList body × IsNumberedTail behind)
  IsNumberedCommand (for_loop name among body behind) = IsNumberedIn among × (IsNumberedList body × IsNumberedTail behind)

  pub AreNumberedBranches : BranchTrees → Type 0
  AreNumberedBranches no_branch = Unit {0}
  AreNumberedBranches (branch condition body rest) = IsNumberedList condition × (IsNumberedList body × AreNumberedBranches rest)

  pub IsNumberedElse : ElseTree → Type 0
  IsNumberedElse no_else = Unit {0}
  IsNumberedElse (else_list list) = IsNumberedList list

  pub IsNumberedSimple : SimpleTree → Type 0
  IsNumberedSimple (simple_command assigns arguments redirs subs) =
      NameEach (assigns_numbers assigns ++ (words_numbers arguments ++ redirs_numbers redirs)) subs × AreNumberedSubs subs

  pub IsNumberedIn : InTree → Type 0
  IsNumberedIn no_in = Unit {0}
  IsNumberedIn (in_words list) = AreNumberedWords list

  pub AreNumberedWords : WordsTree → Type 0
  AreNumberedWords (words arguments subs) = NameEach (words_numbers arguments) subs × AreNumberedSubs subs

  pub IsNumberedTail : TailTree → Type 0
  IsNumberedTail (tail redirs subs) = NameEach (redirs_numbers redirs) subs × AreNumberedSubs subs

  pub AreNumberedSubs : SubTrees → Type 0
  AreNumberedSubs no_sub = Unit {0}
  AreNumberedSubs (sub first rest) = IsNumberedList first × AreNumberedSubs rest

abbrev pub IsNumberedScript : ScriptTree → Type 0
IsNumberedScript None = Unit {0}
IsNumberedScript (Some list) = IsNumberedList list
