-- Parts of what commands mean that the evaluator's functions stand for, each by itself. What they mean together is in `Meaning`.
use Rattle.std.specs.Prelude.{ℕ, List, []}
use Rattle.ps_lines.specs.declared.text.Text.{Text}
use Rattle.sh_tree.specs.Views.{word_tree}
use Rattle.sh_tree.specs.declared.words.Word.{Word}
use Rattle.sh_tree.specs.Trees.{WordTree, CommandTree, simple, group, subshell, if_branches, while_loop, until_loop, for_loop, SubTrees}
use Rattle.sh_expand.specs.Outcomes.{Expansions}
use Rattle.sh_eval.specs.States.{Means, on, in_shell}
use Rattle.sh_eval.specs.Commands as forms
use Rattle.sh_eval.specs.Utilities.{Pages}
use Rattle.sh_eval.specs.Meaning.{list_means, simple_means, branches_mean, else_means, in_means, subs_mean}

-- the name and the word of an assignment
abbrev pub assign_tree : Text × Word → List ℕ × WordTree
assign_tree one = (one.0, word_tree one.1)

-- the name of a `for`
abbrev pub name_of : CommandTree → List ℕ
name_of (simple it) = []
name_of (group list behind) = []
name_of (subshell list behind) = []
name_of (if_branches branches otherwise behind) = []
name_of (while_loop condition body behind) = []
name_of (until_loop condition body behind) = []
name_of (for_loop name list body behind) = name

module _ (expansions : Expansions) (pages : Pages) where
  -- the substitutions of a command, behind the loss of those of the command before
  abbrev pub subs_begun : SubTrees → Means
  subs_begun subs state = subs_mean expansions pages subs (in_shell forms.none_substituted state)

  -- what is in a compound command, behind its redirections
  abbrev pub body_means : CommandTree → Means
  body_means (simple it) state = simple_means expansions pages it state
  body_means (group list behind) state = list_means expansions pages list state
  body_means (subshell list behind) state = forms.subshell (list_means expansions pages list) state
  body_means (if_branches branches otherwise behind) state = branches_mean expansions pages branches (else_means expansions pages otherwise) state
  body_means (while_loop condition body behind) state =
      forms.while_holds forms.succeeded (list_means expansions pages condition) (list_means expansions pages body) state
  body_means (until_loop condition body behind) state =
      forms.while_holds forms.failed (list_means expansions pages condition) (list_means expansions pages body) state
  body_means (for_loop name fields body behind) state =
      in_means expansions pages fields (forms.for_fields name (list_means expansions pages body)) state

  -- one turn of a `while` or an `until`
  abbrev pub turn_means : CommandTree → Means
  turn_means (simple it) state = on state
  turn_means (group list behind) state = on state
  turn_means (subshell list behind) state = on state
  turn_means (if_branches branches otherwise behind) state = on state
  turn_means (while_loop condition body behind) state = forms.turn forms.succeeded (list_means expansions pages condition) (list_means expansions pages body) state
  turn_means (until_loop condition body behind) state = forms.turn forms.failed (list_means expansions pages condition) (list_means expansions pages body) state
  turn_means (for_loop name fields body behind) state = on state

  -- the body of a `for`
  abbrev pub for_body : CommandTree → Means
  for_body (simple it) state = on state
  for_body (group list behind) state = on state
  for_body (subshell list behind) state = on state
  for_body (if_branches branches otherwise behind) state = on state
  for_body (while_loop condition body behind) state = on state
  for_body (until_loop condition body behind) state = on state
  for_body (for_loop name list body behind) state = list_means expansions pages body state

  -- its rounds over fields, and one of them
  abbrev pub rounds_mean : CommandTree → List (List ℕ) → Means
  rounds_mean tree fields state = forms.rounds (forms.set_to (name_of tree)) (for_body tree) fields state

  abbrev pub round_means : CommandTree → List ℕ → Means
  round_means tree field state = forms.noted (for_body tree (forms.set_to (name_of tree) field state))
