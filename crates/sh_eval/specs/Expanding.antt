-- Words on the way of a command (XCU 2.6, 2.8.1): how a command goes on with what its words mean, or ends at a fault of theirs.
use Rattle.std.specs.Prelude.{ℕ, List, [], ◌∷◌, Ok, Err}
use Rattle.sh_tree.specs.Trees.{WordTree, RedirTree}
use Rattle.sh_arith.specs.Variables.{Variables}
use Rattle.sh_expand.specs.declared.faults.ExpandFault.{ExpandFault}
use Rattle.sh_expand.specs.declared.faults.ExpandFault.TheVariants as fault
use Rattle.sh_expand.specs.Given.{Given}
use Rattle.sh_expand.specs.Outcomes.{Expansions, Answer, told_of, told_fields}
use Rattle.sh_eval.specs.declared.flows.Flow.TheVariants as flow
use Rattle.sh_eval.specs.declared.refusals.Refusal.TheVariants as refusal
use Rattle.sh_eval.specs.declared.shell.Shell.{Shell}
use Rattle.sh_eval.specs.Shells.{with_env}
use Rattle.sh_eval.specs.States.{State, Means, ends, refused, in_shell, leaves, tells}
use Rattle.sh_eval.specs.Targets.{Target}
use Rattle.sh_eval.specs.Commands.{set_to}
use Rattle.sh_eval.specs.Lines.{unset_line, arithmetic_line}

-- what a shell gives its expansions
abbrev pub given_by : Shell → Given
given_by shell = record { zero = shell.zero; arguments = shell.arguments; status = shell.status; substitutions = shell.substituted }

abbrev pub with_variables : Variables → State → State
with_variables variables state = in_shell (with_env variables) state

-- the shell ends at a fault of a word, with one line and status 1 (XCU 2.8.1)
abbrev pub ends_told : List ℕ → Means
ends_told line state = ends flow.Exit (leaves 1 (tells line state))

-- (the last two belong to a call, and no word means them)
abbrev pub stops_at : ExpandFault → Means
stops_at (fault.Unset name text) state = ends_told (unset_line name text) state
stops_at (fault.Arith why) state = ends_told (arithmetic_line why) state
stops_at fault.ArgsTooMany state = refused refusal.ArgsTooMany state
stops_at fault.Failed state = ends_told [] state
stops_at fault.Memory state = ends_told [] state

-- a command goes on with what its words mean
abbrev pub goes_on_with : {Meaning : Type 0} → (Meaning → Means) → Answer Meaning → Means
goes_on_with next (Ok meaning, after) state = next meaning (with_variables after state)
goes_on_with next (Err why, after) state = stops_at why (with_variables after state)

module _ (expansions : Expansions) where
  -- the fields of words
  abbrev pub with_fields : List WordTree → (List (List ℕ) → Means) → Means
  with_fields words next state =
      goes_on_with next (told_fields (expansions.fields state.world.files state.world.home (given_by state.shell) state.shell.variables words)) state

  -- the text of a word of which nothing is split
  abbrev pub with_text : WordTree → (List ℕ → Means) → Means
  with_text word next state = goes_on_with next (told_of (expansions.text (given_by state.shell) state.shell.variables word)) state

  -- redirections, from the left
  abbrev pub with_targets : List RedirTree → (List Target → Means) → Means
  with_targets [] next state = next [] state
  with_targets (redir ∷ redirs) next state =
      with_text redir.word (λ text. with_targets redirs (λ targets. next (record { number = redir.number; how = redir.how; text = text } ∷ targets))) state

  -- assignments, from the left, each seen by the next
  abbrev pub assigning : List (List ℕ × WordTree) → Means → Means
  assigning [] next state = next state
  assigning (first ∷ rest) next state = with_text first.1 (λ text state. assigning rest next (set_to first.0 text state)) state
