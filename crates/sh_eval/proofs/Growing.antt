-- Every command adds to what is there.
use Rattle.std.proofs.Common.{◌≡◌, inr, ℕ, zero, suc, ◌≤◌, ◌+◌, ◌-◌, nat_le, nat_lt, not, ◌&&◌, ◌||◌, length, drop, if◌then◌else◌, List, [], ◌∷◌, ◌++◌, Bool, true, false, Option, Some, None, Result, Ok, Err, refl, sym, subst, arith}
use Rattle.ps_lines.proofs.TextsLemmas.{begins-self, begins-append, begins-trans}
use Rattle.sh_eval.specs.declared.flows.Flow.{Flow}
use Rattle.sh_eval.specs.declared.flows.Flow.TheVariants as flow
use Rattle.sh_eval.specs.declared.streams.To.{To}
use Rattle.sh_eval.specs.declared.streams.To.TheVariants as to
use Rattle.sh_eval.specs.States.{State, Ends, Means, ends, on, after, followed_by, in_world, in_session, in_shell, in_streams, leaves, refused, reading, piping, unpiped, write, puts, tells, leaving, reads_to, to_read}
use Rattle.sh_eval.specs.declared.streams.From.{From}
use Rattle.sh_eval.specs.declared.streams.From.TheVariants as from
use Rattle.sh_eval.specs.declared.session.Session.{Session}
use Rattle.ps_lines.specs.Texts.{BeginsWith}
use Rattle.sh_tree.specs.Trees.{WordTree, ListTree, no_item, item, AndOrTree, and_or, JoinedTrees, none_joined, joined, PipelineTree, pipeline, CommandTrees, no_command, command, CommandTree, simple, group, if_branches, while_loop, until_loop, for_loop, BranchTrees, no_branch, branch, ElseTree, no_else, else_list, SimpleTree, simple_command, RedirTree, InTree, no_in, in_words, WordsTree, words, TailTree, tail, SubTrees, no_sub, sub, ScriptTree}
use Rattle.sh_tree.specs.Trees.{subshell as subshell_tree}
use Rattle.sh_tree.specs.declared.commands.Join.{Join}
use Rattle.sh_tree.specs.declared.commands.How.{How}
use Rattle.sh_tree.specs.declared.commands.How.TheVariants as how
use Rattle.ps_world.specs.Files.{IsOneOf}
use Rattle.ps_world.specs.Paths.{Components}
use Rattle.ps_world.specs.declared.places.Place.{Place}
use Rattle.ps_world.specs.declared.places.Place.TheVariants as place
use Rattle.sh_expand.specs.declared.faults.ExpandFault.{ExpandFault}
use Rattle.sh_expand.specs.Outcomes.{Expansions, Answer, told_of, told_fields}
use Rattle.sh_expand.specs.declared.faults.ExpandFault.TheVariants as fault
use Rattle.sh_eval.specs.declared.shell.Shell.{Shell}
use Rattle.sh_eval.specs.declared.refusals.Refusal.TheVariants as refusal
use Rattle.sh_eval.specs.Shells.{inside}
use Rattle.sh_eval.specs.Lines.{unset_line, arithmetic_line, bad_usage, diagnostic, no_such_file, is_a_directory}
use Rattle.sh_eval.specs.declared.outcomes.Position.{Position}
use Rattle.sh_eval.specs.declared.outcomes.Position.TheVariants as position
use Rattle.sh_eval.specs.Commands.{staged, goes_on_behind, joined_by, negated, apart, subshell, its_status, first_stage, middle_stage, last_stage, substitution, handed_on, reading_piped, unchanged, with_text, some_command, chosen, succeeded, noted, tested_by, of_body, turn, turn_used, turns, rounds, is_over, goes_round, left_by, while_holds, for_fields, entered, most_turns, set_to, none_substituted, failed}
use Rattle.sh_eval.specs.Expanding.{ends_told, stops_at, goes_on_with, with_variables, given_by, with_fields, with_targets, assigning}
use Rattle.sh_eval.specs.Expanding.{with_text as with_text_of}
use Rattle.sh_eval.specs.Targets.{Target}
use Rattle.sh_eval.specs.Redirections.{Use, file_begun, named_by, unless_busy, where_free, first_busy, Redirected, led, stopped, reading_at, writing_at, redirected, leads_to, goes_on_in, redirecting, in_redirections, uses_of, holding}
use Rattle.fl_segments.specs.Noted.{Noted}
use Rattle.fl_commands.specs.Inputs.{noted_over, status_of}
use Rattle.sh_eval.specs.Inner.Runs.{Does, takes, tee_does}
use Rattle.sh_eval.specs.Utilities.{Called, deals, needs_all, notes, words_without, Pages, Patterns, read, wrong, refers_back, given_to, inputs_in, has_none, reads_standard, taken_in, takes_inputs, tells_some, lines_told, writes_out, does_nothing, runs_utility, uses_by_operands}
use Rattle.sh_eval.specs.Teeing.{Made, begins_anew, copies, making, making_at, none_made, status_by, tees, tells_and_copies, uses_by_files, with_file, without, writes}
use Rattle.sh_eval.specs.Builtins.{misused, answers, sets, shifts, set_all, line_in, behind_line, reads}
use Rattle.sh_eval.specs.Asking.{Asked, no_name, unknown, unlisted, unusable, tee, utility, builtin, at_fault, does, asked_as, asked_by}
use Rattle.sh_eval.specs.Simple.{assigned_for, done, where_few, by_patterns, checked, runs_simple, most_operands}
use Rattle.sh_eval.specs.Meaning.{held_in, has_item, list_means, and_or_means, joined_means, pipeline_means, stages_means, later_stages_mean, command_means, branches_mean, else_means, simple_means, in_means, words_mean, tail_means, subs_mean, script_means}
use Rattle.ut_args.specs.Inputs.{files_by, operands_by}
use Rattle.ut_args.specs.Reading.{invocation}
use Rattle.ut_args.specs.declared.commands.Command.{Command}
use Rattle.ut_args.specs.declared.commands.Command.TheVariants as command
use Rattle.ut_args.specs.declared.faults.ArgFault.{ArgFault}
use Rattle.ut_args.specs.declared.faults.ArgFault.TheVariants as arg
use Rattle.ut_test.specs.declared.outcomes.Tested.{Tested}
use Rattle.ut_test.specs.declared.outcomes.Tested.TheVariants as tested
use Rattle.ut_test.specs.Tests.{tested_by as answered_by}
use Rattle.ut_test.specs.Fields.{fields_read}
use Rattle.ut_test.specs.Echo.{echoed}
use Rattle.sh_expand.specs.Separators.{ifs_of}
use Rattle.std.specs.Option.{unwrap_or}
use Rattle.std.specs.List.{list_any}
use Rattle.sh_eval.specs.Reaching.{written_by}
use Rattle.sh_eval.specs.Redirecting.{left_off}
use Rattle.sh_eval.specs.Growth.{Grows, Adds}

-- states that only grow
pub grows-self : (state : State) → Grows state state
grows-self state = record { output = begins-self state.world.output; errors = begins-self state.world.errors; written = λ path one. one; turns = omega arith }

pub grows-trans : (old between new : State) → Grows old between → Grows between new → Grows old new
grows-trans old between new first second =
    let first_turns = first.turns in
    let second_turns = second.turns in
    record {
      output = begins-trans new.world.output between.world.output old.world.output second.output first.output;
      errors = begins-trans new.world.errors between.world.errors old.world.errors second.errors first.errors;
      written = λ path one. second.written path (first.written path one);
      turns = omega arith;
    }

-- a file is begun
grows-begun : (anew : Bool) (path : Components) (state : State) → Grows state (in_world (file_begun anew path) state)
grows-begun anew path state = record { output = begins-self state.world.output; errors = begins-self state.world.errors; written = λ at one. inr one; turns = omega arith }

-- what is written is added
pub grows-write : (place : To) (bytes : List ℕ) (state : State) → Grows state (write place bytes state)
grows-write to.Output bytes state = record { output = begins-append state.world.output bytes; errors = begins-self state.world.errors; written = λ path one. one; turns = omega arith }
grows-write to.Errors bytes state = record { output = begins-self state.world.output; errors = begins-append state.world.errors bytes; written = λ path one. one; turns = omega arith }
grows-write (to.Pipe number) bytes state = grows-self state
grows-write (to.File path) bytes state = record { output = begins-self state.world.output; errors = begins-self state.world.errors; written = λ at one. inr one; turns = omega arith }
grows-write to.Null bytes state = grows-self state

pub grows-leaving : (source : From) (rest : List ℕ) (state : State) → Grows state (leaving source rest state)
grows-leaving from.Standard rest state = grows-self state
grows-leaving (from.Kept text) rest state = grows-self state

-- one command behind another
pub adds-followed : (next : Means) → Adds next → (how : Flow) (state : State) → Grows state (followed_by next how state).state
adds-followed next adds flow.On state = adds state
adds-followed next adds (flow.Break count) state = grows-self state
adds-followed next adds (flow.Continue count) state = grows-self state
adds-followed next adds flow.Exit state = grows-self state
adds-followed next adds (flow.Refused cause) state = grows-self state

pub grows-after : (start : State) (left : Ends) (next : Means) → Grows start left.state → Adds next → Grows start (after left next).state
grows-after start left next grows adds =
    grows-trans start left.state (after left next).state grows (adds-followed next adds left.flow left.state)

pub adds-after : (first next : Means) → Adds first → Adds next → Adds (λ state. after (first state) next)
adds-after first next adds_first adds_next state = grows-after state (first state) next (adds_first state) adds_next

pub adds-on : Adds on
adds-on state = grows-self state

-- a choice
pub adds-choice : (test : State → Bool) (first second : Means) → Adds first → Adds second → Adds (λ state. if test state then first state else second state)
adds-choice test first second adds_first adds_second state = by_test (test state)
  where
    by_test : (holds : Bool) → Grows state (if holds then first state else second state).state
    by_test true = adds_first state
    by_test false = adds_second state

adds-leaves : (status : ℕ) → Adds (λ state. on (leaves status state))
adds-leaves status state = grows-self state

-- LISTS AND PIPELINES
pub adds-joined_by : (how : Join) (next : Means) → Adds next → Adds (joined_by how next)
adds-joined_by how next adds = adds-choice (λ state. goes_on_behind how state.shell.status) next on adds adds-on

pub adds-negated : (is : Bool) → Adds (negated is)
adds-negated is state = grows-self state

-- SUBSHELLS
adds-apart : (enter : Session → Session) (leave : Session → Session → Session) (takes_over : Shell → Shell → Session → Shell) (means : Means)
    → ((session : Session) → session.turns ≤ (enter session).turns) → ((old new : Session) → new.turns ≤ (leave old new).turns) → Adds means → Adds (apart enter leave takes_over means)
adds-apart enter leave takes_over means no_fewer_in no_fewer_out adds state =
    let first : State = record { shell = inside state.shell; session = enter state.session; world = state.world } in
    let left = means first in
    let grows = adds first in
    let turns_in = no_fewer_in state.session in
    let turns_on = grows.turns in
    let turns_out = no_fewer_out state.session left.state.session in
    record { output = grows.output; errors = grows.errors; written = grows.written; turns = omega arith }

pub same-turns : (session : Session) → session.turns ≤ session.turns
same-turns session = omega arith

pub adds-subshell : (means : Means) → Adds means → Adds (subshell means)
adds-subshell means adds = adds-apart (λ session. session) (λ old new. new) its_status means same-turns (λ old new. same-turns new) adds

pub adds-first_stage : (means : Means) → Adds means → Adds (first_stage means)
adds-first_stage means adds = adds-apart piping handed_on unchanged means same-turns (λ old new. same-turns new) adds

pub adds-middle_stage : (means : Means) → Adds means → Adds (middle_stage means)
adds-middle_stage means adds =
    adds-apart (λ session. piping (reading_piped session)) (λ old new. reading old.streams.from (handed_on old new)) unchanged means same-turns (λ old new. same-turns new) adds

pub adds-last_stage : (means : Means) → Adds means → Adds (last_stage means)
adds-last_stage means adds = adds-apart reading_piped (λ old new. reading old.streams.from new) its_status means same-turns (λ old new. same-turns new) adds

pub adds-substitution : (means : Means) → Adds means → Adds (substitution means)
adds-substitution means adds = adds-apart piping (λ old new. unpiped old.streams.to new) with_text means same-turns (λ old new. same-turns new) adds

pub adds-some_command : (is_some : Bool) (means : Means) → Adds means → Adds (some_command is_some means)
adds-some_command false means adds state = grows-self state
adds-some_command true means adds state = adds state

pub adds-staged : (position : Position) (means : Means) → Adds means → Adds (staged position means)
adds-staged position.First means adds state = adds-first_stage means adds state
adds-staged position.Middle means adds state = adds-middle_stage means adds state
adds-staged position.Last means adds state = adds-last_stage means adds state

-- IF AND LOOPS
adds-chosen : (condition body otherwise : Means) → Adds condition → Adds body → Adds otherwise → Adds (chosen condition body otherwise)
adds-chosen condition body otherwise adds_condition adds_body adds_otherwise =
    adds-after condition (λ tested. if succeeded tested then body tested else otherwise tested) adds_condition (adds-choice succeeded body otherwise adds_body adds_otherwise)

pub adds-noted : (body : Means) → Adds body → Adds (λ state. noted (body state))
adds-noted body adds state = adds state

pub adds-tested : (holds : State → Bool) (body : Means) → Adds body → (how : Flow) → Adds (tested_by holds body how)
adds-tested holds body adds flow.On state =
    adds-choice holds (λ state. noted (body state)) (λ state. ends (flow.Break 1) (of_body state)) (adds-noted body adds) (λ state. grows-self state) state
adds-tested holds body adds (flow.Break count) state = grows-self state
adds-tested holds body adds (flow.Continue count) state = by_count (nat_le count 1)
  where
    by_count : (is_this : Bool) → Grows state (if is_this then state else of_body state)
    by_count true = grows-self state
    by_count false = grows-self state
adds-tested holds body adds flow.Exit state = grows-self state
adds-tested holds body adds (flow.Refused cause) state = grows-self state

pub adds-turn : (holds : State → Bool) (condition body : Means) → Adds condition → Adds body → Adds (turn holds condition body)
adds-turn holds condition body adds_condition adds_body state =
    let tested = condition state in
    grows-trans state tested.state (tested_by holds body tested.flow tested.state).state (adds_condition state) (adds-tested holds body adds_body tested.flow tested.state)

pub grows-turn_used : (state : State) → Grows state (in_session turn_used state)
grows-turn_used state = record { output = begins-self state.world.output; errors = begins-self state.world.errors; written = λ path one. one; turns = omega arith }

-- a round, and what comes behind it where it doesn't end the loop
pub adds-round : (start : State) (left : Ends) (again : Means) → Grows start left.state → Adds again
    → Grows start (if goes_round left.flow then again left.state else ends (left_by left.flow) left.state).state
adds-round start left again grows adds =
    grows-trans start left.state (if goes_round left.flow then again left.state else ends (left_by left.flow) left.state).state grows
    (adds-choice (λ state. goes_round left.flow) again (ends (left_by left.flow)) adds (λ state. grows-self state) left.state)

pub adds-turns : (more : ℕ) (round : Means) → Adds round → Adds (turns more round)
adds-turns zero round adds state = grows-self state
adds-turns (suc more) round adds state = by_over (is_over state) (adds-turns more round adds)
  where
    left : Ends
    left = round (in_session turn_used state)

    by_over : (over : Bool) → Adds (turns more round)
        → Grows state (if over then refused refusal.TurnsOver state else (if goes_round left.flow then turns more round left.state else ends (left_by left.flow) left.state)).state
    by_over true again = grows-self state
    by_over false again =
        adds-round state left (turns more round) (grows-trans state (in_session turn_used state) left.state (grows-turn_used state) (adds (in_session turn_used state))) again

pub adds-rounds : (name : List ℕ) (body : Means) → Adds body → (fields : List (List ℕ)) → Adds (rounds (set_to name) body fields)
adds-rounds name body adds [] state = grows-self state
adds-rounds name body adds (field ∷ fields) state = by_over (is_over state) (adds-rounds name body adds fields)
  where
    left : Ends
    left = noted (body (set_to name field (in_session turn_used state)))

    by_over : (over : Bool) → Adds (rounds (set_to name) body fields)
        → Grows state (if over then refused refusal.TurnsOver state else (if goes_round left.flow then rounds (set_to name) body fields left.state else ends (left_by left.flow) left.state)).state
    by_over true again = grows-self state
    by_over false again =
        adds-round state left (rounds (set_to name) body fields)
        (grows-trans state (in_session turn_used state) left.state (grows-turn_used state) (adds-noted body adds (set_to name field (in_session turn_used state)))) again

pub adds-while_holds : (holds : State → Bool) (condition body : Means) → Adds condition → Adds body → Adds (while_holds holds condition body)
adds-while_holds holds condition body adds_condition adds_body state =
    let first = in_shell entered state in
    adds-turns (most_turns - first.session.turns) (turn holds condition body) (adds-turn holds condition body adds_condition adds_body) first

pub adds-for_fields : (name : List ℕ) (body : Means) → Adds body → (fields : List (List ℕ)) → Adds (for_fields name body fields)
adds-for_fields name body adds fields state = adds-rounds name body adds fields (in_shell entered state)

-- WORDS
adds-tells : (line : List ℕ) → Adds (λ state. on (tells line state))
adds-tells line state = grows-write state.session.streams.errors_to line state

pub adds-ends_told : (line : List ℕ) → Adds (ends_told line)
adds-ends_told line state = grows-write state.session.streams.errors_to line state

pub adds-stops_at : (why : ExpandFault) → Adds (stops_at why)
adds-stops_at (fault.Unset name text) state = adds-ends_told (unset_line name text) state
adds-stops_at (fault.Arith why) state = adds-ends_told (arithmetic_line why) state
adds-stops_at fault.ArgsTooMany state = grows-self state
adds-stops_at fault.Failed state = adds-ends_told [] state
adds-stops_at fault.Memory state = adds-ends_told [] state

adds-goes_on_with : {Meaning : Type 0} (next : Meaning → Means) → ((meaning : Meaning) → Adds (next meaning)) → (answer : Answer Meaning) → Adds (goes_on_with next answer)
adds-goes_on_with next adds (Ok meaning, after) state = adds meaning (with_variables after state)
adds-goes_on_with next adds (Err why, after) state = adds-stops_at why (with_variables after state)

module _ (expansions : Expansions) where
  pub adds-with_fields : (words : List WordTree) (next : List (List ℕ) → Means) → ((fields : List (List ℕ)) → Adds (next fields)) → Adds (with_fields expansions words next)
  adds-with_fields list next adds state =
      adds-goes_on_with next adds (told_fields (expansions.fields state.world.files state.world.home (given_by state.shell) state.shell.variables list)) state

  pub adds-with_text : (word : WordTree) (next : List ℕ → Means) → ((text : List ℕ) → Adds (next text)) → Adds (with_text_of expansions word next)
  adds-with_text word next adds state = adds-goes_on_with next adds (told_of (expansions.text (given_by state.shell) state.shell.variables word)) state

  pub adds-with_targets : (redirs : List RedirTree) (next : List Target → Means) → ((targets : List Target) → Adds (next targets)) → Adds (with_targets expansions redirs next)
  adds-with_targets [] next adds = adds []
  adds-with_targets (redir ∷ redirs) next adds =
      adds-with_text redir.word
      (λ text. with_targets expansions redirs (λ targets. next (record { number = redir.number; how = redir.how; text = text } ∷ targets)))
      (λ text. adds-with_targets redirs (λ targets. next (record { number = redir.number; how = redir.how; text = text } ∷ targets)) (λ targets. adds (record { number = redir.number; how = redir.how; text = text } ∷ targets)))

  pub adds-assigning : (assigns : List (List ℕ × WordTree)) (next : Means) → Adds next → Adds (assigning expansions assigns next)
  adds-assigning [] next adds = adds
  adds-assigning (first ∷ rest) next adds =
      adds-with_text first.1 (λ text state. assigning expansions rest next (set_to first.0 text state)) (λ text state. adds-assigning rest next adds (set_to first.0 text state))

-- REDIRECTIONS
adds-unless_busy : (busy : Option (List ℕ)) (next : Means) → Adds next → Adds (unless_busy busy next)
adds-unless_busy None next adds state = adds state
adds-unless_busy (Some text) next adds state = grows-self state

pub adds-where_free : (uses : State → List Use) (next : Means) → Adds next → Adds (λ state. where_free (uses state) next state)
adds-where_free uses next adds state = adds-unless_busy (first_busy state.session.streams.held (uses state)) next adds state

abbrev pub GrowsTo : State → Redirected → Type 0
GrowsTo state (led new) = Grows state new
GrowsTo state (stopped line) = Unit {0}

pub grows-reading : (text : List ℕ) (place : Place) (state : State) → GrowsTo state (reading_at text place state)
grows-reading text place.Missing state = tt
grows-reading text (place.Makeable path) state = tt
grows-reading text (place.Dir path) state = tt
grows-reading text (place.File path) state = grows-self state
grows-reading text place.Null state = grows-self state

grows-leads_to : (number : ℕ) (place : To) (session : Session) → (in_streams (leads_to number place) session).turns ≡ session.turns
grows-leads_to number place session = refl

pub grows-writing : (anew : Bool) (number : ℕ) (text : List ℕ) (place : Place) (state : State) → GrowsTo state (writing_at anew number text place state)
grows-writing anew number text place.Missing state = tt
grows-writing anew number text (place.Makeable path) state = grows-begun anew path state
grows-writing anew number text (place.Dir path) state = tt
grows-writing anew number text (place.File path) state = grows-begun anew path state
grows-writing anew number text place.Null state = grows-self state

pub grows-redirected : (target : Target) (how : How) (place : Place) (state : State) → GrowsTo state (redirected target how place state)
grows-redirected target how.Read place state = grows-reading target.text place state
grows-redirected target how.Write place state = grows-writing true target.number target.text place state
grows-redirected target how.Append place state = grows-writing false target.number target.text place state
grows-redirected target how.Copy place state = grows-self state

adds-goes_on_in : (flow : Flow) (next : Means) → Adds next → (how : Redirected) (state : State) → GrowsTo state how → Grows state (goes_on_in flow next how state).state
adds-goes_on_in flow next adds (led first) state grows = grows-trans state first (next first).state grows (adds first)
adds-goes_on_in flow next adds (stopped line) state grows = grows-write state.session.streams.errors_to line state

pub adds-redirecting : (flow : Flow) (targets : List Target) (next : Means) → Adds next → Adds (redirecting flow targets next)
adds-redirecting flow [] next adds state = adds state
adds-redirecting flow (target ∷ targets) next adds state =
    adds-goes_on_in flow (redirecting flow targets next) (adds-redirecting flow targets next adds) (redirected target target.how (named_by state target.text) state) state
    (grows-redirected target target.how (named_by state target.text) state)

-- what a redirection has written by where it leaves off
pub wrote-more : (how : Redirected) (state : State) → GrowsTo state how → (path : Components) → IsOneOf state.world.written path → IsOneOf (left_off how state).world.written path
wrote-more (led first) state grows path one = grows.written path one
wrote-more (stopped line) state grows path one = one

pub wrote-on : (way : Flow) (next : Means) → Adds next → (how : Redirected) (state : State) (path : Components) → IsOneOf (left_off how state).world.written path
    → IsOneOf (goes_on_in way next how state).state.world.written path
wrote-on way next adds (led first) state path one = (adds first).written path one
wrote-on way next adds (stopped line) state path one = (grows-write state.session.streams.errors_to line state).written path one

-- and what all of them have, whatever goes on
pub written-on : (way : Flow) (targets : List Target) (next : Means) → Adds next → (state : State) (path : Components) → IsOneOf (written_by targets state) path
    → IsOneOf (redirecting way targets next state).state.world.written path
written-on way [] next adds state path = (adds state).written path
written-on way (target ∷ targets) next adds state path =
    by_how (λ first. written-on way targets next adds first path) (redirected target target.how (named_by state target.text) state)
  where
    by_how : ((first : State) → IsOneOf (written_by targets first) path → IsOneOf (redirecting way targets next first).state.world.written path) → (it : Redirected)
        → IsOneOf (goes_on_in flow.On (redirecting flow.On targets on) it state).state.world.written path
        → IsOneOf (goes_on_in way (redirecting way targets next) it state).state.world.written path
    by_how rest (led first) one = rest first one
    by_how rest (stopped line) one = one

pub adds-in_redirections : (flow : Flow) (targets : List Target) (next : Means) → Adds next → Adds (in_redirections flow targets next)
adds-in_redirections flow [] next adds state = adds state
adds-in_redirections flow (target ∷ targets) next adds state = adds-redirecting flow (target ∷ targets) next adds state

-- UTILITIES
grows-if : (start : State) (test : Bool) (first second : State) → Grows start first → Grows start second → Grows start (if test then first else second)
grows-if start true first second grows_first grows_second = grows_first
grows-if start false first second grows_first grows_second = grows_second

grows-reads_to : (start : State) (rest : List ℕ) (state : State) → Grows start state → Grows start (reads_to rest state)
grows-reads_to start rest state grows = grows-trans start state (reads_to rest state) grows (grows-leaving state.session.streams.from rest state)

grows-puts : (start : State) (bytes : List ℕ) (state : State) → Grows start state → Grows start (puts bytes state)
grows-puts start bytes state grows = grows-trans start state (puts bytes state) grows (grows-write state.session.streams.to bytes state)

grows-tells : (start : State) (line : List ℕ) (state : State) → Grows start state → Grows start (tells line state)
grows-tells start line state grows = grows-trans start state (tells line state) grows (grows-write state.session.streams.errors_to line state)

pub grows-tells_some : (start : State) (lines : List ℕ) (state : State) → Grows start state → Grows start (tells_some lines state)
grows-tells_some start [] state grows = grows
grows-tells_some start (byte ∷ bytes) state grows = grows-tells start (byte ∷ bytes) state grows

grows-notes : (start : State) (ran : List Noted) (state : State) → Grows start state → Grows start (in_world (notes ran) state)
grows-notes start ran state grows = record { output = grows.output; errors = grows.errors; written = grows.written; turns = grows.turns }

pub grows-writes : (start : State) (files : List Components) (bytes : List ℕ) (state : State) → Grows start state → Grows start (writes files bytes state)
grows-writes start [] bytes state grows = grows
grows-writes start (path ∷ files) bytes state grows =
    grows-writes start files bytes (write (to.File path) bytes state) (grows-trans start state (write (to.File path) bytes state) grows (grows-write (to.File path) bytes state))

pub adds-takes : (files : List Components) (does : Does) → Adds (takes files does)
adds-takes files does state =
    let taken = taken_in does.reads state in
    let taken_grows = grows-if state does.reads (reads_to [] state) state (grows-reads_to state [] state (grows-self state)) (grows-self state) in
    let noted = in_world (notes (does.ran state)) taken in
    let noted_grows = grows-notes state (does.ran state) taken taken_grows in
    grows-writes state files (does.written state) (puts (does.written state) (leaves (does.status state) noted))
    (grows-puts state (does.written state) (leaves (does.status state) noted) (record { output = noted_grows.output; errors = noted_grows.errors; written = noted_grows.written; turns = noted_grows.turns }))

module _ (pages : Pages) where
  pub adds-takes_inputs : (name : List ℕ) (called : Called) → Adds (takes_inputs pages name called)
  adds-takes_inputs name called state =
      let operands = operands_by called.command in
      let inputs = inputs_in (given_to state (deals called.command) name operands) in
      let taken = taken_in (reads_standard operands) state in
      let taken_grows = grows-if state (reads_standard operands) (reads_to [] state) state (grows-reads_to state [] state (grows-self state)) (grows-self state) in
      let ran = noted_over called.command (words_without (has_none state) called) (length inputs) in
      let noted = in_world (notes ran) taken in
      let noted_grows = grows-notes state ran taken taken_grows in
      let left = leaves (status_of called.command (list_any (has_none state) operands) (pages.selects called.command inputs)) noted in
      grows-puts state (pages.output called.command inputs) left (record { output = noted_grows.output; errors = noted_grows.errors; written = noted_grows.written; turns = noted_grows.turns })

  adds-writes_out : (name : List ℕ) (called : Called) → Adds (writes_out pages name called)
  adds-writes_out name called state =
      let lines = lines_told called.command (given_to state (deals called.command) name (operands_by called.command)) in
      grows-trans state (tells_some lines state) (takes_inputs pages name called (tells_some lines state)).state
      (grows-tells_some state lines state (grows-self state)) (adds-takes_inputs name called (tells_some lines state))

  adds-does_nothing : (name : List ℕ) (called : Called) → Adds (does_nothing pages name called)
  adds-does_nothing name called state =
      grows-tells_some state (lines_told called.command (given_to state (deals called.command) name (operands_by called.command))) state (grows-self state)

  pub adds-runs_utility : (name : List ℕ) (called : Called) → Adds (runs_utility pages name called)
  adds-runs_utility name called state = by_need (needs_all called.command && list_any (has_none state) (operands_by called.command))
    where
      by_need : (needs : Bool) → Grows state (if needs then does_nothing pages name called state else writes_out pages name called state).state
      by_need true = adds-does_nothing name called state
      by_need false = adds-writes_out name called state

-- TEE
pub adds-making_at : (anew : Bool) (name text : List ℕ) (at : Place) (made : Made) (next : Made → Means) → ((made : Made) → Adds (next made)) → Adds (making_at anew name text at made next)
adds-making_at anew name text place.Missing made next adds state = adds (without (diagnostic name text no_such_file) made) state
adds-making_at anew name text (place.Makeable path) made next adds state =
    grows-trans state (in_world (file_begun anew path) state) (next (with_file path made) (in_world (file_begun anew path) state)).state (grows-begun anew path state) (adds (with_file path made) (in_world (file_begun anew path) state))
adds-making_at anew name text (place.Dir path) made next adds state = adds (without (diagnostic name text is_a_directory) made) state
adds-making_at anew name text (place.File path) made next adds state =
    grows-trans state (in_world (file_begun anew path) state) (next (with_file path made) (in_world (file_begun anew path) state)).state (grows-begun anew path state) (adds (with_file path made) (in_world (file_begun anew path) state))
adds-making_at anew name text place.Null made next adds state = adds made state

pub adds-making : (anew : Bool) (name : List ℕ) (texts : List (List ℕ)) (made : Made) (next : Made → Means) → ((made : Made) → Adds (next made)) → Adds (making anew name texts made next)
adds-making anew name [] made next adds state = adds made state
adds-making anew name (text ∷ texts) made next adds state =
    adds-making_at anew name text (named_by state text) made (λ behind. making anew name texts behind next) (λ behind. adds-making anew name texts behind next adds) state

pub adds-copies : (called : Called) (files : List Components) (is_whole : Bool) → Adds (copies called files is_whole)
adds-copies called files is_whole state = adds-takes files (tee_does called (status_by is_whole)) state

pub adds-tells_and_copies : (called : Called) (made : Made) → Adds (tells_and_copies called made)
adds-tells_and_copies called made state =
    grows-trans state (tells_some made.lines state) (copies called made.files made.is_whole (tells_some made.lines state)).state
    (grows-tells_some state made.lines state (grows-self state)) (adds-copies called made.files made.is_whole (tells_some made.lines state))

pub adds-tees : (name : List ℕ) (called : Called) → Adds (tees name called)
adds-tees name called state = adds-making (begins_anew called.command) name (files_by called.command) none_made (tells_and_copies called) (adds-tells_and_copies called) state

-- BUILT-INS
pub adds-misused : (how : Flow) (name : List ℕ) → Adds (misused how name)
adds-misused how name state = grows-write state.session.streams.errors_to (bad_usage name) state

adds-answers : (name : List ℕ) (found : Tested) → Adds (answers name found)
adds-answers name tested.Yes state = grows-self state
adds-answers name tested.No state = grows-self state
adds-answers name tested.BadUsage state = adds-misused flow.On name state

adds-shifts : (name : List ℕ) (count : ℕ) → Adds (shifts name count)
adds-shifts name count state = by_count (nat_le count (length state.shell.arguments))
  where
    by_count : (is_there : Bool) → Grows state (if is_there then sets (drop count state.shell.arguments) state else misused flow.Exit name state).state
    by_count true = grows-self state
    by_count false = adds-misused flow.Exit name state

grows-set_all : (start : State) (names texts : List (List ℕ)) (state : State) → Grows start state → Grows start (set_all names texts state)
grows-set_all start [] texts state grows = grows
grows-set_all start (name ∷ names) [] state grows = grows
grows-set_all start (name ∷ names) (text ∷ texts) state grows = grows-set_all start names texts (set_to name text state) grows

adds-reads : (names : List (List ℕ)) → Adds (reads names)
adds-reads names state =
    let rest = behind_line (to_read state) in
    grows-set_all state names (fields_read (ifs_of state.shell.variables) (line_in (to_read state)) (length names)) (reads_to rest state) (grows-reads_to state rest state (grows-self state))

-- WHAT IS ASKED FOR
abbrev pub AddsAsked : Asked → Type 0
AddsAsked no_name = Unit {0}
AddsAsked (unknown name) = Unit {0}
AddsAsked (unlisted name letter) = Unit {0}
AddsAsked (unusable is_special name) = Unit {0}
AddsAsked (tee name called) = Unit {0}
AddsAsked (utility name called) = Unit {0}
AddsAsked (builtin is_special means) = Adds means

pub does-adds : (name : List ℕ) (given : List (List ℕ)) (asked : Command) → AddsAsked (does name given asked)
does-adds name given command.True = λ state. grows-self state
does-adds name given command.False = λ state. grows-self state
does-adds name given command.Colon = λ state. grows-self state
does-adds name given (command.Break args) = λ state. grows-self state
does-adds name given (command.Continue args) = λ state. grows-self state
does-adds name given (command.Exit args) = λ state. grows-self state
does-adds name given (command.Set args) = λ state. grows-self state
does-adds name given (command.Shift args) = adds-shifts name (unwrap_or args.count 1)
does-adds name given (command.Unset args) = λ state. grows-self state
does-adds name given (command.Read args) = adds-reads args.names
does-adds name given (command.Test args) = λ state. adds-answers name (answered_by (named_by state) args.arguments) state
does-adds name given (command.Bracket args) = λ state. adds-answers name (answered_by (named_by state) args.arguments) state
does-adds name given (command.Echo args) = λ state. grows-write state.session.streams.to (echoed args.operands) state
does-adds name given (command.Cat args) = tt
does-adds name given (command.Grep args) = tt
does-adds name given (command.Tr args) = tt
does-adds name given (command.Cut args) = tt
does-adds name given (command.Head args) = tt
does-adds name given (command.Tail args) = tt
does-adds name given (command.Wc args) = tt
does-adds name given (command.Uniq args) = tt
does-adds name given (command.Sort args) = tt
does-adds name given (command.Paste args) = tt
does-adds name given (command.Tee args) = tt

pub asked_as-adds : (name : List ℕ) (given : List (List ℕ)) (found : Result Command ArgFault) → AddsAsked (asked_as name given found)
asked_as-adds name given (Ok asked) = does-adds name given asked
asked_as-adds name given (Err (arg.UnknownCommand other)) = tt
asked_as-adds name given (Err (arg.UnsupportedFlag other letter)) = tt
asked_as-adds name given (Err (arg.BadUsage other)) = tt
asked_as-adds name given (Err arg.Memory) = tt

pub asked-adds : (given : List (List ℕ)) → AddsAsked (asked_by given)
asked-adds [] = tt
asked-adds (name ∷ given) = asked_as-adds name (name ∷ given) (invocation (name ∷ given))

-- SIMPLE COMMANDS
module _ (expansions : Expansions) where
  pub adds-assigned_for : (stay : Bool) (assigns : List (List ℕ × WordTree)) (next : Means) → Adds next → Adds (assigned_for expansions stay assigns next)
  adds-assigned_for true assigns next adds state = adds-assigning expansions assigns next adds state
  adds-assigned_for false assigns next adds state = adds-assigning expansions assigns next adds state

  adds-done : (is_special : Bool) (assigns : List (List ℕ × WordTree)) (uses : State → List Use) (targets : List Target) (next : Means) → Adds next → Adds (done expansions is_special assigns uses targets next)
  adds-done is_special assigns uses targets next adds =
      adds-where_free (λ state. uses state ++ uses_of state targets) (in_redirections (at_fault is_special) targets (assigned_for expansions is_special assigns next))
      (adds-in_redirections (at_fault is_special) targets (assigned_for expansions is_special assigns next) (adds-assigned_for is_special assigns next adds))

  module _ (pages : Pages) where
    adds-where_few : (operands : List (List ℕ)) (next : Means) → Adds next → Adds (where_few expansions pages operands next)
    adds-where_few operands next adds = adds-choice (λ state. nat_lt most_operands (length operands)) (refused refusal.ArgsTooMany) next (λ state. grows-self state) adds

    pub adds-by_patterns : (name : List ℕ) (called : Called) (assigns : List (List ℕ × WordTree)) (targets : List Target) (patterns : Patterns) → Adds (by_patterns expansions pages name called assigns targets patterns)
    adds-by_patterns name called assigns targets read state =
        adds-where_few (operands_by called.command) (done expansions false assigns (uses_by_operands pages called) targets (runs_utility pages name called))
        (adds-done false assigns (uses_by_operands pages called) targets (runs_utility pages name called) (adds-runs_utility pages name called)) state
    adds-by_patterns name called assigns targets wrong state = adds-done false assigns (λ state. []) targets (misused flow.On name) (adds-misused flow.On name) state
    adds-by_patterns name called assigns targets (refers_back pattern) state = grows-self state

    pub adds-checked : (assigns : List (List ℕ × WordTree)) (targets : List Target) (asked : Asked) → AddsAsked asked → Adds (checked expansions pages assigns targets asked)
    adds-checked assigns targets no_name adds state =
        let bare : Means = assigning expansions assigns (λ state. on (leaves state.shell.substitution_status state)) in
        adds-where_free (λ state. uses_of state targets) (in_redirections flow.On targets bare)
        (adds-in_redirections flow.On targets bare (adds-assigning expansions assigns (λ state. on (leaves state.shell.substitution_status state)) (λ state. grows-self state))) state
    adds-checked assigns targets (unknown name) adds state = grows-self state
    adds-checked assigns targets (unlisted name letter) adds state = grows-self state
    adds-checked assigns targets (unusable is_special name) adds state =
        adds-done is_special assigns (λ state. []) targets (misused (at_fault is_special) name) (adds-misused (at_fault is_special) name) state
    adds-checked assigns targets (tee name called) adds state =
        adds-where_few (files_by called.command) (done expansions false assigns (uses_by_files called) targets (tees name called)) (adds-done false assigns (uses_by_files called) targets (tees name called) (adds-tees name called)) state
    adds-checked assigns targets (utility name called) adds state = adds-by_patterns name called assigns targets (pages.patterns called.command) state
    adds-checked assigns targets (builtin is_special means) adds state = adds-done is_special assigns (λ state. []) targets means adds state

    pub adds-runs_simple : (assigns : List (List ℕ × WordTree)) (words : List WordTree) (redirs : List RedirTree) → Adds (runs_simple expansions pages assigns words redirs)
    adds-runs_simple assigns list redirs =
        adds-with_fields expansions list (λ fields. with_targets expansions redirs (λ targets. checked expansions pages assigns targets (asked_by fields)))
        (λ fields. adds-with_targets expansions redirs (λ targets. checked expansions pages assigns targets (asked_by fields)) (λ targets. adds-checked assigns targets (asked_by fields) (asked-adds fields)))

-- SCRIPTS
adds-holding : (uses : List Use) (means : Means) → Adds means → Adds (λ inner. means (holding uses inner))
adds-holding [] means adds state = adds state
adds-holding (first ∷ uses) means adds state = adds (holding (first ∷ uses) state)

module _ (expansions : Expansions) (pages : Pages) where
  pub adds-held_in : (redirs : List RedirTree) (means : Means) → Adds means → Adds (held_in expansions pages redirs means)
  adds-held_in redirs means adds =
      adds-with_targets expansions redirs
      (λ targets state. where_free (uses_of state targets) (in_redirections flow.On targets (λ inner. means (holding (uses_of state targets) inner))) state)
      (λ targets state. adds-unless_busy (first_busy state.session.streams.held (uses_of state targets)) (in_redirections flow.On targets (λ inner. means (holding (uses_of state targets) inner)))
      (adds-in_redirections flow.On targets (λ inner. means (holding (uses_of state targets) inner)) (adds-holding (uses_of state targets) means adds)) state)

  adds-behind : (subs next : Means) → Adds subs → Adds next → Adds (λ state. after (subs (in_shell none_substituted state)) next)
  adds-behind subs next adds_subs adds_next state = grows-after state (subs (in_shell none_substituted state)) next (adds_subs (in_shell none_substituted state)) adds_next

  mutual
    pub list-adds : (tree : ListTree) → Adds (list_means expansions pages tree)
    list-adds no_item state = grows-self state
    list-adds (item first rest) state = adds-after (and_or_means expansions pages first) (list_means expansions pages rest) (and_or-adds first) (list-adds rest) state

    pub and_or-adds : (tree : AndOrTree) → Adds (and_or_means expansions pages tree)
    and_or-adds (and_or first rest) state = adds-after (pipeline_means expansions pages first) (joined_means expansions pages rest) (pipeline-adds first) (joined-adds rest) state

    pub joined-adds : (tree : JoinedTrees) → Adds (joined_means expansions pages tree)
    joined-adds none_joined state = grows-self state
    joined-adds (joined join next rest) state =
        adds-after (joined_by join (pipeline_means expansions pages next)) (joined_means expansions pages rest)
        (adds-joined_by join (pipeline_means expansions pages next) (pipeline-adds next)) (joined-adds rest) state

    pub pipeline-adds : (tree : PipelineTree) → Adds (pipeline_means expansions pages tree)
    pipeline-adds (pipeline is stages) state = adds-after (stages_means expansions pages stages) (negated is) (stages-adds stages) (adds-negated is) state

    pub stages-adds : (tree : CommandTrees) → Adds (stages_means expansions pages tree)
    stages-adds no_command state = grows-self state
    stages-adds (command only no_command) state = command-adds only state
    stages-adds (command first (command second more)) state =
        adds-after (first_stage (command_means expansions pages first)) (later_stages_mean expansions pages (command second more))
        (adds-first_stage (command_means expansions pages first) (command-adds first)) (later-adds (command second more)) state

    pub later-adds : (tree : CommandTrees) → Adds (later_stages_mean expansions pages tree)
    later-adds no_command state = grows-self state
    later-adds (command last no_command) state = adds-last_stage (command_means expansions pages last) (command-adds last) state
    later-adds (command stage (command next more)) state =
        adds-after (middle_stage (command_means expansions pages stage)) (later_stages_mean expansions pages (command next more))
        (adds-middle_stage (command_means expansions pages stage) (command-adds stage)) (later-adds (command next more)) state

    pub command-adds : (tree : CommandTree) → Adds (command_means expansions pages tree)
    command-adds (simple it) state = simple-adds it state
    command-adds (group list behind) state = tail-adds behind (list_means expansions pages list) (list-adds list) state
    command-adds (subshell_tree list behind) state =
        tail-adds behind (subshell (list_means expansions pages list)) (adds-subshell (list_means expansions pages list) (list-adds list)) state
    command-adds (if_branches branches otherwise behind) state =
        tail-adds behind (branches_mean expansions pages branches (else_means expansions pages otherwise))
        (branches-adds branches (else_means expansions pages otherwise) (else-adds otherwise)) state
    command-adds (while_loop condition body behind) state =
        tail-adds behind (while_holds succeeded (list_means expansions pages condition) (list_means expansions pages body))
        (adds-while_holds succeeded (list_means expansions pages condition) (list_means expansions pages body) (list-adds condition) (list-adds body)) state
    command-adds (until_loop condition body behind) state =
        tail-adds behind (while_holds failed (list_means expansions pages condition) (list_means expansions pages body))
        (adds-while_holds failed (list_means expansions pages condition) (list_means expansions pages body) (list-adds condition) (list-adds body)) state
    command-adds (for_loop name fields body behind) state =
        tail-adds behind (in_means expansions pages fields (for_fields name (list_means expansions pages body)))
        (in-adds fields (for_fields name (list_means expansions pages body)) (adds-for_fields name (list_means expansions pages body) (list-adds body))) state

    pub branches-adds : (tree : BranchTrees) (otherwise : Means) → Adds otherwise → Adds (branches_mean expansions pages tree otherwise)
    branches-adds no_branch otherwise adds state = adds state
    branches-adds (branch condition body rest) otherwise adds state =
        adds-chosen (list_means expansions pages condition) (list_means expansions pages body) (branches_mean expansions pages rest otherwise)
        (list-adds condition) (list-adds body) (branches-adds rest otherwise adds) state

    pub else-adds : (tree : ElseTree) → Adds (else_means expansions pages tree)
    else-adds no_else state = grows-self state
    else-adds (else_list list) state = list-adds list state

    pub simple-adds : (tree : SimpleTree) → Adds (simple_means expansions pages tree)
    simple-adds (simple_command assigns fields redirs subs) state =
        adds-behind (subs_mean expansions pages subs) (runs_simple expansions pages assigns fields redirs) (subs-adds subs)
        (adds-runs_simple expansions pages assigns fields redirs) state

    pub in-adds : (tree : InTree) (loop : List (List ℕ) → Means) → ((fields : List (List ℕ)) → Adds (loop fields)) → Adds (in_means expansions pages tree loop)
    in-adds no_in loop adds state = adds state.shell.arguments state
    in-adds (in_words list) loop adds state = words-adds list loop adds state

    pub words-adds : (tree : WordsTree) (loop : List (List ℕ) → Means) → ((fields : List (List ℕ)) → Adds (loop fields)) → Adds (words_mean expansions pages tree loop)
    words-adds (words list subs) loop adds state =
        adds-behind (subs_mean expansions pages subs) (with_fields expansions list loop) (subs-adds subs) (adds-with_fields expansions list loop adds) state

    pub tail-adds : (tree : TailTree) (means : Means) → Adds means → Adds (tail_means expansions pages tree means)
    tail-adds (tail redirs subs) means adds state =
        adds-behind (subs_mean expansions pages subs) (held_in expansions pages redirs means) (subs-adds subs) (adds-held_in redirs means adds) state

    pub subs-adds : (tree : SubTrees) → Adds (subs_mean expansions pages tree)
    subs-adds no_sub state = grows-self state
    subs-adds (sub list rest) state =
        adds-after (substitution (some_command (has_item list) (list_means expansions pages list))) (subs_mean expansions pages rest)
        (adds-substitution (some_command (has_item list) (list_means expansions pages list))
        (adds-some_command (has_item list) (list_means expansions pages list) (list-adds list))) (subs-adds rest) state

  pub script-adds : (tree : ScriptTree) → Adds (script_means expansions pages tree)
  script-adds None state = grows-self state
  script-adds (Some list) state = list-adds list state

pub ruleset adds_laws = (script-adds)
