-- The forms of command (XCU 2.9), each over the meanings of the commands in it.
use Rattle.std.specs.Prelude.{ℕ, zero, suc, ◌+◌, ◌-◌, ◌==◌, nat_le, List, [], ◌∷◌, ◌++◌, Bool, true, false, not, if◌then◌else◌}
use Rattle.std.specs.FinMap as map
use Rattle.sh_tree.specs.declared.commands.Join.{Join}
use Rattle.sh_tree.specs.declared.commands.Join.TheVariants as join
use Rattle.sh_eval.specs.declared.flows.Flow.{Flow}
use Rattle.sh_eval.specs.declared.flows.Flow.TheVariants as flow
use Rattle.sh_eval.specs.declared.outcomes.Position.{Position}
use Rattle.sh_eval.specs.declared.outcomes.Position.TheVariants as position
use Rattle.sh_eval.specs.declared.refusals.Refusal.TheVariants as refusal
use Rattle.sh_eval.specs.declared.shell.Shell.{Shell}
use Rattle.sh_eval.specs.Shells.{inside, with_status}
use Rattle.sh_eval.specs.declared.streams.From.TheVariants as from
use Rattle.sh_eval.specs.declared.session.Session.{Session}
use Rattle.sh_eval.specs.States.{State, Ends, Means, ends, on, refused, after, in_shell, in_session, leaves, reading, piping, innermost, unpiped}
use Rattle.sh_eval.specs.Newlines.{without_newlines}

-- the most turns of a run
abbrev pub most_turns : ℕ
most_turns = 1000000

-- 0 is success (XCU 2.8.2)
abbrev pub succeeded : State → Bool
succeeded state = state.shell.status == 0

-- LISTS (XCU 2.9.3). The next pipeline runs behind `&&` where the last status is 0, and behind `||` where it isn't
abbrev pub goes_on_behind : Join → ℕ → Bool
goes_on_behind join.And status = status == 0
goes_on_behind join.Or status = not (status == 0)

abbrev pub joined_by : Join → Means → Means
joined_by how next state = if goes_on_behind how state.shell.status then next state else on state

-- PIPELINES (XCU 2.9.2). `!` makes 0 into 1, and every other status into 0
abbrev pub negated_status : Bool → ℕ → ℕ
negated_status false status = status
negated_status true status = if status == 0 then 1 else 0

abbrev pub negated : Bool → Means
negated is state = on (leaves (negated_status is state.shell.status) state)

-- a subshell ends alone: only a refusal ends the shell around it too
abbrev pub settled : Flow → Flow
settled flow.On = flow.On
settled (flow.Break count) = flow.On
settled (flow.Continue count) = flow.On
settled flow.Exit = flow.On
settled (flow.Refused cause) = flow.Refused cause

-- SUBSHELLS (XCU 2.12): a copy of the shell runs the command in the session that `enter` makes; of its end the shell around takes over what
-- `takes_over` says, and `leave` makes the session as it goes on
abbrev pub apart : (Session → Session) → (Session → Session → Session) → (Shell → Shell → Session → Shell) → Means → Means
apart enter leave takes_over means state =
    let left = means (record { shell = inside state.shell; session = enter state.session; world = state.world }) in
    record {
      flow = settled left.flow;
      state =
          record {
            shell = takes_over state.shell left.state.shell left.state.session;
            session = leave state.session left.state.session;
            world = left.state.world;
          };
    }

-- `( list )`: the status is that of the subshell
abbrev pub its_status : Shell → Shell → Session → Shell
its_status shell inner session = with_status inner.status shell

abbrev pub subshell : Means → Means
subshell means state = apart (λ session. session) (λ old new. new) its_status means state

-- A stage reads what the stage before it has written, and all but the last write into a pipe. Each has a shell of its own, and the last
-- one's status is that of the pipeline. The first reads what the shell reads
abbrev pub reading_piped : Session → Session
reading_piped session = reading (from.Kept session.piped) (record session { piped = [] })

-- the pipe is closed, and holds what the next stage reads
abbrev pub handed_on : Session → Session → Session
handed_on old new = unpiped old.streams.to (record new { piped = innermost new })

abbrev pub unchanged : Shell → Shell → Session → Shell
unchanged shell inner session = shell

abbrev pub first_stage : Means → Means
first_stage means state = apart piping handed_on unchanged means state

abbrev pub middle_stage : Means → Means
middle_stage means state = apart (λ session. piping (reading_piped session)) (λ old new. reading old.streams.from (handed_on old new)) unchanged means state

abbrev pub last_stage : Means → Means
last_stage means state = apart reading_piped (λ old new. reading old.streams.from new) its_status means state

-- the place of stages among several, by how many stand before them and behind them
abbrev pub position_at : ℕ → ℕ → Position
position_at zero behind = position.First
position_at (suc before) zero = position.Last
position_at (suc before) (suc behind) = position.Middle

abbrev pub staged : Position → Means → Means
staged position.First means state = first_stage means state
staged position.Middle means state = middle_stage means state
staged position.Last means state = last_stage means state

-- COMMAND SUBSTITUTIONS (XCU 2.6.3): the output of a subshell without the newlines at its end
abbrev pub with_kept : List ℕ → ℕ → Shell → Shell
with_kept text status shell =
    record shell { substituted = shell.substituted ++ without_newlines text ∷ []; substitution_status = status }

abbrev pub with_text : Shell → Shell → Session → Shell
with_text shell inner session = with_kept (innermost session) inner.status shell

abbrev pub substitution : Means → Means
substitution means state = apart piping (λ old new. unpiped old.streams.to new) with_text means state

-- one without a command succeeds (own)
abbrev pub some_command : Bool → Means → Means
some_command false means state = on (leaves 0 state)
some_command true means state = means state

-- the command before has none left
abbrev pub none_substituted : Shell → Shell
none_substituted shell = record shell { substituted = []; substitution_status = 0 }

-- IF (XCU 2.9.4): its status is 0 where no branch runs
abbrev pub chosen : Means → Means → Means → Means
chosen condition body otherwise state = after (condition state) (λ tested. if succeeded tested then body tested else otherwise tested)

abbrev pub no_branch_runs : Means
no_branch_runs state = on (leaves 0 state)

-- a variable has this text
abbrev pub set_to : List ℕ → List ℕ → State → State
set_to name text state = in_shell (λ shell. record shell { variables = map.insert shell.variables name text }) state

-- LOOPS (XCU 2.9.4, break, continue). The loop goes on behind a round, or ends
abbrev pub goes_round : Flow → Bool
goes_round flow.On = true
goes_round (flow.Break count) = false
goes_round (flow.Continue count) = nat_le count 1
goes_round flow.Exit = false
goes_round (flow.Refused cause) = false

-- how the command behind the loop goes on, where a round ends the loop
abbrev pub one_out : (ℕ → Flow) → ℕ → Flow
one_out further zero = flow.On
one_out further (suc zero) = flow.On
one_out further (suc (suc count)) = further (suc count)

abbrev pub left_by : Flow → Flow
left_by flow.On = flow.On
left_by (flow.Break count) = one_out (λ count. flow.Break count) count
left_by (flow.Continue count) = one_out (λ count. flow.Continue count) count
left_by flow.Exit = flow.Exit
left_by (flow.Refused cause) = flow.Refused cause

-- a turn is used: a test of a condition, or a round of a `for` (own)
abbrev pub turn_used : Session → Session
turn_used session = record session { turns = session.turns + 1 }

-- the status of a body is kept: it is that of the loop if no other body runs
abbrev pub body_ran : Shell → Shell
body_ran shell = record shell { body_status = shell.status }

abbrev pub kept_by : Flow → Shell → Shell
kept_by flow.On shell = body_ran shell
kept_by (flow.Break count) shell = body_ran shell
kept_by (flow.Continue count) shell = body_ran shell
kept_by flow.Exit shell = shell
kept_by (flow.Refused cause) shell = shell

abbrev pub noted : Ends → Ends
noted left = ends left.flow (in_shell (kept_by left.flow) left.state)

-- the status of the loop: that of its last body
abbrev pub of_body : State → State
of_body state = leaves state.shell.body_status state

-- behind the condition's list, which stands inside the loop: the loop ends where the condition doesn't hold, and where a `break` or an
-- outer `continue` leaves it
abbrev pub tested_by : (State → Bool) → Means → Flow → Means
tested_by holds body flow.On state = if holds state then noted (body state) else ends (flow.Break 1) (of_body state)
tested_by holds body (flow.Break count) state = ends (flow.Break count) (of_body state)
tested_by holds body (flow.Continue count) state = ends (flow.Continue count) (if nat_le count 1 then state else of_body state)
tested_by holds body flow.Exit state = ends flow.Exit state
tested_by holds body (flow.Refused cause) state = refused cause state

-- one turn of a `while`, where the condition holds if it succeeds, or of an `until`, where it holds if it fails
abbrev pub turn : (State → Bool) → Means → Means → Means
turn holds condition body state = let tested = condition state in tested_by holds body tested.flow tested.state

abbrev pub failed : State → Bool
failed state = not (succeeded state)

-- all turns that a run may have are used
abbrev pub is_over : State → Bool
is_over state = nat_le most_turns state.session.turns

-- turns until one of them ends the loop; so many more may begin
abbrev pub turns : ℕ → Means → Means
turns zero round state = refused refusal.TurnsOver state
turns (suc more) round state =
    if is_over state then refused refusal.TurnsOver state
    else (let left = round (in_session turn_used state) in if goes_round left.flow then turns more round left.state else ends (left_by left.flow) left.state)

-- as many as the run has left
abbrev pub all_turns : Means → Means
all_turns round state = turns (most_turns - state.session.turns) round state

-- rounds of a `for`, one a field, which the name has in it
abbrev pub rounds : (List ℕ → State → State) → Means → List (List ℕ) → Means
rounds named body [] state = on (of_body state)
rounds named body (field ∷ fields) state =
    if is_over state then refused refusal.TurnsOver state
    else (let left = noted (body (named field (in_session turn_used state))) in if goes_round left.flow then rounds named body fields left.state else ends (left_by left.flow) left.state)

-- a loop around what stands in it
abbrev pub entered : Shell → Shell
entered shell = record shell { loops = shell.loops + 1; body_status = 0 }

abbrev pub restored : Shell → Shell → Shell
restored old shell = record shell { loops = old.loops; body_status = old.body_status }

abbrev pub in_loop : Means → Means
in_loop means state = let left = means (in_shell entered state) in ends left.flow (in_shell (restored state.shell) left.state)

-- `while` and `until`
abbrev pub while_holds : (State → Bool) → Means → Means → Means
while_holds holds condition body state = in_loop (all_turns (turn holds condition body)) state

-- `for`
abbrev pub for_fields : List ℕ → Means → List (List ℕ) → Means
for_fields name body fields state = in_loop (rounds (set_to name) body fields) state
