-- Utilities of a pipeline that run as one (own): all that is told of their operands comes first, and then each reads the whole output of the one
-- before. As stages, one after the other, they mean the same, since a utility tells nothing once it runs.
use Rattle.std.specs.Prelude.{ℕ, List, [], ◌∷◌, ◌++◌, Bool, true, false, get_or, length}
use Rattle.std.specs.List.{flat_map, list_any}
use Rattle.ut_args.specs.Inputs.{operands_by}
use Rattle.ut_streams.specs.Utilities.{Input}
use Rattle.fl_segments.specs.Noted.{Noted}
use Rattle.fl_commands.specs.Inputs.{noted_over, status_of}
use Rattle.sh_eval.specs.declared.session.Session.{Session}
use Rattle.sh_eval.specs.declared.streams.From.TheVariants as from
use Rattle.sh_eval.specs.declared.streams.To.{To}
use Rattle.sh_eval.specs.declared.streams.To.TheVariants as to
use Rattle.sh_eval.specs.States.{State, Means, in_session, in_world, leaves, on, puts, reading, to_read}
use Rattle.sh_eval.specs.Utilities.{Called, Given, Pages, deals, given_to, has_none, inputs_in, lines_told, notes, reads_standard, runs_utility, taken_in, tells_some, words_without}

-- the name of a utility is the first of its words
abbrev pub name_of : Called → List ℕ
name_of called = get_or called.words 0 []

-- what its operands give
abbrev pub given_for : State → Called → List Given
given_for state member = given_to state (deals member.command) (name_of member) (operands_by member.command)

-- its inputs, where the stream that it reads has this text
abbrev pub inputs_fed : State → Called → List ℕ → List Input
inputs_fed state member text = inputs_in (given_for (in_session (reading (from.Kept text)) state) member)

-- what is noted of it
abbrev pub ran_of : State → Called → List Noted
ran_of state member = noted_over member.command (words_without (has_none state) member) (length (inputs_in (given_for state member)))

-- the lines of operands without an input
abbrev pub lines_for : State → Called → List ℕ
lines_for state member = lines_told member.command (given_for state member)

-- the first reads the standard input
abbrev pub reads_first : List Called → Bool
reads_first [] = false
reads_first (first ∷ rest) = reads_standard (operands_by first.command)

abbrev pub no_pipe : Session → Session
no_pipe session = record session { piped = [] }

-- what is told goes to the output or errors of the run, or nowhere
abbrev pub is_plain_place : To → Bool
is_plain_place to.Output = true
is_plain_place to.Errors = true
is_plain_place (to.Pipe number) = false
is_plain_place (to.File path) = false
is_plain_place to.Null = true

module _ (pages : Pages) where
  abbrev pub member_means : Called → Means
  member_means member state = runs_utility pages (name_of member) member state

  -- AS ONE
  abbrev pub written_by : State → Called → List ℕ → List ℕ
  written_by state member text = pages.output member.command (inputs_fed state member text)

  -- what the last writes, where the first reads this text
  abbrev pub text_through : State → List Called → List ℕ → List ℕ
  text_through state [] text = text
  text_through state (member ∷ rest) text = text_through state rest (written_by state member text)

  abbrev pub status_for : State → Called → List ℕ → ℕ
  status_for state member text =
      status_of member.command (list_any (has_none state) (operands_by member.command)) (pages.selects member.command (inputs_fed state member text))

  -- the status is that of the last
  abbrev pub status_through : State → List Called → List ℕ → ℕ
  status_through state [] text = 0
  status_through state (last ∷ []) text = status_for state last text
  status_through state (member ∷ next ∷ rest) text = status_through state (next ∷ rest) (written_by state member text)

  -- their inputs are taken, a status is left, and the last one's output is written
  abbrev pub takes_through : List Called → Means
  takes_through members state =
      on (puts (text_through state members (to_read state))
      (leaves (status_through state members (to_read state))
      (in_world (notes (flat_map (ran_of state) members)) (taken_in (reads_first members) state))))

  abbrev pub runs_through : List Called → Means
  runs_through members state = takes_through members (tells_some (flat_map (lines_for state) members) state)
