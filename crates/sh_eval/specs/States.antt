-- What a script's meaning goes through (XCU 2.12): the shell that a command runs in, and what it shares with the shells around it.
use Rattle.std.specs.Prelude.{ℕ, zero, suc, List, [], ◌∷◌, ◌++◌, length, take, ◌-◌, get_or}
use Rattle.std.specs.FinMap as map
use Rattle.ps_world.specs.Paths.{Components}
use Rattle.ps_world.specs.Files.{Files, Bytes, bytes_at}
use Rattle.fl_segments.specs.Noted.{Noted}
use Rattle.sh_eval.specs.declared.flows.Flow.{Flow}
use Rattle.sh_eval.specs.declared.flows.Flow.TheVariants as flow
use Rattle.sh_eval.specs.declared.refusals.Refusal.{Refusal}
use Rattle.sh_eval.specs.declared.streams.To.{To}
use Rattle.sh_eval.specs.declared.streams.To.TheVariants as to
use Rattle.sh_eval.specs.declared.streams.From.{From}
use Rattle.sh_eval.specs.declared.streams.From.TheVariants as from
use Rattle.sh_eval.specs.declared.streams.Streams.{Streams}
use Rattle.sh_eval.specs.declared.session.Session.{Session}
use Rattle.sh_eval.specs.declared.shell.Shell.{Shell}
use Rattle.sh_eval.specs.Shells.{with_status}

-- what a run has of the outside: the working directory, files, the paths at which a file was begun or written, what is left of the standard
-- input, what was written to the standard output and error, and the utilities that ran
pub record World : Type 0 where
  pub home : Components
  pub files : Files
  pub written : List Components
  pub input : List ℕ
  pub output : List ℕ
  pub errors : List ℕ
  pub ran : List Noted

-- the shell's own, what it shares with the shells around it, and the outside
pub record State : Type 0 where
  pub shell : Shell
  pub session : Session
  pub world : World

-- how a command goes on, and the state that it leaves
pub record Ends : Type 0 where
  pub flow : Flow
  pub state : State

-- what a command means: what it makes of a state
abbrev pub Means : Type 0
Means = State → Ends

abbrev pub ends : Flow → State → Ends
ends how state = record { flow = how; state = state }

abbrev pub on : Means
on state = ends flow.On state

-- the run ends here
abbrev pub refused : Refusal → Means
refused cause state = ends (flow.Refused cause) state

-- the next command runs where the first goes on to it
abbrev pub followed_by : Means → Flow → Means
followed_by next flow.On state = next state
followed_by next (flow.Break count) state = ends (flow.Break count) state
followed_by next (flow.Continue count) state = ends (flow.Continue count) state
followed_by next flow.Exit state = ends flow.Exit state
followed_by next (flow.Refused cause) state = refused cause state

abbrev pub after : Ends → Means → Ends
after left next = followed_by next left.flow left.state

-- the state with a part of it changed
abbrev pub in_shell : (Shell → Shell) → State → State
in_shell change state = record { shell = change state.shell; session = state.session; world = state.world }

abbrev pub in_session : (Session → Session) → State → State
in_session change state = record { shell = state.shell; session = change state.session; world = state.world }

abbrev pub in_world : (World → World) → State → State
in_world change state = record { shell = state.shell; session = state.session; world = change state.world }

abbrev pub in_streams : (Streams → Streams) → Session → Session
in_streams change session = record session { streams = change session.streams }

-- `$?` is this
abbrev pub leaves : ℕ → State → State
leaves status state = in_shell (with_status status) state

-- the text at this place is longer by these bytes
abbrev pub grown_at : ℕ → List ℕ → List (List ℕ) → List (List ℕ)
grown_at place bytes [] = []
grown_at zero bytes (text ∷ texts) = (text ++ bytes) ∷ texts
grown_at (suc place) bytes (text ∷ texts) = text ∷ grown_at place bytes texts

-- a file of these bytes is at the path
abbrev pub with_file_at : Components → List ℕ → World → World
with_file_at path bytes world = record world { files = map.insert world.files path (Bytes bytes); written = path ∷ world.written }

-- the bytes are written to where a descriptor leads
abbrev pub write : To → List ℕ → State → State
write to.Output bytes state = in_world (λ world. record world { output = world.output ++ bytes }) state
write to.Errors bytes state = in_world (λ world. record world { errors = world.errors ++ bytes }) state
write (to.Pipe number) bytes state = in_session (λ session. record session { pipes = grown_at number bytes session.pipes }) state
write (to.File path) bytes state = in_world (λ world. with_file_at path (bytes_at world.files path ++ bytes) world) state
write to.Null bytes state = state

-- a command's output, and its diagnostics
abbrev pub puts : List ℕ → State → State
puts bytes state = write state.session.streams.to bytes state

abbrev pub tells : List ℕ → State → State
tells line state = write state.session.streams.errors_to line state

-- what descriptor 0 still gives
abbrev pub left_in : From → World → List ℕ
left_in from.Standard world = world.input
left_in (from.Kept text) world = text

abbrev pub to_read : State → List ℕ
to_read state = left_in state.session.streams.from state.world

-- and that this is left of it
abbrev pub reading : From → Session → Session
reading source session = in_streams (λ streams. record streams { from = source }) session

abbrev pub leaving : From → List ℕ → State → State
leaving from.Standard rest state = in_world (λ world. record world { input = rest }) state
leaving (from.Kept text) rest state = in_session (reading (from.Kept rest)) state

abbrev pub reads_to : List ℕ → State → State
reads_to rest state = leaving state.session.streams.from rest state

-- where the output goes
abbrev pub putting : To → Session → Session
putting place session = in_streams (λ streams. record streams { to = place }) session

-- a pipe is opened inside all others, and is where the output goes
abbrev pub piping : Session → Session
piping session = putting (to.Pipe (length session.pipes)) (record session { pipes = session.pipes ++ [] ∷ [] })

-- what the innermost pipe has taken in
abbrev pub innermost : Session → List ℕ
innermost session = get_or session.pipes (length session.pipes - 1) []

-- the innermost pipe is closed, and the output goes where it went
abbrev pub unpiped : To → Session → Session
unpiped place session = putting place (record session { pipes = take (length session.pipes - 1) session.pipes })
