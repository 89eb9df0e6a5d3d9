-- Redirections (XCU 2.7), and paths that are busy (own).
use Rattle.std.specs.Prelude.{ℕ, List, [], ◌∷◌, ◌++◌, Bool, true, false, ◌&&◌, ◌||◌, ◌==◌, Option, Some, None, nat_eq, codes, if◌then◌else◌}
use Rattle.std.specs.List.{list_any}
use Rattle.std.specs.Cmp.Lexicographic.{pointwise}
use Rattle.ps_world.specs.Paths.{Components}
use Rattle.ps_world.specs.Files.{bytes_at}
use Rattle.ps_world.specs.Places.{resolve}
use Rattle.ps_world.specs.declared.places.Place.{Place}
use Rattle.ps_world.specs.declared.places.Place.TheVariants as place
use Rattle.sh_tree.specs.declared.commands.How.{How}
use Rattle.sh_tree.specs.declared.commands.How.TheVariants as how
use Rattle.sh_eval.specs.declared.flows.Flow.{Flow}
use Rattle.sh_eval.specs.declared.streams.To.{To}
use Rattle.sh_eval.specs.declared.streams.To.TheVariants as to
use Rattle.sh_eval.specs.declared.refusals.Refusal.TheVariants as refusal
use Rattle.sh_eval.specs.declared.streams.From.TheVariants as from
use Rattle.sh_eval.specs.declared.streams.Held.{Held}
use Rattle.sh_eval.specs.declared.streams.Streams.{Streams}
use Rattle.sh_eval.specs.States.{World, State, Ends, Means, ends, refused, in_session, in_world, in_streams, leaves, tells, with_file_at}
use Rattle.sh_eval.specs.Lines.{diagnostic, no_such_file, is_a_directory}
use Rattle.sh_eval.specs.Targets.{Target}
pub use Rattle.sh_eval.specs.declared.busy.Use.{Use}

-- what a path as written names
abbrev pub named_by : State → List ℕ → Place
named_by state text = resolve state.world.files state.world.home text

-- PATHS THAT ARE BUSY. A command uses a path: it reads or writes it

-- the path of a place, whether or not a file is there
abbrev pub path_at : Place → Option Components
path_at place.Missing = None
path_at (place.Makeable path) = Some path
path_at (place.Dir path) = Some path
path_at (place.File path) = Some path
path_at place.Null = None

-- both are at the path, and one of them writes it
abbrev pub clashes : Bool → Components → Bool → Option Components → Bool
clashes writes path also None = false
clashes writes path also (Some other) = pointwise (pointwise nat_eq) path other && (writes || also)

-- the path is held by an enclosing redirection, or used again by the command itself
abbrev pub is_busy : List Held → List Use → Bool → Option Components → Bool
is_busy held uses writes None = false
is_busy held uses writes (Some path) =
    list_any (λ other. clashes writes path other.writes (Some other.path)) held || list_any (λ other. clashes writes path other.writes (path_at other.place)) uses

-- the first use whose path is busy, as written
abbrev pub first_busy : List Held → List Use → Option (List ℕ)
first_busy held [] = None
first_busy held (first ∷ uses) = if is_busy held uses first.writes (path_at first.place) then Some first.text else first_busy held uses

-- what redirections use
abbrev pub writes_by : How → Option Bool
writes_by how.Read = Some false
writes_by how.Write = Some true
writes_by how.Append = Some true
writes_by how.Copy = None

abbrev pub uses_by : State → Target → Option Bool → List Use
uses_by state target None = []
uses_by state target (Some writes) = record { text = target.text; place = named_by state target.text; writes = writes } ∷ []

abbrev pub uses_of : State → List Target → List Use
uses_of state [] = []
uses_of state (target ∷ targets) = uses_by state target (writes_by target.how) ++ uses_of state targets

-- the command runs where no path of its uses is busy
abbrev pub unless_busy : Option (List ℕ) → Means → Means
unless_busy None next state = next state
unless_busy (Some text) next state = refused (refusal.PathBusy text) state

abbrev pub where_free : List Use → Means → Means
where_free uses next state = unless_busy (first_busy state.session.streams.held uses) next state

-- REDIRECTIONS. One of them is done, or stops at a line
pub data Redirected : Type 0 where
  led : State → Redirected
  stopped : List ℕ → Redirected

-- the descriptor leads there
abbrev pub leads_to : ℕ → To → Streams → Streams
leads_to number place streams = if number == 2 then record streams { errors_to = place } else record streams { to = place }

-- what a descriptor leads to
abbrev pub led_to : List ℕ → Streams → To
led_to text streams = if pointwise nat_eq text (codes "2") then streams.errors_to else streams.to

abbrev pub missing : List ℕ → Redirected
missing text = stopped (diagnostic (codes "pash") text no_such_file)

abbrev pub directory : List ℕ → Redirected
directory text = stopped (diagnostic (codes "pash") text is_a_directory)

-- a file's bytes are read
abbrev pub read_from : List ℕ → State → Redirected
read_from text state = led (in_session (in_streams (λ streams. record streams { from = from.Kept text })) state)

abbrev pub reading_at : List ℕ → Place → State → Redirected
reading_at text place.Missing state = missing text
reading_at text (place.Makeable path) state = missing text
reading_at text (place.Dir path) state = directory text
reading_at text (place.File path) state = read_from (bytes_at state.world.files path) state
reading_at text place.Null state = read_from [] state

-- a file is written: anew, or behind the bytes that it has
abbrev pub file_begun : Bool → Components → World → World
file_begun anew path world = with_file_at path (if anew then [] else bytes_at world.files path) world

abbrev pub leading : ℕ → To → State → Redirected
leading number place state = led (in_session (in_streams (leads_to number place)) state)

abbrev pub writing_at : Bool → ℕ → List ℕ → Place → State → Redirected
writing_at anew number text place.Missing state = missing text
writing_at anew number text (place.Makeable path) state = leading number (to.File path) (in_world (file_begun anew path) state)
writing_at anew number text (place.Dir path) state = directory text
writing_at anew number text (place.File path) state = leading number (to.File path) (in_world (file_begun anew path) state)
writing_at anew number text place.Null state = leading number to.Null state

abbrev pub redirected : Target → How → Place → State → Redirected
redirected target how.Read place state = reading_at target.text place state
redirected target how.Write place state = writing_at true target.number target.text place state
redirected target how.Append place state = writing_at false target.number target.text place state
redirected target how.Copy place state = leading target.number (led_to target.text state.session.streams) state

-- one after the other; at the first that stops its line is told, and the command is skipped with status 1 (XCU 2.8.1)
abbrev pub skipped : Flow → List ℕ → Means
skipped flow line state = ends flow (leaves 1 (tells line state))

abbrev pub goes_on_in : Flow → Means → Redirected → Means
goes_on_in flow next (led first) state = next first
goes_on_in flow next (stopped line) state = skipped flow line state

abbrev pub redirecting : Flow → List Target → Means → Means
redirecting flow [] next state = next state
redirecting flow (target ∷ targets) next state =
    goes_on_in flow (redirecting flow targets next) (redirected target target.how (named_by state target.text) state) state

-- behind the command the descriptors lead where they led. What it has read of the shell's own input stays read
abbrev pub is_read : How → Bool
is_read how.Read = true
is_read how.Write = false
is_read how.Append = false
is_read how.Copy = false

abbrev pub led_back : List Target → Streams → Streams → Streams
led_back targets old new = if list_any (λ target. is_read target.how) targets then old else record old { from = new.from }

abbrev pub within : List Target → Streams → Ends → Ends
within targets old left = ends left.flow (in_session (in_streams (led_back targets old)) left.state)

-- a command, or the commands of a compound one, in these redirections; `flow` is how the shell goes on where one of them stops
abbrev pub in_redirections : Flow → List Target → Means → Means
in_redirections flow [] next state = next state
in_redirections flow (target ∷ targets) next state = within (target ∷ targets) state.session.streams (redirecting flow (target ∷ targets) next state)

-- the paths of these redirections are held by a compound command
abbrev pub held_at : Option Components → Bool → List Held
held_at None writes = []
held_at (Some path) writes = record { path = path; writes = writes } ∷ []

abbrev pub held_by : List Use → List Held
held_by [] = []
held_by (first ∷ uses) = held_at (path_at first.place) first.writes ++ held_by uses

abbrev pub holding : List Use → State → State
holding [] state = state
holding (first ∷ uses) state = in_session (in_streams (λ streams. record streams { held = streams.held ++ held_by (first ∷ uses) })) state
