-- tee (XCU tee): the standard input is copied to the standard output, and to files that are begun before.
use Rattle.std.specs.Prelude.{ℕ, List, [], ◌∷◌, ◌++◌, Bool, true, false, not, map, if◌then◌else◌}
use Rattle.ps_world.specs.Paths.{Components}
use Rattle.ps_world.specs.declared.places.Place.{Place}
use Rattle.ps_world.specs.declared.places.Place.TheVariants as place
use Rattle.ut_args.specs.Inputs.{files_by}
use Rattle.ut_args.specs.declared.commands.Command.{Command}
use Rattle.ut_args.specs.declared.commands.Command.TheVariants as command
use Rattle.fl_segments.specs.Noted.{Noted}
use Rattle.fl_commands.specs.Inputs.{noted_over}
use Rattle.sh_eval.specs.declared.streams.To.TheVariants as to
use Rattle.sh_eval.specs.States.{State, Means, after, in_world, leaves, on, puts, reads_to, to_read, write}
use Rattle.sh_eval.specs.Lines.{diagnostic, no_such_file, is_a_directory}
use Rattle.sh_eval.specs.Redirections.{Use, named_by, file_begun}
use Rattle.sh_eval.specs.Utilities.{Called, notes, tells_some}

-- what it uses: the files that it writes
abbrev pub written_use : State → List ℕ → Use
written_use state text = record { text = text; place = named_by state text; writes = true }

abbrev pub uses_by_files : Called → State → List Use
uses_by_files called state = map (written_use state) (files_by called.command)

-- its files are begun anew, but for -a
abbrev pub begins_anew : Command → Bool
begins_anew (command.Tee args) = not args.appends
begins_anew other = true

-- the files that it writes beside its output, the lines of those that can't be made, and whether all could be
pub record Made : Type 0 where
  pub files : List Components
  pub lines : List ℕ
  pub is_whole : Bool

abbrev pub none_made : Made
none_made = record { files = []; lines = []; is_whole = true }

abbrev pub with_file : Components → Made → Made
with_file path made = record { files = made.files ++ path ∷ []; lines = made.lines; is_whole = made.is_whole }

abbrev pub without : List ℕ → Made → Made
without line made = record { files = made.files; lines = made.lines ++ line; is_whole = false }

-- a file is begun, anew or behind the bytes that it has; nothing is written to the null device
abbrev pub making_at : Bool → List ℕ → List ℕ → Place → Made → (Made → Means) → Means
making_at anew name text place.Missing made next state = next (without (diagnostic name text no_such_file) made) state
making_at anew name text (place.Makeable path) made next state = next (with_file path made) (in_world (file_begun anew path) state)
making_at anew name text (place.Dir path) made next state = next (without (diagnostic name text is_a_directory) made) state
making_at anew name text (place.File path) made next state = next (with_file path made) (in_world (file_begun anew path) state)
making_at anew name text place.Null made next state = next made state

abbrev pub making_one : Bool → List ℕ → List ℕ → Made → (Made → Means) → Means
making_one anew name text made next state = making_at anew name text (named_by state text) made next state

-- one after the other
abbrev pub making : Bool → List ℕ → List (List ℕ) → Made → (Made → Means) → Means
making anew name [] made next state = next made state
making anew name (text ∷ texts) made next state = making_one anew name text made (λ behind. making anew name texts behind next) state

-- bytes are written behind what each of these files has
abbrev pub writes : List Components → List ℕ → State → State
writes [] bytes state = state
writes (path ∷ paths) bytes state = writes paths bytes (write (to.File path) bytes state)

-- a text is written to the output, and to these files
abbrev pub spreads : List Components → List ℕ → Means
spreads files text state = on (writes files text (puts text state))

-- tee has run over the one input that it has
abbrev pub ran_by : Called → List Noted
ran_by called = noted_over called.command called.words 1

-- the status tells that all files could be made
abbrev pub status_by : Bool → ℕ
status_by is_whole = if is_whole then 0 else 1

-- the input is taken to its end, and written
abbrev pub copies : Called → List Components → Bool → Means
copies called files is_whole state = spreads files (to_read state) (leaves (status_by is_whole) (in_world (notes (ran_by called)) (reads_to [] state)))

-- what can't be made is told before
abbrev pub tells_and_copies : Called → Made → Means
tells_and_copies called made state = after (on (tells_some made.lines state)) (copies called made.files made.is_whole)

abbrev pub tees : List ℕ → Called → Means
tees name called state = making (begins_anew called.command) name (files_by called.command) none_made (tells_and_copies called) state
