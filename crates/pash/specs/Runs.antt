-- What a call on the way of a run says of the objects that it was handed.
use Rattle.std.specs.Prelude.{◌≡◌, ℕ, ◌⊎◌, Option, Some, Result, Ok, Err, OnOk, IsErrOf, IfSome}
use Rattle.std.specs.Option.{option_map}
use Rattle.ps_world.specs.Counts.{Rose}
use Rattle.ps_world.specs.Told.{then_bytes, GrewByPrefix}
use Rattle.ps_world.specs.Files.{Files, NoWriterOut}
use Rattle.ps_world.specs.TreeState.{TreeState, Balanced}
use Rattle.ps_world.specs.declared.WorldErr.{WorldErr}
use Rattle.ps_world.specs.declared.WorldErr.TheVariants as world
use Rattle.sh_parse.specs.Outcomes.{AreOutcomes, Readings}
use Rattle.sh_expand.specs.Outcomes.{AreExpansions, Expansions}
use Rattle.fl_commands.specs.declared.runs.Ended.{Ended}
use Rattle.fl_commands.specs.declared.runs.Ended.TheVariants as ended
use Rattle.fl_engines.specs.Logs.{with_words}
use Rattle.fl_commands.specs.Writers.{ChangesOnly}
use Rattle.sh_eval.specs.Contract.{Faults, Seen}
use Rattle.sh_eval.specs.Scripts.{Stopped}
use Rattle.sh_eval.specs.declared.outcomes.How.{How}
use Rattle.sh_eval.specs.declared.outcomes.How.TheVariants as how
use Rattle.pash.specs.Answers.{finished, line_of, outcome_by}
use Rattle.pash.specs.Meaning.{Meaning, Outside, outside_of}
use Rattle.pash.specs.declared.answers.TheConstants.{REFUSED}
use Rattle.pash.specs.declared.answers.Outcome.{Outcome}
use Rattle.pash.specs.declared.answers.RunFault.{RunFault}
use Rattle.pash.specs.declared.answers.RunFault.TheVariants as stop
use Rattle.pash.specs.declared.answers.Why.{Why}

-- why a run stops at a failure of the tree, or of the output and errors
abbrev pub stop_of_tree : WorldErr → RunFault
stop_of_tree world.Failed = stop.Tree
stop_of_tree world.Memory = stop.Memory

abbrev pub stop_of_sink : WorldErr → RunFault
stop_of_sink world.Failed = stop.Write
stop_of_sink world.Memory = stop.Memory

-- the answer of an evaluation that is over, or why it stopped
abbrev pub came_of : How → ℕ → Result Outcome RunFault
came_of (how.Gone flow) status = Ok (outcome_by flow status)
came_of how.ReadFault status = Err stop.Read
came_of how.WriteFault status = Err stop.Write
came_of how.TreeFault status = Err stop.Tree
came_of how.Memory status = Err stop.Memory

-- that of a graph that has run, or why it stopped
abbrev pub graph_came : Ended → Result Outcome RunFault
graph_came (ended.Done status) = Ok (finished status)
graph_came ended.Input = Err stop.Read
graph_came ended.Output = Err stop.Write
graph_came ended.Tree = Err stop.Tree
graph_came ended.Memory = Err stop.Memory

-- a call stops only where a count rose, or for want of memory; where it doesn't stop, none rose
pub record Stops {T : Type 0} (old new : Faults) (result : Result T RunFault) : Type 0 where
  pub ok : OnOk result (new ≡ old)
  pub read : IsErrOf result stop.Read → Rose old.input new.input
  pub write : IsErrOf result stop.Write → Rose old.output new.output ⊎ Rose old.errors new.errors
  pub tree : IsErrOf result stop.Tree → Rose old.tree new.tree

-- a command left its meaning: its answer and status are the meaning's, output and errors have grown by the meaning's, and so have the words
-- of the utilities that the engine has run; the files are the meaning's, and so is what is left of the input
pub record Leaves (meaning : Meaning) (outcome : Outcome) (held : Option Files) (old new : Seen) : Type 0 where
  pub outcome_is : outcome ≡ meaning.outcome
  pub output : new.taken ≡ then_bytes old.taken meaning.world.output
  pub errors : new.errors ≡ then_bytes old.errors meaning.world.errors
  pub files : held ≡ Some meaning.world.files
  pub input : new.drawn.left ≡ Some meaning.world.input
  pub used : new.drawn.used ≡ option_map (with_words meaning.used) old.drawn.used

-- or it stopped, and output and errors have grown by prefixes of the meaning's
abbrev pub Comes : Meaning → Result Outcome RunFault → Option Files → Seen → Seen → Type 0
Comes meaning (Ok outcome) held old new = Leaves meaning outcome held old new
Comes meaning (Err stopped) held old new = Stopped old new meaning.world

-- all that is seen of the objects at one moment
pub record Point : Type 0 where
  pub tree : TreeState
  pub seen : Seen
  pub faults : Faults

abbrev pub point_of : TreeState → Seen → Faults → Point
point_of tree seen faults = record { tree = tree; seen = seen; faults = faults }

-- what a command means, by what texts are read as and what words expand to
abbrev pub Means : Type 0
Means = Readings → Expansions → Outside → Meaning

-- a command was run: it left its meaning, or stopped; and why
pub record RunsAs (means : Means) (old : Point) (result : Result Outcome RunFault) (new : Point) : Type 0 where
  pub comes : (reads : Readings) → AreOutcomes reads → (expansions : Expansions) → AreExpansions expansions → IfSome old.tree.held
      (λ files. IfSome old.seen.drawn.left (λ input.
      Comes (means reads expansions (outside_of old.tree.home files input)) result new.tree.held old.seen new.seen))
  -- whatever came, nothing else is changed than what it writes
  pub kept : (reads : Readings) → AreOutcomes reads → (expansions : Expansions) → AreExpansions expansions → IfSome old.tree.held
      (λ files. IfSome old.seen.drawn.left (λ input.
      ChangesOnly (means reads expansions (outside_of old.tree.home files input)).world.written old.tree.held new.tree.held))
  -- no writer is out behind it
  pub whole : OnOk result (IfSome new.tree.held NoWriterOut)
  pub cause : Stops old.faults new.faults result
  -- each reader and writer that was lent has come back
  pub lent : Balanced old.tree new.tree

-- nothing but the line of an answer was told
pub record OnlyTold (answer : Why) (status : ℕ) (old new : Seen) : Type 0 where
  pub status_is : status ≡ REFUSED
  pub drawn : new.drawn ≡ old.drawn
  pub output : new.taken ≡ old.taken
  pub errors : new.errors ≡ then_bytes old.errors (line_of answer)

-- or no more than a prefix of it
pub record CutShort (answer : Why) (old new : Seen) : Type 0 where
  pub drawn : new.drawn ≡ old.drawn
  pub output : new.taken ≡ old.taken
  pub errors : GrewByPrefix old.errors new.errors (line_of answer)

abbrev pub TellsOnly : Why → Result Outcome RunFault → Seen → Seen → Type 0
TellsOnly answer (Ok outcome) old new = OnlyTold answer outcome.status old new
TellsOnly answer (Err stopped) old new = CutShort answer old new

-- nothing is drawn, and nothing is written to the output
pub record DrawsNothing (old new : Seen) : Type 0 where
  pub drawn : new.drawn ≡ old.drawn
  pub output : new.taken ≡ old.taken
