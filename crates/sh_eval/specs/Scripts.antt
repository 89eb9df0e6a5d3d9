-- What the run of a script leaves (XCU 2.12), where files and input are told.
use Rattle.std.specs.Prelude.{◌≡◌, ℕ, List, Option, Some}
use Rattle.std.specs.Option.{option_map}
use Rattle.ps_world.specs.Told.{then_bytes, GrewByPrefix}
use Rattle.ps_world.specs.TreeState.{TreeState}
use Rattle.fl_engines.specs.Logs.{Log, with_words}
use Rattle.fl_segments.specs.Noted.{Noted, used_at}
use Rattle.sh_eval.specs.declared.flows.Flow.{Flow}
use Rattle.sh_eval.specs.declared.outcomes.How.{How}
use Rattle.sh_eval.specs.declared.outcomes.How.TheVariants as how
use Rattle.sh_eval.specs.declared.shell.Shell.{Shell}
use Rattle.sh_eval.specs.States.{World, Ends}
use Rattle.sh_eval.specs.Contract.{Seen}

-- what the engine tells once these have run at a width
abbrev pub ran_at : ℕ → Option Log → List Noted → Option Log
ran_at width used ran = option_map (with_words (used_at width ran)) used

-- all is as it is meant, and the engine tells this of what ran
pub record Left (tells : List Noted → Option Log) (old : Seen) (came : Flow) (own : Shell) (tree : TreeState) (new : Seen) (meant : Ends) : Type 0 where
  pub flow : came ≡ meant.flow
  pub shell : own ≡ meant.state.shell
  pub files : tree.held ≡ Some meant.state.world.files
  pub input : new.drawn.left ≡ Some meant.state.world.input
  pub used : new.drawn.used ≡ tells meant.state.world.ran
  pub output : new.taken ≡ then_bytes old.taken meant.state.world.output
  pub errors : new.errors ≡ then_bytes old.errors meant.state.world.errors

-- or output and errors have grown by prefixes of what is meant
pub record Stopped (old new : Seen) (world : World) : Type 0 where
  pub output : GrewByPrefix old.taken new.taken world.output
  pub errors : GrewByPrefix old.errors new.errors world.errors

abbrev pub Leaves : (List Noted → Option Log) → Seen → How → Shell → TreeState → Seen → Ends → Type 0
Leaves tells old (how.Gone came) shell tree new meant = Left tells old came shell tree new meant
Leaves tells old how.ReadFault shell tree new meant = Stopped old new meant.state.world
Leaves tells old how.WriteFault shell tree new meant = Stopped old new meant.state.world
Leaves tells old how.TreeFault shell tree new meant = Stopped old new meant.state.world
Leaves tells old how.Memory shell tree new meant = Stopped old new meant.state.world
