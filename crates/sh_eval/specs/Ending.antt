-- How a command ends that changes the shell alone, and one that ends behind what it wrote.
use Rattle.std.specs.Prelude.{ℕ, if◌then◌else◌}
use Rattle.ps_world.specs.TreeState.{TreeState}
use Rattle.sh_eval.specs.declared.flows.Flow.{Flow}
use Rattle.sh_eval.specs.declared.outcomes.How.{How}
use Rattle.sh_eval.specs.declared.outcomes.How.TheVariants as how
use Rattle.sh_eval.specs.declared.session.Session.{Session}
use Rattle.sh_eval.specs.declared.shell.Shell.{Shell}
use Rattle.sh_eval.specs.Shells.{with_status}
use Rattle.sh_eval.specs.Contract.{Seen, Faults, point_of, goes_on, Meaning, Evaluates}

-- the command is evaluated in the shell alone, and whatever is around it stays as it is
abbrev pub InShell : Meaning → Shell → How → Shell → Type 0
InShell means old came new =
    (session : Session) (tree : TreeState) (seen : Seen) (faults : Faults) → Evaluates means (point_of old session tree seen faults) came (point_of new session tree seen faults)

-- the status and the way on, where what was written goes on
abbrev pub status_behind : How → ℕ → Shell → Shell
status_behind came status shell = if goes_on came then with_status status shell else shell

abbrev pub how_behind : How → Flow → How
how_behind came flow = if goes_on came then how.Gone flow else came
