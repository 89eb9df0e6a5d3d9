-- How a command ends at a fault of its words, for the function that ends it.
use Rattle.std.specs.Prelude.{◌≡◌}
use Rattle.sh_expand.specs.declared.faults.ExpandFault.{ExpandFault}
use Rattle.sh_expand.specs.declared.faults.ExpandFault.TheVariants as fault
use Rattle.sh_eval.specs.declared.outcomes.How.{How}
use Rattle.sh_eval.specs.declared.outcomes.How.TheVariants as how
use Rattle.sh_eval.specs.Contract.{Point, Evaluates}
use Rattle.sh_eval.specs.Expanding.{stops_at}

-- nothing was done
pub record Undone (came : How) (old new : Point) (why : How) : Type 0 where
  pub came_is : came ≡ why
  pub same : new ≡ old

-- as the words mean it, or with nothing done, where the fault is none of the words
abbrev pub EndsSo : ExpandFault → Point → How → Point → Type 0
EndsSo (fault.Unset name text) old came new = Evaluates (λ expansions. stops_at (fault.Unset name text)) old came new
EndsSo (fault.Arith why) old came new = Evaluates (λ expansions. stops_at (fault.Arith why)) old came new
EndsSo fault.ArgsTooMany old came new = Evaluates (λ expansions. stops_at fault.ArgsTooMany) old came new
EndsSo fault.Failed old came new = Undone came old new how.TreeFault
EndsSo fault.Memory old came new = Undone came old new how.Memory
