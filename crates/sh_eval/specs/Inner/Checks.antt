-- What was found of the patterns of an invocation, as the code has it.
use Rattle.sh_eval.specs.declared.patterns.Checked.{Checked}
use Rattle.sh_eval.specs.declared.patterns.Checked.TheVariants as checked
use Rattle.sh_eval.specs.Utilities.{Patterns, read, wrong, refers_back}

abbrev pub found_of : Checked → Patterns
found_of checked.Read = read
found_of checked.Wrong = wrong
found_of (checked.RefersBack pattern) = refers_back pattern
