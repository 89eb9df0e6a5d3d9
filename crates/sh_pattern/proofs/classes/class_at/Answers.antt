use Rattle.std.proofs.Common.{rules}
use Rattle.sh_pattern.specs.Classes.{class_at}
use Rattle.sh_pattern.proofs.classes.class_at.Goals as goal

pub returns-clause-class : goal.returns-clause-class
unfolding class_at
returns-clause-class c = search rules
