use Rattle.std.proofs.Common.{◌≡◌, map}
use Rattle.sh_pattern.specs.declared.expansion.Found.{Found}
use Rattle.sh_pattern.proofs.expansion.texts_of.Given as goal

abbrev pub invariant-loop-one : goal.invariant-loop-one
invariant-loop-one l = l.texts.items ≡ map (λ (one : Found). one.text) l.yielded
