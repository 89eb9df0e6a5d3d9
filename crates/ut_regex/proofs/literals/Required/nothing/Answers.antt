use Rattle.std.proofs.Common.{refl}
use Rattle.ut_regex.proofs.LiteralLemmas.{nothing_required}
use Rattle.ut_regex.proofs.literals.Required.nothing.Goals as goal

pub returns : goal.returns
returns c = λ fold re. nothing_required _ c.new.ensures.items c.new-2.ensures.items refl fold re (c.unknown.ensures fold re)
