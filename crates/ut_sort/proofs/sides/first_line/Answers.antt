use Rattle.std.proofs.Common.{◌+◌, length, take, drop, refl, subst}
use Rattle.ps_lines.specs.Lines.{CutsLine}
use Rattle.ut_sort.proofs.SideLemmas.{cuts-first}
use Rattle.ut_sort.proofs.sides.first_line.Goals as goal

pub returns-in-Some-clause-some : goal.returns-in-Some-clause-some
returns-in-Some-clause-some c =
    subst (λ text. CutsLine text (take (length c.in-Some.line.now) text) (drop (length c.in-Some.line.now + 1) text)) c.held_of.ensures
    (cuts-first c.held_of.result.now c.in-Some.line.now _ (length c.in-Some.line.now) refl c.in-Some.ensures.cut)
