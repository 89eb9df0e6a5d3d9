use Rattle.std.proofs.Common.{◌-◌, length, refl}
use Rattle.std.proofs.lemmas.List.{take_rest}
use Rattle.ut_slices.proofs.EndLemmas.{Passing-line, PassesLines-all, PassesLines-some}
use Rattle.ut_slices.proofs.ends.pass_lines.Goals as goal

pub loop-left-preserved : goal.loop-left-preserved
loop-left-preserved c =
    Passing-line c.args.piece.now c.args.count c.loop-left.rest.now c.loop-left.left _ c.in-Some.after.now c.loop-left.invariant c.loop-left-test.true c.in-Some.ensures.cut

pub returns-in-None : goal.returns-in-None
returns-in-None c =
    PassesLines-some c.args.piece.now c.args.count c.loop-left.rest.now c.loop-left.left c.loop-left.invariant c.loop-left-test.true c.in-None.ensures.none

pub returns : goal.returns
returns c =
    rw (take_rest c.args.piece.now (length c.args.piece.now - length c.loop-left.rest.now))
    (PassesLines-all c.args.piece.now c.args.count c.loop-left.rest.now c.loop-left.left (length c.args.piece.now - length c.loop-left.rest.now) c.loop-left-test.false refl
    c.loop-left.invariant)
