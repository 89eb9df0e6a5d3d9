use Rattle.std.proofs.Common.{◌-◌, true, length, sym, ◌∙◌, arith}
use Rattle.std.proofs.lemmas.Bool.{false≢true}
use Rattle.ut_regex.proofs.LiteralLemmas.{stands_all, stands_fits}
use Rattle.ut_regex.proofs.folded.stands_at.Goals as goal

pub returns-then-not-fits-clause-lacks : goal.returns-then-not-fits-clause-lacks
returns-then-not-fits-clause-lacks c = λ answer stands.
    false≢true (sym c.if-not-fits.true ∙ c.fits.ensures
    ∙ stands_fits true c.args.text.now c.args.bytes.now c.args.place stands (length c.args.bytes.now - 1) (let some = c.requires.some in omega (arith, some)))

pub returns-then-not-fits-2-clause-lacks : goal.returns-then-not-fits-2-clause-lacks
returns-then-not-fits-2-clause-lacks c = λ answer stands.
    false≢true (sym c.if-not-fits-2.true ∙ c.fits-in-loop-offset.ensures
    ∙ stands_fits true c.args.text.now c.args.bytes.now c.args.place stands c.loop-offset.offset c.loop-offset-test.true)

pub returns-clause-stands : goal.returns-clause-stands
returns-clause-stands c = λ answer.
    stands_all true c.args.text.now c.args.bytes.now c.args.place c.requires.room
    (λ offset low. c.loop-offset.invariant offset (let all = c.loop-offset-test.false in omega (arith, low, all)))
