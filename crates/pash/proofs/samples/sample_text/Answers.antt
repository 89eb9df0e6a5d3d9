use Rattle.std.proofs.Common.{◌≡◌, ◌<◌, ◌^◌, length, vec_len, arith, rules}
use Rattle.pash.proofs.SampleLemmas.{one-line-more, within-sample}
use Rattle.pash.proofs.samples.sample_text.Goals as goal

pub loop-left-preserved : goal.loop-left-preserved
loop-left-preserved c =
    one-line-more _ _ _ c.loop-left.number _ c.loop-left.left c.in_ok-number.ensures.line c.in_ok-number.ensures.number (search rules) c.loop-left.invariant

pub returns-clause-most : goal.returns-clause-most
returns-clause-most c =
    let size : length c.loop-left.text.items ≡ vec_len c.loop-left.text = search rules in
    let few : c.args.lines < 2 ^ 32 = search rules in
    let most = within-sample c.loop-left.text.items c.args.seed c.args.lines c.loop-left.number c.loop-left.left c.loop-left.invariant in
    omega arith
