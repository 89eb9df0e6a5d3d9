use Rattle.std.proofs.Common.{arith}
use Rattle.std.proofs.Math.Path.{fun_ext}
use Rattle.fl_rewrites.proofs.TableLemmas.{filled-above, filled-goes-on, filled-ends}
use Rattle.fl_rewrites.proofs.numbers.places_of.Goals as goal

pub index_mut-requires : goal.index_mut-requires
index_mut-requires c =
    let above = filled-above c.loop-left.places.items c.args.edges.now c.args.count c.loop-left.left 0 c.loop-left-test.true c.loop-left.invariant in
    let size = c.loop-left.places.ok.0 in omega (arith, above, size)

pub loop-left-preserved : goal.loop-left-preserved
loop-left-preserved c = filled-goes-on c.loop-left.places.items c.args.edges.now c.args.count c.loop-left.left 0 c.loop-left-test.true c.loop-left.invariant

pub returns : goal.returns
returns c =
    fun_ext (filled-ends c.loop-left.places.items c.args.edges.now c.args.count c.loop-left.left c.requires c.loop-left-test.false c.loop-left.invariant)
