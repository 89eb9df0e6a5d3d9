use Rattle.std.proofs.Common.{ap, ◌∙◌, arith}
use Rattle.ps_world.specs.TreeState.{TreeState}
use Rattle.fl_commands.proofs.ReaderLemmas.{calm-next, out-next, one-more, rose-next}
use Rattle.fl_commands.proofs.readers.give_back.Goals as goal

pub loop-number-preserved : goal.loop-number-preserved
loop-number-preserved g c =
    record {
      paths =
          let of_readers = one-more _ _ _ c.in-Some.ensures.items in
          let of_paths = one-more _ _ _ c.in-Some-pop.ensures.items in
          let same = c.loop-number.invariant.paths in
          omega (arith, of_readers, of_paths, same);
      out = λ first out. out-next g.T.Reader.Source.faults _ _ _ _ c.in-Some.ensures.items first _ _ c.end_read.ensures.state (c.loop-number.invariant.out first out);
      held = ap (λ (state : TreeState). state.held) c.end_read.ensures.state ∙ c.loop-number.invariant.held;
      later = let before = c.loop-number.invariant.later in let now = c.end_read.ensures.later in omega (arith, before, now);
      calm = calm-next g.T.Reader.Source.faults _ _ _ _ c.in-Some.ensures.items _ _ _ _ c.loop-number.invariant.calm c.end_read.ensures.calm;
      rose = rose-next g.T.Reader.Source.faults _ _ _ _ c.in-Some.ensures.items _ _ _ _ c.loop-number.invariant.rose c.loop-number.invariant.later c.end_read.ensures.later c.end_read.ensures.cause;
    }
