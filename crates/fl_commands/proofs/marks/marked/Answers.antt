use Rattle.std.proofs.Common.{IfSome, ◌∙◌, ap, subst, sym}
use Rattle.ps_world.specs.TreeState.{TreeState}
use Rattle.fl_commands.specs.Readers.{IsThere}
use Rattle.fl_segments.proofs.AddLemmas.{left-parts}
use Rattle.fl_commands.proofs.MarkLemmas.{ins-next, there-first, there-rest}
use Rattle.fl_commands.proofs.marks.marked.Goals as goal

pub add_marked-requires-clause-there : goal.add_marked-requires-clause-there
add_marked-requires-clause-there g c κs within =
    subst (λ (state : TreeState). IfSome state.held (λ files. IsThere files c.it-item.result)) (sym c.loop-left.invariant.state)
    (there-first _ _ _ _ (left-parts c.loop-left.left.now c.it-item.result c.it-item.is c.in-len1-up.len_at_least) c.loop-left.invariant.there)

pub loop-left-preserved : goal.loop-left-preserved
loop-left-preserved g c =
    let is = left-parts c.loop-left.left.now c.it-item.result c.it-item.is c.in-len1-up.len_at_least in
    record {
      there = there-rest _ _ _ _ is c.loop-left.invariant.there;
      same = ins-next _ _ _ _ _ _ is c.in_ok-add_marked.ensures.same c.loop-left.invariant.same;
      marks = λ files told. c.in_ok-add_marked.ensures.marks files (ap (λ (state : TreeState). state.held) c.loop-left.invariant.state ∙ told) (c.loop-left.invariant.marks files told);
      state = c.in_ok-add_marked.ensures.state ∙ c.loop-left.invariant.state;
      faults = c.in_ok-add_marked.ensures.cause.ok ∙ c.loop-left.invariant.faults;
    }
