use Rattle.std.proofs.Common.{◌∙◌, refl}
use Rattle.fl_segments.proofs.AddLemmas.{left-parts}
use Rattle.fl_commands.proofs.WriterLemmas.{among-first, among-shorter, apart-next, goes-next, held-next, kept-first, kept-next, none-next, only-none, paths-left, there-first, there-next}
use Rattle.fl_commands.proofs.writers.open_each.Goals as goal

pub open_file-requires-clause-there : goal.open_file-requires-clause-there
open_file-requires-clause-there g c κs within =
    there-first _ _ _ (left-parts c.loop-left.left.now c.path-item.result c.path-item.is c.in-len1-up.len_at_least) _ (g.T.Tree.state c.loop-left.tree).held c.loop-left.invariant.there

pub loop-left-preserved : goal.loop-left-preserved
loop-left-preserved g c =
    let is = left-parts c.loop-left.left.now c.path-item.result c.path-item.is c.in-len1-up.len_at_least in
    let before = c.loop-left.invariant in
    record {
      there = there-next _ _ _ is _ _ c.in_ok-open_file.ensures.held before.apart before.there;
      apart = apart-next _ _ _ is (g.T.Tree.state c.loop-left.tree).held (g.T.Tree.state c.loop-left.tree).held before.apart;
      texts = λ files told. goes-next _ _ _ _ _ _ _ _ is before.apart c.in_ok-open_file.ensures.held c.in_ok-open_file.ensures.texts (before.texts files told);
      paths = paths-left _ _ _ is _ _ _ before.paths c.in_ok-open_file.ensures.paths;
      count = λ old. c.in_ok-open_file.ensures.count (before.count old);
      fresh = λ old. c.in_ok-open_file.ensures.fresh (before.fresh old);
      out = λ first count out. c.in_ok-open_file.ensures.out first count (before.out first count out);
      held = held-next _ _ _ is _ _ c.in_ok-open_file.ensures.held before.apart ∙ before.held;
      kept = λ last rest. before.kept last (kept-next _ _ _ is _ _ last c.open_file.ensures.kept rest);
      none = λ empty. none-next _ _ _ is (before.none empty).0;
      faults = c.in_ok-open_file.ensures.ok ∙ before.faults;
    }

pub returns-in_err-open_file-clause-kept : goal.returns-in_err-open_file-clause-kept
returns-in_err-open_file-clause-kept g c =
    c.loop-left.invariant.kept _ (kept-first _ _ _ (left-parts c.loop-left.left.now c.path-item.result c.path-item.is c.in-len1-up.len_at_least) _ _ c.open_file.ensures.kept)

pub returns-in_err-open_file-clause-among : goal.returns-in_err-open_file-clause-among
returns-in_err-open_file-clause-among g c =
    among-first _ _ _ (left-parts c.loop-left.left.now c.path-item.result c.path-item.is c.in-len1-up.len_at_least) (g.T.Tree.state c.loop-left.tree).held (g.T.Tree.state c.loop-left.tree).held _ _ _ c.loop-left.invariant.paths c.open_file.ensures.among

pub returns-clause-kept : goal.returns-clause-kept
returns-clause-kept g c = c.loop-left.invariant.kept _ only-none

pub returns-clause-among : goal.returns-clause-among
returns-clause-among g c = among-shorter _ _ _ _ c.loop-left.invariant.paths refl
