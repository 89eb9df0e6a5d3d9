use Rattle.std.proofs.Common.{ℕ, Err, length, ap, subst, ◌∙◌, arith}
use Rattle.ps_world.specs.TreeState.{AreOut, TreeState}
use Rattle.fl_commands.proofs.ReaderLemmas.{rose-later}
use Rattle.fl_commands.proofs.WriterLemmas.{among-begun, begins-so, fault-is, only-more, only-within}
use Rattle.fl_commands.proofs.writers.open_writers.Goals as goal

pub returns-in-Ok-clause-begins : goal.returns-in-Ok-clause-begins
returns-in-Ok-clause-begins g c =
    begins-so g.T.Writer.Sink.taken g.T.Writer.Sink.faults c.args.paths.now _ _ _ _ _ _ c.new.ensures.items c.new-2.ensures.items c.in-Ok.ensures.paths c.in-Ok.ensures.texts c.open_each.ensures.count
    c.open_each.ensures.fresh c.open_each.ensures.out c.in-Ok.ensures.held

pub returns-in-Err-clause-back : goal.returns-in-Err-clause-back
returns-in-Err-clause-back g c =
    λ first count out. c.end_writers.ensures.out first count (c.open_each.ensures.out first count
    (subst (λ (it : ℕ). AreOut it first (g.T.Tree.state c.args.tree.now)) (let empty = ap (λ it. length it) c.new.ensures.items in omega (arith, empty)) out))

pub returns-in-Err-clause-none : goal.returns-in-Err-clause-none
returns-in-Err-clause-none g c =
    λ none. (let before = c.open_each.ensures.none none in
    ap (λ (state : TreeState). state.held) (c.end_writers.ensures.none (before.0 ∙ c.new.ensures.items) ∙ before.1))

pub returns-in-Err-clause-later : goal.returns-in-Err-clause-later
returns-in-Err-clause-later g c = let one = c.open_each.ensures.later in let other = c.end_writers.ensures.later in omega (arith, one, other)

pub returns-in-Err-clause-failed : goal.returns-in-Err-clause-failed
returns-in-Err-clause-failed g c = λ told. rose-later _ _ _ (c.in-Err.ensures.failed (ap Err (fault-is c.in-Err.error _ told))) c.end_writers.ensures.later

pub returns-in-Err-clause-kept : goal.returns-in-Err-clause-kept
returns-in-Err-clause-kept g c =
    only-more c.open_each.ensures.kept (only-within (among-begun _ _ _ c.new-2.ensures.items c.open_each.ensures.among) c.end_writers.ensures.kept)
