use Rattle.std.proofs.Common.{subst}
use Rattle.sh_eval.specs.Reaching.{CanSkip}
use Rattle.sh_eval.specs.declared.stops.RedirectionError.{RedirectionError}
use Rattle.sh_eval.proofs.SkippingLemmas.{skips-line, skips-tree, skips-memory}
use Rattle.sh_eval.proofs.skipping.skip.Goals as goal

pub returns-in-Line-clause-skips : goal.returns-in-Line-clause-skips
returns-in-Line-clause-skips g c =
    λ drawn input. skips-line _ c.args.way c.in-Line.line _ c.args.shell.now c.leave.new.shell _ _ _ _ _ _ _ _ c.tell-how.result c.leave.result c.in-Line.is c.as_slice.ensures c.leave.ensures.shell c.leave.ensures.how
    (c.tell-how.ensures.evaluates c.args.shell.now drawn input)

pub returns-in-Tree-clause-skips : goal.returns-in-Tree-clause-skips
returns-in-Tree-clause-skips g c = λ drawn input. skips-tree _ c.args.way _ c.in-Tree.is

pub returns-in-Memory-clause-skips : goal.returns-in-Memory-clause-skips
returns-in-Memory-clause-skips g c = λ drawn input. skips-memory _ c.args.way _ c.in-Memory.is

pub tell-how-requires-clause-sound : goal.tell-how-requires-clause-sound
tell-how-requires-clause-sound g c κs outlive = subst (λ (it : RedirectionError). CanSkip it c.args.session.now (g.T.Tree.state c.args.tree.now)) c.in-Line.is c.requires.sound
