use Rattle.std.proofs.Common.{rules}
use Rattle.ps_world.proofs.StandingLemmas.{stands_resolved}
use Rattle.ps_world.proofs.places.look.Goals as goal

pub returns-clause-stands : goal.returns-clause-stands
returns-clause-stands g c = stands_resolved (g.T.Tree.state c.args.tree.now).held (g.T.Tree.state c.args.tree.now).home c.args.text.now _ (search rules)
