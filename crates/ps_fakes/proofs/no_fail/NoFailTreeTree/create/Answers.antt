use Rattle.std.proofs.Common.{rules}
use Rattle.ps_fakes.proofs.BoundedLemmas.{bounded-create}
use Rattle.ps_fakes.proofs.no_fail.NoFailTreeTree.create.Goals as goal

pub invariant_of-self : goal.invariant_of-self
invariant_of-self c = record {
  planned = search rules;
  plain = search rules;
  bounded = bounded-create c.args.self.now.tree c.create.new.self c.args.path.now c.create.result c.create.ensures.state c.args.self.now.bounded;
}
