use Rattle.std.proofs.Common.{ℕ, arith, rules, length-take}
use Rattle.ps_fakes.proofs.BoundedLemmas.{bounded-end_write}
use Rattle.ps_fakes.proofs.no_fail.NoFailTreeTree.end_write.Goals as goal

pub invariant_of-self : goal.invariant_of-self
invariant_of-self c = record {
  planned = search rules;
  plain = search rules;
  bounded = bounded-end_write c.args.self.now.tree c.end_write.new.self c.args.path.now _ _ c.end_write.result c.end_write.ensures.ok c.end_write.ensures.sent c.end_write.ensures.memory
      (search rules) (omega (arith, length-take {A = ℕ})) c.args.self.now.bounded;
}
