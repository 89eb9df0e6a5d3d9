use Rattle.std.proofs.Common.{length, refl, rules}
use Rattle.std.proofs.lemmas.Option.{slice_get_read, slice_get_within}
use Rattle.fl_runner.proofs.TellLemmas.{no-fault-next}
use Rattle.fl_runner.proofs.telling.first_fault.Goals as goal

pub returns-then-is_fault-clause-first : goal.returns-then-is_fault-clause-first
returns-then-is_fault-clause-first g c = record {
  done = c.index-nodes-node.result;
  there = slice_get_read c.args.nodes.now (length c.args.nodes.now) c.loop-node.node c.index-nodes-node.result refl (search rules) (search rules);
  fault = search rules;
  lower = c.loop-node.invariant;
}

pub loop-node-preserved : goal.loop-node-preserved
loop-node-preserved g c =
    no-fault-next c.args.nodes.now c.loop-node.node c.index-nodes-node.result
    (slice_get_read c.args.nodes.now (length c.args.nodes.now) c.loop-node.node c.index-nodes-node.result refl (search rules) (search rules)) (search rules) c.loop-node.invariant

pub returns-clause-none : goal.returns-clause-none
returns-clause-none g c = λ node done at. c.loop-node.invariant node done (let within = slice_get_within c.args.nodes.now node done at in search rules) at
