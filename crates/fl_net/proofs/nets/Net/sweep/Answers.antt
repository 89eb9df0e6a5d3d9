use Rattle.std.proofs.Common.{◌∙◌, ap, Ok, rules}
use Rattle.std.proofs.lemmas.Bool.{or_parts}
use Rattle.fl_net.specs.Stuck.{IsStuckAt}
use Rattle.fl_net.proofs.PointLemmas.{advances_on}
use Rattle.fl_net.proofs.StuckLemmas.{all_stuck, one_more_stuck, one_moved, said_of, told_ok, Answers}
use Rattle.fl_net.proofs.nets.Net.sweep.Goals as goal

pub loop-node-preserved : goal.loop-node-preserved
loop-node-preserved g c = (
  advances_on g.M.Machine.state _ _ c.loop-node.invariant.0 _ c.in-Ok.ensures.ok,
  c.run_node.ensures.buffer ∙ c.loop-node.invariant.1,
  c.run_node.ensures.borrows ∙ c.loop-node.invariant.2,
  c.run_node.ensures.rooms ∙ c.loop-node.invariant.3,
  λ still.
      let parts = or_parts c.loop-node.moved c.in-Ok.went_on still in
      let before = c.loop-node.invariant.4 parts.0 in
      let now = c.run_node.ensures.same (c.in-Ok.is ∙ ap (λ it. Ok it) parts.1) in (
        now.0 ∙ before.0,
        now.1 ∙ before.1,
        now.2 ∙ before.2,
        one_more_stuck g.M.Machine.state _ _ _ _ _ before.3
            (said_of g.M.Machine.state _ _ _ _ (λ ports machines rooms wires. IsStuckAt g.M.Machine.state ports machines rooms wires c.loop-node.node) _ _ _ _
            c.loop-node.invariant.0.ports before.0 (ap (λ it. it.items) c.loop-node.invariant.3) before.1
            (c.run_node.ensures.stuck (c.in-Ok.is ∙ ap (λ it. Ok it) parts.1))),
      ),
  λ is stuck.
      one_moved g.M.Machine.state _ _ _ _ c.loop-node.node c.loop-node.moved c.in-Ok.went_on is
      (search rules) (search rules) c.loop-node.invariant.5
      (λ still.
      let before = c.loop-node.invariant.4 still in
      said_of g.M.Machine.state _ _ _ _
      (λ ports machines rooms wires. Answers g.M.Machine.state ports machines rooms wires c.loop-node.node c.in-Ok.went_on) _ _ _ _
      c.loop-node.invariant.0.ports before.0 (ap (λ it. it.items) c.loop-node.invariant.3) before.1 c.in-Ok.ensures.answer)
      stuck,
)

pub returns-clause-stuck : goal.returns-clause-stuck
returns-clause-stuck g c = λ is.
    all_stuck g.M.Machine.state _ _ _ _ c.loop-node.node (search rules) (c.loop-node.invariant.4 (told_ok c.loop-node.moved _ is)).3

pub returns-clause-moved : goal.returns-clause-moved
returns-clause-moved g c = λ is stuck. c.loop-node.invariant.5 (told_ok c.loop-node.moved _ is) stuck
