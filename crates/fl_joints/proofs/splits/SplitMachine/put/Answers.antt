-- What is put of the parts, and what that leaves.
use Rattle.std.proofs.Common.{◌+◌, nat_lt, length, ap}
use Rattle.std.proofs.lemmas.Bool.{ltb-true}
use Rattle.fl_graph.specs.declared.pieces.TheConstants.{MAX_PIECE}
use Rattle.fl_joints.proofs.SplitLemmas.{put-end, put-piece}
use Rattle.fl_joints.proofs.splits.SplitMachine.put.Goals as goal

pub returns-then-self-2-clause-put : goal.returns-then-self-2-clause-put
returns-then-self-2-clause-put c =
    let split = c.args.self.now in
    put-end split.text.items c.as_slice.result.now split.outs split.part split.given split.end c.end_behind-self.result
    (nat_lt split.part split.outs) split.broken split.taking c.requires.turn c.if-self.false
    c.if-self-2.true (ltb-true split.part split.outs) split.placed c.as_slice.ensures.value c.end_behind-self.ensures.behind c.end_behind-self.ensures.last

pub returns-in-Ok-clause-put : goal.returns-in-Ok-clause-put
returns-in-Ok-clause-put c =
    let split = c.args.self.now in
    put-piece split.text.items c.as_slice-2.result.now c.in-Ok.bytes split.outs split.part split.given (split.given + length c.as_slice-in-Ok.result.now) split.end MAX_PIECE
    (nat_lt split.part split.outs) split.broken split.taking c.requires.turn c.if-self.false
    split.within (ap (λ bytes. split.given + length bytes) c.as_slice-in-Ok.ensures.bytes) c.as_slice-2.ensures.value c.in-Ok.ensures
