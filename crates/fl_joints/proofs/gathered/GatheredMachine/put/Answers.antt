use Rattle.std.proofs.Common.{◌&&◌, ◌||◌, nat_lt}
use Rattle.fl_machines.specs.Waiting.{is_worth_putting}
use Rattle.fl_joints.proofs.GatherLemmas.{gathered-put}
use Rattle.fl_joints.proofs.gathered.GatheredMachine.put.Goals as goal

pub returns-in-Ok-clause-put : goal.returns-in-Ok-clause-put
returns-in-Ok-clause-put g c =
    let self = c.args.self.now in (
      c.if-self.false,
      gathered-put (g.S.Stream.due self.stream) self.close self.within_line (self.putting && (self.broken || is_worth_putting self.waiting)) (nat_lt self.at self.ins) self.putting self.at self.ins
          self.waiting _ c.in-Ok.bytes c.requires.turn c.in-Ok.ensures,
    )
