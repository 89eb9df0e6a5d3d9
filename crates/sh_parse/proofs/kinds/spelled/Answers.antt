use Rattle.sh_parse.specs.Kinds.{spelled}
use Rattle.sh_parse.proofs.Spellings.{spelled-front, spelled-none, grown, whole}
use Rattle.sh_parse.proofs.kinds.spelled.Goals as goal

pub loop-byte-preserved : goal.loop-byte-preserved
loop-byte-preserved c =
    let l = c.loop-byte in
    grown (spelled c.args.word.now) l.bytes.items c.push.new.self.items (spelled l.rest.now) (spelled c.in-Some.after.now) c.in-Some.byte
    l.invariant (spelled-front c.in-Some.byte c.in-Some.after.now l.rest.now c.in-Some.ensures.front) c.in_ok-push.ensures.items

pub returns : goal.returns
returns c =
    let l = c.loop-byte in
    whole (spelled c.args.word.now) l.bytes.items (spelled l.rest.now) l.invariant (spelled-none l.rest.now c.in_default.ensures.front)
