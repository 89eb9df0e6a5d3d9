use Rattle.sh_parse.proofs.Spellings.{first_pushed, none_pushed}
use Rattle.sh_parse.proofs.kinds.push_first.Goals as goal

pub returns-in_ok-push : goal.returns-in_ok-push
returns-in_ok-push c =
    first_pushed c.args.bytes.now.items c.push.new.self.items c.args.text.now c.in-Some.field-0-1.now c.in-Some.byte c.in-Some.ensures.front
    c.in_ok-push.ensures.items

pub returns-in_default : goal.returns-in_default
returns-in_default c = none_pushed c.args.bytes.now.items c.args.text.now c.in_default.ensures.front
