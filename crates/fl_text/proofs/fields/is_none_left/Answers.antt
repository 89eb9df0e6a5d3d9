use Rattle.fl_text.proofs.MemberLemmas.{first-left}
use Rattle.fl_text.proofs.fields.is_none_left.Goals as goal

pub returns-in-Some : goal.returns-in-Some
returns-in-Some c = first-left c.args.members.now.entries _ c.in-Some.ensures.first
