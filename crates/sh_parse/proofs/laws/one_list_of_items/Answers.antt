use Rattle.sh_parse.proofs.OneList.{one_list}
use Rattle.sh_parse.proofs.laws.one_list_of_items.Goals as goal

pub returns : goal.returns
returns c = one_list c.args.text.now
