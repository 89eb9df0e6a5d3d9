use Rattle.std.proofs.Common.{rules}
use Rattle.sh_tree.specs.Views.{list_tree}
use Rattle.sh_parse.proofs.Lists.{subs_pushed}
use Rattle.sh_parse.proofs.levels.Making.push_sub.Goals as goal

pub returns : goal.returns
returns c =
    let same = subs_pushed list_tree c.args.self.now.subs.items c.push.new.self.items c.args.list c.in_ok-push.ensures.items in search (rules, same)
