use Rattle.std.proofs.Common.{rules}
use Rattle.sh_tree.specs.Views.{and_or_tree}
use Rattle.sh_parse.proofs.Lists.{items_pushed}
use Rattle.sh_parse.proofs.levels.Listing.end_and_or.Goals as goal

pub returns-in_ok-push : goal.returns-in_ok-push
returns-in_ok-push c =
    let same = items_pushed and_or_tree c.args.self.now.items.items c.push.new.self.items _ _ c.in_ok-push.ensures.items c.into_and_or.ensures in
    search (rules, same)
