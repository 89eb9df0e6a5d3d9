use Rattle.std.proofs.Common.{rules, map}
use Rattle.sh_tree.specs.Views.{word_tree}
use Rattle.sh_eval.specs.Inner.Gathering.{IsFound}
use Rattle.sh_eval.proofs.GatheringLemmas.{found-at}
use Rattle.sh_eval.proofs.gathering.add_stage.Goals as goal

pub returns-clause-added : goal.returns-clause-added
returns-clause-added g c = λ is.
    let found : IsFound (map word_tree c.in-Some.words.now) c.args.shell.now c.args.held.now (g.T.Tree.state c.args.tree.now) c.in-Some-2.member = search rules in
    record {
      member = c.in-Some-2.member;
      lines = _;
      members_are = c.in_ok-add_member.ensures.members;
      lines_are = c.in_ok-add_member.ensures.lines;
      gathered = found-at _ _ _ _ _ _ c.in-Some.ensures found;
    }
