use Rattle.ps_world.proofs.WritingLemmas.{whole_after}
use Rattle.ps_tests.proofs.fakes.written.write_file.Goals as goal

pub returns-in_ok-written-in-Some : goal.returns-in_ok-written-in-Some
returns-in_ok-written-in-Some g c = record {
  whole = whole_after (g.T.Tree.state c.args.tree.now) (g.T.Tree.state c.make.new.tree) (g.T.Tree.state c.end_write.new.self) c.args.path.now _
      (rw c.in-Some.is at c.in_ok-writer.ensures.some) c.in_ok-end_write-in-Some.ensures.ok c.requires.whole;
}
