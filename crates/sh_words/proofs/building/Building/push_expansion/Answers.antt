use Rattle.sh_words.proofs.BuildingLemmas.{expansion_added}
use Rattle.sh_words.proofs.building.Building.push_expansion.Goals as goal

pub returns : goal.returns
returns c = λ more.
    expansion_added c.args.self.now.parts.items c.end_run.new.self.parts.items c.push.new.self.items c.args.part
    c.args.self.now.run c.end_run.new.self.run c.args.self.now.bytes.items c.end_run.new.self.bytes.items more
    c.in_ok-end_run.ensures.built c.in_ok-end_run.ensures.run c.in_ok-push.ensures.items c.requires
