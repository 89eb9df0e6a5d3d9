use Rattle.std.proofs.Common.{rules}
use Rattle.sh_words.proofs.BuildingLemmas.{run_made}
use Rattle.sh_words.proofs.building.Building.end_run.Goals as goal

pub returns-clause-built : goal.returns-clause-built
returns-clause-built c = λ more.
    run_made c.args.self.now.parts.items c.push.new.self.items c.literal.result c.args.self.now.run c.in-Some.quoted
    c.args.self.now.bytes.items c.in_ok-text.text more c.in-Some.is c.in_ok-push.ensures.items c.literal.ensures (search rules)
