use Rattle.std.proofs.Common.{◌≡◌, ◌∷◌, ◌++◌, [], List, rules, subst}
use Rattle.ps_world.specs.Files.{IsOneOf}
use Rattle.ps_world.specs.Paths.{Components}
use Rattle.fl_commands.proofs.WriterLemmas.{among-front, among-shorter}
use Rattle.fl_commands.proofs.writers.Begun.add.Goals as goal

pub returns-then-is_err-clause-among : goal.returns-then-is_err-clause-among
returns-then-is_err-clause-among g c = λ at one.
    let same : c.push.new.self.items ≡ c.args.self.now.paths.items = search rules in
    among-front c.args.self.now.paths.items (c.args.path ∷ []) at (subst (λ (it : List Components). IsOneOf it at) same one)

pub returns-in-Err-clause-among : goal.returns-in-Err-clause-among
returns-in-Err-clause-among g c =
    let pushed : c.push.new.self.items ≡ c.args.self.now.paths.items ++ c.args.path ∷ [] = search rules in
    among-shorter _ _ c.push.new.self.items _ c.pop.ensures.items pushed
