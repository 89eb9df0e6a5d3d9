use Rattle.std.proofs.Common.{◌∙◌, ◌∷◌, ap, sym}
use Rattle.sh_parse.specs.Inner.Built.{level_of, levels_of}
use Rattle.sh_parse.proofs.Arounds.{levels_last}
use Rattle.sh_parse.proofs.building.Building.leave.Goals as goal

pub returns-in-Some-clause-around : goal.returns-in-Some-clause-around
returns-in-Some-clause-around c =
    ap levels_of c.in-Some.ensures.items ∙ levels_last c.pop.new.self.items c.in-Some.outside
    ∙ ap (λ x. level_of x ∷ levels_of c.pop.new.self.items) (sym c.replace.ensures.after)
