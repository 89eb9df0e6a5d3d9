use Rattle.std.proofs.Common.{◌∙◌}
use Rattle.fl_core.proofs.RoleLemmas.{position_is}
use Rattle.fl_core.proofs.roles.place_of.Goals as goal

pub returns : goal.returns
returns g c = c.first_with.ensures ∙ position_is c.args.number c.args.ends.now
