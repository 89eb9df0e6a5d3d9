use Rattle.std.proofs.Common.{ap, ◌∙◌}
use Rattle.ps_world.specs.Paths.{has_slash}
use Rattle.sh_pattern.proofs.ExpansionLemmas.{same_slashes}
use Rattle.sh_pattern.proofs.expansion.follow_written.Goals as goal

pub place_in-requires-clause-part : goal.place_in-requires-clause-part
place_in-requires-clause-part g c κs within = ap has_slash (c.as_slice.ensures.value ∙ c.in_ok-name.ensures) ∙ same_slashes c.args.component.now ∙ c.requires.part
