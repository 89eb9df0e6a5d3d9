use Rattle.ps_world.proofs.PlacesLemmas.{first_component, last_component}
use Rattle.ps_world.proofs.components.split_component.Goals as goal

pub returns-in-Some-clause-first : goal.returns-in-Some-clause-first
returns-in-Some-clause-first c = first_component c.args.text.now c.in-Some.end c.in-Some.ensures.value c.in-Some.ensures.within

pub returns-in-None-clause-last : goal.returns-in-None-clause-last
returns-in-None-clause-last c = last_component c.args.text.now c.in-None.ensures.value
