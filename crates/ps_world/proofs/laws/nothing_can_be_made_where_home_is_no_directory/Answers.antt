use Rattle.ps_world.proofs.StandingLemmas.{here-no_home, name-no_home}
use Rattle.ps_world.proofs.laws.nothing_can_be_made_where_home_is_no_directory.Goals as goal

pub returns-clause-here : goal.returns-clause-here
returns-clause-here c files home no_home = here-no_home files home no_home

pub returns-clause-name : goal.returns-clause-name
returns-clause-name c files home name no_home is_name is = name-no_home files home no_home name is_name is
