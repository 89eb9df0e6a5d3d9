use Rattle.sh_eval.specs.States.{State}
use Rattle.sh_eval.specs.Contract.{point_of}
use Rattle.sh_eval.specs.Redirections.{leading, led_to}
use Rattle.sh_eval.proofs.RedirectionSteps.{copied, wants-memory}
use Rattle.sh_eval.proofs.redirections.copy.Goals as goal

pub returns-in-Ok-clause-does : goal.returns-in-Ok-clause-does
returns-in-Ok-clause-does c = λ shell tree seen faults. copied c.args.number c.args.text.now _ shell _ _ tree seen faults c.in-Ok.ensures c.lead.ensures

pub returns-in-Err-clause-does : goal.returns-in-Err-clause-does
returns-in-Err-clause-does c = λ shell tree seen faults. wants-memory (λ (state : State). leading c.args.number (led_to c.args.text.now state.session.streams) state) (point_of shell c.args.session.now tree seen faults) (λ state path one. one)
