use Rattle.std.proofs.Common.{None}
use Rattle.sh_eval.specs.Contract.{drawn_of, seen_of}
use Rattle.sh_eval.specs.Redirections.{in_redirections}
use Rattle.sh_eval.proofs.Growing.{adds-in_redirections}
use Rattle.sh_eval.proofs.OpeningLemmas.{can-skip, opens-led, shuts-led}
use Rattle.sh_eval.proofs.Steps.{wanted}
use Rattle.sh_eval.proofs.opening.lead_some.Goals as goal

pub returns-in_default-clause-err : goal.returns-in_default-clause-err
returns-in_default-clause-err g c = λ drawn input next adds.
    wanted (λ expansions. in_redirections c.args.way c.args.targets.now (next expansions)) _ (λ expansions. adds-in_redirections c.args.way c.args.targets.now (next expansions) (adds expansions))

pub returns-in-Ok-redirect_all-clause-ok : goal.returns-in-Ok-redirect_all-clause-ok
returns-in-Ok-redirect_all-clause-ok g c = λ drawn input.
    opens-led c.args.way c.args.targets.now _ _ _ _ c.requires.some c.in-Ok.ensures c.in-Ok-redirect_all.ensures.ok (c.in-Ok-redirect_all.ensures.does _ _ input _ _)

pub returns-in-Ok-redirect_all-clause-sound : goal.returns-in-Ok-redirect_all-clause-sound
returns-in-Ok-redirect_all-clause-sound g c = (c.in-Ok-redirect_all.ensures.does c.args.shell.now (seen_of (drawn_of None None) None None) 0 0 0).leaves_on.sound c.requires.sound

pub skip-how-requires-clause-sound : goal.skip-how-requires-clause-sound
skip-how-requires-clause-sound g c κs outlive = can-skip c.in-Err.stop c.args.targets.now _ _ (c.in-Err.ensures.does c.args.shell.now (seen_of (drawn_of None None) None None) 0 0 0) c.requires.sound

pub returns-in-Err-clause-err : goal.returns-in-Err-clause-err
returns-in-Err-clause-err g c = λ drawn input.
    shuts-led c.in-Err.stop c.args.way c.args.targets.now _ _ _ _ _ _ _ c.requires.some c.in-Ok.ensures c.in-Err.ensures.err (c.in-Err.ensures.does _ _ input _ _) (c.skip-how.ensures.skips drawn input)
    c.skip-how.ensures.streams c.lead_back.ensures
