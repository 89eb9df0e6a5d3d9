use Rattle.sh_eval.specs.Redirections.{in_redirections}
use Rattle.sh_eval.proofs.Growing.{adds-in_redirections}
use Rattle.sh_eval.proofs.OpeningLemmas.{faults-so, if_err, if_ok, opens-free, shuts-free}
use Rattle.sh_eval.proofs.opening.open.Goals as goal

pub returns-in-Err-clause-err : goal.returns-in-Err-clause-err
returns-in-Err-clause-err g c = λ drawn input found operands next adds.
    c.in-Err.ensures.err _ _ _ _ _ found operands (λ expansions at_first. in_redirections c.args.way c.args.targets.now (next expansions))
    (λ expansions at_first. adds-in_redirections c.args.way c.args.targets.now (next expansions) (adds expansions))

pub returns-clause-ok : goal.returns-clause-ok
returns-clause-ok g c =
    if_ok c.lead_all.result (λ before opens drawn input found operands. opens-free c.args.targets.now found _ _ _ _ _ _ _ _ _ c.in-Ok.ensures.free operands c.in-Ok.ensures.ok c.in-Ok.ensures.state (faults-so input _ _ _ _ c.in-Ok.ensures.calm) c.args.way before _ (opens drawn input))
    c.lead_all.ensures.ok

pub returns-clause-err : goal.returns-clause-err
returns-clause-err g c =
    if_err c.lead_all.result (λ how shuts drawn input found operands. shuts-free c.args.targets.now found _ _ _ _ _ _ _ _ _ c.in-Ok.ensures.free operands c.in-Ok.ensures.ok c.in-Ok.ensures.state (faults-so input _ _ _ _ c.in-Ok.ensures.calm) c.args.way how _ (shuts drawn input))
    c.lead_all.ensures.err
