use Rattle.std.proofs.Common.{map}
use Rattle.sh_tree.specs.Views.{redir_tree}
use Rattle.sh_eval.specs.Expanding.{with_targets}
use Rattle.sh_eval.specs.Inner.Opening.{held_opened}
use Rattle.sh_eval.proofs.OpeningLemmas.{adds-held_opened, if_err, if_ok, opens-tail, shuts-stopped, shuts-tail}
use Rattle.sh_eval.proofs.opening.open_tail.Goals as goal

pub returns-in-Err-clause-err : goal.returns-in-Err-clause-err
returns-in-Err-clause-err g c = λ drawn input.
    shuts-stopped (λ expansions. with_targets expansions (map redir_tree c.args.redirs.now)) (λ targets expansions. held_opened targets) _ _ _ (λ targets expansions next adds. adds-held_opened targets next adds) (c.in-Err.ensures.err drawn input)

pub returns-clause-ok : goal.returns-clause-ok
returns-clause-ok g c =
    if_ok c.open_held.result (λ before opens drawn input. opens-tail (map redir_tree c.args.redirs.now) _ _ _ _ _ before c.as_slice.ensures.value (c.in-Ok.ensures.ok drawn input) (opens drawn input)) c.open_held.ensures.ok

pub returns-clause-err : goal.returns-clause-err
returns-clause-err g c =
    if_err c.open_held.result (λ how shuts drawn input. shuts-tail (map redir_tree c.args.redirs.now) _ _ _ _ _ how c.as_slice.ensures.value (c.in-Ok.ensures.ok drawn input) (shuts drawn input)) c.open_held.ensures.err
