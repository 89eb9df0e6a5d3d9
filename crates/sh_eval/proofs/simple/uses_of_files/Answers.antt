use Rattle.std.proofs.Common.{List, Err, ap, map, ◌∙◌, ◌++◌}
use Rattle.ps_lines.specs.Texts.{texts_of}
use Rattle.sh_eval.specs.Redirections.{Use}
use Rattle.sh_eval.specs.Teeing.{written_use}
use Rattle.sh_eval.proofs.OpeningLemmas.{looked-in-vain}
use Rattle.sh_eval.proofs.simple.uses_of_files.Goals as goal

pub returns-in-Err-clause-err : goal.returns-in-Err-clause-err
returns-in-Err-clause-err g c = λ means adds shell session seen input output errors.
    rw c.how_of.ensures
    (looked-in-vain c.in-Err.error means adds shell session _ _ seen input output errors _ _ c.in-Err.ensures.state c.in-Err.ensures.cause.later (λ failed. c.in-Err.ensures.cause.failed (ap Err failed)))

pub returns-in-Ok-clause-found : goal.returns-in-Ok-clause-found
returns-in-Ok-clause-found g c = λ state held home.
    c.in-Ok.ensures.ok state held home
    ∙ ap (λ (it : List Use). it ++ map (written_use state) (texts_of c.files_written.result.now)) c.new-uses.ensures.items
    ∙ ap (map (written_use state)) c.files_written.ensures
