use Rattle.std.proofs.Common.{ap, ◌∙◌, sym}
use Rattle.sh_eval.specs.States.{grown_at}
use Rattle.sh_eval.proofs.WritingLemmas.{same-pipes, written-output, written-errors, written-pipe, written-file, written-null}
use Rattle.sh_eval.proofs.writing.write_to.Goals as goal

pub returns-in-Output-clause-evaluates : goal.returns-in-Output-clause-evaluates
returns-in-Output-clause-evaluates g c =
    λ shell session drawn input same. rw (c.in-Output.is, c.written.ensures)
    (same-pipes _ _ _ _ _ _ _ _ _ same
    (written-output shell session _ drawn input _ c.args.bytes.now _ _ _ _ _ _ _ c.write_all.ensures.ok c.write_all.ensures.err c.write_all.ensures.cause))

pub returns-in-Errors-clause-evaluates : goal.returns-in-Errors-clause-evaluates
returns-in-Errors-clause-evaluates g c =
    λ shell session drawn input same. rw (c.in-Errors.is, c.written-in-Errors.ensures)
    (same-pipes _ _ _ _ _ _ _ _ _ same
    (written-errors shell session _ drawn input _ c.args.bytes.now _ _ _ _ _ _ _ c.write_all-in-Errors.ensures.ok c.write_all-in-Errors.ensures.err c.write_all-in-Errors.ensures.cause))

pub returns-in-Ok-clause-evaluates : goal.returns-in-Ok-clause-evaluates
returns-in-Ok-clause-evaluates g c =
    λ shell session drawn input same. rw c.in-Pipe.is
    (written-pipe shell session _ _ _ _ c.args.bytes.now _ (c.in-Ok.ensures.ok ∙ ap (grown_at _ c.args.bytes.now) (sym same)))

pub returns-in-File-clause-evaluates : goal.returns-in-File-clause-evaluates
returns-in-File-clause-evaluates g c =
    λ shell session drawn input same. rw (c.in-File.is, c.kept.ensures)
    (same-pipes _ _ _ _ _ _ _ _ _ same
    (written-file shell session _ _ _ input _ _ _ _ _ c.args.bytes.now _ c.append_to.ensures.kept c.append_to.ensures.held c.append_to.ensures.lent c.append_to.ensures.later c.append_to.ensures.ok c.append_to.ensures.failed))

pub returns-in-Null-clause-evaluates : goal.returns-in-Null-clause-evaluates
returns-in-Null-clause-evaluates g c = λ shell session drawn input same. rw c.in-Null.is (same-pipes _ _ _ _ _ _ _ _ _ same (written-null c.args.bytes.now _))
