use Rattle.std.proofs.Common.{◌∙◌, sym}
use Rattle.sh_eval.proofs.TeeingSteps.{are-others, each-done, each-so, each-stopped, is-here}
use Rattle.sh_eval.proofs.WritingLemmas.{kept-file, kept-stays}
use Rattle.sh_eval.proofs.writing.write_each.Goals as goal

pub loop-file-init : goal.loop-file-init
loop-file-init g c = record { rest = λ shell session seen input output errors came new all. all; there = c.requires.there }

pub append_to-requires-clause-there : goal.append_to-requires-clause-there
append_to-requires-clause-there g c κs within = is-here c.args.files.now c.loop-file.file-index c.file-item.result c.args.bytes.now c.file-item.is c.loop-file-test.true _ c.loop-file.invariant.there

pub returns-then-not-goes_on : goal.returns-then-not-goes_on
returns-then-not-goes_on g c = λ shell session seen input output errors.
    c.loop-file.invariant.rest shell session seen input output errors _ _
    (each-stopped c.args.files.now c.loop-file.file-index c.file-item.result c.args.bytes.now c.file-item.is c.loop-file-test.true _ _ _ (sym c.goes_on.ensures ∙ c.if-not-goes_on.true)
    (kept-file shell session _ _ seen input output errors _ _ c.file-item.result c.args.bytes.now _ _ c.kept-how.ensures c.append_to.ensures.kept c.append_to.ensures.held c.append_to.ensures.lent c.append_to.ensures.later c.append_to.ensures.ok c.append_to.ensures.failed))

pub loop-file-preserved : goal.loop-file-preserved
loop-file-preserved g c =
    record {
      rest = λ shell session seen input output errors came new rest. c.loop-file.invariant.rest shell session seen input output errors came new
          (each-so c.args.files.now c.loop-file.file-index c.file-item.result c.args.bytes.now c.file-item.is c.loop-file-test.true _ _ _ _ _ (sym c.goes_on.ensures ∙ c.if-not-goes_on.false)
          (kept-file shell session _ _ seen input output errors _ _ c.file-item.result c.args.bytes.now _ _ c.kept-how.ensures c.append_to.ensures.kept c.append_to.ensures.held c.append_to.ensures.lent c.append_to.ensures.later c.append_to.ensures.ok c.append_to.ensures.failed) rest);
      there = are-others c.args.files.now c.loop-file.file-index c.file-item.result c.args.bytes.now c.file-item.is c.loop-file-test.true _ _
          (kept-stays _ _ c.file-item.result c.args.bytes.now _ _ c.kept-how.ensures (sym c.goes_on.ensures ∙ c.if-not-goes_on.false) c.append_to.ensures.held) c.loop-file.invariant.there;
    }

pub returns : goal.returns
returns g c = λ shell session seen input output errors. c.loop-file.invariant.rest shell session seen input output errors _ _ (each-done c.args.files.now c.loop-file.file-index c.args.bytes.now _ c.loop-file-test.false)
