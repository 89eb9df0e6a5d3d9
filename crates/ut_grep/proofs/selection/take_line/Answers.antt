use Rattle.std.proofs.Common.{◌∙◌, ◌∷◌, ap, sym}
use Rattle.std.specs.Result.{is_ok}
use Rattle.ut_streams.proofs.StreamLemmas.{OnOk-then}
use Rattle.ut_regex.specs.Answers.{answers}
use Rattle.ut_grep.specs.Output.{picked, picked_by}
use Rattle.ut_grep.specs.Tallies.{due_of}
use Rattle.ut_grep.proofs.SelectionLemmas.{selects-tested, Wrote-tested}
use Rattle.ut_grep.proofs.selection.take_line.Goals as goal

pub returns-clause-wrote : goal.returns-clause-wrote
returns-clause-wrote c =
    let had = answers c.args.matcher.now in
    Wrote-tested (λ more. due_of c.args.tally.now (picked_by c.args.inverts had) (c.args.line.now ∷ more)) c.take_line.new.self c.args.inverts had (answers c.has-found.new.self)
    c.args.out.now.items c.take_line.new.out.items (is_ok c.take_line.result) c.has-found.ensures.same
    (c.take_line.ensures.wrote (picked_by c.args.inverts had) (sym (c.is_picked.ensures ∙ ap (picked c.args.inverts) c.has-found.ensures.answer)))

pub returns-clause-selects : goal.returns-clause-selects
returns-clause-selects c =
    let had = answers c.args.matcher.now in
    OnOk-then c.take_line.result _ _ (λ each more.
    selects-tested c.take_line.new.self c.args.inverts had (answers c.has-found.new.self) c.has-found.ensures.same more
    ∙ each (picked_by c.args.inverts had) (sym (c.is_picked.ensures ∙ ap (picked c.args.inverts) c.has-found.ensures.answer)) more) c.take_line.ensures.selects
