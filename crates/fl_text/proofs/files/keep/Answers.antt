use Rattle.fl_text.proofs.WritingLemmas.{kept-more}
use Rattle.fl_text.proofs.files.keep.Goals as goal

pub returns-clause-kept : goal.returns-clause-kept
returns-clause-kept c = λ new. kept-more c.args.files.now c.insert.new.self c.args.path.now c.in_ok-insert.ensures.updates.0
