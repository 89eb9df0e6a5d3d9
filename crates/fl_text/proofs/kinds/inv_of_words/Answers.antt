use Rattle.std.proofs.Common.{sym}
use Rattle.ps_lines.specs.Texts.{texts_of}
use Rattle.fl_text.proofs.KindLemmas.{inv_of-read, none-read}
use Rattle.fl_text.proofs.kinds.inv_of_words.Goals as goal

pub returns-in-Ok : goal.returns-in-Ok
returns-in-Ok c = sym (inv_of-read (texts_of c.args.words.now) c.in-Ok.inv c.in-Ok.ensures.words)

pub returns-in-Err : goal.returns-in-Err
returns-in-Err c = none-read (texts_of c.args.words.now) c.in-Err.fault c.none_of.result c.in-Err.ensures.fault c.none_of.ensures
