use Rattle.ps_lines.proofs.TextsLemmas.{texts_of-clones}
use Rattle.ut_options.proofs.texts.Texts.copy_of.Goals as goal

pub returns : goal.returns
returns c = texts_of-clones c.args.texts.now c.in_ok-texts.texts.items c.in_ok-texts.ensures.ok
