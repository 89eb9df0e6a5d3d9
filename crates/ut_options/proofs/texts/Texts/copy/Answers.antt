use Rattle.std.proofs.Common.{◌∙◌}
use Rattle.ps_lines.proofs.TextsLemmas.{texts_of-clones}
use Rattle.ut_options.proofs.texts.Texts.copy.Goals as goal

pub returns : goal.returns
returns c = texts_of-clones c.self.inside.texts.items c.in_ok-texts.texts.items c.in_ok-texts.ensures.cases.0 ∙ c.self.view_is
