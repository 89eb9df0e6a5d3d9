use Rattle.std.proofs.Common.{◌∙◌}
use Rattle.sh_parse.proofs.Behinds.{word_ended}
use Rattle.sh_parse.proofs.texts.take_end.Goals as goal

pub returns-clause-end : goal.returns-clause-end
returns-clause-end c = λ marks known.
    c.unwrap_or.ensures
    ∙ (word_ended marks c.args.ends.now.items c.pop.new.self.items c.pop.result _ _ c.pop.ensures.items c.args.ends.now.ok.0 c.pop.ensures.cases known).0

pub returns-clause-left : goal.returns-clause-left
returns-clause-left c = λ marks known.
    (word_ended marks c.args.ends.now.items c.pop.new.self.items c.pop.result _ _ c.pop.ensures.items c.args.ends.now.ok.0 c.pop.ensures.cases known).1
