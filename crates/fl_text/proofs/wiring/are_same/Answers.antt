use Rattle.fl_graph.proofs.CheckLemmas.{same_as_words}
use Rattle.fl_text.proofs.wiring.are_same.Goals as goal

pub returns : goal.returns
returns c = same_as_words c.args.one.now c.args.other.now c.is.result c.is.ensures.yes c.is.ensures.no
