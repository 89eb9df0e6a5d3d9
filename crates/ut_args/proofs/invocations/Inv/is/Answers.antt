use Rattle.ut_args.proofs.CommandLemmas.{decided}
use Rattle.ut_args.proofs.invocations.Inv.is.Goals as goal

pub returns-clause-yes : goal.returns-clause-yes
returns-clause-yes c = (decided c.args.self.now c.args.other.now c.eq.result (rw (← c.all_words.ensures, ← c.all_words-2.ensures) c.eq.ensures)).0

pub returns-clause-no : goal.returns-clause-no
returns-clause-no c = (decided c.args.self.now c.args.other.now c.eq.result (rw (← c.all_words.ensures, ← c.all_words-2.ensures) c.eq.ensures)).1
