use Rattle.ut_regex.proofs.LiteralLemmas.{looks-front}
use Rattle.ut_regex.proofs.search.Search.of_front.Goals as goal

pub returns-in-Some : goal.returns-in-Some
returns-in-Some c = λ re begun.
    looks-front c.args.fold re c.args.front c.in-Some.search c.in-Some.ensures.leaves c.in-Some.ensures.fold c.in-Some.ensures.some begun
