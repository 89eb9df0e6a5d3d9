use Rattle.ut_regex.proofs.LiteralLemmas.{before_contained, front-looks}
use Rattle.ut_regex.proofs.search.Search.of.Goals as goal

pub returns-then-is_empty : goal.returns-then-is_empty
returns-then-is_empty c = front-looks c.of_front.result c.args.fold c.args.required c.of_front.ensures

pub returns : goal.returns
returns c = λ re required.
    c.in_ok-of_literal.ensures re (λ line from to spans.
    c.longer-literal.ensures c.args.fold line (required.inner line from to spans) (before_contained c.args.fold line _ to (required.suffix line from to spans)))
