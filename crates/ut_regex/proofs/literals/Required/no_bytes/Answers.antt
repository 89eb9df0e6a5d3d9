use Rattle.ut_regex.specs.Tree.{line_begin, line_end, empty}
use Rattle.ut_regex.proofs.LiteralLemmas.{no_bytes_required}
use Rattle.ut_regex.proofs.literals.Required.no_bytes.Goals as goal

pub returns-clause-begin : goal.returns-clause-begin
returns-clause-begin c = λ fold. no_bytes_required _ c.new.ensures.items c.new-2.ensures.items fold line_begin (λ line from to h. h.1) (c.no_bytes.ensures.begin fold)

pub returns-clause-end : goal.returns-clause-end
returns-clause-end c = λ fold. no_bytes_required _ c.new.ensures.items c.new-2.ensures.items fold line_end (λ line from to h. h.1) (c.no_bytes.ensures.end fold)

pub returns-clause-empty : goal.returns-clause-empty
returns-clause-empty c = λ fold. no_bytes_required _ c.new.ensures.items c.new-2.ensures.items fold empty (λ line from to h. h) (c.no_bytes.ensures.empty fold)
