use Rattle.fl_nodes.proofs.DealLemmas.{counted-each, each-counted, has_each-append}
use Rattle.fl_nodes.proofs.laws.each_half_is_there_where_none_is_wanted_twice.Goals as goal

pub returns-clause-counted : goal.returns-clause-counted
returns-clause-counted g c = λ stash edges. (each-counted stash edges, counted-each stash edges)

pub returns-clause-turns : goal.returns-clause-turns
returns-clause-turns g c = λ stash front behind. has_each-append stash front behind
