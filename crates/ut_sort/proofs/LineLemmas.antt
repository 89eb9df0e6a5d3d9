-- Lines as parts of a text.
use Rattle.std.proofs.Common.{append_assoc, append-nil}
use Rattle.std.proofs.lemmas.Bool.Decides.{nat_tests}
use Rattle.ps_lines.proofs.LineLemmas.{lines-first, lines-plain, lines-empty}
use Rattle.ut_streams.proofs.StreamLemmas.{Wrote-same, Put-none, Put-after, Put-broken}

pub ruleset line_puts = (Put-none, Put-after, Put-broken)

pub ruleset gathers = (Wrote-same, append_assoc)

pub ruleset line_steps = (append_assoc, append-nil, nat_tests, lines-first, lines-plain, lines-empty)
