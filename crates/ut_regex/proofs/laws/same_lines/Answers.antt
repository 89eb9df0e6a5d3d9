use Rattle.ut_regex.proofs.LineLemmas.{has_same}
use Rattle.ut_regex.proofs.laws.same_lines.Goals as goal

pub returns : goal.returns
returns c = λ fold whole re other same h.
    has_same fold whole c.args.line.now re other same h
