use Rattle.sh_lex.proofs.EndLemmas.{substitution_ends}
use Rattle.sh_lex.proofs.laws.substitutions_end_by_themselves.Goals as goal

pub returns : goal.returns
returns c = λ nest inside left place text after other fewer braces reads.
    substitution_ends nest inside left place text after other (record { fewer = fewer; braces = braces }) reads
