use Rattle.sh_parse.proofs.OneOutcome.{one_outcome_of}
use Rattle.sh_parse.proofs.laws.texts_are_read.Goals as goal

pub returns : goal.returns
returns c = record {
  reads = λ text. (one_outcome_of text).outcome;
  are = record {
    has = λ text. (one_outcome_of text).is;
    only = λ text other has. (one_outcome_of text).only other has;
  };
}
