use Rattle.ut_test.specs.Fields.{is_in}
use Rattle.ut_test.proofs.LineLaws.{ended, parted, unchanged}
use Rattle.ut_test.proofs.laws.bytes_of_ifs_end_fields.Goals as goal

pub returns : goal.returns
returns c = record {
  ender = λ ifs field rest byte names some plain ends other. ended (is_in ifs) field rest byte names some plain ends other;
  white = λ ifs field rest first byte next names some plain white other. parted (is_in ifs) field rest first byte next names some plain white other;
  before = λ ifs line byte names white. unchanged (is_in ifs) line byte names white;
}
