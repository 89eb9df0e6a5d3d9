use Rattle.ut_test.specs.Fields.{is_in}
use Rattle.ut_test.proofs.LineLaws.{fields_by-length}
use Rattle.ut_test.proofs.laws.there_is_a_field_for_each_name.Goals as goal

pub returns : goal.returns
returns c = λ ifs line names some. fields_by-length (is_in ifs) line names some
