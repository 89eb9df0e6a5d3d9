use Rattle.ut_test.specs.Fields.{is_in}
use Rattle.ut_test.proofs.LineLaws.{fields_by-plain}
use Rattle.ut_test.proofs.laws.a_line_without_bytes_of_ifs_is_the_first_field.Goals as goal

pub returns : goal.returns
returns c = λ ifs line names plain some. fields_by-plain (is_in ifs) line names plain
