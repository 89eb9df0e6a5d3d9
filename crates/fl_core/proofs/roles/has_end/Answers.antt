use Rattle.std.proofs.Common.{rules}
use Rattle.fl_core.proofs.EndListLemmas.{reader_there, tee_there, writer_there}
use Rattle.fl_core.proofs.roles.has_end.Goals as goal

pub returns-in-Source-File : goal.returns-in-Source-File
returns-in-Source-File g c = reader_there c.args.kind.now c.args.node c.args.ends.now c.is_some.result c.in-Source-File.field-0-0 (search rules) (search rules)

pub returns-in-Sink-File : goal.returns-in-Sink-File
returns-in-Sink-File g c =
    writer_there c.args.kind.now c.args.node c.args.ends.now c.is_some-in-Sink-File.result c.in-Sink-File.field-0-0 c.in-Sink-File.field-0-1 (search rules) (search rules)

pub returns-in-TeeFile : goal.returns-in-TeeFile
returns-in-TeeFile g c = tee_there c.args.kind.now c.args.node c.args.ends.now c.is_some-in-TeeFile.result c.in-TeeFile.field-0 c.in-TeeFile.field-1 (search rules) (search rules)
