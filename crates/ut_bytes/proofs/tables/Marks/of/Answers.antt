use Rattle.ut_bytes.proofs.TableLemmas.{marked-is}
use Rattle.ut_bytes.proofs.tables.Marks.of.Goals as goal

pub returns : goal.returns
returns c = marked-is c.in_ok-marks.marks.items c.mark.new.marks.items c.args.bytes.now 256 (c.in_ok-marks.ensures.items_if_clones_equal (λ mark same. same)) c.mark.ensures.marked
