use Rattle.std.proofs.Common.{rules}
use Rattle.ut_bytes.proofs.StepLemmas.{edited-append, Wrote-edited}
use Rattle.ut_bytes.specs.Inner.Edits.{edited_by, squeezed_by}
use Rattle.ut_bytes.proofs.trs.TrStream.feed.Goals as goal

pub returns-in-Ok-clause-wrote : goal.returns-in-Ok-clause-wrote
returns-in-Ok-clause-wrote c =
    Wrote-edited (edited_by c.args.self.now.edit) (squeezed_by c.args.self.now.squeezed c.args.self.now.last) (squeezed_by c.args.self.now.squeezed c.squeeze-self.result)
    c.args.piece.now c.args.out.now.items c.put_edited.new.out.items c.squeeze-self.new.out.items c.len-from.result
    (edited-append c.args.self.now.edit c.args.piece.now) c.in-Ok.ensures.ok (search rules) c.squeeze-self.ensures
