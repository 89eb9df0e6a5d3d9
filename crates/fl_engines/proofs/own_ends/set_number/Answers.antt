use Rattle.std.proofs.Common.{slice_index_or, refl}
use Rattle.std.proofs.Math.Seq.{map-set_same}
use Rattle.fl_engines.proofs.own_ends.set_number.Goals as goal

pub returns-clause-ends : goal.returns-clause-ends
returns-clause-ends g c = map-set_same (λ entry. entry.1) c.args.entries.now c.args.place (c.args.number, (slice_index_or c.args.entries.now c.args.place c.index-entries-place.result).1) c.index-entries-place.result refl
