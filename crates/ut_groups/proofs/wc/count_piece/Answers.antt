use Rattle.ut_groups.proofs.wc.count_piece.Goals as goal

pub returns : goal.returns
returns c = rw c.last_byte.ensures c.counted.ensures
