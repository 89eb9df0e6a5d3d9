use Rattle.ut_slices.proofs.EndLemmas.{BeginsLast-bytes}
use Rattle.ut_slices.proofs.ends.last_bytes_at.Goals as goal

pub returns : goal.returns
returns c = BeginsLast-bytes c.args.count c.args.text.now c.saturating_sub.result c.saturating_sub.ensures
