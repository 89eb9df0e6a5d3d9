use Rattle.ut_test.proofs.EchoLemmas.{joined_all}
use Rattle.ut_test.proofs.writing.put_all.Goals as goal

pub returns-in_ok-put_others-in-len1-up : goal.returns-in_ok-put_others-in-len1-up
returns-in_ok-put_others-in-len1-up c =
    joined_all c.args.args.now c.first-item.result c.args.out.now.items c.as_slice.result.now c.extend_from_slice.new.self.items c.put_others.new.out.items
    c.in-len1-up.len_at_least c.first-item.is c.as_slice.ensures.value c.in_ok-extend_from_slice-in-len1-up.ensures.items c.in_ok-put_others-in-len1-up.ensures
