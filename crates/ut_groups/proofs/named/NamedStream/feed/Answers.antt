use Rattle.std.proofs.Common.{◌-◌, length, take, get_or}
use Rattle.std.specs.Option.{option_to_list}
use Rattle.ut_groups.proofs.NamedLemmas.{split-last, Wrote-passed}
use Rattle.ut_groups.proofs.named.NamedStream.feed.Goals as goal

pub returns-clause-wrote : goal.returns-clause-wrote
returns-clause-wrote c =
    let piece = c.args.piece.now in
    Wrote-passed c.args.self.now.name.items (option_to_list c.args.self.now.last) piece (take (length piece - 1) piece) (get_or piece (length piece - 1) 0)
    c.args.out.now.items c.pass-passed.new.out.items _ (split-last piece c.in-len1-up.len_at_least) c.pass-passed.ensures
