use Rattle.std.proofs.Common.{rules, subst, nat_le, length, ◌≡◌, []}
use Rattle.std.specs.Bool.{Decides}
use Rattle.ut_sort.specs.Writing.{left_of}
use Rattle.ut_sort.proofs.PlaceLemmas.{done-is}
use Rattle.ut_sort.proofs.writing.SortedLines.is_done.Goals as goal

pub returns : goal.returns
returns c =
    let size : length c.args.self.now.places.items ≡ c.len.result = search rules in
    subst (λ size. Decides (nat_le size c.args.self.now.given) (left_of c.args.self.now ≡ [])) size
    (done-is c.args.self.now.text.items c.args.self.now.places.items c.args.self.now.given)
