use Rattle.std.proofs.Common.{rules, ◌≡◌, ◌++◌, ◌==◌, take, length, ap, ◌∙◌}
use Rattle.std.proofs.lemmas.Bool.{eqb-true}
use Rattle.ut_regex.proofs.FrontLemmas.{both-true, followed-front}
use Rattle.ut_regex.proofs.front.Front.followed_by.Goals as goal

pub returns : goal.returns
returns c = λ fold re last.
    followed-front c.args.self c.args.second _ c.min-count.result c.if-not-self.false
    (c.in_ok-extend_from_slice.ensures.items ∙ ap (λ leaves. c.args.self.leaves.items ++ take c.min-count.result leaves) c.deref.ensures.value)
    (λ all.
    let both = both-true c.args.second.exact (c.min-count.result == c.len-3.result) all in
    let size : c.len-3.result ≡ length c.args.second.leaves.items = search rules in
    (both.0, eqb-true c.min-count.result c.len-3.result both.1 ∙ size)) fold re last
