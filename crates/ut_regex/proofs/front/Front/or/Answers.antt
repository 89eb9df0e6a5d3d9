use Rattle.std.proofs.Common.{rules, ◌≡◌, ◌≤◌, ◌&&◌, ◌==◌, length, subst, ap, ◌∙◌}
use Rattle.ut_regex.specs.Inner.Fronts.{IsJoined}
use Rattle.ut_regex.proofs.FrontLemmas.{both-true, either-front}
use Rattle.ut_regex.proofs.front.Front.or.Goals as goal

pub returns : goal.returns
returns c = λ fold re other.
    let made = c.in_ok-joined.field-0.items in
    let joined = c.in_ok-joined.ensures in
    let first : length c.deref.result.now ≡ length c.args.self.leaves.items = ap length c.deref.ensures.value in
    let second : length c.deref-2.result.now ≡ length c.args.second.leaves.items = ap length c.deref-2.ensures.value in
    either-front c.args.self c.args.second _
    (subst (λ leaves. IsJoined made leaves c.args.second.leaves.items (length made)) c.deref.ensures.value
    (subst (λ leaves. IsJoined made c.deref.result.now leaves (length made)) c.deref-2.ensures.value joined.joined))
    (subst (λ size. length made ≤ size) first joined.short.0) (subst (λ size. length made ≤ size) second joined.short.1)
    (λ all.
    let exact = both-true (c.args.self.exact && c.args.second.exact) (c.len.result == c.len-2.result) all in
    let both = both-true c.args.self.exact c.args.second.exact exact.0 in
    let alike : length c.deref.result.now ≡ length c.deref-2.result.now = search rules in
    let size = joined.whole alike in
    (both.0, both.1, size ∙ first, size ∙ alike ∙ second)) fold re other
