use Rattle.std.proofs.Common.{refl, ap, ◌∙◌, ◌++◌}
use Rattle.ut_regex.proofs.LiteralLemmas.{exact_followed}
use Rattle.ut_regex.proofs.literals.Required.followed_by.Goals as goal

pub returns-then-second : goal.returns-then-second
returns-then-second c = λ fold re last first second.
    exact_followed fold re last c.args.self c.args.second _ first second c.if-second.true (c.longer.ensures fold)
    (c.in_ok-extend_from_slice.ensures.items ∙ ap (λ bytes. c.args.self.suffix.items ++ bytes) c.deref.ensures.value) refl
    (c.in_ok-front.ensures fold re last first.front second.front)
