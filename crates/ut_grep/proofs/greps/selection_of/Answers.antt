use Rattle.std.proofs.Common.{◌∙◌, ap, refl, subst}
use Rattle.ut_regex.specs.Answers.{is_had}
use Rattle.ut_regex.specs.Several.{any_of, trees_of}
use Rattle.ut_grep.specs.Patterns.{ArePatterns}
use Rattle.ut_grep.proofs.PatternLemmas.{all-found}
use Rattle.ut_grep.proofs.greps.selection_of.Goals as goal

pub returns-clause-test : goal.returns-clause-test
returns-clause-test c =
    let args = c.args.args.now in
    all-found args (trees_of c.in-Ok.expressions.items) _
    (subst (λ patterns. ArePatterns args.syntax patterns (trees_of c.in-Ok.expressions.items)) c.as_slice.ensures c.in-Ok.ensures.read)
    (λ line. c.in_ok-matcher.ensures.answers line ∙ ap (λ items. is_had args.ignores_case args.whole_lines (any_of (trees_of items)) line) c.as_slice-2.ensures.value)
    args.inverts refl
