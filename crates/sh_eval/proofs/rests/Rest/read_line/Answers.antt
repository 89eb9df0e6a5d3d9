use Rattle.std.proofs.Common.{rules, ◌≡◌, ℕ, List, ◌++◌, ◌-◌, take, drop, length, ap, ◌∙◌}
use Rattle.std.proofs.Math.Seq.{drop-length}
use Rattle.std.proofs.lemmas.List.{take_rest}
use Rattle.sh_eval.specs.Builtins.{line_in, behind_line}
use Rattle.sh_eval.proofs.ReadingLemmas.{kept-closed, kept-plain, rest-read}
use Rattle.sh_eval.proofs.rests.Rest.read_line.Goals as goal

pub returns-in_ok-extend_from_slice-in-Some-clause-line : goal.returns-in_ok-extend_from_slice-in-Some-clause-line
returns-in_ok-extend_from_slice-in-Some-clause-line c =
    c.in_ok-extend_from_slice-in-Some.ensures.items
    ∙ ap (λ (it : List ℕ). c.args.line.now.items ++ it)
    ((kept-closed _ _ _ c.in-Some.ensures.cut.plain c.in-Some.ensures.cut.whole).0 ∙ ap line_in (take_rest c.as_slice.result.now c.self.inside.read ∙ ap (drop c.self.inside.read) c.as_slice.ensures.value ∙ c.self.view_is))

pub returns-in_ok-extend_from_slice-in-Some-clause-rest : goal.returns-in_ok-extend_from_slice-in-Some-clause-rest
returns-in_ok-extend_from_slice-in-Some-clause-rest c =
    rest-read c.self.inside.text.items _ _ _ c.self.inside.read _ (take_rest c.as_slice.result.now c.self.inside.read ∙ ap (drop c.self.inside.read) c.as_slice.ensures.value) c.in-Some.ensures.cut.whole (search rules)
    ∙ (kept-closed _ _ _ c.in-Some.ensures.cut.plain c.in-Some.ensures.cut.whole).1 ∙ ap behind_line (take_rest c.as_slice.result.now c.self.inside.read ∙ ap (drop c.self.inside.read) c.as_slice.ensures.value ∙ c.self.view_is)

pub returns-in_ok-extend_from_slice-in-None-clause-line : goal.returns-in_ok-extend_from_slice-in-None-clause-line
returns-in_ok-extend_from_slice-in-None-clause-line c =
    c.in_ok-extend_from_slice-in-None.ensures.items
    ∙ ap (λ (it : List ℕ). c.args.line.now.items ++ it) ((kept-plain _ c.in-None.ensures.none).0 ∙ ap line_in (take_rest c.as_slice.result.now c.self.inside.read ∙ ap (drop c.self.inside.read) c.as_slice.ensures.value ∙ c.self.view_is))

pub returns-in_ok-extend_from_slice-in-None-clause-rest : goal.returns-in_ok-extend_from_slice-in-None-clause-rest
returns-in_ok-extend_from_slice-in-None-clause-rest c =
    let whole : c.len-self-inside.result ≡ length c.self.inside.text.items = search rules in
    ap (λ (it : ℕ). drop it c.self.inside.text.items) whole ∙ drop-length c.self.inside.text.items
    ∙ (kept-plain (take (length c.as_slice.result.now - c.self.inside.read) (drop c.self.inside.read c.as_slice.result.now)) c.in-None.ensures.none).1 ∙ ap behind_line (take_rest c.as_slice.result.now c.self.inside.read ∙ ap (drop c.self.inside.read) c.as_slice.ensures.value ∙ c.self.view_is)
