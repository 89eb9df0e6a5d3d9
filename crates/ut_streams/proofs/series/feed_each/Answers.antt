use Rattle.std.proofs.Common.{rules, ◌≡◌, ◌-◌, ℕ, List, [], ◌∷◌, ◌++◌, length, take, drop, true, false, ap, sym, ◌∙◌, append_assoc, append-nil}
use Rattle.std.specs.Global.{Vec}
use Rattle.std.specs.List.{concat}
use Rattle.ps_lines.specs.Texts.{texts_of}
use Rattle.ut_streams.specs.Streams.{whole_texts, Wrote}
use Rattle.ut_streams.proofs.StreamLemmas.{Wrote-broken}
use Rattle.ut_streams.proofs.SeriesLemmas.{inputs-first, Wrote-all_inputs, Wrote-next_input}
use Rattle.ut_streams.proofs.series.feed_each.Goals as goal

pub loop-left-preserved : goal.loop-left-preserved
loop-left-preserved g c =
    let left = c.loop-left.left.now in
    let rest : List (Vec (Vec ℕ)) = take (length left - 1) (drop 1 left) in
    let text = concat (texts_of c.as_slice.result.now) in
    let same : whole_texts left ≡ text ∷ whole_texts rest =
    inputs-first left _ c.in-len1-up.len_at_least ∙ ap (λ (input : Vec (Vec ℕ)). concat (texts_of input.items) ∷ whole_texts rest) (sym c.input-item.is)
    ∙ ap (λ pieces. concat (texts_of pieces) ∷ whole_texts rest) (sym c.as_slice.ensures.value) in (
      Wrote-next_input (λ more. g.S.Series.due c.args.series.now (whole_texts c.args.inputs.now ++ more)) (g.S.Series.due c.loop-left.series) (g.S.Series.due c.feed_input.new.series)
          left rest text c.args.out.now.items c.loop-left.out.items c.feed_input.new.out.items true same c.loop-left.invariant.0 c.in-Ok.ensures.wrote,
      λ more. c.in-Ok.ensures.selects (whole_texts rest ++ more) ∙ ap (λ texts. g.S.Series.selects c.loop-left.series (texts ++ more)) (sym same) ∙ c.loop-left.invariant.1 more,
      c.in-Ok.ensures.spent,
    )

pub returns-in-Err-clause-wrote : goal.returns-in-Err-clause-wrote
returns-in-Err-clause-wrote g c =
    let left = c.loop-left.left.now in
    let rest : List (Vec (Vec ℕ)) = take (length left - 1) (drop 1 left) in
    let text = concat (texts_of c.as_slice.result.now) in
    let same : whole_texts left ≡ text ∷ whole_texts rest =
    inputs-first left _ c.in-len1-up.len_at_least ∙ ap (λ (input : Vec (Vec ℕ)). concat (texts_of input.items) ∷ whole_texts rest) (sym c.input-item.is)
    ∙ ap (λ pieces. concat (texts_of pieces) ∷ whole_texts rest) (sym c.as_slice.ensures.value) in
    Wrote-broken (λ more. g.S.Series.due c.args.series.now (whole_texts c.args.inputs.now ++ more)) (λ more. g.S.Series.due c.feed_input.new.series (whole_texts rest ++ more)) _
    c.args.out.now.items c.feed_input.new.out.items
    (Wrote-next_input (λ more. g.S.Series.due c.args.series.now (whole_texts c.args.inputs.now ++ more)) (g.S.Series.due c.loop-left.series) (g.S.Series.due c.feed_input.new.series)
    left rest text c.args.out.now.items c.loop-left.out.items c.feed_input.new.out.items false same c.loop-left.invariant.0 c.in-Err.ensures.wrote)

pub returns-clause-wrote : goal.returns-clause-wrote
returns-clause-wrote g c =
    Wrote-all_inputs (λ more. g.S.Series.due c.args.series.now (whole_texts c.args.inputs.now ++ more)) (g.S.Series.due c.loop-left.series) c.loop-left.left.now c.args.out.now.items
    c.loop-left.out.items c.in_default.len_below c.loop-left.invariant.0
