use Rattle.std.proofs.Common.{rules, ◌≡◌, ◌-◌, ℕ, List, [], ◌∷◌, ◌++◌, length, take, drop, true, false, ap, sym, ◌∙◌, append_assoc, append-nil}
use Rattle.std.specs.Global.{Vec}
use Rattle.std.specs.List.{concat}
use Rattle.ps_lines.specs.Texts.{texts_of}
use Rattle.ut_streams.specs.Streams.{whole_texts, Wrote}
use Rattle.ut_streams.proofs.StreamLemmas.{Wrote-broken}
use Rattle.ut_streams.proofs.SeriesLemmas.{pieces-first, Wrote-all_pieces, Wrote-next_piece}
use Rattle.ut_streams.proofs.series.feed_input_pieces.Goals as goal

pub loop-left-preserved : goal.loop-left-preserved
loop-left-preserved g c =
    let left = c.loop-left.left.now in
    let rest : List (Vec ℕ) = take (length left - 1) (drop 1 left) in
    let piece = c.as_slice.result.now in
    let same : concat (texts_of left) ≡ piece ++ concat (texts_of rest) =
    pieces-first left _ c.in-len1-up.len_at_least ∙ ap (λ (piece : Vec ℕ). piece.items ++ concat (texts_of rest)) (sym c.piece-item.is)
    ∙ ap (λ piece. piece ++ concat (texts_of rest)) (sym c.as_slice.ensures.value) in (
      λ others. Wrote-next_piece (λ more. g.S.Series.due c.args.series.now ((concat (texts_of c.args.pieces.now) ++ more) ∷ others)) (λ text. g.S.Series.due c.loop-left.series (text ∷ others))
          (λ text. g.S.Series.due c.feed.new.self (text ∷ others)) left rest piece c.args.out.now.items c.loop-left.out.items c.feed.new.out.items true same
          (c.loop-left.invariant.0 others) (c.in-Ok.ensures.wrote others),
      λ more others. c.in-Ok.ensures.selects (concat (texts_of rest) ++ more) others
          ∙ ap (λ text. g.S.Series.selects c.loop-left.series (text ∷ others)) (sym (append_assoc piece (concat (texts_of rest)) more) ∙ ap (λ text. text ++ more) (sym same))
          ∙ c.loop-left.invariant.1 more others,
      c.in-Ok.ensures.spent,
    )

pub returns-in-Err-clause-wrote : goal.returns-in-Err-clause-wrote
returns-in-Err-clause-wrote g c =
    let left = c.loop-left.left.now in
    let rest : List (Vec ℕ) = take (length left - 1) (drop 1 left) in
    let piece = c.as_slice.result.now in
    let same : concat (texts_of left) ≡ piece ++ concat (texts_of rest) =
    pieces-first left _ c.in-len1-up.len_at_least ∙ ap (λ (piece : Vec ℕ). piece.items ++ concat (texts_of rest)) (sym c.piece-item.is)
    ∙ ap (λ piece. piece ++ concat (texts_of rest)) (sym c.as_slice.ensures.value) in
    λ others. Wrote-broken (λ more. g.S.Series.due c.args.series.now ((concat (texts_of c.args.pieces.now) ++ more) ∷ others))
    (λ more. g.S.Series.due c.feed.new.self ((concat (texts_of rest) ++ more) ∷ others)) _ c.args.out.now.items c.feed.new.out.items
    (Wrote-next_piece (λ more. g.S.Series.due c.args.series.now ((concat (texts_of c.args.pieces.now) ++ more) ∷ others)) (λ text. g.S.Series.due c.loop-left.series (text ∷ others))
    (λ text. g.S.Series.due c.feed.new.self (text ∷ others)) left rest piece c.args.out.now.items c.loop-left.out.items c.feed.new.out.items false same
    (c.loop-left.invariant.0 others) (c.in-Err.ensures.wrote others))

pub returns-clause-wrote : goal.returns-clause-wrote
returns-clause-wrote g c =
    λ others. Wrote-all_pieces (λ more. g.S.Series.due c.args.series.now ((concat (texts_of c.args.pieces.now) ++ more) ∷ others)) (λ text. g.S.Series.due c.loop-left.series (text ∷ others))
    c.loop-left.left.now c.args.out.now.items c.loop-left.out.items c.in_default.len_below (c.loop-left.invariant.0 others)
