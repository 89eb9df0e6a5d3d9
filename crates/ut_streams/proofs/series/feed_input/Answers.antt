use Rattle.std.proofs.Common.{rules, ◌≡◌, ◌-◌, ℕ, List, [], ◌∷◌, ◌++◌, length, take, drop, true, false, ap, sym, ◌∙◌, append_assoc, append-nil}
use Rattle.std.specs.Global.{Vec}
use Rattle.std.specs.List.{concat}
use Rattle.ps_lines.specs.Texts.{texts_of}
use Rattle.ut_streams.specs.Streams.{whole_texts, Wrote}
use Rattle.ut_streams.proofs.StreamLemmas.{OnOk-then}
use Rattle.ut_streams.proofs.SeriesLemmas.{Wrote-input_end, Wrote-input_stopped}
use Rattle.ut_streams.proofs.series.feed_input.Goals as goal

pub returns-in-Ok-clause-wrote : goal.returns-in-Ok-clause-wrote
returns-in-Ok-clause-wrote g c =
    Wrote-input_end (g.S.Series.due c.args.series.now) (g.S.Series.due c.feed_input_pieces.new.series) (concat (texts_of c.args.pieces.now)) c.args.out.now.items _
    c.feed_input_pieces.new.out.items _ _ c.in-Ok.ensures.wrote c.end_input.ensures.wrote

pub returns-in-Ok-clause-selects : goal.returns-in-Ok-clause-selects
returns-in-Ok-clause-selects g c =
    OnOk-then c.end_input.result _ _
    (λ ended others. ended others ∙ c.in-Ok.ensures.selects [] others
    ∙ ap (λ text. g.S.Series.selects c.args.series.now (text ∷ others)) (append-nil (concat (texts_of c.args.pieces.now))))
    c.end_input.ensures.selects

pub returns-in-Err-clause-wrote : goal.returns-in-Err-clause-wrote
returns-in-Err-clause-wrote g c =
    Wrote-input_stopped (g.S.Series.due c.args.series.now) (g.S.Series.due c.feed_input_pieces.new.series) (concat (texts_of c.args.pieces.now)) c.args.out.now.items _ _
    c.in-Err.ensures.wrote
