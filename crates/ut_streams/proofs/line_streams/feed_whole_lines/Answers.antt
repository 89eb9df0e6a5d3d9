use Rattle.std.proofs.Common.{◌++◌, ◌∙◌, ap, sym}
use Rattle.ps_lines.specs.Lines.{lines}
use Rattle.ut_streams.proofs.StreamLemmas.{lines-cut_last, OnOk-is_ok, OnOk-then, Wrote-then_hold, Wrote-whole_stopped}
use Rattle.ut_streams.proofs.line_streams.feed_whole_lines.Goals as goal

pub returns-in-Ok-clause-wrote : goal.returns-in-Ok-clause-wrote
returns-in-Ok-clause-wrote g c =
    Wrote-then_hold (g.L.LineStream.line_due c.args.each.now) (g.L.LineStream.line_due c.whole_lines.new.self) c.args.text.now c.cut_last_line.result.0.now
    c.cut_last_line.result.1.now c.hold.new.held.items c.args.out.now.items c.whole_lines.new.out.items _ c.cut_last_line.ensures.cut c.in-Ok.ensures.wrote
    (λ ok. OnOk-is_ok c.hold.result _ c.hold.ensures.ok ok ∙ ap (λ held. held ++ c.cut_last_line.result.1.now) c.requires)

pub returns-in-Ok-clause-selects : goal.returns-in-Ok-clause-selects
returns-in-Ok-clause-selects g c =
    OnOk-then c.hold.result _ _
    (λ held more.
    ap (λ held. g.L.LineStream.line_selects c.whole_lines.new.self (lines (held ++ more))) (held ∙ ap (λ held. held ++ c.cut_last_line.result.1.now) c.requires)
    ∙ c.in-Ok.ensures.selects (lines (c.cut_last_line.result.1.now ++ more))
    ∙ ap (λ coming. g.L.LineStream.line_selects c.args.each.now coming)
    (sym (lines-cut_last c.args.text.now c.cut_last_line.result.0.now c.cut_last_line.result.1.now more c.cut_last_line.ensures.cut)))
    c.hold.ensures.ok

pub returns-in-Err-clause-wrote : goal.returns-in-Err-clause-wrote
returns-in-Err-clause-wrote g c =
    Wrote-whole_stopped _ (g.L.LineStream.line_due c.args.each.now) (g.L.LineStream.line_due c.whole_lines.new.self) c.args.text.now c.cut_last_line.result.0.now
    c.cut_last_line.result.1.now c.args.out.now.items c.whole_lines.new.out.items c.cut_last_line.ensures.cut c.in-Err.ensures.wrote
