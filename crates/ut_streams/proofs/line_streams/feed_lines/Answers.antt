use Rattle.std.proofs.Common.{◌++◌, ◌∙◌, ap, sym}
use Rattle.ps_lines.specs.Lines.{lines}
use Rattle.ps_lines.proofs.LineLemmas.{lines-held}
use Rattle.ut_streams.proofs.StreamLemmas.{OnOk-then, Wrote-held_then, Wrote-held_stopped}
use Rattle.ut_streams.proofs.line_streams.feed_lines.Goals as goal

pub returns-in-Ok-clause-wrote : goal.returns-in-Ok-clause-wrote
returns-in-Ok-clause-wrote g c =
    Wrote-held_then _ (g.L.LineStream.line_due c.args.each.now) (g.L.LineStream.line_due c.end_line.new.each) c.args.held.now.items c.args.piece.now c.in-Some.line.now
    c.in-Some.rest.now c.args.out.now.items c.end_line.new.out.items c.feed_whole_lines.new.out.items _ c.requires c.in-Some.ensures.cut c.in-Ok.ensures.wrote
    c.feed_whole_lines.ensures.wrote

pub returns-in-Ok-clause-selects : goal.returns-in-Ok-clause-selects
returns-in-Ok-clause-selects g c =
    OnOk-then c.feed_whole_lines.result _ _
    (λ fed more. fed more ∙ c.in-Ok.ensures.selects (lines (c.in-Some.rest.now ++ more))
    ∙ ap (λ coming. g.L.LineStream.line_selects c.args.each.now coming)
    (sym (lines-held c.args.held.now.items c.args.piece.now c.in-Some.line.now c.in-Some.rest.now more c.requires c.in-Some.ensures.cut)))
    c.feed_whole_lines.ensures.selects

pub returns-in-Err-clause-wrote : goal.returns-in-Err-clause-wrote
returns-in-Err-clause-wrote g c =
    Wrote-held_stopped _ (g.L.LineStream.line_due c.args.each.now) (g.L.LineStream.line_due c.end_line.new.each) c.args.held.now.items c.args.piece.now c.in-Some.line.now
    c.in-Some.rest.now c.args.out.now.items c.end_line.new.out.items c.requires c.in-Some.ensures.cut c.in-Err.ensures.wrote
