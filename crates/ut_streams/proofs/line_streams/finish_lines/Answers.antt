use Rattle.std.proofs.Common.{[], ◌++◌}
use Rattle.ps_lines.specs.Lines.{lines}
use Rattle.ut_streams.proofs.StreamLemmas.{Put-last, Put-last_stopped, lines_left, some_bytes}
use Rattle.ut_streams.proofs.line_streams.finish_lines.Goals as goal

pub returns-in-Ok-clause-wrote : goal.returns-in-Ok-clause-wrote
returns-in-Ok-clause-wrote g c =
    Put-last (g.L.LineStream.line_due c.args.each.now) (g.L.LineStream.line_due c.line.new.self) (lines (c.args.held.now ++ [])) c.args.held.now c.args.out.now.items
    c.line.new.out.items c.end-in-Ok.new.out.items _ (lines_left c.args.held.now c.requires (some_bytes c.args.held.now c.if-is_empty.ensures)) c.in-Ok.ensures.wrote
    c.end-in-Ok.ensures.wrote

pub returns-in-Ok-clause-selected : goal.returns-in-Ok-clause-selected
returns-in-Ok-clause-selected g c =
    rw (lines_left c.args.held.now c.requires (some_bytes c.args.held.now c.if-is_empty.ensures), ← c.in-Ok.ensures.selects []) c.end-in-Ok.ensures.selected

pub returns-in-Err-clause-wrote : goal.returns-in-Err-clause-wrote
returns-in-Err-clause-wrote g c =
    Put-last_stopped (g.L.LineStream.line_due c.args.each.now) (g.L.LineStream.line_due c.line.new.self) (lines (c.args.held.now ++ [])) c.args.held.now c.args.out.now.items
    c.line.new.out.items (lines_left c.args.held.now c.requires (some_bytes c.args.held.now c.if-is_empty.ensures)) c.in-Err.ensures.wrote
