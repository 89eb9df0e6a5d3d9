use Rattle.std.proofs.Common.{◌++◌, ◌∙◌, ap, sym, true}
use Rattle.ps_lines.specs.Lines.{lines}
use Rattle.ps_lines.proofs.LineLemmas.{lines-first}
use Rattle.ps_lines.proofs.ClosedLemmas.{closed-plain}
use Rattle.ut_streams.proofs.StreamLemmas.{closed-rest, Wrote-last_line, Wrote-line_stopped, Wrote-next_line}
use Rattle.ut_streams.proofs.line_streams.LineStream.whole_lines.Goals as goal

pub loop-line-preserved : goal.loop-line-preserved
loop-line-preserved g c = (
  Wrote-next_line (λ more. g.Self.LineStream.line_due c.args.self.now (lines c.args.text.now ++ more)) (g.Self.LineStream.line_due c.loop-line.self)
      (g.Self.LineStream.line_due c.line.new.self) c.loop-line.left.now c.in-Some.line.now c.in-Some.rest.now c.args.out.now.items c.loop-line.out.items c.line.new.out.items true
      c.in-Some.ensures.cut c.loop-line.invariant.0 c.in-Ok.ensures.wrote,
  λ more. c.in-Ok.ensures.selects (lines c.in-Some.rest.now ++ more)
      ∙ ap (λ coming. g.Self.LineStream.line_selects c.loop-line.self (coming ++ more)) (sym (lines-first c.loop-line.left.now c.in-Some.line.now c.in-Some.rest.now c.in-Some.ensures.cut))
      ∙ c.loop-line.invariant.1 more,
  closed-rest c.loop-line.left.now c.in-Some.line.now c.in-Some.rest.now c.in-Some.ensures.cut c.loop-line.invariant.2,
  λ other. c.in-Ok.ensures.tested other ∙ c.loop-line.invariant.3 other,
)

pub returns-in-Err-clause-wrote : goal.returns-in-Err-clause-wrote
returns-in-Err-clause-wrote g c =
    Wrote-line_stopped (λ more. g.Self.LineStream.line_due c.args.self.now (lines c.args.text.now ++ more)) (g.Self.LineStream.line_due c.line.new.self)
    (g.Self.LineStream.line_due c.loop-line.self) (g.Self.LineStream.line_due c.line.new.self) c.loop-line.left.now c.in-Some.line.now c.in-Some.rest.now c.args.out.now.items
    c.loop-line.out.items c.line.new.out.items c.in-Some.ensures.cut c.loop-line.invariant.0 c.in-Err.ensures.wrote

pub returns-clause-wrote : goal.returns-clause-wrote
returns-clause-wrote g c =
    Wrote-last_line (λ more. g.Self.LineStream.line_due c.args.self.now (lines c.args.text.now ++ more)) (g.Self.LineStream.line_due c.loop-line.self) c.loop-line.left.now
    c.args.out.now.items c.loop-line.out.items c.loop-line.invariant.2 c.in_default.ensures.none c.loop-line.invariant.0

pub returns-clause-selects : goal.returns-clause-selects
returns-clause-selects g c =
    λ more. ap (λ left. g.Self.LineStream.line_selects c.loop-line.self (lines left ++ more)) (sym (closed-plain c.loop-line.left.now c.loop-line.invariant.2 c.in_default.ensures.none))
    ∙ c.loop-line.invariant.1 more
