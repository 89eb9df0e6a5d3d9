use Rattle.std.proofs.Common.{◌++◌, true}
use Rattle.ps_lines.specs.Lines.{lines}
use Rattle.ut_streams.proofs.StreamLemmas.{closed-rest, Wrote-last_line}
use Rattle.ut_grep.specs.Output.{selected_from}
use Rattle.ut_grep.proofs.TallyLemmas.{line-put, line-stopped, AllAre-first}
use Rattle.ut_grep.proofs.tally.put_lines.Goals as goal

pub returns-in-Err : goal.returns-in-Err
returns-in-Err c = let l = c.loop-line in record {
  wrote = λ test all.
      let h = l.invariant.1 test all in
      line-stopped test c.args.head.now l.number c.put_shown.new.number (λ more. selected_from test c.args.head.now c.args.number.now (lines c.args.block.now ++ more))
      (selected_from test c.args.head.now c.put_shown.new.number) l.left.now c.in-Some.line.now c.in-Some.rest.now c.args.out.now.items l.out.items c.put_shown.new.out.items
      c.in-Some.ensures.cut c.in-Err.ensures.number h.0 h.1 c.in-Err.ensures.wrote;
}

pub loop-line-preserved : goal.loop-line-preserved
loop-line-preserved c =
    let l = c.loop-line in (
      closed-rest l.left.now c.in-Some.line.now c.in-Some.rest.now c.in-Some.ensures.cut l.invariant.0,
      λ test all.
          let h = l.invariant.1 test all in (
            (AllAre-first test true l.left.now c.in-Some.line.now c.in-Some.rest.now c.in-Some.ensures.cut h.0).1,
            line-put test c.args.head.now l.number c.put_shown.new.number (λ more. selected_from test c.args.head.now c.args.number.now (lines c.args.block.now ++ more))
                l.left.now c.in-Some.line.now c.in-Some.rest.now c.args.out.now.items l.out.items c.put_shown.new.out.items true
                c.in-Some.ensures.cut c.in-Ok.ensures.number h.0 h.1 c.in-Ok.ensures.wrote,
          ),
    )

pub returns : goal.returns
returns c = let l = c.loop-line in record {
  wrote = λ test all.
      Wrote-last_line (λ more. selected_from test c.args.head.now c.args.number.now (lines c.args.block.now ++ more)) (selected_from test c.args.head.now l.number)
      l.left.now c.args.out.now.items l.out.items l.invariant.0 c.in_default.ensures.none (l.invariant.1 test all).1;
}
