use Rattle.std.proofs.Common.{sym}
use Rattle.std.specs.Result.{is_ok}
use Rattle.ut_grep.proofs.TallyLemmas.{Wrote-plain}
use Rattle.ut_grep.proofs.tally.put_block.Goals as goal

pub returns-then-is_plain : goal.returns-then-is_plain
returns-then-is_plain c = record {
  wrote = λ test all.
      Wrote-plain test c.args.head.now c.args.number.now c.args.block.now c.args.out.now.items c.put.new.out.items (is_ok c.put.result) (sym c.if-is_plain.ensures)
      c.requires.closed all c.put.ensures;
}
