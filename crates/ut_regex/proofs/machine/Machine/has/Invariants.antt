use Rattle.std.proofs.Common.{Bool}
use Rattle.ut_regex.specs.Inner.Seeks.{Seeks, Same}
use Rattle.ut_regex.specs.Tree.{Tree}
use Rattle.ut_regex.proofs.ScanLemmas.{Scanned}
use Rattle.ut_regex.proofs.machine.Machine.has.Given as goal

abbrev pub invariant-loop-place : goal.invariant-loop-place
invariant-loop-place l = record {
  same : Same l.fn.self l.self;
  scanned : (fold whole : Bool) (re : Tree) → Seeks l.fn.self fold whole re → Scanned fold whole re l.line l.self.marks.bits l.place;
}
