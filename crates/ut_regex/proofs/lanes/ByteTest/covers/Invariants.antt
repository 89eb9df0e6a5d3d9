use Rattle.std.proofs.Common.{◌≡◌, ◌<◌, ℕ, true}
use Rattle.ut_regex.specs.Spans.{fits}
use Rattle.ut_regex.specs.Inner.Lanes.{shared}
use Rattle.ut_regex.proofs.lanes.ByteTest.covers.Given as goal

abbrev pub invariant-loop-code : goal.invariant-loop-code
invariant-loop-code l = (byte : ℕ) → byte < l.code → fits l.fold l.one byte ≡ true → 0 < shared l.self.lower byte
