use Rattle.std.proofs.Common.{◌≡◌, ◌-◌, ◌≤◌, Bool, true, length, take}
use Rattle.ps_lines.specs.Lines.{is_closed, lines}
use Rattle.ut_regex.specs.Finds.{Finds, Stays}
use Rattle.ut_regex.specs.Having.{Lack}
use Rattle.ut_regex.specs.Tree.{Tree}
use Rattle.ut_regex.proofs.finder.Matcher.first_having.Given as goal

abbrev pub invariant-loop-cut : goal.invariant-loop-cut
invariant-loop-cut l = record {
  within : l.from ≤ length l.text;
  counted : l.failures ≤ l.from;
  ends : is_closed (take l.from l.text) ≡ true;
  stays : Stays l.fn.self l.self;
  passed : (fold whole : Bool) (re : Tree) → Finds l.fn.self fold whole re → Lack fold whole re (lines (take l.from l.text));
}

abbrev pub decreases-loop-cut : goal.decreases-loop-cut
decreases-loop-cut l = length l.text - l.from
