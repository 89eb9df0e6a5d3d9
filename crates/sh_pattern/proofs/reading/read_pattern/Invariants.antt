use Rattle.std.proofs.Common.{List, ◌++◌, length}
use Rattle.sh_pattern.specs.declared.elements.Element.{Element}
use Rattle.sh_pattern.specs.Reading.{Reads}
use Rattle.sh_pattern.specs.Closings.{Knows}
use Rattle.sh_pattern.proofs.reading.read_pattern.Given as goal

abbrev pub invariant-loop-first : goal.invariant-loop-first
invariant-loop-first l = record {
  read : (others : List Element) → Reads l.rest others → Reads l.fn.text (l.elements.items ++ others);
  knows : Knows l.closes.items l.rest;
}

abbrev pub decreases-loop-first : goal.decreases-loop-first
decreases-loop-first l = length l.rest
