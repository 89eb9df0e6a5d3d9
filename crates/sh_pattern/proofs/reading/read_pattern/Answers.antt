use Rattle.sh_pattern.proofs.ReadingLemmas.{more_elements, all_elements, one_reading}
use Rattle.sh_pattern.proofs.reading.read_pattern.Goals as goal

pub loop-first-preserved : goal.loop-first-preserved
loop-first-preserved c = record {
  read = more_elements c.loop-first.elements.items c.loop-first.invariant.read c.in_ok-push.ensures.items c.in-Some.ensures c.in_ok-element.ensures.element;
  knows = c.in_ok-element.ensures.knows;
}

pub returns-clause-read : goal.returns-clause-read
returns-clause-read c = all_elements c.loop-first.elements.items c.loop-first.invariant.read c.in_default.ensures

pub returns-clause-only : goal.returns-clause-only
returns-clause-only c = λ other reads. one_reading reads (returns-clause-read c)
