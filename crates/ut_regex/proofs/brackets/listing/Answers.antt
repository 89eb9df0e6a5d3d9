use Rattle.std.proofs.Common.{[], refl, arith}
use Rattle.ps_lines.specs.ByteSet.{has_byte}
use Rattle.ut_regex.specs.Brackets.{no_item}
use Rattle.ut_regex.proofs.BracketLemmas.{read_more, none_more, none_here}
use Rattle.ut_regex.proofs.brackets.listing.Goals as goal

pub returns-in-Some-clause-read : goal.returns-in-Some-clause-read
returns-in-Some-clause-read c = c.items.invariant.read [] c.in-Some.rest.now (no_item c.in-Some.ensures.close) (has_byte c.items.set) (λ byte h. refl)

pub items-preserved : goal.items-preserved
items-preserved c = record {
  read = read_more c.args.text.now c.items.left.now c.in-Some-next_item.rest.now c.in-Some-next_item.item (has_byte c.items.set) (has_byte c.add_item-in-items.new.set)
      c.items.invariant.read c.in_default.ensures.close c.in-Some-next_item.ensures.read c.add_item-in-items.ensures;
  none = none_more c.args.text.now c.items.left.now c.in-Some-next_item.rest.now c.in-Some-next_item.item c.items.invariant.none
      c.in_default.ensures.close c.in-Some-next_item.ensures.read;
  shorter = omega (arith, c.in-Some-next_item.ensures.shorter);
}

pub returns-in_default-next_item-clause-none : goal.returns-in_default-next_item-clause-none
returns-in_default-next_item-clause-none c =
    none_here c.args.text.now c.items.left.now c.items.invariant.none c.in_default.ensures.close c.in_default-next_item.ensures.none
