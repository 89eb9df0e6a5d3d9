use Rattle.std.proofs.Common.{true, false, length}
use Rattle.sh_pattern.specs.declared.trims.Side.TheVariants as side
use Rattle.sh_pattern.specs.Trims.{FitsAt}
use Rattle.sh_pattern.proofs.TrimLemmas.{chosen}
use Rattle.sh_pattern.proofs.trying.best_place.Goals as goal

pub returns-in-Prefix-true-clause-best : goal.returns-in-Prefix-true-clause-best
returns-in-Prefix-true-clause-best c =
    chosen c.args.side side.Prefix c.args.longest true (FitsAt c.args.side c.args.pattern.now c.args.text.now) (length c.args.text.now) c.last_place.result c.in-Prefix-true.is-0 c.in-Prefix-true.is-1 c.last_place.ensures

pub returns-in-Prefix-false-clause-best : goal.returns-in-Prefix-false-clause-best
returns-in-Prefix-false-clause-best c =
    chosen c.args.side side.Prefix c.args.longest false (FitsAt c.args.side c.args.pattern.now c.args.text.now) (length c.args.text.now) c.first_place.result c.in-Prefix-false.is-0 c.in-Prefix-false.is-1 c.first_place.ensures

pub returns-in-Suffix-true-clause-best : goal.returns-in-Suffix-true-clause-best
returns-in-Suffix-true-clause-best c =
    chosen c.args.side side.Suffix c.args.longest true (FitsAt c.args.side c.args.pattern.now c.args.text.now) (length c.args.text.now) c.first_place-in-Suffix-true.result c.in-Suffix-true.is-0 c.in-Suffix-true.is-1 c.first_place-in-Suffix-true.ensures

pub returns-in-Suffix-false-clause-best : goal.returns-in-Suffix-false-clause-best
returns-in-Suffix-false-clause-best c =
    chosen c.args.side side.Suffix c.args.longest false (FitsAt c.args.side c.args.pattern.now c.args.text.now) (length c.args.text.now) c.last_place-in-Suffix-false.result c.in-Suffix-false.is-0 c.in-Suffix-false.is-1 c.last_place-in-Suffix-false.ensures
