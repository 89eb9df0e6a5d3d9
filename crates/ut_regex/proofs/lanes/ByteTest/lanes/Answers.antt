use Rattle.std.proofs.Common.{bit_and, get_or, ap, ap₂, ◌∙◌}
use Rattle.ut_regex.specs.declared.lanes.TheConstants.{UPPER}
use Rattle.ut_regex.proofs.LaneLemmas.{lanes-zip2}
use Rattle.ut_regex.proofs.lanes.ByteTest.lanes.Goals as goal

pub returns : goal.returns
returns c =
    let both = lanes-zip2 bit_and c.look_up.result c.look_up-2.result c.look_up.ensures.long c.look_up-2.ensures.long in
    record {
      long = both.long;
      each = λ lane low.
          both.each lane low
          ∙ ap₂ bit_and (c.look_up.ensures.each lane low ∙ ap (λ place. get_or c.args.self.now.lower place 0) (c.lower_halves.ensures.each lane low))
          (c.look_up-2.ensures.each lane low ∙ ap (λ place. get_or UPPER place 0) (c.upper_halves.ensures.each lane low));
    }
