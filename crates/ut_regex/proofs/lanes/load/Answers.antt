use Rattle.std.proofs.lemmas.Simd.{length-chunk, get_or-chunk}
use Rattle.ut_regex.proofs.lanes.load.Goals as goal

pub returns : goal.returns
returns c = record {
  long = length-chunk c.args.place 16 c.args.text.now c.requires;
  each = λ lane low. get_or-chunk c.args.place 16 c.args.text.now lane 0 low;
}
