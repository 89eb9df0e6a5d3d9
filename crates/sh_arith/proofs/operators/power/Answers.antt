use Rattle.std.proofs.Common.{◌≡◌, ℕ, ◌*◌, ◌%◌, ◌^◌, ◌≤◌, pos, arith}
use Rattle.std.specs.Int.{w64, cast_signed}
use Rattle.std.proofs.lemmas.Int.{ints}
use Rattle.std.proofs.Math.Pow.{pow_mono}
use Rattle.sh_arith.proofs.operators.power.Goals as goal

-- a power that fits is what its bits say
below_the_sign : (power : ℕ) → power ≤ 2 ^ 62 → cast_signed w64 (1 * power % 18446744073709551616) ≡ pos power
below_the_sign power small = omega (arith, ints)

pub returns : goal.returns
returns c = below_the_sign (2 ^ c.args.exponent) (pow_mono c.requires)
