use Rattle.std.proofs.Common.{◌≡◌, ◌-◌, ◌^◌, ◌≤◌, min, drop}
use Rattle.sh_arith.specs.Constants.{are_digits, counted}
use Rattle.sh_arith.proofs.constants.number.Given as goal

abbrev pub invariant-loop-byte : goal.invariant-loop-byte
invariant-loop-byte l = record {
  digits : are_digits l.base (drop l.byte-index l.digits) ≡ are_digits l.base l.digits;
  value : min (counted l.base l.value (drop l.byte-index l.digits)) (2 ^ 64 - 1) ≡ min (counted l.base 0 l.digits) (2 ^ 64 - 1);
  small : l.value ≤ 2 ^ 64 - 1;
}
