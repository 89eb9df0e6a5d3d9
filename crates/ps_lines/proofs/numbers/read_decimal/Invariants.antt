use Rattle.std.proofs.Common.{◌≡◌, ◌^◌, ◌<◌, drop}
use Rattle.ps_lines.proofs.NumberLemmas.{number_on}
use Rattle.ps_lines.proofs.numbers.read_decimal.Given as goal

-- what the whole text spells is what its rest spells after the digits so far
abbrev pub invariant-loop-byte : goal.invariant-loop-byte
invariant-loop-byte l = record { small : l.number < 2 ^ 64; same : number_on 0 l.text ≡ number_on l.number (drop l.byte-index l.text) }
