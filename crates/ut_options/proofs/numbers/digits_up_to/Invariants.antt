use Rattle.std.proofs.Common.{◌≡◌, ◌≤◌, drop}
use Rattle.ut_options.proofs.DigitLemmas.{digits_on}
use Rattle.ut_options.proofs.numbers.digits_up_to.Given as goal

-- what the whole text spells is what its rest spells after the digits so far
abbrev pub invariant-loop-byte : goal.invariant-loop-byte
invariant-loop-byte l = record { small : l.number ≤ l.most; same : digits_on l.most 0 l.text ≡ digits_on l.most l.number (drop l.byte-index l.text) }
