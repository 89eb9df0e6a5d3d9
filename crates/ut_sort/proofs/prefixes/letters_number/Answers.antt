use Rattle.std.proofs.Common.{arith}
use Rattle.ut_sort.proofs.PrefixLemmas.{bytes_of_slice}
use Rattle.ut_sort.proofs.prefixes.letters_number.Goals as goal

pub returns-then-letters-clause-bytes : goal.returns-then-letters-clause-bytes
returns-then-letters-clause-bytes c = bytes_of_slice c.args.text.now (λ place. let fits = c.type_inv.text place in omega (arith, fits))

pub returns-else-letters-clause-bytes : goal.returns-else-letters-clause-bytes
returns-else-letters-clause-bytes c = bytes_of_slice c.args.text.now (λ place. let fits = c.type_inv.text place in omega (arith, fits))
