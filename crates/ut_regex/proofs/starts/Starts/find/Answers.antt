use Rattle.std.proofs.Common.{sym, slice_index, arith}
use Rattle.memchr.specs.Find.{is_byte3}
use Rattle.ps_lines.specs.ByteSet.{has_byte}
use Rattle.ut_regex.proofs.IdleLemmas.{first_byte-same}
use Rattle.ut_regex.proofs.starts.Starts.find.Goals as goal

pub returns-in-Some : goal.returns-in-Some
returns-in-Some c =
    first_byte-same (is_byte3 c.in-Some.first c.in-Some.second c.in-Some.third) (λ byte. has_byte c.args.self.now.set byte) c.args.text.now c.find_few.result
    (λ place. sym (c.args.self.now.all (c.in-Some.first, c.in-Some.second, c.in-Some.third) c.in-Some.is (slice_index c.args.text.now place)
    (let byte = c.type_inv.text place in omega (arith, byte)))) c.find_few.ensures
