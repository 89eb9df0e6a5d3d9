use Rattle.std.proofs.Common.{ℕ, Bool, arith}
use Rattle.ps_lines.specs.ByteSet.{has_byte}
use Rattle.ut_regex.proofs.StartLemmas.{never_empty, three_in_order}
use Rattle.ut_regex.proofs.starts.few_of.Goals as goal

pub returns-in_err-first-clause-none : goal.returns-in_err-first-clause-none
returns-in_err-first-clause-none c = rw c.from_residual.ensures (λ first second third small these.
    never_empty (λ byte. has_byte c.args.set.now byte) first second third these small c.in_err-first.ensures.none)

pub returns-clause-none : goal.returns-clause-none
returns-clause-none c = λ a b e small these.
    let test : ℕ → Bool = λ byte. has_byte c.args.set.now byte in
    let found = c.in_ok-first.ensures in
    let all = three_in_order test a b e c.in_ok-first.first c.member_behind-second.result c.member_behind-third.result these
    (omega arith) (omega arith) (omega arith) (λ byte below. found.first byte (omega arith) below) found.member.1
    c.member_behind-second.ensures c.member_behind-third.ensures in
    let told = c.are_all.ensures.1 all in cc
