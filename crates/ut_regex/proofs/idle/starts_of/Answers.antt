use Rattle.std.proofs.Common.{sym, ap, ℕ, not, ◌∙◌}
use Rattle.ps_lines.specs.ByteSet.{has_byte}
use Rattle.ut_regex.specs.Inner.Idling.{stays}
use Rattle.ut_regex.proofs.IdleLemmas.{gains, stays-same}
use Rattle.ut_regex.proofs.idle.starts_of.Goals.{then-not-stays, else-not-stays}
use Rattle.ut_regex.proofs.idle.starts_of.Goals as goal

pub loop-code-preserved : goal.loop-code-preserved
loop-code-preserved c = λ byte.
    let l = c.loop-code in
    let test = λ (byte : ℕ). not (stays c.args.next.now c.args.state byte) in
    elim c.if-not-stays.branch [
      | then-not-stays w ↦
          ap (λ set. has_byte set byte) w.starts-is
          ∙ gains test l.code byte (has_byte l.starts byte) (l.invariant byte) (has_byte w.add.new.self byte) (ap not (sym c.stays.ensures ∙ w.if-not-stays.true)) (w.add.ensures byte)
      | else-not-stays w ↦
          ap (λ set. has_byte set byte) w.starts-is
          ∙ stays-same test l.code byte (has_byte l.starts byte) (l.invariant byte) (ap not (sym c.stays.ensures ∙ w.if-not-stays.false))
    ]
