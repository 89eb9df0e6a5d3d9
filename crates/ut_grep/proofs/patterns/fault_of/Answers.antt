use Rattle.std.proofs.Common.{◌≡◌, IfOk, subst, sym}
use Rattle.ut_regex.specs.Tree.{tree}
use Rattle.ut_grep.specs.Faults.{fault_of}
use Rattle.ut_grep.proofs.FaultLemmas.{fault-told, pattern-none}
use Rattle.ut_grep.proofs.patterns.fault_of.Goals.{in-Ok, in-Err}
use Rattle.ut_grep.proofs.patterns.fault_of.Goals as goal

pub returns : goal.returns
returns c = elim c.match-read_pattern.branch [
  | in-Ok w ↦ subst (λ it. IfOk it (λ found. found ≡ fault_of c.args.form c.args.pattern.now)) (sym w.result-is) (sym (pattern-none c.args.form c.args.pattern.now _ w.in-Ok.ensures.read))
  | in-Err w ↦ subst (λ it. IfOk it (λ found. found ≡ fault_of c.args.form c.args.pattern.now)) (sym w.result-is)
      (fault-told c.args.form c.args.pattern.now w.in-Err.fault w.told.result w.in-Err.ensures.fault w.told.ensures.same w.told.ensures.memory)
]
