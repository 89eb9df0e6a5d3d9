use Rattle.ut_regex.proofs.TextLemmas.{begins-lines, whole-texts}
use Rattle.ut_regex.proofs.StuckLemmas.{waits-for-line}
use Rattle.ut_regex.proofs.texts.TextTable.of.Goals as goal

pub invariant_of-result : goal.invariant_of-result
invariant_of-result c =
    let next = c.args.next.now in
    let ends = c.args.ends.now in
    let entries = c.in_ok-entries.entries.items in
    record {
      whole = whole-texts next ends entries c.in_ok-entries.ensures.texts c.in_ok-entries.ensures.size c.requires.whole;
      begins = begins-lines next ends entries c.in_ok-entries.ensures.texts;
      idles = rw (c.deref.ensures.value) at c.idle_of-idle.ensures;
      waits = λ stuck is. waits-for-line next ends stuck (c.stuck_of-stuck.ensures.some stuck is) entries c.in_ok-entries.ensures.texts;
    }
