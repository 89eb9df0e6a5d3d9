use Rattle.std.proofs.Common.{subst, sym, slice_index_or, arith, rules}
use Rattle.ut_regex.specs.Inner.Twins.{AreTwins}
use Rattle.ut_regex.specs.Inner.Tables.{states_of}
use Rattle.ut_regex.proofs.ReachLemmas.{reached_same, reached_back}
use Rattle.ut_regex.proofs.TableLemmas.{keeps_more, entered_same, entered_back}
use Rattle.ut_regex.proofs.table.add_entries.Goals as goal

pub loop-code-preserved : goal.loop-code-preserved
loop-code-preserved c =
    let l = c.loop-code in
    let more = c.in_ok-add_entry.ensures in
    record {
      entered = λ h. entered_same c.args.machine.now l.machine (states_of c.add_entry.new.rows.items) c.add_entry.new.next.items l.invariant.same
          (more.entered (entered_back c.args.machine.now l.machine (states_of l.rows.items) l.next.items l.invariant.same (l.invariant.entered h)));
      reached = λ h. reached_same c.args.machine.now l.machine (states_of c.add_entry.new.rows.items) l.invariant.same
          (more.reached (reached_back c.args.machine.now l.machine (states_of l.rows.items) l.invariant.same (l.invariant.reached h)));
      keeps = keeps_more (states_of c.args.rows.now.items) (states_of l.rows.items) (states_of c.add_entry.new.rows.items) l.invariant.keeps more.keeps;
      more = omega (arith, more.more, l.invariant.more);
      all = omega (arith, more.all, l.invariant.all);
      same = search (rules, more.same, l.invariant.same);
    }

pub add_entry-requires-clause-twin : goal.add_entry-requires-clause-twin
add_entry-requires-clause-twin c =
    let l = c.loop-code in
    let same = l.invariant.same in
    subst (λ fold. AreTwins fold (slice_index_or c.args.twins.now l.code 0) l.code l.machine.steps.items) (sym same.fold)
    (subst (λ steps. AreTwins c.args.machine.now.fold (slice_index_or c.args.twins.now l.code 0) l.code steps) (sym same.steps)
    (c.requires.twins.same l.code (omega arith)))
