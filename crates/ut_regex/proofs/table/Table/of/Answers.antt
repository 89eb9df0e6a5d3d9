use Rattle.std.proofs.Common.{◌<◌, ◌+◌, length, sym, ap, ap₂, ◌∙◌, arith, rules, length-append, true}
use Rattle.ut_regex.specs.Inner.Seeks.{Same}
use Rattle.ut_regex.specs.Inner.Reached.{many_states}
use Rattle.ut_regex.specs.Inner.Tables.{state_of, states_of, leads_at}
use Rattle.ut_regex.proofs.ReachLemmas.{reached_same, reached_back}
use Rattle.ut_regex.proofs.TableLemmas.{states_length, state_there, entered_same, entered_back, ended_push}
use Rattle.ut_regex.proofs.table.Table.of.Goals as goal

pub returns-then-len-gt-MAX_STATES-clause-none : goal.returns-then-len-gt-MAX_STATES-clause-none
returns-then-len-gt-MAX_STATES-clause-none c =
    let rows = c.states.rows.items in
    many_states c.states.invariant.reached (omega (arith, states_length rows, c.len-in-states-2.ensures, c.if-len-gt-MAX_STATES.true))

pub states-preserved : goal.states-preserved
states-preserved c =
    let l = c.states in
    let added = c.in_ok-add_entries.ensures in
    let led = c.in_ok-leads-2.ensures in
    let m = c.args.machine.now in
    let long = states_length l.rows.items in
    let longer = states_length c.add_entries.new.rows.items in
    let within : l.state < length l.rows.items = omega arith in
    let here : l.state < length (states_of l.rows.items) = omega arith in
    let first_here : 0 < length (states_of l.rows.items) = omega (arith, l.invariant.some) in
    let there = state_there l.rows.items c.index.result.now l.state c.index.ensures within in
    let led_same : Same m c.leads-in-states.new.self = search (rules, l.invariant.same, led.same) in
    record {
      same = search (rules, led_same, added.same);
      some = omega (arith, added.keeps.longer, l.invariant.some);
      first = added.keeps.same 0 first_here ∙ l.invariant.first;
      quiet = l.invariant.quiet;
      reached = reached_same m c.leads-in-states.new.self (states_of c.add_entries.new.rows.items) led_same
          (added.reached (reached_back m c.leads-in-states.new.self (states_of l.rows.items) led_same l.invariant.reached));
      within = omega (arith, added.keeps.longer);
      few = omega (arith, added.more, c.if-len-gt-MAX_STATES.false, c.len-in-states.ensures);
      so_far = added.all;
      entries = entered_same m c.leads-in-states.new.self (states_of c.add_entries.new.rows.items) c.add_entries.new.next.items led_same
          (added.entered (entered_back m c.leads-in-states.new.self (states_of l.rows.items) l.next.items led_same l.invariant.entries));
      ended = ap length c.in_ok-push-2.ensures.items ∙ length-append l.ends.items _ ∙ ap (λ n. n + 1) l.invariant.ended;
      last = ended_push m.steps.items m.whole (states_of l.rows.items) (states_of c.add_entries.new.rows.items) l.ends.items
          c.push-in-states.new.self.items l.state c.in_ok-leads-2.field-0 added.keeps l.invariant.ended here c.in_ok-push-2.ensures.items
          (led.leads ∙ ap₂ (λ ops whole. leads_at ops whole true (state_of c.index.result.now)) l.invariant.same.steps l.invariant.same.whole ∙ ap (λ s. leads_at m.steps.items m.whole true s) (sym there))
          l.invariant.last;
    }

pub invariant_of-result : goal.invariant_of-result
invariant_of-result c = record {
  for_texts = rw (c.deref-2.ensures.value, c.deref-3.ensures.value) at c.in_ok-texts.ensures.texts;
  sticks = rw (c.deref-2.ensures.value, c.deref-3.ensures.value) at c.in_ok-texts.ensures.sticks;
}
