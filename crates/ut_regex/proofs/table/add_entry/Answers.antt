use Rattle.std.proofs.Common.{◌<◌, length, refl, sym, ap, ◌∙◌, arith}
use Rattle.ut_regex.specs.Inner.Tables.{state_of, states_of, after}
use Rattle.ut_regex.proofs.ReachLemmas.{reached_entry}
use Rattle.ut_regex.proofs.TableLemmas.{entered_push, states_length, state_there, entry_same}
use Rattle.ut_regex.proofs.TwinLemmas.{entered_twin}
use Rattle.ut_regex.proofs.table.add_entry.Goals as goal

pub returns-clause-entered : goal.returns-clause-entered
returns-clause-entered c =
    let m = c.args.machine.now in
    let here : c.args.state < length (states_of c.args.rows.now.items) = omega (arith, states_length c.args.rows.now.items, c.requires.here) in
    let there = state_there c.args.rows.now.items c.index.result.now c.args.state c.index.ensures c.requires.here in
    entered_push m.steps.items m.fold m.whole (states_of c.args.rows.now.items) (states_of c.entry_to.new.rows.items) c.args.next.now.items
    c.push.new.self.items c.args.state c.args.byte c.in_ok-entry.entry c.in_ok-entry.ensures.keeps here c.requires.before (omega arith)
    c.in_ok-push.ensures.items
    (entry_same m c.step.new.self (states_of c.entry_to.new.rows.items) c.in_ok-entry.entry (state_of c.in_ok-row.row) _ c.in_ok-row.ensures.same
    (c.in_ok-row.ensures.next ∙ ap (λ s. after m.steps.items m.fold m.whole s c.args.byte) (sym there)) c.in_ok-entry.ensures.entry)

pub returns-clause-reached : goal.returns-clause-reached
returns-clause-reached c =
    let m = c.args.machine.now in
    let rows = c.args.rows.now.items in
    let here : c.args.state < length (states_of rows) = omega (arith, states_length rows, c.requires.here) in
    let there = state_there rows c.index.result.now c.args.state c.index.ensures c.requires.here in
    reached_entry m c.step.new.self (states_of rows) (states_of c.entry_to.new.rows.items) (state_of c.in_ok-row.row) c.args.state c.args.byte
    c.in_ok-row.ensures.same (c.in_ok-row.ensures.next ∙ ap (λ s. after m.steps.items m.fold m.whole s c.args.byte) (sym there)) here (omega arith)
    c.in_ok-entry.ensures.reached

pub returns-then-twin-byte-clause-entered : goal.returns-then-twin-byte-clause-entered
returns-then-twin-byte-clause-entered c =
    let m = c.args.machine.now in
    let here : c.args.state < length (states_of c.args.rows.now.items) = omega (arith, states_length c.args.rows.now.items, c.requires.here) in
    entered_twin m.steps.items m.fold m.whole (states_of c.args.rows.now.items) c.args.next.now.items c.copy_entry.new.next.items
    c.args.state c.args.byte c.args.twin _ here c.requires.before (omega arith) c.if-twin-byte.true c.requires.twin refl c.in_ok-copy_entry.ensures
