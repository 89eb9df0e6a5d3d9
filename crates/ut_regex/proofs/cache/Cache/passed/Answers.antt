use Rattle.std.proofs.Common.{suc, ◌≡◌, ◌+◌, ◌<◌, drop, length, refl, subst, arith}
use Rattle.ut_regex.specs.declared.cache.TheConstants.{UNKNOWN}
use Rattle.ut_regex.specs.Inner.Filled.{IsQuiet}
use Rattle.ut_regex.specs.Inner.Tables.{first_state, state_at, states_of}
use Rattle.ut_regex.proofs.AnswerLemmas.{same-on}
use Rattle.ut_regex.proofs.FilledLemmas.{as-old, quiet-on}
use Rattle.ut_regex.proofs.TableLemmas.{states_length}
use Rattle.ut_regex.proofs.cache.Cache.passed.Goals as goal

pub loop-place-init : goal.loop-place-init
loop-place-init c =
    let m = c.args.machine.now in
    let serves = c.make_room.ensures m.steps.items m.fold m.whole c.requires.serves in
    record {
      known = c.make_room.new.self.some;
      serves = serves;
      same = record { steps = refl; fold = refl; whole = refl };
      quiet = λ count more.
          let all : count ≡ 0 + count = omega arith in
          subst (λ place. IsQuiet m.steps.items m.fold m.whole first_state c.args.text.now place) all
          (subst (λ s. IsQuiet m.steps.items m.fold m.whole s c.args.text.now count) serves.first more);
    }

pub loop-place-preserved : goal.loop-place-preserved
loop-place-preserved c =
    let l = c.loop-place in
    let m = l.machine in
    let right = c.entry-entry.ensures.right in
    let below : c.entry-entry.result < UNKNOWN = omega (arith, c.if-entry-ge-UNKNOWN.false) in
    let rows = c.entry-entry.new.self.rows.items in
    let there = state_at (states_of rows) c.entry-entry.result in
    record {
      known = (let known = right.known below in omega (arith, known, states_length rows));
      serves = c.entry-entry.ensures.serves;
      same = same-on c.args.machine.now m c.entry-entry.new.machine l.invariant.same c.entry-entry.ensures.same;
      quiet = λ count more.
          let next : l.place + suc count ≡ l.place + 1 + count = omega arith in
          subst (λ place. IsQuiet c.args.machine.now.steps.items c.args.machine.now.fold c.args.machine.now.whole first_state c.args.text.now place) next
          (l.invariant.quiet (suc count)
          (quiet-on m.steps.items m.fold m.whole c.args.text.now l.place count _ there c.loop-place-test.true (right.quiet below) (right.leads below)
          (as-old (λ ops fold whole. IsQuiet ops fold whole there (drop (l.place + 1) c.args.text.now) count) m c.entry-entry.new.machine c.entry-entry.ensures.same more)));
    }

pub returns-clause-quiet : goal.returns-clause-quiet
returns-clause-quiet c =
    let m = c.args.machine.now in
    let l = c.loop-place in
    let end : l.place + 0 ≡ length c.args.text.now = omega arith in
    subst (λ place. IsQuiet m.steps.items m.fold m.whole first_state c.args.text.now place) end (l.invariant.quiet 0 tt)
