use Rattle.std.proofs.Common.{◌+◌, ◌*◌, ◌<◌, length, slice_set, refl, sym, subst, arith}
use Rattle.ut_regex.specs.Inner.Filled.{IsFilled, IsRight}
use Rattle.ut_regex.specs.Inner.Tables.{states_of}
use Rattle.ut_regex.proofs.FilledLemmas.{as-same, filled-keeps, filled-set}
use Rattle.ut_regex.proofs.TableLemmas.{states_length}
use Rattle.ut_regex.proofs.cache.Cache.fill.Goals as goal

pub returns-in-Ok-clause-serves : goal.returns-in-Ok-clause-serves
returns-in-Ok-clause-serves c =
    let m = c.args.machine.now in
    let rows = c.args.self.now.rows.items in
    let more = c.entry_to.new.self.rows.items in
    let next = c.entry_to.new.self.next.items in
    let keeps = c.in-Ok.ensures.keeps in
    let here : c.args.state < length (states_of rows) = omega (arith, states_length rows, c.requires.here) in
    as-same (λ ops fold whole. IsFilled ops fold whole (states_of more) (slice_set next (256 * c.args.state + c.args.byte) c.in-Ok.entry)) m c.entry_to.new.machine
    c.in-Ok.ensures.same
    (filled-set m.steps.items m.fold m.whole (states_of more) next _ c.args.state c.args.byte c.in-Ok.entry (omega arith) (omega (arith, here, keeps.longer))
    (omega (arith, states_length more, c.entry_to.new.self.room)) refl
    (subst (λ s. IsRight m.steps.items m.fold m.whole (states_of more) s c.args.byte c.in-Ok.entry) (sym (keeps.same c.args.state here)) c.in-Ok.ensures.right)
    (subst (λ next. IsFilled m.steps.items m.fold m.whole (states_of more) next) (sym c.in-Ok.ensures.next)
    (filled-keeps m.steps.items m.fold m.whole (states_of rows) (states_of more) c.args.self.now.next.items keeps (omega (arith, here)) c.requires.serves)))

pub returns-in-Err-clause-serves : goal.returns-in-Err-clause-serves
returns-in-Err-clause-serves c =
    let m = c.args.machine.now in
    let rows = c.args.self.now.rows.items in
    let more = c.entry_to.new.self.rows.items in
    let keeps = c.in-Err.ensures.keeps in
    let here : c.args.state < length (states_of rows) = omega (arith, states_length rows, c.requires.here) in
    as-same (λ ops fold whole. IsFilled ops fold whole (states_of more) c.entry_to.new.self.next.items) m c.entry_to.new.machine c.in-Err.ensures.same
    (subst (λ next. IsFilled m.steps.items m.fold m.whole (states_of more) next) (sym c.in-Err.ensures.next)
    (filled-keeps m.steps.items m.fold m.whole (states_of rows) (states_of more) c.args.self.now.next.items keeps (omega (arith, here)) c.requires.serves))
