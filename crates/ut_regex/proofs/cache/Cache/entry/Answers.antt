use Rattle.std.proofs.Common.{◌+◌, ◌*◌, ◌<◌, length, refl, sym, subst, arith}
use Rattle.std.proofs.lemmas.List.{get_or_read_under}
use Rattle.ut_regex.specs.declared.cache.TheConstants.{UNKNOWN}
use Rattle.ut_regex.specs.Inner.Filled.{IsRight}
use Rattle.ut_regex.specs.Inner.Tables.{state_at, states_of}
use Rattle.ut_regex.proofs.TableLemmas.{states_length}
use Rattle.ut_regex.proofs.cache.Cache.entry.Goals as goal

pub returns-then-entry-clause-right : goal.returns-then-entry-clause-right
returns-then-entry-clause-right c =
    let m = c.args.machine.now in
    let rows = c.args.self.now.rows.items in
    let next = c.args.self.now.next.items in
    let here : c.args.state < length (states_of rows) = omega (arith, states_length rows, c.requires.here) in
    let within : 256 * c.args.state + c.args.byte < length next = omega (arith, c.requires.here, c.args.self.now.room) in
    let value = get_or_read_under next (256 * c.args.state + c.args.byte) (length next) c.index-entry.result.now UNKNOWN c.index-entry.ensures within refl in
    subst (λ entry. IsRight m.steps.items m.fold m.whole (states_of rows) (state_at (states_of rows) c.args.state) c.args.byte entry) (sym value)
    (c.requires.serves.right c.args.state c.args.byte (omega arith) here)
