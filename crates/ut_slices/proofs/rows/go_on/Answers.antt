use Rattle.std.proofs.Common.{rules, ◌≡◌, ◌==◌, ℕ, drop, true, false, refl, ◌∙◌, if◌then◌else◌}
use Rattle.std.proofs.lemmas.Option.{slice_get_within}
use Rattle.ut_streams.specs.Streams.{Put}
use Rattle.ut_slices.specs.Inner.Ports.{is_open_at, waiting_at}
use Rattle.ut_slices.proofs.WalkLemmas.{Goes-ended, Goes-line_stopped, Goes-within}
use Rattle.ut_slices.proofs.rows.go_on.Goals as goal

pub returns-then-not-ends-clause-goes : goal.returns-then-not-ends-clause-goes
returns-then-not-ends-clause-goes c =
    let walk = c.args.walk.now in
    let waits : c.waiting.result.now ≡ waiting_at walk.ports.items c.args.port = search rules in
    let put : Put c.cut_front-front.result.text.now c.args.out.now.items c.put.new.out.items true = search rules in
    let passes : (other : ℕ) → waiting_at c.pass.new.ports.items other ≡ (if other == c.args.port then drop c.cut_front-front.result.count (waiting_at walk.ports.items c.args.port) else waiting_at walk.ports.items other) = search rules in
    let same : (other : ℕ) → is_open_at c.pass.new.ports.items other ≡ is_open_at walk.ports.items other = search rules in
    Goes-within c.args.plan.now walk _ c.args.port c.cut_front-front.result.count c.waiting.result.now c.cut_front-front.result.text.now c.cut_front-front.result.ends
    c.args.out.now.items c.put.new.out.items c.requires.here c.requires.within waits c.cut_front-front.ensures.cut c.if-not-ends.true (c.cut_front-front.ensures.all c.if-not-ends.true) passes same refl refl refl refl put

pub next_column-requires : goal.next_column-requires
next_column-requires c = record { here = slice_get_within c.args.plan.now.columns.items c.args.walk.now.column c.args.port c.requires.here }

pub returns-else-not-ends-clause-goes : goal.returns-else-not-ends-clause-goes
returns-else-not-ends-clause-goes c =
    let walk = c.args.walk.now in
    let new = c.next_column.new.walk in
    let waits : c.waiting.result.now ≡ waiting_at walk.ports.items c.args.port = search rules in
    let put : Put c.cut_front-front.result.text.now c.args.out.now.items c.put.new.out.items true = search rules in
    let passes : (other : ℕ) → waiting_at new.ports.items other ≡ (if other == c.args.port then drop c.cut_front-front.result.count (waiting_at walk.ports.items c.args.port) else waiting_at walk.ports.items other) = search rules in
    let same : (other : ℕ) → is_open_at new.ports.items other ≡ is_open_at walk.ports.items other = search rules in
    Goes-ended c.args.plan.now walk new c.args.port c.cut_front-front.result.count c.waiting.result.now c.cut_front-front.result.text.now c.cut_front-front.result.ends
    c.args.out.now.items c.put.new.out.items c.requires.here c.requires.within waits c.cut_front-front.ensures.cut c.if-not-ends.false passes same
    c.next_column.ensures.column c.next_column.ensures.outside c.next_column.ensures.begun (c.next_column.ensures.front ∙ c.clear.ensures.items) c.next_column.ensures.delimiter put

pub returns-in-Err-clause-goes : goal.returns-in-Err-clause-goes
returns-in-Err-clause-goes c =
    let walk = c.args.walk.now in
    let waits : c.waiting.result.now ≡ waiting_at walk.ports.items c.args.port = search rules in
    let put : Put c.cut_front-front.result.text.now c.args.out.now.items c.put.new.out.items false = search rules in
    Goes-line_stopped c.args.plan.now walk c.args.port c.cut_front-front.result.count c.waiting.result.now c.cut_front-front.result.text.now c.cut_front-front.result.ends
    c.args.out.now.items c.put.new.out.items c.requires.here c.requires.within waits c.cut_front-front.ensures.cut put
