use Rattle.std.proofs.Common.{IfSome, subst, sym}
use Rattle.ut_regex.specs.Inner.Made.{IsMade}
use Rattle.ut_regex.proofs.HavingLemmas.{lack-literal, lack-table, late-at, late-never}
use Rattle.ut_regex.proofs.RunLemmas.{are_bytes}
use Rattle.ut_regex.proofs.finder.Matcher.passed.Goals as goal

pub returns-in-Some-clause-passed : goal.returns-in-Some-clause-passed
returns-in-Some-clause-passed c = λ fold whole re finds before more cut closed low.
    lack-literal fold whole re c.args.self.now.literal c.in-Some.search c.args.text.now before more c.first_place.result c.in-Some.is finds.literal cut low
    c.first_place.ensures.first

pub returns-in-Some-left_at_found-clause-passed : goal.returns-in-Some-left_at_found-clause-passed
returns-in-Some-left_at_found-clause-passed c = λ fold whole re finds before more cut closed low.
    let machine = c.args.self.now.machine in
    let made = subst (λ table. IfSome table (λ made. IsMade machine.steps.items machine.fold machine.whole made)) c.in-Some-table.is finds.table in
    let table = c.in-Some-table.table in
    lack-table machine fold whole re table c.args.text.now before more finds.seeks made (are_bytes c.args.text.now c.type_inv.text) cut closed
    (late-at table.texts.next.items c.args.text.now before more c.in-Some-left_at_found.left c.in-Some-left_at_found.ensures.some (sym c.in-Some-left_at_found.ensures.found) cut low)

pub returns-in-None-left_at_found-clause-passed : goal.returns-in-None-left_at_found-clause-passed
returns-in-None-left_at_found-clause-passed c = λ fold whole re finds before more cut closed low.
    let machine = c.args.self.now.machine in
    let made = subst (λ table. IfSome table (λ made. IsMade machine.steps.items machine.fold machine.whole made)) c.in-Some-table.is finds.table in
    let table = c.in-Some-table.table in
    lack-table machine fold whole re table c.args.text.now before more finds.seeks made (are_bytes c.args.text.now c.type_inv.text) cut closed
    (late-never table.texts.next.items c.args.text.now more (sym c.in-None-left_at_found.ensures.found))
