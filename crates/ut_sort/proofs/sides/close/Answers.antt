use Rattle.std.proofs.Common.{rules, ◌≡◌, ◌≤◌, ◌∙◌, length, drop, false, ap, sym}
use Rattle.std.proofs.lemmas.List.{take_rest}
use Rattle.ps_lines.specs.Lines.{is_closed}
use Rattle.ut_sort.proofs.SideLemmas.{closing-closed}
use Rattle.ut_sort.proofs.sides.close.Goals as goal

pub invariant_of-side-in-Ok-clause-closed : goal.invariant_of-side-in-Ok-clause-closed
invariant_of-side-in-Ok-clause-closed c = λ ended.
    let side = c.args.side.now in
    let within : side.at ≤ length side.text.items = search rules in
    let unclosed : is_closed (drop side.at side.text.items) ≡ false =
    ap (λ text. is_closed (drop side.at text)) (sym c.deref.ensures.value) ∙ sym (ap is_closed (take_rest c.deref.result.now side.at)) ∙ sym c.is_closed.ensures ∙ c.if-is_closed.false in
    ap (λ text. is_closed (drop side.at text)) c.in-Ok.ensures.items ∙ closing-closed side.text.items side.at within unclosed
