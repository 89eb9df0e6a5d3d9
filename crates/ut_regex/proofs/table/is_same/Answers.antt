use Rattle.std.proofs.Common.{ap, ap₂, sym, ◌∙◌, reverse}
use Rattle.std.proofs.lemmas.List.{reverse-reverse}
use Rattle.std.proofs.lemmas.Slice.Eq.{slice_eq-Decides}
use Rattle.ut_regex.proofs.TableLemmas.{beq_decides}
use Rattle.ut_regex.proofs.table.is_same.Goals as goal

pub returns-then-row-other : goal.returns-then-row-other
returns-then-row-other c =
    let row = c.args.row.now in
    let other = c.args.other.now in
    let here = c.as_slice.ensures.value in
    let there = c.as_slice-then-row-other.ensures.value in
    let begins = (beq_decides row.begins other.begins).0 c.if-row-other.true in
    let marks = slice_eq-Decides beq_decides c.as_slice.result.now c.as_slice-then-row-other.result.now c.eq.result c.eq.ensures in (
      λ same. ap₂ (λ begins bits. record { begins = begins; bits = bits }) begins (ap reverse (sym here ∙ marks.0 same ∙ there)),
      λ same.
          let items = sym (reverse-reverse row.marks.items) ∙ ap (λ state. reverse state.bits) same ∙ reverse-reverse other.marks.items in
          marks.1 (here ∙ items ∙ sym there),
    )
