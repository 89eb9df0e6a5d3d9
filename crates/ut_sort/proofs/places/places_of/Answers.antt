use Rattle.std.proofs.Common.{arith, ap, sym, ◌∙◌, ◌+◌, ◌<◌, ◌≡◌, ◌++◌, ◌∷◌, [], length, suc, append_assoc, length-append}
use Rattle.std.proofs.lemmas.Bool.Decides.{nat_tests}
use Rattle.ps_lines.specs.Lines.{lines}
use Rattle.ps_lines.proofs.LineLemmas.{lines-first, lines-plain}
use Rattle.ut_sort.specs.Places.{lines_in}
use Rattle.ut_sort.proofs.PlaceLemmas.{first_line-cut, first_line-plain, rest-at, rise-more}
use Rattle.ut_sort.proofs.places.places_of.Goals as goal

pub push_place-requires-clause-line : goal.push_place-requires-clause-line
push_place-requires-clause-line c = sym (first_line-cut c.loop-line.left.now c.in-Some.line.now c.in-Some.rest.now c.in-Some.ensures.cut)

pub loop-line-preserved : goal.loop-line-preserved
loop-line-preserved c =
    let cut = c.in-Some.ensures.cut in
    let within = c.loop-line.invariant.0 in
    let size : length c.loop-line.left.now ≡ length c.in-Some.line.now + suc (length c.in-Some.rest.now) =
    ap length cut.whole ∙ length-append c.in-Some.line.now (10 ∷ c.in-Some.rest.now) in (
      omega (arith, within, size),
      rest-at c.args.text.now c.loop-line.left.now c.in-Some.line.now c.in-Some.rest.now within c.loop-line.invariant.1 cut,
      ap (λ front. front ++ lines c.in-Some.rest.now) c.in_ok-push_place.ensures.lines
          ∙ append_assoc (lines_in c.args.text.now c.loop-line.places.items) (c.in-Some.line.now ∷ []) (lines c.in-Some.rest.now)
          ∙ ap (λ back. lines_in c.args.text.now c.loop-line.places.items ++ back) (sym (lines-first c.loop-line.left.now c.in-Some.line.now c.in-Some.rest.now cut))
          ∙ c.loop-line.invariant.2,
      c.in_ok-push_place.ensures.places c.loop-line.invariant.3,
      rise-more _ _ c.push_place.new.places.items (c.in_ok-push_place.ensures.rise c.loop-line.invariant.4) (omega (arith, within, size)),
    )

pub returns-then-is_empty-clause-rise : goal.returns-then-is_empty-clause-rise
returns-then-is_empty-clause-rise c = rise-more _ _ c.loop-line.places.items c.loop-line.invariant.4 (omega arith)

pub push_place-requires-2-clause-line : goal.push_place-requires-2-clause-line
push_place-requires-2-clause-line c = sym (first_line-plain c.loop-line.left.now c.in_default.ensures.none)

pub returns-clause-lines : goal.returns-clause-lines
returns-clause-lines c =
    let some : 0 < length c.loop-line.left.now = grind (arith, nat_tests) in
    c.in_ok-push_place-2.ensures.lines
    ∙ ap (λ last. lines_in c.args.text.now c.loop-line.places.items ++ last) (sym (lines-plain c.loop-line.left.now c.in_default.ensures.none some))
    ∙ c.loop-line.invariant.2
