use Rattle.std.proofs.Common.{◌≡◌, ◌++◌, ◌∷◌, [], suc, inl, inr, refl, sym, ◌∙◌}
use Rattle.ut_streams.proofs.StreamLemmas.{OnOk-then}
use Rattle.ut_slices.specs.Inner.Columns.{AreUsed}
use Rattle.ut_slices.proofs.ColumnLemmas.{AreUsed-new, AreUsed-shared, both-ok, same-some}
use Rattle.ut_slices.proofs.columns.add.Goals as goal

pub returns-then-is_standard-clause-used : goal.returns-then-is_standard-clause-used
returns-then-is_standard-clause-used c =
    let old = c.args.columns.now in
    OnOk-then c.push_input.result (c.push_input.new.inputs.items ≡ old.inputs.items ++ c.in-Some.input ∷ []) _
    (λ inputs. AreUsed-shared old _ c.in-Some.input inputs refl refl c.in-Some.is) c.push_input.ensures

pub returns-then-not-is_standard-clause-used : goal.returns-then-not-is_standard-clause-used
returns-then-not-is_standard-clause-used c =
    AreUsed-new c.args.columns.now c.add_new-in-None.new.columns c.in-Ok.ensures.inputs c.in-Ok.ensures.next (λ input is. inl (sym c.in-Ok.ensures.standard ∙ is))

pub returns-else-is_standard-clause-used : goal.returns-else-is_standard-clause-used
returns-else-is_standard-clause-used c =
    let old = c.args.columns.now in
    let new = c.add_new.new.columns in
    both-ok c.add_new.result (new.inputs.items ≡ old.inputs.items ++ old.next ∷ []) (new.next ≡ suc old.next) (AreUsed old → AreUsed new)
    (λ inputs next. AreUsed-new old new inputs next (λ input is. inl (sym c.add_new.ensures.standard ∙ is))) c.add_new.ensures.inputs c.add_new.ensures.next

pub returns-else-not-is_standard-clause-used : goal.returns-else-not-is_standard-clause-used
returns-else-not-is_standard-clause-used c =
    AreUsed-new c.args.columns.now _ c.in-Ok.ensures.inputs c.in-Ok.ensures.next (λ input is. inr (same-some c.args.columns.now.next input is))
