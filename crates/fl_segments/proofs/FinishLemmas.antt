-- Where the table gives no finish, the output is the map of the whole.
use Rattle.std.proofs.Common.{◌≡◌, ℕ, List, [], ◌∷◌, ◌++◌, Bool, true, false, not, refl, ap, sym, ◌∙◌, append-nil}
use Rattle.std.specs.List.{filter, flat_map}
use Rattle.std.proofs.lemmas.Bool.{true≢false}
use Rattle.ut_args.specs.Inputs.{is_named}
use Rattle.ut_args.specs.Utilities.{has_at_most_one}
use Rattle.ut_args.specs.declared.commands.Groups.{Groups}
use Rattle.ut_args.specs.declared.commands.Groups.TheVariants as groups
use Rattle.ut_args.specs.declared.invocations.Inv.{Inv}
use Rattle.ut_args.specs.declared.invocations.Inv.TheVariants as inv
use Rattle.ut_streams.specs.Utilities.{Utility}
use Rattle.ut_groups.specs.Uniq.{uniq_finish}
use Rattle.ut_groups.specs.Wc.{wc_line}
use Rattle.ut_groups.proofs.WcLemmas.{total-none}
use Rattle.fl_classes.specs.Aggregates.{finish_of, map_of}
use Rattle.fl_classes.specs.Laws.{IsParallel}
use Rattle.fl_classes.specs.Utilities.{labelled}
use Rattle.fl_classes.proofs.ClassLemmas.{by_built, wc-map, wc-output}
use Rattle.fl_segments.specs.Stages.{has_finish, is_none, keeps_some}

none-is : (operands : List (List ℕ)) → is_none operands ≡ true → operands ≡ []
none-is [] is = refl
none-is (operand ∷ operands) is = absurd (true≢false (sym is))

groups-none : (of : Groups) → keeps_some of ≡ false → (text : List ℕ) → uniq_finish of text ≡ text
groups-none groups.All none text = refl
groups-none groups.Counted none text = refl
groups-none groups.Repeated none text = absurd (true≢false none)
groups-none groups.Single none text = absurd (true≢false none)

not-not : (test : Bool) → not test ≡ false → test ≡ true
not-not true is = refl
not-not false is = absurd (true≢false is)

pub finish-none : (inv : Inv) → IsParallel inv → has_finish inv ≡ false → (text : List ℕ) → finish_of inv (map_of inv text) ≡ map_of inv text
finish-none (inv.Wc wc) law none text =
    let empty : wc.args.operands ≡ [] = none-is wc.args.operands (not-not (is_none wc.args.operands) none) in
    let line : List (List ℕ) → List ℕ = λ operands. flat_map (λ input. wc_line wc.args input.label input.text) (labelled (filter is_named operands) (text ∷ [])) in
    sym (law.whole text) ∙ wc-output (text ∷ []) wc
    ∙ ap (λ (rest : List ℕ). line wc.args.operands ++ rest) (total-none wc.args (labelled (filter is_named wc.args.operands) (text ∷ [])) (ap has_at_most_one empty))
    ∙ append-nil (line wc.args.operands) ∙ ap line empty ∙ append-nil (wc_line wc.args [] text) ∙ sym (wc-map wc text)
finish-none (inv.Uniq uniq) law none text =
    by_built (inv.Uniq uniq) (λ (utility : Utility). utility.finish (map_of (inv.Uniq uniq) text) ≡ map_of (inv.Uniq uniq) text) (λ built. groups-none uniq.args.groups none (map_of (inv.Uniq uniq) text)) refl
finish-none other law none text = by_built other (λ (utility : Utility). utility.finish (map_of other text) ≡ map_of other text) (λ built. refl) refl
