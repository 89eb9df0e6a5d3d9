-- grep over several inputs, one after another.
use Rattle.std.proofs.Common.{◌≡◌, ℕ, ◌||◌, ◌&&◌, Bool, true, false, List, [], ◌∷◌, ◌++◌, Option, drop, get_or, refl, ap, sym, ◌∙◌, append_assoc}
use mathlib.Core.Path.{fun_ext}
use Rattle.std.specs.List.{flat_map, list_any}
use Rattle.ps_lines.specs.Lines.{lines}
use Rattle.ut_args.specs.Utilities.{has_at_most_one}
use Rattle.ut_args.specs.declared.commands.GrepArgs.{GrepArgs}
use Rattle.ut_args.specs.declared.commands.Report.{Report}
use Rattle.ut_args.specs.declared.commands.Report.TheVariants as report
use Rattle.ut_streams.specs.Streams.{Put, Wrote}
use Rattle.ut_streams.specs.Utilities.{Input, labelled}
use Rattle.std.proofs.lemmas.Bool.{true≢false}
use Rattle.ps_lines.proofs.TextsLemmas.{begins-more}
use Rattle.ut_streams.proofs.StreamLemmas.{Wrote-behind, Wrote-put, Wrote-same}
use Rattle.ut_grep.specs.Output.{due_by, is_brief, picked_by}
use Rattle.ut_grep.specs.Patterns.{first_number, head_by, head_of, is_selected, name_of, selects, written}
use Rattle.ut_grep.specs.Series.{due_in_order, has_selected, is_silent, selects_in_order, written_by}
use Rattle.ut_grep.specs.Tallies.{due_of, selects_of}
use Rattle.ut_grep.specs.declared.tally.Tally.{Tally}

-- once a report needs no more lines, nothing is written and something is selected
done-due : (form : Report) (test : List ℕ → Bool) (head : List ℕ) (number : Option ℕ) (count : ℕ) (selected : Bool) (texts : List (List ℕ))
    → (selected && is_brief form) ≡ true → due_by form test head number count selected texts ≡ []
done-due form test head number count false texts done = absurd (true≢false (sym done))
done-due report.Lines test head number count true texts done = absurd (true≢false (sym done))
done-due report.Count test head number count true texts done = absurd (true≢false (sym done))
done-due report.Path test head number count true texts done = refl
done-due report.Nothing test head number count true texts done = refl

done-selects : (selected brief some : Bool) → (selected && brief) ≡ true → (selected || some) ≡ true
done-selects true brief some done = refl
done-selects false brief some done = absurd (true≢false (sym done))

-- where nothing is written, what was selected before doesn't matter
begun-due : (form : Report) (test : List ℕ → Bool) (head : List ℕ) (number : Option ℕ) (selected : Bool) (texts : List (List ℕ))
    → due_by form test head number 0 (is_silent form && selected) texts ≡ due_by form test head number 0 false texts
begun-due report.Lines test head number selected texts = refl
begun-due report.Count test head number selected texts = refl
begun-due report.Path test head number selected texts = refl
begun-due report.Nothing test head number selected texts = refl

or-none : (test : Bool) → (test || false) ≡ test
or-none true = refl
or-none false = refl

none-silent : (silent : Bool) → false ≡ (silent && false)
none-silent true = refl
none-silent false = refl

-- the tally of an input of which nothing has come
module _ (form : Report) (alone : Bool) (number : Option ℕ) (test : List ℕ → Bool) (tally : Tally) (label : List ℕ) (before : Bool)
    (is_form : tally.report ≡ form) (has_head : tally.head.items ≡ head_by form alone (name_of label)) (has_number : tally.number ≡ number)
    (has_count : tally.count ≡ 0) (has_selected_before : tally.selected ≡ (is_silent form && before)) where
  begun : (text : List ℕ) → due_of tally test (lines text) ≡ written_by form alone number test (record { label = label; text = text })
  begun text =
      ap (λ form. due_by form test tally.head.items tally.number tally.count tally.selected (lines text)) is_form
      ∙ ap (λ head. due_by form test head tally.number tally.count tally.selected (lines text)) has_head
      ∙ ap (λ number. due_by form test (head_by form alone (name_of label)) number tally.count tally.selected (lines text)) has_number
      ∙ ap (λ count. due_by form test (head_by form alone (name_of label)) number count tally.selected (lines text)) has_count
      ∙ ap (λ selected. due_by form test (head_by form alone (name_of label)) number 0 selected (lines text)) has_selected_before
      ∙ begun-due form test (head_by form alone (name_of label)) number before (lines text)

-- inputs none of which has come
pub in_order-whole : (current : List ℕ → List ℕ) (each : Input → List ℕ) (labels texts : List (List ℕ))
    → ((text : List ℕ) → current text ≡ each (record { label = get_or labels 0 []; text = text })) → due_in_order current each labels texts ≡ flat_map each (labelled labels texts)
in_order-whole current each labels [] same = refl
in_order-whole current each labels (text ∷ others) same = ap (λ first. first ++ flat_map each (labelled (drop 1 labels) others)) (same text)

-- the beginning of an invocation
module _ (args : GrepArgs) (labels : List (List ℕ)) (tally : Tally) (test : List ℕ → Bool) (held : List ℕ) (alone : Bool) (number : Option ℕ)
    (is_test : test ≡ is_selected args) (is_form : tally.report ≡ args.report) (has_head : tally.head.items ≡ head_of args (get_or labels 0 []))
    (has_number : tally.number ≡ first_number args) (has_count : tally.count ≡ 0) (none : tally.selected ≡ false) (nothing : held ≡ [])
    (form : Report) (own_form : form ≡ args.report) (few : alone ≡ has_at_most_one args.operands) (first : number ≡ first_number args) where
  pub series-written : (texts : List (List ℕ))
      → due_in_order (λ more. due_of tally test (lines (held ++ more))) (written_by form alone number test) labels texts
      ≡ flat_map (λ (input : Input). written args input.label input.text) (labelled labels texts)
  series-written texts =
      (λ i. due_in_order (λ more. due_of tally (is_test i) (lines (nothing i ++ more))) (written_by (own_form i) (few i) (first i) (is_test i)) labels texts)
      ∙ in_order-whole (λ more. due_of tally (is_selected args) (lines more)) (written_by args.report (has_at_most_one args.operands) (first_number args) (is_selected args)) labels texts
      (begun args.report (has_at_most_one args.operands) (first_number args) (is_selected args) tally (get_or labels 0 []) false is_form has_head has_number has_count
      (none ∙ none-silent (is_silent args.report)))

  pub series-selects : (before : Bool) → before ≡ false → (texts : List (List ℕ))
      → selects_in_order before (λ more. selects_of tally test (lines (held ++ more))) (has_selected test) labels texts
      ≡ list_any (λ (input : Input). selects args input.text) (labelled labels texts)
  series-selects before is [] = is
  series-selects before is (text ∷ others) =
      λ i. is i || ((none i || list_any (is_test i) (lines (nothing i ++ text))) || list_any (has_selected (is_test i)) (labelled (drop 1 labels) others))

-- a piece that isn't looked at
module _ (form : Report) (test : List ℕ → Bool) (head : List ℕ) (number : Option ℕ) (count : ℕ) (selected : Bool) (held : List ℕ) (each : Input → List ℕ)
    (labels : List (List ℕ)) (done : (selected && is_brief form) ≡ true) where
  abbrev due_now : List ℕ → List ℕ
  due_now more = due_by form test head number count selected (lines (held ++ more))

  pub done-fed : (piece out : List ℕ) (whole : Bool) (others : List (List ℕ))
      → Wrote (λ more. due_in_order due_now each labels ((piece ++ more) ∷ others)) (λ more. due_in_order due_now each labels (more ∷ others)) out out whole
  done-fed piece out whole others =
      Wrote-same (λ more. due_in_order due_now each labels ((piece ++ more) ∷ others)) (λ more. due_in_order due_now each labels (more ∷ others)) out whole
      (λ ok more. ap (λ first. first ++ flat_map each (labelled (drop 1 labels) others))
      (done-due form test head number count selected (lines (held ++ more)) done ∙ sym (done-due form test head number count selected (lines (held ++ (piece ++ more))) done)))

  pub done-selected : (before : Bool) (picks : Input → Bool) (piece more : List ℕ) (others : List (List ℕ))
      → selects_in_order before (λ more. selected || list_any test (lines (held ++ more))) picks labels (more ∷ others)
      ≡ selects_in_order before (λ more. selected || list_any test (lines (held ++ more))) picks labels ((piece ++ more) ∷ others)
  done-selected before picks piece more others =
      ap (λ some. before || (some || list_any picks (labelled (drop 1 labels) others)))
      (done-selects selected (is_brief form) (list_any test (lines (held ++ more))) done
      ∙ sym (done-selects selected (is_brief form) (list_any test (lines (held ++ (piece ++ more)))) done))

-- a piece that is: tests that answer alike are one
module _ (was now : List ℕ → List ℕ) (form : Report) (alone : Bool) (number : Option ℕ) (test test' : List ℕ → Bool) (labels : List (List ℕ))
    (same : (line : List ℕ) → test' line ≡ test line) where
  pub piece-fed : (piece old new : List ℕ) (whole : Bool) → Wrote (λ more. was (piece ++ more)) now old new whole → (others : List (List ℕ))
      → Wrote (λ more. due_in_order was (written_by form alone number test) labels ((piece ++ more) ∷ others))
      (λ more. due_in_order now (written_by form alone number test') labels (more ∷ others)) old new whole
  piece-fed piece old new whole wrote others =
      rw (fun_ext same) (Wrote-behind (λ more. was (piece ++ more)) now (flat_map (written_by form alone number test) (labelled (drop 1 labels) others)) old new whole wrote)

-- an input has ended: its lines and then nothing is written, and the next begins
module _ (form : Report) (alone : Bool) (number : Option ℕ) (test test' : List ℕ → Bool) (labels labels' : List (List ℕ)) (passed : labels' ≡ drop 1 labels)
    (same : (line : List ℕ) → test' line ≡ test line) (was : List ℕ → List ℕ) where
  pub input-ended : (tally : Tally) (held : List ℕ) (before : Bool) (old new : List ℕ) → Put (was []) old new true
      → tally.report ≡ form → tally.head.items ≡ head_by form alone (name_of (get_or labels' 0 [])) → tally.number ≡ number → tally.count ≡ 0
      → tally.selected ≡ (is_silent form && before) → held ≡ []
      → Wrote (λ others. due_in_order was (written_by form alone number test) labels ([] ∷ others))
      (due_in_order (λ more. due_of tally test' (lines (held ++ more))) (written_by form alone number test') labels') old new true
  input-ended tally held before old new put is_form has_head has_number has_count selected nothing =
      Wrote-put (λ others. due_in_order was (written_by form alone number test) labels ([] ∷ others))
      (due_in_order (λ more. due_of tally test' (lines (held ++ more))) (written_by form alone number test') labels') (was []) old new true
      (λ others. ap (λ rest. was [] ++ rest) (sym (fresh others))) put
    where
      is_same : test' ≡ test
      is_same = fun_ext same

      fresh : (others : List (List ℕ))
          → due_in_order (λ more. due_of tally test' (lines (held ++ more))) (written_by form alone number test') labels' others
          ≡ flat_map (written_by form alone number test) (labelled (drop 1 labels) others)
      fresh others =
          (λ i. due_in_order (λ more. due_of tally (is_same i) (lines (nothing i ++ more))) (written_by form alone number (is_same i)) labels' others)
          ∙ in_order-whole (λ more. due_of tally test (lines more)) (written_by form alone number test) labels' others
          (begun form alone number test tally (get_or labels' 0 []) before is_form has_head has_number has_count selected)
          ∙ ap (λ labels. flat_map (written_by form alone number test) (labelled labels others)) passed

  -- memory was wanted for the next
  pub input-stopped : (now : List (List ℕ) → List ℕ) (old new : List ℕ) (whole : Bool) → Put (was []) old new whole
      → Wrote (λ others. due_in_order was (written_by form alone number test) labels ([] ∷ others)) now old new false
  input-stopped now old new whole put = record {
    kept = put.kept;
    grew = λ ok. absurd (true≢false (sym ok));
    part = λ others. rw (← append_assoc old (was []) (flat_map (written_by form alone number test) (labelled (drop 1 labels) others)))
        (begins-more (old ++ was []) new (flat_map (written_by form alone number test) (labelled (drop 1 labels) others)) put.part);
  }

  -- what was selected in it is now what was selected before
  pub ended-selects : (before now found silent again : Bool) (picks : List ℕ → Bool) (picks' : List ℕ → Bool) → found ≡ picks [] → now ≡ (before || found) → again ≡ (silent && found)
      → ((text : List ℕ) → picks' text ≡ (again || list_any test (lines text))) → (others : List (List ℕ))
      → selects_in_order now picks' (has_selected test') labels' others ≡ selects_in_order before picks (has_selected test) labels ([] ∷ others)
  ended-selects before now found silent again picks picks' is_found is_now is_again tells [] =
      is_now ∙ ap (λ found. before || found) (is_found ∙ sym (or-none (picks [])))
  ended-selects before now found silent again picks picks' is_found is_now is_again tells (text ∷ others) =
      (λ i. is_now i || (tells text i || list_any (has_selected (is_same i)) (labelled (drop 1 (passed i)) others)))
      ∙ ap (λ again. (before || found) || ((again || list_any test (lines text)) || rest)) is_again
      ∙ by_found before found silent (list_any test (lines text)) rest
      ∙ ap (λ found. before || (found || (list_any test (lines text) || rest))) is_found
    where
      is_same : test' ≡ test
      is_same = fun_ext same

      rest : Bool
      rest = list_any (has_selected test) (labelled (drop 1 (drop 1 labels)) others)

      by_found : (before found silent one more : Bool) → ((before || found) || (((silent && found) || one) || more)) ≡ (before || (found || (one || more)))
      by_found true found silent one more = refl
      by_found false true silent one more = refl
      by_found false false true one more = refl
      by_found false false false one more = refl

pub ruleset feeds = (done-fed, done-selected, piece-fed)

pub ruleset ends = (input-ended, input-stopped, ended-selects)
