-- Aggregates in any order.
use Rattle.std.proofs.Common.{◌≡◌, ℕ, zero, suc, ◌<◌, List, [], ◌∷◌, ◌++◌, true, false, length, map, get_or, set, refl, ap, ap₂, sym, ◌∙◌, arith}
use Rattle.std.specs.List.Sorted.{IsPermutation}
use Rattle.std.proofs.lemmas.Bool.{not-true, true≢false}
use Rattle.std.proofs.lemmas.List.{length-set}
use Rattle.std.proofs.lemmas.List.Edits.{swap_is}
use Rattle.std.proofs.lemmas.List.Sorted.{IsPermutation-keeps}
use Rattle.ps_lines.specs.Lines.{closing}
use Rattle.ut_args.specs.declared.commands.Report.{Report}
use Rattle.ut_args.specs.declared.commands.Report.TheVariants as report
use Rattle.ut_args.specs.declared.invocations.GrepInv.{GrepInv}
use Rattle.ut_args.specs.declared.invocations.SortInv.{SortInv}
use Rattle.ut_args.specs.declared.invocations.WcInv.{WcInv}
use Rattle.ut_args.specs.declared.invocations.Inv.{Inv}
use Rattle.ut_args.specs.declared.invocations.Inv.TheVariants as inv
use Rattle.ut_grep.specs.Grep.{joined_by}
use Rattle.ut_grep.proofs.UtilityLemmas.{counts-associate, counts-commute}
use Rattle.ut_groups.specs.Wc.{columns_of}
use Rattle.ut_groups.proofs.WcLemmas.{sums-associate, sums-commute}
use Rattle.ut_sort.specs.Merging.{merged_texts}
use Rattle.ut_sort.specs.Order.{order_of, sorted_text}
use Rattle.ut_sort.proofs.UtilityLemmas.{merge-associates, merge-commutes, merge-sorts}
use Rattle.fl_classes.specs.Aggregates.{aggregate_from, aggregate_of, joined_maps, map_of}
use Rattle.fl_classes.specs.Kinds.{is_count}
use Rattle.fl_classes.specs.Laws.{IsCommutative, IsGathered, from_map, from_two, is_commutative}

-- counts are added up in any order, whatever stands in the texts
wc-commutative : (wc : WcInv) → IsCommutative (inv.Wc wc)
wc-commutative wc = record {
  commutes = λ one other is is'. sums-commute (columns_of wc.args) one other;
  associates = λ one two three is is' is''. sums-associate (columns_of wc.args) one two three;
}

grep-commutative : (grep : GrepInv) → is_count grep.args.report ≡ true → IsCommutative (inv.Grep grep)
grep-commutative grep counts = by_report grep.args.report refl counts
  where
    by_report : (form : Report) → grep.args.report ≡ form → is_count form ≡ true → IsCommutative (inv.Grep grep)
    by_report report.Lines is counts = absurd (true≢false (sym counts))
    by_report report.Path is counts = absurd (true≢false (sym counts))
    by_report report.Nothing is counts = absurd (true≢false (sym counts))
    by_report report.Count is counts = record {
      commutes = λ one other _ _. ap (λ form. joined_by form one other) is ∙ counts-commute one other ∙ ap (λ form. joined_by form other one) (sym is);
      associates = λ one two three _ _ _.
          ap (λ form. joined_by form (joined_by form one two) three) is ∙ counts-associate one two three
          ∙ ap (λ form. joined_by form one (joined_by form two three)) (sym is);
    }

-- what is merged of sorted texts is one, and these are merged in any order
module _ (sort : SortInv) where
  abbrev merged_two : List ℕ → List ℕ → List ℕ
  merged_two one other = merged_texts (order_of sort.args) sort.args.unique one other

  is-sorted : (made : List ℕ) → IsGathered (inv.Sort sort) made → (text : List ℕ) × (made ≡ sorted_text sort.args text)
  is-sorted made (from_map text) = (text, refl)
  is-sorted made (from_two {one} {other} is is') =
      let front = is-sorted one is in
      let back = is-sorted other is' in
      (closing front.0 ++ back.0, ap₂ merged_two front.1 back.1 ∙ merge-sorts sort.args front.0 back.0)

  sort-commutative : sort.args.unique ≡ false → IsCommutative (inv.Sort sort)
  sort-commutative all = record {
    commutes = λ one other is is'. by_two one other (is-sorted one is) (is-sorted other is');
    associates = λ one two three is is' is''. by_three one two three (is-sorted one is) (is-sorted two is') (is-sorted three is'');
  }
    where
      Sorted : List ℕ → Type 0
      Sorted made = (text : List ℕ) × (made ≡ sorted_text sort.args text)

      by_two : (one other : List ℕ) → Sorted one → Sorted other → merged_two one other ≡ merged_two other one
      by_two one other is is' = ap₂ merged_two is.1 is'.1 ∙ merge-commutes sort.args all is.0 is'.0 ∙ ap₂ merged_two (sym is'.1) (sym is.1)

      by_three : (one two three : List ℕ) → Sorted one → Sorted two → Sorted three → merged_two (merged_two one two) three ≡ merged_two one (merged_two two three)
      by_three one two three is is' is'' =
          ap₂ merged_two (ap₂ merged_two is.1 is'.1) is''.1 ∙ merge-associates sort.args is.0 is'.0 is''.0
          ∙ ap₂ merged_two (sym is.1) (ap₂ merged_two (sym is'.1) (sym is''.1))

pub are-commutative : (inv : Inv) → is_commutative inv ≡ true → IsCommutative inv
are-commutative (inv.Wc wc) is = wc-commutative wc
are-commutative (inv.Grep grep) is = grep-commutative grep is
are-commutative (inv.Sort sort) is = sort-commutative sort (not-true sort.args.unique is)
are-commutative other is = absurd (true≢false (sym is))

-- the maps of several texts
module _ (inv : Inv) (law : IsCommutative inv) where
  abbrev maps : List (List ℕ) → List (List ℕ)
  maps texts = map (map_of inv) texts

  -- what comes first may be joined last
  joined-first : (one two : List ℕ) (texts : List (List ℕ)) → IsGathered inv one → IsGathered inv two
      → aggregate_from inv (joined_maps inv one two) (maps texts) ≡ joined_maps inv one (aggregate_from inv two (maps texts))
  joined-first one two [] is is' = refl
  joined-first one two (text ∷ texts) is is' =
      ap (λ made. aggregate_from inv made (maps texts)) (law.associates one two (map_of inv text) is is' (from_map text))
      ∙ joined-first one (joined_maps inv two (map_of inv text)) texts is (from_two is' (from_map text))

  joined-groups : (one : List ℕ) (texts : List (List ℕ)) (second : List ℕ) (others : List (List ℕ)) → IsGathered inv one
      → aggregate_from inv one (maps (texts ++ second ∷ others)) ≡ joined_maps inv (aggregate_from inv one (maps texts)) (aggregate_from inv (map_of inv second) (maps others))
  joined-groups one [] second others is = joined-first one (map_of inv second) others is (from_map second)
  joined-groups one (text ∷ texts) second others is = joined-groups (joined_maps inv one (map_of inv text)) texts second others (from_two is (from_map text))

  pub in-groups : (first second : List ℕ) (texts others : List (List ℕ))
      → aggregate_of inv (maps ((first ∷ texts) ++ (second ∷ others))) ≡ joined_maps inv (aggregate_of inv (maps (first ∷ texts))) (aggregate_of inv (maps (second ∷ others)))
  in-groups first second texts others = joined-groups (map_of inv first) texts second others (from_map first)

  -- the first two the other way round
  flipped : (one other : List ℕ) (texts : List (List ℕ))
      → aggregate_from inv (joined_maps inv (map_of inv one) (map_of inv other)) (maps texts)
      ≡ aggregate_from inv (joined_maps inv (map_of inv other) (map_of inv one)) (maps texts)
  flipped one other texts =
      ap (λ made. aggregate_from inv made (maps texts)) (law.commutes (map_of inv one) (map_of inv other) (from_map one) (from_map other))

  -- the first, and one behind it
  exchanged : (first : List ℕ) (texts : List (List ℕ)) (place : ℕ) (d : List ℕ) → place < length texts
      → aggregate_of inv (maps (get_or texts place d ∷ set texts place first)) ≡ aggregate_of inv (maps (first ∷ texts))
  exchanged first [] place d within = absurd (omega arith)
  exchanged first (text ∷ texts) zero d within = flipped text first texts
  exchanged first (text ∷ texts) (suc place) d within =
      let last = get_or texts place d in
      flipped last text (set texts place first)
      ∙ joined-first (map_of inv text) (map_of inv last) (set texts place first) (from_map text) (from_map last)
      ∙ ap (joined_maps inv (map_of inv text)) (exchanged first texts place d (omega arith))
      ∙ sym (joined-first (map_of inv text) (map_of inv first) texts (from_map text) (from_map first))
      ∙ flipped text first texts

  -- behind a first one others may change that leave the same
  behind : (first : List ℕ) (texts others : List (List ℕ)) → length texts ≡ length others → aggregate_of inv (maps texts) ≡ aggregate_of inv (maps others)
      → aggregate_of inv (maps (first ∷ texts)) ≡ aggregate_of inv (maps (first ∷ others))
  behind first [] [] size same = refl
  behind first [] (other ∷ others) size same = absurd (omega arith)
  behind first (text ∷ texts) [] size same = absurd (omega arith)
  behind first (text ∷ texts) (other ∷ others) size same =
      joined-first (map_of inv first) (map_of inv text) texts (from_map first) (from_map text)
      ∙ ap (joined_maps inv (map_of inv first)) same
      ∙ sym (joined-first (map_of inv first) (map_of inv other) others (from_map first) (from_map other))

  -- any two
  abbrev both_set : List (List ℕ) → ℕ → ℕ → List ℕ → List (List ℕ)
  both_set texts one other d = set (set texts one (get_or texts other d)) other (get_or texts one d)

  swapped : (texts : List (List ℕ)) (one other : ℕ) (d : List ℕ) → one < length texts → other < length texts
      → aggregate_of inv (maps (both_set texts one other d)) ≡ aggregate_of inv (maps texts)
  swapped [] one other d within within' = absurd (omega arith)
  swapped (text ∷ texts) zero zero d within within' = refl
  swapped (text ∷ texts) zero (suc other) d within within' = exchanged text texts other d (omega arith)
  swapped (text ∷ texts) (suc one) zero d within within' = exchanged text texts one d (omega arith)
  swapped (text ∷ texts) (suc one) (suc other) d within within' =
      behind text (both_set texts one other d) texts size (swapped texts one other d (omega arith) (omega arith))
    where
      size : length (both_set texts one other d) ≡ length texts
      size = length-set (set texts one (get_or texts other d)) other (get_or texts one d) ∙ length-set texts one (get_or texts other d)

  pub in-any-order : (texts others : List (List ℕ)) → IsPermutation texts others → aggregate_of inv (maps texts) ≡ aggregate_of inv (maps others)
  in-any-order texts others moved =
      sym (IsPermutation-keeps texts (λ list. aggregate_of inv (maps list) ≡ aggregate_of inv (maps texts)) refl
      (λ list one other within within' same.
      ap (λ list. aggregate_of inv (maps list)) (sym (swap_is list one other [] within within')) ∙ swapped list one other [] within within' ∙ same) others moved)

pub ruleset order_laws = (are-commutative, in-any-order, in-groups)
