-- The sorted text of two parts is the merge of theirs, and texts may be merged in any order.
use Rattle.std.proofs.Common.{◌≡◌, ℕ, suc, ◌+◌, List, [], ◌∷◌, ◌++◌, Bool, true, false, not, cond, replicate, if◌then◌else◌, refl, ap, ap₂, sym, ◌∙◌, append_assoc, arith}
use Rattle.std.specs.List.{count_by}
use Rattle.std.specs.List.Sorted.{IsPermutation}
use Rattle.std.specs.Ordering.{is_eq}
use Rattle.std.proofs.lemmas.Bool.{and_parts}
use Rattle.std.proofs.lemmas.List.Sorted.{IsPermutation-append_comm, sum_by-IsPermutation}
use Rattle.std.proofs.lemmas.List.Sums.{sum_by-cons}
use Rattle.ps_lines.specs.Lines.{are_lines, closing, has_newline, is_cutlist, lines, text_of_lines}
use Rattle.ps_lines.proofs.LineLemmas.{are_lines-lines, is_closed-closing, lines-append, lines-closing, lines-text_of_lines, lines_of_cut}
use Rattle.ut_args.specs.declared.SortArgs.{SortArgs}
use Rattle.ut_sort.specs.Merging.{merged, merged_texts}
use Rattle.ut_sort.specs.Order.{order_of, sorted_lines, sorted_text}
use Rattle.ut_sort.specs.Sorted.{equals, kept}
use Rattle.ut_sort.proofs.OrderLemmas.{lines_merged, lines_sorted, only_lines_sorted, order_same, order_total}
use Rattle.ut_sort.proofs.PlaceLemmas.{Each, each-sorted}
use Rattle.ut_sort.proofs.SortedLemmas.{tied}

abbrev IsLine : List ℕ → Type 0
IsLine line = not (has_newline line) ≡ true

each-line : (texts : List (List ℕ)) → are_lines texts ≡ true → Each IsLine texts
each-line [] are = tt
each-line (line ∷ others) are =
    let parts = and_parts (not (has_newline line)) (are_lines others) are in (parts.0, each-line others parts.1)

lines-each : (texts : List (List ℕ)) → Each IsLine texts → are_lines texts ≡ true
lines-each [] each = refl
lines-each (line ∷ others) each = rw each.0 (lines-each others each.1)

-- sorted lines are lines
sorted-are : (args : SortArgs) (texts : List (List ℕ)) → are_lines texts ≡ true → are_lines (sorted_lines args texts) ≡ true
sorted-are args texts are = lines-each (sorted_lines args texts) (each-sorted IsLine (order_of args) args.unique texts (each-line texts are))

pub lines-sorted_text : (args : SortArgs) (text : List ℕ) → lines (sorted_text args text) ≡ sorted_lines args (lines text)
lines-sorted_text args text = lines-text_of_lines (sorted_lines args (lines text)) (sorted-are args (lines text) (are_lines-lines text))

-- the merge of two texts in order has the lines of both, in order
merged-lines : (args : SortArgs) (one other : List ℕ)
    → merged_texts (order_of args) args.unique (sorted_text args one) (sorted_text args other) ≡ text_of_lines (sorted_lines args (lines one ++ lines other))
merged-lines args one other =
    (λ i. text_of_lines (merged (order_of args) args.unique (lines-sorted_text args one i) (lines-sorted_text args other i)))
    ∙ ap text_of_lines (lines_merged args (lines one) (lines other))

pub sorted_text-joins : (args : SortArgs) (front back : List ℕ) → is_cutlist (front ∷ back ∷ []) ≡ true
    → sorted_text args (front ++ back) ≡ merged_texts (order_of args) args.unique (sorted_text args front) (sorted_text args back)
sorted_text-joins args front back cut =
    ap (λ texts. text_of_lines (sorted_lines args texts)) (lines_of_cut front back cut) ∙ sym (merged-lines args front back)

-- lines that are equal without -u are the same, so lines may come in any order
equals-copies : (args : SortArgs) → args.unique ≡ false → (line : List ℕ) (texts : List (List ℕ))
    → equals (order_of args) line texts ≡ replicate (count_by (λ other. is_eq (order_of args line other)) texts) line
equals-copies args all line [] = refl
equals-copies args all line (other ∷ texts) =
    by_eq (is_eq (order_of args line other)) refl (equals-copies args all line texts)
    ∙ ap (λ count. replicate count line) (sym (sum_by-cons (λ other. if is_eq (order_of args line other) then 1 else 0) other texts))
  where
    more : ℕ
    more = count_by (λ other. is_eq (order_of args line other)) texts

    by_eq : (eq : Bool) → is_eq (order_of args line other) ≡ eq → equals (order_of args) line texts ≡ replicate more line
        → cond eq (other ∷ equals (order_of args) line texts) (equals (order_of args) line texts) ≡ replicate ((if eq then 1 else 0) + more) line
    by_eq true is rest =
        let same : line ≡ other = order_same args all line other (tied (order_of args) (order_total args) line other is) in
        let next : suc more ≡ 1 + more = omega arith in
        ap₂ (λ (first : List ℕ) (others : List (List ℕ)). first ∷ others) (sym same) rest ∙ ap (λ count. replicate count line) next
    by_eq false is rest = let none : more ≡ 0 + more = omega arith in rest ∙ ap (λ count. replicate count line) none

sorted-any_order : (args : SortArgs) → args.unique ≡ false → (texts others : List (List ℕ)) → IsPermutation texts others
    → sorted_lines args texts ≡ sorted_lines args others
sorted-any_order args all texts others moved =
    only_lines_sorted args others (sorted_lines args texts)
    (record { order = (lines_sorted args texts).order; each = λ line. (lines_sorted args texts).each line ∙ ap (kept (order_of args) args.unique) (alike line) })
  where
    alike : (line : List ℕ) → equals (order_of args) line texts ≡ equals (order_of args) line others
    alike line =
        equals-copies args all line texts ∙ ap (λ count. replicate count line) (sym (sum_by-IsPermutation _ texts others moved)) ∙ sym (equals-copies args all line others)

-- so are two texts that are merged
pub merge-commutes : (args : SortArgs) → args.unique ≡ false → (one other : List ℕ)
    → merged_texts (order_of args) args.unique (sorted_text args one) (sorted_text args other)
    ≡ merged_texts (order_of args) args.unique (sorted_text args other) (sorted_text args one)
merge-commutes args all one other =
    merged-lines args one other
    ∙ ap text_of_lines (sorted-any_order args all (lines one ++ lines other) (lines other ++ lines one) (IsPermutation-append_comm (lines one) (lines other)))
    ∙ sym (merged-lines args other one)

-- and what is merged is a sorted text again
both-lines : (one other : List ℕ) → lines (closing one ++ other) ≡ lines one ++ lines other
both-lines one other =
    lines-append (closing one) other (is_closed-closing one) ∙ ap (λ front. front ++ lines other) (lines-closing one)

pub merge-sorts : (args : SortArgs) (one other : List ℕ)
    → merged_texts (order_of args) args.unique (sorted_text args one) (sorted_text args other) ≡ sorted_text args (closing one ++ other)
merge-sorts args one other = merged-lines args one other ∙ ap (λ texts. text_of_lines (sorted_lines args texts)) (sym (both-lines one other))

pub merge-associates : (args : SortArgs) (one two three : List ℕ)
    → merged_texts (order_of args) args.unique (merged_texts (order_of args) args.unique (sorted_text args one) (sorted_text args two)) (sorted_text args three)
    ≡ merged_texts (order_of args) args.unique (sorted_text args one) (merged_texts (order_of args) args.unique (sorted_text args two) (sorted_text args three))
merge-associates args one two three =
    ap (λ text. merged_texts (order_of args) args.unique text (sorted_text args three)) (merge-sorts args one two)
    ∙ merged-lines args (closing one ++ two) three
    ∙ ap (λ texts. text_of_lines (sorted_lines args texts)) regrouped
    ∙ sym (merged-lines args one (closing two ++ three))
    ∙ ap (λ text. merged_texts (order_of args) args.unique (sorted_text args one) text) (sym (merge-sorts args two three))
  where
    regrouped : lines (closing one ++ two) ++ lines three ≡ lines one ++ lines (closing two ++ three)
    regrouped =
        ap (λ front. front ++ lines three) (both-lines one two) ∙ append_assoc (lines one) (lines two) (lines three)
        ∙ ap (λ back. lines one ++ back) (sym (both-lines two three))

pub ruleset sorts_parts = sorted_text-joins
