-- The counts of several inputs, one after another.
use Rattle.std.proofs.Common.{◌≡◌, ℕ, ◌+◌, ◌^◌, min, List, [], ◌∷◌, ◌++◌, Bool, true, false, not, drop, get_or, length, codes, if◌then◌else◌, refl, ap, sym, ◌∙◌, append_assoc, arith}
use Rattle.std.specs.List.{flat_map}
use Rattle.ut_args.specs.Utilities.{has_at_most_one}
use Rattle.ut_args.specs.declared.commands.WcArgs.{WcArgs}
use Rattle.ut_streams.specs.Streams.{Put, Wrote}
use Rattle.ut_streams.specs.Utilities.{Input, labelled}
use Rattle.ut_streams.proofs.StreamLemmas.{Wrote-put, Wrote-same}
use Rattle.ut_groups.specs.declared.counting.Counts.{Counts}
use Rattle.ut_groups.specs.declared.columns.Columns.{Columns}
use Rattle.ut_groups.specs.Counting.{added, counts_of, no_counts, saturated, saturated_counts}
use Rattle.ut_groups.specs.Columns.{counts_line}
use Rattle.ut_groups.specs.Inner.Columns.{counts_behind}
use Rattle.ut_groups.specs.Inner.Series.{PrintAlike, lines_behind, total_line, wc_due}
use Rattle.ut_groups.specs.Wc.{columns_of, counts_of_all, wc_output}
use Rattle.ut_groups.proofs.ColumnLemmas.{line-printed}

module _ (columns : Columns) where
  -- counts that are printed alike stay so in sums
  alike-sums : (sums one other rest : Counts) → PrintAlike columns one other → PrintAlike columns (added (added sums one) rest) (added (added sums other) rest)
  alike-sums sums one other rest alike = record {
    lines = λ is. sum-alike sums.lines one.lines other.lines rest.lines (alike.lines is);
    words = λ is. sum-alike sums.words one.words other.words rest.words (alike.words is);
    bytes = λ is. sum-alike sums.bytes one.bytes other.bytes rest.bytes (alike.bytes is);
  }
    where
      sum-alike : (sum one other rest : ℕ) → saturated one ≡ saturated other → saturated ((sum + one) + rest) ≡ saturated ((sum + other) + rest)
      sum-alike sum one other rest same = omega (arith, same)

  total-alike : (has_total : Bool) (one other : Counts) → PrintAlike columns one other → total_line has_total columns one ≡ total_line has_total columns other
  total-alike has_total one other alike = ap (λ line. if has_total then line else []) (line-printed columns one other (codes "total") alike)

  -- a piece is counted, and nothing is written for it
  pub wc-fed : (has_total : Bool) (sums counts now : Counts) (before last : ℕ) (labels : List (List ℕ)) (piece out : List ℕ) (whole : Bool)
      → ((more : List ℕ) → PrintAlike columns (counts_behind now last more) (counts_behind counts before (piece ++ more)))
      → (others : List (List ℕ))
      → Wrote (λ more. wc_due has_total columns sums counts before labels ((piece ++ more) ∷ others)) (λ more. wc_due has_total columns sums now last labels (more ∷ others)) out out whole
  wc-fed has_total sums counts now before last labels piece out whole alike others =
      Wrote-same (λ more. wc_due has_total columns sums counts before labels ((piece ++ more) ∷ others)) (λ more. wc_due has_total columns sums now last labels (more ∷ others)) out whole
      (λ ok more. same more)
    where
      inputs : List Input
      inputs = labelled (drop 1 labels) others

      lines : List ℕ
      lines = flat_map (λ (input : Input). counts_line columns (counts_of input.text) input.label) inputs

      same : (more : List ℕ) → wc_due has_total columns sums now last labels (more ∷ others) ≡ wc_due has_total columns sums counts before labels ((piece ++ more) ∷ others)
      same more =
          ap (λ line. line ++ (lines ++ total_line has_total columns (added (added sums (counts_behind now last more)) (counts_of_all inputs))))
          (line-printed columns (counts_behind now last more) (counts_behind counts before (piece ++ more)) (get_or labels 0 []) (alike more))
          ∙ ap (λ total. counts_line columns (counts_behind counts before (piece ++ more)) (get_or labels 0 []) ++ (lines ++ total))
          (total-alike has_total (added (added sums (counts_behind now last more)) (counts_of_all inputs))
          (added (added sums (counts_behind counts before (piece ++ more))) (counts_of_all inputs))
          (alike-sums sums (counts_behind now last more) (counts_behind counts before (piece ++ more)) (counts_of_all inputs) (alike more)))

  -- none of the inputs has come
  pub wc-whole : (has_total : Bool) (sums : Counts) (labels texts : List (List ℕ))
      → wc_due has_total columns sums no_counts 32 labels texts ≡ lines_behind has_total columns sums (labelled labels texts)
  wc-whole has_total sums labels [] =
      total-alike has_total sums (added sums no_counts) (record { lines = λ is. omega arith; words = λ is. omega arith; bytes = λ is. omega arith })
  wc-whole has_total sums labels (text ∷ others) =
      let inputs = labelled (drop 1 labels) others in
      let lines = flat_map (λ (input : Input). counts_line columns (counts_of input.text) input.label) inputs in
      let label = get_or labels 0 [] in
      ap (λ line. line ++ (lines ++ total_line has_total columns (added (added sums (counts_behind no_counts 32 text)) (counts_of_all inputs))))
      (line-printed columns (counts_behind no_counts 32 text) (counts_of text) label (record { lines = λ is. omega arith; words = λ is. omega arith; bytes = λ is. omega arith }))
      ∙ sym (append_assoc (counts_line columns (counts_of text) label) lines (total_line has_total columns (added (added sums (counts_behind no_counts 32 text)) (counts_of_all inputs))))
      ∙ ap (λ total. (counts_line columns (counts_of text) label ++ lines) ++ total)
      (total-alike has_total (added (added sums (counts_behind no_counts 32 text)) (counts_of_all inputs)) (added sums (added (counts_of text) (counts_of_all inputs)))
      (record { lines = λ is. omega arith; words = λ is. omega arith; bytes = λ is. omega arith }))

  -- the input has ended: its line is written, and the next is counted from the beginning
  pub wc-ended : (has_total : Bool) (sums counts : Counts) (before : ℕ) (labels : List (List ℕ)) (old new : List ℕ) (whole : Bool)
      → Put (counts_line columns counts (get_or labels 0 [])) old new whole
      → Wrote (λ others. wc_due has_total columns sums counts before labels ([] ∷ others)) (wc_due has_total columns (saturated_counts (added sums counts)) no_counts 32 (drop 1 labels)) old new whole
  wc-ended has_total sums counts before labels old new whole put =
      Wrote-put (λ others. wc_due has_total columns sums counts before labels ([] ∷ others)) (wc_due has_total columns (saturated_counts (added sums counts)) no_counts 32 (drop 1 labels))
      (counts_line columns counts (get_or labels 0 [])) old new whole due put
    where
      due : (others : List (List ℕ)) → wc_due has_total columns sums counts before labels ([] ∷ others)
          ≡ counts_line columns counts (get_or labels 0 []) ++ wc_due has_total columns (saturated_counts (added sums counts)) no_counts 32 (drop 1 labels) others
      due others =
          let inputs = labelled (drop 1 labels) others in
          let lines = flat_map (λ (input : Input). counts_line columns (counts_of input.text) input.label) inputs in
          ap (λ line. line ++ lines_behind has_total columns (added sums (counts_behind counts before [])) inputs)
          (line-printed columns (counts_behind counts before []) counts (get_or labels 0 []) (record { lines = λ is. omega arith; words = λ is. omega arith; bytes = λ is. omega arith }))
          ∙ ap (λ total. counts_line columns counts (get_or labels 0 []) ++ (lines ++ total))
          (total-alike has_total (added (added sums (counts_behind counts before [])) (counts_of_all inputs)) (added (saturated_counts (added sums counts)) (counts_of_all inputs))
          (record { lines = λ is. omega arith; words = λ is. omega arith; bytes = λ is. omega arith }))
          ∙ ap (λ rest. counts_line columns counts (get_or labels 0 []) ++ rest) (sym (wc-whole has_total (saturated_counts (added sums counts)) (drop 1 labels) others))

  -- the same, with what the code has in their places
  pub wc-ended_by : (has_total : Bool) (sums counts sums' counts' : Counts) (before : ℕ) (label : List ℕ) (labels labels' : List (List ℕ)) (old new : List ℕ) (whole : Bool)
      → label ≡ get_or labels 0 [] → sums' ≡ saturated_counts (added sums counts) → counts' ≡ no_counts → labels' ≡ drop 1 labels
      → Put (counts_line columns counts label) old new whole
      → Wrote (λ others. wc_due has_total columns sums counts before labels ([] ∷ others)) (wc_due has_total columns sums' counts' 32 labels') old new whole
  wc-ended_by has_total sums counts sums' counts' before label labels labels' old new whole named summed nothing passed put =
      rw (summed, nothing, passed) (wc-ended has_total sums counts before labels old new whole (rw (← named) put))

-- the beginning of an invocation
pub wc-begins : (args : WcArgs) (columns : Columns) (one : Bool) (counts sums : Counts) (labels texts : List (List ℕ)) → columns ≡ columns_of args → one ≡ has_at_most_one args.operands
    → sums ≡ no_counts → counts ≡ no_counts
    → wc_due (not one) columns sums counts 32 labels texts ≡ wc_output args (labelled labels texts)
wc-begins args columns one counts sums labels texts is few none nothing =
    ap (λ columns. wc_due (not one) columns sums counts 32 labels texts) is
    ∙ ap (λ sums. wc_due (not one) (columns_of args) sums counts 32 labels texts) none
    ∙ ap (λ counts. wc_due (not one) (columns_of args) no_counts counts 32 labels texts) nothing
    ∙ wc-whole (columns_of args) (not one) no_counts labels texts
    ∙ ap (λ total. lines ++ total) (by_number one ∙ ap choice few)
  where
    inputs : List Input
    inputs = labelled labels texts

    lines : List ℕ
    lines = flat_map (λ (input : Input). counts_line (columns_of args) (counts_of input.text) input.label) inputs

    choice : Bool → List ℕ
    choice one = if one then [] else counts_line (columns_of args) (counts_of_all inputs) (codes "total")

    by_number : (one : Bool) → total_line (not one) (columns_of args) (added no_counts (counts_of_all inputs)) ≡ choice one
    by_number true = refl
    by_number false =
        line-printed (columns_of args) (added no_counts (counts_of_all inputs)) (counts_of_all inputs) (codes "total")
        (record { lines = λ is. omega arith; words = λ is. omega arith; bytes = λ is. omega arith })

pub ruleset begins = (wc-begins)
