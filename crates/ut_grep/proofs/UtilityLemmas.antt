-- grep over the parts of one input.
use Rattle.std.proofs.Common.{◌≡◌, ℕ, ◌+◌, ◌-◌, ◌^◌, ◌<◌, ◌&&◌, ◌||◌, min, Bool, true, false, Option, Some, None, List, [], ◌∷◌, ◌++◌, length, take, decimal, if◌then◌else◌, refl, ap, ap₂, sym, ◌∙◌, append_assoc, append-nil, length-append, arith}
use Rattle.std.proofs.lemmas.Bool.{and_parts, true≢false}
use Rattle.std.proofs.lemmas.List.Folds.{list_any-append}
use Rattle.std.proofs.lemmas.List.Sums.{sum_by-append}
use Rattle.std.proofs.Math.Seq.{take-append_seam}
use Rattle.std.specs.List.{count_by, list_any}
use Rattle.std.specs.Option.{unwrap_or}
use Rattle.ps_lines.specs.Lines.{is_closed, is_cutlist, lines}
use Rattle.ps_lines.specs.Numbers.{number_of}
use Rattle.ps_lines.proofs.ClosedLemmas.{closed-append}
use Rattle.ps_lines.proofs.LineLemmas.{is_closed-push, lines_of_cut}
use Rattle.ps_lines.proofs.NumberLemmas.{number_of-decimal}
use Rattle.ut_args.specs.Classes.{is_no_count}
use Rattle.ut_args.specs.Utilities.{has_at_most_one}
use Rattle.ut_args.specs.declared.commands.GrepArgs.{GrepArgs}
use Rattle.ut_args.specs.declared.commands.Report.{Report}
use Rattle.ut_args.specs.declared.commands.Report.TheVariants as report
use Rattle.ut_grep.specs.Grep.{count_on, joined_by, label_in}
use Rattle.ut_grep.specs.Output.{count_shown, due_by, number_behind, number_shown, saturated, selected_from, shown}
use Rattle.ut_grep.specs.Patterns.{first_number, head_by, head_of, is_selected, name_of, selects, written}

-- the operand that names the input
pub label-first : (operand : List ℕ) → label_in (operand ∷ []) ≡ operand
label-first [] = refl
label-first (byte ∷ operand) = refl

pub ruleset labels = label-first

-- lines without numbers, one behind the other
selected-append : (test : List ℕ → Bool) (head : List ℕ) (front back : List (List ℕ))
    → selected_from test head None (front ++ back) ≡ selected_from test head None front ++ selected_from test head None back
selected-append test head [] back = refl
selected-append test head (line ∷ front) back =
    ap (λ rest. (if test line then shown head None line else []) ++ rest) (selected-append test head front back)
    ∙ sym (append_assoc (if test line then shown head None line else []) (selected_from test head None front) (selected_from test head None back))

-- what is written is closed
push-closed : (front text : List ℕ) → is_closed (front ++ (text ++ 10 ∷ [])) ≡ true
push-closed front text = ap is_closed (sym (append_assoc front text (10 ∷ []))) ∙ is_closed-push (front ++ text) 10

shown-closed : (head : List ℕ) (number : Option ℕ) (line : List ℕ) → is_closed (shown head number line) ≡ true
shown-closed head number line =
    ap is_closed (sym (append_assoc head (number_shown number) (line ++ 10 ∷ []))) ∙ push-closed (head ++ number_shown number) line

selected-closed : (test : List ℕ → Bool) (head : List ℕ) (number : Option ℕ) (texts : List (List ℕ)) → is_closed (selected_from test head number texts) ≡ true
selected-closed test head number [] = refl
selected-closed test head number (line ∷ texts) =
    closed-append (if test line then shown head number line else []) (selected_from test head (number_behind 1 number) texts) (by_test (test line))
    (selected-closed test head (number_behind 1 number) texts)
  where
    by_test : (is : Bool) → is_closed (if is then shown head number line else []) ≡ true
    by_test true = shown-closed head number line
    by_test false = refl

if-closed : (is : Bool) (text : List ℕ) → is_closed text ≡ true → is_closed (if is then text else []) ≡ true
if-closed true text closed = closed
if-closed false text closed = refl

-- a count is read again as it is written
read-count : (count : ℕ) → count_on (count_shown [] count) ≡ saturated count
read-count count =
    let digits = decimal (saturated count) in
    let size : length (digits ++ 10 ∷ []) - 1 ≡ length digits = (let both = length-append digits (10 ∷ []) in omega arith) in
    ap (λ (at : ℕ). unwrap_or (number_of (take at (digits ++ 10 ∷ []))) 0) size
    ∙ ap (λ (text : List ℕ). unwrap_or (number_of text) 0) (take-append_seam digits (10 ∷ []))
    ∙ ap (λ (number : Option ℕ). unwrap_or number 0) (number_of-decimal (saturated count) (omega arith))

counts-added : (first second : ℕ) → count_shown [] (first + second) ≡ joined_by report.Count (count_shown [] first) (count_shown [] second)
counts-added first second =
    ap (λ (count : ℕ). decimal count ++ 10 ∷ []) (let same : saturated (first + second) ≡ saturated (saturated first + saturated second) = omega arith in same)
    ∙ ap₂ (λ (one other : ℕ). count_shown [] (one + other)) (sym (read-count first)) (sym (read-count second))

-- they may be added up in any order
pub counts-commute : (one other : List ℕ) → joined_by report.Count one other ≡ joined_by report.Count other one
counts-commute one other = let swapped : count_on one + count_on other ≡ count_on other + count_on one = omega arith in ap (count_shown []) swapped

pub counts-associate : (one two three : List ℕ)
    → joined_by report.Count (joined_by report.Count one two) three ≡ joined_by report.Count one (joined_by report.Count two three)
counts-associate one two three =
    let same : saturated (saturated (count_on one + count_on two) + count_on three) ≡ saturated (count_on one + saturated (count_on two + count_on three)) = omega arith in
    ap (λ (count : ℕ). count_shown [] (count + count_on three)) (read-count (count_on one + count_on two))
    ∙ ap (λ (count : ℕ). decimal count ++ 10 ∷ []) same
    ∙ ap (λ (count : ℕ). count_shown [] (count_on one + count)) (sym (read-count (count_on two + count_on three)))

module _ (args : GrepArgs) (label : List ℕ) where
  abbrev test : List ℕ → Bool
  test = is_selected args

  -- what is written, by the report
  written-by : (form : Report) → args.report ≡ form → (text : List ℕ)
      → written args label text ≡ due_by form test (head_by form (has_at_most_one args.operands) (name_of label)) (first_number args) 0 false (lines text)
  written-by form is text =
      ap (λ (form : Report). due_by form test (head_by form (has_at_most_one args.operands) (name_of label)) (first_number args) 0 false (lines text)) is

  abbrev lines_head : List ℕ
  lines_head = head_by report.Lines (has_at_most_one args.operands) (name_of label)

  -- where only lines are written, those of a text are those of its parts
  pub lines-join : args.report ≡ report.Lines → args.numbers ≡ false → (front back : List ℕ) → is_cutlist (front ∷ back ∷ []) ≡ true
      → written args label (front ++ back) ≡ written args label front ++ written args label back
  lines-join is plain front back cut =
      shown-so (front ++ back) ∙ ap (selected_from test lines_head None) (lines_of_cut front back cut) ∙ selected-append test lines_head (lines front) (lines back)
      ∙ ap₂ (λ (one other : List ℕ). one ++ other) (sym (shown-so front)) (sym (shown-so back))
    where
      shown-so : (text : List ℕ) → written args label text ≡ selected_from test lines_head None (lines text)
      shown-so text = written-by report.Lines is text ∙ ap (λ (numbers : Bool). selected_from test lines_head (if numbers then Some 1 else None) (lines text)) plain

  pub nothing-joins : args.report ≡ report.Nothing → (front back : List ℕ) → written args label (front ++ back) ≡ written args label front ++ written args label back
  nothing-joins is front back =
      written-by report.Nothing is (front ++ back)
      ∙ ap₂ (λ (one other : List ℕ). one ++ other) (sym (written-by report.Nothing is front)) (sym (written-by report.Nothing is back))

  -- and counts are added up
  pub counts-join : args.report ≡ report.Count → has_at_most_one args.operands ≡ true → (front back : List ℕ) → is_cutlist (front ∷ back ∷ []) ≡ true
      → written args label (front ++ back) ≡ joined_by args.report (written args label front) (written args label back)
  counts-join is one front back cut =
      count-so (front ++ back)
      ∙ ap (λ texts. count_shown [] (count_by test texts)) (lines_of_cut front back cut)
      ∙ ap (count_shown []) (sum_by-append _ (lines front) (lines back))
      ∙ counts-added (count_by test (lines front)) (count_by test (lines back))
      ∙ ap₂ (λ (one other : List ℕ). joined_by report.Count one other) (sym (count-so front)) (sym (count-so back))
      ∙ ap (λ (form : Report). joined_by form (written args label front) (written args label back)) (sym is)
    where
      count-so : (text : List ℕ) → written args label text ≡ count_shown [] (count_by test (lines text))
      count-so text =
          written-by report.Count is text
          ∙ ap (λ (alone : Bool). count_shown (head_by report.Count alone (name_of label)) (0 + count_by test (lines text))) one
          ∙ ap (count_shown []) (omega arith)

  -- something is selected where it is in one of the parts
  pub selects-join : (front back : List ℕ) → is_cutlist (front ∷ back ∷ []) ≡ true → selects args (front ++ back) ≡ (selects args front || selects args back)
  selects-join front back cut = ap (list_any test) (lines_of_cut front back cut) ∙ list_any-append test (lines front) (lines back)

  -- without a count what is written is closed, and nothing for nothing
  pub written-closed : is_no_count args.report ≡ true → (text : List ℕ) → is_closed (written args label text) ≡ true
  written-closed plain text = by_report args.report refl plain
    where
      by_report : (form : Report) → args.report ≡ form → is_no_count form ≡ true → is_closed (written args label text) ≡ true
      by_report report.Lines is plain =
          ap is_closed (written-by report.Lines is text)
          ∙ selected-closed test (head_by report.Lines (has_at_most_one args.operands) (name_of label)) (first_number args) (lines text)
      by_report report.Count is plain = absurd (true≢false (sym plain))
      by_report report.Path is plain =
          ap is_closed (written-by report.Path is text) ∙ if-closed (list_any test (lines text)) (name_of label ++ 10 ∷ []) (is_closed-push (name_of label) 10)
      by_report report.Nothing is plain = ap is_closed (written-by report.Nothing is text)

  pub written-none : is_no_count args.report ≡ true → written args label [] ≡ []
  written-none plain = by_report args.report refl plain
    where
      by_report : (form : Report) → args.report ≡ form → is_no_count form ≡ true → written args label [] ≡ []
      by_report report.Lines is plain = written-by report.Lines is []
      by_report report.Count is plain = absurd (true≢false (sym plain))
      by_report report.Path is plain = written-by report.Path is []
      by_report report.Nothing is plain = written-by report.Nothing is []
