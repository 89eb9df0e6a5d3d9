-- The sums of counts, as pieces of their lines come.
use Rattle.std.proofs.Common.{◌≡◌, ℕ, zero, suc, ◌+◌, ◌-◌, ◌^◌, ◌<◌, ◌≤◌, ◌==◌, nat_lt, List, [], ◌∷◌, ◌++◌, Bool, true, false, length, take, min, if◌then◌else◌, get_or, map, refl, ap, sym, ◌∙◌, append_assoc, append-nil, length-append, take_all, Option, None, decimal, ⊎_elim, arith}
use Rattle.std.proofs.lemmas.Bool.{cases_lt, cond-true, lt-ltb, ltb-true, true≢false}
use Rattle.std.specs.List.{join_with_byte, range_with_len}
use Rattle.std.proofs.lemmas.List.{length-take-le}
use Rattle.std.specs.Option.{unwrap_or}
use Rattle.ps_lines.specs.Numbers.{number_of}
use Rattle.ps_lines.proofs.NumberLemmas.{number_of-decimal, number_of-long}
use Rattle.ut_args.specs.declared.GrepInv.{GrepInv}
use Rattle.ut_args.specs.declared.WcInv.{WcInv}
use Rattle.ut_args.specs.declared.commands.Report.{Report}
use Rattle.ut_args.specs.declared.commands.Report.TheVariants as report
use Rattle.ut_args.specs.declared.invocations.Inv.{Inv}
use Rattle.ut_args.specs.declared.invocations.Inv.TheVariants as inv
use Rattle.ut_grep.specs.Grep.{count_on, joined_by as joined_reports}
use Rattle.ut_groups.specs.declared.Columns.{Columns}
use Rattle.ut_groups.specs.declared.Counts.{Counts}
use Rattle.ut_groups.specs.Columns.{chosen, counts_line, counts_on, counts_read, without_last}
use Rattle.ut_groups.specs.Counting.{added, no_counts, saturated, saturated_counts}
use Rattle.ut_groups.specs.Wc.{columns_of}
use Rattle.ut_groups.proofs.ColumnLemmas.{line-alike}
use Rattle.ut_groups.proofs.WcLemmas.{counts_on-line, if_asked, line-short, seen_of, without_last-line}
use Rattle.fl_graph.specs.Machines.{comes_first, comes, is_take, port_taken}
use Rattle.fl_graph.specs.declared.pieces.Act.TheVariants as act
use Rattle.fl_graph.specs.declared.pieces.Piece.{Piece}
use Rattle.fl_graph.specs.declared.pieces.Piece.TheVariants as piece
use Rattle.fl_classes.specs.Aggregates.{aggregate_of, aggregate_from, joined_maps}
use Rattle.fl_classes.specs.Kinds.{is_count}
use Rattle.fl_classes.specs.Nodes.{texts_at}
use Rattle.fl_classes.proofs.ClassLemmas.{built-utility, wc-joins}
use Rattle.fl_joints.specs.Joints.{columns_by, counts_by, counts_from}
use Rattle.fl_joints.specs.declared.readings.Reading.{Reading}
use Rattle.fl_joints.specs.declared.readings.Reading.TheVariants as reading
use Rattle.fl_joints.proofs.JoinLemmas.{comes-there, comes-elsewhere, get_or-one}

-- a text of more than 63 bytes is no line of counts, of either kind
counts_on-long : (columns : Columns) (text : List ℕ) → 63 < length text → counts_on columns text ≡ no_counts
counts_on-long columns text long = cond-true (nat_lt 63 (length text)) no_counts (counts_read columns (without_last text)) (lt-ltb 63 (length text) long)

counts_by-long : (of : Reading) (text : List ℕ) → 63 < length text → counts_by of text ≡ no_counts
counts_by-long (reading.OfWc columns) text long = counts_on-long columns text long
counts_by-long reading.OfGrep text long =
    let size : length (without_last text) ≡ length text - 1 = length-take-le (length text - 1) text (omega arith) in
    let none : number_of (without_last text) ≡ None = number_of-long (without_last text) (omega (arith, size, long)) in
    λ i. record { lines = unwrap_or (none i) 0; words = 0; bytes = 0 }

-- so what comes behind 64 bytes of one changes nothing
pub held-long : (of : Reading) (line piece rest : List ℕ) → 63 < length line → counts_by of (line ++ rest) ≡ counts_by of (line ++ (piece ++ rest))
held-long of line piece rest long =
    let short = length-append line rest in
    let whole = length-append line (piece ++ rest) in
    counts_by-long of (line ++ rest) (omega arith) ∙ sym (counts_by-long of (line ++ (piece ++ rest)) (omega arith))

pub held-part : (of : Reading) (line piece rest : List ℕ) (count : ℕ) → count ≡ min (length piece) 64
    → counts_by of ((line ++ take count piece) ++ rest) ≡ counts_by of (line ++ (piece ++ rest))
held-part of line piece rest count part =
    ⊎_elim (λ (short : length piece < 65).
    let all : take count piece ≡ piece = take_all count piece (omega arith) in
    ap (λ begun. counts_by of ((line ++ begun) ++ rest)) all ∙ ap (counts_by of) (append_assoc line piece rest))
    (λ (long : 65 ≤ length piece).
    let size : length (take count piece) ≡ count = length-take-le count piece (omega arith) in
    let held = length-append line (take count piece) in
    let short = length-append (line ++ take count piece) rest in
    let behind = length-append piece rest in
    let whole = length-append line (piece ++ rest) in
    counts_by-long of ((line ++ take count piece) ++ rest) (omega arith) ∙ sym (counts_by-long of (line ++ (piece ++ rest)) (omega arith)))
    (cases_lt (length piece) 65)

pub ruleset holds = (held-long, held-part)

-- what comes at the first port stands behind what has come there
counts-elsewhere : (of : Reading) (port : ℕ) (last : Piece) (come : List ℕ) (texts : ℕ → List ℕ) (from count : ℕ) → port < from
    → counts_from of come (comes port last texts) from count ≡ counts_from of come texts from count
counts-elsewhere of port last come texts from zero later = refl
counts-elsewhere of port last come texts from (suc count) later =
    ap (λ text. added (counts_by of (come ++ text)) (counts_from of [] (comes port last texts) (from + 1) count)) (comes-elsewhere port last texts from later)
    ∙ ap (added (counts_by of (come ++ texts from))) (counts-elsewhere of port last [] texts (from + 1) count (omega arith))

counts-first : (of : Reading) (port : ℕ) (last : Piece) (come : List ℕ) (texts : ℕ → List ℕ) (count : ℕ)
    → counts_from of come (comes port last texts) port (suc count)
    ≡ added (counts_by of (come ++ comes_first last (texts port))) (counts_from of [] texts (port + 1) count)
counts-first of port last come texts count =
    ap (λ text. added (counts_by of (come ++ text)) (counts_from of [] (comes port last texts) (port + 1) count)) (comes-there port last texts)
    ∙ ap (added (counts_by of (come ++ comes_first last (texts port)))) (counts-elsewhere of port last [] texts (port + 1) count (omega arith))

pub counts-bytes : (of : Reading) (port : ℕ) (bytes come come' : List ℕ) (texts : ℕ → List ℕ) (count : ℕ)
    → ((of : Reading) (rest : List ℕ) → counts_by of (come' ++ rest) ≡ counts_by of (come ++ (bytes ++ rest)))
    → counts_from of come' texts port count ≡ counts_from of come (comes port (piece.Bytes bytes) texts) port count
counts-bytes of port bytes come come' texts zero held = refl
counts-bytes of port bytes come come' texts (suc count) held =
    ap (λ first. added first (counts_from of [] texts (port + 1) count)) (held of (texts port)) ∙ sym (counts-first of port (piece.Bytes bytes) come texts count)

counts-end : (of : Reading) (port : ℕ) (come : List ℕ) (texts : ℕ → List ℕ) (count left : ℕ) → count ≡ left + 1
    → counts_from of come (comes port piece.End texts) port count ≡ added (counts_by of come) (counts_from of [] texts (port + 1) left)
counts-end of port come texts zero left next = absurd (omega arith)
counts-end of port come texts (suc count) left next =
    let same : count ≡ left = omega arith in
    counts-first of port piece.End come texts count ∙ ap (λ text. added (counts_by of text) (counts_from of [] texts (port + 1) count)) (append-nil come)
    ∙ ap (λ count. added (counts_by of come) (counts_from of [] texts (port + 1) count)) same

-- sums that stand at their end go on from there
line-more : (columns : Columns) (sum one more : Counts)
    → counts_line columns (added (saturated_counts (added sum one)) more) [] ≡ counts_line columns (added sum (added one more)) []
line-more columns sum one more =
    line-alike columns (added (saturated_counts (added sum one)) more) (added sum (added one more)) [] (λ is. omega arith) (λ is. omega arith) (λ is. omega arith)

pub line-end : (of : Reading) (port ins : ℕ) (come none : List ℕ) (texts : ℕ → List ℕ) (sum sum' : Counts) → port < ins → none ≡ []
    → sum' ≡ saturated_counts (added sum (counts_by of come))
    → counts_line (columns_by of) (added sum' (counts_from of none texts (port + 1) (ins - (port + 1)))) []
    ≡ counts_line (columns_by of) (added sum (counts_from of come (comes port piece.End texts) port (ins - port))) []
line-end of port ins come none texts sum sum' before empty is =
    ap (λ sum. counts_line (columns_by of) (added sum (counts_from of none texts (port + 1) (ins - (port + 1)))) []) is
    ∙ ap (λ none. counts_line (columns_by of) (added (saturated_counts (added sum (counts_by of come))) (counts_from of none texts (port + 1) (ins - (port + 1)))) []) empty
    ∙ line-more (columns_by of) sum (counts_by of come) (counts_from of [] texts (port + 1) (ins - (port + 1)))
    ∙ ap (λ more. counts_line (columns_by of) (added sum more) []) (sym (counts-end of port come texts (ins - port) (ins - (port + 1)) (omega arith)))

-- a machine that takes, takes at the in whose turn it is
pub taken-at : (urgent before putting : Bool) (at : ℕ)
    → is_take (if urgent then act.Put 0 else if before then act.Take at else if putting then act.Put 0 else act.Stop) ≡ true
    → (port_taken (if urgent then act.Put 0 else if before then act.Take at else if putting then act.Put 0 else act.Stop) ≡ at) × (before ≡ true)
taken-at true before putting at turn = absurd (true≢false (sym turn))
taken-at false true putting at turn = (refl, refl)
taken-at false false true at turn = absurd (true≢false (sym turn))
taken-at false false false at turn = absurd (true≢false (sym turn))

module _ (of : Reading) (given urgent before putting : Bool) (at ins : ℕ) (come : List ℕ) (sum : Counts)
    (turn : is_take (if urgent then act.Put 0 else if before then act.Take at else if putting then act.Put 0 else act.Stop) ≡ true) where
  abbrev taken : ℕ
  taken = port_taken (if urgent then act.Put 0 else if before then act.Take at else if putting then act.Put 0 else act.Stop)

  abbrev owed : List ℕ → Counts → (ℕ → List ℕ) → ℕ → ℕ → List ℕ
  owed come sum texts from port = if port == 0 then (if given then [] else counts_line (columns_by of) (added sum (counts_from of come texts from (ins - from))) []) else []

  pub due-bytes : (bytes come' : List ℕ) → ((of : Reading) (rest : List ℕ) → counts_by of (come' ++ rest) ≡ counts_by of (come ++ (bytes ++ rest)))
      → (texts : ℕ → List ℕ) (port : ℕ) → owed come' sum texts at port ≡ owed come sum (comes taken (piece.Bytes bytes) texts) at port
  due-bytes bytes come' held texts port =
      ap (λ counts. if port == 0 then (if given then [] else counts_line (columns_by of) (added sum counts) []) else []) (counts-bytes of at bytes come come' texts (ins - at) held)
      ∙ ap (λ from. owed come sum (comes from (piece.Bytes bytes) texts) at port) (sym (taken-at urgent before putting at turn).0)

  pub due-end : before ≡ nat_lt at ins → (none : List ℕ) (sum' : Counts) → none ≡ [] → sum' ≡ saturated_counts (added sum (counts_by of come))
      → (texts : ℕ → List ℕ) (port : ℕ) → owed none sum' texts (at + 1) port ≡ owed come sum (comes taken piece.End texts) at port
  due-end is none sum' empty sums texts port =
      ap (λ text. if port == 0 then (if given then [] else text) else [])
      (line-end of at ins come none texts sum sum' (ltb-true at ins (sym is ∙ (taken-at urgent before putting at turn).1)) empty sums)
      ∙ ap (λ from. owed come sum (comes from piece.End texts) at port) (sym (taken-at urgent before putting at turn).0)

-- where no text is left, the sums are put
pub line-sum : (of : Reading) (port ins : ℕ) (come : List ℕ) (texts : ℕ → List ℕ) (sum : Counts) → ins ≤ port
    → counts_line (columns_by of) (added sum (counts_from of come texts port (ins - port))) [] ≡ counts_line (columns_by of) sum []
line-sum of port ins come texts sum past =
    let none : ins - port ≡ 0 = omega arith in
    ap (λ count. counts_line (columns_by of) (added sum (counts_from of come texts port count)) []) none
    ∙ line-alike (columns_by of) (added sum no_counts) sum [] (λ is. omega arith) (λ is. omega arith) (λ is. omega arith)

pub ruleset puts = (line-sum, append-nil)

-- a line of counts fits a piece
pub line-fits : (columns : Columns) (counts : Counts) → length (counts_line columns counts []) ≤ 65536
line-fits columns counts = omega (arith, line-short columns counts)

pub line-some : (columns : Columns) (counts : Counts) → 0 < length (counts_line columns counts [])
line-some columns counts = omega (arith, length-append (join_with_byte 32 (chosen columns counts)) (10 ∷ []))

pub ruleset lines = (line-fits, line-some)

-- the aggregate is the sum of the counts
sum-again : (columns : Columns) (sum one more : Counts)
    → counts_line columns (added (added (seen_of columns sum) one) more) [] ≡ counts_line columns (added sum (added one more)) []
sum-again columns sum one more =
    line-alike columns (added (added (seen_of columns sum) one) more) (added sum (added one more)) []
    (λ is. one-again columns.lines sum.lines one.lines more.lines is)
    (λ is. one-again columns.words sum.words one.words more.words is)
    (λ is. one-again columns.bytes sum.bytes one.bytes more.bytes is)
  where
    one-again : (is_asked : Bool) (sum one more : ℕ) → is_asked ≡ true → saturated ((if_asked is_asked sum + one) + more) ≡ saturated (sum + (one + more))
    one-again is_asked sum one more is = ap (λ is_asked. saturated ((if_asked is_asked sum + one) + more)) is ∙ omega arith

-- where two texts are aggregated by their counts, and these are read again as they are written
module _ (inv : Inv) (of : Reading)
    (joins : (first second : List ℕ) → joined_maps inv first second ≡ counts_line (columns_by of) (added (counts_by of first) (counts_by of second)) [])
    (again : (counts : Counts) → counts_by of (counts_line (columns_by of) counts []) ≡ seen_of (columns_by of) counts) (texts : ℕ → List ℕ) where
  aggregate-counts : (sum : Counts) (from count : ℕ)
      → aggregate_from inv (counts_line (columns_by of) sum []) (map texts (range_with_len from count))
      ≡ counts_line (columns_by of) (added sum (counts_from of [] texts from count)) []
  aggregate-counts sum from zero =
      line-alike (columns_by of) sum (added sum no_counts) [] (λ is. omega arith) (λ is. omega arith) (λ is. omega arith)
  aggregate-counts sum from (suc count) =
      ap (λ first. aggregate_from inv first (map texts (range_with_len (from + 1) count))) (joins (counts_line (columns_by of) sum []) (texts from))
      ∙ aggregate-counts (added (counts_by of (counts_line (columns_by of) sum [])) (counts_by of (texts from))) (from + 1) count
      ∙ ap (λ first. counts_line (columns_by of) (added (added first (counts_by of (texts from))) (counts_from of [] texts (from + 1) count)) []) (again sum)
      ∙ sum-again (columns_by of) sum (counts_by of (texts from)) (counts_from of [] texts (from + 1) count)

  counts-given : (own : Reading) (come : List ℕ) (sum : Counts) (at ins port : ℕ) → 2 ≤ ins
      → own ≡ of → come ≡ [] → sum ≡ no_counts → at ≡ 0
      → (if port == 0 then counts_line (columns_by own) (added sum (counts_from own come texts at (ins - at))) [] else []) ≡ get_or (aggregate_of inv (texts_at ins texts) ∷ []) port []
  counts-given own come sum at zero port some _ _ _ _ = absurd (omega arith)
  counts-given own come sum at (suc zero) port some _ _ _ _ = absurd (omega arith)
  counts-given own come sum at (suc (suc ins)) port some same none nothing first =
      let all : suc (suc ins) - 0 ≡ suc (suc ins) = omega arith in
      (λ i. if port == 0 then counts_line (columns_by (same i)) (added (nothing i) (counts_from (same i) (none i) texts (first i) (suc (suc ins) - first i))) [] else [])
      ∙ ap (λ count. if port == 0 then counts_line (columns_by of) (added no_counts (counts_from of [] texts 0 count)) [] else []) all
      ∙ ap (λ (text : List ℕ). if port == 0 then text else [])
      (line-alike (columns_by of) (added no_counts (counts_from of [] texts 0 (suc (suc ins)))) (added (added (counts_by of (texts 0)) (counts_by of (texts (0 + 1)))) (counts_from of [] texts ((0 + 1) + 1) ins)) []
      (λ is. omega arith) (λ is. omega arith) (λ is. omega arith)
      ∙ sym (aggregate-counts (added (counts_by of (texts 0)) (counts_by of (texts (0 + 1)))) ((0 + 1) + 1) ins)
      ∙ sym (ap (λ first. aggregate_from inv first (map texts (range_with_len ((0 + 1) + 1) ins))) (joins (texts 0) (texts (0 + 1)))))
      ∙ sym (get_or-one (aggregate_of inv (texts_at (suc (suc ins)) texts)) port)

pub wc-given : (wc : WcInv) (texts : ℕ → List ℕ) (own : Reading) (come : List ℕ) (sum : Counts) (at ins port : ℕ) → 2 ≤ ins
    → own ≡ reading.OfWc (columns_of wc.args) → come ≡ [] → sum ≡ no_counts → at ≡ 0
    → (if port == 0 then counts_line (columns_by own) (added sum (counts_from own come texts at (ins - at))) [] else []) ≡ get_or (aggregate_of (inv.Wc wc) (texts_at ins texts) ∷ []) port []
wc-given wc = counts-given (inv.Wc wc) (reading.OfWc (columns_of wc.args)) (wc-joins wc) (counts_on-line (columns_of wc.args))

-- of grep -c, whose count stands alone
grep-joins : (grep : GrepInv) → is_count grep.args.report ≡ true → (first second : List ℕ)
    → joined_maps (inv.Grep grep) first second ≡ counts_line (columns_by reading.OfGrep) (added (counts_by reading.OfGrep first) (counts_by reading.OfGrep second)) []
grep-joins grep counts first second =
    ap (λ utility. utility.aggregate first second) (built-utility (inv.Grep grep) refl) ∙ by_report grep.args.report counts
  where
    by_report : (form : Report) → is_count form ≡ true
        → joined_reports form first second ≡ counts_line (columns_by reading.OfGrep) (added (counts_by reading.OfGrep first) (counts_by reading.OfGrep second)) []
    by_report report.Count counts = refl
    by_report report.Lines counts = absurd (true≢false (sym counts))
    by_report report.Path counts = absurd (true≢false (sym counts))
    by_report report.Nothing counts = absurd (true≢false (sym counts))

count-again : (counts : Counts) → counts_by reading.OfGrep (counts_line (columns_by reading.OfGrep) counts []) ≡ seen_of (columns_by reading.OfGrep) counts
count-again counts = λ i. record { lines = read i; words = 0; bytes = 0 }
  where
    read : count_on (decimal (saturated counts.lines) ++ 10 ∷ []) ≡ saturated counts.lines
    read =
        ap (λ (text : List ℕ). unwrap_or (number_of text) 0) (without_last-line (decimal (saturated counts.lines)) 10)
        ∙ ap (λ (number : Option ℕ). unwrap_or number 0) (number_of-decimal (saturated counts.lines) (omega arith))

pub grep-given : (grep : GrepInv) → is_count grep.args.report ≡ true → (texts : ℕ → List ℕ) (own : Reading) (come : List ℕ) (sum : Counts) (at ins port : ℕ) → 2 ≤ ins
    → own ≡ reading.OfGrep → come ≡ [] → sum ≡ no_counts → at ≡ 0
    → (if port == 0 then counts_line (columns_by own) (added sum (counts_from own come texts at (ins - at))) [] else []) ≡ get_or (aggregate_of (inv.Grep grep) (texts_at ins texts) ∷ []) port []
grep-given grep counts = counts-given (inv.Grep grep) reading.OfGrep (grep-joins grep counts) count-again
