-- The counts of two parts are added up, from the lines that they are written on.
use Rattle.std.proofs.Common.{◌≡◌, ℕ, ◌+◌, ◌-◌, ◌^◌, ◌<◌, ◌≤◌, ◌==◌, ◌&&◌, Bool, true, false, not, nat_lt, List, [], ◌∷◌, ◌++◌, length, take, decimal, if◌then◌else◌, refl, ap, sym, ◌∙◌, append-nil, length-append, arith}
use Rattle.std.proofs.lemmas.Bool.{cond-true, cond-false, true≢false, ltb-true, eqb-true}
use Rattle.std.proofs.Math.Seq.{take-append_seam}
use Rattle.std.proofs.lemmas.Fmt.{length-decimal-le}
use Rattle.std.specs.List.{join_with_byte, list_all}
use Rattle.ps_lines.specs.Lines.{is_closed, is_cutlist, is_empty}
use Rattle.ut_args.specs.declared.commands.WcArgs.{WcArgs}
use Rattle.ut_args.specs.Utilities.{has_at_most_one}
use Rattle.ut_streams.specs.Utilities.{Input}
use Rattle.ut_groups.specs.declared.counting.Counts.{Counts}
use Rattle.ut_groups.specs.declared.columns.Columns.{Columns}
use Rattle.ut_groups.specs.Counting.{added, counts_of, is_word, newlines, no_counts, saturated, words, words_behind}
use Rattle.ut_groups.specs.Columns.{asked, behind_number, behind_space, chosen, count_read, counts_line, counts_on, counts_read, number_before, without_last}
use Rattle.ut_groups.specs.Inner.Columns.{last_behind}
use Rattle.ut_groups.specs.Wc.{columns_of, total, wc_line, with_name}
use Rattle.ut_groups.proofs.CountingLemmas.{newlines-append, words-append}
use Rattle.ut_groups.proofs.ColumnLemmas.{behind-number, line-alike, number-before, number-last}

-- a line of counts without its newline
abbrev text_of : Columns → Counts → List ℕ
text_of columns counts = join_with_byte 32 (chosen columns counts)

pub without_last-line : (text : List ℕ) (byte : ℕ) → without_last (text ++ byte ∷ []) ≡ text
without_last-line text byte =
    let size : length (text ++ byte ∷ []) - 1 ≡ length text = (let both = length-append text (byte ∷ []) in omega arith) in
    ap (λ count. take count (text ++ byte ∷ [])) size ∙ take-append_seam text (byte ∷ [])

-- a name comes at last
pub line-named : (columns : Columns) (counts : Counts) (name : List ℕ) → counts_line columns counts name ≡ with_name name (counts_line columns counts [])
line-named columns counts name = ap (λ text. text ++ (behind_space name ++ 10 ∷ [])) (sym (without_last-line (text_of columns counts) 10))

-- what is read of a line of counts: those that it has
abbrev pub if_asked : Bool → ℕ → ℕ
if_asked is_asked count = if is_asked then saturated count else 0

abbrev pub seen_of : Columns → Counts → Counts
seen_of columns counts = record { lines = if_asked columns.lines counts.lines; words = if_asked columns.words counts.words; bytes = if_asked columns.bytes counts.bytes }

module _ (lines words bytes : ℕ) where
  abbrev one : List ℕ
  one = decimal (saturated lines)

  abbrev two : List ℕ
  two = decimal (saturated words)

  abbrev three : List ℕ
  three = decimal (saturated bytes)

  read-three : (has_lines has_words has_bytes : Bool)
      → counts_read (record { lines = has_lines; words = has_words; bytes = has_bytes })
      (join_with_byte 32 (asked has_lines lines ++ (asked has_words words ++ asked has_bytes bytes)))
      ≡ record { lines = if_asked has_lines lines; words = if_asked has_words words; bytes = if_asked has_bytes bytes }
  read-three true true true = λ i. record {
    lines = number-before lines (two ++ 32 ∷ three) i;
    words = (ap number_before (behind-number lines (two ++ 32 ∷ three)) ∙ number-before words three) i;
    bytes = (ap (λ text. number_before (behind_number text)) (behind-number lines (two ++ 32 ∷ three)) ∙ ap number_before (behind-number words three) ∙ number-last bytes) i;
  }
  read-three true true false = λ i. record {
    lines = number-before lines two i;
    words = (ap number_before (behind-number lines two) ∙ number-last words) i;
    bytes = 0;
  }
  read-three true false true = λ i. record {
    lines = number-before lines three i;
    words = 0;
    bytes = (ap number_before (behind-number lines three) ∙ number-last bytes) i;
  }
  read-three true false false = λ i. record { lines = number-last lines i; words = 0; bytes = 0 }
  read-three false true true = λ i. record {
    lines = 0;
    words = number-before words three i;
    bytes = (ap number_before (behind-number words three) ∙ number-last bytes) i;
  }
  read-three false true false = λ i. record { lines = 0; words = number-last words i; bytes = 0 }
  read-three false false true = λ i. record { lines = 0; words = 0; bytes = number-last bytes i }
  read-three false false false = refl

  size-three : (has_lines has_words has_bytes : Bool) → length (join_with_byte 32 (asked has_lines lines ++ (asked has_words words ++ asked has_bytes bytes))) ≤ 62
  size-three has_lines has_words has_bytes =
      by_asked has_lines has_words has_bytes
      (length-decimal-le 20 (saturated lines) (omega arith) (omega arith) (omega arith))
      (length-decimal-le 20 (saturated words) (omega arith) (omega arith) (omega arith))
      (length-decimal-le 20 (saturated bytes) (omega arith) (omega arith) (omega arith))
    where
      by_asked : (has_lines has_words has_bytes : Bool) → length one ≤ 20 → length two ≤ 20 → length three ≤ 20
          → length (join_with_byte 32 (asked has_lines lines ++ (asked has_words words ++ asked has_bytes bytes))) ≤ 62
      by_asked true true true first second third = omega (arith, length-append one (32 ∷ (two ++ 32 ∷ three)), length-append two (32 ∷ three))
      by_asked true true false first second third = omega (arith, length-append one (32 ∷ two))
      by_asked true false true first second third = omega (arith, length-append one (32 ∷ three))
      by_asked true false false first second third = omega arith
      by_asked false true true first second third = omega (arith, length-append two (32 ∷ three))
      by_asked false true false first second third = omega arith
      by_asked false false true first second third = omega arith
      by_asked false false false first second third = omega arith

-- a line of three counts has 63 bytes at most
pub line-short : (columns : Columns) (counts : Counts) → length (counts_line columns counts []) ≤ 63
line-short columns counts =
    omega (arith, size-three counts.lines counts.words counts.bytes columns.lines columns.words columns.bytes, length-append (text_of columns counts) (10 ∷ []))

not-long : (size : ℕ) → size ≤ 63 → nat_lt 63 size ≡ false
not-long size short = by_test (nat_lt 63 size) refl
  where
    by_test : (test : Bool) → nat_lt 63 size ≡ test → test ≡ false
    by_test true is = absurd (let long = ltb-true 63 size is in omega arith)
    by_test false is = refl

pub counts_on-line : (columns : Columns) (counts : Counts) → counts_on columns (counts_line columns counts []) ≡ seen_of columns counts
counts_on-line columns counts =
    cond-false (nat_lt 63 (length (counts_line columns counts []))) no_counts (counts_read columns (without_last (counts_line columns counts [])))
    (not-long (length (counts_line columns counts [])) (line-short columns counts))
    ∙ ap (counts_read columns) (without_last-line (text_of columns counts) 10)
    ∙ read-three counts.lines counts.words counts.bytes columns.lines columns.words columns.bytes

-- behind white space each byte of a word begins one
words-behind_space : (one other : ℕ) (text : List ℕ) → is_word one ≡ false → is_word other ≡ false → words_behind one text ≡ words_behind other text
words-behind_space one other [] space space' = refl
words-behind_space one other (byte ∷ rest) space space' =
    ap (λ test. (if is_word byte && not test then 1 else 0) + words_behind byte rest) (space ∙ sym space')

-- so no word goes on over a cut at an end of lines
last-closed : (front : List ℕ) → is_closed front ≡ true → is_word (last_behind 32 front) ≡ false
last-closed [] closed = refl
last-closed (byte ∷ front) closed = from byte front closed
  where
    newline : (byte : ℕ) → (byte == 10) ≡ true → is_word byte ≡ false
    newline byte is = ap is_word (eqb-true byte 10 is)

    from : (byte : ℕ) (front : List ℕ) → is_closed (byte ∷ front) ≡ true → is_word (last_behind byte front) ≡ false
    from byte [] closed = newline byte closed
    from byte (next ∷ front) closed = from next front closed

words-cut_lines : (front back : List ℕ) → is_cutlist (front ∷ back ∷ []) ≡ true → words (front ++ back) ≡ words front + words back
words-cut_lines front back cut = words-append 32 front back ∙ ap (λ more. words front + more) (by_closed (is_closed front) refl cut)
  where
    none : (back : List ℕ) → (is_empty back && true) ≡ true → words_behind (last_behind 32 front) back ≡ words back
    none [] empty = refl
    none (byte ∷ back) empty = absurd (true≢false (sym empty))

    by_closed : (closed : Bool) → is_closed front ≡ closed → (if closed then is_cutlist (back ∷ []) else list_all is_empty (back ∷ [])) ≡ true
        → words_behind (last_behind 32 front) back ≡ words back
    by_closed true is cut = words-behind_space (last_behind 32 front) 32 back (last-closed front is) refl
    by_closed false is cut = none back cut

-- the line of a text is that of the sums of its parts

sum-any : (is_asked : Bool) (all one other : ℕ) → all ≡ one + other → asked is_asked all ≡ asked is_asked (if_asked is_asked one + if_asked is_asked other)
sum-any true all one other is = ap (λ count. decimal count ∷ []) (ap saturated is ∙ omega arith)
sum-any false all one other is = refl

pub wc-joins : (columns : Columns) (front back : List ℕ) → is_cutlist (front ∷ back ∷ []) ≡ true
    → counts_line columns (counts_of (front ++ back)) []
    ≡ counts_line columns (added (counts_on columns (counts_line columns (counts_of front) [])) (counts_on columns (counts_line columns (counts_of back) []))) []
wc-joins columns front back cut =
    ap (λ texts. join_with_byte 32 texts ++ 10 ∷ [])
    (λ i. sum-any columns.lines (newlines (front ++ back)) (newlines front) (newlines back) (newlines-append front back) i
    ++ (sum-any columns.words (words (front ++ back)) (words front) (words back) (words-cut_lines front back cut) i
    ++ sum-any columns.bytes (length (front ++ back)) (length front) (length back) (length-append front back) i))
    ∙ ap (λ counts. counts_line columns counts [])
    (λ i. added (sym (counts_on-line columns (counts_of front)) i) (sym (counts_on-line columns (counts_of back)) i))

-- lines of counts may be added up in any order
sum-regrouped : (is_asked : Bool) (one two three : ℕ) → is_asked ≡ true
    → saturated (if_asked is_asked (one + two) + three) ≡ saturated (one + if_asked is_asked (two + three))
sum-regrouped true one two three is = omega arith
sum-regrouped false one two three is = absurd (true≢false (sym is))

module _ (columns : Columns) where
  abbrev sum_line : List ℕ → List ℕ → List ℕ
  sum_line one other = counts_line columns (added (counts_on columns one) (counts_on columns other)) []

  pub sums-commute : (one other : List ℕ) → sum_line one other ≡ sum_line other one
  sums-commute one other = ap (λ counts. counts_line columns counts []) (swapped (counts_on columns one) (counts_on columns other))
    where
      swapped : (one other : Counts) → added one other ≡ added other one
      swapped one other =
          let lines : one.lines + other.lines ≡ other.lines + one.lines = omega arith in
          let words : one.words + other.words ≡ other.words + one.words = omega arith in
          let bytes : one.bytes + other.bytes ≡ other.bytes + one.bytes = omega arith in
          λ i. record { lines = lines i; words = words i; bytes = bytes i }

  pub sums-associate : (one two three : List ℕ) → sum_line (sum_line one two) three ≡ sum_line one (sum_line two three)
  sums-associate one two three = of_counts (counts_on columns one) (counts_on columns two) (counts_on columns three)
    where
      of_counts : (one two three : Counts)
          → counts_line columns (added (counts_on columns (counts_line columns (added one two) [])) three) []
          ≡ counts_line columns (added one (counts_on columns (counts_line columns (added two three) []))) []
      of_counts one two three =
          ap (λ counts. counts_line columns (added counts three) []) (counts_on-line columns (added one two))
          ∙ line-alike columns (added (seen_of columns (added one two)) three) (added one (seen_of columns (added two three))) []
          (sum-regrouped columns.lines one.lines two.lines three.lines)
          (sum-regrouped columns.words one.words two.words three.words)
          (sum-regrouped columns.bytes one.bytes two.bytes three.bytes)
          ∙ ap (λ counts. counts_line columns (added one counts) []) (sym (counts_on-line columns (added two three)))

-- with at most one operand there is no line of sums
pub total-none : (args : WcArgs) (inputs : List Input) → has_at_most_one args.operands ≡ true → total args inputs ≡ []
total-none args inputs one = cond-true (has_at_most_one args.operands) [] _ one
