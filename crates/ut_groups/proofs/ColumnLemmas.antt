-- Lines of counts, as they are written and read.
use Rattle.std.proofs.Common.{◌≡◌, ℕ, ◌+◌, ◌-◌, ◌^◌, ◌<◌, ◌≤◌, ◌==◌, ◌&&◌, ◌||◌, Bool, true, false, not, nat_lt, nat_le, List, [], ◌∷◌, ◌++◌, length, take, drop, get_or, decimal, if◌then◌else◌, Option, Some, None, refl, ap, sym, ◌∙◌, append_assoc, append-nil, length-append, take_all, arith}
use Rattle.std.proofs.lemmas.Bool.{and_parts, ltb-false, true≢false}
use Rattle.std.proofs.lemmas.Bool.Decides.{nat_tests}
use Rattle.std.proofs.Math.Seq.{take-append_seam, drop-append-add}
use Rattle.std.proofs.lemmas.List.{drop_all}
use Rattle.std.proofs.lemmas.Fmt.{digits_decimal, decimal_nonempty, length-decimal-le}
use Rattle.std.proofs.lemmas.Str.Parse.{numerals_by_value, tells_all_ascii_digits}
use Rattle.std.specs.Char.{is_ascii_digit}
use Rattle.std.specs.Str.{all_ascii_digits}
use Rattle.std.specs.List.{before_first, join_with_byte, position, position_or_len}
use Rattle.std.specs.Option.{is_some, unwrap_or}
use Rattle.ps_lines.specs.Lines.{is_empty}
use Rattle.ps_lines.specs.Numbers.{number_of}
use Rattle.ps_lines.proofs.NumberLemmas.{number_of-decimal}
use Rattle.ut_streams.specs.Streams.{Wrote}
use Rattle.ut_streams.proofs.StreamLemmas.{Put-whole, Put-none, Put-after, Put-broken, Wrote-same}
use Rattle.ut_groups.specs.declared.counting.Counts.{Counts}
use Rattle.ut_groups.specs.declared.columns.Columns.{Columns}
use Rattle.ut_groups.specs.Counting.{counts_of, newlines, saturated, words_behind}
use Rattle.ut_groups.specs.Columns.{asked, behind_number, behind_space, chosen, counts_line, is_space, number_before, without_last}
use Rattle.ut_groups.specs.Inner.Columns.{column, counts_behind, counts_text, last_behind}
use Rattle.ut_groups.specs.Inner.Series.{PrintAlike}
use Rattle.ut_groups.proofs.CountingLemmas.{newlines-append, saturated-more, saturated-self, words-append}

pub ruleset puts = (Put-whole, Put-none, Put-after, Put-broken, saturated-self, append_assoc, append-nil)

-- the counts of a line, one after another, are joined
joined-columns : (lines words bytes : Bool) (one two three : List ℕ)
    → join_with_byte 32 ((if lines then one ∷ [] else []) ++ ((if words then two ∷ [] else []) ++ (if bytes then three ∷ [] else [])))
    ≡ (if lines then [] ++ one else []) ++ ((if words then (if lines then 32 ∷ [] else []) ++ two else []) ++ (if bytes then (if lines || words then 32 ∷ [] else []) ++ three else []))
joined-columns true true true one two three = refl
joined-columns true true false one two three = ap (λ rest. one ++ 32 ∷ rest) (sym (append-nil two))
joined-columns true false true one two three = refl
joined-columns true false false one two three = sym (append-nil one)
joined-columns false true true one two three = refl
joined-columns false true false one two three = sym (append-nil two)
joined-columns false false true one two three = refl
joined-columns false false false one two three = refl

pub joined-counts : (columns : Columns) (counts : Counts) → counts_text columns counts ≡ join_with_byte 32 (chosen columns counts)
joined-counts columns counts =
    sym (joined-columns columns.lines columns.words columns.bytes (decimal (saturated counts.lines)) (decimal (saturated counts.words)) (decimal (saturated counts.bytes)))

pub ruleset columns = (Put-whole, Put-none, Put-after, Put-broken)

pub ruleset lines = (Put-whole, Put-none, Put-after, Put-broken, joined-counts)

-- a number is read from before a space, and the rest from behind it
digit-is_space : (byte : ℕ) → is_ascii_digit byte ≡ true → is_space byte ≡ false
digit-is_space byte is = grind (arith, nat_tests)

pub position-digits : (digits rest : List ℕ) → all_ascii_digits digits ≡ true → position_or_len is_space (digits ++ 32 ∷ rest) ≡ length digits
position-digits [] rest are = refl
position-digits (byte ∷ digits) rest are =
    let parts = and_parts (is_ascii_digit byte) (all_ascii_digits digits) are in
    ap (λ stops. if not stops then 1 + position_or_len is_space (digits ++ 32 ∷ rest) else 0) (digit-is_space byte parts.0)
    ∙ ap (λ at. 1 + at) (position-digits digits rest parts.1) ∙ omega arith

position-end : (digits : List ℕ) → all_ascii_digits digits ≡ true → position_or_len is_space digits ≡ length digits
position-end [] are = refl
position-end (byte ∷ digits) are =
    let parts = and_parts (is_ascii_digit byte) (all_ascii_digits digits) are in
    ap (λ stops. if not stops then 1 + position_or_len is_space digits else 0) (digit-is_space byte parts.0)
    ∙ ap (λ at. 1 + at) (position-end digits parts.1) ∙ omega arith

pub decimal-digits : (count : ℕ) → all_ascii_digits (decimal (saturated count)) ≡ true
decimal-digits count = digits_decimal (numerals_by_value (λ text. all_ascii_digits text ≡ true) tells_all_ascii_digits) (saturated count) (omega arith)

number-read : (count : ℕ) (text : List ℕ) → text ≡ decimal (saturated count) → unwrap_or (number_of text) 0 ≡ saturated count
number-read count text is = ap (λ text. unwrap_or (number_of text) 0) is ∙ ap (λ number. unwrap_or number 0) (number_of-decimal (saturated count) (omega arith))

pub number-before : (count : ℕ) (rest : List ℕ) → number_before (decimal (saturated count) ++ 32 ∷ rest) ≡ saturated count
number-before count rest =
    number-read count (before_first is_space (decimal (saturated count) ++ 32 ∷ rest))
    (ap (λ at. take at (decimal (saturated count) ++ 32 ∷ rest)) (position-digits (decimal (saturated count)) rest (decimal-digits count))
    ∙ take-append_seam (decimal (saturated count)) (32 ∷ rest))

pub behind-number : (count : ℕ) (rest : List ℕ) → behind_number (decimal (saturated count) ++ 32 ∷ rest) ≡ rest
behind-number count rest =
    ap (λ at. drop (at + 1) (decimal (saturated count) ++ 32 ∷ rest)) (position-digits (decimal (saturated count)) rest (decimal-digits count))
    ∙ drop-append-add (decimal (saturated count)) (32 ∷ rest) 1

pub number-last : (count : ℕ) → number_before (decimal (saturated count)) ≡ saturated count
number-last count =
    number-read count (before_first is_space (decimal (saturated count)))
    (ap (λ at. take at (decimal (saturated count))) (position-end (decimal (saturated count)) (decimal-digits count))
    ∙ take_all (length (decimal (saturated count))) (decimal (saturated count)) (omega arith))

-- where the first space stands
space-there : (text : List ℕ) (end : ℕ) → Some end ≡ position is_space text → end ≡ position_or_len is_space text
space-there text end is = by_test (nat_lt (position_or_len is_space text) (length text)) is
  where
    by_test : (test : Bool) → Some end ≡ (if test then Some (position_or_len is_space text) else None) → end ≡ position_or_len is_space text
    by_test true is = ap (λ (place : Option ℕ). unwrap_or place end) is
    by_test false is = absurd (true≢false (ap (λ (place : Option ℕ). is_some place) is))

space-none : (text : List ℕ) → None ≡ position is_space text → length text ≤ position_or_len is_space text
space-none text is = by_test (nat_lt (position_or_len is_space text) (length text)) refl is
  where
    by_test : (test : Bool) → nat_lt (position_or_len is_space text) (length text) ≡ test → None ≡ (if test then Some (position_or_len is_space text) else None)
        → length text ≤ position_or_len is_space text
    by_test true at is = absurd (true≢false (sym (ap (λ (place : Option ℕ). is_some place) is)))
    by_test false at is = ltb-false (position_or_len is_space text) (length text) at

pub front-there : (text : List ℕ) (end : ℕ) → Some end ≡ position is_space text → take end text ≡ before_first is_space text
front-there text end is = ap (λ at. take at text) (space-there text end is)

pub behind-there : (text : List ℕ) (end : ℕ) → Some end ≡ position is_space text → drop (end + 1) text ≡ behind_number text
behind-there text end is = ap (λ at. drop (at + 1) text) (space-there text end is)

pub front-none : (text : List ℕ) → None ≡ position is_space text → text ≡ before_first is_space text
front-none text is = sym (take_all (position_or_len is_space text) text (space-none text is))

pub behind-none : (text : List ℕ) → None ≡ position is_space text → [] ≡ behind_number text
behind-none text is = sym (drop_all (position_or_len is_space text + 1) text (let none = space-none text is in omega arith))

-- counts of which those that are asked for are printed alike
asked-alike : (is_asked : Bool) (one other : ℕ) → (is_asked ≡ true → saturated one ≡ saturated other) → asked is_asked one ≡ asked is_asked other
asked-alike true one other same = ap (λ count. decimal count ∷ []) (same refl)
asked-alike false one other same = refl

pub line-alike : (columns : Columns) (one other : Counts) (name : List ℕ) → (columns.lines ≡ true → saturated one.lines ≡ saturated other.lines)
    → (columns.words ≡ true → saturated one.words ≡ saturated other.words) → (columns.bytes ≡ true → saturated one.bytes ≡ saturated other.bytes)
    → counts_line columns one name ≡ counts_line columns other name
line-alike columns one other name lines words bytes =
    ap (λ first. join_with_byte 32 (first ++ (asked columns.words one.words ++ asked columns.bytes one.bytes)) ++ (behind_space name ++ 10 ∷ [])) (asked-alike columns.lines one.lines other.lines lines)
    ∙ ap (λ second. join_with_byte 32 (asked columns.lines other.lines ++ (second ++ asked columns.bytes one.bytes)) ++ (behind_space name ++ 10 ∷ [])) (asked-alike columns.words one.words other.words words)
    ∙ ap (λ third. join_with_byte 32 (asked columns.lines other.lines ++ (asked columns.words other.words ++ third)) ++ (behind_space name ++ 10 ∷ [])) (asked-alike columns.bytes one.bytes other.bytes bytes)

-- a piece is counted
pub counted-piece : (columns : Columns) (counts now : Counts) (before : ℕ) (piece more : List ℕ)
    → (columns.lines ≡ true → now.lines ≡ saturated (counts.lines + newlines piece))
    → (columns.words ≡ true → now.words ≡ saturated (counts.words + words_behind before piece))
    → now.bytes ≡ saturated (counts.bytes + length piece)
    → PrintAlike columns (counts_behind now (last_behind before piece) more) (counts_behind counts before (piece ++ more))
counted-piece columns counts now before piece more lines words bytes = record {
  lines = λ is.
      ap (λ count. saturated (count + newlines more)) (lines is) ∙ saturated-more (counts.lines + newlines piece) (newlines more)
      ∙ ap saturated (omega arith ∙ ap (λ all. counts.lines + all) (sym (newlines-append piece more)));
  words = λ is.
      ap (λ count. saturated (count + words_behind (last_behind before piece) more)) (words is)
      ∙ saturated-more (counts.words + words_behind before piece) (words_behind (last_behind before piece) more)
      ∙ ap saturated (omega arith ∙ ap (λ all. counts.words + all) (sym (words-append before piece more)));
  bytes = λ is.
      ap (λ count. saturated (count + length more)) bytes ∙ saturated-more (counts.bytes + length piece) (length more)
      ∙ ap saturated (omega arith ∙ ap (λ all. counts.bytes + all) (sym (length-append piece more)));
}

pub ruleset counted = counted-piece

pub line-printed : (columns : Columns) (one other : Counts) (name : List ℕ) → PrintAlike columns one other → counts_line columns one name ≡ counts_line columns other name
line-printed columns one other name alike = line-alike columns one other name alike.lines alike.words alike.bytes

-- and nothing is written for it
pub Wrote-counted : (columns : Columns) (counts now : Counts) (before last : ℕ) (piece out : List ℕ) (whole : Bool)
    → ((more : List ℕ) → PrintAlike columns (counts_behind now last more) (counts_behind counts before (piece ++ more)))
    → Wrote (λ more. counts_line columns (counts_behind counts before (piece ++ more)) []) (λ more. counts_line columns (counts_behind now last more) []) out out whole
Wrote-counted columns counts now before last piece out whole alike =
    Wrote-same (λ more. counts_line columns (counts_behind counts before (piece ++ more)) []) (λ more. counts_line columns (counts_behind now last more) []) out whole
    (λ ok more. line-printed columns (counts_behind now last more) (counts_behind counts before (piece ++ more)) [] (alike more))

-- from the beginning all of a text is to be counted
pub counts-begin : (columns : Columns) (text name : List ℕ) (counts : Counts) → counts.lines ≡ 0 → counts.words ≡ 0 → counts.bytes ≡ 0
    → counts_line columns (counts_behind counts 32 text) name ≡ counts_line columns (counts_of text) name
counts-begin columns text name counts lines words bytes =
    line-alike columns (counts_behind counts 32 text) (counts_of text) name
    (λ is. ap (λ count. saturated (count + newlines text)) lines ∙ omega arith)
    (λ is. ap (λ count. saturated (count + words_behind 32 text)) words ∙ omega arith)
    (λ is. ap (λ count. saturated (count + length text)) bytes ∙ omega arith)

pub ruleset begins = counts-begin
