-- A word that the scan has read: it has as many groups of marks in it, one a command substitution, as substitutions are read of its bytes.
use Rattle.std.proofs.Common.{◌≡◌, ℕ, zero, suc, Bool, true, false, not, ◌&&◌, Option, None, Some, ◌+◌, ◌-◌, ◌==◌, ◌≤◌, ◌<◌, List, [], ◌∷◌, ◌++◌, ◌⊎◌, if◌then◌else◌, length, refl, sym, ◌∙◌, ap, subst, append_assoc, length-append, inl, inr, arith}
use Rattle.ps_lines.specs.Bytes.{is_name_byte}
use Rattle.sh_lex.specs.Bytes.{ends_word}
use Rattle.sh_lex.specs.Texts.{unspliced, behind_run}
use Rattle.sh_lex.specs.Acts.{Act, goes, enters, ends, offends, Found, nothing, gap, open_parenthesis, close_parenthesis, token, word, offence}
use Rattle.sh_lex.specs.Operators.{lexeme}
use Rattle.sh_lex.specs.Dollars.{name_at}
use Rattle.sh_lex.specs.Heads.{Head, whole, with_word, no_form, trims, brace_head}
use Rattle.sh_lex.specs.Braces.{braces_at, braces_word_at, head_at}
use Rattle.sh_lex.specs.Reads.{act, past, Reads}
use Rattle.sh_lex.specs.Lexes.{token_between}
use Rattle.sh_lex.specs.Marks.{Marked, marks_on, marks_inner, marks_end, seen, seen_at, begun, behind_word, opening, closing, entry_of, entry_in}
use Rattle.sh_lex.specs.declared.lexing.marks.Mark.{Mark}
use Rattle.sh_lex.specs.declared.lexing.marks.Mark.TheVariants as mark
use Rattle.sh_lex.specs.declared.lexing.marks.Entry.{Entry}
use Rattle.sh_lex.specs.declared.lexing.marks.Entry.TheVariants as entry
use Rattle.sh_lex.proofs.Fronts.{behind_run-none, behind_run-byte, behind_run-other}
use Rattle.sh_lex.proofs.Marked.{marked_reads}
use Rattle.sh_lex.proofs.Readings.{Reads-Leaves, Reads-same}
use Rattle.sh_lex.proofs.EndLemmas.{IsLower, substitution_ends}
use Rattle.sh_lex.proofs.Shrinking.{Shrinks}
use Rattle.sh_lex.proofs.Shorter.{act-Shrinks}
use Rattle.sh_lex.specs.declared.parts.Nest.{Nest}
use Rattle.sh_lex.specs.declared.parts.Construct.{Construct}
use Rattle.sh_lex.specs.declared.parts.Construct.TheVariants as part
use Rattle.sh_lex.specs.declared.parts.Spot.{Spot}
use Rattle.sh_lex.specs.declared.parts.Spot.TheVariants as spot
use Rattle.sh_lex.specs.declared.parts.Fault.TheVariants as fault
use Rattle.sh_lex.specs.declared.parts.Spelling.TheVariants as spelling
use Rattle.sh_lex.specs.declared.bytes.TheConstants.{CLOSE, TILDE}
use Rattle.sh_words.specs.Steps as words
use Rattle.sh_words.specs.Steps.{Step, step}
use Rattle.sh_words.specs.Parameters.{braced}
use Rattle.sh_words.specs.Words.{Passes, left_by, in_commands}
use Rattle.sh_words.specs.declared.steps.Owner.TheVariants as owner
use Rattle.sh_words.specs.declared.steps.Mode.{Mode}
use Rattle.sh_words.specs.declared.steps.Mode.TheVariants as mode
use Rattle.sh_parse.proofs.Cuts.{Cut, at_cut, before, Past, Or, HeadsCut, cut_whole, cut_with_word, past_word, without_form, brace_head-cut, unspliced-cut, RunCut, run_cut, run_past, behind_run-cut}
use Rattle.sh_parse.proofs.Takings.{Takes, Then, TakesBy, taken-by, TakesForm}
use Rattle.sh_parse.proofs.Agreeings.{IsWordSpot, Fits, fits_word, fits_string, fits_braces, fits_arithmetic, fits_parentheses, owner_of, depth_of, Left, Inside, Enters, Agree, agree_goes, past_goes, agree_enters, past_enters, agree_ends, past_ends, offends_anyway, agree-all, braces_word-agree}

-- MARKS in which each substitution that opens closes
abbrev pub IsPlain : Mark → Type 0
IsPlain (mark.WordBegin from) = Unit {0}
IsPlain (mark.WordEnd to) = Unit {0}
IsPlain (mark.Token one) = Unit {0}
IsPlain (mark.SubOpen place) = ⊥
IsPlain mark.SubClose = ⊥
IsPlain mark.Close = Unit {0}

pub data Nested : List Mark → Type 0 where
  none_nested : Nested []
  plain_nested : {first : Mark} {rest : List Mark} → IsPlain first → Nested rest → Nested (first ∷ rest)
  sub_nested : {place : ℕ} {inside rest : List Mark} → Nested inside → Nested rest → Nested (mark.SubOpen place ∷ (inside ++ mark.SubClose ∷ rest))

-- so many substitutions, one behind the other
pub data Grouped : ℕ → List Mark → Type 0 where
  no_group : Grouped 0 []
  one_group : {count place : ℕ} {inside rest : List Mark} → Nested inside → Grouped count rest
      → Grouped (suc count) (mark.SubOpen place ∷ (inside ++ mark.SubClose ∷ rest))

nested-append : {front back : List Mark} → Nested front → Nested back → Nested (front ++ back)
nested-append none_nested b = b
nested-append (plain_nested is a) b = plain_nested is (nested-append a b)
nested-append {back = back} (sub_nested {place = place} {inside = inside} {rest = rest} i a) b =
    subst (λ x. Nested (mark.SubOpen place ∷ x)) (sym (append_assoc inside (mark.SubClose ∷ rest) back)) (sub_nested i (nested-append a b))

grouped-append : {some more : ℕ} {front back : List Mark} → Grouped some front → Grouped more back → Grouped (some + more) (front ++ back)
grouped-append {more = more} {back = back} no_group b = subst (λ n. Grouped n back) (omega arith) b
grouped-append {more = more} {back = back} (one_group {count = count} {place = place} {inside = inside} {rest = rest} i a) b =
    subst (λ x. Grouped (suc count + more) (mark.SubOpen place ∷ x)) (sym (append_assoc inside (mark.SubClose ∷ rest) back))
    (subst (λ n. Grouped n (mark.SubOpen place ∷ (inside ++ mark.SubClose ∷ (rest ++ back)))) (omega arith) (one_group i (grouped-append a b)))

module _ (total : ℕ) where
  begun-nested : (text : List ℕ) (found : Found) → Nested (begun total text found)
  begun-nested text nothing = none_nested
  begun-nested text (gap rest) = none_nested
  begun-nested text (open_parenthesis rest) = none_nested
  begun-nested text (close_parenthesis rest) = none_nested
  begun-nested text (token kind rest) = plain_nested tt none_nested
  begun-nested text word = plain_nested tt none_nested
  begun-nested text (offence fault) = none_nested

  nested_if : (test : Bool) (one other : List Mark) → Nested one → Nested other → Nested (if test then one else other)
  nested_if true one other a b = a
  nested_if false one other a b = b

  behind-nested : (text front : List ℕ) → Nested (behind_word total text front)
  behind-nested text [] = plain_nested tt (begun-nested text (lexeme text))
  behind-nested text (byte ∷ rest) =
      nested_if (ends_word byte) (mark.WordEnd (total - length text) ∷ begun total text (lexeme text)) []
      (plain_nested tt (begun-nested text (lexeme text))) none_nested

  seen_at-nested : (at : Spot) (text : List ℕ) → Nested (seen_at total at text)
  seen_at-nested spot.Between text = begun-nested text (lexeme text)
  seen_at-nested spot.Begin text = behind-nested text (unspliced text)
  seen_at-nested spot.Name text = behind-nested text (unspliced text)
  seen_at-nested spot.ValueBegin text = behind-nested text (unspliced text)
  seen_at-nested spot.Value text = behind-nested text (unspliced text)
  seen_at-nested spot.Elsewhere text = behind-nested text (unspliced text)

  seen-nested : (construct : Construct) (text : List ℕ) → Nested (seen total construct text)
  seen-nested (part.Commands nest (Some place) at) text = seen_at-nested at text
  seen-nested (part.Commands nest None at) text = none_nested
  seen-nested part.Name text = none_nested
  seen-nested (part.DoubleQuotes nest start) text = none_nested
  seen-nested (part.BraceHead nest start is_quoted) text = none_nested
  seen-nested (part.Braces nest start is_quoted) text = none_nested
  seen-nested (part.Arithmetic nest start) text = none_nested
  seen-nested (part.Parentheses nest start) text = none_nested

  entered-nested : (text rest : List ℕ) (by : Entry) {inside outside : List Mark} → Nested inside → Nested outside
      → Nested (opening total text rest by ++ (inside ++ (closing by ++ outside)))
  entered-nested text rest entry.Parenthesis i o = plain_nested tt (nested-append i (plain_nested tt o))
  entered-nested text rest (entry.Substitution place) i o = sub_nested i o
  entered-nested text rest entry.Other i o = nested-append i o

  pub marked-nested : {construct : Construct} {text left : List ℕ} {found : List Mark} → Marked total construct text found left → Nested found
  marked-nested (marks_on {construct = construct} {text = text} e more) = nested-append (seen-nested construct text) (marked-nested more)
  marked-nested (marks_inner {construct = construct} {inner = inner} {outer = outer} {text = text} {rest = rest} e inside outside) =
      nested-append (seen-nested construct text) (entered-nested text rest (entry_of inner outer) (marked-nested inside) (marked-nested outside))
  marked-nested (marks_end {construct = construct} {text = text} e) = seen-nested construct text

  leaves : {construct : Construct} {text left : List ℕ} {found : List Mark} → Marked total construct text found left → length left ≤ length text
  leaves marked = Reads-Leaves (marked_reads marked)

  -- a name is a run of bytes, and has no mark in it
  record IsRun (text left : List ℕ) (found : List Mark) : Type 0 where
    run : left ≡ behind_run is_name_byte text
    bare : found ≡ []

  name_goes : (text rest left : List ℕ) (next : Construct) (found : List Mark) (front : List ℕ) → unspliced text ≡ front → name_at text front ≡ goes next rest
      → (next ≡ part.Name → IsRun rest left found) → IsRun text left found
  name_goes text rest left next found [] is e more = absurd cc
  name_goes text rest left next found (byte ∷ behind) is e more = by_test (is_name_byte byte) refl e
    where
      by_test : (test : Bool) → is_name_byte byte ≡ test → (if test then goes part.Name behind else ends text) ≡ goes next rest → IsRun text left found
      by_test true passes e =
          let same : rest ≡ behind = cc in
          let is_name : next ≡ part.Name = cc in
          let found_so = more is_name in
          record {
            run = found_so.run ∙ ap (behind_run is_name_byte) same ∙ sym (behind_run-byte is_name_byte byte behind text is passes);
            bare = found_so.bare;
          }
      by_test false stops e = absurd cc

  name_enters : (text rest : List ℕ) (inner outer : Construct) (front : List ℕ) → name_at text front ≡ enters inner outer rest → ⊥
  name_enters text rest inner outer [] e = cc
  name_enters text rest inner outer (byte ∷ behind) e = by_test (is_name_byte byte) e
    where
      by_test : (test : Bool) → (if test then goes part.Name behind else ends text) ≡ enters inner outer rest → ⊥
      by_test true e = cc
      by_test false e = cc

  name_ends : (text rest : List ℕ) (front : List ℕ) → unspliced text ≡ front → name_at text front ≡ ends rest → rest ≡ behind_run is_name_byte text
  name_ends text rest [] is e = let same : rest ≡ text = cc in same ∙ sym (behind_run-none is_name_byte text is)
  name_ends text rest (byte ∷ behind) is e = by_test (is_name_byte byte) refl e
    where
      by_test : (test : Bool) → is_name_byte byte ≡ test → (if test then goes part.Name behind else ends text) ≡ ends rest → rest ≡ behind_run is_name_byte text
      by_test true passes e = absurd cc
      by_test false stops e = let same : rest ≡ text = cc in same ∙ sym (behind_run-other is_name_byte byte behind text is stops)

  name-run : {construct : Construct} {text left : List ℕ} {found : List Mark} → Marked total construct text found left → construct ≡ part.Name → IsRun text left found
  name-run (marks_on {next = next} {text = text} {rest = rest} {left = left} {found = found} e more) is =
      let so = name_goes text rest left next found (unspliced text) refl (subst (λ it. act it text ≡ goes next rest) is e) (λ is_name. name-run more is_name) in
      record { run = so.run; bare = ap (λ it. seen total it text ++ found) is ∙ so.bare }
  name-run (marks_inner {inner = inner} {outer = outer} {text = text} {rest = rest} e inside outside) is =
      absurd (name_enters text rest inner outer (unspliced text) (subst (λ it. act it text ≡ enters inner outer rest) is e))
  name-run (marks_end {text = text} {rest = rest} e) is =
      record {
        run = name_ends text rest (unspliced text) refl (subst (λ it. act it text ≡ ends rest) is e);
        bare = ap (λ it. seen total it text) is;
      }

  -- a construct that ends at once, and one whose next step leaves so much at most
  record EndsAtOnce (rest left : List ℕ) (found : List Mark) : Type 0 where
    there : left ≡ rest
    bare : found ≡ []

  ends_at_once : {construct : Construct} {text left : List ℕ} {found : List Mark} (rest : List ℕ) → Marked total construct text found left
      → seen total construct text ≡ [] → act construct text ≡ ends rest → EndsAtOnce rest left found
  ends_at_once rest (marks_on e more) bare is = absurd cc
  ends_at_once rest (marks_inner e inside outside) bare is = absurd cc
  ends_at_once rest (marks_end {rest = end} e) bare is = let same : end ≡ rest = cc in record { there = same; bare = bare }

  shrunk : {construct : Construct} {text left : List ℕ} {found : List Mark} (count : ℕ) → Marked total construct text found left
      → Shrinks count (act construct text) → length left ≤ count
  shrunk count (marks_on {next = next} {rest = rest} e more) s =
      let fewer : length rest < count = subst (Shrinks count) e s in let less = leaves more in omega (arith, fewer, less)
  shrunk count (marks_inner {inner = inner} {outer = outer} {rest = rest} e inside outside) s =
      let fewer : length rest < count = subst (Shrinks count) e s in
      let less = leaves inside in let least = leaves outside in omega (arith, fewer, less, least)
  shrunk count (marks_end {rest = rest} e) s = subst (Shrinks count) e s

  word_shrinks : (nest : Nest) (start : ℕ) (is_quoted : Bool) (count : ℕ) (front : List ℕ) → Shrinks count (braces_at nest start is_quoted front)
      → Shrinks count (braces_word_at nest start is_quoted front)
  word_shrinks nest start is_quoted count [] s = s
  word_shrinks nest start is_quoted count (byte ∷ rest) s = by_test ((byte == TILDE) && not is_quoted)
    where
      by_test : (test : Bool) → Shrinks count (if test then offends (fault.Spelled spelling.Tilde (length rest + 1)) else braces_at nest start is_quoted (byte ∷ rest))
      by_test true = tt
      by_test false = s

  -- WHERE THE CUT IS
  cut_long : {tail text copy : List ℕ} → Cut tail text copy → length text ≡ length copy + length tail
  cut_long at_cut = omega arith
  cut_long (before byte cut) = let long = cut_long cut in omega (arith, long)

  record CutBehind (tail front after copy : List ℕ) : Type 0 where
    left : List ℕ
    whole : copy ≡ front ++ left
    cut : Cut tail after left

  cut_behind : {tail text copy : List ℕ} (front after : List ℕ) → Cut tail text copy → text ≡ front ++ after → length tail ≤ length after
      → CutBehind tail front after copy
  cut_behind {tail = tail} {copy = copy} [] after cut is within =
      record { left = copy; whole = refl; cut = subst (λ it. Cut tail it copy) is cut }
  cut_behind (first ∷ front) after at_cut is within =
      let long = ap length is in let parts = length-append front after in absurd (omega (arith, long, parts, within))
  cut_behind (first ∷ front) after (before byte {text = text} cut) is within =
      let here : byte ≡ first = cc in
      let behind : text ≡ front ++ after = cc in
      let more = cut_behind front after cut behind within in
      record { left = more.left; whole = ap (λ it. byte ∷ it) more.whole ∙ ap (λ it. it ∷ (front ++ more.left)) here; cut = more.cut }

  cut_same : {tail text place copy other : List ℕ} → Cut tail text copy → Cut tail place other → text ≡ place → copy ≡ other
  cut_same at_cut at_cut e = refl
  cut_same at_cut (before byte b) e = let long = cut_long b in let as_long = ap length e in absurd (omega (arith, long, as_long))
  cut_same (before byte a) at_cut e = let long = cut_long a in let as_long = ap length e in absurd (omega (arith, long, as_long))
  cut_same (before byte {text = one} a) (before again {text = two} {copy = last} b) e =
      let here : byte ≡ again = cc in
      let behind : one ≡ two = cc in
      ap (λ it. byte ∷ it) (cut_same a b behind) ∙ ap (λ it. it ∷ last) here

  -- A COMMAND SUBSTITUTION ends at the same place in the copy
  sub_cut : (tail : List ℕ) (nest : Nest) (start : ℕ) (rest copy after behind : List ℕ) → Cut tail rest copy → length tail ≤ length after
      → Reads (part.Commands nest (Some start) spot.Between) rest (past after) → Passes in_commands copy behind → Cut tail after behind
  sub_cut tail nest start rest copy after behind cut within reads (end, (passed, is)) =
      let lower : IsLower nest (record { levels = 0; in_braces = false }) = record { fewer = omega arith; braces = λ h. refl } in
      let (front, front_is, again) = substitution_ends nest (record { levels = 0; in_braces = false }) start 0 rest after [] lower reads in
      let first = cut_behind (front ++ CLOSE ∷ []) after cut (front_is ∙ sym (append_assoc front (CLOSE ∷ []) after)) within in
      let (other, same, copied) = substitution_ends nest (record { levels = 0; in_braces = false }) start 0 rest after first.left lower reads in
      let second = cut_behind (other ++ CLOSE ∷ []) after cut (same ∙ sym (append_assoc other (CLOSE ∷ []) after)) within in
      let bytes : copy ≡ other ++ CLOSE ∷ first.left
      = second.whole ∙ append_assoc other (CLOSE ∷ []) second.left ∙ ap (λ it. other ++ CLOSE ∷ it) (cut_same second.cut first.cut refl) in
      let place : behind ≡ first.left
      = is ∙ ap left_by (Reads-same passed (subst (λ it. Reads in_commands it (past first.left)) (sym bytes) copied)) in
      subst (λ it. Cut tail after it) (sym place) first.cut

  seen-bare : {construct : Construct} {in_mode : Mode} → Fits construct in_mode → (text : List ℕ) → seen total construct text ≡ []
  seen-bare (fits_word is) text = refl
  seen-bare fits_string text = refl
  seen-bare fits_braces text = refl
  seen-bare fits_arithmetic text = refl
  seen-bare fits_parentheses text = refl

  word_entry : (nest : Nest) (at : Spot) (start : ℕ) → IsWordSpot at → entry_in start (part.Commands nest None at) ≡ entry.Substitution start
  word_entry nest spot.Between start is = absurd is
  word_entry nest spot.Begin start is = refl
  word_entry nest spot.Name start is = refl
  word_entry nest spot.ValueBegin start is = refl
  word_entry nest spot.Value start is = refl
  word_entry nest spot.Elsewhere start is = refl

  sub_entry : {outer : Construct} {in_mode : Mode} → Fits outer in_mode → (start : ℕ) → entry_in start outer ≡ entry.Substitution start
  sub_entry (fits_word {nest = nest} {at = at} is) start = word_entry nest at start is
  sub_entry fits_string start = refl
  sub_entry fits_braces start = refl
  sub_entry fits_arithmetic start = refl
  sub_entry fits_parentheses start = refl

  no_more : (number : ℕ) → number ≡ number + 0
  no_more number = omega arith

  both_more : (number one two : ℕ) → (number + one) + two ≡ number + (one + two)
  both_more number one two = omega arith

  one_more : (number count : ℕ) → (number + 1) + count ≡ number + suc count
  one_more number count = omega arith

  module _ (tail : List ℕ) where
    -- what the scan has read up to `left`: as many groups of marks as substitutions are read of the copy up to there
    pub record Scanned (in_mode : Mode) (left : List ℕ) (found : List Mark) (number last : ℕ) (rest : List ℕ) : Type 0 where
      pub copy : List ℕ
      pub cut : Cut tail left copy
      pub count : ℕ
      pub grouped : Grouped count found
      pub reads : Left in_mode copy (number + count) last rest

    abbrev Scans : Construct → List ℕ → List Mark → List ℕ → Type 0
    Scans construct text found left = (in_mode : Mode) (does : Step) → seen total construct text ≡ [] → Agree tail in_mode (act construct text) does
        → (number last : ℕ) (rest : List ℕ) → TakesBy in_mode does number last rest → Scanned in_mode left found number last rest

    by_reading : (construct : Construct) (text left : List ℕ) (found : List Mark) (in_mode : Mode) (copy : List ℕ) → Scans construct text found left
        → Fits construct in_mode → Cut tail text copy → (number last : ℕ) (rest : List ℕ) → Takes in_mode number copy last rest
        → Scanned in_mode left found number last rest
    by_reading construct text left found in_mode copy scans fits cut number last rest takes =
        scans in_mode (step in_mode copy) (seen-bare fits text) (agree-all tail fits cut) number last rest (taken-by takes)

    joined : (in_mode : Mode) (left : List ℕ) (one two : List Mark) (count number last : ℕ) (rest : List ℕ) → Grouped count one
        → Scanned in_mode left two (number + count) last rest → Scanned in_mode left (one ++ two) number last rest
    joined in_mode left one two count number last rest grouped so =
        record {
          copy = so.copy;
          cut = so.cut;
          count = count + so.count;
          grouped = grouped-append grouped so.grouped;
          reads = subst (λ n. Left in_mode so.copy n last rest) (both_more number count so.count) so.reads;
        }

    go_scanned : (in_mode : Mode) (does : Step) (construct next : Construct) (text rest left : List ℕ) (found : List Mark) → Marked total next rest found left
        → length tail ≤ length left → seen total construct text ≡ [] → Agree tail in_mode (goes next rest) does → Scans next rest found left
        → (number last : ℕ) (over : List ℕ) → TakesBy in_mode does number last over
        → Scanned in_mode left (seen total construct text ++ found) number last over
    go_scanned in_mode does construct next text rest left found marked within bare (agree_goes {copy = copy} fits cut reads) more number last over taken =
        subst (λ marks. Scanned in_mode left (marks ++ found) number last over) (sym bare)
        (by_reading next rest left found in_mode copy more fits cut number last over (reads number last over taken))
    go_scanned in_mode does construct next text rest left found marked within bare (past_goes h) more number last over taken =
        let less = leaves marked in absurd (omega (arith, h, within, less))

    end_scanned : (in_mode : Mode) (does : Step) (construct : Construct) (text left : List ℕ) → length tail ≤ length left → seen total construct text ≡ []
        → Agree tail in_mode (ends left) does → (number last : ℕ) (over : List ℕ) → TakesBy in_mode does number last over
        → Scanned in_mode left (seen total construct text) number last over
    end_scanned in_mode does construct text left within bare (agree_ends {copy = copy} cut reads) number last over taken =
        record {
          copy = copy;
          cut = cut;
          count = 0;
          grouped = subst (Grouped 0) (sym bare) no_group;
          reads = subst (λ n. Left in_mode copy n last over) (no_more number) (reads number last over taken);
        }
    end_scanned in_mode does construct text left within bare (past_ends h) number last over taken = absurd (omega (arith, h, within))

    -- behind a name
    name_on : (in_mode : Mode) (outer : Construct) (after left : List ℕ) (two : List Mark) (number last : ℕ) (over copy : List ℕ) {behind bytes others : List ℕ}
        → after ≡ behind → length tail ≤ length after → RunCut tail behind copy bytes others → Fits outer in_mode → Scans outer after two left
        → Takes in_mode number copy last over → Scanned in_mode left two number last over
    name_on in_mode outer after left two number last over copy same within (run_cut cut) fits more takes =
        by_reading outer after left two in_mode copy more fits (subst (λ it. Cut tail it copy) (sym same) cut) number last over takes
    name_on in_mode outer after left two number last over copy same within (run_past h at_end) fits more takes =
        let long = ap length same in absurd (omega (arith, h, within, long))

    module _ (in_mode : Mode) (outer : Construct) (after left : List ℕ) (one two : List Mark) (number last : ℕ) (over : List ℕ) (fits : Fits outer in_mode)
        (within : length tail ≤ length after) (outside : Scans outer after two left) where
      -- behind what ends where these bytes of the copy are left, and has had so many substitutions
      behind : (count middle : ℕ) (copy place : List ℕ) → Grouped count one → Cut tail after copy → middle ≡ number + count → place ≡ copy
          → Takes in_mode middle place last over → Scanned in_mode left (one ++ two) number last over
      behind count middle copy place grouped cut counted there takes =
          joined in_mode left one two count number last over grouped
          (by_reading outer after left two in_mode copy outside fits cut (number + count) last over
          (subst (λ n. Takes in_mode n copy last over) counted (subst (λ it. Takes in_mode middle it last over) there takes)))

      head_on : (nest : Nest) (start : ℕ) (is_quoted : Bool) (rest : List ℕ) (middle : ℕ) (place : List ℕ) (found : Head) {made : Head}
          → brace_head rest ≡ found → HeadsCut tail found made → Marked total (part.BraceHead nest start is_quoted) rest one after
          → Scans (part.BraceHead nest start is_quoted) rest one after → TakesForm is_quoted (braced made) number middle place
          → Takes in_mode middle place last over → Scanned in_mode left (one ++ two) number last over
      head_on nest start is_quoted rest middle place (whole what measured end) is (cut_whole {copy = copy} cut) marked inside form takes =
          let at_once = ends_at_once end marked refl (ap (head_at nest start is_quoted rest) is) in
          behind 0 middle copy place (subst (Grouped 0) (sym at_once.bare) no_group) (subst (λ it. Cut tail it copy) (sym at_once.there) cut)
          (form.0 ∙ no_more number) form.1 takes
      head_on nest start is_quoted rest middle place (with_word what by inner) is (cut_with_word {copy = copy} cut) marked inside form takes =
          let so = inside (mode.Word (owner.Braces (is_quoted && not (trims by)))) (words.word_at (owner.Braces (is_quoted && not (trims by))) (unspliced copy)) refl
          (subst (λ a. Agree tail (mode.Word (owner.Braces (is_quoted && not (trims by)))) a (words.word_at (owner.Braces (is_quoted && not (trims by))) (unspliced copy)))
          (sym (ap (head_at nest start is_quoted rest) is))
          (braces_word-agree tail nest start (is_quoted && not (trims by)) (unspliced-cut tail cut))) number middle place (taken-by form) in
          behind so.count middle so.copy place so.grouped so.cut so.reads.0 so.reads.1 takes
      head_on nest start is_quoted rest middle place (with_word what by inner) is (past_word h) marked inside form takes =
          let less : length after ≤ length inner
          = shrunk (length inner) marked (subst (Shrinks (length inner)) (sym (ap (head_at nest start is_quoted rest) is))
          (word_shrinks nest start (is_quoted && not (trims by)) (length inner) (unspliced inner)
          (act-Shrinks (part.Braces nest start (is_quoted && not (trims by))) inner))) in
          absurd (omega (arith, h, less, within))
      head_on nest start is_quoted rest middle place found is without_form marked inside form takes = absurd form

    -- a construct that opens in another
    entered : (in_mode : Mode) (does : Step) (inner outer : Construct) (text rest after left : List ℕ) (one two : List Mark) → Marked total inner rest one after
        → length tail ≤ length after → Fits outer in_mode → Enters tail in_mode inner rest does → Scans inner rest one after → Scans outer after two left
        → (number last : ℕ) (over : List ℕ) → TakesBy in_mode does number last over
        → Scanned in_mode left (opening total text rest (entry_of inner outer) ++ (one ++ (closing (entry_of inner outer) ++ two))) number last over
    entered in_mode does part.Name outer text rest after left one two marked within fits into inside outside number last over taken =
        let name = name-run marked refl in
        subst (λ marks. Scanned in_mode left (marks ++ two) number last over) (sym name.bare)
        (name_on in_mode outer after left two number last over (behind_run is_name_byte into.copy) name.run within
        (behind_run-cut tail is_name_byte refl into.cut) fits outside (into.reads number last over taken))
    entered in_mode does (part.DoubleQuotes nest start) outer text rest after left one two marked within fits (same, into) inside outside number last over taken =
        let so = by_reading (part.DoubleQuotes nest start) rest after one (mode.DoubleQuotes (owner_of in_mode)) into.copy inside fits_string into.cut
        number last over (into.reads number last over taken) in
        behind in_mode outer after left one two number last over fits within outside so.count (number + so.count) so.copy so.copy so.grouped so.cut refl refl
        (subst (λ m. Takes m (number + so.count) so.copy last over) (sym same) so.reads)
    entered in_mode does (part.BraceHead nest start is_quoted) outer text rest after left one two marked within fits into inside outside number last over taken =
        let found = into.reads number last over taken in
        head_on in_mode outer after left one two number last over fits within outside nest start is_quoted rest found.middle found.after (brace_head rest) refl
        (brace_head-cut tail into.cut) marked inside found.one found.more
    entered in_mode does (part.Braces nest start is_quoted) outer text rest after left one two marked within fits into inside outside number last over taken =
        absurd into
    entered in_mode does (part.Arithmetic nest start) outer text rest after left one two marked within fits into inside outside number last over taken =
        let found = into.reads number last over taken in
        let so = by_reading (part.Arithmetic nest start) rest after one (mode.Arithmetic 0) into.copy inside fits_arithmetic into.cut
        number found.middle found.after found.one in
        behind in_mode outer after left one two number last over fits within outside so.count found.middle so.copy found.after so.grouped so.cut
        so.reads.0 so.reads.1 found.more
    entered in_mode does (part.Parentheses nest start) outer text rest after left one two marked within fits (same, into) inside outside number last over taken =
        let so = by_reading (part.Parentheses nest start) rest after one (mode.Arithmetic (suc (depth_of in_mode))) into.copy inside fits_parentheses into.cut
        number last over (into.reads number last over taken) in
        behind in_mode outer after left one two number last over fits within outside so.count (number + so.count) so.copy so.copy so.grouped so.cut refl refl
        (subst (λ m. Takes m (number + so.count) so.copy last over) (sym same) so.reads)
    entered in_mode does (part.Commands nest (Some start) spot.Between) outer text rest after left one two marked within fits into inside outside number last over taken =
        let found = into.reads number last over taken in
        let cut = sub_cut tail nest start rest into.copy after found.after into.cut within (marked_reads marked) found.one.1 in
        let so = by_reading outer after left two in_mode found.after outside fits cut (number + 1) last over
        (subst (λ n. Takes in_mode n found.after last over) found.one.0 found.more) in
        subst (λ by. Scanned in_mode left (opening total text rest by ++ (one ++ (closing by ++ two))) number last over) (sym (sub_entry fits start))
        (record {
          copy = so.copy;
          cut = so.cut;
          count = suc so.count;
          grouped = one_group (marked-nested marked) so.grouped;
          reads = subst (λ n. Left in_mode so.copy n last over) (one_more number so.count) so.reads;
        })
    entered in_mode does (part.Commands nest None at) outer text rest after left one two marked within fits into inside outside number last over taken = absurd into
    entered in_mode does (part.Commands nest (Some start) spot.Begin) outer text rest after left one two marked within fits into inside outside number last over taken =
        absurd into
    entered in_mode does (part.Commands nest (Some start) spot.Name) outer text rest after left one two marked within fits into inside outside number last over taken =
        absurd into
    entered in_mode does (part.Commands nest (Some start) spot.ValueBegin) outer text rest after left one two marked within fits into inside outside number last over taken =
        absurd into
    entered in_mode does (part.Commands nest (Some start) spot.Value) outer text rest after left one two marked within fits into inside outside number last over taken =
        absurd into
    entered in_mode does (part.Commands nest (Some start) spot.Elsewhere) outer text rest after left one two marked within fits into inside outside number last over taken =
        absurd into

    enter_scanned : (in_mode : Mode) (does : Step) (construct inner outer : Construct) (text rest after left : List ℕ) (one two : List Mark)
        → Marked total inner rest one after → length tail ≤ length after → seen total construct text ≡ [] → Agree tail in_mode (enters inner outer rest) does
        → Scans inner rest one after → Scans outer after two left → (number last : ℕ) (over : List ℕ) → TakesBy in_mode does number last over
        → Scanned in_mode left (seen total construct text ++ (opening total text rest (entry_of inner outer) ++ (one ++ (closing (entry_of inner outer) ++ two)))) number last over
    enter_scanned in_mode does construct inner outer text rest after left one two marked within bare (agree_enters fits into) inside outside number last over taken =
        subst (λ marks. Scanned in_mode left (marks ++ (opening total text rest (entry_of inner outer) ++ (one ++ (closing (entry_of inner outer) ++ two)))) number last over)
        (sym bare) (entered in_mode does inner outer text rest after left one two marked within fits into inside outside number last over taken)
    enter_scanned in_mode does construct inner outer text rest after left one two marked within bare (past_enters h) inside outside number last over taken =
        let less = leaves marked in absurd (omega (arith, h, within, less))

    scanned : {construct : Construct} {text left : List ℕ} {found : List Mark} → Marked total construct text found left → length tail ≤ length left
        → Scans construct text found left
    scanned (marks_on {construct = construct} {next = next} {text = text} {rest = rest} {left = left} {found = found} e more) within in_mode does bare agree number last over taken =
        go_scanned in_mode does construct next text rest left found more within bare (subst (λ a. Agree tail in_mode a does) e agree) (scanned more within)
        number last over taken
    scanned (marks_inner {construct = construct} {inner = inner} {outer = outer} {text = text} {rest = rest} {after = after} {left = left} {inside = one} {outside = two} e inside outside) within in_mode does bare agree number last over taken =
        let deep : length tail ≤ length after = let less = leaves outside in omega (arith, within, less) in
        enter_scanned in_mode does construct inner outer text rest after left one two inside deep bare (subst (λ a. Agree tail in_mode a does) e agree)
        (scanned inside deep) (scanned outside within) number last over taken
    scanned (marks_end {construct = construct} {text = text} {rest = rest} e) within in_mode does bare agree number last over taken =
        end_scanned in_mode does construct text rest within bare (subst (λ a. Agree tail in_mode a does) e agree) number last over taken

  -- A WHOLE WORD
  pub record HasGroups (found : List Mark) (number last : ℕ) : Type 0 where
    pub count : ℕ
    pub grouped : Grouped count found
    pub counted : last ≡ number + count

  nothing_left : {tail copy : List ℕ} → Cut tail tail copy → copy ≡ []
  nothing_left {copy = []} cut = refl
  nothing_left {copy = byte ∷ rest} cut = let long = cut_long cut in absurd (omega (arith, long))

  pub word-groups : (nest : Nest) (at : Spot) (text left copy : List ℕ) (found : List Mark) → IsWordSpot at
      → Marked total (part.Commands nest None at) text found left → Cut left text copy → (number last : ℕ) (over : List ℕ)
      → TakesBy (mode.Word owner.Token) (step (mode.Word owner.Token) copy) number last over → HasGroups found number last
  word-groups nest at text left copy found is marked cut number last over taken =
      let so = scanned left marked (omega arith) (mode.Word owner.Token) (step (mode.Word owner.Token) copy) refl (agree-all left (fits_word is) cut)
      number last over taken in
      record { count = so.count; grouped = so.grouped; counted = so.reads (nothing_left so.cut) }
