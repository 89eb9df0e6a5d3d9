-- Rows of lines side by side: the first one, and those behind it.
use Rattle.std.proofs.Common.{◌≡◌, ◌==◌, ◌+◌, ◌-◌, ◌<◌, ◌≤◌, max, ℕ, zero, suc, List, [], ◌∷◌, ◌++◌, length, drop, get_or, map, Option, None, Bool, true, false, refl, ap, sym, ◌∙◌, append_assoc, append-nil, arith, subst, length-drop, if◌then◌else◌}
use Rattle.std.specs.List.{onto_first}
use Rattle.std.proofs.lemmas.Bool.{eq-eqb, eqb-true, or_parts}
use Rattle.std.proofs.lemmas.List.{drop-drop}
use Rattle.std.proofs.Math.Seq.{drop-append-add}
use Rattle.std.proofs.Math.Path.{fun_ext}
use Rattle.std.proofs.Math.Nat.{le_refl, zero-max}
use Rattle.ps_lines.specs.Lines.{CutsLine, has_newline, is_empty, lines}
use Rattle.ut_slices.specs.Paste.{dealt, first_delimiter, following, lines_at, lines_of_columns, most_lines, row, row_behind, rows, rows_from, sharing, side_by_side}
use Rattle.ut_slices.specs.Inner.Rows.{CutsWaiting, due_from, line_of, passed, rest_of}

-- THE FIRST LINE OF A TEXT
abbrev before : Bool → ℕ → List (List ℕ) → List (List ℕ)
before ends byte others = if ends then [] ∷ others else onto_first byte others

first-alone : (ends : Bool) (byte : ℕ) → before ends byte [] ≡ (if ends then [] else byte ∷ []) ∷ lines (if ends then [] else [])
first-alone true byte = refl
first-alone false byte = refl

first-more : (ends : Bool) (byte : ℕ) (rest : List ℕ) → lines rest ≡ line_of rest ∷ lines (rest_of rest)
    → before ends byte (lines rest) ≡ (if ends then [] else byte ∷ line_of rest) ∷ lines (if ends then rest else rest_of rest)
first-more true byte rest after = refl
first-more false byte rest after = ap (onto_first byte) after

pub lines-some : (byte : ℕ) (rest : List ℕ) → lines (byte ∷ rest) ≡ line_of (byte ∷ rest) ∷ lines (rest_of (byte ∷ rest))
lines-some byte [] = first-alone (byte == 10) byte
lines-some byte (next ∷ rest) = first-more (byte == 10) byte (next ∷ rest) (lines-some next rest)

pub line_of-first : (text : List ℕ) → line_of text ≡ get_or (lines text) 0 []
line_of-first [] = refl
line_of-first (byte ∷ rest) = sym (ap (λ (all : List (List ℕ)). get_or all 0 []) (lines-some byte rest))

pub lines-rest : (text : List ℕ) → lines (rest_of text) ≡ drop 1 (lines text)
lines-rest [] = refl
lines-rest (byte ∷ rest) = sym (ap (λ (all : List (List ℕ)). drop 1 all) (lines-some byte rest))

line_of-other : (byte : ℕ) (rest : List ℕ) → (byte == 10) ≡ false → line_of (byte ∷ rest) ≡ byte ∷ line_of rest
line_of-other byte rest is = rw is

rest_of-other : (byte : ℕ) (rest : List ℕ) → (byte == 10) ≡ false → rest_of (byte ∷ rest) ≡ rest_of rest
rest_of-other byte rest is = rw is

pub line_of-cut : (line rest : List ℕ) → has_newline line ≡ false → line_of (line ++ 10 ∷ rest) ≡ line
line_of-cut [] rest plain = refl
line_of-cut (byte ∷ line) rest plain =
    let parts = or_parts (byte == 10) (has_newline line) plain in
    line_of-other byte (line ++ 10 ∷ rest) parts.0 ∙ ap (λ line. byte ∷ line) (line_of-cut line rest parts.1)

pub rest_of-cut : (line rest : List ℕ) → has_newline line ≡ false → rest_of (line ++ 10 ∷ rest) ≡ rest
rest_of-cut [] rest plain = refl
rest_of-cut (byte ∷ line) rest plain =
    let parts = or_parts (byte == 10) (has_newline line) plain in
    rest_of-other byte (line ++ 10 ∷ rest) parts.0 ∙ rest_of-cut line rest parts.1

pub line_of-plain : (text more : List ℕ) → has_newline text ≡ false → line_of (text ++ more) ≡ text ++ line_of more
line_of-plain [] more plain = refl
line_of-plain (byte ∷ text) more plain =
    let parts = or_parts (byte == 10) (has_newline text) plain in
    line_of-other byte (text ++ more) parts.0 ∙ ap (λ line. byte ∷ line) (line_of-plain text more parts.1)

pub rest_of-plain : (text more : List ℕ) → has_newline text ≡ false → rest_of (text ++ more) ≡ rest_of more
rest_of-plain [] more plain = refl
rest_of-plain (byte ∷ text) more plain =
    let parts = or_parts (byte == 10) (has_newline text) plain in
    rest_of-other byte (text ++ more) parts.0 ∙ rest_of-plain text more parts.1

-- a text that has come to its end is passed by nothing
pub passed-empty : (port : ℕ) (texts : ℕ → List ℕ) → texts port ≡ [] → passed port texts ≡ texts
passed-empty port texts none = fun_ext (λ other. at other (other == port) refl)
  where
    at : (other : ℕ) (same : Bool) → (other == port) ≡ same → (if same then rest_of (texts port) else texts other) ≡ texts other
    at other true same = ap rest_of none ∙ sym none ∙ ap texts (sym (eqb-true other port same))
    at other false same = refl

-- ONE ROW
-- some column that is left has a line; the lines of those that are left; and what is left of the texts behind the row
abbrev pub has_line : List ℕ → (ℕ → List ℕ) → Bool
has_line [] texts = false
has_line (port ∷ columns) texts = if is_empty (texts port) then has_line columns texts else true

abbrev pub cells : List ℕ → (ℕ → List ℕ) → List (List ℕ)
cells [] texts = []
cells (port ∷ columns) texts = line_of (texts port) ∷ cells columns (passed port texts)

abbrev pub all_passed : List ℕ → (ℕ → List ℕ) → ℕ → List ℕ
all_passed [] texts = texts
all_passed (port ∷ columns) texts = all_passed columns (passed port texts)

module _ (again : List (Option ℕ)) (all : List ℕ) where
  abbrev whole : List ℕ → List (Option ℕ) → List ℕ → (ℕ → List ℕ) → List ℕ
  whole front left columns texts = front ++ (row_behind again left (cells columns texts) ++ side_by_side again all (all_passed columns texts))

  abbrev whole_if : Bool → List ℕ → List (Option ℕ) → List ℕ → (ℕ → List ℕ) → List ℕ
  whole_if begun front left columns texts = if (if begun then true else has_line columns texts) then whole front left columns texts else []

  same_if : (test : Bool) (one other : List ℕ) → one ≡ other → (if test then one else []) ≡ (if test then other else [])
  same_if test one other same = ap (λ (text : List ℕ). if test then text else []) same

  end-of-row : (begun : Bool) (front : List ℕ) (left : List (Option ℕ)) (texts : ℕ → List ℕ) → due_from again all false begun front left [] texts ≡ whole_if begun front left [] texts
  end-of-row true front left texts = refl
  end-of-row false front left texts = refl

  some-begun : (begun test : Bool) → (if begun then true else true) ≡ true
  some-begun true test = refl
  some-begun false test = refl

  -- a column without a line
  step-empty : (begun : Bool) (front : List ℕ) (left : List (Option ℕ)) (port : ℕ) (columns : List ℕ) (texts : ℕ → List ℕ) → texts port ≡ []
      → due_from again all false begun (front ++ first_delimiter left) (following again left) columns texts ≡ whole_if begun (front ++ first_delimiter left) (following again left) columns texts
      → due_from again all false begun front left (port ∷ columns) texts ≡ whole_if begun front left (port ∷ columns) texts
  step-empty begun front left port columns texts none after =
      let next = following again left in
      let mark = first_delimiter left in
      let rest = row_behind again next (cells columns texts) in
      let behind = side_by_side again all (all_passed columns texts) in
      let goes_on : due_from again all false begun front left (port ∷ columns) texts ≡ due_from again all false begun (front ++ mark) next columns texts =
      ap (λ (text : List ℕ). if is_empty text then due_from again all false begun (front ++ mark) next columns texts
      else front ++ (mark ++ (line_of text ++ due_from again all false true [] next columns (passed port texts)))) none in
      let joined : (front ++ mark) ++ (rest ++ behind) ≡ front ++ ((mark ++ rest) ++ behind) =
      append_assoc front mark (rest ++ behind) ∙ ap (λ text. front ++ text) (sym (append_assoc mark rest behind)) in
      let named : front ++ ((mark ++ rest) ++ behind) ≡ whole front left (port ∷ columns) texts =
      ap (λ (line : List ℕ). front ++ ((mark ++ (line ++ rest)) ++ behind)) (sym (ap line_of none))
      ∙ ap (λ (now : ℕ → List ℕ). front ++ ((mark ++ (line_of (texts port) ++ row_behind again next (cells columns now))) ++ side_by_side again all (all_passed columns now)))
      (sym (passed-empty port texts none)) in
      let test : (if begun then true else has_line columns texts) ≡ (if begun then true else has_line (port ∷ columns) texts) =
      ap (λ (text : List ℕ). if begun then true else (if is_empty text then has_line columns texts else true)) (sym none) in
      goes_on ∙ after ∙ same_if (if begun then true else has_line columns texts) (whole (front ++ mark) next columns texts) (whole front left (port ∷ columns) texts) (joined ∙ named)
      ∙ ap (λ (test : Bool). if test then whole front left (port ∷ columns) texts else []) test

  -- one with a line
  step-line : (begun : Bool) (front : List ℕ) (left : List (Option ℕ)) (port : ℕ) (columns : List ℕ) (texts : ℕ → List ℕ) (byte : ℕ) (bytes : List ℕ) → texts port ≡ byte ∷ bytes
      → due_from again all false true [] (following again left) columns (passed port texts) ≡ whole_if true [] (following again left) columns (passed port texts)
      → due_from again all false begun front left (port ∷ columns) texts ≡ whole_if begun front left (port ∷ columns) texts
  step-line begun front left port columns texts byte bytes is after =
      let next = following again left in
      let mark = first_delimiter left in
      let line = line_of (texts port) in
      let rest = row_behind again next (cells columns (passed port texts)) in
      let behind = side_by_side again all (all_passed columns (passed port texts)) in
      let more = due_from again all false true [] next columns (passed port texts) in
      let goes_on : due_from again all false begun front left (port ∷ columns) texts ≡ front ++ (mark ++ (line ++ more)) =
      ap (λ (text : List ℕ). if is_empty text then due_from again all false begun (front ++ mark) next columns texts
      else front ++ (mark ++ (line ++ more))) is in
      let joined : mark ++ (line ++ (rest ++ behind)) ≡ (mark ++ (line ++ rest)) ++ behind =
      ap (λ text. mark ++ text) (sym (append_assoc line rest behind)) ∙ sym (append_assoc mark (line ++ rest) behind) in
      let test : true ≡ (if begun then true else has_line (port ∷ columns) texts) =
      sym (ap (λ (text : List ℕ). if begun then true else (if is_empty text then has_line columns texts else true)) is ∙ some-begun begun true) in
      goes_on ∙ ap (λ text. front ++ (mark ++ (line ++ text))) after ∙ ap (λ text. front ++ text) joined
      ∙ ap (λ (test : Bool). if test then whole front left (port ∷ columns) texts else []) test

  step-any : (begun : Bool) (front : List ℕ) (left : List (Option ℕ)) (port : ℕ) (columns : List ℕ) (texts : ℕ → List ℕ) (text : List ℕ) → texts port ≡ text
      → due_from again all false begun (front ++ first_delimiter left) (following again left) columns texts ≡ whole_if begun (front ++ first_delimiter left) (following again left) columns texts
      → due_from again all false true [] (following again left) columns (passed port texts) ≡ whole_if true [] (following again left) columns (passed port texts)
      → due_from again all false begun front left (port ∷ columns) texts ≡ whole_if begun front left (port ∷ columns) texts
  step-any begun front left port columns texts [] is without with_line = step-empty begun front left port columns texts is without
  step-any begun front left port columns texts (byte ∷ bytes) is without with_line = step-line begun front left port columns texts byte bytes is with_line

  pub due_from-row : (columns : List ℕ) (begun : Bool) (front : List ℕ) (left : List (Option ℕ)) (texts : ℕ → List ℕ)
      → due_from again all false begun front left columns texts ≡ whole_if begun front left columns texts
  due_from-row [] begun front left texts = end-of-row begun front left texts
  due_from-row (port ∷ columns) begun front left texts =
      step-any begun front left port columns texts (texts port) refl
      (due_from-row columns begun (front ++ first_delimiter left) (following again left) texts)
      (due_from-row columns true [] (following again left) (passed port texts))

-- THE COLUMNS
dealt-wait : (others wait : ℕ) (items : List (List ℕ)) → dealt others 0 (drop wait items) ≡ dealt others wait items
dealt-wait others zero items = refl
dealt-wait others (suc wait) [] = refl
dealt-wait others (suc wait) (line ∷ items) = dealt-wait others wait items

dealt-first : (others : ℕ) (items : List (List ℕ)) → get_or (dealt others 0 items) 0 [] ≡ get_or items 0 []
dealt-first others [] = refl
dealt-first others (line ∷ items) = refl

dealt-rest : (others : ℕ) (items : List (List ℕ)) → dealt others 0 (drop (suc others) items) ≡ drop 1 (dealt others 0 items)
dealt-rest others [] = refl
dealt-rest others (line ∷ items) = dealt-wait others others items

same_drop : (one other : ℕ) (items : List (List ℕ)) → one ≡ other → drop one items ≡ drop other items
same_drop one other items is = ap (λ (count : ℕ). drop count items) is

-- the texts have lost the lines that these columns took
abbrev HasLost : List ℕ → (ℕ → List ℕ) → (ℕ → List ℕ) → Type 0
HasLost before texts now = (input : ℕ) → lines (now input) ≡ drop (sharing input before) (lines (texts input))

loses : (port : ℕ) (before : List ℕ) (texts now : ℕ → List ℕ) → HasLost before texts now → HasLost (port ∷ before) texts (passed port now)
loses port before texts now lost input = by_test (input == port) refl
  where
    by_test : (same : Bool) → (input == port) ≡ same
        → lines (if same then rest_of (now port) else now input) ≡ drop (if same then suc (sharing input before) else sharing input before) (lines (texts input))
    by_test true same =
        let is : input ≡ port = eqb-true input port same in
        ap (λ (port : ℕ). lines (rest_of (now port))) (sym is) ∙ lines-rest (now input) ∙ ap (λ (all : List (List ℕ)). drop 1 all) (lost input)
        ∙ drop-drop 1 (sharing input before) (lines (texts input)) ∙ same_drop (sharing input before + 1) (suc (sharing input before)) (lines (texts input)) (omega arith)
    by_test false same = lost input

keeps_lost : (port : ℕ) (before : List ℕ) (texts now : ℕ → List ℕ) → now port ≡ [] → HasLost before texts now → HasLost (port ∷ before) texts now
keeps_lost port before texts now none lost input =
    ap (λ (now : ℕ → List ℕ). lines (now input)) (sym (passed-empty port now none)) ∙ loses port before texts now lost input

abbrev pub is_some : ℕ → Bool
is_some zero = false
is_some (suc count) = true

module _ (all : List ℕ) (texts : ℕ → List ℕ) where
  abbrev column : ℕ → List ℕ → List (List ℕ)
  column port before = dealt (sharing port all - 1) 0 (drop (sharing port before) (lines (texts port)))

  cells-first : (columns before : List ℕ) (now : ℕ → List ℕ) → HasLost before texts now → cells columns now ≡ lines_at 0 (lines_of_columns all before columns texts)
  cells-first [] before now lost = refl
  cells-first (port ∷ columns) before now lost =
      let first : line_of (now port) ≡ get_or (column port before) 0 [] =
      line_of-first (now port) ∙ ap (λ (items : List (List ℕ)). get_or items 0 []) (lost port) ∙ sym (dealt-first (sharing port all - 1) (drop (sharing port before) (lines (texts port)))) in
      ap (λ (line : List ℕ). line ∷ cells columns (passed port now)) first
      ∙ ap (λ (others : List (List ℕ)). get_or (column port before) 0 [] ∷ others) (cells-first columns (port ∷ before) (passed port now) (loses port before texts now lost))

  some-positive : (count : ℕ) → 0 < count → true ≡ is_some count
  some-positive zero none = absurd (omega arith)
  some-positive (suc count) some = refl

  some-max : (one other : ℕ) → true ≡ is_some (max (suc one) other)
  some-max one other = some-positive (max (suc one) other) (omega arith)

  some-line : (others : ℕ) (items : List (List ℕ)) (line : List ℕ) (rest : List (List ℕ)) (most : ℕ) → line ∷ rest ≡ items → true ≡ is_some (max (length (dealt others 0 items)) most)
  some-line others items line rest most is =
      some-max (length (dealt others others rest)) most ∙ ap (λ (items : List (List ℕ)). is_some (max (length (dealt others 0 items)) most)) is

  some-any : (port : ℕ) (columns before : List ℕ) (now : ℕ → List ℕ) (text : List ℕ) → now port ≡ text → HasLost before texts now
      → (now port ≡ [] → has_line columns now ≡ is_some (most_lines (lines_of_columns all (port ∷ before) columns texts)))
      → has_line (port ∷ columns) now ≡ is_some (max (length (column port before)) (most_lines (lines_of_columns all (port ∷ before) columns texts)))
  some-any port columns before now [] is lost others =
      let none : [] ≡ drop (sharing port before) (lines (texts port)) = sym (ap lines is) ∙ lost port in
      ap (λ (text : List ℕ). if is_empty text then has_line columns now else true) is ∙ others is
      ∙ ap is_some (sym (zero-max (most_lines (lines_of_columns all (port ∷ before) columns texts))))
      ∙ ap (λ (items : List (List ℕ)). is_some (max (length (dealt (sharing port all - 1) 0 items)) (most_lines (lines_of_columns all (port ∷ before) columns texts)))) none
  some-any port columns before now (byte ∷ bytes) is lost others =
      ap (λ (text : List ℕ). if is_empty text then has_line columns now else true) is
      ∙ some-line (sharing port all - 1) (drop (sharing port before) (lines (texts port))) (line_of (byte ∷ bytes)) (lines (rest_of (byte ∷ bytes)))
      (most_lines (lines_of_columns all (port ∷ before) columns texts)) (sym (lines-some byte bytes) ∙ ap lines (sym is) ∙ lost port)

  has_line-some : (columns before : List ℕ) (now : ℕ → List ℕ) → HasLost before texts now → has_line columns now ≡ is_some (most_lines (lines_of_columns all before columns texts))
  has_line-some [] before now lost = refl
  has_line-some (port ∷ columns) before now lost =
      some-any port columns before now (now port) refl lost
      (λ none. has_line-some columns (port ∷ before) now (keeps_lost port before texts now none lost))

  -- behind the row
  passed_all-lost : (columns before : List ℕ) (now : ℕ → List ℕ) → HasLost before texts now
      → (input : ℕ) → lines (all_passed columns now input) ≡ drop (sharing input before + sharing input columns) (lines (texts input))
  passed_all-lost [] before now lost input = lost input ∙ same_drop (sharing input before) (sharing input before + 0) (lines (texts input)) (omega arith)
  passed_all-lost (port ∷ columns) before now lost input =
      passed_all-lost columns (port ∷ before) (passed port now) (loses port before texts now lost) input
      ∙ ap (λ (count : ℕ). drop count (lines (texts input))) (counted (input == port))
    where
      counted : (same : Bool) → (if same then suc (sharing input before) else sharing input before) + sharing input columns
          ≡ sharing input before + (if same then suc (sharing input columns) else sharing input columns)
      counted true = omega arith
      counted false = refl

  same-column : (others count : ℕ) (items : List (List ℕ)) → count ≡ suc others → dealt others 0 (drop count items) ≡ drop 1 (dealt others 0 items)
  same-column others count items is = ap (λ (count : ℕ). dealt others 0 (drop count items)) is ∙ dealt-rest others items

  lines-behind : (later : ℕ → List ℕ) → ((input : ℕ) → lines (later input) ≡ drop (sharing input all) (lines (texts input)))
      → (columns before : List ℕ) → ((input : ℕ) → sharing input columns ≤ sharing input all)
      → lines_of_columns all before columns later ≡ map (λ (column : List (List ℕ)). drop 1 column) (lines_of_columns all before columns texts)
  lines-behind later lost [] before fits = refl
  lines-behind later lost (port ∷ columns) before fits =
      let shared = sharing port all in
      let at_least : suc (sharing port columns) ≤ shared =
      subst (λ (test : Bool). (if test then suc (sharing port columns) else sharing port columns) ≤ sharing port all) (same_port port) (fits port) in
      let behind : drop (sharing port before) (lines (later port)) ≡ drop shared (drop (sharing port before) (lines (texts port))) =
      ap (λ (items : List (List ℕ)). drop (sharing port before) items) (lost port)
      ∙ drop-drop (sharing port before) shared (lines (texts port))
      ∙ same_drop (shared + sharing port before) (sharing port before + shared) (lines (texts port)) (omega arith)
      ∙ sym (drop-drop shared (sharing port before) (lines (texts port))) in
      let first : dealt (shared - 1) 0 (drop (sharing port before) (lines (later port))) ≡ drop 1 (column port before) =
      ap (λ (items : List (List ℕ)). dealt (shared - 1) 0 items) behind
      ∙ same-column (shared - 1) shared (drop (sharing port before) (lines (texts port))) (omega arith) in
      ap (λ (items : List (List ℕ)). items ∷ lines_of_columns all (port ∷ before) columns later) first
      ∙ ap (λ (others : List (List (List ℕ))). drop 1 (column port before) ∷ others)
      (lines-behind later lost columns (port ∷ before) (λ input. fewer input (input == port) (fits input)))
    where
      same_port : (port : ℕ) → (port == port) ≡ true
      same_port port = eq-eqb port port refl

      fewer : (input : ℕ) (same : Bool) → (if same then suc (sharing input columns) else sharing input columns) ≤ sharing input all → sharing input columns ≤ sharing input all
      fewer input true fits = omega arith
      fewer input false fits = fits

-- ALL ROWS
get_or-rest : (items : List (List ℕ)) (number : ℕ) → get_or items (suc number) [] ≡ get_or (drop 1 items) number []
get_or-rest [] number = refl
get_or-rest (line ∷ items) number = refl

abbrev rest_of_columns : List (List (List ℕ)) → List (List (List ℕ))
rest_of_columns columns = map (λ (column : List (List ℕ)). drop 1 column) columns

lines_at-rest : (number : ℕ) (columns : List (List (List ℕ))) → lines_at (suc number) columns ≡ lines_at number (rest_of_columns columns)
lines_at-rest number [] = refl
lines_at-rest number (column ∷ columns) =
    ap (λ (line : List ℕ). line ∷ lines_at (suc number) columns) (get_or-rest column number)
    ∙ ap (λ (others : List (List ℕ)). get_or (drop 1 column) number [] ∷ others) (lines_at-rest number columns)

rows_from-rest : (delimiters : List (Option ℕ)) (number count : ℕ) (columns : List (List (List ℕ))) → rows_from delimiters (suc number) count columns ≡ rows_from delimiters number count (rest_of_columns columns)
rows_from-rest delimiters number zero columns = refl
rows_from-rest delimiters number (suc count) columns =
    ap (λ (cells : List (List ℕ)). row delimiters cells ++ rows_from delimiters (suc (suc number)) count columns) (lines_at-rest number columns)
    ∙ ap (λ (others : List ℕ). row delimiters (lines_at number (rest_of_columns columns)) ++ others) (rows_from-rest delimiters (suc number) count columns)

max-pred : (one other : ℕ) → max (one - 1) (other - 1) ≡ max one other - 1
max-pred one other = omega arith

length-rest : (items : List (List ℕ)) → length (drop 1 items) ≡ length items - 1
length-rest items = length-drop 1 items

most_lines-rest : (columns : List (List (List ℕ))) → most_lines (rest_of_columns columns) ≡ most_lines columns - 1
most_lines-rest [] = refl
most_lines-rest (column ∷ columns) =
    ap (λ (count : ℕ). max count (most_lines (rest_of_columns columns))) (length-rest column)
    ∙ ap (λ (count : ℕ). max (length column - 1) count) (most_lines-rest columns)
    ∙ max-pred (length column) (most_lines columns)

rows-some : (delimiters : List (Option ℕ)) (columns : List (List (List ℕ)))
    → rows delimiters columns ≡ (if is_some (most_lines columns) then row delimiters (lines_at 0 columns) ++ rows delimiters (rest_of_columns columns) else [])
rows-some delimiters columns = by_most (most_lines columns) refl
  where
    less : (count most : ℕ) → most ≡ suc count → count ≡ most - 1
    less count most is = omega arith

    by_most : (most : ℕ) → most_lines columns ≡ most
        → rows_from delimiters 0 most columns ≡ (if is_some most then row delimiters (lines_at 0 columns) ++ rows delimiters (rest_of_columns columns) else [])
    by_most zero is = refl
    by_most (suc count) is =
        let left : count ≡ most_lines (rest_of_columns columns) = less count (most_lines columns) is ∙ sym (most_lines-rest columns) in
        ap (λ (others : List ℕ). row delimiters (lines_at 0 columns) ++ others)
        (rows_from-rest delimiters 0 count columns ∙ ap (λ (count : ℕ). rows_from delimiters 0 count (rest_of_columns columns)) left)

-- a row begins without a delimiter
row-first : (delimiters : List (Option ℕ)) (lines : List (List ℕ)) → row_behind delimiters (None ∷ delimiters) lines ≡ row delimiters lines
row-first delimiters [] = refl
row-first [] (line ∷ others) = refl
row-first (delimiter ∷ delimiters) (line ∷ others) = refl

-- all that is due is a row, and what is due behind it
pub side_by_side-row : (again : List (Option ℕ)) (all : List ℕ) (texts : ℕ → List ℕ) → side_by_side again all texts ≡ due_from again all false false [] (None ∷ again) all texts
side_by_side-row again all texts =
    let columns = lines_of_columns all [] all texts in
    let now = all_passed all texts in
    let started : HasLost [] texts texts = λ input. refl in
    let cells_are : lines_at 0 columns ≡ cells all texts = sym (cells-first all texts all [] texts started) in
    let behind : rest_of_columns columns ≡ lines_of_columns all [] all now =
    sym (lines-behind all texts now (λ input. passed_all-lost all texts all [] texts started input ∙ same_drop (0 + sharing input all) (sharing input all) (lines (texts input)) (omega arith)) all [] (λ input. le_refl (sharing input all))) in
    let test : is_some (most_lines columns) ≡ has_line all texts = sym (has_line-some all texts all [] texts started) in
    let first : row again (lines_at 0 columns) ≡ row_behind again (None ∷ again) (cells all texts) =
    ap (λ (lines : List (List ℕ)). row again lines) cells_are ∙ sym (row-first again (cells all texts)) in
    rows-some again columns
    ∙ ap (λ (test : Bool). if test then row again (lines_at 0 columns) ++ rows again (rest_of_columns columns) else []) test
    ∙ ap (λ (first : List ℕ). if has_line all texts then first ++ rows again (rest_of_columns columns) else []) first
    ∙ ap (λ (others : List (List (List ℕ))). if has_line all texts then row_behind again (None ∷ again) (cells all texts) ++ rows again others else []) behind
    ∙ sym (due_from-row again all all false [] (None ∷ again) texts)

-- WHAT WAITS IS CUT
pub CutsWaiting-line : (text line rest : List ℕ) → CutsLine text line rest → CutsWaiting text line (length line + 1) true
CutsWaiting-line text line rest cut =
    let goes_on : (more : List ℕ) → text ++ more ≡ line ++ 10 ∷ (rest ++ more) = λ more.
    ap (λ text. text ++ more) cut.whole ∙ append_assoc line (10 ∷ rest) more in
    let left : drop (length line + 1) text ≡ rest =
    ap (λ text. drop (length line + 1) text) cut.whole ∙ drop-append-add line (10 ∷ rest) 1 in
    record {
      first = λ more. ap line_of (goes_on more) ∙ line_of-cut line (rest ++ more) cut.plain ∙ sym (append-nil line);
      rest = λ more. ap rest_of (goes_on more) ∙ rest_of-cut line (rest ++ more) cut.plain ∙ ap (λ rest. rest ++ more) (sym left);
    }

pub CutsWaiting-plain : (text : List ℕ) → has_newline text ≡ false → CutsWaiting text text (length text) false
CutsWaiting-plain text plain = record { first = λ more. line_of-plain text more plain; rest = λ more. rest_of-plain text more plain }

pub ruleset cuts = (CutsWaiting-line, CutsWaiting-plain)
