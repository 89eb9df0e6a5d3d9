-- How many inputs the columns of a paste have, and that no other input counts.
use Rattle.std.proofs.Common.{◌≡◌, ◌==◌, ◌+◌, ◌-◌, ◌^◌, ◌<◌, ◌≤◌, ◌&&◌, ◌||◌, ℕ, suc, List, [], ◌∷◌, drop, nat_lt, Option, Some, None, Bool, true, false, not, refl, ap, sym, ◌∙◌, arith, if◌then◌else◌}
use Rattle.std.specs.List.{count_by, filter, list_any}
use Rattle.std.proofs.lemmas.Bool.{true≢false, eq-eqb, le-ltb, ltb-false, ltb-true, false_from_ne_true}
use Rattle.std.proofs.lemmas.List.Sums.{sum_by-cons}
use Rattle.ps_lines.specs.Lines.{lines}
use Rattle.ut_args.specs.Inputs.{counted, is_file, is_named, is_standard, shared_inputs}
use Rattle.ut_slices.specs.Paste.{column_inputs, dealt, inputs_from, lines_of_columns, rows, sharing, side_by_side}
use Rattle.ut_slices.specs.Inner.Rows.{has_port}
use Rattle.ut_slices.proofs.ColumnLemmas.{lt-next, shared-same}

-- HOW MANY INPUTS. Those that operands add, where one of them is standard input already, or none is
abbrev added_by : Bool → Bool → ℕ → ℕ → ℕ
added_by standard shared with_shared same = if standard then (if shared then with_shared else suc with_shared) else suc same

abbrev added : Bool → List (List ℕ) → ℕ
added shared [] = 0
added shared (operand ∷ operands) = added_by (is_standard operand) shared (added true operands) (added shared operands)

either-first : (less here there : Bool) → (if less then true else (if here then true else there)) ≡ (if (if less then true else (if here then true else false)) then true else there)
either-first true here there = refl
either-first false true there = refl
either-first false false there = refl

-- an input that is new, and those behind it
new-first : (port next count count' : ℕ) (there : Bool) → (if nat_lt port (suc next) then true else there) ≡ nat_lt port (suc next + count) → count' ≡ suc count
    → (if nat_lt port next then true else (if next == port then true else there)) ≡ nat_lt port (next + count')
new-first port next count count' there behind is =
    either-first (nat_lt port next) (next == port) there ∙ ap (λ first. if first then true else there) (lt-next port next) ∙ behind ∙ ap (nat_lt port) (shifted is)
  where
    shifted : count' ≡ suc count → suc next + count ≡ next + count'
    shifted is = omega (arith, is)

abbrev is_shared : Option ℕ → Bool
is_shared None = false
is_shared (Some input) = true

-- the columns of operands have the inputs from the next one on, up to as many as these add
used-from : (port next : ℕ) (standard : Option ℕ) (operands : List (List ℕ)) → ((input : ℕ) → standard ≡ Some input → input < next)
    → (if nat_lt port next then true else has_port port (inputs_from next standard operands)) ≡ nat_lt port (next + added (is_shared standard) operands)
used-from port next standard [] below = by_less (nat_lt port next) ∙ ap (nat_lt port) same
  where
    by_less : (less : Bool) → (if less then true else false) ≡ less
    by_less true = refl
    by_less false = refl

    same : next ≡ next + 0
    same = omega arith
used-from port next None (operand ∷ operands) below =
    by_test (is_standard operand) (used-from port (suc next) (Some next) operands (λ input is. let same : input ≡ next = cc in omega (arith, same)))
    (used-from port (suc next) None operands (λ input is. cc))
  where
    by_test : (standard : Bool) → (if nat_lt port (suc next) then true else has_port port (inputs_from (suc next) (Some next) operands)) ≡ nat_lt port (suc next + added true operands)
        → (if nat_lt port (suc next) then true else has_port port (inputs_from (suc next) None operands)) ≡ nat_lt port (suc next + added false operands)
        → (if nat_lt port next then true else has_port port (next ∷ (if standard then inputs_from (suc next) (Some next) operands else inputs_from (suc next) None operands)))
        ≡ nat_lt port (next + added_by standard false (added true operands) (added false operands))
    by_test true shared alone = new-first port next (added true operands) (suc (added true operands)) (has_port port (inputs_from (suc next) (Some next) operands)) shared refl
    by_test false shared alone = new-first port next (added false operands) (suc (added false operands)) (has_port port (inputs_from (suc next) None operands)) alone refl
used-from port next (Some input) (operand ∷ operands) below =
    by_test (is_standard operand) (used-from port next (Some input) operands below)
    (used-from port (suc next) (Some input) operands (λ other is. let least = below other is in omega (arith, least)))
  where
    by_test : (standard : Bool) → (if nat_lt port next then true else has_port port (inputs_from next (Some input) operands)) ≡ nat_lt port (next + added true operands)
        → (if nat_lt port (suc next) then true else has_port port (inputs_from (suc next) (Some input) operands)) ≡ nat_lt port (suc next + added true operands)
        → (if nat_lt port next then true else has_port port (if standard then input ∷ inputs_from next (Some input) operands else next ∷ inputs_from (suc next) (Some input) operands))
        ≡ nat_lt port (next + added_by standard true (added true operands) (added true operands))
    by_test true shared alone =
        either-first (nat_lt port next) (input == port) (has_port port (inputs_from next (Some input) operands))
        ∙ ap (λ first. if first then true else has_port port (inputs_from next (Some input) operands)) (shared-same port next input (below input refl)) ∙ shared
    by_test false shared alone = new-first port next (added true operands) (suc (added true operands)) (has_port port (inputs_from (suc next) (Some input) operands)) alone refl

-- a dash names an input
named-standard : (operand : List ℕ) → is_standard operand ≡ true → is_named operand ≡ true
named-standard [] is = absurd (true≢false (sym is))
named-standard (byte ∷ bytes) is = refl

none-more : (whole files rest : ℕ) → whole ≡ files + rest → whole ≡ (0 + files) + rest
none-more whole files rest is = omega (arith, is)

one-more : (whole files rest : ℕ) → whole ≡ files + rest → suc whole ≡ (1 + files) + rest
one-more whole files rest is = omega (arith, is)

standard-more : (whole files : ℕ) → whole ≡ files + 0 → suc whole ≡ (0 + files) + 1
standard-more whole files is = omega (arith, is)

-- operands that name inputs add one for each file, and one for standard input
added-named : (shared : Bool) (operands : List (List ℕ))
    → added shared (filter is_named operands) ≡ count_by is_file operands + (if shared then 0 else (if list_any is_standard operands then 1 else 0))
added-named true [] = refl
added-named false [] = refl
added-named shared (operand ∷ operands) =
    by_name (is_named operand)
    ∙ by_tests (is_named operand) (is_standard operand) shared (list_any is_standard operands) (count_by is_file operands) (added shared (filter is_named operands))
    (added true (filter is_named operands)) (named-standard operand) (added-named shared operands) (added-named true operands)
    ∙ ap (λ files. files + (if shared then 0 else (if is_standard operand || list_any is_standard operands then 1 else 0))) (sym (sum_by-cons (λ it. if is_file it then 1 else 0) operand operands))
  where
    by_name : (named : Bool) → added shared (if named then operand ∷ filter is_named operands else filter is_named operands)
        ≡ (if named then added_by (is_standard operand) shared (added true (filter is_named operands)) (added shared (filter is_named operands)) else added shared (filter is_named operands))
    by_name true = refl
    by_name false = refl

    by_tests : (named standard shared any : Bool) (files same with_shared : ℕ) → (standard ≡ true → named ≡ true)
        → same ≡ files + (if shared then 0 else (if any then 1 else 0)) → with_shared ≡ files + 0
        → (if named then added_by standard shared with_shared same else same) ≡ ((if named && not standard then 1 else 0) + files) + (if shared then 0 else (if standard || any then 1 else 0))
    by_tests false true shared any files same with_shared names one other = absurd (true≢false (sym (names refl)))
    by_tests false false shared any files same with_shared names one other = none-more same files (if shared then 0 else (if any then 1 else 0)) one
    by_tests true false shared any files same with_shared names one other = one-more same files (if shared then 0 else (if any then 1 else 0)) one
    by_tests true true true any files same with_shared names one other = none-more with_shared files 0 other
    by_tests true true false any files same with_shared names one other = standard-more with_shared files other

-- where each number up to one is below it as it is below another, they are the same
same-below : (one other : ℕ) → ((number : ℕ) → nat_lt number one ≡ nat_lt number other) → one ≡ other
same-below one other same =
    let least = not-below other one (same other ∙ never other) in
    let most = not-below one other (sym (same one) ∙ never one) in
    omega (arith, least, most)
  where
    never : (number : ℕ) → nat_lt number number ≡ false
    never number = false_from_ne_true (nat_lt number number) (λ less. omega (arith, ltb-less number less))
      where
        ltb-less : (number : ℕ) → nat_lt number number ≡ true → number < number
        ltb-less number less = ltb-true number number less

    not-below : (number limit : ℕ) → nat_lt number limit ≡ false → limit ≤ number
    not-below number limit is = ltb-false number limit is

-- the columns have as many inputs as the invocation
abbrev column-inputs : (operands : List (List ℕ)) → ℕ
column-inputs [] = 1
column-inputs (operand ∷ operands) = count_by is_file (operand ∷ operands) + (if list_any is_standard (operand ∷ operands) then 1 else 0)

none-below : (port : ℕ) (there : Bool) → there ≡ (if nat_lt port 0 then true else there)
none-below port there = ap (λ less. if less then true else there) (sym (le-ltb port 0 (omega arith)))

uses-inputs : (port : ℕ) (operands : List (List ℕ)) → has_port port (column_inputs operands) ≡ nat_lt port (column-inputs operands)
uses-inputs port [] = none-below port (if 0 == port then true else false) ∙ lt-next port 0
uses-inputs port (operand ∷ operands) =
    let names = filter is_named (operand ∷ operands) in
    let whole : 0 + added false names ≡ added false names = omega arith in
    none-below port (has_port port (inputs_from 0 None names)) ∙ used-from port 0 None names (λ input is. cc)
    ∙ ap (nat_lt port) (whole ∙ added-named false (operand ∷ operands))

pub inputs-counted : (operands : List (List ℕ)) (next : ℕ) → next < 2 ^ 32 → ((port : ℕ) → has_port port (column_inputs operands) ≡ nat_lt port next) → next ≡ shared_inputs operands
inputs-counted operands next few used = by_operands operands (same-below next (column-inputs operands) (λ port. sym (used port) ∙ uses-inputs port operands))
  where
    by_operands : (operands : List (List ℕ)) → next ≡ column-inputs operands → next ≡ shared_inputs operands
    by_operands [] is = is
    by_operands (operand ∷ operands) is =
        let whole : counted next ≡ next = omega (arith, few) in
        sym whole ∙ ap counted is

-- NO OTHER INPUT COUNTS
lines-same : (all before columns : List ℕ) (texts texts' : ℕ → List ℕ) → ((input : ℕ) → has_port input columns ≡ true → texts input ≡ texts' input)
    → lines_of_columns all before columns texts ≡ lines_of_columns all before columns texts'
lines-same all before [] texts texts' same = refl
lines-same all before (input ∷ columns) texts texts' same =
    ap (λ text. dealt (sharing input all - 1) 0 (drop (sharing input before) (lines text)) ∷ lines_of_columns all (input ∷ before) columns texts)
    (same input (ap (λ here. if here then true else has_port input columns) (eq-eqb input input refl)))
    ∙ ap (λ rest. dealt (sharing input all - 1) 0 (drop (sharing input before) (lines (texts' input))) ∷ rest)
    (lines-same all (input ∷ before) columns texts texts' (λ other has. same other (behind (input == other) other has)))
  where
    behind : (here : Bool) (other : ℕ) → has_port other columns ≡ true → (if here then true else has_port other columns) ≡ true
    behind true other has = refl
    behind false other has = has

pub side-same : (delimiters : List (Option ℕ)) (columns : List ℕ) (texts texts' : ℕ → List ℕ) → ((input : ℕ) → has_port input columns ≡ true → texts input ≡ texts' input)
    → side_by_side delimiters columns texts ≡ side_by_side delimiters columns texts'
side-same delimiters columns texts texts' same = ap (rows delimiters) (lines-same columns [] columns texts texts' same)
