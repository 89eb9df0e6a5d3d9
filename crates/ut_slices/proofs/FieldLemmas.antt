-- The fields of a line, and the delimiters between them.
use Rattle.std.proofs.Common.{◌≡◌, ◌==◌, ◌||◌, ◌<◌, ◌≤◌, ◌+◌, ◌-◌, ℕ, zero, suc, List, [], ◌∷◌, ◌++◌, length, get_or, take, drop, Bool, true, false, Option, None, Some, refl, ap, sym, ◌∙◌, append_assoc, append-nil, arith, length-append, if◌then◌else◌}
use Rattle.std.specs.List.{join_with_byte, onto_first}
use Rattle.std.specs.Option.{is_some}
use Rattle.std.proofs.lemmas.Bool.{eqb-true, false_from_ne_true}
use Rattle.std.proofs.lemmas.Bool.Decides.{nat_tests}
use Rattle.std.proofs.lemmas.List.{drop_all, drop_more, get_or-take, length-take, take_all, take_rest, take-append-drop}
use Rattle.std.proofs.lemmas.List.Splits.{join_with_byte-slice_split}
use Rattle.std.proofs.Math.Seq.{drop-append_seam, take-append_seam}
use Rattle.memchr.specs.Find.{IsFirstByte, is_byte}
use Rattle.ut_slices.specs.declared.selections.Run.{Run}
use Rattle.ut_slices.specs.Cut.{fields, has_delimiter, selected}
use Rattle.ut_slices.specs.Inner.Begun.{behind_fields, joined_behind}
use Rattle.ut_slices.specs.Inner.Runs.{CutsAtDelimiter, CutsField, in_runs}
use Rattle.ut_slices.proofs.RunLemmas.{selected-run}

eqb-self : (number : ℕ) → (number == number) ≡ true
eqb-self number = grind arith

-- the fields before a delimiter and those behind it
some_fields : (delimiter : ℕ) (text : List ℕ) → (first : List ℕ) × (others : List (List ℕ)) × (fields delimiter text ≡ first ∷ others)
some_fields delimiter [] = ([], [], refl)
some_fields delimiter (byte ∷ rest) = by (byte == delimiter) (some_fields delimiter rest) where
  by : (is : Bool) → (first : List ℕ) × (others : List (List ℕ)) × (fields delimiter rest ≡ first ∷ others)
      → (first : List ℕ) × (others : List (List ℕ)) × ((if is then [] ∷ fields delimiter rest else onto_first byte (fields delimiter rest)) ≡ first ∷ others)
  by true some = ([], fields delimiter rest, refl)
  by false some = (byte ∷ some.0, some.1, ap (onto_first byte) some.2)

pub fields-cut : (delimiter : ℕ) (front rest : List ℕ) → fields delimiter (front ++ delimiter ∷ rest) ≡ fields delimiter front ++ fields delimiter rest
fields-cut delimiter [] rest = ap (λ is. if is then [] ∷ fields delimiter rest else onto_first delimiter (fields delimiter rest)) (eqb-self delimiter)
fields-cut delimiter (byte ∷ front) rest =
    ap (λ others. if byte == delimiter then [] ∷ others else onto_first byte others) (fields-cut delimiter front rest) ∙ by (byte == delimiter) where
      by : (is : Bool)
          → (if is then [] ∷ (fields delimiter front ++ fields delimiter rest) else onto_first byte (fields delimiter front ++ fields delimiter rest))
          ≡ (if is then [] ∷ fields delimiter front else onto_first byte (fields delimiter front)) ++ fields delimiter rest
      by true = refl
      by false =
          let some = some_fields delimiter front in
          ap (λ front. onto_first byte (front ++ fields delimiter rest)) some.2 ∙ ap (λ front. onto_first byte front ++ fields delimiter rest) (sym some.2)

-- a text without a delimiter is one field
plain_fields : (delimiter : ℕ) (text : List ℕ) → ((place : ℕ) → place < length text → (get_or text place 0 == delimiter) ≡ true → ⊥) → fields delimiter text ≡ text ∷ []
plain_fields delimiter [] none = refl
plain_fields delimiter (byte ∷ rest) none =
    let other : (byte == delimiter) ≡ false = false_from_ne_true (byte == delimiter) (none 0 (omega arith)) in
    ap (λ is. if is then [] ∷ fields delimiter rest else onto_first byte (fields delimiter rest)) other
    ∙ ap (onto_first byte) (plain_fields delimiter rest (λ place low. none (suc place) (omega (arith, low))))

any-none : (delimiter : ℕ) (text : List ℕ) → ((place : ℕ) → place < length text → (get_or text place 0 == delimiter) ≡ true → ⊥) → has_delimiter delimiter text ≡ false
any-none delimiter [] none = refl
any-none delimiter (byte ∷ rest) none =
    let other : (byte == delimiter) ≡ false = false_from_ne_true (byte == delimiter) (none 0 (omega arith)) in
    ap (λ is. is || has_delimiter delimiter rest) other ∙ any-none delimiter rest (λ place low. none (suc place) (omega (arith, low)))

or-true : (is : Bool) → (is || true) ≡ true
or-true true = refl
or-true false = refl

any-at : (delimiter : ℕ) (text : List ℕ) (place : ℕ) → place < length text → (get_or text place 0 == delimiter) ≡ true → has_delimiter delimiter text ≡ true
any-at delimiter [] place low is = absurd (omega (arith, low))
any-at delimiter (byte ∷ rest) zero low is = ap (λ is. is || has_delimiter delimiter rest) is
any-at delimiter (byte ∷ rest) (suc place) low is =
    ap (λ found. (byte == delimiter) || found) (any-at delimiter rest place (omega (arith, low)) is) ∙ or-true (byte == delimiter)

-- a search for the delimiter
pub plain-sought : (delimiter : ℕ) (text : List ℕ) → IsFirstByte (is_byte delimiter) text None → length (fields delimiter text) ≡ 1
plain-sought delimiter text none = ap length (plain_fields delimiter text (λ place low. none place (omega arith) low))

pub has-sought : (delimiter : ℕ) (text : List ℕ) (result : Option ℕ) → IsFirstByte (is_byte delimiter) text result → is_some result ≡ has_delimiter delimiter text
has-sought delimiter text None none = sym (any-none delimiter text (λ place low. none place (omega arith) low))
has-sought delimiter text (Some place) found = sym (any-at delimiter text place found.0.high found.1)

pub CutsField-sought : (delimiter : ℕ) (text : List ℕ) (end : ℕ) → IsFirstByte (is_byte delimiter) text (Some end)
    → CutsField delimiter text (take end text) (take (length text - (end + 1)) (drop (end + 1) text))
CutsField-sought delimiter text end found =
    let is : get_or text end 0 ≡ delimiter = eqb-true (get_or text end 0) delimiter found.1 in
    rw take_rest
    (record {
      whole =
          sym (take-append-drop end text) ∙ ap (λ rest. take end text ++ rest) (drop_more text end 0 found.0.high)
          ∙ ap (λ byte. take end text ++ byte ∷ drop (end + 1) text) is;
      plain = ap length (plain_fields delimiter (take end text) (λ place low is. grind (arith, nat_tests, found.0.before place, length-take, get_or-take)));
    })

-- delimiters were passed: so many are left to pass
pub record PassedDelimiters (delimiter count : ℕ) (text rest : List ℕ) (left : ℕ) : Type 0 where
  pub front : List ℕ
  pub whole : text ≡ front ++ delimiter ∷ rest
  pub counted : length (fields delimiter front) + left ≡ count

both : (delimiter : ℕ) (front rest : List ℕ) → length (fields delimiter (front ++ delimiter ∷ rest)) ≡ length (fields delimiter front) + length (fields delimiter rest)
both delimiter front rest = ap length (fields-cut delimiter front rest) ∙ length-append (fields delimiter front) (fields delimiter rest)

pub PassedDelimiters-first : (delimiter count : ℕ) (text field rest : List ℕ) → 0 < count → CutsField delimiter text field rest
    → PassedDelimiters delimiter count text rest (count - 1)
PassedDelimiters-first delimiter count text field rest some cut = record { front = field; whole = cut.whole; counted = omega (arith, some, cut.plain) }

pub PassedDelimiters-next : (delimiter count : ℕ) (text rest : List ℕ) (left : ℕ) (field behind : List ℕ) → PassedDelimiters delimiter count text rest left → 0 < left
    → CutsField delimiter rest field behind → PassedDelimiters delimiter count text behind (left - 1)
PassedDelimiters-next delimiter count text rest left field behind passed some cut =
    record {
      front = passed.front ++ delimiter ∷ field;
      whole =
          passed.whole ∙ ap (λ rest. passed.front ++ delimiter ∷ rest) cut.whole ∙ sym (append_assoc passed.front (delimiter ∷ field) (delimiter ∷ behind));
      counted = omega (arith, both delimiter passed.front field, cut.plain, passed.counted, some);
    }

pub PassedDelimiters-all : (delimiter count : ℕ) (text rest : List ℕ) (left place : ℕ) → left ≤ 0 → place ≡ length text - length rest - 1
    → PassedDelimiters delimiter count text rest left → CutsAtDelimiter delimiter count text (take place text) rest
PassedDelimiters-all delimiter count text rest left place none is passed =
    let sizes : length text ≡ length passed.front + length (delimiter ∷ rest) = ap length passed.whole ∙ length-append passed.front (delimiter ∷ rest) in
    let at : place ≡ length passed.front = omega (arith, is, sizes) in
    let front : take place text ≡ passed.front =
    ap (λ place. take place text) at ∙ ap (take (length passed.front)) passed.whole ∙ take-append_seam passed.front (delimiter ∷ rest) in
    record {
      whole = passed.whole ∙ ap (λ front. front ++ delimiter ∷ rest) (sym front);
      before = ap (λ front. length (fields delimiter front)) front ∙ omega (arith, passed.counted, none);
    }

pub PassedDelimiters-few : (delimiter count : ℕ) (text rest : List ℕ) (left : ℕ) → PassedDelimiters delimiter count text rest left → 0 < left
    → length (fields delimiter rest) ≡ 1 → length (fields delimiter text) ≤ count
PassedDelimiters-few delimiter count text rest left passed some none =
    omega (arith, ap (λ text. length (fields delimiter text)) passed.whole, both delimiter passed.front rest, passed.counted, some, none)

-- a run of fields, and those behind it
pub run-cut : (delimiter : ℕ) (run : Run) (others : List Run) (behind : Bool) (text front rest : List ℕ) → CutsAtDelimiter delimiter run.count text front rest
    → selected (in_runs (run ∷ others) behind) 0 (fields delimiter text)
    ≡ (if run.selected then fields delimiter front else []) ++ selected (in_runs others behind) 0 (fields delimiter rest)
run-cut delimiter run others behind text front rest cut =
    let both : fields delimiter text ≡ fields delimiter front ++ fields delimiter rest = ap (fields delimiter) cut.whole ∙ fields-cut delimiter front rest in
    let count : run.count ≡ length (fields delimiter front) = sym cut.before in
    let taken : take run.count (fields delimiter text) ≡ fields delimiter front =
    ap (take run.count) both ∙ ap (λ count. take count (fields delimiter front ++ fields delimiter rest)) count ∙ take-append_seam (fields delimiter front) (fields delimiter rest) in
    let left : drop run.count (fields delimiter text) ≡ fields delimiter rest =
    ap (drop run.count) both ∙ ap (λ count. drop count (fields delimiter front ++ fields delimiter rest)) count ∙ drop-append_seam (fields delimiter front) (fields delimiter rest) in
    selected-run run others behind (fields delimiter text)
    ∙ ap (λ taken. (if run.selected then taken else []) ++ selected (in_runs others behind) 0 (drop run.count (fields delimiter text))) taken
    ∙ ap (λ left. (if run.selected then fields delimiter front else []) ++ selected (in_runs others behind) 0 left) left

pub run-last : (delimiter : ℕ) (run : Run) (others : List Run) (behind : Bool) (text : List ℕ) → length (fields delimiter text) ≤ run.count
    → selected (in_runs (run ∷ others) behind) 0 (fields delimiter text) ≡ (if run.selected then fields delimiter text else []) ++ []
run-last delimiter run others behind text few =
    selected-run run others behind (fields delimiter text)
    ∙ ap (λ taken. (if run.selected then taken else []) ++ selected (in_runs others behind) 0 (drop run.count (fields delimiter text))) (take_all run.count (fields delimiter text) few)
    ∙ ap (λ left. (if run.selected then fields delimiter text else []) ++ selected (in_runs others behind) 0 left) (drop_all run.count (fields delimiter text) few)

-- fields joined behind others
joined-append : (delimiter : ℕ) (front back : List (List ℕ)) → joined_behind true delimiter (front ++ back) ≡ joined_behind true delimiter front ++ joined_behind true delimiter back
joined-append delimiter [] back = refl
joined-append delimiter (field ∷ front) back =
    ap (λ rest. (delimiter ∷ field) ++ rest) (joined-append delimiter front back)
    ∙ sym (append_assoc (delimiter ∷ field) (joined_behind true delimiter front) (joined_behind true delimiter back))

join-first : (delimiter : ℕ) (field : List ℕ) (others : List (List ℕ)) → join_with_byte delimiter (field ∷ others) ≡ field ++ joined_behind true delimiter others
join-first delimiter field [] = sym (append-nil field)
join-first delimiter field (other ∷ others) = ap (λ rest. field ++ delimiter ∷ rest) (join-first delimiter other others)

pub join-begin : (delimiter : ℕ) (texts : List (List ℕ)) → join_with_byte delimiter texts ≡ joined_behind false delimiter texts
join-begin delimiter [] = refl
join-begin delimiter (field ∷ others) = join-first delimiter field others

behind-append : (begun : Bool) (delimiter : ℕ) (front back : List ℕ) → behind_fields begun delimiter front ++ back ≡ behind_fields begun delimiter (front ++ back)
behind-append true delimiter front back = refl
behind-append false delimiter front back = refl

-- the fields of a text are put where they are selected
joined-fields : (begun : Bool) (delimiter : ℕ) (text : List ℕ) (others : List (List ℕ))
    → joined_behind begun delimiter (fields delimiter text ++ others) ≡ behind_fields begun delimiter text ++ joined_behind true delimiter others
joined-fields begun delimiter text others =
    let some = some_fields delimiter text in
    let whole : some.0 ++ joined_behind true delimiter some.1 ≡ text =
    sym (join-first delimiter some.0 some.1) ∙ ap (join_with_byte delimiter) (sym some.2) ∙ join_with_byte-slice_split delimiter text in
    ap (λ fields. joined_behind begun delimiter (fields ++ others)) some.2
    ∙ ap (λ rest. behind_fields begun delimiter some.0 ++ rest) (joined-append delimiter some.1 others)
    ∙ sym (append_assoc (behind_fields begun delimiter some.0) (joined_behind true delimiter some.1) (joined_behind true delimiter others))
    ∙ ap (λ front. front ++ joined_behind true delimiter others) (behind-append begun delimiter some.0 (joined_behind true delimiter some.1) ∙ ap (behind_fields begun delimiter) whole)

pub joined-run : (is begun : Bool) (delimiter : ℕ) (text : List ℕ) (others : List (List ℕ))
    → joined_behind begun delimiter ((if is then fields delimiter text else []) ++ others)
    ≡ (if is then behind_fields begun delimiter text else []) ++ joined_behind (begun || is) delimiter others
joined-run true true delimiter text others = joined-fields true delimiter text others
joined-run true false delimiter text others = joined-fields false delimiter text others
joined-run false true delimiter text others = refl
joined-run false false delimiter text others = refl

pub joined-last : (is begun : Bool) (delimiter : ℕ) (text : List ℕ)
    → joined_behind begun delimiter ((if is then fields delimiter text else []) ++ []) ≡ (if is then behind_fields begun delimiter text else [])
joined-last is begun delimiter text = joined-run is begun delimiter text [] ∙ append-nil (if is then behind_fields begun delimiter text else [])
