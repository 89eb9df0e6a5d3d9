-- A word that is read with another first number has as many command substitutions and the same fault; and so has the value of an assignment,
-- as the word that it ends.
use Rattle.std.proofs.Common.{◌≡◌, ℕ, zero, suc, Bool, true, false, not, ◌&&◌, ◌==◌, Option, None, Some, ◌+◌, List, [], ◌∷◌, if◌then◌else◌, drop, refl, sym, ◌∙◌, ap, subst, arith}
use Rattle.std.specs.Option.{option_or}
use Rattle.std.specs.Str.{bytes_eq}
use Rattle.std.specs.Prelude.{codes}
use Rattle.std.proofs.lemmas.Bool.{eqb-true}
use Rattle.ps_lines.specs.Bytes.{is_name_start, is_name_byte}
use Rattle.sh_tree.specs.Trees.{PartTree, no_part, plain, parameter, substitution}
use Rattle.sh_tree.specs.declared.words.Param.{Param}
use Rattle.sh_lex.specs.Texts.{unspliced, behind_run}
use Rattle.sh_lex.specs.declared.heads.Operator.{Operator}
use Rattle.sh_lex.specs.declared.bytes.TheConstants.{DOUBLE_QUOTE, DOLLAR, BACKSLASH, QUOTE, EQUALS}
use Rattle.sh_lex.proofs.Fronts.{behind_run-byte, behind_run-other}
use Rattle.sh_words.specs.Parameters.{bare_form}
use Rattle.sh_words.specs.Steps.{Step, ends, passes, gives, expands, unquoted_at, word_at, step}
use Rattle.sh_words.specs.Words.{Outcome, done, Made, made, onto, found_onto, with_form, calculated, behind_byte, assigned_value, ReadsPieces, has_ended, passes_on, gives_piece, expands_to, ReadsExpansion, is_parameter, is_substitution, has_word, has_arithmetic, has_no_form, word_too_deep, arithmetic_too_deep}
use Rattle.sh_words.specs.declared.steps.Owner.TheVariants as owner
use Rattle.sh_words.specs.declared.steps.Mode.{Mode}
use Rattle.sh_words.specs.declared.steps.Mode.TheVariants as mode
use Rattle.sh_parse.specs.Kinds.{spelled, reserved_by, is_name_text, goes_to_value, is_assign, other_kind, kind_by, kind_of}
use Rattle.sh_parse.specs.declared.items.WordKind.{WordKind}
use Rattle.sh_parse.specs.declared.items.WordKind.TheVariants as word
use Rattle.sh_parse.specs.declared.items.Reserved.{Reserved}
use Rattle.sh_parse.proofs.Spellings.{spelled-none, spelled-front}
use Rattle.sh_parse.proofs.Takings.{fault_of, fault_in}

abbrev pub next_of : Outcome → ℕ
next_of (done word fault next rest) = next

abbrev rest_of : Outcome → List ℕ
rest_of (done word fault next rest) = rest

abbrev found_in : Made → Option PartTree
found_in (made found fault next rest) = found

abbrev next_in : Made → ℕ
next_in (made found fault next rest) = next

abbrev rest_in : Made → List ℕ
rest_in (made found fault next rest) = rest

-- ANOTHER FIRST NUMBER
pub record Shifted (most : ℕ) (at : Mode) (number first : ℕ) (text : List ℕ) (end : Outcome) : Type 0 where
  pub other : Outcome
  pub reads : ReadsPieces most at first text other
  pub fault : fault_of other ≡ fault_of end
  pub next : next_of other + number ≡ next_of end + first
  pub rest : rest_of other ≡ rest_of end

record ShiftedPart (most : ℕ) (is_quoted : Bool) (left number first : ℕ) (text : List ℕ) (end : Made) : Type 0 where
  other : Made
  reads : ReadsExpansion most is_quoted left first text other
  fault : fault_in other ≡ fault_in end
  next : next_in other + number ≡ next_in end + first
  rest : rest_in other ≡ rest_in end

onto-fault : (piece : PartTree) (end : Outcome) → fault_of (onto piece end) ≡ fault_of end
onto-fault piece (done word fault next rest) = refl

onto-next : (piece : PartTree) (end : Outcome) → next_of (onto piece end) ≡ next_of end
onto-next piece (done word fault next rest) = refl

onto-rest : (piece : PartTree) (end : Outcome) → rest_of (onto piece end) ≡ rest_of end
onto-rest piece (done word fault next rest) = refl

found-fault : (found : Option PartTree) (earlier : Option ℕ) (end : Outcome) → fault_of (found_onto found earlier end) ≡ option_or earlier (fault_of end)
found-fault found earlier (done word fault next rest) = refl

found-next : (found : Option PartTree) (earlier : Option ℕ) (end : Outcome) → next_of (found_onto found earlier end) ≡ next_of end
found-next found earlier (done word fault next rest) = refl

found-rest : (found : Option PartTree) (earlier : Option ℕ) (end : Outcome) → rest_of (found_onto found earlier end) ≡ rest_of end
found-rest found earlier (done word fault next rest) = refl

form-fault : (what : Param) (by : Operator) (is_quoted : Bool) (end : Outcome) → fault_in (with_form what by is_quoted end) ≡ fault_of end
form-fault what by is_quoted (done word fault next rest) = refl

form-next : (what : Param) (by : Operator) (is_quoted : Bool) (end : Outcome) → next_in (with_form what by is_quoted end) ≡ next_of end
form-next what by is_quoted (done word fault next rest) = refl

form-rest : (what : Param) (by : Operator) (is_quoted : Bool) (end : Outcome) → rest_in (with_form what by is_quoted end) ≡ rest_of end
form-rest what by is_quoted (done word fault next rest) = refl

text-fault : (is_quoted : Bool) (end : Outcome) → fault_in (calculated is_quoted end) ≡ fault_of end
text-fault is_quoted (done word fault next rest) = refl

text-next : (is_quoted : Bool) (end : Outcome) → next_in (calculated is_quoted end) ≡ next_of end
text-next is_quoted (done word fault next rest) = refl

text-rest : (is_quoted : Bool) (end : Outcome) → rest_in (calculated is_quoted end) ≡ rest_of end
text-rest is_quoted (done word fault next rest) = refl

-- the numbers of the whole from those of a part, which are the same
moved : (a b c d number first : ℕ) → c ≡ a → d ≡ b → a + number ≡ b + first → c + number ≡ d + first
moved a b c d number first one two e = omega (arith, one, two, e)

swapped : (number first : ℕ) → first + number ≡ number + first
swapped number first = omega arith

one_each : (number first : ℕ) → (first + 1) + number ≡ (number + 1) + first
one_each number first = omega arith

chained : (last other middle again number first : ℕ) → last + middle ≡ other + again → again + number ≡ middle + first → last + number ≡ other + first
chained last other middle again number first e h = omega (arith, e, h)

as_made : (found : Made) (fault : Option ℕ) (after : List ℕ) → fault_in found ≡ fault → rest_in found ≡ after
    → found ≡ made (found_in found) fault (next_in found) after
as_made (made found fault next rest) other after e h = ap (λ it. made found it next rest) e ∙ ap (made found other next) h

mutual
  pub shift-pieces : {most number : ℕ} {at : Mode} {text : List ℕ} {end : Outcome} → ReadsPieces most at number text end → (first : ℕ)
      → Shifted most at number first text end
  shift-pieces {number = number} (has_ended {rest = rest} e) first =
      record { other = done no_part None first rest; reads = has_ended e; fault = refl; next = swapped number first; rest = refl }
  shift-pieces (passes_on e more) first =
      let so = shift-pieces more first in record { other = so.other; reads = passes_on e so.reads; fault = so.fault; next = so.next; rest = so.rest }
  shift-pieces {number = number} (gives_piece {piece = piece} {end = end} e more) first =
      let so = shift-pieces more first in
      record {
        other = onto piece so.other;
        reads = gives_piece e so.reads;
        fault = onto-fault piece so.other ∙ so.fault ∙ sym (onto-fault piece end);
        next = moved (next_of so.other) (next_of end) (next_of (onto piece so.other)) (next_of (onto piece end)) number first (onto-next piece so.other) (onto-next piece end) so.next;
        rest = onto-rest piece so.other ∙ so.rest ∙ sym (onto-rest piece end);
      }
  shift-pieces {most = most} {number = number} (expands_to {left = left} {next = next} {is_quoted = is_quoted} {rest = rest} {after = after} {found = found} {fault = fault} {end = end} e inside more) first =
      let part = shift-expansion inside first in
      let so = shift-pieces more (next_in part.other) in
      let other = found_in part.other in
      record {
        other = found_onto other fault so.other;
        reads = expands_to e (subst (ReadsExpansion most is_quoted left first rest) (as_made part.other fault after part.fault part.rest) part.reads) so.reads;
        fault = found-fault other fault so.other ∙ ap (option_or fault) so.fault ∙ sym (found-fault found fault end);
        next = moved (next_of so.other) (next_of end) (next_of (found_onto other fault so.other)) (next_of (found_onto found fault end)) number first
            (found-next other fault so.other) (found-next found fault end)
            (chained (next_of so.other) (next_of end) next (next_in part.other) number first so.next part.next);
        rest = found-rest other fault so.other ∙ so.rest ∙ sym (found-rest found fault end);
      }

  shift-expansion : {most left number : ℕ} {is_quoted : Bool} {text : List ℕ} {end : Made} → ReadsExpansion most is_quoted left number text end → (first : ℕ)
      → ShiftedPart most is_quoted left number first text end
  shift-expansion {number = number} {is_quoted = is_quoted} (is_parameter {measured = measured} {what = what} {rest = rest} e) first =
      record {
        other = made (Some (parameter what (bare_form measured) is_quoted)) None first rest;
        reads = is_parameter e;
        fault = refl;
        next = swapped number first;
        rest = refl;
      }
  shift-expansion {number = number} {is_quoted = is_quoted} (is_substitution {rest = rest} e passed) first =
      record {
        other = made (Some (substitution first is_quoted)) None (first + 1) rest;
        reads = is_substitution e passed;
        fault = refl;
        next = one_each number first;
        rest = refl;
      }
  shift-expansion {number = number} {is_quoted = is_quoted} (has_word {what = what} {by = by} {end = end} e more) first =
      let so = shift-pieces more first in
      record {
        other = with_form what by is_quoted so.other;
        reads = has_word e so.reads;
        fault = form-fault what by is_quoted so.other ∙ so.fault ∙ sym (form-fault what by is_quoted end);
        next = moved (next_of so.other) (next_of end) (next_in (with_form what by is_quoted so.other)) (next_in (with_form what by is_quoted end)) number first
            (form-next what by is_quoted so.other) (form-next what by is_quoted end) so.next;
        rest = form-rest what by is_quoted so.other ∙ so.rest ∙ sym (form-rest what by is_quoted end);
      }
  shift-expansion {number = number} {is_quoted = is_quoted} (has_arithmetic {end = end} e more) first =
      let so = shift-pieces more first in
      record {
        other = calculated is_quoted so.other;
        reads = has_arithmetic e so.reads;
        fault = text-fault is_quoted so.other ∙ so.fault ∙ sym (text-fault is_quoted end);
        next = moved (next_of so.other) (next_of end) (next_in (calculated is_quoted so.other)) (next_in (calculated is_quoted end)) number first
            (text-next is_quoted so.other) (text-next is_quoted end) so.next;
        rest = text-rest is_quoted so.other ∙ so.rest ∙ sym (text-rest is_quoted end);
      }
  shift-expansion {left = left} {number = number} (has_no_form {rest = rest} e passed) first =
      record { other = made None (Some left) first rest; reads = has_no_form e passed; fault = refl; next = swapped number first; rest = refl }
  shift-expansion {left = left} {number = number} (word_too_deep e) first =
      record { other = made None (Some left) first []; reads = word_too_deep e; fault = refl; next = swapped number first; rest = refl }
  shift-expansion {left = left} {number = number} (arithmetic_too_deep e) first =
      record { other = made None (Some left) first []; reads = arithmetic_too_deep e; fault = refl; next = swapped number first; rest = refl }

-- AN ASSIGNMENT: what is read of a word behind a piece of it
record Behind (most : ℕ) (number : ℕ) (text : List ℕ) (end : Outcome) : Type 0 where
  last : Outcome
  reads : ReadsPieces most (mode.Word owner.Token) number text last
  fault : fault_of last ≡ fault_of end
  next : next_of last ≡ next_of end

behind_piece : {most number : ℕ} {at : Mode} {text : List ℕ} {end : Outcome} (piece : PartTree) (rest : List ℕ) → ReadsPieces most at number text end
    → at ≡ mode.Word owner.Token → step at text ≡ gives piece (mode.Word owner.Token) rest → Behind most number rest end
behind_piece piece rest (has_ended e) same is = absurd cc
behind_piece piece rest (passes_on e more) same is = absurd cc
behind_piece {most = most} {number = number} piece rest (gives_piece {next = next} {rest = left} {piece = found} {end = end} e more) same is =
    let mode_same : next ≡ mode.Word owner.Token = cc in
    let rest_same : left ≡ rest = cc in
    record {
      last = end;
      reads = subst (λ it. ReadsPieces most (mode.Word owner.Token) number it end) rest_same (subst (λ m. ReadsPieces most m number left end) mode_same more);
      fault = sym (onto-fault found end);
      next = sym (onto-next found end);
    }
behind_piece piece rest (expands_to e inside more) same is = absurd cc

-- a byte of a name is no byte with a meaning
not_a : (byte other : ℕ) → is_name_byte byte ≡ true → is_name_byte other ≡ false → (byte == other) ≡ false
not_a byte other name never = by_test (byte == other) refl
  where
    by_test : (test : Bool) → (byte == other) ≡ test → (byte == other) ≡ false
    by_test true e = absurd (let same = ap is_name_byte (eqb-true byte other e) in cc)
    by_test false e = e

name_step : (byte : ℕ) (rest : List ℕ) → is_name_byte byte ≡ true → unquoted_at owner.Token byte rest ≡ gives (plain (byte ∷ [])) (mode.Word owner.Token) rest
name_step byte rest name =
    let a = not_a byte DOLLAR name refl in let b = not_a byte DOUBLE_QUOTE name refl in let c = not_a byte QUOTE name refl in
    let d = not_a byte BACKSLASH name refl in simp (a, b, c, d) refl

equals_step : (byte : ℕ) (rest : List ℕ) → (byte == EQUALS) ≡ true → unquoted_at owner.Token byte rest ≡ gives (plain (byte ∷ [])) (mode.Word owner.Token) rest
equals_step byte rest is =
    subst (λ it. unquoted_at owner.Token it rest ≡ gives (plain (it ∷ [])) (mode.Word owner.Token) rest) (sym (eqb-true byte EQUALS is)) refl

step_is : (byte : ℕ) (rest text : List ℕ) → unspliced text ≡ byte ∷ rest → step (mode.Word owner.Token) text ≡ unquoted_at owner.Token byte rest
step_is byte rest text is = ap (word_at owner.Token) is

-- what is spelled begins with a byte
front_of : (byte : ℕ) (bytes text front : List ℕ) → unspliced text ≡ front → spelled text ≡ byte ∷ bytes
    → (rest : List ℕ) × ((unspliced text ≡ byte ∷ rest) × (spelled rest ≡ bytes))
front_of byte bytes text [] is e = absurd (let none = spelled-none text is in cc)
front_of byte bytes text (first ∷ rest) is e =
    let front = spelled-front first rest text is in
    let same : first ≡ byte = cc in
    let behind : spelled rest ≡ bytes = cc in
    (rest, (is ∙ ap (λ it. it ∷ rest) same, behind))

module _ (most number byte : ℕ) (bytes text : List ℕ) (end : Outcome) (reads : ReadsPieces most (mode.Word owner.Token) number text end)
    (more : (rest : List ℕ) (last : Outcome) → spelled rest ≡ bytes → goes_to_value bytes ≡ true → ReadsPieces most (mode.Word owner.Token) number rest last
    → Behind most number (behind_byte (behind_run is_name_byte rest)) last)
    (rest : List ℕ) (front : unspliced text ≡ byte ∷ rest) (behind : spelled rest ≡ bytes) where
  by_name : (test : Bool) → is_name_byte byte ≡ test → (test && goes_to_value bytes) ≡ true → Behind most number (behind_byte (behind_run is_name_byte text)) end
  by_name true name goes =
      let one = behind_piece (plain (byte ∷ [])) rest reads refl (step_is byte rest text front ∙ name_step byte rest name) in
      let last = more rest one.last behind goes one.reads in
      record {
        last = last.last;
        reads = subst (λ it. ReadsPieces most (mode.Word owner.Token) number (behind_byte it) last.last)
            (sym (behind_run-byte is_name_byte byte rest text front name)) last.reads;
        fault = last.fault ∙ one.fault;
        next = last.next ∙ one.next;
      }
  by_name false name goes = absurd cc

  by_equals : (test : Bool) → (byte == EQUALS) ≡ test → (if test then true else (is_name_byte byte && goes_to_value bytes)) ≡ true
      → Behind most number (behind_byte (behind_run is_name_byte text)) end
  by_equals true equals goes =
      let one = behind_piece (plain (byte ∷ [])) rest reads refl (step_is byte rest text front ∙ equals_step byte rest equals) in
      let other : is_name_byte byte ≡ false = ap is_name_byte (eqb-true byte EQUALS equals) in
      let place : behind_byte (behind_run is_name_byte text) ≡ rest
      = ap behind_byte (behind_run-other is_name_byte byte rest text front other) ∙ ap (drop 1) front in
      record {
        last = one.last;
        reads = subst (λ it. ReadsPieces most (mode.Word owner.Token) number it one.last) (sym place) one.reads;
        fault = one.fault;
        next = one.next;
      }
  by_equals false equals goes = by_name (is_name_byte byte) refl goes

value_behind : {most number : ℕ} (bytes text : List ℕ) (end : Outcome) → spelled text ≡ bytes → goes_to_value bytes ≡ true
    → ReadsPieces most (mode.Word owner.Token) number text end → Behind most number (behind_byte (behind_run is_name_byte text)) end
value_behind [] text end is goes reads = absurd cc
value_behind {most = most} {number = number} (byte ∷ bytes) text end is goes reads =
    let (rest, (front, behind)) = front_of byte bytes text (unspliced text) refl is in
    by_equals most number byte bytes text end reads (λ left last so again read. value_behind bytes left last so again read) rest front behind (byte == EQUALS) refl goes

-- such a word is an assignment
by_assign : (one two three : Bool) → (if one then word.In else if two then word.Name else if three then word.Assign else word.Other) ≡ word.Assign → three ≡ true
by_assign true two three e = absurd cc
by_assign false true three e = absurd cc
by_assign false false true e = refl
by_assign false false false e = absurd cc

other-assign : (bytes : List ℕ) → other_kind bytes ≡ word.Assign → is_assign bytes ≡ true
unfolding other_kind
other-assign bytes e = by_assign (bytes_eq bytes (codes "in")) (is_name_text bytes) (is_assign bytes) e

kind-assign : (bytes : List ℕ) (found : Option Reserved) → kind_by found bytes ≡ word.Assign → is_assign bytes ≡ true
kind-assign bytes None e = other-assign bytes e
kind-assign bytes (Some name) e = absurd cc

and_left : (one other : Bool) → (one && other) ≡ true → one ≡ true
and_left true other e = refl
and_left false other e = e

and_right : (one other : Bool) → (one && other) ≡ true → other ≡ true
and_right true other e = e
and_right false other e = absurd cc

-- a name begins with a byte of it, which is no `=`
starts_name : (byte : ℕ) → is_name_start byte ≡ true → is_name_byte byte ≡ true
starts_name byte e = simp e

not_equals : (byte : ℕ) (bytes : List ℕ) → is_name_byte byte ≡ true → goes_to_value bytes ≡ true → goes_to_value (byte ∷ bytes) ≡ true
not_equals byte bytes name goes = let never = not_a byte EQUALS name refl in simp (never, name) goes

assign_goes : (bytes : List ℕ) → is_assign bytes ≡ true → goes_to_value bytes ≡ true
assign_goes [] e = absurd cc
assign_goes (byte ∷ rest) e =
    not_equals byte rest (starts_name byte (and_left (is_name_start byte) (goes_to_value rest) e)) (and_right (is_name_start byte) (goes_to_value rest) e)

-- the value of an assignment has as many substitutions as the word
pub record ValueReads (most number : ℕ) (text : List ℕ) (end : Outcome) : Type 0 where
  pub last : Outcome
  pub reads : ReadsPieces most (mode.Word owner.Token) number (assigned_value text) last
  pub next : next_of last ≡ next_of end

pub value-read : {most number : ℕ} {text : List ℕ} {end : Outcome} → kind_of (spelled text) ≡ word.Assign
    → ReadsPieces most (mode.Word owner.Token) number text end → ValueReads most number text end
value-read {text = text} {end = end} is reads =
    let so = value_behind (spelled text) text end refl (assign_goes (spelled text) (kind-assign (spelled text) (reserved_by (spelled text)) is)) reads in
    record { last = so.last; reads = so.reads; next = so.next }
