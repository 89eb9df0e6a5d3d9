-- The keys of a line, and how two are compared (XCU sort, -k and the ordering options).
use Rattle.std.specs.Prelude.{ℕ, ◌-◌, ◌==◌, ◌||◌, List, [], ◌∷◌, map, drop, Bool, false, Option, Some, None, if◌then◌else◌}
use Rattle.std.specs.declared.cmp.Ordering.{Ordering as Compared}
use Rattle.std.specs.Ordering.{nat_cmp, ordering_then}
use Rattle.std.specs.declared.cmp.Ordering.TheVariants.{Equal}
use Rattle.std.specs.Cmp.Lexicographic.{slice_cmp}
use Rattle.std.specs.Char.{to_ascii_uppercase}
use Rattle.ut_args.specs.declared.Key.{Key}
use Rattle.ut_args.specs.declared.KeyEnd.{KeyEnd}
use Rattle.ut_args.specs.declared.Ordering.{Ordering}
use Rattle.ut_fields.specs.Fields.{behind_blanks, behind_fields, field_end, up_to}
use Rattle.ut_sort.specs.Numbers.{numbers_cmp}

-- the letters of a key: those at both its ends
abbrev pub letters_with : Ordering → Option KeyEnd → Ordering
letters_with start None = start
letters_with start (Some end) =
    record {
      blanks = start.blanks || end.letters.blanks;
      fold = start.fold || end.letters.fold;
      numeric = start.numeric || end.letters.numeric;
      reverse = start.reverse || end.letters.reverse;
    }

abbrev pub letters_of : Key → Ordering
letters_of key = letters_with key.start.letters key.end

abbrev pub has_letters : Ordering → Bool
has_letters letters = letters.blanks || (letters.fold || (letters.numeric || letters.reverse))

-- a key without letters has the global ones, at both its ends; letters on a key override all of them
abbrev pub end_with : Ordering → KeyEnd → KeyEnd
end_with letters place = record { field = place.field; byte = place.byte; letters = letters }

abbrev pub end_with_if : Ordering → Option KeyEnd → Option KeyEnd
end_with_if letters None = None
end_with_if letters (Some place) = Some (end_with letters place)

abbrev pub with_global : Ordering → Key → Key
with_global global key =
    if has_letters (letters_of key) then key else record { start = end_with global key.start; end = end_with_if global key.end }

-- without -k the line is the key, with the blanks that it begins with
abbrev pub whole_line : Ordering → Key
whole_line global =
    record {
      start = record { field = 1; byte = 1; letters = record { blanks = false; fold = global.fold; numeric = global.numeric; reverse = global.reverse } };
      end = None;
    }

abbrev pub keys_in_force : Ordering → List Key → List Key
keys_in_force global [] = whole_line global ∷ []
keys_in_force global (key ∷ others) = map (with_global global) (key ∷ others)

-- the place that one end of a key counts its bytes from: its field, and behind the blanks there where it has b
abbrev pub counted_in : KeyEnd → List ℕ → List ℕ
counted_in place field = if place.letters.blanks then behind_blanks field else field

-- where a key begins, and where it ends: at its field's end where it counts no byte there
abbrev pub start_in : Option ℕ → KeyEnd → List ℕ → List ℕ
start_in separator start line = drop (start.byte - 1) (counted_in start (behind_fields separator (start.field - 1) line))

abbrev pub end_in_field : Option ℕ → KeyEnd → List ℕ → List ℕ
end_in_field separator end field = if end.byte == 0 then field_end separator field else drop end.byte (counted_in end field)

abbrev pub end_in : Option ℕ → Option KeyEnd → List ℕ → List ℕ
end_in separator None line = []
end_in separator (Some end) line = end_in_field separator end (behind_fields separator (end.field - 1) line)

-- the bytes of a key in a line; none where its first field isn't there
abbrev pub key_in : Option ℕ → Key → List ℕ → List ℕ
key_in separator key line = up_to (start_in separator key.start line) (end_in separator key.end line)

-- by bytes; with f lower case letters are as upper case, and n is by numbers
abbrev pub bytes_cmp : List ℕ → List ℕ → Compared
bytes_cmp one other = slice_cmp nat_cmp one other

abbrev pub folded : List ℕ → List ℕ
folded text = map to_ascii_uppercase text

abbrev pub texts_cmp : Ordering → List ℕ → List ℕ → Compared
texts_cmp letters one other =
    if letters.numeric then numbers_cmp one other else
    if letters.fold then bytes_cmp (folded one) (folded other) else
    bytes_cmp one other

-- and r is the other way round
abbrev pub directed : Bool → (List ℕ → List ℕ → Compared) → List ℕ → List ℕ → Compared
directed reverse cmp one other = if reverse then cmp other one else cmp one other

abbrev pub key_cmp : Option ℕ → Key → List ℕ → List ℕ → Compared
key_cmp separator key one other =
    directed (letters_of key).reverse (texts_cmp (letters_of key)) (key_in separator key one) (key_in separator key other)

-- the first key that tells lines apart
abbrev pub keys_cmp : Option ℕ → List Key → List ℕ → List ℕ → Compared
keys_cmp separator [] one other = Equal
keys_cmp separator (key ∷ others) one other = ordering_then (key_cmp separator key one other) (keys_cmp separator others one other)
