-- The bytes that the strings of tr stand for (XCU tr; own: at most 65,536). Items are added from the left.
use Rattle.std.specs.Prelude.{ℕ, zero, suc, ◌+◌, ◌-◌, List, [], ◌∷◌, ◌++◌, Bool, true, false, not, ◌&&◌, ◌==◌, nat_le, Option, Some, None, option_map, length, replicate, if◌then◌else◌}
use Rattle.std.specs.List.{list_any}
use Rattle.ps_lines.specs.Classes.{class_has}
use Rattle.ut_strings.specs.Marked.{marked_of}
use Rattle.ut_strings.specs.Items.{item_at}
use Rattle.ut_strings.specs.Sides.{Sides}
use Rattle.ut_strings.specs.declared.items.Item.{Item}
use Rattle.ut_strings.specs.declared.items.Item.TheVariants as item
use Rattle.ut_strings.specs.declared.items.Piece.{Piece}
use Rattle.ut_strings.specs.declared.marked.Marked.{Marked}

-- the most bytes of a string
abbrev pub most_bytes : ℕ
most_bytes = 65536

-- the numbers below one that pass the test, ascending
unfoldable pub passing : (ℕ → Bool) → ℕ → List ℕ
passing test zero = []
passing test (suc number) = passing test number ++ (if test number then number ∷ [] else [])

-- the bytes that a range or a class has
abbrev pub item_has : Item → ℕ → Bool
item_has (item.Range from to) byte = nat_le from byte && nat_le byte to
item_has (item.Class class) byte = class_has class byte
item_has (item.Byte one) byte = false
item_has (item.Repeat one count) byte = false
item_has (item.Fill one) byte = false
item_has item.Fault byte = false

-- bytes added where the filling leaves off, if there is one
abbrev pub with_bytes : Option ℕ → List ℕ → List ℕ → List ℕ → Sides
with_bytes None front back bytes = record { front = front ++ bytes; fill = None; back = back }
with_bytes (Some byte) front back bytes = record { front = front; fill = Some byte; back = back ++ bytes }

abbrev pub if_few : Sides → Option Sides
if_few sides = if nat_le (length sides.front + length sides.back) most_bytes then Some sides else None

abbrev pub add_bytes : Sides → List ℕ → Option Sides
add_bytes sides bytes = if_few (with_bytes sides.fill sides.front sides.back bytes)

-- a filling, where there is none yet
abbrev pub add_fill : Option ℕ → List ℕ → ℕ → Option Sides
add_fill None front byte = Some (record { front = front; fill = Some byte; back = [] })
add_fill (Some other) front byte = None

-- an item added; none where there are too many bytes, at a second filling, and at a fault
abbrev pub added : Sides → Item → Option Sides
added sides (item.Byte byte) = add_bytes sides (byte ∷ [])
added sides (item.Range from to) = add_bytes sides (passing (item_has (item.Range from to)) 256)
added sides (item.Class class) = add_bytes sides (passing (item_has (item.Class class)) 256)
added sides (item.Repeat byte count) = add_bytes sides (replicate count byte)
added sides (item.Fill byte) = add_fill sides.fill sides.front byte
added sides item.Fault = None

-- all items of marked bytes added, behind so many that belong to the last one
abbrev pub on_sides : Option Sides → (Sides → Option Sides) → Option Sides
on_sides None on = None
on_sides (Some sides) on = on sides

abbrev pub all_added : Bool → ℕ → Sides → List Marked → Option Sides
all_added second skipped sides [] = Some sides
all_added second (suc skipped) sides (one ∷ rest) = all_added second skipped sides rest
all_added second zero sides (one ∷ rest) =
    on_sides (added sides (item_at second one rest).item) (λ next. all_added second (item_at second one rest).extra next rest)

abbrev pub no_sides : Sides
no_sides = record { front = []; fill = None; back = [] }

abbrev pub sides_by : Bool → Option (List Marked) → Option Sides
sides_by second None = None
sides_by second (Some marked) = all_added second 0 no_sides marked

-- the items of a string
abbrev pub sides_of : Bool → List ℕ → Option Sides
sides_of second text = sides_by second (marked_of text)

-- the bytes that aren't among these, ascending
abbrev pub is_other : List ℕ → ℕ → Bool
is_other bytes byte = not (list_any (λ one. one == byte) bytes)

abbrev pub complement : List ℕ → List ℕ
complement bytes = passing (is_other bytes) 256

-- the bytes of the first string, or their complement
abbrev pub first_of : Bool → List ℕ → Option (List ℕ)
first_of complements text = option_map (λ (sides : Sides). if complements then complement sides.front else sides.front) (sides_of false text)

-- the bytes of the second string, filled to the number of those of the first; there has to be one
abbrev pub filled : Option ℕ → List ℕ → List ℕ → ℕ → List ℕ
filled None front back wanted = front
filled (Some byte) front back wanted = front ++ (replicate (wanted - (length front + length back)) byte ++ back)

abbrev pub if_some : List ℕ → Option (List ℕ)
if_some [] = None
if_some (byte ∷ rest) = Some (byte ∷ rest)

abbrev pub second_by : Option Sides → ℕ → Option (List ℕ)
second_by None wanted = None
second_by (Some sides) wanted = if_some (filled sides.fill sides.front sides.back wanted)

abbrev pub second_of : List ℕ → ℕ → Option (List ℕ)
second_of text wanted = second_by (sides_of true text) wanted
