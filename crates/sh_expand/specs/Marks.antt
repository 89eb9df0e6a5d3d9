-- Marked bytes (XCU 2.6): a byte of a word remembers whether it was quoted, and whether an expansion outside quotes gave it. A
-- quoted part without bytes, and the end of a field that `$@` or `$*` makes, are marks of their own.
use Rattle.std.specs.Prelude.{ℕ, ◌==◌, ◌||◌, Bool, true, false, List, [], ◌∷◌, map, Option, Some, None}
use Rattle.std.specs.List.{list_any}
use Rattle.sh_pattern.specs.declared.marks.Mark.{Mark}
use Rattle.sh_expand.specs.declared.marks.Marked.{Marked}
use Rattle.sh_expand.specs.declared.marks.Marked.TheVariants.{Written, Quoted, Loose, EmptyPart, FieldEnd}
use Rattle.sh_expand.specs.declared.marks.Manner.{Manner}
use Rattle.sh_expand.specs.declared.marks.Manner.TheVariants as manner

-- a byte, marked so
abbrev pub mark : Manner → ℕ → Marked
mark manner.Written byte = Written byte
mark manner.Quoted byte = Quoted byte
mark manner.Loose byte = Loose byte

abbrev pub marked : Manner → List ℕ → List Marked
marked manner bytes = map (mark manner) bytes

-- marks that are quoted are a part, also where there is none
abbrev pub or_empty : Bool → List Marked → List Marked
or_empty false marks = marks
or_empty true [] = EmptyPart ∷ []
or_empty true (first ∷ rest) = first ∷ rest

abbrev pub expanded : Bool → Manner
expanded true = manner.Quoted
expanded false = manner.Loose

-- the text that an expansion gave, in double quotes or outside
abbrev pub value : Bool → List ℕ → List Marked
value quoted text = or_empty quoted (marked (expanded quoted) text)

-- the byte, where the mark is one
abbrev pub byte_of : Marked → Option ℕ
byte_of (Written byte) = Some byte
byte_of (Quoted byte) = Some byte
byte_of (Loose byte) = Some byte
byte_of EmptyPart = None
byte_of FieldEnd = None

abbrev pub before : {Item : Type 0} → Option Item → List Item → List Item
before None rest = rest
before (Some item) rest = item ∷ rest

-- quote removal (XCU 2.6.7): the bytes, without their marks
abbrev pub bare : List Marked → List ℕ
bare [] = []
bare (first ∷ rest) = before (byte_of first) (bare rest)

-- the byte as patterns see it (XCU 2.13.1): quoted, or not; a backslash that an expansion gave is a byte like others (own)
abbrev pub pattern_mark : Marked → Option Mark
pattern_mark (Written byte) = Some (record { byte = byte; quoted = false })
pattern_mark (Quoted byte) = Some (record { byte = byte; quoted = true })
pattern_mark (Loose byte) = Some (record { byte = byte; quoted = false })
pattern_mark EmptyPart = None
pattern_mark FieldEnd = None

abbrev pub pattern_of : List Marked → List Mark
pattern_of [] = []
pattern_of (first ∷ rest) = before (pattern_mark first) (pattern_of rest)

-- one of the bytes that begin a pattern
abbrev pub begins_pattern : ℕ → Bool
begins_pattern byte = byte == 42 || (byte == 63 || byte == 91)

-- an unquoted `*`, `?` or `[`
abbrev pub is_pattern : Marked → Bool
is_pattern (Written byte) = begins_pattern byte
is_pattern (Quoted byte) = false
is_pattern (Loose byte) = begins_pattern byte
is_pattern EmptyPart = false
is_pattern FieldEnd = false

abbrev pub has_pattern : List Marked → Bool
has_pattern marks = list_any is_pattern marks
