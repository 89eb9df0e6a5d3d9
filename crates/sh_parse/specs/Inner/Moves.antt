-- What the code's moves are.
use Rattle.std.specs.Prelude.{◌≡◌, ℕ, ◌+◌, length, List, [], ◌∷◌, ◌++◌}
use Rattle.sh_parse.specs.Inner.Owed.{Pending, Move, push, opens, skip, stuck, Verdict, verdict, bad, deep}
use Rattle.sh_parse.specs.declared.items.Item.{Item}
use Rattle.sh_parse.specs.declared.items.TheConstants.{MAX_LEVELS}
use Rattle.sh_parse.specs.declared.checking.Stop.{Stop}
use Rattle.sh_parse.specs.declared.checking.Stop.TheVariants as stop
use Rattle.sh_parse.specs.declared.parts.Parts.{Parts}
use Rattle.sh_parse.specs.declared.parts.Parts.TheVariants as parts
use Rattle.sh_parse.specs.declared.parts.Move as code_move
use Rattle.sh_parse.specs.declared.parts.Move.TheVariants as by
use Rattle.sh_parse.specs.declared.parts.Owing.{Owing}

abbrev pub parts_of : Parts → List Pending
parts_of parts.Empty = []
parts_of (parts.One first) = first ∷ []
parts_of (parts.Two first second) = first ∷ second ∷ []
parts_of (parts.Three first second third) = first ∷ second ∷ third ∷ []

abbrev pub move_of : code_move.Move → Move
move_of (by.Push first) = push (parts_of first)
move_of (by.Opens first) = opens (parts_of first)
move_of by.Skip = skip
move_of by.Stuck = stuck

abbrev pub with_more : Move → List Pending → Move
with_more (push first) more = push (first ++ more)
with_more (opens first) more = opens (first ++ more)
with_more skip more = skip
with_more stuck more = stuck

abbrev pub owing_of : Owing → Move
owing_of owing = with_more (move_of owing.what) (parts_of owing.behind)

-- the stack whose top is last
abbrev pub stacked : List Pending → List Pending
stacked [] = []
stacked (first ∷ rest) = stacked rest ++ first ∷ []

-- a stop tells the verdict; want of memory is free
abbrev pub Tells : Stop → Verdict → Type 0
Tells (stop.Bad left) found = found ≡ bad left
Tells (stop.Deep left) found = found ≡ deep left
Tells stop.Memory found = Unit {0}

-- the stack behind an item
abbrev pub StepsTo : Item → List Pending → List Pending → Type 0
StepsTo first stack behind =
    (rest : List Item) → verdict MAX_LEVELS (first ∷ rest) stack ≡ verdict MAX_LEVELS rest behind

-- why there is none, where `left` items are left at it
abbrev pub StopsStep : Item → List Pending → ℕ → Stop → Type 0
StopsStep first stack left stop =
    (rest : List Item) → length rest + 1 ≡ left → Tells stop (verdict MAX_LEVELS (first ∷ rest) stack)
