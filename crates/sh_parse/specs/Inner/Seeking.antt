-- How the first misuse is sought: the least offset over all words, and over all commands, along what is owed where each begins.
-- `specs/Misuses` has what is sought; that this finds it is proved.
use Rattle.std.specs.Prelude.{ℕ, min, nat_lt, zero, suc, Bool, true, false, ◌&&◌, ◌||◌, if◌then◌else◌, List, [], ◌∷◌}
use Rattle.std.specs.declared.option.Option.{Option}
use Rattle.std.specs.declared.option.Option.TheVariants.{None, Some}
use Rattle.sh_parse.specs.Pieces.{WordViews}
use Rattle.sh_parse.specs.Places.{begins_piece}
use Rattle.sh_parse.specs.Grammar.{is_sub_open}
use Rattle.sh_parse.specs.Inner.Owed.{Pending, Move, push, opens, skip, stuck, move, Next, goes, deeper, fails, step}
use Rattle.sh_parse.specs.Stops.{offset_of}
use Rattle.sh_parse.specs.Misuses.{goes_on_command, mixes}
use Rattle.sh_parse.specs.declared.items.Item.{Item}
use Rattle.sh_parse.specs.declared.items.Item.TheVariants as item
use Rattle.sh_parse.specs.declared.pieces.Slot.TheVariants as place
use Rattle.sh_parse.specs.declared.misuses.Misuse.{Misuse}
use Rattle.sh_parse.specs.declared.misuses.Misuse.TheVariants as misuse

-- the lesser of two offsets, where there are any
abbrev pub earliest : Option ℕ → Option ℕ → Option ℕ
earliest None other = other
earliest (Some one) None = Some one
earliest (Some one) (Some other) = Some (min one other)

-- the ill-formed expansion of an item
abbrev pub form_at : WordViews → Item → Option ℕ
form_at views (item.Word kind at) = views.fault at
form_at views _ = None

-- the least offset of an ill-formed expansion
abbrev pub first_form : WordViews → List Item → Option ℕ
first_form views [] = None
first_form views (first ∷ rest) = earliest (form_at views first) (first_form views rest)

-- a part goes on with an item, or leaves it to the parts below
abbrev pub takes : Move → Bool → Bool
takes (push parts) below = true
takes (opens parts) below = true
takes skip below = below
takes stuck below = false

-- a `(` may stand on top of what is owed, so a command may begin there
abbrev pub may_open : List Pending → Bool
may_open [] = false
may_open (part ∷ stack) = takes (move part (item.Open 0)) (may_open stack)

-- what is owed behind an item; nothing, so that no command begins any more, where no rule goes on
abbrev pub owed_behind : Next → List Pending
owed_behind (goes stack) = stack
owed_behind (deeper stack) = stack
owed_behind fails = []

-- a mixed command begins with the first of the items
abbrev pub begins_mixed : WordViews → List Pending → Item → List Item → Bool
begins_mixed views stack first items = begins_piece place.First first && (may_open stack && mixes views items)

abbrev pub mix_at : WordViews → List Pending → List Item → Option ℕ
mix_at views stack [] = None
mix_at views stack (first ∷ rest) = if begins_mixed views stack first (first ∷ rest) then Some (offset_of first) else None

-- the least offset of a mixed command, where so much is owed
abbrev pub first_mix : WordViews → List Item → List Pending → Option ℕ
first_mix views [] stack = None
first_mix views (first ∷ rest) stack =
    earliest (mix_at views stack (first ∷ rest)) (first_mix views rest (owed_behind (step stack first)))

-- the earlier of the two; the form at one offset
abbrev pub earlier : Option ℕ → Option ℕ → Option Misuse
earlier None None = None
earlier (Some form) None = Some (misuse.Form form)
earlier None (Some mix) = Some (misuse.Mix mix)
earlier (Some form) (Some mix) = if nat_lt mix form then Some (misuse.Mix mix) else Some (misuse.Form form)

-- a simple command goes on with the item, or a command substitution in it opens
abbrev pub stays : Item → Bool
stays first = goes_on_command first || is_sub_open first

-- the command substitutions that are open behind an item of a simple command
abbrev pub inside_behind : ℕ → Item → ℕ
inside_behind inside (item.SubOpen at) = suc inside
inside_behind zero item.SubClose = zero
inside_behind (suc inside) item.SubClose = inside
inside_behind inside _ = inside
