-- What an item is where a piece of a command may stand (XCU 2.9.1, 2.10.2 rule 7).
use Rattle.std.specs.Prelude.{Bool, true, false}
use Rattle.std.specs.declared.option.Option.{Option}
use Rattle.std.specs.declared.option.Option.TheVariants.{None, Some}
use Rattle.std.specs.Option.{is_some}
use Rattle.sh_parse.specs.declared.items.Item.{Item}
use Rattle.sh_parse.specs.declared.items.Item.TheVariants as item
use Rattle.sh_parse.specs.declared.items.WordKind.{WordKind}
use Rattle.sh_parse.specs.declared.items.WordKind.TheVariants as word
use Rattle.sh_parse.specs.declared.items.Reserved.TheVariants as reserved
use Rattle.sh_parse.specs.declared.pieces.Slot.{Slot}
use Rattle.sh_parse.specs.declared.pieces.Slot.TheVariants as place
use Rattle.sh_parse.specs.declared.pieces.Use.{Use}
use Rattle.sh_parse.specs.declared.pieces.Use.TheVariants as use_as

-- a command's first word isn't reserved; assignments stand before the name alone
abbrev pub used : Slot → WordKind → Use
used place.First (word.Reserved _) = use_as.Unused
used place.First word.Assign = use_as.Assigned
used place.First _ = use_as.Given place.BehindName
used place.BeforeName word.Assign = use_as.Assigned
used place.BeforeName _ = use_as.Given place.BehindName
used place.BehindName _ = use_as.Given place.BehindName
used place.Tail _ = use_as.Unused
used place.Loop _ = use_as.Given place.Loop

-- the place behind a redirection, where one may stand
abbrev pub redirects : Slot → Option Slot
redirects place.First = Some place.BeforeName
redirects place.BeforeName = Some place.BeforeName
redirects place.BehindName = Some place.BehindName
redirects place.Tail = Some place.Tail
redirects place.Loop = None

abbrev pub is_used : Use → Bool
is_used use_as.Assigned = true
is_used (use_as.Given _) = true
is_used use_as.Unused = false

-- a piece begins with the item
abbrev pub begins_piece : Slot → Item → Bool
begins_piece at (item.Word kind _) = is_used (used at kind)
begins_piece at (item.IoNumber _ _) = is_some (redirects at)
begins_piece at (item.Redirect _ _) = is_some (redirects at)
begins_piece at _ = false

-- the words that may name a variable (XBD 3.216)
abbrev pub is_name : WordKind → Bool
is_name (word.Reserved reserved.Bang) = false
is_name (word.Reserved reserved.OpenBrace) = false
is_name (word.Reserved reserved.CloseBrace) = false
is_name (word.Reserved _) = true
is_name word.In = true
is_name word.Name = true
is_name word.Assign = false
is_name word.Other = false

-- the words that begin a compound command
abbrev pub begins_compound : WordKind → Bool
begins_compound (word.Reserved reserved.OpenBrace) = true
begins_compound (word.Reserved reserved.If) = true
begins_compound (word.Reserved reserved.While) = true
begins_compound (word.Reserved reserved.Until) = true
begins_compound (word.Reserved reserved.For) = true
begins_compound _ = false

-- a command, or a pipeline, begins with the item
abbrev pub begins_command : Item → Bool
begins_command (item.Word (word.Reserved name) _) = begins_compound (word.Reserved name)
begins_command (item.Open _) = true
begins_command first = begins_piece place.First first

abbrev pub begins_pipeline : Item → Bool
begins_pipeline (item.Word (word.Reserved reserved.Bang) _) = true
begins_pipeline first = begins_command first
