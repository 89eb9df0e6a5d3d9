-- Which texts are expressions, and the first fault of the others (XBD 9.3, 9.4).
use Rattle.std.specs.Prelude.{ℕ, ◌≡◌, ◌+◌, ◌-◌, ◌==◌, ◌&&◌, nat_lt, not, Bool, true, false, List, [], ◌∷◌}
use Rattle.ut_regex.specs.declared.fault.ReFault.{ReFault}
use Rattle.ut_regex.specs.declared.fault.ReFault.TheVariants.{NotARegex, BackReference, RepeatTooLarge, TooLarge, Memory}
use Rattle.ut_regex.specs.declared.pieces.Before.{Before}
use Rattle.ut_regex.specs.declared.pieces.Before.TheVariants as before
use Rattle.ut_regex.specs.declared.pieces.Piece.{Piece}
use Rattle.ut_regex.specs.declared.pieces.Piece.TheVariants as piece
use Rattle.ut_regex.specs.Tree.{Tree}
use Rattle.ut_regex.specs.Pieces.{next, IsPiece, IsNoPiece}
use Rattle.ut_regex.specs.Grammar.{IsSides}
use Rattle.ut_regex.specs.Sizes.{IsTooLarge}

-- what a piece is for the one behind it
abbrev pub leaves : Piece → Before
leaves (piece.One one) = before.Part
leaves piece.Begin = before.Anchor
leaves piece.End = before.Anchor
leaves piece.Open = before.Opened
leaves piece.Close = before.Part
leaves piece.Bar = before.Barred
leaves (piece.Repeat limits) = before.Part

-- how many groups are open behind a piece
abbrev pub depth_behind : ℕ → Piece → ℕ
depth_behind depth (piece.One one) = depth
depth_behind depth piece.Begin = depth
depth_behind depth piece.End = depth
depth_behind depth piece.Open = depth + 1
depth_behind depth piece.Close = depth - 1
depth_behind depth piece.Bar = depth
depth_behind depth (piece.Repeat limits) = depth

-- a side has just ended
abbrev pub is_barred : Before → Bool
is_barred before.Start = false
is_barred before.Opened = false
is_barred before.Barred = true
is_barred before.Anchor = false
is_barred before.Part = false

-- an expression may end here: no group is open, and the last side isn't empty
abbrev pub may_end : Before → ℕ → Bool
may_end last depth = depth == 0 && not (is_barred last)

-- the text goes on as an expression, behind what stands before and in so many open groups, and these are its pieces
pub data IsExpression (basic : Bool) : Before → ℕ → List ℕ → List Piece → Type 0 where
  ends : {last : Before} {depth : ℕ} → may_end last depth ≡ true → IsExpression basic last depth [] []
  goes_on : {last : Before} {depth : ℕ} {text rest : List ℕ} {one : Piece} {pieces : List Piece}
      → IsPiece basic (next basic last (nat_lt 0 depth) text) one rest → IsExpression basic (leaves one) (depth_behind depth one) rest pieces
      → IsExpression basic last depth text (one ∷ pieces)

-- the text goes on with this fault, the first from the left. An open group or an empty side is met at the text's end
pub data HasFault (basic : Bool) : Before → ℕ → List ℕ → ReFault → Type 0 where
  unfinished : {last : Before} {depth : ℕ} → may_end last depth ≡ false → HasFault basic last depth [] NotARegex
  here : {last : Before} {depth byte : ℕ} {rest : List ℕ} {fault : ReFault}
      → IsNoPiece basic (next basic last (nat_lt 0 depth) (byte ∷ rest)) fault → HasFault basic last depth (byte ∷ rest) fault
  later : {last : Before} {depth : ℕ} {text rest : List ℕ} {fault : ReFault} (one : Piece)
      → IsPiece basic (next basic last (nat_lt 0 depth) text) one rest → HasFault basic (leaves one) (depth_behind depth one) rest fault
      → HasFault basic last depth text fault

-- the text is a basic or an extended expression, and this is its tree
abbrev pub Reads : Bool → List ℕ → Tree → Type 0
Reads basic text re = (pieces : List Piece) × IsExpression basic before.Start 0 text pieces × IsSides pieces re

-- the text is an expression
abbrev pub IsRead : Bool → List ℕ → Type 0
IsRead basic text = (re : Tree) × Reads basic text re

-- the text's first fault
abbrev pub Faults : Bool → List ℕ → ReFault → Type 0
Faults basic text fault = HasFault basic before.Start 0 text fault

-- why the text isn't read: its first fault, or that it is an expression that is too large. An expression alone wants memory
abbrev pub Refuses : Bool → List ℕ → ReFault → Type 0
Refuses basic text NotARegex = Faults basic text NotARegex
Refuses basic text BackReference = Faults basic text BackReference
Refuses basic text RepeatTooLarge = Faults basic text RepeatTooLarge
Refuses basic text TooLarge = (re : Tree) × Reads basic text re × IsTooLarge re
Refuses basic text Memory = IsRead basic text
