-- A text has one list of pieces or one first fault.
use Rattle.std.proofs.Common.{ℕ, ◌≡◌, ◌<◌, inl, inr, Bool, true, false, List, [], ◌∷◌, Some, nat_lt, refl, ap, ap₂, sym, subst, ◌∙◌}
use Rattle.ps_lines.specs.ByteSet.{has_byte}
use Rattle.ut_regex.specs.declared.fault.ReFault.{ReFault}
use Rattle.ut_regex.specs.declared.fault.ReFault.TheVariants.{NotARegex}
use Rattle.ut_regex.specs.declared.brackets.Item.{Item}
use Rattle.ut_regex.specs.declared.pieces.Before.{Before}
use Rattle.ut_regex.specs.declared.pieces.Piece.{Piece}
use Rattle.ut_regex.specs.declared.pieces.Piece.TheVariants as piece
use Rattle.ut_regex.specs.declared.tree.Leaf.{Leaf}
use Rattle.ut_regex.specs.declared.tree.Leaf.TheVariants.{Byte, Any, Among, NotAmong}
use Rattle.ut_regex.specs.declared.tree.Bounds.{Bounds}
use Rattle.ut_regex.specs.Brackets.{begins_with, lists, item, IsItems, no_item, next_item, IsNoItems, bad_item, later_item, IsListing, IsNoListing, IsBracket, IsNoBracket}
use Rattle.ut_regex.specs.Intervals.{interval, bounds, no_bounds}
use Rattle.ut_regex.specs.Pieces.{Next, itself, any, bracketed, line_begins, line_ends, opens, closes, bars, repeats, counted, refused, next, IsPiece, IsNoPiece}
use Rattle.ut_regex.specs.Reading.{leaves, depth_behind, IsExpression, ends, goes_on, HasFault, unfinished, here, later}
use Rattle.ut_regex.specs.Same.{SameLeaf, same_among, same_not_among, SameBounds}

-- two pieces are the same, however a set of bytes is kept
pub data SamePiece : Piece → Piece → Type 0 where
  same_one : {one other : Leaf} → SameLeaf one other → SamePiece (piece.One one) (piece.One other)
  same_repeat : {one other : Bounds} → SameBounds one other → SamePiece (piece.Repeat one) (piece.Repeat other)
  same_piece : {one : Piece} → SamePiece one one

pub data SamePieces : List Piece → List Piece → Type 0 where
  same_none : SamePieces [] []
  same_more : {one other : Piece} {pieces others : List Piece} → SamePiece one other → SamePieces pieces others
      → SamePieces (one ∷ pieces) (other ∷ others)

same_leaves : {one other : Piece} → SamePiece one other → leaves one ≡ leaves other
same_leaves (same_one is) = refl
same_leaves (same_repeat is) = refl
same_leaves same_piece = refl

same_depth : {one other : Piece} → SamePiece one other → (depth : ℕ) → depth_behind depth one ≡ depth_behind depth other
same_depth (same_one is) depth = refl
same_depth (same_repeat is) depth = refl
same_depth same_piece depth = refl

-- brackets list one thing
same_some : (one other : Item × List ℕ) → Some one ≡ Some other → one ≡ other
same_some one other is = cc

same_item : (text : List ℕ) {one other : Item} {left behind : List ℕ} → item text ≡ Some (one, left) → item text ≡ Some (other, behind)
    → (one ≡ other) × (left ≡ behind)
same_item text {one} {other} {left} {behind} is is_other =
    let same = same_some (one, left) (other, behind) (sym is ∙ is_other) in (ap (λ p. p.0) same, ap (λ p. p.1) same)

one_list : {text : List ℕ} {items others : List Item} {rest left : List ℕ} → IsItems text items rest → IsItems text others left
    → (items ≡ others) × (rest ≡ left)
one_list (no_item is) (no_item is_other) = (refl, cc)
one_list (no_item is) (next_item unclosed is_other more) = absurd (cc (ap (begins_with 93) is))
one_list (next_item unclosed is more) (no_item is_other) = absurd (cc (ap (begins_with 93) is_other))
one_list {text} {rest} {left} (next_item {left = behind} {one} {items} unclosed is more) (next_item {left = behind_other} {one = other} {items = others} unclosed_other is_other more_other) =
    let same = same_item text is is_other in
    let r = one_list more (subst (λ l. IsItems l others left) (sym same.1) more_other) in
    (ap₂ (λ one items. one ∷ items) same.0 r.0, r.1)

no_items_either : {text : List ℕ} {items : List Item} {rest : List ℕ} → IsItems text items rest → IsNoItems text → ⊥
no_items_either (no_item is) (bad_item unclosed none) = absurd (cc (ap (begins_with 93) is))
no_items_either (no_item is) (later_item unclosed is_other more) = absurd (cc (ap (begins_with 93) is))
no_items_either (next_item unclosed is more) (bad_item unclosed_other none) = absurd (cc)
no_items_either {text} (next_item {left = behind} unclosed is more) (later_item {left = behind_other} unclosed_other is_other none) =
    no_items_either more (subst (λ l. IsNoItems l) (sym (same_item text is is_other).1) none)

one_listing : {text : List ℕ} {has has_other : ℕ → Bool} {rest left : List ℕ} → IsListing text has rest → IsListing text has_other left
    → ((byte : ℕ) → byte < 256 → has byte ≡ has_other byte) × (rest ≡ left)
one_listing {text} {has} {has_other} {rest} {left} list other =
    let same = same_item text list.begins other.begins in
    let r = one_list list.follow (subst (λ l. IsItems l other.items left) (sym same.1) other.follow) in
    let all : (list.first ∷ list.items) ≡ (other.first ∷ other.items) = ap₂ (λ one items. one ∷ items) same.0 r.0 in
    (λ byte h. list.bytes byte h ∙ ap (λ items. lists items byte) all ∙ sym (other.bytes byte h), r.1)

no_listing_either : {text : List ℕ} {has : ℕ → Bool} {rest : List ℕ} → IsListing text has rest → IsNoListing text → ⊥
no_listing_either list (inl none) = let begins = list.begins in absurd (cc)
no_listing_either {text} list (inr (first, left, is, none)) =
    no_items_either list.follow (subst (λ l. IsNoItems l) (sym (same_item text list.begins is).1) none)

-- the same is read in brackets
one_bracket : (text : List ℕ) (leaf other : Leaf) (rest left : List ℕ) → IsBracket text leaf rest → IsBracket text other left
    → SameLeaf leaf other × (rest ≡ left)
one_bracket text (Byte byte) other rest left h h' = absurd h
one_bracket text Any other rest left h h' = absurd h
one_bracket text (Among set) (Byte byte) rest left h h' = absurd h'
one_bracket text (Among set) Any rest left h h' = absurd h'
one_bracket text (Among set) (Among other) rest left (not_negated, list) (not_negated', list') =
    let r = one_listing list list' in (same_among r.0, r.1)
one_bracket text (Among set) (NotAmong other) rest left (not_negated, list) (listed, is, list') = absurd (cc (ap (begins_with 94) is))
one_bracket text (NotAmong set) (Byte byte) rest left h h' = absurd h'
one_bracket text (NotAmong set) Any rest left h h' = absurd h'
one_bracket text (NotAmong set) (Among other) rest left (listed, is, list) (not_negated, list') = absurd (cc (ap (begins_with 94) is))
one_bracket text (NotAmong set) (NotAmong other) rest left (listed, is, list) (listed', is', list') =
    let same_listed : listed ≡ listed' = cc in
    let r = one_listing list (subst (λ l. IsListing l (has_byte other) left) (sym same_listed) list') in (same_not_among r.0, r.1)

no_bracket_either : (text : List ℕ) (leaf : Leaf) (rest : List ℕ) → IsBracket text leaf rest → IsNoBracket text → ⊥
no_bracket_either text (Byte byte) rest h none = absurd h
no_bracket_either text Any rest h none = absurd h
no_bracket_either text (Among set) rest (not_negated, list) (inl (_, none)) = no_listing_either list none
no_bracket_either text (Among set) rest (not_negated, list) (inr (listed, is, none)) = absurd (cc (ap (begins_with 94) is))
no_bracket_either text (NotAmong set) rest (listed, is, list) (inl (not_negated, none)) = absurd (cc (ap (begins_with 94) is))
no_bracket_either text (NotAmong set) rest (listed, is, list) (inr (listed', is', none)) =
    let same_listed : listed ≡ listed' = cc in no_listing_either list (subst IsNoListing (sym same_listed) none)

-- what stands next, as it decides the piece and the text behind it
abbrev Made : Bool → Next → Piece → List ℕ → Type 0
Made basic (itself byte behind) one rest = (one ≡ piece.One (Byte byte)) × (rest ≡ behind)
Made basic (any behind) one rest = (one ≡ piece.One Any) × (rest ≡ behind)
Made basic (bracketed text) one rest = (leaf : Leaf) × (one ≡ piece.One leaf) × IsBracket text leaf rest
Made basic (line_begins behind) one rest = (one ≡ piece.Begin) × (rest ≡ behind)
Made basic (line_ends behind) one rest = (one ≡ piece.End) × (rest ≡ behind)
Made basic (opens behind) one rest = (one ≡ piece.Open) × (rest ≡ behind)
Made basic (closes behind) one rest = (one ≡ piece.Close) × (rest ≡ behind)
Made basic (bars behind) one rest = (one ≡ piece.Bar) × (rest ≡ behind)
Made basic (repeats low high behind) one rest = (limits : Bounds) × (one ≡ piece.Repeat limits) × (limits.low ≡ low) × (limits.high ≡ high) × (rest ≡ behind)
Made basic (counted text) one rest = (limits : Bounds) × (one ≡ piece.Repeat limits) × (interval basic text ≡ bounds limits.low limits.high rest)
Made basic (refused fault) one rest = ⊥

-- what stands next, as it decides the fault
abbrev Unmade : Bool → Next → ReFault → Type 0
Unmade basic (itself byte behind) fault = ⊥
Unmade basic (any behind) fault = ⊥
Unmade basic (bracketed text) fault = IsNoBracket text × (fault ≡ NotARegex)
Unmade basic (line_begins behind) fault = ⊥
Unmade basic (line_ends behind) fault = ⊥
Unmade basic (opens behind) fault = ⊥
Unmade basic (closes behind) fault = ⊥
Unmade basic (bars behind) fault = ⊥
Unmade basic (repeats low high behind) fault = ⊥
Unmade basic (counted text) fault = interval basic text ≡ no_bounds fault
Unmade basic (refused met) fault = fault ≡ met

made_of : (basic : Bool) (there : Next) (one : Piece) (rest : List ℕ) → IsPiece basic there one rest → Made basic there one rest
made_of basic there (piece.One (Byte byte)) rest is = subst (λ t. Made basic t (piece.One (Byte byte)) rest) (sym is) (refl, refl)
made_of basic there (piece.One Any) rest is = subst (λ t. Made basic t (piece.One Any) rest) (sym is) (refl, refl)
made_of basic there (piece.One (Among set)) rest (text, is, h) =
    subst (λ t. Made basic t (piece.One (Among set)) rest) (sym is) (Among set, refl, h)
made_of basic there (piece.One (NotAmong set)) rest (text, is, h) =
    subst (λ t. Made basic t (piece.One (NotAmong set)) rest) (sym is) (NotAmong set, refl, h)
made_of basic there piece.Begin rest is = subst (λ t. Made basic t piece.Begin rest) (sym is) (refl, refl)
made_of basic there piece.End rest is = subst (λ t. Made basic t piece.End rest) (sym is) (refl, refl)
made_of basic there piece.Open rest is = subst (λ t. Made basic t piece.Open rest) (sym is) (refl, refl)
made_of basic there piece.Close rest is = subst (λ t. Made basic t piece.Close rest) (sym is) (refl, refl)
made_of basic there piece.Bar rest is = subst (λ t. Made basic t piece.Bar rest) (sym is) (refl, refl)
made_of basic there (piece.Repeat limits) rest (inl is) =
    subst (λ t. Made basic t (piece.Repeat limits) rest) (sym is) (limits, refl, refl, refl, refl)
made_of basic there (piece.Repeat limits) rest (inr (text, is, h)) =
    subst (λ t. Made basic t (piece.Repeat limits) rest) (sym is) (limits, refl, h)

unmade_of : (basic : Bool) (there : Next) (fault : ReFault) → IsNoPiece basic there fault → Unmade basic there fault
unmade_of basic there fault (inl is) = subst (λ t. Unmade basic t fault) (sym is) refl
unmade_of basic there fault (inr (inl (text, is, none, told))) = subst (λ t. Unmade basic t fault) (sym is) (none, told)
unmade_of basic there fault (inr (inr (text, is, none))) = subst (λ t. Unmade basic t fault) (sym is) none

equal_pieces : {one other : Piece} → one ≡ other → SamePiece one other
equal_pieces {one} is = subst (λ p. SamePiece one p) is same_piece

equal_limits : {one other : Piece} (limits again : Bounds) → one ≡ piece.Repeat limits → other ≡ piece.Repeat again → SameBounds limits again
    → SamePiece one other
equal_limits {one} {other} limits again is is_other same =
    subst (λ p. SamePiece p other) (sym is) (subst (λ p. SamePiece (piece.Repeat limits) p) (sym is_other) (same_repeat same))

one_made : (basic : Bool) (there : Next) (one other : Piece) (rest left : List ℕ) → Made basic there one rest → Made basic there other left
    → SamePiece one other × (rest ≡ left)
one_made basic (itself byte behind) one other rest left (is, r) (is', r') = (equal_pieces (is ∙ sym is'), r ∙ sym r')
one_made basic (any behind) one other rest left (is, r) (is', r') = (equal_pieces (is ∙ sym is'), r ∙ sym r')
one_made basic (bracketed text) one other rest left (leaf, is, h) (leaf', is', h') =
    let b = one_bracket text leaf leaf' rest left h h' in
    (subst (λ p. SamePiece p other) (sym is) (subst (λ p. SamePiece (piece.One leaf) p) (sym is') (same_one b.0)), b.1)
one_made basic (line_begins behind) one other rest left (is, r) (is', r') = (equal_pieces (is ∙ sym is'), r ∙ sym r')
one_made basic (line_ends behind) one other rest left (is, r) (is', r') = (equal_pieces (is ∙ sym is'), r ∙ sym r')
one_made basic (opens behind) one other rest left (is, r) (is', r') = (equal_pieces (is ∙ sym is'), r ∙ sym r')
one_made basic (closes behind) one other rest left (is, r) (is', r') = (equal_pieces (is ∙ sym is'), r ∙ sym r')
one_made basic (bars behind) one other rest left (is, r) (is', r') = (equal_pieces (is ∙ sym is'), r ∙ sym r')
one_made basic (repeats low high behind) one other rest left (limits, is, l, h, r) (limits', is', l', h', r') =
    (equal_limits limits limits' is is' (l ∙ sym l', h ∙ sym h'), r ∙ sym r')
one_made basic (counted text) one other rest left (limits, is, h) (limits', is', h') =
    let same_low : limits.low ≡ limits'.low = cc in
    let same_high : limits.high ≡ limits'.high = cc in
    (equal_limits limits limits' is is' (same_low, same_high), cc)
one_made basic (refused fault) one other rest left h h' = absurd h

not_both_made : (basic : Bool) (there : Next) (one : Piece) (rest : List ℕ) (fault : ReFault) → Made basic there one rest → Unmade basic there fault → ⊥
not_both_made basic (itself byte behind) one rest fault h none = none
not_both_made basic (any behind) one rest fault h none = none
not_both_made basic (bracketed text) one rest fault (leaf, is, h) (none, _) = no_bracket_either text leaf rest h none
not_both_made basic (line_begins behind) one rest fault h none = none
not_both_made basic (line_ends behind) one rest fault h none = none
not_both_made basic (opens behind) one rest fault h none = none
not_both_made basic (closes behind) one rest fault h none = none
not_both_made basic (bars behind) one rest fault h none = none
not_both_made basic (repeats low high behind) one rest fault h none = none
not_both_made basic (counted text) one rest fault (limits, is, h) none = absurd (cc)
not_both_made basic (refused met) one rest fault h none = h

one_unmade : (basic : Bool) (there : Next) (fault other : ReFault) → Unmade basic there fault → Unmade basic there other → other ≡ fault
one_unmade basic (itself byte behind) fault other h h' = absurd h
one_unmade basic (any behind) fault other h h' = absurd h
one_unmade basic (bracketed text) fault other (_, is) (_, is') = is' ∙ sym is
one_unmade basic (line_begins behind) fault other h h' = absurd h
one_unmade basic (line_ends behind) fault other h h' = absurd h
one_unmade basic (opens behind) fault other h h' = absurd h
one_unmade basic (closes behind) fault other h h' = absurd h
one_unmade basic (bars behind) fault other h h' = absurd h
one_unmade basic (repeats low high behind) fault other h h' = absurd h
one_unmade basic (counted text) fault other h h' = cc
one_unmade basic (refused met) fault other h h' = h' ∙ sym h

-- what stands next is one piece, or one fault, and not both
one_piece : (basic : Bool) (there : Next) (one other : Piece) (rest left : List ℕ) → IsPiece basic there one rest → IsPiece basic there other left
    → SamePiece one other × (rest ≡ left)
one_piece basic there one other rest left is is_other =
    one_made basic there one other rest left (made_of basic there one rest is) (made_of basic there other left is_other)

no_piece_either : (basic : Bool) (there : Next) (one : Piece) (rest : List ℕ) (fault : ReFault) → IsPiece basic there one rest
    → IsNoPiece basic there fault → ⊥
no_piece_either basic there one rest fault is none =
    not_both_made basic there one rest fault (made_of basic there one rest is) (unmade_of basic there fault none)

one_fault_here : (basic : Bool) (there : Next) (fault other : ReFault) → IsNoPiece basic there fault → IsNoPiece basic there other → other ≡ fault
one_fault_here basic there fault other none none_other =
    one_unmade basic there fault other (unmade_of basic there fault none) (unmade_of basic there other none_other)

nothing_next : (basic : Bool) (last : Before) (nested : Bool) → next basic last nested [] ≡ refused NotARegex
nothing_next true last nested = refl
nothing_next false last nested = refl

no_piece_next : (basic : Bool) (last : Before) (nested : Bool) (one : Piece) (rest : List ℕ) → IsPiece basic (next basic last nested []) one rest → ⊥
no_piece_next basic last nested one rest is = subst (λ t. Made basic t one rest) (nothing_next basic last nested) (made_of basic _ one rest is)

-- the text behind a piece goes on in the same way behind a piece that is the same
same_expression : {basic : Bool} {one other : Piece} (depth : ℕ) {rest left : List ℕ} {pieces : List Piece} → SamePiece one other → rest ≡ left
    → IsExpression basic (leaves other) (depth_behind depth other) left pieces → IsExpression basic (leaves one) (depth_behind depth one) rest pieces
same_expression {basic} {one} {other} depth {rest} {left} {pieces} same behind h =
    subst (λ r. IsExpression basic (leaves one) (depth_behind depth one) r pieces) (sym behind)
    (subst (λ d. IsExpression basic (leaves one) d left pieces) (sym (same_depth same depth))
    (subst (λ b. IsExpression basic b (depth_behind depth other) left pieces) (sym (same_leaves same)) h))

same_fault : {basic : Bool} {one other : Piece} (depth : ℕ) {rest left : List ℕ} {fault : ReFault} → SamePiece one other → rest ≡ left
    → HasFault basic (leaves other) (depth_behind depth other) left fault → HasFault basic (leaves one) (depth_behind depth one) rest fault
same_fault {basic} {one} {other} depth {rest} {left} {fault} same behind h =
    subst (λ r. HasFault basic (leaves one) (depth_behind depth one) r fault) (sym behind)
    (subst (λ d. HasFault basic (leaves one) d left fault) (sym (same_depth same depth))
    (subst (λ b. HasFault basic b (depth_behind depth other) left fault) (sym (same_leaves same)) h))

-- a text has one list of pieces
pub one_list_of_pieces : (basic : Bool) {last : Before} {depth : ℕ} {text : List ℕ} {pieces others : List Piece}
    → IsExpression basic last depth text pieces → IsExpression basic last depth text others → SamePieces pieces others
one_list_of_pieces basic (ends may) (ends may_other) = same_none
one_list_of_pieces basic {last} {depth} (ends may) (goes_on {rest} {one} is more) = absurd (no_piece_next basic last (nat_lt 0 depth) one rest is)
one_list_of_pieces basic {last} {depth} (goes_on {rest} {one} is more) (ends may) = absurd (no_piece_next basic last (nat_lt 0 depth) one rest is)
one_list_of_pieces basic {last} {depth} {text} (goes_on {rest} {one} is more) (goes_on {rest = left} {one = other} is_other more_other) =
    let p = one_piece basic (next basic last (nat_lt 0 depth) text) one other rest left is is_other in
    same_more p.0 (one_list_of_pieces basic more (same_expression depth p.0 p.1 more_other))

-- and then no fault
pub no_fault_either : (basic : Bool) {last : Before} {depth : ℕ} {text : List ℕ} {pieces : List Piece} {fault : ReFault}
    → IsExpression basic last depth text pieces → HasFault basic last depth text fault → ⊥
no_fault_either basic (ends may) (unfinished may_not) = absurd (cc)
no_fault_either basic {last} {depth} (ends may) (later {rest} one is more) = no_piece_next basic last (nat_lt 0 depth) one rest is
no_fault_either basic {last} {depth} (goes_on {rest} {one} is more) (unfinished may_not) = no_piece_next basic last (nat_lt 0 depth) one rest is
no_fault_either basic {last} {depth} {fault} (goes_on {rest} {one} is more) (here {byte} {rest = behind} none) =
    no_piece_either basic (next basic last (nat_lt 0 depth) (byte ∷ behind)) one rest fault is none
no_fault_either basic {last} {depth} {text} (goes_on {rest} {one} is more) (later {rest = left} other is_other faulty) =
    let p = one_piece basic (next basic last (nat_lt 0 depth) text) one other rest left is is_other in
    no_fault_either basic more (same_fault depth p.0 p.1 faulty)

-- a text has one first fault
pub one_first_fault : (basic : Bool) {last : Before} {depth : ℕ} {text : List ℕ} {fault told : ReFault}
    → HasFault basic last depth text fault → HasFault basic last depth text told → told ≡ fault
one_first_fault basic (unfinished may_not) (unfinished may_not_other) = refl
one_first_fault basic {last} {depth} (unfinished may_not) (later {rest} one is more) = absurd (no_piece_next basic last (nat_lt 0 depth) one rest is)
one_first_fault basic {last} {depth} (later {rest} one is more) (unfinished may_not) = absurd (no_piece_next basic last (nat_lt 0 depth) one rest is)
one_first_fault basic {last} {depth} {fault} {told} (here {byte} {rest} none) (here none_other) =
    one_fault_here basic (next basic last (nat_lt 0 depth) (byte ∷ rest)) fault told none none_other
one_first_fault basic {last} {depth} {fault} (here {byte} {rest = behind} none) (later {rest} one is more) =
    absurd (no_piece_either basic (next basic last (nat_lt 0 depth) (byte ∷ behind)) one rest fault is none)
one_first_fault basic {last} {depth} {told} (later {rest} one is more) (here {byte} {rest = behind} none) =
    absurd (no_piece_either basic (next basic last (nat_lt 0 depth) (byte ∷ behind)) one rest told is none)
one_first_fault basic {last} {depth} {text} (later {rest} one is more) (later {rest = left} other is_other more_other) =
    let p = one_piece basic (next basic last (nat_lt 0 depth) text) one other rest left is is_other in
    one_first_fault basic more (same_fault depth p.0 p.1 more_other)
