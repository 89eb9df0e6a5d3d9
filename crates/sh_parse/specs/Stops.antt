-- Where a list of items stops to be the beginning of a script (XCU 2.10.2). The code goes along the items once; the definition speaks
-- of all lists that the items so far begin. The further items are any, with words of their own.
use Rattle.std.specs.Prelude.{◌≡◌, ℕ, ◌+◌, ◌==◌, ◌⊎◌, if◌then◌else◌, List, [], ◌∷◌, ◌++◌, length}
use Rattle.sh_tree.specs.Trees.{ScriptTree}
use Rattle.sh_parse.specs.Pieces.{WordViews}
use Rattle.sh_parse.specs.Grammar.{Reads}
use Rattle.sh_parse.specs.declared.items.Item.{Item}
use Rattle.sh_parse.specs.declared.items.Item.TheVariants as item
use Rattle.sh_parse.specs.declared.items.TheConstants.{MAX_LEVELS}
use Rattle.sh_parse.specs.declared.refusals.GrammarRefusal.{GrammarRefusal}
use Rattle.sh_parse.specs.declared.refusals.GrammarRefusal.TheVariants as grammar_refusal
use Rattle.sh_parse.specs.declared.refusals.SyntaxRefusal.{SyntaxRefusal}
use Rattle.sh_parse.specs.declared.refusals.SyntaxRefusal.TheVariants as refusal

-- some list that has these items as its beginning is a script of at most `most` levels
abbrev pub Begins : WordViews → ℕ → List Item → Type 0
Begins views most items = (behind : List Item) × ((script : ScriptTree) × Reads views most (items ++ behind) script)

-- no script goes on with what is next, however many levels it has; where nothing is next, the items are none
abbrev pub EndsHere : WordViews → List Item → List Item → Type 0
EndsHere views items [] = (most : ℕ) (script : ScriptTree) → Reads views most items script → ⊥
EndsHere views items (next ∷ rest) = (most : ℕ) → Begins views most (items ++ next ∷ []) → ⊥

-- the items begin a script up to where `left` of them are left, and no further
pub record StopsBad (views : WordViews) (most : ℕ) (items : List Item) (left : ℕ) : Type 0 where
  pub read : List Item
  pub rest : List Item
  pub whole : items ≡ read ++ rest
  pub place : length rest ≡ left
  pub begins : Begins views most read
  pub ends : EndsHere views read rest

-- the item at which `left` are left opens a level too many: some script begins so, but none of at most `most` levels
pub record StopsDeep (views : WordViews) (most : ℕ) (items : List Item) (left : ℕ) : Type 0 where
  pub read : List Item
  pub next : Item
  pub rest : List Item
  pub whole : items ≡ read ++ next ∷ rest
  pub place : length rest + 1 ≡ left
  pub begins : Begins views most read
  pub levels : ℕ
  pub deeper : Begins views levels (read ++ next ∷ [])
  pub too_deep : Begins views most (read ++ next ∷ []) → ⊥

-- the offset of an item that begins a command or opens a level
abbrev pub offset_of : Item → ℕ
offset_of (item.Word kind at) = at.from
offset_of (item.IoNumber number at) = at
offset_of (item.Redirect how at) = at
offset_of (item.Open at) = at
offset_of (item.SubOpen at) = at
offset_of _ = 0

-- the offset of the item at which so many are left
abbrev pub offset_left : List Item → ℕ → ℕ
offset_left [] left = 0
offset_left (first ∷ rest) left = if length rest + 1 == left then offset_of first else offset_left rest left

-- the items are refused so: at the first of them that no script goes on with (there `left` are left), or that opens a level too many
abbrev pub Stop : WordViews → List Item → SyntaxRefusal → Type 0
Stop views items refusal.BadSyntax = (left : ℕ) × StopsBad views MAX_LEVELS items left
Stop views items (refusal.TooDeep offset) = (left : ℕ) × (StopsDeep views MAX_LEVELS items left × (offset ≡ offset_left items left))

-- the items are this script, no other, and aren't refused
pub record HasScript (views : WordViews) (items : List Item) (script : ScriptTree) : Type 0 where
  pub reads : Reads views MAX_LEVELS items script
  pub only : (other : ScriptTree) → Reads views MAX_LEVELS items other → other ≡ script
  pub not_stopped : (refusal : SyntaxRefusal) → Stop views items refusal → ⊥

-- the items are refused so, not otherwise, and are no script
pub record HasStop (views : WordViews) (items : List Item) (refusal : SyntaxRefusal) : Type 0 where
  pub stops : Stop views items refusal
  pub only : (other : SyntaxRefusal) → Stop views items other → other ≡ refusal
  pub not_read : (script : ScriptTree) → Reads views MAX_LEVELS items script → ⊥

-- every list of items is exactly one script or has exactly one refusal, and not both
abbrev pub HasOneOutcome : WordViews → List Item → Type 0
HasOneOutcome views items = ((script : ScriptTree) × HasScript views items script) ⊎ ((refusal : SyntaxRefusal) × HasStop views items refusal)

-- the items are some script
abbrev pub IsSomeScript : WordViews → List Item → Type 0
IsSomeScript views items = (script : ScriptTree) × HasScript views items script

-- why there is no script: for want of memory, which is free, or for the items' refusal
abbrev pub Refuses : WordViews → List Item → GrammarRefusal → Type 0
Refuses views items (grammar_refusal.Refused refusal) = HasStop views items refusal
Refuses views items grammar_refusal.Memory = Unit {0}
