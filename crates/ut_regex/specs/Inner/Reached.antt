-- The states to which a machine comes, and when no table is made of them.
use Rattle.std.specs.Prelude.{ℕ, ◌≡◌, ◌<◌, Bool, true, false, List, length}
use Rattle.ut_regex.specs.declared.program.Op.{Op}
use Rattle.ut_regex.specs.declared.table.TheConstants.{MAX_STATES, MAX_STEPS}
use Rattle.ut_regex.specs.Inner.Tables.{State, first_state, state_at, after, leads_at}

-- a state behind which a machine goes on: the expression doesn't end there, or has to end with the line
abbrev pub GoesOn : List Op → Bool → State → Type 0
GoesOn ops whole s = whole ≡ false → leads_at ops whole false s ≡ false

-- a machine comes to a state: it begins in the first, and reads byte after byte
pub data Reaches (ops : List Op) (fold whole : Bool) : State → Type 0 where
  begun : Reaches ops fold whole first_state
  behind : {s : State} {byte : ℕ} → Reaches ops fold whole s → byte < 256 → GoesOn ops whole (after ops fold whole s byte) → Reaches ops fold whole (after ops fold whole s byte)

-- a machine comes to each of these states, and no two are one
pub record AreReached (ops : List Op) (fold whole : Bool) (states : List State) : Type 0 where
  pub reached : (place : ℕ) → place < length states → Reaches ops fold whole (state_at states place)
  pub different : (one other : ℕ) → one < other → other < length states → state_at states one ≡ state_at states other → ⊥

-- no table is made: there are too many steps, every line has the expression from its beginning on, or there are too many states
pub data HasNoTable (ops : List Op) (fold whole : Bool) : Type 0 where
  many_steps : MAX_STEPS < length ops → HasNoTable ops fold whole
  every_line : whole ≡ false → leads_at ops whole false first_state ≡ true → HasNoTable ops fold whole
  many_states : {states : List State} → AreReached ops fold whole states → MAX_STATES < length states → HasNoTable ops fold whole
