-- Tables that are filled as texts are run over. An entry says that a byte shows a line with the expression, or to which state it leads, or
-- that this isn't worked out.
use Rattle.std.specs.Prelude.{ℕ, zero, suc, ◌≡◌, ◌+◌, ◌*◌, ◌<◌, ◌≤◌, ◌==◌, ◌&&◌, not, Bool, true, false, List, [], ◌∷◌, length, slice_index_or, if◌then◌else◌}
use Rattle.ps_lines.specs.declared.newlines.TheConstants.{NEWLINE}
use Rattle.ut_regex.specs.declared.cache.TheConstants.{UNKNOWN}
use Rattle.ut_regex.specs.declared.program.Op.{Op}
use Rattle.ut_regex.specs.declared.table.TheConstants.{FOUND}
use Rattle.ut_regex.specs.Inner.Tables.{State, first_state, state_at, after, leads_at}

-- a byte of a text, behind a state, shows that the line has the expression: at a newline it may end there, at another byte it has ended
abbrev pub shows : List Op → Bool → State → ℕ → Bool
shows ops whole s byte = if byte == NEWLINE then leads_at ops whole true s else (not whole && leads_at ops whole false s)

-- the state behind a byte of a text: behind a newline the next line begins
abbrev pub text_after : List Op → Bool → Bool → State → ℕ → State
text_after ops fold whole s byte = if byte == NEWLINE then first_state else after ops fold whole s byte

-- none of so many bytes of a text shows a line, from a state on
abbrev pub IsQuiet : List Op → Bool → Bool → State → List ℕ → ℕ → Type 0
IsQuiet ops fold whole s text zero = Unit {0}
IsQuiet ops fold whole s [] (suc count) = Unit {0}
IsQuiet ops fold whole s (byte ∷ rest) (suc count) = (shows ops whole s byte ≡ false) × IsQuiet ops fold whole (text_after ops fold whole s byte) rest count

-- an entry of a state for a byte is right
pub record IsRight (ops : List Op) (fold whole : Bool) (states : List State) (s : State) (byte entry : ℕ) : Type 0 where
  pub found : entry ≡ FOUND → shows ops whole s byte ≡ true
  pub quiet : entry < UNKNOWN → shows ops whole s byte ≡ false
  pub known : entry < UNKNOWN → entry < length states
  pub leads : entry < UNKNOWN → state_at states entry ≡ text_after ops fold whole s byte

-- the entries of these states are right, and of others none is worked out
pub record IsFilled (ops : List Op) (fold whole : Bool) (states : List State) (next : List ℕ) : Type 0 where
  pub first : state_at states 0 ≡ first_state
  pub right : (state byte : ℕ) → byte < 256 → state < length states
      → IsRight ops fold whole states (state_at states state) byte (slice_index_or next (256 * state + byte) UNKNOWN)
  pub blank : (place : ℕ) → 256 * length states ≤ place → slice_index_or next place UNKNOWN ≡ UNKNOWN
