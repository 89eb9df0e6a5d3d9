-- Why a run halts (own): a node's own end failed, or memory was refused.
use Rattle.std.specs.Prelude.{◌≡◌, ℕ, ◌≤◌, Result, Err}
use Rattle.ps_world.specs.Counts.{Rose}
use Rattle.fl_net.specs.declared.outside.Halt.{Halt}
use Rattle.fl_net.specs.declared.outside.Halt.TheVariants.{Fault}

-- what an answer says of the counts of all ends: that of a node rose where the answer tells its fault, and no other has changed
pub record Causes {T : Type 0} (before now : ℕ → ℕ) (result : Result T Halt) : Type 0 where
  pub fault : (node : ℕ) → result ≡ Err (Fault node) → Rose (before node) (now node)
  pub others : (node : ℕ) → (result ≡ Err (Fault node) → ⊥) → now node ≡ before node
  pub later : (node : ℕ) → before node ≤ now node
