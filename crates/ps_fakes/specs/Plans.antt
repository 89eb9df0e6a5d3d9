-- Calls that are to fail, by their numbers from 0.
use Rattle.std.specs.Prelude.{◌≡◌, ℕ, List, Bool, nat_eq}
use Rattle.std.specs.List.{list_any}
use Rattle.ps_world.specs.Counts.{one_more}
use Rattle.ps_fakes.specs.declared.plan.Plan.{Plan}

-- the call of this number is to fail
abbrev pub is_planned : List ℕ → ℕ → Bool
is_planned fails call = list_any (λ number. nat_eq number call) fails

-- the next call is to fail
abbrev pub fails_next : Plan → Bool
fails_next plan = is_planned plan.fails.items plan.calls

-- one call more was made, by the same list and with the same delays
pub record CountsCall (old new : Plan) : Type 0 where
  pub calls : new.calls ≡ one_more old.calls
  pub fails : new.fails ≡ old.fails
  pub seed : new.seed ≡ old.seed
