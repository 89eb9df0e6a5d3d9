-- What a text is cut to.
use Rattle.std.proofs.Common.{◌≡◌, ℕ, Bool, Option, MatchOption, sym, subst}
use Rattle.sh_pattern.specs.declared.trims.Side.{Side}
use Rattle.sh_pattern.specs.Trims.{cut, whole, IsNowhere, IsBest}

pub ruleset cuts = (cut, whole)

-- the best place, where side and length are known
pub chosen : (side known : Side) (longest long : Bool) (Holds : ℕ → Type 0) (end : ℕ) (found : Option ℕ) → side ≡ known → longest ≡ long
    → MatchOption found (IsNowhere Holds end) (IsBest known long Holds end) → MatchOption found (IsNowhere Holds end) (IsBest side longest Holds end)
chosen side known longest long Holds end found sided lengths best =
    subst (λ (s : Side). MatchOption found (IsNowhere Holds end) (IsBest s longest Holds end)) (sym sided)
    (subst (λ (l : Bool). MatchOption found (IsNowhere Holds end) (IsBest known l Holds end)) (sym lengths) best)
