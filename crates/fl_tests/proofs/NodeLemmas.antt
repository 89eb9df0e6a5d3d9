-- Halves of one edge, which tests settle.
use Rattle.std.proofs.Common.{◌≡◌, ℕ, zero, suc, List, [], ◌∷◌, map, Option, Some, None, ap, sym, ◌∙◌}
use Rattle.fl_relay.specs.declared.edges.EdgeGiver.{EdgeGiver}
use Rattle.fl_relay.specs.declared.edges.EdgeTaker.{EdgeTaker}
use Rattle.fl_relay.specs.Edges.{EdgeId, gives_over, takes_over, put_on}
use Rattle.fl_nodes.specs.Stashes.{half_of, CanSettle, CanSettleAll}

-- the half that lies as the second, or as the only one
lies-second : (giver : EdgeGiver) (edge : ℕ) (half : EdgeGiver) → half_of (None ∷ Some giver ∷ []) edge ≡ Some half → half ≡ giver
lies-second giver zero half is = absurd (cc)
lies-second giver (suc zero) half is = cc
lies-second giver (suc (suc edge)) half is = absurd (cc)

lies-first : (giver : EdgeGiver) (edge : ℕ) (half : EdgeGiver) → half_of (Some giver ∷ []) edge ≡ Some half → half ≡ giver
lies-first giver zero half is = cc
lies-first giver (suc edge) half is = absurd (cc)

-- a giver and a taker of one edge can be settled
pub can-settle : (giver : EdgeGiver) (taker : EdgeTaker) (givers : List (Option EdgeGiver)) → givers ≡ Some giver ∷ [] → takes_over taker ≡ gives_over giver → CanSettle givers 0 taker
can-settle giver taker givers are same = record {
  ids = λ _. gives_over giver;
  pieces = λ _. put_on giver;
  lie = λ edge half there.
      let one = lies-first giver edge half (ap (λ (it : List (Option EdgeGiver)). half_of it edge) (sym are) ∙ there) in (ap gives_over one, ap put_on one);
  same = same;
}

pub can-settle-all : (giver : EdgeGiver) (taker : EdgeTaker) (givers : List (Option EdgeGiver)) (takers : List (Option EdgeTaker)) (found : List EdgeTaker) (wanted edges : List ℕ)
    → givers ≡ None ∷ Some giver ∷ [] → takers ≡ None ∷ Some taker ∷ [] → wanted ≡ 1 ∷ [] → edges ≡ 1 ∷ [] → map Some found ≡ map (half_of takers) wanted
    → takes_over taker ≡ gives_over giver → CanSettleAll givers edges found
can-settle-all giver taker givers takers found wanted edges are were want one halves same = record {
  ids = λ _. gives_over giver;
  pieces = λ _. put_on giver;
  lie = λ edge half there.
      let first = lies-second giver edge half (ap (λ (it : List (Option EdgeGiver)). half_of it edge) (sym are) ∙ there) in (ap gives_over first, ap put_on first);
  same = by_found found (halves ∙ ap (map (half_of takers)) want ∙ ap (λ (it : List (Option EdgeTaker)). map (half_of it) (1 ∷ [])) were)
      ∙ ap (λ (it : List ℕ). map (λ _. gives_over giver) it) (sym one);
}
  where
    by_found : (found : List EdgeTaker) → map Some found ≡ Some taker ∷ [] → map takes_over found ≡ gives_over giver ∷ []
    by_found [] is = absurd (cc)
    by_found (one ∷ []) is = let first : one ≡ taker = cc in ap (λ (it : EdgeTaker). takes_over it ∷ []) first ∙ ap (λ (it : EdgeId). it ∷ []) same
    by_found (one ∷ two ∷ rest) is = absurd (cc)
