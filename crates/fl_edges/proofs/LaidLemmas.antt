-- The halves of edges, as they are made.
use Rattle.std.proofs.Common.{◌≡◌, ℕ, zero, suc, List, [], ◌∷◌, ◌++◌, map, Option, Some, None, IfSome, refl, ap, sym, subst, ◌∙◌}
use Rattle.std.specs.Option.{option_map}
use Rattle.fl_graph.specs.declared.pieces.Piece.{Piece}
use Rattle.fl_nodes.specs.Stashes.{half_of}
use Rattle.fl_relay.specs.declared.edges.EdgeGiver.{EdgeGiver}
use Rattle.fl_relay.specs.declared.edges.EdgeTaker.{EdgeTaker}
use Rattle.fl_relay.specs.Edges.{EdgeId, Unbounded, gives_over, takes_over, put_on, taken_from}
use Rattle.fl_edges.specs.Halves.{AreLaid}

some_is : {X : Type 0} (one other : X) → Some one ≡ Some other → one ≡ other
some_is one other is = cc

-- what holds of each half that lies there
abbrev pub AllLying : {Half : Type 0} → (Half → Type 0) → List (Option Half) → Type 0
AllLying {Half} Holds stash = (edge : ℕ) (half : Half) → half_of stash edge ≡ Some half → Holds half

lying-last : {Half : Type 0} (Holds : Half → Type 0) (stash : List (Option Half)) (half : Half) → Holds half → AllLying Holds stash → AllLying Holds (stash ++ Some half ∷ [])
lying-last Holds [] half here each zero it is = subst Holds (some_is half it is) here
lying-last Holds [] half here each (suc edge) it is = absurd (cc)
lying-last Holds (first ∷ stash) half here each zero it is = each zero it is
lying-last Holds (first ∷ stash) half here each (suc edge) it is = lying-last Holds stash half here (λ other. each (suc other)) edge it is

pub lying-more : {Half : Type 0} (Holds : Half → Type 0) (stash now : List (Option Half)) (half : Half) → now ≡ stash ++ Some half ∷ [] → Holds half → AllLying Holds stash → AllLying Holds now
lying-more Holds stash now half more here each = subst (AllLying Holds) (sym more) (lying-last Holds stash half here each)

map-last : {A B : Type 0} (tell : A → B) (items : List A) (last : A) → map tell (items ++ last ∷ []) ≡ map tell items ++ tell last ∷ []
map-last tell [] last = refl
map-last {A} {B} tell (first ∷ items) last = ap (λ (it : List B). tell first ∷ it) (map-last tell items last)

-- two stashes tell the same by number, and of one more each
pub same-more : (givers givers' : List (Option EdgeGiver)) (takers takers' : List (Option EdgeTaker)) (giver : EdgeGiver) (taker : EdgeTaker) → givers' ≡ givers ++ Some giver ∷ []
    → takers' ≡ takers ++ Some taker ∷ [] → takes_over taker ≡ gives_over giver → map (option_map gives_over) givers ≡ map (option_map takes_over) takers
    → map (option_map gives_over) givers' ≡ map (option_map takes_over) takers'
same-more givers givers' takers takers' giver taker more_givers more_takers same before =
    ap (map (option_map gives_over)) more_givers
    ∙ map-last (option_map gives_over) givers (Some giver)
    ∙ ap (λ (it : List (Option EdgeId)). it ++ Some (gives_over giver) ∷ []) before
    ∙ ap (λ (it : EdgeId). map (option_map takes_over) takers ++ Some it ∷ []) (sym same)
    ∙ sym (map-last (option_map takes_over) takers (Some taker))
    ∙ ap (map (option_map takes_over)) (sym more_takers)

half_of-map : {A B : Type 0} (tell : A → B) (stash : List (Option A)) (edge : ℕ) → half_of (map (option_map tell) stash) edge ≡ option_map tell (half_of stash edge)
half_of-map tell [] edge = refl
half_of-map tell (first ∷ stash) zero = refl
half_of-map tell (first ∷ stash) (suc edge) = half_of-map tell stash edge

-- the relay that is named, or another where none is
abbrev named_or : Option EdgeId → EdgeId
named_or None = Unbounded (0, 0)
named_or (Some id) = id

module _ (givers : List (Option EdgeGiver)) (takers : List (Option EdgeTaker)) where
  pub are_laid : map (option_map gives_over) givers ≡ map (option_map takes_over) takers → AllLying (λ giver. put_on giver ≡ []) givers → AllLying (λ taker. taken_from taker ≡ []) takers
      → AreLaid givers takers
  are_laid same unput untaken = record {
    ids = λ edge. named_or (option_map gives_over (half_of givers edge));
    giving = λ edge giver is. (ap named_or (sym (ap (option_map gives_over) is)), unput edge giver is);
    taking = λ edge taker is. (
      ap named_or
          (sym (sym (half_of-map gives_over givers edge) ∙ ap (λ (it : List (Option EdgeId)). half_of it edge) same ∙ half_of-map takes_over takers edge ∙ ap (option_map takes_over) is)),
      untaken edge taker is,
    );
  }

-- what holds of what is found, where it is this
pub some-of : {X : Type 0} (Holds : X → Type 0) (found : Option X) (value : X) → found ≡ Some value → IfSome found Holds → Holds value
some-of Holds found value is holds = subst (λ it. IfSome it Holds) is holds
