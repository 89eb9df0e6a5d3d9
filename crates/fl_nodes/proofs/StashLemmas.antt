-- Halves that lie by the number of their edge.
use Rattle.std.proofs.Common.{◌≡◌, ◌≢◌, ℕ, zero, suc, ◌+◌, ◌<◌, ◌≤◌, List, [], ◌∷◌, ◌++◌, Bool, true, ◌&&◌, map, length, get_or, take, drop, Option, Some, None, is_some, arith, refl, ap, sym, ◌∙◌}
use Rattle.std.specs.List.{list_all}
use Rattle.std.proofs.Math.Seq.{take-suc}
use Rattle.std.proofs.lemmas.Bool.{and_from}
use Rattle.std.proofs.lemmas.List.{map-append}
use Rattle.fl_graph.specs.declared.pieces.Piece.{Piece}
use Rattle.fl_relay.specs.declared.edges.EdgeGiver.{EdgeGiver}
use Rattle.fl_relay.specs.declared.edges.EdgeTaker.{EdgeTaker}
use Rattle.fl_relay.specs.Edges.{EdgeId, gives_over, takes_over, put_on, taken_from}
use Rattle.fl_nodes.specs.Stashes.{half_of, has_each, without, without_all, CanSettle, LayBefore, Lie}

-- behind the last number nothing lies, and nothing is gone
pub half_of-beyond : {Half : Type 0} (stash : List (Option Half)) (edge : ℕ) → length stash ≤ edge → half_of stash edge ≡ None
half_of-beyond [] edge beyond = refl
half_of-beyond (first ∷ stash) zero beyond = absurd (omega (arith, beyond))
half_of-beyond (first ∷ stash) (suc edge) beyond = half_of-beyond stash edge (omega (arith, beyond))

pub without-beyond : {Half : Type 0} (stash : List (Option Half)) (edge : ℕ) → length stash ≤ edge → without stash edge ≡ stash
without-beyond [] edge beyond = refl
without-beyond (first ∷ stash) zero beyond = absurd (omega (arith, beyond))
without-beyond (first ∷ stash) (suc edge) beyond = ap (λ (it : List _). first ∷ it) (without-beyond stash edge (omega (arith, beyond)))

-- what lies at a number doesn't hang on what is said where none does
pub half_of-within : {Half : Type 0} (stash : List (Option Half)) (edge : ℕ) (otherwise : Option Half) → edge < length stash → get_or stash edge otherwise ≡ half_of stash edge
half_of-within [] edge otherwise within = absurd (omega (arith, within))
half_of-within (first ∷ stash) zero otherwise within = refl
half_of-within (first ∷ stash) (suc edge) otherwise within = half_of-within stash edge otherwise (omega (arith, within))

-- where the half of an edge is gone none lies at its number
pub half_of-without_same : {Half : Type 0} (stash : List (Option Half)) (edge : ℕ) → half_of (without stash edge) edge ≡ None
half_of-without_same [] edge = refl
half_of-without_same (first ∷ stash) zero = refl
half_of-without_same (first ∷ stash) (suc edge) = half_of-without_same stash edge

-- and at all others lies what lay there
pub half_of-without_other : {Half : Type 0} (stash : List (Option Half)) (edge other : ℕ) → other ≢ edge → half_of (without stash edge) other ≡ half_of stash other
half_of-without_other [] edge other apart = refl
half_of-without_other (first ∷ stash) zero zero apart = absurd (apart refl)
half_of-without_other (first ∷ stash) zero (suc other) apart = refl
half_of-without_other (first ∷ stash) (suc edge) zero apart = refl
half_of-without_other (first ∷ stash) (suc edge) (suc other) apart = half_of-without_other stash edge other (λ same. apart (ap suc same))

-- what lies there still where one is gone lay there before
pub lay_before : {Half : Type 0} (stash : List (Option Half)) (edge : ℕ) → LayBefore stash (without stash edge)
lay_before [] edge other half is = is
lay_before (first ∷ stash) zero zero half is = absurd (cc)
lay_before (first ∷ stash) zero (suc other) half is = is
lay_before (first ∷ stash) (suc edge) zero half is = is
lay_before (first ∷ stash) (suc edge) (suc other) half is = lay_before stash edge other half is

pub lay_before_all : {Half : Type 0} (stash : List (Option Half)) (edges : List ℕ) → LayBefore stash (without_all stash edges)
lay_before_all stash [] other half is = is
lay_before_all stash (edge ∷ edges) other half is = lay_before stash edge other half (lay_before_all (without stash edge) edges other half is)

-- the halves of these edges and of one more are gone
without_all-more : {Half : Type 0} (stash : List (Option Half)) (edges : List ℕ) (edge : ℕ) → without_all stash (edges ++ edge ∷ []) ≡ without (without_all stash edges) edge
without_all-more stash [] edge = refl
without_all-more stash (first ∷ edges) edge = without_all-more (without stash first) edges edge

pub gone-more : {Half : Type 0} (stash now then : List (Option Half)) (edges : List ℕ) (place : ℕ) → place < length edges → now ≡ without_all stash (take place edges)
    → then ≡ without now (get_or edges place 0) → then ≡ without_all stash (take (place + 1) edges)
gone-more {Half} stash now then edges place within before gone =
    let one : place + 1 ≡ suc place = omega arith in
    gone
    ∙ ap (λ (it : List (Option Half)). without it (get_or edges place 0)) before
    ∙ sym (without_all-more stash (take place edges) (get_or edges place 0))
    ∙ ap (without_all stash) (sym (take-suc edges place 0 within))
    ∙ ap (λ (it : ℕ). without_all stash (take it edges)) (sym one)

-- what is gone on the way lay there at first
pub lay-behind : {Half : Type 0} (stash now : List (Option Half)) (edges : List ℕ) → now ≡ without_all stash edges → LayBefore stash now
lay-behind {Half} stash now edges gone edge half is = lay_before_all stash edges edge half (ap (λ (it : List (Option Half)). half_of it edge) (sym gone) ∙ is)

-- what lies there behind a half that is gone lay there before it
pub lay-gone : {Half : Type 0} (stash then : List (Option Half)) (edge : ℕ) → then ≡ without stash edge → LayBefore stash then
lay-gone {Half} stash then edge gone other half is = lay_before stash edge other half (ap (λ (it : List (Option Half)). half_of it other) (sym gone) ∙ is)

drop-first : (edges : List ℕ) (place : ℕ) → place < length edges → drop place edges ≡ get_or edges place 0 ∷ drop (place + 1) edges
drop-first [] place within = absurd (omega (arith, within))
drop-first (first ∷ edges) zero within = refl
drop-first (first ∷ edges) (suc place) within =
    let shift : suc place + 1 ≡ suc (place + 1) = omega arith in
    drop-first edges place (omega (arith, within)) ∙ ap (λ (it : ℕ). get_or edges place 0 ∷ drop it (first ∷ edges)) (sym shift)

-- what holds of the edge at a place, and of those behind it, holds of those from the place on
pub all-from : (test : ℕ → Bool) (edges : List ℕ) (place : ℕ) → place < length edges → test (get_or edges place 0) ≡ true → list_all test (drop (place + 1) edges) ≡ true
    → list_all test (drop place edges) ≡ true
all-from test edges place within here behind =
    ap (list_all test) (drop-first edges place within) ∙ and_from (test (get_or edges place 0)) (list_all test (drop (place + 1) edges)) here behind

-- there is a half for each of the edges from a place on: one for the first, and where that is gone one for each of the rest
pub has_each-first : {Half : Type 0} (stash : List (Option Half)) (edges : List ℕ) (place : ℕ) → place < length edges
    → has_each stash (drop place edges) ≡ (is_some (half_of stash (get_or edges place 0)) && has_each (without stash (get_or edges place 0)) (drop (place + 1) edges))
has_each-first stash edges place within = ap (has_each stash) (drop-first edges place within)

pub has_each-rest : {Half : Type 0} (stash then : List (Option Half)) (edges : List ℕ) (place : ℕ) → place < length edges → is_some (half_of stash (get_or edges place 0)) ≡ true
    → then ≡ without stash (get_or edges place 0) → has_each stash (drop place edges) ≡ has_each then (drop (place + 1) edges)
has_each-rest {Half} stash then edges place within there gone =
    has_each-first stash edges place within
    ∙ ap (λ (it : Bool). it && has_each (without stash (get_or edges place 0)) (drop (place + 1) edges)) there
    ∙ ap (λ (it : List (Option Half)). has_each it (drop (place + 1) edges)) (sym gone)

-- one half more, for the next edge
pub passed : {Half Named : Type 0} (name : Half → Named) (named : ℕ → Named) (done now : List Half) (half : Half) (edges : List ℕ) (place : ℕ)
    → now ≡ done ++ half ∷ [] → place < length edges → name half ≡ named (get_or edges place 0) → map name done ≡ map named (take place edges)
    → map name now ≡ map named (take (place + 1) edges)
passed {Half} {Named} name named done now half edges place more within same before =
    let one : place + 1 ≡ suc place = omega arith in
    ap (map name) more
    ∙ map-append name done (half ∷ [])
    ∙ ap (λ (it : List Named). it ++ name half ∷ []) before
    ∙ ap (λ (it : Named). map named (take place edges) ++ it ∷ []) same
    ∙ sym (map-append named (take place edges) (get_or edges place 0 ∷ []))
    ∙ ap (map named) (sym (take-suc edges place 0 within))
    ∙ ap (λ (it : ℕ). map named (take it edges)) (sym one)

-- what is known of each half that lies there is known of those of these edges
pub named-each : {Half Named : Type 0} (name : Half → Named) (named : ℕ → Named) (stash : List (Option Half)) (halves : List Half) (edges : List ℕ)
    → ((edge : ℕ) (half : Half) → half_of stash edge ≡ Some half → name half ≡ named edge) → map Some halves ≡ map (half_of stash) edges → map name halves ≡ map named edges
named-each name named stash [] [] each are = refl
named-each name named stash [] (edge ∷ edges) each are = absurd (cc)
named-each name named stash (half ∷ halves) [] each are = absurd (cc)
named-each {Half} {Named} name named stash (half ∷ halves) (edge ∷ edges) each are =
    let first : half_of stash edge ≡ Some half = cc in
    let rest : map Some halves ≡ map (half_of stash) edges = cc in
    ap (λ (it : Named). it ∷ map name halves) (each edge half first) ∙ ap (λ (it : List Named). named edge ∷ it) (named-each name named stash halves edges each rest)

-- the takers that are left are those of the edges from this place on
pub record Left (stash : List (Option EdgeGiver)) (edges : List ℕ) (place : ℕ) (left : List EdgeTaker) : Type 0 where
  pub ids : ℕ → EdgeId
  pub pieces : ℕ → List Piece
  pub lie : Lie gives_over put_on ids pieces stash
  pub same : map takes_over left ≡ map ids (drop place edges)

-- where one is left there is an edge for it
pub left-within : (stash : List (Option EdgeGiver)) (edges : List ℕ) (place : ℕ) (taker : EdgeTaker) (rest left : List EdgeTaker) → left ≡ taker ∷ rest → Left stash edges place left
    → place < length edges
left-within stash edges place taker rest left is all = by_edges edges place (sym (ap (map takes_over) is) ∙ all.same)
  where
    by_edges : (edges : List ℕ) (place : ℕ) → takes_over taker ∷ map takes_over rest ≡ map all.ids (drop place edges) → place < length edges
    by_edges [] zero same = absurd (cc)
    by_edges [] (suc place) same = absurd (cc)
    by_edges (edge ∷ edges) zero same = omega arith
    by_edges (edge ∷ edges) (suc place) same = let within = by_edges edges place same in omega (arith, within)

-- the first of them is of the edge at this place
pub left-first : (stash : List (Option EdgeGiver)) (edges : List ℕ) (place : ℕ) (taker : EdgeTaker) (rest left : List EdgeTaker) → left ≡ taker ∷ rest → place < length edges
    → Left stash edges place left → CanSettle stash (get_or edges place 0) taker
left-first stash edges place taker rest left is within all = record {
  ids = all.ids;
  pieces = all.pieces;
  lie = all.lie;
  same = let both : takes_over taker ∷ map takes_over rest ≡ all.ids (get_or edges place 0) ∷ map all.ids (drop (place + 1) edges) =
      sym (ap (map takes_over) is) ∙ all.same ∙ ap (map all.ids) (drop-first edges place within) in cc;
}

pub left-rest : (stash stash' : List (Option EdgeGiver)) (edges : List ℕ) (place : ℕ) (taker : EdgeTaker) (rest left : List EdgeTaker) → left ≡ taker ∷ rest → place < length edges
    → stash' ≡ without stash (get_or edges place 0) → Left stash edges place left → Left stash' edges (place + 1) rest
left-rest stash stash' edges place taker rest left is within gone all = record {
  ids = all.ids;
  pieces = all.pieces;
  lie = λ edge half there. all.lie edge half (lay-gone stash stash' (get_or edges place 0) gone edge half there);
  same = let both : takes_over taker ∷ map takes_over rest ≡ all.ids (get_or edges place 0) ∷ map all.ids (drop (place + 1) edges) =
      sym (ap (map takes_over) is) ∙ all.same ∙ ap (map all.ids) (drop-first edges place within) in cc;
}

-- one taker has taken the pieces of its edge, and then the rest theirs
pub taken-first : (pieces : ℕ → List Piece) (edges : List ℕ) (place : ℕ) (taker : EdgeTaker) (rest left : List EdgeTaker) → left ≡ taker ∷ rest → place < length edges
    → taken_from taker ≡ pieces (get_or edges place 0) → map taken_from rest ≡ map pieces (drop (place + 1) edges) → map taken_from left ≡ map pieces (drop place edges)
taken-first pieces edges place taker rest left is within first others =
    ap (map taken_from) is
    ∙ ap (λ (it : List Piece). it ∷ map taken_from rest) first
    ∙ ap (λ (it : List (List Piece)). pieces (get_or edges place 0) ∷ it) others
    ∙ sym (ap (map pieces) (drop-first edges place within))

-- where none is left there is no edge left
pub none-left : (stash : List (Option EdgeGiver)) (edges : List ℕ) (place : ℕ) (left : List EdgeTaker) → left ≡ [] → Left stash edges place left → drop place edges ≡ []
none-left stash edges place left is all = by_edges (drop place edges) (sym (ap (map takes_over) is) ∙ all.same)
  where
    by_edges : (edges : List ℕ) → [] ≡ map all.ids edges → edges ≡ []
    by_edges [] same = refl
    by_edges (edge ∷ edges) same = absurd (cc)
