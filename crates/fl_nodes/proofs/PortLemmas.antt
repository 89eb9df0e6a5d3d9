-- The ports of one side of a node, of which the first may lead outside.
use Rattle.std.proofs.Common.{◌≡◌, ℕ, zero, suc, ◌<◌, List, [], ◌∷◌, ◌++◌, Bool, true, false, if◌then◌else◌, map, length, get_or, slice_set, Some, None, Result, Ok, Err, OnOk, OnErr, refl, ap, sym, ◌∙◌, eq-eqb, arith}
use Rattle.std.proofs.lemmas.Bool.{ne_eqb}
use Rattle.std.proofs.Math.Dec.{eqb-suc-suc}
use mathlib.Core.Path.{fun_ext}
use Rattle.fl_graph.specs.Runs.{add}
use Rattle.fl_graph.specs.declared.pieces.Piece.{Piece}
use Rattle.fl_nodes.specs.Work.{at, edge_at, side, width}

-- a piece more at the port of an edge
pub side-add : (outer : Bool) (outside : List Piece) (pieces pieces' : List (List Piece)) (port edge : ℕ) (last : Piece) → edge_at outer port ≡ Some edge
    → at pieces' ≡ add edge last (at pieces) → side outer outside pieces' ≡ add port last (side outer outside pieces)
side-add false outside pieces pieces' port edge last is grown =
    fun_ext (λ (other : ℕ). ap (λ (it : ℕ → List Piece). it other) grown ∙ ap (λ (it : ℕ). add it last (at pieces) other) (let same : edge ≡ port = cc in same))
side-add true outside pieces pieces' zero edge last is grown = absurd (cc)
side-add true outside pieces pieces' (suc port) edge last is grown = fun_ext by_port
  where
    by_port : (other : ℕ) → side true outside pieces' other ≡ add (suc port) last (side true outside pieces) other
    by_port zero = ap (λ (here : Bool). if here then outside ++ last ∷ [] else outside) (sym (ne_eqb zero (suc port) (λ never. cc)))
    by_port (suc other) =
        ap (λ (it : ℕ → List Piece). it other) grown
        ∙ ap (λ (it : ℕ). add it last (at pieces) other) (let same : edge ≡ port = cc in same)
        ∙ ap (λ (here : Bool). if here then at pieces other ++ last ∷ [] else at pieces other) (sym (eqb-suc-suc other port))

-- a piece more at the port that leads outside
pub side-outside : (outside : List Piece) (pieces : List (List Piece)) (last : Piece) → side true (outside ++ last ∷ []) pieces ≡ add zero last (side true outside pieces)
side-outside outside pieces last = fun_ext by_port
  where
    by_port : (other : ℕ) → side true (outside ++ last ∷ []) pieces other ≡ add zero last (side true outside pieces) other
    by_port zero = ap (λ (here : Bool). if here then outside ++ last ∷ [] else outside) (sym (eq-eqb zero zero refl))
    by_port (suc other) = ap (λ (here : Bool). if here then at pieces other ++ last ∷ [] else at pieces other) (sym (ne_eqb (suc other) zero (λ never. cc)))

-- what goes over the outside is at no port of a side that doesn't lead there
pub side-same : (outer : Bool) (outside outside' : List Piece) (pieces : List (List Piece)) → outer ≡ false → side outer outside pieces ≡ side outer outside' pieces
side-same outer outside outside' pieces none = fun_ext (λ (port : ℕ). by_outer outer port none)
  where
    by_outer : (outer : Bool) (port : ℕ) → outer ≡ false → side outer outside pieces port ≡ side outer outside' pieces port
    by_outer true port none = absurd (cc)
    by_outer false port none = refl

-- the port that leads outside is the first
pub outside-first : (outer : Bool) (port : ℕ) → edge_at outer port ≡ None → (outer ≡ true) × (port ≡ 0)
outside-first true zero is = (refl, refl)
outside-first true (suc port) is = absurd (cc)
outside-first false port is = absurd (cc)

-- the pieces at the port of an edge are those of the edge
pub side-edge : (outer : Bool) (outside : List Piece) (pieces : List (List Piece)) (port edge : ℕ) → edge_at outer port ≡ Some edge → side outer outside pieces port ≡ at pieces edge
side-edge true outside pieces zero edge is = absurd (cc)
side-edge true outside pieces (suc port) edge is = ap (at pieces) (let same : port ≡ edge = cc in same)
side-edge false outside pieces port edge is = ap (at pieces) (let same : port ≡ edge = cc in same)

-- the edge at a port that is known is one of the edges
pub edge-known : (outer : Bool) (port edge edges : ℕ) → edge_at outer port ≡ Some edge → port < width outer edges → edge < edges
edge-known true zero edge edges is known = absurd (cc)
edge-known true (suc port) edge edges is known = let same : port ≡ edge = cc in omega (arith, same, known)
edge-known false port edge edges is known = let same : port ≡ edge = cc in omega (arith, same, known)

-- a half that carried one piece more
pub at-set : {Half : Type 0} (pieces_of : Half → List Piece) (halves : List Half) (port : ℕ) (was half : Half) (last : Piece) → port < length halves
    → was ≡ get_or halves port was → pieces_of half ≡ pieces_of was ++ last ∷ []
    → at (map pieces_of (slice_set halves port half)) ≡ add port last (at (map pieces_of halves))
at-set {Half} pieces_of halves port was half last known is grown = fun_ext (λ (other : ℕ). by_port halves port known is other)
  where
    by_port : (halves : List Half) (port : ℕ) → port < length halves → was ≡ get_or halves port was → (other : ℕ)
        → at (map pieces_of (slice_set halves port half)) other ≡ add port last (at (map pieces_of halves)) other
    by_port [] port known is other = absurd (omega (arith, known))
    by_port (first ∷ halves) zero known is zero =
        grown ∙ ap (λ (it : Half). pieces_of it ++ last ∷ []) is
        ∙ ap (λ (here : Bool). if here then pieces_of first ++ last ∷ [] else pieces_of first) (sym (eq-eqb zero zero refl))
    by_port (first ∷ halves) zero known is (suc other) =
        ap (λ (here : Bool). if here then at (map pieces_of halves) other ++ last ∷ [] else at (map pieces_of halves) other) (sym (ne_eqb (suc other) zero (λ never. cc)))
    by_port (first ∷ halves) (suc port) known is zero =
        ap (λ (here : Bool). if here then pieces_of first ++ last ∷ [] else pieces_of first) (sym (ne_eqb zero (suc port) (λ never. cc)))
    by_port (first ∷ halves) (suc port) known is (suc other) =
        by_port halves port (omega (arith, known)) is other
        ∙ ap (λ (here : Bool). if here then at (map pieces_of halves) other ++ last ∷ [] else at (map pieces_of halves) other) (sym (eqb-suc-suc other port))

-- what follows from the one where all went well follows where it did
pub on_ok : {Value Fault : Type 0} {One Other : Type 0} (result : Result Value Fault) → (One → Other) → OnOk result One → OnOk result Other
on_ok (Ok value) goes holds = goes holds
on_ok (Err fault) goes holds = tt

pub on_err : {Value Fault : Type 0} {One Other : Type 0} (result : Result Value Fault) → (One → Other) → OnErr result One → OnErr result Other
on_err (Ok value) goes holds = tt
on_err (Err fault) goes holds = goes holds
