-- Texts joined in order, as pieces of the first of them come.
use Rattle.std.proofs.Common.{◌≡◌, ℕ, zero, suc, ◌+◌, ◌-◌, ◌<◌, ◌==◌, List, [], ◌∷◌, ◌++◌, Bool, true, false, if◌then◌else◌, get_or, map, refl, ap, sym, ◌∙◌, append_assoc, arith}
use Rattle.std.specs.List.{concat, range_with_len}
use Rattle.std.proofs.lemmas.Bool.{eqb-true, eq-eqb}
use Rattle.std.proofs.Math.Dec.{eqb-suc-zero}
use Rattle.fl_graph.specs.Machines.{comes_first, comes}
use Rattle.fl_graph.specs.declared.pieces.Piece.{Piece}
use Rattle.fl_graph.specs.declared.pieces.Piece.TheVariants as piece
use Rattle.fl_classes.specs.Nodes.{texts_at}
use Rattle.fl_joints.specs.Joints.{joined_from}

-- what comes at a port comes there, and at no other
pub comes-there : (port : ℕ) (last : Piece) (texts : ℕ → List ℕ) → comes port last texts port ≡ comes_first last (texts port)
comes-there port last texts = ap (λ here. if here then comes_first last (texts port) else texts port) (eq-eqb port port refl)

pub comes-elsewhere : (port : ℕ) (last : Piece) (texts : ℕ → List ℕ) (other : ℕ) → port < other → comes port last texts other ≡ texts other
comes-elsewhere port last texts other later = choice (other == port) refl
  where
    choice : (here : Bool) → (other == port) ≡ here → (if here then comes_first last (texts other) else texts other) ≡ texts other
    choice true here = let same = eqb-true other port here in absurd (omega arith)
    choice false here = refl

joined-elsewhere : (port : ℕ) (last : Piece) (texts : ℕ → List ℕ) (from count : ℕ) → port < from → joined_from (comes port last texts) from count ≡ joined_from texts from count
joined-elsewhere port last texts from zero later = refl
joined-elsewhere port last texts from (suc count) later =
    ap (λ text. text ++ joined_from (comes port last texts) (from + 1) count) (comes-elsewhere port last texts from later)
    ∙ ap (λ rest. texts from ++ rest) (joined-elsewhere port last texts (from + 1) count (omega arith))

-- the first text begins with what comes
joined-first : (port : ℕ) (last : Piece) (texts : ℕ → List ℕ) (count : ℕ)
    → joined_from (comes port last texts) port (suc count) ≡ comes_first last (texts port) ++ joined_from texts (port + 1) count
joined-first port last texts count =
    ap (λ text. text ++ joined_from (comes port last texts) (port + 1) count) (comes-there port last texts)
    ∙ ap (λ rest. comes_first last (texts port) ++ rest) (joined-elsewhere port last texts (port + 1) count (omega arith))

pub joined-bytes : (port : ℕ) (bytes : List ℕ) (texts : ℕ → List ℕ) (count : ℕ) → 0 < count
    → joined_from (comes port (piece.Bytes bytes) texts) port count ≡ bytes ++ joined_from texts port count
joined-bytes port bytes texts zero some = absurd (omega arith)
joined-bytes port bytes texts (suc count) some = joined-first port (piece.Bytes bytes) texts count ∙ append_assoc bytes (texts port) (joined_from texts (port + 1) count)

-- and where it ends, the others are left
pub joined-end : (port : ℕ) (texts : ℕ → List ℕ) (count left : ℕ) → count ≡ left + 1
    → joined_from (comes port piece.End texts) port count ≡ joined_from texts (port + 1) left
joined-end port texts zero left next = absurd (omega arith)
joined-end port texts (suc count) left next = let same : count ≡ left = omega arith in joined-first port piece.End texts count ∙ ap (joined_from texts (port + 1)) same

-- those of all ports are the texts joined
joined-all : (texts : ℕ → List ℕ) (from count : ℕ) → joined_from texts from count ≡ concat (map texts (range_with_len from count))
joined-all texts from zero = refl
joined-all texts from (suc count) = ap (λ rest. texts from ++ rest) (joined-all texts (from + 1) count)

-- the one text of a node with one out
pub get_or-one : (text : List ℕ) (port : ℕ) → get_or (text ∷ []) port [] ≡ (if port == 0 then text else [])
get_or-one text zero = refl
get_or-one text (suc port) = ap (λ (here : Bool). if here then text else []) (sym (eqb-suc-zero port))

pub joined-given : (texts : ℕ → List ℕ) (ins : ℕ) (port : ℕ)
    → (if port == 0 then [] ++ joined_from texts 0 (ins - 0) else []) ≡ get_or (concat (texts_at ins texts) ∷ []) port []
joined-given texts ins port =
    let all : ins - 0 ≡ ins = omega arith in
    ap (λ text. if port == 0 then text else []) (ap (joined_from texts 0) all ∙ joined-all texts 0 ins) ∙ sym (get_or-one (concat (texts_at ins texts)) port)
