-- Of pieces in a row: their bytes, their end, and that nothing stands behind what closes.
use Rattle.std.proofs.Common.{◌≡◌, ℕ, Bool, true, false, not, ◌&&◌, ◌||◌, List, [], ◌∷◌, ◌++◌, refl, sym, ap, ◌∙◌, true≢false, append_assoc}
use Rattle.fl_graph.specs.Machines.{closes, mark}
use Rattle.fl_graph.specs.Runs.{are_closed, completed, has_end, is_clean, text_of}
use Rattle.fl_graph.specs.declared.pieces.Piece.{Piece}
use Rattle.fl_graph.specs.declared.pieces.Piece.TheVariants as piece

pub text_of-append : (front back : List Piece) → text_of (front ++ back) ≡ text_of front ++ text_of back
text_of-append [] back = refl
text_of-append (piece.Bytes bytes ∷ front) back = ap (λ (text : List ℕ). bytes ++ text) (text_of-append front back) ∙ sym (append_assoc bytes (text_of front) (text_of back))
text_of-append (piece.Mark ∷ front) back = ap (λ (text : List ℕ). mark ∷ text) (text_of-append front back)
text_of-append (piece.End ∷ front) back = text_of-append front back
text_of-append (piece.Broken ∷ front) back = text_of-append front back

-- where no end has come, all of the rest follows
pub completed-open : (pieces : List Piece) (rest : List ℕ) → has_end pieces ≡ false → completed pieces rest ≡ text_of pieces ++ rest
completed-open [] rest none = refl
completed-open (piece.Bytes bytes ∷ pieces) rest none = ap (λ (text : List ℕ). bytes ++ text) (completed-open pieces rest none) ∙ sym (append_assoc bytes (text_of pieces) rest)
completed-open (piece.Mark ∷ pieces) rest none = ap (λ (text : List ℕ). mark ∷ text) (completed-open pieces rest none)
completed-open (piece.End ∷ pieces) rest none = absurd (true≢false none)
completed-open (piece.Broken ∷ pieces) rest none = completed-open pieces rest none

-- behind an end nothing follows
pub completed-ended : (pieces : List Piece) (rest : List ℕ) → is_clean pieces ≡ true → has_end pieces ≡ true → completed pieces rest ≡ text_of pieces
completed-ended [] rest clean ended = absurd (true≢false (sym ended))
completed-ended (piece.Bytes bytes ∷ []) rest clean ended = absurd (true≢false (sym ended))
completed-ended (piece.Mark ∷ []) rest clean ended = absurd (true≢false (sym ended))
completed-ended (piece.End ∷ []) rest clean ended = refl
completed-ended (piece.Broken ∷ []) rest clean ended = absurd (true≢false (sym ended))
completed-ended (piece.Bytes bytes ∷ next ∷ pieces) rest clean ended = ap (λ (text : List ℕ). bytes ++ text) (completed-ended (next ∷ pieces) rest clean ended)
completed-ended (piece.Mark ∷ next ∷ pieces) rest clean ended = ap (λ (text : List ℕ). mark ∷ text) (completed-ended (next ∷ pieces) rest clean ended)
completed-ended (piece.End ∷ next ∷ pieces) rest clean ended = absurd (true≢false (sym clean))
completed-ended (piece.Broken ∷ next ∷ pieces) rest clean ended = absurd (true≢false (sym clean))

-- an end closes
pub closed_by_end : (pieces : List Piece) → has_end pieces ≡ true → are_closed pieces ≡ true
closed_by_end [] ended = absurd (true≢false (sym ended))
closed_by_end (piece.Bytes bytes ∷ pieces) ended = closed_by_end pieces ended
closed_by_end (piece.Mark ∷ pieces) ended = closed_by_end pieces ended
closed_by_end (piece.End ∷ pieces) ended = refl
closed_by_end (piece.Broken ∷ pieces) ended = refl

-- of pieces that nothing closes and one more, this one closes them or nothing does
pub closed_by : (pieces : List Piece) (piece : Piece) → are_closed pieces ≡ false → are_closed (pieces ++ piece ∷ []) ≡ closes piece
closed_by [] piece still = or-none (closes piece)
  where
    or-none : (closing : Bool) → closing || false ≡ closing
    or-none true = refl
    or-none false = refl
closed_by (first ∷ pieces) piece still = by_first (closes first) still (closed_by pieces piece)
  where
    by_first : (closing : Bool) → closing || are_closed pieces ≡ false
        → (are_closed pieces ≡ false → are_closed (pieces ++ piece ∷ []) ≡ closes piece)
        → closing || are_closed (pieces ++ piece ∷ []) ≡ closes piece
    by_first true is more = absurd (true≢false is)
    by_first false is more = more is

-- nor does anything stand behind what closes in them
pub is_clean-add : (pieces : List Piece) (piece : Piece) → are_closed pieces ≡ false → is_clean (pieces ++ piece ∷ []) ≡ true
is_clean-add [] piece still = refl
is_clean-add (first ∷ []) piece still = by_first (closes first) still
  where
    by_first : (closing : Bool) → closing || false ≡ false → not closing && true ≡ true
    by_first true is = absurd (true≢false is)
    by_first false is = refl
is_clean-add (first ∷ next ∷ pieces) piece still = by_first (closes first) still (is_clean-add (next ∷ pieces) piece)
  where
    by_first : (closing : Bool) → closing || are_closed (next ∷ pieces) ≡ false
        → (are_closed (next ∷ pieces) ≡ false → is_clean ((next ∷ pieces) ++ piece ∷ []) ≡ true)
        → not closing && is_clean ((next ∷ pieces) ++ piece ∷ []) ≡ true
    by_first true is more = absurd (true≢false is)
    by_first false is more = more is

-- nothing stands behind pieces of which one closes
pub nothing-behind : (front behind : List Piece) → is_clean (front ++ behind) ≡ true → are_closed front ≡ true → behind ≡ []
nothing-behind [] behind clean closed = absurd (true≢false (sym closed))
nothing-behind (first ∷ []) [] clean closed = refl
nothing-behind (first ∷ []) (next ∷ behind) clean closed = by_first (closes first) clean closed
  where
    by_first : (closing : Bool) → not closing && is_clean (next ∷ behind) ≡ true → closing || false ≡ true → next ∷ behind ≡ []
    by_first true is closes_it = absurd (true≢false (sym is))
    by_first false is closes_it = absurd (true≢false (sym closes_it))
nothing-behind (first ∷ next ∷ front) behind clean closed = by_first (closes first) clean closed (nothing-behind (next ∷ front) behind)
  where
    by_first : (closing : Bool) → not closing && is_clean ((next ∷ front) ++ behind) ≡ true → closing || are_closed (next ∷ front) ≡ true
        → (is_clean ((next ∷ front) ++ behind) ≡ true → are_closed (next ∷ front) ≡ true → behind ≡ [])
        → behind ≡ []
    by_first true is closes_it more = absurd (true≢false (sym is))
    by_first false is closes_it more = more is closes_it
