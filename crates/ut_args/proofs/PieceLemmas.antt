-- Texts between separators, piece by piece.
use Rattle.std.proofs.Common.{◌≡◌, ℕ, Bool, true, false, List, [], ◌∷◌, ◌++◌, sym, append_assoc, Option, Some, None, refl, ap, ◌∙◌, if◌then◌else◌}
use Rattle.std.specs.List.{onto_first}
use Rattle.std.specs.Option.{unwrap_or}
use Rattle.ut_options.specs.Rows.{is_among}
use Rattle.ut_args.specs.Pieces.{before_separator, cut_at, cut_by, from_separator, pieces}

-- where there is no separator, the bytes before the first are all
whole : (separators text : List ℕ) → from_separator separators text ≡ [] → before_separator separators text ≡ text
whole separators [] none = refl
whole separators (byte ∷ rest) none = by_byte (is_among separators byte) none (whole separators rest)
  where
    by_byte : (among : Bool) → (if among then byte ∷ rest else from_separator separators rest) ≡ []
        → (from_separator separators rest ≡ [] → before_separator separators rest ≡ rest)
        → (if among then [] else byte ∷ before_separator separators rest) ≡ byte ∷ rest
    by_byte true none on = cc
    by_byte false none on = ap (λ others. byte ∷ others) (on none)

-- the pieces of a text by the text before its first separator and what stands from that on
abbrev pub pieces_by : List ℕ → List ℕ → List ℕ → List (List ℕ)
pieces_by separators before [] = before ∷ []
pieces_by separators before (separator ∷ behind) = before ∷ pieces separators behind

onto-pieces_by : (separators : List ℕ) (byte : ℕ) (before behind : List ℕ)
    → onto_first byte (pieces_by separators before behind) ≡ pieces_by separators (byte ∷ before) behind
onto-pieces_by separators byte before [] = refl
onto-pieces_by separators byte before (separator ∷ behind) = refl

pub pieces-cut : (separators text : List ℕ) → pieces separators text ≡ pieces_by separators (before_separator separators text) (from_separator separators text)
pieces-cut separators [] = refl
pieces-cut separators (byte ∷ rest) =
    by_byte (is_among separators byte)
    (ap (onto_first byte) (pieces-cut separators rest) ∙ onto-pieces_by separators byte (before_separator separators rest) (from_separator separators rest))
  where
    by_byte : (among : Bool) → onto_first byte (pieces separators rest) ≡ pieces_by separators (byte ∷ before_separator separators rest) (from_separator separators rest)
        → (if among then [] ∷ pieces separators rest else onto_first byte (pieces separators rest))
        ≡ pieces_by separators (if among then [] else byte ∷ before_separator separators rest) (if among then byte ∷ rest else from_separator separators rest)
    by_byte true behind = refl
    by_byte false behind = behind

-- where there is a separator, the pieces are the text before it and those behind it
pub pieces-some : (separators text before behind : List ℕ) → cut_at separators text ≡ Some (before, behind)
    → pieces separators text ≡ before ∷ pieces separators behind
pieces-some separators text before behind cut =
    pieces-cut separators text ∙ by_cut (before_separator separators text) (from_separator separators text) cut
  where
    pieces_of : List ℕ × List ℕ → List (List ℕ)
    pieces_of parts = parts.0 ∷ pieces separators parts.1

    by_cut : (front from : List ℕ) → cut_by front from ≡ Some (before, behind) → pieces_by separators front from ≡ before ∷ pieces separators behind
    by_cut front [] cut = cc
    by_cut front (separator ∷ back) cut = ap (λ found. pieces_of (unwrap_or {T = List ℕ × List ℕ} found (front, back))) cut

-- where there is none, the text is the only piece
pub pieces-none : (separators text : List ℕ) → cut_at separators text ≡ None → pieces separators text ≡ text ∷ []
pieces-none separators text none = pieces-cut separators text ∙ alone (from_separator separators text) refl none
  where
    alone : (from : List ℕ) → from_separator separators text ≡ from → cut_by (before_separator separators text) from ≡ None
        → pieces_by separators (before_separator separators text) from ≡ text ∷ []
    alone [] is none = ap (λ piece. piece ∷ []) (whole separators text is)
    alone (separator ∷ back) is none = cc

-- one piece more
pub pieces_step : (separators text piece behind : List ℕ) (whole texts more : List (List ℕ)) → cut_at separators text ≡ Some (piece, behind)
    → more ≡ texts ++ piece ∷ [] → whole ≡ texts ++ pieces separators text → whole ≡ more ++ pieces separators behind
pieces_step separators text piece behind whole texts more cut is so_far =
    rw is (so_far ∙ (ap (λ others. texts ++ others) (pieces-some separators text piece behind cut) ∙ sym (append_assoc texts (piece ∷ []) (pieces separators behind))))

pub ruleset pieces_steps = (pieces-some, pieces-none)
