-- Pieces that carry a text: what was taken of them carries it too, and with the rest of the text it completes to all of it.
use Rattle.std.proofs.Common.{◌≡◌, ℕ, List, [], ◌∷◌, ◌++◌, Bool, true, false, length, drop, refl, ap, sym, ◌∙◌, subst, append_assoc, append-nil}
use Rattle.std.proofs.lemmas.Bool.{true≢false}
use Rattle.std.proofs.lemmas.List.{take-append-drop}
use Rattle.std.proofs.Math.Seq.{take-append_seam}
use Rattle.ps_lines.specs.Texts.{BeginsWith}
use Rattle.fl_graph.specs.Runs.{text_of, has_end, completed, is_clean}
use Rattle.fl_graph.specs.declared.pieces.Piece.{Piece}
use Rattle.fl_graph.proofs.PieceLemmas.{closed_by_end, completed-ended, completed-open, nothing-behind, text_of-append}
use Rattle.fl_net.specs.Laws.{Carries}

-- a text that begins with the one of two begins with the first
BeginsWith-front : (text front back : List ℕ) → BeginsWith text (front ++ back) → BeginsWith text front
BeginsWith-front text front back begins =
    let rest = drop (length (front ++ back)) text in
    let whole : front ++ (back ++ rest) ≡ text =
    sym (append_assoc front back rest) ∙ ap (λ (first : List ℕ). first ++ rest) (sym begins) ∙ take-append-drop (length (front ++ back)) text in
    subst (λ (it : List ℕ). BeginsWith it front) whole (take-append_seam front (back ++ rest))

-- what was taken of pieces that carry a text
module _ (put taken waiting : List Piece) (text : List ℕ) (queued : put ≡ taken ++ waiting) (clean : is_clean put ≡ true) (carries : Carries put text) where
  all_taken : has_end taken ≡ true → put ≡ taken
  all_taken ended =
      queued ∙ ap (λ (rest : List Piece). taken ++ rest) (nothing-behind taken waiting (ap is_clean (sym queued) ∙ clean) (closed_by_end taken ended)) ∙ append-nil taken

  pub taken_begins : BeginsWith text (text_of taken)
  taken_begins = BeginsWith-front text (text_of taken) (text_of waiting) (subst (λ (front : List ℕ). BeginsWith text front) (ap text_of queued ∙ text_of-append taken waiting) carries.front)

  pub taken_whole : has_end taken ≡ true → text ≡ text_of taken
  taken_whole ended = let same = all_taken ended in carries.whole (ap has_end same ∙ ended) ∙ ap text_of same

  -- an end that was taken lets nothing follow
  pub taken_closed : has_end taken ≡ true → (rest : List ℕ) → completed taken rest ≡ text
  taken_closed ended rest = completed-ended taken rest (ap is_clean (sym (all_taken ended)) ∙ clean) ended ∙ sym (taken_whole ended)

  -- the rest of the text completes it
  pub taken_completes : completed taken (drop (length (text_of taken)) text) ≡ text
  taken_completes = by_end (has_end taken) refl
    where
      by_end : (ended : Bool) → has_end taken ≡ ended → completed taken (drop (length (text_of taken)) text) ≡ text
      by_end true is = taken_closed is (drop (length (text_of taken)) text)
      by_end false is =
          let rest = drop (length (text_of taken)) text in
          completed-open taken rest is ∙ ap (λ (first : List ℕ). first ++ rest) (sym taken_begins) ∙ take-append-drop (length (text_of taken)) text
