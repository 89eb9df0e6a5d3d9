-- What came from the outside of a node that reads, where its end tells its text: with the rest of that it completes to all of it.
use Rattle.std.proofs.Common.{◌≡◌, ℕ, List, [], ◌∷◌, ◌++◌, Bool, true, false, Option, Some, None, refl, ap, sym, ◌∙◌, append_assoc, append-nil}
use Rattle.std.proofs.lemmas.Bool.{true≢false}
use Rattle.fl_graph.specs.Runs.{completed, has_end, text_of}
use Rattle.fl_graph.specs.declared.pieces.Piece.{Piece}
use Rattle.fl_graph.proofs.PieceLemmas.{completed-open, completed-ended}
use Rattle.fl_nodes.specs.Ends.{EndState}
use Rattle.fl_nodes.specs.Work.{Moved}
use Rattle.ps_world.specs.Told.{bytes_then, IsEnded}
use Rattle.ps_world.specs.declared.error.WorldErr.{WorldErr}

-- the text that an end tells begins with what came
told_rest : (text front : List ℕ) (rest : Option (List ℕ)) → Some text ≡ bytes_then front rest → (back : List ℕ) × ((rest ≡ Some back) × (text ≡ front ++ back))
told_rest text front None same = absurd (cc)
told_rest text front (Some back) same = (back, (refl, cc))

-- the rest completes what came to the whole text
pub source-completes : (from now : EndState) (failure : Option WorldErr) (outside : List Piece) (text : List ℕ) → Moved from now failure outside → from.reads ≡ true → from.left ≡ Some text
    → (rest : List ℕ) × (completed outside rest ≡ text)
source-completes from now failure outside text moved reads told = by_end (has_end outside) refl (told_rest text (text_of outside) moved.rest (sym told ∙ moved.read reads))
  where
    by_end : (ended : Bool) → has_end outside ≡ ended → (back : List ℕ) × ((moved.rest ≡ Some back) × (text ≡ text_of outside ++ back)) → (rest : List ℕ) × (completed outside rest ≡ text)
    by_end false none found = (found.0, completed-open outside found.0 none ∙ sym found.1.1)
    by_end true is found =
        let over : moved.rest ≡ Some [] = ended_rest moved.rest found.0 found.1.0 (moved.ended reads is) in
        let nothing : found.0 ≡ [] = (let both : Some found.0 ≡ Some [] = sym found.1.0 ∙ over in cc) in
        (found.0, completed-ended outside found.0 moved.clean is ∙ sym (found.1.1 ∙ ap (λ (it : List ℕ). text_of outside ++ it) nothing ∙ append-nil (text_of outside)))
      where
        ended_rest : (rest : Option (List ℕ)) (back : List ℕ) → rest ≡ Some back → IsEnded rest → rest ≡ Some []
        ended_rest None back is over = absurd (cc)
        ended_rest (Some one) back is over = over

-- and it is all of the text where its end came
pub source-whole : (from now : EndState) (failure : Option WorldErr) (outside : List Piece) (text : List ℕ) → Moved from now failure outside → from.reads ≡ true → from.left ≡ Some text
    → has_end outside ≡ true → text ≡ text_of outside
source-whole from now failure outside text moved reads told ended =
    let completes = source-completes from now failure outside text moved reads told in
    sym completes.1 ∙ completed-ended outside completes.0 moved.clean ended
