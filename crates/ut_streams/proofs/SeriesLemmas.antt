-- Inputs that are fed one after another, each in pieces.
use Rattle.std.proofs.Common.{◌≡◌, ℕ, ◌<◌, ◌≤◌, ◌-◌, List, [], ◌∷◌, ◌++◌, length, take, drop, get_or, Bool, true, false, refl, ap, sym, ◌∙◌, append-nil, arith}
use Rattle.std.proofs.lemmas.Bool.{true≢false}
use Rattle.std.proofs.lemmas.List.{take_rest}
use Rattle.std.specs.Global.{Vec}
use Rattle.std.specs.List.{concat}
use Rattle.ps_lines.specs.Texts.{texts_of}
use Rattle.ut_streams.specs.Streams.{whole_texts, Wrote}
use Rattle.ut_streams.proofs.StreamLemmas.{Wrote-at, Wrote-broken, Wrote-next, Wrote-trans}

-- the first of the pieces that are left, and the others
pub pieces-first : (left : List (Vec ℕ)) (none : Vec ℕ) → 1 ≤ length left
    → concat (texts_of left) ≡ (get_or left 0 none).items ++ concat (texts_of (take (length left - 1) (drop 1 left)))
pieces-first [] none some = absurd (omega arith)
pieces-first (piece ∷ others) none some = ap (λ rest. piece.items ++ concat (texts_of rest)) (sym (take_rest (piece ∷ others) 1))

pub pieces-none : (left : List (Vec ℕ)) → length left < 1 → concat (texts_of left) ≡ []
pieces-none [] none = refl
pieces-none (piece ∷ others) none = absurd (omega arith)

-- the first of the inputs that are left, and the others
pub inputs-first : (left : List (Vec (Vec ℕ))) (none : Vec (Vec ℕ)) → 1 ≤ length left
    → whole_texts left ≡ concat (texts_of (get_or left 0 none).items) ∷ whole_texts (take (length left - 1) (drop 1 left))
inputs-first [] none some = absurd (omega arith)
inputs-first (input ∷ others) none some = ap (λ rest. concat (texts_of input.items) ∷ whole_texts rest) (sym (take_rest (input ∷ others) 1))

pub inputs-none : (left : List (Vec (Vec ℕ))) → length left < 1 → whole_texts left ≡ []
inputs-none [] none = refl
inputs-none (input ∷ others) none = absurd (omega arith)

-- pieces were fed, and one more is
pub Wrote-next_piece : (first due due' : List ℕ → List ℕ) (left rest : List (Vec ℕ)) (piece old half new : List ℕ) (whole : Bool)
    → concat (texts_of left) ≡ piece ++ concat (texts_of rest)
    → Wrote first (λ more. due (concat (texts_of left) ++ more)) old half true → Wrote (λ more. due (piece ++ more)) due' half new whole
    → Wrote first (λ more. due' (concat (texts_of rest) ++ more)) old new whole
Wrote-next_piece first due due' left rest piece old half new whole same fed wrote =
    Wrote-next first due due' piece (concat (texts_of rest)) old half new whole
    (Wrote-at first first (λ more. due (concat (texts_of left) ++ more)) (λ more. due ((piece ++ concat (texts_of rest)) ++ more)) old half true (λ more. refl)
    (λ more. ap (λ text. due (text ++ more)) (sym same)) fed) wrote

-- all were
pub Wrote-all_pieces : (first due : List ℕ → List ℕ) (left : List (Vec ℕ)) (old new : List ℕ) → length left < 1
    → Wrote first (λ more. due (concat (texts_of left) ++ more)) old new true → Wrote first due old new true
Wrote-all_pieces first due left old new none fed =
    Wrote-at first first (λ more. due (concat (texts_of left) ++ more)) due old new true (λ more. refl) (λ more. ap (λ text. due (text ++ more)) (sym (pieces-none left none))) fed

-- inputs were fed, and one more is
pub Wrote-next_input : (first due due' : List (List ℕ) → List ℕ) (left rest : List (Vec (Vec ℕ))) (text old half new : List ℕ) (whole : Bool)
    → whole_texts left ≡ text ∷ whole_texts rest
    → Wrote first (λ more. due (whole_texts left ++ more)) old half true → Wrote (λ others. due (text ∷ others)) due' half new whole
    → Wrote first (λ more. due' (whole_texts rest ++ more)) old new whole
Wrote-next_input first due due' left rest text old half new whole same fed wrote =
    Wrote-trans first (λ more. due (whole_texts left ++ more)) (λ more. due' (whole_texts rest ++ more)) old half new whole fed
    (record {
      kept = wrote.kept;
      grew = λ ok more. wrote.grew ok (whole_texts rest ++ more) ∙ ap (λ texts. half ++ due (texts ++ more)) (sym same);
      part = λ more. ap (λ texts. take (length new) (half ++ due (texts ++ more))) same ∙ wrote.part (whole_texts rest ++ more);
    })

pub Wrote-all_inputs : (first due : List (List ℕ) → List ℕ) (left : List (Vec (Vec ℕ))) (old new : List ℕ) → length left < 1
    → Wrote first (λ more. due (whole_texts left ++ more)) old new true → Wrote first due old new true
Wrote-all_inputs first due left old new none fed =
    Wrote-at first first (λ more. due (whole_texts left ++ more)) due old new true (λ more. refl) (λ more. ap (λ texts. due (texts ++ more)) (sym (inputs-none left none))) fed

-- an input was fed, and ends
module _ (due mid : List (List ℕ) → List ℕ) (text old : List ℕ) where
  abbrev Fed : List ℕ → Bool → Type 0
  Fed new whole = (others : List (List ℕ)) → Wrote (λ more. due ((text ++ more) ∷ others)) (λ more. mid (more ∷ others)) old new whole

  pub Wrote-input_end : (now : List (List ℕ) → List ℕ) (half new : List ℕ) (whole : Bool) → Fed half true → Wrote (λ others. mid ([] ∷ others)) now half new whole
      → Wrote (λ others. due (text ∷ others)) now old new whole
  Wrote-input_end now half new whole fed ended =
      Wrote-trans (λ others. due (text ∷ others)) (λ others. mid ([] ∷ others)) now old half new whole
      (record {
        kept = (fed []).kept;
        grew = λ ok others. (fed others).grew ok [] ∙ ap (λ text. old ++ due (text ∷ others)) (append-nil text);
        part = λ others. ap (λ text. take (length half) (old ++ due (text ∷ others))) (sym (append-nil text)) ∙ (fed others).part [];
      }) ended

  -- memory was wanted before its end
  pub Wrote-input_stopped : (now : List (List ℕ) → List ℕ) (new : List ℕ) → Fed new false → Wrote (λ others. due (text ∷ others)) now old new false
  Wrote-input_stopped now new fed =
      record {
        kept = (fed []).kept;
        grew = λ ok. absurd (true≢false (sym ok));
        part = λ others. ap (λ text. take (length new) (old ++ due (text ∷ others))) (sym (append-nil text)) ∙ (fed others).part [];
      }
