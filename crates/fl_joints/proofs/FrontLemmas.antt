-- A text that waits, as pieces of its front are put.
use Rattle.std.proofs.Common.{◌≡◌, ℕ, ◌+◌, ◌-◌, ◌<◌, ◌≤◌, ◌==◌, List, [], ◌∷◌, ◌++◌, length, take, drop, min, if◌then◌else◌, get_or, refl, ap, sym, ◌∙◌, length-drop, arith}
use Rattle.std.proofs.lemmas.List.{take-append-drop, drop-drop, length-take}
use Rattle.fl_joints.proofs.JoinLemmas.{get_or-one}

-- a front and what is behind it
pub drop-front : (text bytes : List ℕ) (given count : ℕ) → count ≤ length (drop given text) → bytes ≡ take count (drop given text)
    → drop given text ≡ bytes ++ drop (given + length bytes) text
drop-front text bytes given count within front =
    let size : length bytes ≡ count = ap length front ∙ length-take count (drop given text) ∙ omega arith in
    let behind : drop count (drop given text) ≡ drop (given + length bytes) text = drop-drop count given text ∙ ap (λ place. drop place text) (omega arith) in
    sym (take-append-drop count (drop given text)) ∙ ap (λ rest. take count (drop given text) ++ rest) behind ∙ ap (λ start. start ++ drop (given + length bytes) text) (sym front)

pub drop-piece : (text bytes : List ℕ) (given most : ℕ) → bytes ≡ take (min (length (drop given text)) most) (drop given text)
    → drop given text ≡ bytes ++ drop (given + length bytes) text
drop-piece text bytes given most front = drop-front text bytes given (min (length (drop given text)) most) (omega arith) front

pub ruleset fronts = (drop-piece, length-take, length-drop)

-- all of the text waits at the beginning
pub text-given : (text : List ℕ) (given port : ℕ) → given ≡ 0 → (if port == 0 then drop given text else []) ≡ get_or (text ∷ []) port []
text-given text given port none = ap (λ given. if port == 0 then drop given text else []) none ∙ sym (get_or-one text port)
