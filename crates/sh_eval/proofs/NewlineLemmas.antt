-- The newlines at the end of a text, byte by byte.
use Rattle.std.proofs.Common.{◌≡◌, ◌==◌, ◌&&◌, ℕ, List, [], ◌∷◌, ◌++◌, Bool, true, false, if◌then◌else◌, refl, ap, ◌∙◌}
use Rattle.std.specs.List.{list_all}
use Rattle.std.proofs.lemmas.List.Folds.{list_all-append}
use Rattle.ps_lines.specs.declared.newlines.TheConstants.{NEWLINE}
use Rattle.sh_eval.specs.Newlines.{without_newlines}

all-front : (whole : Bool) → (whole && true) ≡ whole
all-front true = refl
all-front false = refl

none-front : (whole : Bool) → (whole && false) ≡ false
none-front true = refl
none-front false = refl

-- a newline at the end goes
pub newline-dropped : (front : List ℕ) (last : ℕ) → (last == NEWLINE) ≡ true → without_newlines (front ++ last ∷ []) ≡ without_newlines front
newline-dropped [] last is = rw is refl
newline-dropped (byte ∷ front) last is =
    let ends : list_all (λ next. next == NEWLINE) (last ∷ []) ≡ true = rw is refl in
    let same : list_all (λ next. next == NEWLINE) (byte ∷ front ++ last ∷ []) ≡ list_all (λ next. next == NEWLINE) (byte ∷ front) =
    list_all-append (λ next. next == NEWLINE) (byte ∷ front) (last ∷ []) ∙ ap (λ (it : Bool). list_all (λ next. next == NEWLINE) (byte ∷ front) && it) ends ∙ all-front (list_all (λ next. next == NEWLINE) (byte ∷ front)) in
    ap (λ (it : Bool). if it then [] else byte ∷ without_newlines (front ++ last ∷ [])) same
    ∙ ap (λ (it : List ℕ). if list_all (λ next. next == NEWLINE) (byte ∷ front) then [] else byte ∷ it) (newline-dropped front last is)

-- and another byte stays, with all before it
pub newline-kept : (front : List ℕ) (last : ℕ) → (last == NEWLINE) ≡ false → without_newlines (front ++ last ∷ []) ≡ front ++ last ∷ []
newline-kept [] last is = rw is refl
newline-kept (byte ∷ front) last is =
    let ends : list_all (λ next. next == NEWLINE) (last ∷ []) ≡ false = rw is refl in
    let other : list_all (λ next. next == NEWLINE) (byte ∷ front ++ last ∷ []) ≡ false =
    list_all-append (λ next. next == NEWLINE) (byte ∷ front) (last ∷ []) ∙ ap (λ (it : Bool). list_all (λ next. next == NEWLINE) (byte ∷ front) && it) ends ∙ none-front (list_all (λ next. next == NEWLINE) (byte ∷ front)) in
    ap (λ (it : Bool). if it then [] else byte ∷ without_newlines (front ++ last ∷ [])) other ∙ ap (λ (it : List ℕ). byte ∷ it) (newline-kept front last is)

pub ruleset newline_steps = (newline-dropped, newline-kept)
