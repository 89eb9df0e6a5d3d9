-- A word without backslash-newlines, by its first byte.
use Rattle.std.proofs.Common.{◌≡◌, ℕ, List, [], ◌∷◌, ◌++◌, map, take, sym, ◌∙◌, ap, append_assoc}
use Rattle.std.proofs.lemmas.List.{append-nil}
use Rattle.sh_lex.specs.Texts.{unspliced}
use Rattle.sh_lex.proofs.Fronts.{fronts-none, fronts-more}
use Rattle.sh_parse.specs.Kinds.{spelled}

-- at the end
pub spelled-none : (text : List ℕ) → unspliced text ≡ [] → spelled text ≡ []
unfolding spelled
spelled-none text h = ap (map (λ front. front.0)) (fronts-none text h)

-- at a byte
pub spelled-front : (byte : ℕ) (rest text : List ℕ) → unspliced text ≡ byte ∷ rest → spelled text ≡ byte ∷ spelled rest
unfolding spelled
spelled-front byte rest text h = ap (map (λ front. front.0)) (fronts-more byte rest text h)

-- one more byte at the end of those so far, and no more
pub grown : (all before after more left : List ℕ) (byte : ℕ) → all ≡ before ++ more → more ≡ byte ∷ left → after ≡ before ++ byte ∷ []
    → all ≡ after ++ left
grown all before after more left byte h e p =
    h ∙ ap (λ m. before ++ m) e ∙ sym (append_assoc before (byte ∷ []) left) ∙ ap (λ a. a ++ left) (sym p)

pub whole : (all before more : List ℕ) → all ≡ before ++ more → more ≡ [] → before ≡ all
whole all before more h e = sym (h ∙ ap (λ m. before ++ m) e ∙ append-nil before)

-- the first byte, where there is one
pub first_pushed : (before after text rest : List ℕ) (byte : ℕ) → unspliced text ≡ byte ∷ rest → after ≡ before ++ byte ∷ []
    → after ≡ before ++ take 1 (spelled text)
first_pushed before after text rest byte h p = p ∙ ap (λ x. before ++ take 1 x) (sym (spelled-front byte rest text h))

pub none_pushed : (before text : List ℕ) → unspliced text ≡ [] → before ≡ before ++ take 1 (spelled text)
none_pushed before text h = sym (append-nil before) ∙ ap (λ x. before ++ take 1 x) (sym (spelled-none text h))
