-- What is known behind a mark.
use Rattle.std.proofs.Common.{◌≡◌, ℕ, zero, suc, ◌+◌, List, [], ◌∷◌, ◌++◌, length, drop, get_or, reverse, refl, sym, ap, ◌∙◌, arith, MatchOption}
use Rattle.std.specs.Option.{option_to_list, unwrap_or}
use Rattle.std.specs.declared.option.Option.{Option}
use Rattle.std.specs.declared.option.Option.TheVariants.{None, Some}
use Rattle.std.proofs.lemmas.Grind.{get_or_after_one}
use Rattle.std.proofs.lemmas.List.{reverse-append, append-nil}
use Rattle.sh_lex.specs.declared.lexing.marks.Mark.{Mark}
use Rattle.sh_lex.specs.declared.lexing.marks.Mark.TheVariants as mark
use Rattle.sh_parse.specs.Texts.{word_end}
use Rattle.sh_parse.specs.Inner.Behind.{open_ends, IsBehind}
use Rattle.sh_parse.specs.declared.texts.Behind.{Behind}

-- a word inside which words are open has the next of the ends
word_end-open_ends : (marks : List Mark) (inner : ℕ) → word_end marks inner ≡ get_or (open_ends marks) inner 0
word_end-open_ends [] inner = refl
word_end-open_ends (mark.WordBegin _ ∷ rest) inner =
    let next : suc inner ≡ 1 + inner = omega arith in
    word_end-open_ends rest (suc inner) ∙ ap (λ place. get_or (open_ends rest) place 0) next
    ∙ sym (get_or_after_one (open_ends rest) inner 0)
word_end-open_ends (mark.WordEnd to ∷ rest) zero = refl
word_end-open_ends (mark.WordEnd to ∷ rest) (suc inner) = word_end-open_ends rest inner
word_end-open_ends (mark.Token _ ∷ rest) inner = word_end-open_ends rest inner
word_end-open_ends (mark.SubOpen _ ∷ rest) inner = word_end-open_ends rest inner
word_end-open_ends (mark.SubClose ∷ rest) inner = word_end-open_ends rest inner
word_end-open_ends (mark.Close ∷ rest) inner = word_end-open_ends rest inner

-- the end that is taken, and those that are left
taken : (old new : List ℕ) (last : Option ℕ) (count after : ℕ) → old ≡ new ++ option_to_list last → count ≡ length old
    → MatchOption last ((count ≡ 0) × (after ≡ 0)) (λ _. after + 1 ≡ count)
    → (unwrap_or last 0 ≡ get_or (reverse old) 0 0) × (reverse new ≡ drop 1 (reverse old))
taken old new (Some last) count after e same cases =
    let turned : reverse old ≡ last ∷ reverse new = ap reverse e ∙ reverse-append new (last ∷ []) in
    (sym (ap (λ ends. get_or ends 0 0) turned), sym (ap (λ ends. drop 1 ends) turned))
taken [] new None count after e same cases = (refl, ap reverse (sym (e ∙ append-nil new)))
taken (first ∷ rest) new None count after e same cases = absurd (omega (arith, same, cases.0))

-- where the open words are those of these marks
pub word_ended : (marks : List Mark) (old new : List ℕ) (last : Option ℕ) (count after : ℕ) → old ≡ new ++ option_to_list last
    → count ≡ length old → MatchOption last ((count ≡ 0) × (after ≡ 0)) (λ _. after + 1 ≡ count) → reverse old ≡ open_ends marks
    → (unwrap_or last 0 ≡ word_end marks 0) × (reverse new ≡ drop 1 (open_ends marks))
word_ended marks old new last count after e same cases known =
    let took = taken old new last count after e same cases in
    (took.0 ∙ ap (λ ends. get_or ends 0 0) known ∙ sym (word_end-open_ends marks 0), took.1 ∙ ap (λ ends. drop 1 ends) known)

-- the walk so far
pub record Walked (text : List ℕ) (all before : List Mark) (behind : Behind) : Type 0 where
  pub passed : List Mark
  pub whole : all ≡ before ++ passed
  pub known : IsBehind text passed behind
