-- A line whose last byte gives way to a name.
use Rattle.std.proofs.Common.{◌≡◌, ℕ, suc, ◌+◌, ◌-◌, Bool, List, [], ◌∷◌, ◌++◌, ◌<◌, length, take, get_or, take_all, Option, Some, None, refl, ap, sym, ◌∙◌, append_assoc, arith}
use Rattle.std.proofs.lemmas.List.{take_more}
use Rattle.std.specs.Option.{option_to_list}
use Rattle.ut_streams.specs.Streams.{Put, Wrote}
use Rattle.ut_streams.proofs.StreamLemmas.{Wrote-put, Wrote-same}
use Rattle.ut_groups.specs.Columns.{behind_space, without_last}
use Rattle.ut_groups.specs.Wc.{with_name}

-- bytes before a last one are passed on
without_last-behind : (front : List ℕ) (byte : ℕ) (rest : List ℕ) → without_last (front ++ byte ∷ rest) ≡ front ++ without_last (byte ∷ rest)
without_last-behind [] byte rest = refl
without_last-behind (first ∷ front) byte rest =
    let size : length (first ∷ (front ++ byte ∷ rest)) - 1 ≡ suc (length (front ++ byte ∷ rest) - 1) = some front in
    ap (λ count. take count (first ∷ (front ++ byte ∷ rest))) size ∙ ap (λ more. first ∷ more) (without_last-behind front byte rest)
  where
    some : (front : List ℕ) → length (first ∷ (front ++ byte ∷ rest)) - 1 ≡ suc (length (front ++ byte ∷ rest) - 1)
    some [] = omega arith
    some (second ∷ front) = omega arith

with_name-passes : (name front : List ℕ) (byte : ℕ) (rest : List ℕ) → with_name name (front ++ byte ∷ rest) ≡ front ++ with_name name (byte ∷ rest)
with_name-passes name front byte rest =
    ap (λ text. text ++ (behind_space name ++ 10 ∷ [])) (without_last-behind front byte rest)
    ∙ append_assoc front (without_last (byte ∷ rest)) (behind_space name ++ 10 ∷ [])

-- a piece that isn't empty: all but its last byte go on, behind the one that was held
pub Wrote-named : (name held front : List ℕ) (last : ℕ) (old new : List ℕ) (whole : Bool) → Put (held ++ front) old new whole
    → Wrote (λ more. with_name name (held ++ ((front ++ last ∷ []) ++ more))) (λ more. with_name name ((last ∷ []) ++ more)) old new whole
Wrote-named name held front last old new whole put =
    Wrote-put (λ more. with_name name (held ++ ((front ++ last ∷ []) ++ more))) (λ more. with_name name ((last ∷ []) ++ more)) (held ++ front) old new whole
    (λ more. ap (λ text. with_name name (held ++ text)) (append_assoc front (last ∷ []) more)
    ∙ ap (with_name name) (sym (append_assoc held front (last ∷ more)))
    ∙ with_name-passes name (held ++ front) last more) put

pub split-last : (piece : List ℕ) → 0 < length piece → piece ≡ take (length piece - 1) piece ++ get_or piece (length piece - 1) 0 ∷ []
split-last piece some =
    let size : length piece ≡ (length piece - 1) + 1 = omega arith in
    sym (take_all (length piece) piece (omega arith)) ∙ ap (λ count. take count piece) size ∙ take_more piece (length piece - 1) 0 (omega arith)

pub Wrote-passed : (name held piece front : List ℕ) (last : ℕ) (old new : List ℕ) (whole : Bool) → piece ≡ front ++ last ∷ [] → Put (held ++ front) old new whole
    → Wrote (λ more. with_name name (held ++ (piece ++ more))) (λ more. with_name name ((last ∷ []) ++ more)) old new whole
Wrote-passed name held piece front last old new whole is put = rw is (Wrote-named name held front last old new whole put)

-- at the end the byte that is held gives way
pub named-end : (name : List ℕ) (held : Option ℕ) → with_name name (option_to_list held ++ []) ≡ behind_space name ++ 10 ∷ []
named-end name None = refl
named-end name (Some byte) = refl

pub ruleset passes = (Wrote-same)

pub ruleset ends = named-end
