-- Paths spelled and read.
use Rattle.std.proofs.Common.{◌≡◌, ℕ, List, [], ◌∷◌, ◌++◌, Bool, true, false, not, ◌||◌, Some, None, refl, ap, sym, subst, ◌∙◌, cond}
use Rattle.std.specs.List.{flat_map, list_all, onto_first}
use Rattle.std.proofs.lemmas.Bool.{and_parts, eqb-true}
use Rattle.ps_world.specs.Paths.{Components, components, goes_up, has_slash, is_name, is_slash, path_from, path_of, slash, spelled, stays}

-- a slash before each
abbrev pub slashed : Components → List ℕ
slashed names = flat_map (λ part. slash ∷ part) names

pub append_nothing : {Item : Type 0} (items : List Item) → items ++ [] ≡ items
append_nothing [] = refl
append_nothing (item ∷ items) = ap (λ rest. item ∷ rest) (append_nothing items)

not-true : (test : Bool) → not test ≡ true → test ≡ false
not-true true is = absurd (cc)
not-true false is = refl

-- a text up to the next slash is one component
none-split : (text : List ℕ) → has_slash text ≡ false → components text ≡ text ∷ []
none-split [] none = refl
none-split (byte ∷ bytes) none = by (is_slash byte) refl none (none-split bytes)
  where
    by : (answer : Bool) → is_slash byte ≡ answer → (answer || has_slash bytes) ≡ false → (has_slash bytes ≡ false → components bytes ≡ bytes ∷ []) → components (byte ∷ bytes) ≡ (byte ∷ bytes) ∷ []
    by true is none rest = absurd (cc)
    by false is none rest = rw (is, rest none) refl

at-split : (text rest : List ℕ) → has_slash text ≡ false → components (text ++ slash ∷ rest) ≡ text ∷ components rest
at-split [] rest none = refl
at-split (byte ∷ bytes) rest none = by (is_slash byte) refl none (at-split bytes rest)
  where
    by : (answer : Bool) → is_slash byte ≡ answer → (answer || has_slash bytes) ≡ false
        → (has_slash bytes ≡ false → components (bytes ++ slash ∷ rest) ≡ bytes ∷ components rest) → components ((byte ∷ bytes) ++ slash ∷ rest) ≡ (byte ∷ bytes) ∷ components rest
    by true is none more = absurd (cc)
    by false is none more = rw (is, more none) refl

-- a name has no slash
name-slash : (name : List ℕ) → is_name name ≡ true → has_slash name ≡ false
name-slash name held = not-true (has_slash name) (and_parts (not (goes_up name)) (not (has_slash name)) (and_parts (not (stays name)) _ held).1).1

-- the components of names with slashes between them
split-slashed : (name : List ℕ) (names : Components) → has_slash name ≡ false → list_all is_name names ≡ true → components (name ++ slashed names) ≡ name ∷ names
split-slashed name [] none held = ap components (append_nothing name) ∙ none-split name none
split-slashed name (next ∷ names) none held =
    let halves = and_parts (is_name next) (list_all is_name names) held in
    at-split name (next ++ slashed names) none ∙ ap (λ rest. name ∷ rest) (split-slashed next names (name-slash next halves.0) halves.1)

-- a path is read from its text
from-back : (name : List ℕ) (names : Components) → list_all is_name (name ∷ names) ≡ true → path_of (slash ∷ (name ++ slashed names)) ≡ Some (name ∷ names)
unfolding stays
from-back [] names held = absurd (cc)
from-back (byte ∷ bytes) names held =
    let halves = and_parts (is_name (byte ∷ bytes)) (list_all is_name names) held in
    let split : components ((byte ∷ bytes) ++ slashed names) ≡ (byte ∷ bytes) ∷ names = split-slashed (byte ∷ bytes) names (name-slash (byte ∷ bytes) halves.0) halves.1 in
    ap path_from split ∙ rw held refl

pub path-back : (path : Components) → list_all is_name path ≡ true → path_of (spelled path) ≡ Some path
path-back [] held = refl
path-back (name ∷ names) held = from-back name names held

-- the components with a slash before each are the text with one in front
join-split : (text : List ℕ) → slashed (components text) ≡ slash ∷ text
join-split [] = refl
join-split (byte ∷ bytes) = by (is_slash byte) refl (join-split bytes)
  where
    onto : (parts : Components) → slashed parts ≡ slash ∷ bytes → slashed (onto_first byte parts) ≡ slash ∷ (byte ∷ bytes)
    onto [] joined = absurd (cc)
    onto (part ∷ parts) joined = let tail : part ++ slashed parts ≡ bytes = cc in ap (λ rest. slash ∷ (byte ∷ rest)) tail

    by : (answer : Bool) → is_slash byte ≡ answer → slashed (components bytes) ≡ slash ∷ bytes → slashed (components (byte ∷ bytes)) ≡ slash ∷ (byte ∷ bytes)
    by true is joined = rw is (ap (λ rest. slash ∷ rest) joined ∙ ap (λ it. slash ∷ (it ∷ bytes)) (sym (eqb-true byte slash is)))
    by false is joined = rw is (onto (components bytes) joined)

spelled-slashed : (parts : Components) (text : List ℕ) → slashed parts ≡ slash ∷ text → spelled parts ≡ slash ∷ text
spelled-slashed [] text joined = absurd (cc)
spelled-slashed (part ∷ parts) text joined = joined

names-forth : (parts path : Components) (text : List ℕ) (answer : Bool) → list_all is_name parts ≡ answer → slashed parts ≡ slash ∷ text
    → cond answer (Some parts) None ≡ Some path → (spelled path ≡ slash ∷ text) × (list_all is_name path ≡ true)
names-forth parts path text false held joined is = absurd (cc)
names-forth parts path text true held joined is =
    let same : parts ≡ path = cc in
    subst (λ it. (spelled it ≡ slash ∷ text) × (list_all is_name it ≡ true)) same (spelled-slashed parts text joined, held)

-- what is read is spelled by the text
pub path-forth : (text : List ℕ) (path : Components) → path_of text ≡ Some path → (spelled path ≡ text) × (list_all is_name path ≡ true)
path-forth [] path is = absurd (cc)
path-forth (byte ∷ []) path is = by (is_slash byte) refl is
  where
    by : (answer : Bool) → is_slash byte ≡ answer → cond answer (Some []) None ≡ Some path → (spelled path ≡ byte ∷ []) × (list_all is_name path ≡ true)
    by true same is =
        let root : [] ≡ path = cc in
        subst (λ it. (spelled it ≡ byte ∷ []) × (list_all is_name it ≡ true)) root (ap (λ it. it ∷ []) (sym (eqb-true byte slash same)), refl)
    by false same is = absurd (cc)
path-forth (byte ∷ next ∷ bytes) path is = by (is_slash byte) refl is
  where
    by : (answer : Bool) → is_slash byte ≡ answer → cond answer (path_from (components (next ∷ bytes))) None ≡ Some path
        → (spelled path ≡ byte ∷ (next ∷ bytes)) × (list_all is_name path ≡ true)
    by true same is =
        let there = names-forth (components (next ∷ bytes)) path (next ∷ bytes) (list_all is_name (components (next ∷ bytes))) refl (join-split (next ∷ bytes)) is in
        (there.0 ∙ ap (λ it. it ∷ (next ∷ bytes)) (sym (eqb-true byte slash same)), there.1)
    by false same is = absurd (cc)
