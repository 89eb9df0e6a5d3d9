-- The names of inputs.
use Rattle.std.proofs.Common.{◌≡◌, ◌≤◌, ◌<◌, ℕ, ◌+◌, Bool, true, false, List, [], ◌∷◌, ◌++◌, drop, get_or, length, refl, ap, sym, ◌∙◌, append_assoc, append-nil, arith, if◌then◌else◌}
use Rattle.std.proofs.lemmas.List.{drop-drop, drop-map, drop_all, length-map, take_rest}
use Rattle.std.specs.Global.{Vec}
use Rattle.std.specs.List.{filter}
use Rattle.ps_lines.specs.Texts.{texts_of}
use Rattle.ut_args.specs.Inputs.{is_named}

-- one operand, and those behind it
pub named-more : (operand : List ℕ) (operands : List (List ℕ))
    → filter is_named (operand ∷ operands) ≡ (if is_named operand then operand ∷ [] else []) ++ filter is_named operands
named-more operand operands = by_name (is_named operand)
  where
    by_name : (named : Bool) → (if named then operand ∷ filter is_named operands else filter is_named operands) ≡ (if named then operand ∷ [] else []) ++ filter is_named operands
    by_name true = refl
    by_name false = refl

pub ruleset named_steps = (named-more, append_assoc, append-nil)

-- the names that are still to come, where so many have come
pub names-left : (count : ℕ) (names : List (Vec ℕ)) → texts_of (drop count names) ≡ drop count (texts_of names)
names-left count names = sym (drop-map (λ (name : Vec ℕ). name.items) count names)

-- the first of them
pub first-name : (names : List (Vec ℕ)) (none : Vec ℕ) → 0 < length names → get_or (texts_of names) 0 [] ≡ (get_or names 0 none).items
first-name [] none some = absurd (omega arith)
first-name (name ∷ names) none some = refl

-- one more comes, or none is left
pub one-passed : (count : ℕ) (names : List (List ℕ)) → drop (count + 1) names ≡ drop 1 (drop count names)
one-passed count names = sym (drop-drop 1 count names)

pub all-passed : (count : ℕ) (names : List (Vec ℕ)) → length names ≤ count → drop count (texts_of names) ≡ drop 1 (drop count (texts_of names))
all-passed count names all =
    let none : drop count (texts_of names) ≡ [] = drop_all count (texts_of names) (omega (arith, all, length-map names (λ (name : Vec ℕ). name.items))) in
    none ∙ sym (ap (drop 1) none)

pub ruleset lefts = (take_rest, names-left)

pub ruleset firsts = (first-name)

pub ruleset passes = (one-passed, all-passed)
