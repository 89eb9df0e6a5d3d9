-- Several expressions, and expressions of bytes.
use Rattle.std.proofs.Common.{◌≡◌, ℕ, ◌<◌, ◌≤◌, ◌⊎◌, inl, inr, ◌||◌, Bool, true, false, List, [], ◌∷◌, length, take, drop, get_or, ◌-◌, refl, ap, ◌∙◌, arith}
use Rattle.std.specs.List.{list_any}
use Rattle.ut_regex.specs.Answers.{is_had}
use Rattle.ut_regex.specs.Several.{any_of, in_order, or_any, then_bytes, trees_of}
use Rattle.ut_regex.specs.Spans.{Has}
use Rattle.ut_regex.specs.Tree.{Tree, leaf, line_end, alternative, last_tree, sequence, tree, with_nodes}
use Rattle.ut_regex.specs.declared.tree.Node.{Node}
use Rattle.ut_regex.specs.declared.tree.Regex.{Regex}
use Rattle.ut_regex.specs.declared.tree.Leaf.TheVariants.{Any, Byte}
use Rattle.ut_regex.proofs.AnswerLemmas.{no_answer, same_answer}
use Rattle.ut_regex.proofs.CoreLemmas.{or_cases, or_first, or_second}
use Rattle.ut_regex.proofs.RunLemmas.{had-has}

-- a line has one of two expressions where it has one of them
has-either : (fold whole : Bool) (line : List ℕ) (first second : Tree) → Has fold whole line (alternative first second) → Has fold whole line first ⊎ Has fold whole line second
has-either fold true line first second has = has
has-either fold false line first second (from, to, within, inl has) = inl (from, to, within, has)
has-either fold false line first second (from, to, within, inr has) = inr (from, to, within, has)

either-has : (fold whole : Bool) (line : List ℕ) (first second : Tree) → Has fold whole line first ⊎ Has fold whole line second → Has fold whole line (alternative first second)
either-has fold true line first second has = has
either-has fold false line first second (inl (from, to, within, has)) = (from, to, within, inl has)
either-has fold false line first second (inr (from, to, within, has)) = (from, to, within, inr has)

had-either : (fold whole : Bool) (line : List ℕ) (first second : Tree)
    → is_had fold whole (alternative first second) line ≡ (is_had fold whole first line || is_had fold whole second line)
had-either fold whole line first second =
    let one = had-has fold whole first line in
    let other = had-has fold whole second line in
    same_answer (is_had fold whole (alternative first second) line) (is_had fold whole first line || is_had fold whole second line)
    (Has fold whole line (alternative first second)) (had-has fold whole (alternative first second) line) (
      λ either. either-has fold whole line first second (elim (or_cases (is_had fold whole first line) _ either) [
        | inl is ↦ inl (one.0 is)
        | inr is ↦ inr (other.0 is)
      ]),
      λ has. elim (has-either fold whole line first second has) [
        | inl is ↦ or_first _ _ (one.1 is)
        | inr is ↦ or_second (is_had fold whole first line) _ (other.1 is)
      ],
    )

or_assoc : (one other third : Bool) → ((one || other) || third) ≡ (one || (other || third))
or_assoc true other third = refl
or_assoc false other third = refl

or_none : (one : Bool) → one ≡ (one || false)
or_none true = refl
or_none false = refl

had-or_any : (fold whole : Bool) (line : List ℕ) (re : Tree) (others : List Tree)
    → is_had fold whole (or_any re others) line ≡ (is_had fold whole re line || list_any (λ re. is_had fold whole re line) others)
had-or_any fold whole line re [] = or_none (is_had fold whole re line)
had-or_any fold whole line re (other ∷ others) =
    had-or_any fold whole line (alternative re other) others
    ∙ ap (λ one. one || list_any (λ re. is_had fold whole re line) others) (had-either fold whole line re other)
    ∙ or_assoc (is_had fold whole re line) (is_had fold whole other line) (list_any (λ re. is_had fold whole re line) others)

has-nothing : (fold whole : Bool) (line : List ℕ) → ¬ Has fold whole line (sequence line_end (leaf Any))
has-nothing fold true line (middle, (at, same), (within, to, fits)) = absurd (omega (arith, at, same, within))
has-nothing fold false line (from, to, low, (middle, (at, same), (within, behind, fits))) = absurd (omega (arith, at, same, within))

-- a line has one of several expressions where it has some of them
pub had-any : (fold whole : Bool) (line : List ℕ) (trees : List Tree)
    → is_had fold whole (any_of trees) line ≡ list_any (λ re. is_had fold whole re line) trees
had-any fold whole line [] =
    no_answer (is_had fold whole (any_of []) line) (Has fold whole line (any_of [])) (had-has fold whole (any_of []) line) (has-nothing fold whole line)
had-any fold whole line (re ∷ others) = had-or_any fold whole line re others

-- all bytes were added
pub plain_made : (nodes : List Node) (left bytes : List ℕ) (re : Tree) → length left < 1 → with_nodes [] nodes ≡ re ∷ [] → then_bytes re left ≡ in_order bytes
    → last_tree (with_nodes [] nodes) ≡ in_order bytes
plain_made nodes [] bytes re none one is = ap last_tree one ∙ is
plain_made nodes (byte ∷ left) bytes re none one is = absurd (omega (arith, none))

-- a side more, and a byte more
all-take : {X : Type 0} (items : List X) → take (length items) items ≡ items
all-take [] = refl
all-take (first ∷ items) = ap (λ rest. first ∷ rest) (all-take items)

pub side_more : (left : List Regex) (re : Tree) (other : Regex) → other ≡ get_or left 0 other → 1 ≤ length left
    → or_any (alternative re (tree other)) (trees_of (take (length left - 1) (drop 1 left))) ≡ or_any re (trees_of left)
side_more [] re other is some = absurd (omega (arith, some))
side_more (first ∷ left) re other is some =
    let size : length (first ∷ left) - 1 ≡ length left = omega arith in
    ap (λ count. or_any (alternative re (tree other)) (trees_of (take count left))) size
    ∙ ap (λ rest. or_any (alternative re (tree other)) (trees_of rest)) (all-take left)
    ∙ ap (λ other. or_any (alternative re (tree other)) (trees_of left)) is

pub any_more : (all : List Regex) (first : Regex) → first ≡ get_or all 0 first → 1 ≤ length all
    → or_any (tree first) (trees_of (take (length all - 1) (drop 1 all))) ≡ any_of (trees_of all)
any_more [] first is some = absurd (omega (arith, some))
any_more (one ∷ others) first is some =
    let size : length (one ∷ others) - 1 ≡ length others = omega arith in
    ap (λ count. or_any (tree first) (trees_of (take count others))) size ∙ ap (λ rest. or_any (tree first) (trees_of rest)) (all-take others)
    ∙ ap (λ first. or_any (tree first) (trees_of others)) is

pub byte_more : (left : List ℕ) (re : Tree) → 1 ≤ length left
    → then_bytes (sequence re (leaf (Byte (get_or left 0 0)))) (take (length left - 1) (drop 1 left)) ≡ then_bytes re left
byte_more [] re some = absurd (omega (arith, some))
byte_more (first ∷ left) re some =
    let size : length (first ∷ left) - 1 ≡ length left = omega arith in
    ap (λ count. then_bytes (sequence re (leaf (Byte first))) (take count left)) size ∙ ap (λ rest. then_bytes (sequence re (leaf (Byte first))) rest) (all-take left)
