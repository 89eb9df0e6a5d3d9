-- Expressions that are the same are had by the same lines.
use Rattle.std.proofs.Common.{ℕ, ◌≡◌, ◌≤◌, ◌&&◌, ◌||◌, inl, inr, Bool, true, false, not, nat_lt, List, slice_index, IfSome, refl, ap₂, sym, subst, ◌∙◌}
use Rattle.std.proofs.lemmas.Bool.{ltb-true}
use Rattle.ps_lines.specs.ByteSet.{has_byte}
use Rattle.ps_lines.specs.declared.ByteSet.{ByteSet}
use Rattle.ut_regex.specs.declared.tree.Bounds.{Bounds}
use Rattle.ut_regex.specs.declared.tree.Leaf.{Leaf}
use Rattle.ut_regex.specs.Spans.{in_set, other_case, fits, Allows, Spans, Has}
use Rattle.ut_regex.specs.Tree.{Tree}
use Rattle.ut_regex.specs.Same.{SameLeaf, same_byte, same_any, same_among, same_not_among, SameBounds, SameBytes, SameTree, same_leaf, same_begin, same_end, same_empty, same_group, same_sequence, same_alternative, same_repetition}
use Rattle.ut_regex.proofs.TreeLemmas.{Copies-map}

in_set_same : (set other : ByteSet) → SameBytes set other → (byte : ℕ) → in_set set byte ≡ in_set other byte
in_set_same set other same byte = by_size (nat_lt byte 256) refl
  where
    by_size : (small : Bool) → nat_lt byte 256 ≡ small → (small && has_byte set byte) ≡ (small && has_byte other byte)
    by_size true is = same byte (ltb-true byte 256 is)
    by_size false is = refl

fits_same : (fold : Bool) {one other : Leaf} → SameLeaf one other → (byte : ℕ) → fits fold one byte ≡ fits fold other byte
fits_same fold same_byte byte = refl
fits_same fold same_any byte = refl
fits_same fold (same_among {set} {other} same) byte =
    ap₂ (λ here there. here || (fold && there)) (in_set_same set other same byte) (in_set_same set other same (other_case byte))
fits_same fold (same_not_among {set} {other} same) byte =
    ap₂ (λ here there. not (here || (fold && there))) (in_set_same set other same byte) (in_set_same set other same (other_case byte))

allows_same : (one other : Bounds) → SameBounds one other → (count : ℕ) → Allows one count → Allows other count
allows_same one other same count (least, most) =
    (subst (λ low. low ≤ count) same.0 least, subst (λ high. IfSome high (λ most. count ≤ most)) same.1 most)

spans_same : (fold : Bool) (line : List ℕ) {re other : Tree} → SameTree re other
    → (from to : ℕ) → Spans fold line re from to → Spans fold line other from to
spans_same fold line (same_leaf same) from to (within, at, is) =
    (within, at, sym (fits_same fold same (slice_index line from)) ∙ is)
spans_same fold line same_begin from to h = h
spans_same fold line same_end from to h = h
spans_same fold line same_empty from to h = h
spans_same fold line (same_group same) from to h = spans_same fold line same from to h
spans_same fold line (same_sequence same more) from to (middle, first, second) =
    (middle, spans_same fold line same from middle first, spans_same fold line more middle to second)
spans_same fold line (same_alternative same more) from to (inl h) = inl (spans_same fold line same from to h)
spans_same fold line (same_alternative same more) from to (inr h) = inr (spans_same fold line more from to h)
spans_same fold line (same_repetition {one} {other} {part} {again} limits same) from to (count, allows, copies) = (
  count,
  allows_same one other limits count allows,
  Copies-map (Spans fold line part) (Spans fold line again) (λ from to h. spans_same fold line same from to h) count from to copies,
)

pub has_same : (fold whole : Bool) (line : List ℕ) (re other : Tree) → SameTree re other
    → Has fold whole line re → Has fold whole line other
has_same fold true line re other same h = spans_same fold line same 0 _ h
has_same fold false line re other same (from, to, within, h) = (from, to, within, spans_same fold line same from to h)
