-- What an expression begins with, and the places of a text where it may.
use Rattle.std.proofs.Common.{ℕ, zero, suc, ◌≡◌, ◌+◌, ◌<◌, ◌≤◌, ◌&&◌, Bool, true, false, inl, inr, List, [], ◌∷◌, ◌++◌, length, slice_index, slice_index_or, take, refl, ap, sym, subst, ◌∙◌, arith, length-append, nat_lt, if◌then◌else◌}
use Rattle.std.proofs.Math.Seq.{take_all}
use Rattle.std.proofs.lemmas.Bool.{false≢true}
use Rattle.ut_regex.specs.declared.front.Front.{Front}
use Rattle.ut_regex.specs.declared.tree.Bounds.{Bounds}
use Rattle.ut_regex.specs.declared.tree.Leaf.{Leaf}
use Rattle.ut_regex.specs.declared.tree.Leaf.TheVariants.{Any}
use Rattle.ut_regex.specs.Tree.{Tree, leaf, sequence, alternative, repetition}
use Rattle.ut_regex.specs.Spans.{fits, Copies, Spans}
use Rattle.ut_regex.specs.Inner.Fronts.{FitAt, IsFront, IsJoined, IsWider}
use Rattle.ut_regex.specs.Inner.Lanes.{Covers, least, lesser}
use Rattle.std.proofs.lemmas.Bool.{cases_lt}
use Rattle.memchr.specs.Find.{Nowhere}

-- bytes that fit leaves behind others
fit-append : (fold : Bool) (line : List ℕ) (front back : List Leaf) (place : ℕ) → FitAt fold line front place → FitAt fold line back (place + length front)
    → FitAt fold line (front ++ back) place
fit-append fold line [] back place h k = subst (λ p. FitAt fold line back p) (omega arith) k
fit-append fold line (one ∷ front) back place (within, is, more) k =
    (within, is, fit-append fold line front back (place + 1) more (subst (λ p. FitAt fold line back p) (omega arith) k))

fit-take : (fold : Bool) (line : List ℕ) (leaves : List Leaf) (count place : ℕ) → FitAt fold line leaves place → FitAt fold line (take count leaves) place
fit-take fold line leaves zero place h = tt
fit-take fold line [] (suc count) place h = tt
fit-take fold line (one ∷ leaves) (suc count) place (within, is, more) = (within, is, fit-take fold line leaves count (place + 1) more)

-- bytes that fit leaves fit wider ones, and fewer
fit-wider : (fold : Bool) (line : List ℕ) (wide leaves : List Leaf) (place : ℕ) → length wide ≤ length leaves
    → ((at : ℕ) → at < length wide → IsWider (slice_index_or wide at Any) (slice_index_or leaves at Any)) → FitAt fold line leaves place
    → FitAt fold line wide place
fit-wider fold line [] leaves place short wider h = tt
fit-wider fold line (one ∷ wide) [] place short wider h = absurd (omega (arith, short))
fit-wider fold line (one ∷ wide) (other ∷ leaves) place short wider (within, is, more) = (
  within,
  wider 0 (omega arith) fold (slice_index line place) is,
  fit-wider fold line wide leaves (place + 1) (omega (arith, short)) (λ at low. wider (suc at) (omega (arith, low))) more,
)

-- the fronts of the parts of an expression
pub unknown-front : (front : Front) → front.leaves.items ≡ [] → front.exact ≡ false → (fold : Bool) (re : Tree) → IsFront fold re front
unknown-front front none inexact fold re = record {
  begins = λ line from to h. subst (λ leaves. FitAt fold line leaves from) (sym none) tt;
  exact = λ is. absurd (false≢true (sym inexact ∙ is));
}

pub no_bytes-front : (front : Front) → front.leaves.items ≡ [] → (fold : Bool) (re : Tree)
    → ((line : List ℕ) (from to : ℕ) → Spans fold line re from to → to ≡ from) → IsFront fold re front
no_bytes-front front none fold re nowhere = record {
  begins = λ line from to h. subst (λ leaves. FitAt fold line leaves from) (sym none) tt;
  exact = λ is line from to h. let no : length front.leaves.items ≡ 0 = ap length none in omega (arith, nowhere line from to h, no);
}

pub leaf-front : (front : Front) (one : Leaf) → front.leaves.items ≡ one ∷ [] → (fold : Bool) → IsFront fold (leaf one) front
leaf-front front one is fold = record {
  begins = λ line from to h. subst (λ leaves. FitAt fold line leaves from) (sym is) (h.0, h.2, tt);
  exact = λ exact line from to h. let size : length front.leaves.items ≡ 1 = ap length is in omega (arith, h.1, size);
}

pub kept-front : (front : Front) → front.exact ≡ false → (fold : Bool) (re last : Tree) → IsFront fold re front → IsFront fold (sequence re last) front
kept-front front inexact fold re last begun = record {
  begins = λ line from to h. begun.begins line from h.0 h.1;
  exact = λ is. absurd (false≢true (sym inexact ∙ is));
}

pub followed-front : (first second made : Front) (count : ℕ) → first.exact ≡ true → made.leaves.items ≡ first.leaves.items ++ take count second.leaves.items
    → (made.exact ≡ true → (second.exact ≡ true) × (count ≡ length second.leaves.items)) → (fold : Bool) (re last : Tree) → IsFront fold re first
    → IsFront fold last second → IsFront fold (sequence re last) made
followed-front first second made count exact is whole fold re last front back = record {
  begins = λ line from to h.
      subst (λ leaves. FitAt fold line leaves from) (sym is)
      (fit-append fold line first.leaves.items (take count second.leaves.items) from (front.begins line from h.0 h.1)
      (fit-take fold line second.leaves.items count (from + length first.leaves.items)
      (subst (λ place. FitAt fold line second.leaves.items place) (front.exact exact line from h.0 h.1) (back.begins line h.0 to h.2))));
  exact = λ all line from to h.
      let both = whole all in
      let taken : take count second.leaves.items ≡ second.leaves.items = take_all count second.leaves.items (omega (arith, both.1)) in
      let size : length made.leaves.items ≡ length first.leaves.items + length second.leaves.items =
      ap length is ∙ length-append first.leaves.items (take count second.leaves.items) ∙ ap (λ leaves. length first.leaves.items + length leaves) taken in
      omega (arith, front.exact exact line from h.0 h.1, back.exact both.0 line h.0 to h.2, size);
}

pub either-front : (first second made : Front) → IsJoined made.leaves.items first.leaves.items second.leaves.items (length made.leaves.items)
    → length made.leaves.items ≤ length first.leaves.items → length made.leaves.items ≤ length second.leaves.items
    → (made.exact ≡ true → (first.exact ≡ true) × (second.exact ≡ true) × (length made.leaves.items ≡ length first.leaves.items) × (length made.leaves.items ≡ length second.leaves.items))
    → (fold : Bool) (re other : Tree) → IsFront fold re first → IsFront fold other second → IsFront fold (alternative re other) made
either-front first second made joined short_first short_second whole fold re other front back = record {
  begins = λ line from to h. elim h [
    | inl there ↦ fit-wider fold line made.leaves.items first.leaves.items from short_first joined.first_wider (front.begins line from to there)
    | inr there ↦ fit-wider fold line made.leaves.items second.leaves.items from short_second joined.second_wider (back.begins line from to there)
  ];
  exact = λ all line from to h.
      let both = whole all in
      elim h [
        | inl there ↦ omega (arith, front.exact both.0 line from to there, both.2)
        | inr there ↦ omega (arith, back.exact both.1 line from to there, both.3)
      ];
}

-- of copies that aren't none the first begins where they do
first-copy : (One : ℕ → ℕ → Type 0) (count from to : ℕ) → 0 < count → Copies One count from to → (middle : ℕ) × One from middle
first-copy One zero from to some copies = absurd (omega (arith, some))
first-copy One (suc zero) from to some (middle, at, one) = (to, subst (λ place. One place to) at one)
first-copy One (suc (suc count)) from to some (middle, copies, one) = first-copy One (suc count) from middle (omega arith) copies

pub repeated-front : (part made : Front) → made.leaves.items ≡ part.leaves.items → made.exact ≡ false → (fold : Bool) (bounds : Bounds) (re : Tree)
    → 0 < bounds.low → IsFront fold re part → IsFront fold (repetition bounds re) made
repeated-front part made same inexact fold bounds re some begun = record {
  begins = λ line from to h.
      let first = first-copy (Spans fold line re) h.0 from to (omega (arith, some, h.1.0)) h.2 in
      subst (λ leaves. FitAt fold line leaves from) (sym same) (begun.begins line from first.0 first.1);
  exact = λ is. absurd (false≢true (sym inexact ∙ is));
}

-- both parts of a conjunction
pub both-true : (first second : Bool) → (first && second) ≡ true → (first ≡ true) × (second ≡ true)
both-true true second h = (refl, h)
both-true false second h = absurd (false≢true h)

-- what fits the leaf that stands so far behind
fit-at : (fold : Bool) (line : List ℕ) (leaves : List Leaf) (place offset : ℕ) → FitAt fold line leaves place
    → fits fold (slice_index_or leaves offset Any) (slice_index line (place + offset)) ≡ true
fit-at fold line [] place offset h = refl
fit-at fold line (one ∷ leaves) place zero (here, is, more) = let e : place + zero ≡ place = omega arith in rw e is
fit-at fold line (one ∷ leaves) place (suc offset) (here, is, more) =
    let e : place + suc offset ≡ place + 1 + offset = omega arith in rw e (fit-at fold line leaves (place + 1) offset more)

positive-lesser : (first second : ℕ) → 0 < first → 0 < second → 0 < lesser first second
positive-lesser first second some more = by_test (nat_lt first second)
  where
    by_test : (less : Bool) → 0 < (if less then first else second)
    by_test true = some
    by_test false = more

module _ (fold : Bool) (leaves : List Leaf) (first second third fourth : List ℕ) (first_covers : Covers first fold (slice_index_or leaves 0 Any))
    (second_covers : Covers second fold (slice_index_or leaves 1 Any)) (third_covers : Covers third fold (slice_index_or leaves 2 Any))
    (fourth_covers : Covers fourth fold (slice_index_or leaves 3 Any)) (text : List ℕ) (bytes : (place : ℕ) → slice_index text place < 256) where
  -- where bytes fit the leaves, each of the tests tells it
  positive : (place : ℕ) → FitAt fold text leaves place → 0 < least first second third fourth text place
  positive place h =
      let here : place + 0 ≡ place = omega arith in
      positive-lesser _ _
      (positive-lesser _ _ (first_covers (slice_index text place) (bytes place) (ap (λ at. fits fold (slice_index_or leaves 0 Any) (slice_index text at)) (sym here) ∙ fit-at fold text leaves place 0 h))
      (second_covers (slice_index text (place + 1)) (bytes (place + 1)) (fit-at fold text leaves place 1 h)))
      (positive-lesser _ _ (third_covers (slice_index text (place + 2)) (bytes (place + 2)) (fit-at fold text leaves place 2 h))
      (fourth_covers (slice_index text (place + 3)) (bytes (place + 3)) (fit-at fold text leaves place 3 h)))

  lacking : (place : ℕ) → least first second third fourth text place ≡ 0 → ¬ FitAt fold text leaves place
  lacking place none h = let some = positive place h in omega (arith, some, none)

  -- where the bytes fit at none of so many places, the search goes on behind these
  pub walked : (place count : ℕ) → Nowhere (FitAt fold text leaves) 0 place
      → ((later : ℕ) → place ≤ later → later < place + count → least first second third fourth text later ≡ 0) → Nowhere (FitAt fold text leaves) 0 (place + count)
  walked place count before none k low high fits = elim (cases_lt k place) [
    | inl within ↦ before k low within fits
    | inr behind ↦ lacking k (none k behind high) fits
  ]
