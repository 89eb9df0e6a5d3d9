-- Numbers that are marked one after another, and how often each is among them.
use Rattle.std.proofs.Common.{◌≡◌, ℕ, zero, suc, ◌+◌, ◌<◌, ◌≤◌, List, [], ◌∷◌, Bool, true, false, if◌then◌else◌, length, get_or, set, replicate, refl, ap, sym, ◌∙◌, arith, ⊎_elim, eq-eqb}
use Rattle.std.specs.List.{list_all}
use Rattle.std.proofs.lemmas.Bool.{and_parts, and_from, cases_eq, cases_lt, ne_eqb, not-true, not_from_false}
use Rattle.std.proofs.lemmas.List.{get_or_default, get_or_past, get_or-set_same, get_or-set_other, get_or-replicate, length-set, length-replicate}
use Rattle.fl_graph.specs.Net.{count}
use Rattle.fl_text.specs.Inner.Wirings.{are_free, is_free}

-- how often the number is marked
abbrev marked : List Bool → ℕ → ℕ
marked marks number = if get_or marks number false then 1 else 0

-- each number that has a mark is marked or among these, once, and no other number is among them
record AreFree (marks : List Bool) (numbers : List ℕ) : Type 0 where
  below : (number : ℕ) → number < length marks → marked marks number + count number numbers ≡ 1
  above : (number : ℕ) → length marks ≤ number → count number numbers ≡ 0

-- a mark that counts once is set, and one that counts nothing is not
mark_set : (mark : Bool) → if◌then◌else◌ {A = ℕ} mark 1 0 ≡ 1 → mark ≡ true
mark_set true is = refl
mark_set false is = absurd (omega (arith, is))

mark_unset : (mark : Bool) → if◌then◌else◌ {A = ℕ} mark 1 0 ≡ 0 → mark ≡ false
mark_unset true is = absurd (omega (arith, is))
mark_unset false is = refl

-- marks that are all set are set each, and the other way round
all-set : (marks : List Bool) → list_all (λ mark. mark) marks ≡ true → (number : ℕ) → number < length marks → get_or marks number false ≡ true
all-set [] all number below = absurd (omega (arith, below))
all-set (mark ∷ marks) all zero below = (and_parts mark (list_all (λ mark. mark) marks) all).0
all-set (mark ∷ marks) all (suc number) below = all-set marks (and_parts mark (list_all (λ mark. mark) marks) all).1 number (omega (arith, below))

each-set : (marks : List Bool) → ((number : ℕ) → number < length marks → get_or marks number false ≡ true) → list_all (λ mark. mark) marks ≡ true
each-set [] each = refl
each-set (mark ∷ marks) each = and_from mark (list_all (λ mark. mark) marks) (each 0 (omega arith)) (each-set marks (λ number below. each (suc number) (omega (arith, below))))

-- a number that is free has a mark, which isn't set
record IsFree (marks : List Bool) (number : ℕ) : Type 0 where
  below : number < length marks
  unset : get_or marks number false ≡ false

free_parts : (marks : List Bool) (number : ℕ) → is_free marks number ≡ true → IsFree marks number
free_parts marks number free =
    let unset : get_or marks number true ≡ false = not-true (get_or marks number true) free in
    ⊎_elim
    (λ (below : number < length marks). record { below = below; unset = get_or_default marks number false true below ∙ unset })
    (λ (above : length marks ≤ number). let set : get_or marks number true ≡ true = get_or_past marks number true above in absurd (cc))
    (cases_lt number (length marks))

-- and the other way round
free_from : (marks : List Bool) (number : ℕ) → number < length marks → get_or marks number false ≡ false → is_free marks number ≡ true
free_from marks number below unset = not_from_false (get_or marks number true) (get_or_default marks number true false below ∙ unset)

-- one more number that is marked is one less that is to come
moved : (marks : List Bool) (number : ℕ) (numbers : List ℕ) → number < length marks → get_or marks number false ≡ false → (other : ℕ)
    → marked (set marks number true) other + count other numbers ≡ marked marks other + count other (number ∷ numbers)
moved marks number numbers below unset other =
    ⊎_elim
    (λ (same : other ≡ number).
    let now : get_or (set marks number true) other false ≡ true = ap (λ (at : ℕ). get_or (set marks number true) at false) same ∙ get_or-set_same marks number true false below in
    let was : get_or marks other false ≡ false = ap (λ (at : ℕ). get_or marks at false) same ∙ unset in
    rw (now, was, eq-eqb number other (sym same)) (omega arith))
    (λ (apart : other ≡ number → ⊥).
    let now : get_or (set marks number true) other false ≡ get_or marks other false = get_or-set_other marks number other true false apart in
    rw (now, ne_eqb number other (λ same. apart (sym same))) (omega arith))
    (cases_eq other number)

-- numbers that are free in turn are each there once, and the other way round
free-each : (marks : List Bool) (numbers : List ℕ) → are_free marks numbers ≡ true → AreFree marks numbers
free-each marks [] all =
    record { below = λ number below. let set = all-set marks all number below in rw set refl; above = λ number above. refl }
free-each marks (number ∷ numbers) all =
    let parts = and_parts (is_free marks number) (are_free (set marks number true) numbers) all in
    let free = free_parts marks number parts.0 in
    let size = length-set marks number true in
    let rest = free-each (set marks number true) numbers parts.1 in
    record {
      below = λ other below. sym (moved marks number numbers free.below free.unset other) ∙ rest.below other (omega (arith, below, size));
      above = λ other above.
          let none = rest.above other (omega (arith, above, size)) in
          let within = free.below in
          rw (ne_eqb number other (λ same. omega (arith, same, above, within))) (omega (arith, none));
    }

each-free : (marks : List Bool) (numbers : List ℕ) → AreFree marks numbers → are_free marks numbers ≡ true
each-free marks [] each = each-set marks (λ number below. let is = each.below number below in mark_set (get_or marks number false) (omega (arith, is)))
each-free marks (number ∷ numbers) each =
    let here : count number (number ∷ numbers) ≡ 1 + count number numbers = rw (eq-eqb number number refl) refl in
    ⊎_elim
    (λ (below : number < length marks).
    let once = each.below number below in
    let unset = mark_unset (get_or marks number false) (omega (arith, here, once)) in
    let size = length-set marks number true in
    and_from (is_free marks number) (are_free (set marks number true) numbers) (free_from marks number below unset)
    (each-free (set marks number true) numbers (record {
      below = λ other within. moved marks number numbers below unset other ∙ each.below other (omega (arith, within, size));
      above = λ other above. let none = each.above other (omega (arith, above, size)) in omega (arith, none);
    })))
    (λ (above : length marks ≤ number). let none = each.above number above in absurd (omega (arith, here, none)))
    (cases_lt number (length marks))

-- each number below the size is among these once, and no other number is
pub record AreNumbered (size : ℕ) (numbers : List ℕ) : Type 0 where
  pub below : (number : ℕ) → number < size → count number numbers ≡ 1
  pub above : (number : ℕ) → size ≤ number → count number numbers ≡ 0

-- no number is marked at the beginning
none-marked : (size number : ℕ) → number < size → marked (replicate size false) number ≡ 0
none-marked size number below = rw (get_or-replicate size number false false below) refl

pub numbered_if : (size : ℕ) (numbers : List ℕ) → are_free (replicate size false) numbers ≡ true → AreNumbered size numbers
numbered_if size numbers free =
    let each = free-each (replicate size false) numbers free in
    let whole : length (replicate size false) ≡ size = length-replicate size false in
    record {
      below = λ number below. let once = each.below number (omega (arith, whole, below)) in let none = none-marked size number below in omega (arith, once, none);
      above = λ number above. each.above number (omega (arith, whole, above));
    }

pub only_if_numbered : (size : ℕ) (numbers : List ℕ) → AreNumbered size numbers → are_free (replicate size false) numbers ≡ true
only_if_numbered size numbers each =
    let whole : length (replicate size false) ≡ size = length-replicate size false in
    each-free (replicate size false) numbers (record {
      below = λ number below. let within : number < size = omega (arith, whole, below) in
          let once = each.below number within in let none = none-marked size number within in omega (arith, once, none);
      above = λ number above. each.above number (omega (arith, whole, above));
    })
