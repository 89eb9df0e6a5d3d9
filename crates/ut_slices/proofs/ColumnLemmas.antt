-- The inputs of columns.
use Rattle.std.proofs.Common.{◌≡◌, ◌==◌, ◌⊎◌, inl, inr, ◌+◌, ◌<◌, ◌≤◌, ℕ, suc, List, [], ◌∷◌, ◌++◌, nat_lt, append-nil, Option, Some, None, Result, Ok, Err, OnOk, Bool, true, false, refl, ap, sym, ◌∙◌, arith, if◌then◌else◌}
use Rattle.std.proofs.lemmas.Bool.{true≢false, eq-eqb, eqb-true, ltb-false, ltb-true, lt-ltb, le-ltb}
use Rattle.ut_slices.specs.Inner.Columns.{AreUsed}
use Rattle.ut_slices.specs.Inner.Rows.{has_port}
use Rattle.ut_slices.specs.declared.columns.Columns.{Columns}

has_port-push : (port : ℕ) (columns : List ℕ) (last : ℕ) → has_port port (columns ++ last ∷ []) ≡ (if has_port port columns then true else (if last == port then true else false))
has_port-push port [] last = refl
has_port-push port (column ∷ columns) last = first (column == port) (has_port-push port columns last)
  where
    first : (same : Bool) → has_port port (columns ++ last ∷ []) ≡ (if has_port port columns then true else (if last == port then true else false)) → (if same then true else has_port port (columns ++ last ∷ []))
        ≡ (if (if same then true else has_port port columns) then true else (if last == port then true else false))
    first true after = refl
    first false after = after

-- one more number is below the next one
pub lt-next : (port next : ℕ) → (if nat_lt port next then true else (if next == port then true else false)) ≡ nat_lt port (suc next)
lt-next port next = by_less (nat_lt port next) refl (next == port) refl
  where
    by_less : (less : Bool) → nat_lt port next ≡ less → (same : Bool) → (next == port) ≡ same → (if less then true else (if same then true else false)) ≡ nat_lt port (suc next)
    by_less true is same is_same = let below : port < next = ltb-true port next is in sym (lt-ltb port (suc next) (omega arith))
    by_less false is true is_same = let same : next ≡ port = eqb-true next port is_same in sym (lt-ltb port (suc next) (omega arith))
    by_less false is false is_same =
        let above : next ≤ port = ltb-false port next is in
        sym (le-ltb port (suc next) (strict above))
      where
        strict : next ≤ port → suc next ≤ port
        strict above = by_lt (nat_lt next port) refl
          where
            by_lt : (less : Bool) → nat_lt next port ≡ less → suc next ≤ port
            by_lt true is = let less : next < port = ltb-true next port is in omega arith
            by_lt false is =
                let least : port ≤ next = ltb-false next port is in
                let same : next ≡ port = omega arith in
                absurd (true≢false (sym (eq-eqb next port same) ∙ is_same))

pub AreUsed-new : (old new : Columns) → new.inputs.items ≡ old.inputs.items ++ old.next ∷ [] → new.next ≡ suc old.next
    → ((input : ℕ) → new.standard ≡ Some input → (old.standard ≡ Some input) ⊎ (input ≡ old.next)) → AreUsed old → AreUsed new
AreUsed-new old new inputs next standard used =
    record {
      used = λ input.
          ap (λ (inputs : List ℕ). has_port input inputs) inputs ∙ has_port-push input old.inputs.items old.next
          ∙ ap (λ (has : Bool). if has then true else (if old.next == input then true else false)) (used.used input) ∙ lt-next input old.next ∙ ap (λ (next : ℕ). nat_lt input next) (sym next);
      shared = λ input is. below input (standard input is);
    }
  where
    below : (input : ℕ) → (old.standard ≡ Some input) ⊎ (input ≡ old.next) → input < new.next
    below input (inl is) = let least : input < old.next = used.shared input is in omega arith
    below input (inr is) = omega arith

-- a column that shares an input
pub shared-same : (port next input : ℕ) → input < next → (if nat_lt port next then true else (if input == port then true else false)) ≡ nat_lt port next
shared-same port next input below = by_less (nat_lt port next) refl (input == port) refl
  where
    by_less : (less : Bool) → nat_lt port next ≡ less → (same : Bool) → (input == port) ≡ same → (if less then true else (if same then true else false)) ≡ less
    by_less true is same is_same = refl
    by_less false is false is_same = refl
    by_less false is true is_same =
        let same : input ≡ port = eqb-true input port is_same in
        sym (lt-ltb port next (omega arith)) ∙ is

pub AreUsed-shared : (old new : Columns) (input : ℕ) → new.inputs.items ≡ old.inputs.items ++ input ∷ [] → new.next ≡ old.next → new.standard ≡ old.standard → old.standard ≡ Some input
    → AreUsed old → AreUsed new
AreUsed-shared old new input inputs next standard is used =
    record {
      used = λ other.
          ap (λ (inputs : List ℕ). has_port other inputs) inputs ∙ has_port-push other old.inputs.items input
          ∙ ap (λ (has : Bool). if has then true else (if input == other then true else false)) (used.used other)
          ∙ shared-same other old.next input (used.shared input is) ∙ ap (λ (next : ℕ). nat_lt other next) (sym next);
      shared = λ other now. let least : other < old.next = used.shared other (sym standard ∙ now) in omega arith;
    }

pub same-some : (one other : ℕ) → Some one ≡ Some other → other ≡ one
same-some one other is = cc

pub both-ok : {T E : Type 0} (result : Result T E) (one other both : Type 0) → (one → other → both) → OnOk result one → OnOk result other → OnOk result both
both-ok (Ok value) one other both step first second = step first second
both-ok (Err error) one other both step first second = tt

-- columns none of which is there
pub AreUsed-none : (columns : Columns) → columns.inputs.items ≡ [] → columns.next ≡ 0 → columns.standard ≡ None → AreUsed columns
AreUsed-none columns inputs next standard =
    record {
      used = λ input. ap (λ (inputs : List ℕ). has_port input inputs) inputs ∙ sym (le-ltb input 0 (omega arith)) ∙ ap (λ (next : ℕ). nat_lt input next) (sym next);
      shared = λ input is. cc;
    }

pub ruleset columns = (AreUsed-none, AreUsed-new, append-nil)
