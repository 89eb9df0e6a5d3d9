-- What waits at ports.
use Rattle.std.proofs.Common.{◌≡◌, ◌==◌, ◌+◌, ◌-◌, ◌<◌, ◌≤◌, ℕ, zero, suc, List, [], ◌∷◌, ◌++◌, length, drop, set, get_or, Bool, true, false, not, nat_lt, refl, ap, sym, ◌∙◌, arith, length-drop, if◌then◌else◌}
use Rattle.std.proofs.lemmas.Bool.{eqb-true, ltb-false, ltb-true, lt-ltb, le-ltb}
use Rattle.std.proofs.lemmas.List.{drop-drop}
use Rattle.std.proofs.lemmas.Option.{slice_get_past, slice_get_read}
use Rattle.std.specs.Option.{option_map_or}
use Rattle.ut_slices.specs.Inner.Ports.{is_open_at, total_waiting, waiting_at, waits}
use Rattle.ut_slices.specs.declared.waits.Port.{Port}

-- one port in place of another
total_set : (ports : List Port) (place count : ℕ) (new : Port) → place < length ports → length (waits new) + count ≡ length (waiting_at ports place)
    → total_waiting (set ports place new) + count ≡ total_waiting ports
total_set [] place count new within left = absurd (omega arith)
total_set (port ∷ ports) zero count new within left =
    let left : length (waits new) + count ≡ length (waits port) = left in omega arith
total_set (port ∷ ports) (suc place) count new within left =
    let rest = total_set ports place count new (omega arith) left in omega arith

pub total-passed : (ports : List Port) (place count : ℕ) (port new : Port) → place < length ports → count ≤ length (waiting_at ports place) → port ≡ get_or ports place port
    → waits new ≡ drop (port.passed + count) port.held.items → total_waiting (set ports place new) + count ≡ total_waiting ports
total-passed ports place count port new within enough is left =
    let waiting : waiting_at ports place ≡ waits port = ap (λ it. option_map_or waits it []) (slice_get_read ports (length ports) place port refl within is) in
    let same : waits new ≡ drop count (waiting_at ports place) =
    left ∙ sym (drop-drop count port.passed port.held.items) ∙ ap (λ (waiting : List ℕ). drop count waiting) (sym waiting) in
    let size : length (waits new) ≡ length (waiting_at ports place) - count = ap length same ∙ length-drop count (waiting_at ports place) in
    total_set ports place count new within (omega arith)

-- no port
pub none-waits : (ports : List Port) (place : ℕ) → length ports ≤ place → waiting_at ports place ≡ []
none-waits ports place past = ap (λ it. option_map_or waits it []) (slice_get_past ports place past)

drop-none : (count : ℕ) (text : List ℕ) → text ≡ [] → drop count text ≡ []
drop-none zero text none = none
drop-none (suc count) text none = ap (λ (text : List ℕ). drop (suc count) text) none

pub waiting-past : (ports : List Port) (place count : ℕ) → length ports ≤ place → (other : ℕ) → waiting_at ports other ≡ (if other == place then drop count (waiting_at ports place) else waiting_at ports other)
waiting-past ports place count past other = by_test (other == place) refl
  where
    dropped : drop count (waiting_at ports place) ≡ []
    dropped = drop-none count (waiting_at ports place) (none-waits ports place past)

    by_test : (same : Bool) → (other == place) ≡ same → waiting_at ports other ≡ (if same then drop count (waiting_at ports place) else waiting_at ports other)
    by_test true same = ap (λ (place : ℕ). waiting_at ports place) (eqb-true other place same) ∙ none-waits ports place past ∙ sym dropped
    by_test false same = refl

pub total-past : (ports : List Port) (place count : ℕ) → length ports ≤ place → count ≤ length (waiting_at ports place) → total_waiting ports + count ≡ total_waiting ports
total-past ports place count past enough =
    let none : length (waiting_at ports place) ≡ 0 = ap length (none-waits ports place past) in omega arith

-- ports at which nothing waits yet
pub record AreFresh (ports : List Port) : Type 0 where
  pub empty : (port : ℕ) → waiting_at ports port ≡ []
  pub all_open : (port : ℕ) → is_open_at ports port ≡ nat_lt port (length ports)

waiting-push : (ports : List Port) (last : Port) → ((port : ℕ) → waiting_at ports port ≡ []) → waits last ≡ [] → (port : ℕ) → waiting_at (ports ++ last ∷ []) port ≡ []
waiting-push [] last empty none zero = none
waiting-push [] last empty none (suc port) = refl
waiting-push (first ∷ ports) last empty none zero = empty 0
waiting-push (first ∷ ports) last empty none (suc port) = waiting-push ports last (λ port. empty (suc port)) none port

lt-suc : (one other : ℕ) → nat_lt (suc one) (suc other) ≡ nat_lt one other
lt-suc one other = by_test (nat_lt one other) refl
  where
    by_test : (test : Bool) → nat_lt one other ≡ test → nat_lt (suc one) (suc other) ≡ nat_lt one other
    by_test true is = let less : one < other = ltb-true one other is in lt-ltb (suc one) (suc other) (omega arith) ∙ sym is
    by_test false is = let less : other ≤ one = ltb-false one other is in le-ltb (suc one) (suc other) (omega arith) ∙ sym is

open-push : (ports : List Port) (last : Port) → ((port : ℕ) → is_open_at ports port ≡ nat_lt port (length ports)) → last.has_ended ≡ false
    → (port : ℕ) → is_open_at (ports ++ last ∷ []) port ≡ nat_lt port (length (ports ++ last ∷ []))
open-push [] last opens ended zero = ap not ended ∙ sym (lt-ltb 0 1 (omega arith))
open-push [] last opens ended (suc port) = sym (le-ltb (suc port) 1 (omega arith))
open-push (first ∷ ports) last opens ended zero = opens 0 ∙ lt-ltb 0 (suc (length ports)) (omega arith) ∙ sym (lt-ltb 0 (suc (length (ports ++ last ∷ []))) (omega arith))
open-push (first ∷ ports) last opens ended (suc port) =
    open-push ports last (λ port. opens (suc port) ∙ lt-suc port (length ports)) ended port ∙ sym (lt-suc port (length (ports ++ last ∷ [])))

pub AreFresh-none : AreFresh []
AreFresh-none = record { empty = λ port. refl; all_open = λ port. sym (le-ltb port 0 (omega arith)) }

pub AreFresh-push : (ports : List Port) (last : Port) → AreFresh ports → waits last ≡ [] → last.has_ended ≡ false → AreFresh (ports ++ last ∷ [])
AreFresh-push ports last fresh none ended = record { empty = waiting-push ports last fresh.empty none; all_open = open-push ports last fresh.all_open ended }

pub ruleset fresh = (AreFresh-none, AreFresh-push)
