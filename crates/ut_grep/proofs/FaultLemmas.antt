-- The fault of a pattern is what its reader tells.
use Rattle.std.proofs.Common.{◌≡◌, ℕ, ◌⊎◌, inl, inr, ◌-◌, ◌≤◌, ◌<◌, ◌&&◌, Bool, true, false, nat_le, drop, length, take, List, ◌∷◌, Option, Some, None, Result, Ok, Err, IfOk, get_or, refl, ap, ap₂, sym, ◌∙◌, arith, if◌then◌else◌}
use Rattle.std.proofs.lemmas.Bool.{and_from, and_parts, false_from_ne_true, le-leb, leb-true}
use Rattle.std.specs.Global.{Vec}
use Rattle.ps_lines.specs.Texts.{texts_of}
use Rattle.ps_lines.specs.declared.memory.Memory.{Memory as WantOfMemory}
use Rattle.ut_args.specs.declared.commands.Syntax.{Syntax}
use Rattle.ut_args.specs.declared.commands.Syntax.TheVariants as syntax
use Rattle.ut_regex.specs.declared.fault.ReFault.{ReFault}
use Rattle.ut_regex.specs.declared.fault.ReFault.TheVariants.{NotARegex, BackReference, RepeatTooLarge, TooLarge, Memory}
use Rattle.ut_regex.specs.declared.sizes.TheConstants.{MAX_PLACES, MAX_NESTING}
use Rattle.ut_regex.specs.Reading.{Faults, IsRead, Reads, Refuses}
use Rattle.ut_regex.specs.Same.{SameTree}
use Rattle.ut_regex.specs.Sizes.{IsSmall, IsTooLarge, nesting, places}
use Rattle.ut_regex.specs.Tree.{Tree}
use Rattle.ut_regex.proofs.OneReadingLemmas.{reads_once, reads_or_faults}
use Rattle.ut_regex.proofs.SameLemmas.{same_nesting, same_places}
use Rattle.ut_regex.proofs.TotalLemmas.{reading}
use Rattle.ut_regex.proofs.UniqueLemmas.{one_first_fault}
use Rattle.ut_grep.specs.Faults.{fault_of, fault_read, first_faulty, is_small, or_faulty}
use Rattle.ut_grep.specs.Patterns.{IsPattern, RefusesPattern}

-- expressions that are the same have the same size
same-small : (re other : Tree) → SameTree re other → IsSmall re → is_small other ≡ true
same-small re other same small =
    let p = same_places same in
    let n = same_nesting same in
    and_from (nat_le (places other) MAX_PLACES) (nat_le (nesting other) MAX_NESTING) (le-leb (places other) MAX_PLACES (omega (arith, p, small.0)))
    (le-leb (nesting other) MAX_NESTING (omega (arith, n, small.1)))

never-small : (re other : Tree) → SameTree re other → IsTooLarge re → is_small other ≡ true → ⊥
never-small re other same (inl large) small =
    let p = same_places same in
    let least = leb-true (places other) MAX_PLACES (and_parts (nat_le (places other) MAX_PLACES) (nat_le (nesting other) MAX_NESTING) small).0 in
    absurd (omega (arith, p, large, least))
never-small re other same (inr large) small =
    let n = same_nesting same in
    let least = leb-true (nesting other) MAX_NESTING (and_parts (nat_le (places other) MAX_PLACES) (nat_le (nesting other) MAX_NESTING) small).1 in
    absurd (omega (arith, n, large, least))

-- a pattern that is read has none
fault-small : (re : Tree) → is_small re ≡ true → (if is_small re then None else Some TooLarge) ≡ None
fault-small re small = ap (λ (is : Bool). if is then None else Some TooLarge) small

fault-large : (re : Tree) → is_small re ≡ false → (if is_small re then None else Some TooLarge) ≡ Some TooLarge
fault-large re large = ap (λ (is : Bool). if is then None else Some TooLarge) large

read-none : (basic : Bool) (pattern : List ℕ) (re : Tree) → Reads basic pattern re → IsSmall re
    → (read : IsRead basic pattern ⊎ ((fault : ReFault) × Faults basic pattern fault)) → fault_read basic pattern read ≡ None
read-none basic pattern re is small (inl (other, reads)) = fault-small other (same-small re other (reads_once basic pattern re other is reads) small)
read-none basic pattern re is small (inr (fault, faulty)) = absurd (reads_or_faults basic pattern re fault is faulty)

pub pattern-none : (form : Syntax) (pattern : List ℕ) (re : Tree) → IsPattern form pattern re → fault_of form pattern ≡ None
pattern-none syntax.Basic pattern re is = read-none true pattern re is.0 is.1 (reading true pattern)
pattern-none syntax.Extended pattern re is = read-none false pattern re is.0 is.1 (reading false pattern)
pattern-none syntax.Fixed pattern re is = refl

-- one that isn't has the fault that is told
met-some : (basic : Bool) (pattern : List ℕ) (fault : ReFault) → Faults basic pattern fault
    → (read : IsRead basic pattern ⊎ ((fault : ReFault) × Faults basic pattern fault)) → fault_read basic pattern read ≡ Some fault
met-some basic pattern fault met (inl (re, reads)) = absurd (reads_or_faults basic pattern re fault reads met)
met-some basic pattern fault met (inr (other, faulty)) = ap Some (one_first_fault basic met faulty)

refused-some : (basic : Bool) (pattern : List ℕ) (fault : ReFault) → Refuses basic pattern fault → (fault ≡ Memory → ⊥)
    → (read : IsRead basic pattern ⊎ ((fault : ReFault) × Faults basic pattern fault)) → fault_read basic pattern read ≡ Some fault
refused-some basic pattern NotARegex met some read = met-some basic pattern NotARegex met read
refused-some basic pattern BackReference met some read = met-some basic pattern BackReference met read
refused-some basic pattern RepeatTooLarge met some read = met-some basic pattern RepeatTooLarge met read
refused-some basic pattern TooLarge (re, reads, large) some (inl (other, is)) =
    fault-large other (false_from_ne_true (is_small other) (never-small re other (reads_once basic pattern re other reads is) large))
refused-some basic pattern TooLarge (re, reads, large) some (inr (other, faulty)) = absurd (reads_or_faults basic pattern re other reads faulty)
refused-some basic pattern Memory met some read = absurd (some refl)

bytes-some : (pattern : List ℕ) (fault : ReFault) → RefusesPattern syntax.Fixed pattern fault → (fault ≡ Memory → ⊥) → fault_of syntax.Fixed pattern ≡ Some fault
bytes-some pattern NotARegex met some = absurd met
bytes-some pattern BackReference met some = absurd met
bytes-some pattern RepeatTooLarge met some = absurd met
bytes-some pattern TooLarge met some = absurd met
bytes-some pattern Memory met some = absurd (some refl)

pattern-some : (form : Syntax) (pattern : List ℕ) (fault : ReFault) → RefusesPattern form pattern fault → (fault ≡ Memory → ⊥) → fault_of form pattern ≡ Some fault
pattern-some syntax.Basic pattern fault met some = refused-some true pattern fault met some (reading true pattern)
pattern-some syntax.Extended pattern fault met some = refused-some false pattern fault met some (reading false pattern)
pattern-some syntax.Fixed pattern fault met some = bytes-some pattern fault met some

pub fault-told : (form : Syntax) (pattern : List ℕ) (fault : ReFault) (result : Result (Option ReFault) WantOfMemory) → RefusesPattern form pattern fault
    → IfOk result (λ found. found ≡ Some fault) → IfOk result (λ found. fault ≡ Memory → ⊥) → IfOk result (λ found. found ≡ fault_of form pattern)
fault-told form pattern fault (Ok found) met same some = same ∙ sym (pattern-some form pattern fault met some)
fault-told form pattern fault (Err memory) met same some = tt

-- the first pattern that has one
pub faulty-later : (form : Syntax) (pattern : List ℕ) (patterns : List (List ℕ)) → fault_of form pattern ≡ None → first_faulty form (pattern ∷ patterns) ≡ first_faulty form patterns
faulty-later form pattern patterns none = ap (λ fault. or_faulty pattern fault (first_faulty form patterns)) none

pub faulty-here : (form : Syntax) (pattern : List ℕ) (patterns : List (List ℕ)) (fault : ReFault) → fault_of form pattern ≡ Some fault
    → first_faulty form (pattern ∷ patterns) ≡ Some (pattern, fault)
faulty-here form pattern patterns fault is = ap (λ fault. or_faulty pattern fault (first_faulty form patterns)) is
