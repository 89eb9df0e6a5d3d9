-- A text has one reading, and the readers' answers are its.
use Rattle.std.proofs.Common.{ℕ, ◌≡◌, ◌⊎◌, inl, inr, Bool, List, Option, Some, None, IfSome, IfNone, Result, Ok, Err, IfOk, IfErr, MatchResult, refl, ap, arith}
use Rattle.ut_regex.specs.declared.fault.ReFault.{ReFault}
use Rattle.ut_regex.specs.declared.fault.ReFault.TheVariants.{NotARegex, BackReference, RepeatTooLarge, TooLarge, Memory}
use Rattle.ut_regex.specs.declared.tree.Regex.{Regex}
use Rattle.ut_regex.specs.Tree.{Tree, tree}
use Rattle.ut_regex.specs.Sizes.{IsSmall, IsTooLarge}
use Rattle.ut_regex.specs.Reading.{Reads, IsRead, Faults, Refuses}
use Rattle.ut_regex.specs.Same.{SameTree}
use Rattle.ut_regex.specs.OneReading.{HasOneReading}
use Rattle.ut_regex.proofs.UniqueLemmas.{one_list_of_pieces, no_fault_either, one_first_fault}
use Rattle.ut_regex.proofs.SameLemmas.{one_tree, same_places, same_nesting}

-- a text is read in one way
pub reads_once : (basic : Bool) (text : List ℕ) (re other : Tree) → Reads basic text re → Reads basic text other → SameTree re other
reads_once basic text re other (pieces, is, sides) (others, is_other, sides_other) = one_tree (one_list_of_pieces basic is is_other) sides sides_other

-- and then it has no fault
pub reads_or_faults : (basic : Bool) (text : List ℕ) (re : Tree) (fault : ReFault) → Reads basic text re → Faults basic text fault → ⊥
reads_or_faults basic text re fault (pieces, is, sides) faulty = no_fault_either basic is faulty

reading_of_text : (basic : Bool) (text : List ℕ) (re : Tree) → Reads basic text re → HasOneReading basic text
reading_of_text basic text re is = inl (
  re,
  record {
    reads = is;
    only = λ other h. reads_once basic text re other is h;
    no_fault = λ fault h. reads_or_faults basic text re fault is h;
  },
)

fault_of_text : (basic : Bool) (text : List ℕ) (fault : ReFault) → Faults basic text fault → HasOneReading basic text
fault_of_text basic text fault met = inr (
  fault,
  record {
    met = met;
    only = λ other h. one_first_fault basic met h;
    not_read = λ re h. reads_or_faults basic text re fault h met;
  },
)

-- an expression is small or too large
small_or_large : (re other : Tree) → SameTree re other → IsSmall re → IsTooLarge other → ⊥
small_or_large re other same small (inl large) = let p = same_places same in absurd (omega (arith, p, small.0))
small_or_large re other same small (inr large) = let n = same_nesting same in absurd (omega (arith, n, small.1))

-- an expression that isn't too large is read, unless memory is wanted
pub read_only : (basic : Bool) (text : List ℕ) (result : Result Regex ReFault)
    → IfOk result (λ re. Reads basic text (tree re) × IsSmall (tree re)) → IfErr result (Refuses basic text)
    → (re : Tree) → Reads basic text re → IsSmall re → MatchResult result (λ made. SameTree re (tree made)) (λ fault. fault ≡ Memory)
read_only basic text (Ok made) read fault re is small = reads_once basic text re (tree made) is read.0
read_only basic text (Err NotARegex) read fault re is small = absurd (reads_or_faults basic text re NotARegex is fault)
read_only basic text (Err BackReference) read fault re is small = absurd (reads_or_faults basic text re BackReference is fault)
read_only basic text (Err RepeatTooLarge) read fault re is small = absurd (reads_or_faults basic text re RepeatTooLarge is fault)
read_only basic text (Err TooLarge) read (other, is_other, large) re is small =
    absurd (small_or_large re other (reads_once basic text re other is is_other) small large)
read_only basic text (Err Memory) read fault re is small = refl

-- one that is too large isn't
pub large_only : (basic : Bool) (text : List ℕ) (result : Result Regex ReFault)
    → IfOk result (λ re. Reads basic text (tree re) × IsSmall (tree re)) → IfErr result (Refuses basic text)
    → (re : Tree) → Reads basic text re → IsTooLarge re → MatchResult result (λ made. ⊥) (λ fault. (fault ≡ TooLarge) ⊎ (fault ≡ Memory))
large_only basic text (Ok made) read fault re is large =
    small_or_large (tree made) re (reads_once basic text (tree made) re read.0 is) read.1 large
large_only basic text (Err NotARegex) read fault re is large = absurd (reads_or_faults basic text re NotARegex is fault)
large_only basic text (Err BackReference) read fault re is large = absurd (reads_or_faults basic text re BackReference is fault)
large_only basic text (Err RepeatTooLarge) read fault re is large = absurd (reads_or_faults basic text re RepeatTooLarge is fault)
large_only basic text (Err TooLarge) read fault re is large = inl refl
large_only basic text (Err Memory) read fault re is large = inr refl

-- the first fault is told, whatever memory there is
pub first_only : (basic : Bool) (text : List ℕ) (result : Result Regex ReFault)
    → IfOk result (λ re. Reads basic text (tree re) × IsSmall (tree re)) → IfErr result (Refuses basic text)
    → (fault : ReFault) → Faults basic text fault → result ≡ Err fault
first_only basic text (Ok made) read refused fault met = absurd (reads_or_faults basic text (tree made) fault read.0 met)
first_only basic text (Err NotARegex) read refused fault met = ap (λ f. Err f) (one_first_fault basic met refused)
first_only basic text (Err BackReference) read refused fault met = ap (λ f. Err f) (one_first_fault basic met refused)
first_only basic text (Err RepeatTooLarge) read refused fault met = ap (λ f. Err f) (one_first_fault basic met refused)
first_only basic text (Err TooLarge) read (re, is, large) fault met = absurd (reads_or_faults basic text re fault is met)
first_only basic text (Err Memory) read (re, is) fault met = absurd (reads_or_faults basic text re fault is met)

-- either is there
pub one_reading : (basic : Bool) (text : List ℕ) (fault : Option ReFault) → IfNone fault (IsRead basic text) → IfSome fault (Faults basic text)
    → HasOneReading basic text
one_reading basic text None read met = reading_of_text basic text read.0 read.1
one_reading basic text (Some fault) read met = fault_of_text basic text fault met
