-- What words mean, as functions of what an expansion is given (XCU 2.6): each list of words has exactly one outcome, which is its
-- fields, or the first fault that it means, with the variables then. Want of memory, and a tree that fails, belong to a call.
use Rattle.std.specs.Prelude.{◌≡◌, ◌⊎◌, ℕ, nat_lt, Bool, List, length, if◌then◌else◌, Result, Ok, Err}
use Rattle.ps_world.specs.Files.{Files}
use Rattle.ps_world.specs.Paths.{Components}
use Rattle.sh_arith.specs.Variables.{Variables}
use Rattle.sh_arith.specs.declared.faults.ArithFault.{ArithFault}
use Rattle.sh_tree.specs.Trees.{WordTree}
use Rattle.sh_expand.specs.declared.faults.ExpandFault.{ExpandFault}
use Rattle.sh_expand.specs.declared.faults.ExpandFault.TheVariants as fault
use Rattle.sh_expand.specs.declared.fields.TheConstants.{MAX_FIELDS}
use Rattle.sh_expand.specs.Given.{Given}
use Rattle.sh_expand.specs.Fields.{AreFields, PatternIn, Stop, TextGives, TextStops, IsOutside}

-- a fault that words mean: a parameter that is unset, by its name and the text that tells of it, or an expression without a value
pub data MeantFault : Type 0 where
  unset : List ℕ → List ℕ → MeantFault
  no_value : ArithFault → MeantFault

-- the same, as callers are told
abbrev pub shown : MeantFault → ExpandFault
shown (unset name text) = fault.Unset name text
shown (no_value why) = fault.Arith why

-- what words mean, or their first fault, and the variables that they leave
abbrev pub Outcome : Type 0 → Type 0
Outcome Meaning = Result Meaning MeantFault × Variables

-- the fields of words
abbrev pub HaveFields : Files → Components → Given → Variables → List WordTree → Outcome (List (List ℕ)) → Type 0
HaveFields files home given before words (Ok fields, after) = AreFields files home given before words fields after
HaveFields files home given before words (Err why, after) = Stop given before words (shown why) after

-- the text of a word of which nothing is split
abbrev pub HasText : Given → Variables → WordTree → Outcome (List ℕ) → Type 0
HasText given before word (Ok text, after) = TextGives given before word text after
HasText given before word (Err why, after) = TextStops given before word (shown why) after

-- whether an unquoted pattern byte is left in words
abbrev pub HavePattern : Given → Variables → List WordTree → Outcome Bool → Type 0
HavePattern given before words (Ok found, after) = PatternIn given before words found after
HavePattern given before words (Err why, after) = Stop given before words (shown why) after

-- the outcome is this one, and no other
pub record IsTheOutcome {Meaning : Type 0} (Has : Outcome Meaning → Type 0) (it : Outcome Meaning) : Type 0 where
  pub has : Has it
  pub only : (other : Outcome Meaning) → Has other → it ≡ other

-- what words mean, by what is given and the variables before them
pub record Expansions : Type 0 where
  pub fields : Files → Components → Given → Variables → List WordTree → Outcome (List (List ℕ))
  pub text : Given → Variables → WordTree → Outcome (List ℕ)
  pub pattern : Given → Variables → List WordTree → Outcome Bool

-- these are the one outcome of all words
pub record AreExpansions (expansions : Expansions) : Type 0 where
  pub fields : (files : Files) (home : Components) (given : Given) (before : Variables) (words : List WordTree) → IsTheOutcome (HaveFields files home given before words) (expansions.fields files home given before words)
  pub text : (given : Given) (before : Variables) (word : WordTree) → IsTheOutcome (HasText given before word) (expansions.text given before word)
  pub pattern : (given : Given) (before : Variables) (words : List WordTree) → IsTheOutcome (HavePattern given before words) (expansions.pattern given before words)

-- there are such functions
pub record WordsAreExpanded : Type 0 where
  pub expansions : Expansions
  pub are : AreExpansions expansions

-- an outcome, as callers are told
abbrev pub Answer : Type 0 → Type 0
Answer Meaning = Result Meaning ExpandFault × Variables

abbrev pub told_of : {Meaning : Type 0} → Outcome Meaning → Answer Meaning
told_of (Ok meaning, after) = (Ok meaning, after)
told_of (Err why, after) = (Err (shown why), after)

-- more fields than MAX_FIELDS are too many, and a fault that the words mean comes before that
abbrev pub told_fields : Outcome (List (List ℕ)) → Answer (List (List ℕ))
told_fields (Ok fields, after) = (if nat_lt MAX_FIELDS (length fields) then Err fault.ArgsTooMany else Ok fields, after)
told_fields (Err why, after) = (Err (shown why), after)

-- a call that leaves these variables tells the answer, unless it wanted memory or its tree failed
abbrev pub Tells : {Value Meaning : Type 0} → (Value → Meaning) → Answer Meaning → Result Value ExpandFault → Variables → Type 0
Tells seen answer (Ok value) after = answer ≡ (Ok (seen value), after)
Tells seen answer (Err why) after = IsOutside why ⊎ (answer ≡ (Err why, after))
