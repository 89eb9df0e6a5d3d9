-- Fields (XCU 2.6): word by word from the left, the marks of a word's parts are cut into fields, a field with a pattern gives the names
-- that fit it, and the marks are removed. Each word sees the variables that the words before it left.
use Rattle.std.specs.Prelude.{◌≡◌, ◌⊎◌, ◌||◌, ℕ, ◌<◌, ◌≤◌, length, Bool, false, List, [], ◌∷◌, ◌++◌, Some, Result, Ok, Err, IfErr, IsErrOf, OnOk}
use Rattle.ps_world.specs.Counts.{Rose}
use Rattle.std.specs.List.{list_any}
use Rattle.ps_world.specs.declared.error.WorldErr.{WorldErr}
use Rattle.ps_world.specs.declared.error.WorldErr.TheVariants as world
use Rattle.ps_world.specs.Files.{Files}
use Rattle.ps_world.specs.Paths.{Components}
use Rattle.ps_world.specs.TreeState.{TreeState}
use Rattle.sh_tree.specs.Trees.{WordTree}
use Rattle.sh_pattern.specs.PathExpansion.{Expands}
use Rattle.sh_arith.specs.Variables.{Variables}
use Rattle.sh_expand.specs.declared.faults.ExpandFault.{ExpandFault}
use Rattle.sh_expand.specs.declared.faults.ExpandFault.TheVariants as fault
use Rattle.sh_expand.specs.declared.faults.ValueFault.{ValueFault}
use Rattle.sh_expand.specs.declared.marks.Marked.{Marked}
use Rattle.sh_expand.specs.declared.parameters.Setting.TheVariants as setting
use Rattle.sh_expand.specs.Faults.{told}
use Rattle.sh_expand.specs.Marks.{bare, pattern_of, has_pattern}
use Rattle.sh_expand.specs.Splitting.{split}
use Rattle.sh_expand.specs.Given.{Given}
use Rattle.sh_expand.specs.Separators.{ifs_of}
use Rattle.sh_expand.specs.Values.{WordGives}

-- the word has these marks, and leaves these variables
abbrev pub HasMarks : Given → Variables → WordTree → List Marked → Variables → Type 0
HasMarks given before word marks after = WordGives given setting.Outer before word (Ok marks, after)

-- the names of fields, in order: a field without pattern bytes is its text, and one that fits nothing too
pub data AreNames (files : Files) (home : Components) : List (List Marked) → List (List ℕ) → Type 0 where
  no_field : AreNames files home [] []
  next_field : {field : List Marked} {fields : List (List Marked)} {names others : List (List ℕ)} → Expands files home (pattern_of field) names → AreNames files home fields others → AreNames files home (field ∷ fields) (names ++ others)

-- the fields of words
pub data AreFields (files : Files) (home : Components) (given : Given) : Variables → List WordTree → List (List ℕ) → Variables → Type 0 where
  no_word : {variables : Variables} → AreFields files home given variables [] [] variables
  next_word : {before between after : Variables} {word : WordTree} {words : List WordTree} {marks : List Marked} {names others : List (List ℕ)} → HasMarks given before word marks between → AreNames files home (split (ifs_of between) marks) names → AreFields files home given between words others after → AreFields files home given before (word ∷ words) (names ++ others) after

-- the fields of one word
pub data WordFields (files : Files) (home : Components) (given : Given) (before : Variables) (word : WordTree) : List (List ℕ) → Variables → Type 0 where
  has_fields : {after : Variables} {marks : List Marked} {names : List (List ℕ)} → HasMarks given before word marks after → AreNames files home (split (ifs_of after) marks) names → WordFields files home given before word names after

-- all words have marks, and leave these variables
pub data Pass (given : Given) : Variables → List WordTree → Variables → Type 0 where
  all_passed : {variables : Variables} → Pass given variables [] variables
  passes : {before between after : Variables} {word : WordTree} {words : List WordTree} {marks : List Marked} → HasMarks given before word marks between → Pass given between words after → Pass given before (word ∷ words) after

-- whether an unquoted pattern byte is left in a field of some word, and the variables that the words leave
pub data PatternIn (given : Given) : Variables → List WordTree → Bool → Variables → Type 0 where
  in_none : {variables : Variables} → PatternIn given variables [] false variables
  in_words : {before between after : Variables} {word : WordTree} {words : List WordTree} {marks : List Marked} {found : Bool} → HasMarks given before word marks between → PatternIn given between words found after → PatternIn given before (word ∷ words) (list_any has_pattern (split (ifs_of between) marks) || found) after

-- no unquoted pattern byte is left in a field of the words
abbrev pub IsPlain : Given → Variables → List WordTree → Type 0
IsPlain given before words = (after : Variables) × PatternIn given before words false after

-- in these files, and from this working directory, names are looked up: those that the tree tells, or any, where none is looked up
abbrev pub Sees : TreeState → Type 0 → Files → Components → Type 0
Sees state Plain files home = Plain ⊎ ((state.held ≡ Some files) × (state.home ≡ home))

-- the fault is want of memory, or of the tree
abbrev pub IsOutside : ExpandFault → Type 0
IsOutside why = (why ≡ fault.Memory) ⊎ (why ≡ fault.Failed)

-- the fault is one that the words mean: a parameter that is unset, or an expression without a value
abbrev pub IsMeant : ExpandFault → Type 0
IsMeant (fault.Unset name text) = Unit {0}
IsMeant (fault.Arith why) = Unit {0}
IsMeant fault.ArgsTooMany = ⊥
IsMeant fault.Failed = ⊥
IsMeant fault.Memory = ⊥

-- the fault comes from the words alone
abbrev pub IsOfWords : ExpandFault → Type 0
IsOfWords (fault.Unset name text) = Unit {0}
IsOfWords (fault.Arith why) = Unit {0}
IsOfWords fault.ArgsTooMany = ⊥
IsOfWords fault.Failed = ⊥
IsOfWords fault.Memory = Unit {0}

-- the fault comes from the words or the tree: there may be fewer fields
abbrev pub IsOfWordsOrTree : ExpandFault → Type 0
IsOfWordsOrTree (fault.Unset name text) = Unit {0}
IsOfWordsOrTree (fault.Arith why) = Unit {0}
IsOfWordsOrTree fault.ArgsTooMany = ⊥
IsOfWordsOrTree fault.Failed = Unit {0}
IsOfWordsOrTree fault.Memory = Unit {0}

-- a fault of the tree
abbrev pub outside : WorldErr → ExpandFault
outside world.Failed = fault.Failed
outside world.Memory = fault.Memory

-- there are such fields, and more than this many
pub record TooMany (most : ℕ) (Are : List (List ℕ) → Type 0) : Type 0 where
  pub fields : List (List ℕ)
  pub are : Are fields
  pub more : most < length fields

-- a word stops at its first fault, which leaves these variables
pub data WordStops (given : Given) (before : Variables) (word : WordTree) : ExpandFault → Variables → Type 0 where
  word_stops : {after : Variables} {fault : ValueFault} {shown : ExpandFault} → shown ≡ told fault → WordGives given setting.Outer before word (Err fault, after) → WordStops given before word shown after
  fails_behind : {after : Variables} {marks : List Marked} {shown : ExpandFault} → IsOutside shown → HasMarks given before word marks after → WordStops given before word shown after

-- the word has marks, and leaves these variables
abbrev pub HasSomeMarks : Given → Variables → WordTree → Variables → Type 0
HasSomeMarks given before word after = (marks : List Marked) × HasMarks given before word marks after

-- words stop at the first fault of theirs, which leaves these variables. Memory and the tree may fail at any word; that there are too
-- many fields is told behind the last
pub data Stop (given : Given) : Variables → List WordTree → ExpandFault → Variables → Type 0 where
  stops_here : {before after : Variables} {word : WordTree} {words : List WordTree} {shown : ExpandFault} → WordStops given before word shown after → Stop given before (word ∷ words) shown after
  stops_later : {before between after : Variables} {word : WordTree} {words : List WordTree} {marks : List Marked} {shown : ExpandFault} → HasMarks given before word marks between → Stop given between words shown after → Stop given before (word ∷ words) shown after
  fails_here : {variables : Variables} {words : List WordTree} {shown : ExpandFault} → IsOutside shown → Stop given variables words shown variables
  too_many : {variables : Variables} → Stop given variables [] fault.ArgsTooMany variables

-- the text of a word of which nothing is split, or its fault
pub data TextGives (given : Given) (before : Variables) (word : WordTree) : List ℕ → Variables → Type 0 where
  has_text : {after : Variables} {marks : List Marked} → WordGives given setting.Joined before word (Ok marks, after) → TextGives given before word (bare marks) after

pub data TextStops (given : Given) (before : Variables) (word : WordTree) : ExpandFault → Variables → Type 0 where
  text_stops : {after : Variables} {fault : ValueFault} {shown : ExpandFault} → shown ≡ told fault → WordGives given setting.Joined before word (Err fault, after) → TextStops given before word shown after
  text_short : {after : Variables} {marks : List Marked} {shown : ExpandFault} → shown ≡ fault.Memory → WordGives given setting.Joined before word (Ok marks, after) → TextStops given before word shown after

-- the tree's count never falls, it rose where the tree's failure is told, and stands elsewhere: no failure is told as another fault
pub record Asks {T : Type 0} (before now : ℕ) (result : Result T ExpandFault) : Type 0 where
  pub later : before ≤ now
  pub failed : IsErrOf result fault.Failed → Rose before now
  pub ok : OnOk result (now ≡ before)
  pub others : IfErr result (λ why. (why ≡ fault.Failed) ⊎ (now ≡ before))

-- names were appended, which are such
pub record Appends (Are : List (List ℕ) → Type 0) (old new : List (List ℕ)) : Type 0 where
  pub names : List (List ℕ)
  pub grew : new ≡ old ++ names
  pub are : Are names

-- names were appended, which are such, or the first of them, where there are more than this many then
pub record AppendsUpTo (most : ℕ) (Are : List (List ℕ) → Type 0) (old new : List (List ℕ)) : Type 0 where
  pub names : List (List ℕ)
  pub left_out : List (List ℕ)
  pub grew : new ++ left_out ≡ old ++ names
  pub all : length new ≤ most → left_out ≡ []
  pub are : Are names
