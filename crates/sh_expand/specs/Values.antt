-- What words give (XCU 2.6.2 to 2.6.4). Each part of a word gives marks, from the left, and may assign variables; the first fault
-- ends the word, and what was assigned before it stays. Some parts need the marks of a word of their own first. Memory may be wanted
-- at any moment, with the variables as they are then.
use Rattle.std.specs.Prelude.{◌≡◌, ◌⊎◌, if◌then◌else◌, ℕ, Bool, true, List, [], ◌++◌, decimal, length, codes, Option, None, Result, Ok, Err, ℤ}
use Rattle.sh_tree.specs.declared.words.Param.{Param}
use Rattle.sh_tree.specs.Trees.{WordTree, no_part, part, PartTree, plain, quoted, parameter, substitution, arithmetic, FormTree, bare as bare_form, length_of, default, assign, check_omitted, check, alternate, cut_suffix, cut_prefix}
use Rattle.sh_pattern.specs.declared.elements.Element.{Element}
use Rattle.sh_pattern.specs.Reading.{Reads}
use Rattle.sh_arith.specs.Variables.{Variables}
use Rattle.sh_arith.specs.Values.{assigned_text}
use Rattle.sh_arith.specs.Arithmetic.{HasOutcome, IsUnderWay}
use Rattle.sh_arith.specs.declared.faults.ArithFault.{ArithFault}
use Rattle.sh_expand.specs.declared.faults.ValueFault.{ValueFault}
use Rattle.sh_expand.specs.declared.faults.ValueFault.TheVariants.{Unset, Memory}
use Rattle.sh_expand.specs.declared.beginning.Begin.{Begin}
use Rattle.sh_expand.specs.declared.beginning.Begin.TheVariants as begin
use Rattle.sh_expand.specs.declared.marks.Marked.{Marked}
use Rattle.sh_expand.specs.declared.marks.Manner.{Manner}
use Rattle.sh_expand.specs.declared.marks.Manner.TheVariants as manner
use Rattle.sh_expand.specs.declared.parameters.Setting.{Setting}
use Rattle.sh_expand.specs.declared.parameters.Setting.TheVariants as setting
use Rattle.sh_pattern.specs.declared.trims.Side.{Side}
use Rattle.sh_pattern.specs.declared.trims.Side.TheVariants as side
use Rattle.sh_expand.specs.Faults.{arith_fault}
use Rattle.sh_expand.specs.Marks.{marked, value, or_empty, bare, pattern_of}
use Rattle.sh_expand.specs.Given.{Given, substituted}
use Rattle.sh_expand.specs.Parameters.{parameter_text, is_usable, or_nothing, name_of, plain_value, assigned}
use Rattle.sh_pattern.specs.Trims.{Cuts}

-- marks or a fault, and the variables then
abbrev pub Outcome : Type 0
Outcome = Result (List Marked) ValueFault × Variables

-- a byte outside quotes is as it is written, but in the word of an expansion it is what the expansion gives
abbrev pub plain_manner : Setting → Manner
plain_manner setting.Outer = manner.Written
plain_manner setting.Inner = manner.Loose
plain_manner setting.Joined = manner.Written

-- how the word of an expansion is used that stands in a word which is used so
abbrev pub inside : Setting → Setting
inside setting.Outer = setting.Inner
inside setting.Inner = setting.Inner
inside setting.Joined = setting.Joined

-- a part has its marks or its fault at once, or needs the marks of a word first, which is used so
pub data Begun : Type 0 where
  at_once : Result (List Marked) ValueFault → Begun
  needs : Setting → WordTree → Begun

-- where the parameter counts as set it gives its text
abbrev pub unless_set : Bool → Bool → Option (List ℕ) → Begun → Begun
unless_set flag colon text otherwise = if is_usable colon text then at_once (Ok (value flag (or_nothing text))) else otherwise

-- where it doesn't it gives nothing
abbrev pub where_set : Bool → Bool → Option (List ℕ) → Begun → Begun
where_set flag colon text word = if is_usable colon text then word else at_once (Ok (value flag []))

-- the text of `${x?}` without a word
abbrev pub not_set : List ℕ
not_set = codes "parameter not set"

-- how a parameter expansion begins, by its parameter's text
abbrev pub form_begun : Given → Setting → Param → Bool → Option (List ℕ) → FormTree → Begun
form_begun given used what flag text bare_form = at_once (Ok (plain_value given used what flag (or_nothing text)))
form_begun given used what flag text length_of = at_once (Ok (value flag (decimal (length (or_nothing text)))))
form_begun given used what flag text (default colon word) = unless_set flag colon text (needs (inside used) word)
form_begun given used what flag text (assign colon word) = unless_set flag colon text (needs setting.Joined word)
form_begun given used what flag text (check_omitted colon) = unless_set flag colon text (at_once (Err (Unset (name_of what) not_set)))
form_begun given used what flag text (check colon word) = unless_set flag colon text (needs setting.Joined word)
form_begun given used what flag text (alternate colon word) = where_set flag colon text (needs (inside used) word)
form_begun given used what flag text (cut_suffix longest word) = needs setting.Joined word
form_begun given used what flag text (cut_prefix longest word) = needs setting.Joined word

-- how a part begins
abbrev pub begun : Given → Setting → Variables → PartTree → Begun
begun given used variables (plain text) = at_once (Ok (marked (plain_manner used) text))
begun given used variables (quoted text) = at_once (Ok (value true text))
begun given used variables (parameter what form flag) = form_begun given used what flag (parameter_text given variables what) form
begun given used variables (substitution number flag) = at_once (Ok (value flag (substituted given number)))
begun given used variables (arithmetic word flag) = needs setting.Joined word

-- the text of a parameter without a beginning or an ending that fits the pattern of these marks
pub data Trims (cut_from : Side) (longest flag : Bool) (text : List ℕ) (marks : List Marked) : Result (List Marked) ValueFault → Type 0 where
  trims : (pattern : List Element) (rest : List ℕ) → Reads (pattern_of marks) pattern → Cuts cut_from longest pattern text rest → Trims cut_from longest flag text marks (Ok (value flag rest))

-- the value of a text as an arithmetic expression
pub data Computes (flag : Bool) (text : List ℕ) (variables : Variables) : Outcome → Type 0 where
  computes : {number : ℤ} {after : Variables} → HasOutcome text variables (Ok number, after) → Computes flag text variables (Ok (value flag (assigned_text number)), after)
  fails : {fault : ArithFault} {after : Variables} → HasOutcome text variables (Err fault, after) → Computes flag text variables (Err (arith_fault fault), after)
  short : {after : Variables} → IsUnderWay text variables after → Computes flag text variables (Err Memory, after)
  short_at_last : {number : ℤ} {after : Variables} → HasOutcome text variables (Ok number, after) → Computes flag text variables (Err Memory, after)

-- what a form makes of the marks of its word; no other form needs one
abbrev pub FormEnds : Param → Bool → List ℕ → List Marked → FormTree → Result (List Marked) ValueFault → Type 0
FormEnds what flag text marks bare_form result = result ≡ Ok []
FormEnds what flag text marks length_of result = result ≡ Ok []
FormEnds what flag text marks (default colon word) result = result ≡ Ok (or_empty flag marks)
FormEnds what flag text marks (assign colon word) result = result ≡ Ok (value flag (bare marks))
FormEnds what flag text marks (check_omitted colon) result = result ≡ Ok []
FormEnds what flag text marks (check colon word) result = result ≡ Err (Unset (name_of what) (bare marks))
FormEnds what flag text marks (alternate colon word) result = result ≡ Ok (or_empty flag marks)
FormEnds what flag text marks (cut_suffix longest word) result = Trims side.Suffix longest flag text marks result
FormEnds what flag text marks (cut_prefix longest word) result = Trims side.Prefix longest flag text marks result

-- the variables after a form: `${x=word}` sets its parameter to the text of the marks
abbrev pub form_assigns : Param → List Marked → FormTree → Variables → Variables
form_assigns what marks bare_form variables = variables
form_assigns what marks length_of variables = variables
form_assigns what marks (default colon word) variables = variables
form_assigns what marks (assign colon word) variables = assigned what (bare marks) variables
form_assigns what marks (check_omitted colon) variables = variables
form_assigns what marks (check colon word) variables = variables
form_assigns what marks (alternate colon word) variables = variables
form_assigns what marks (cut_suffix longest word) variables = variables
form_assigns what marks (cut_prefix longest word) variables = variables

-- the variables that a form leaves with its result
abbrev pub left_by : Param → List Marked → FormTree → Variables → Result (List Marked) ValueFault → Variables
left_by what marks form variables (Ok added) = form_assigns what marks form variables
left_by what marks form variables (Err fault) = variables

-- what a part makes of the marks of its word; `text` is its parameter's. No other part needs one
abbrev pub Ends : Option (List ℕ) → List Marked → Variables → PartTree → Outcome → Type 0
Ends text marks variables (plain written) outcome = outcome ≡ (Ok [], variables)
Ends text marks variables (quoted written) outcome = outcome ≡ (Ok [], variables)
Ends text marks variables (parameter what form flag) outcome =
    FormEnds what flag (or_nothing text) marks form outcome.0 × (outcome.1 ≡ left_by what marks form variables outcome.0)
Ends text marks variables (substitution number flag) outcome = outcome ≡ (Ok [], variables)
Ends text marks variables (arithmetic word flag) outcome = Computes flag (bare marks) variables outcome

-- the word that is in a part, or a word without parts
abbrev pub word_in_form : FormTree → WordTree
word_in_form bare_form = no_part
word_in_form length_of = no_part
word_in_form (default colon word) = word
word_in_form (assign colon word) = word
word_in_form (check_omitted colon) = no_part
word_in_form (check colon word) = word
word_in_form (alternate colon word) = word
word_in_form (cut_suffix longest word) = word
word_in_form (cut_prefix longest word) = word

abbrev pub word_in : PartTree → WordTree
word_in (plain text) = no_part
word_in (quoted text) = no_part
word_in (parameter what form flag) = word_in_form form
word_in (substitution number flag) = no_part
word_in (arithmetic word flag) = word

-- the text of the parameter of a part
abbrev pub text_in : Given → Variables → PartTree → Option (List ℕ)
text_in given variables (plain text) = None
text_in given variables (quoted text) = None
text_in given variables (parameter what form flag) = parameter_text given variables what
text_in given variables (substitution number flag) = None
text_in given variables (arithmetic word flag) = None

mutual
  -- what the parts of a word give that is used so
  pub data WordGives (given : Given) : Setting → Variables → WordTree → Outcome → Type 0 where
    no_more : {used : Setting} {variables : Variables} → WordGives given used variables no_part (Ok [], variables)
    one_more : {used : Setting} {before between after : Variables} {first : PartTree} {rest : WordTree} {marks others : List Marked} → PartGives given used before first (Ok marks, between) → WordGives given used between rest (Ok others, after) → WordGives given used before (part first rest) (Ok (marks ++ others), after)
    first_stops : {used : Setting} {before after : Variables} {first : PartTree} {rest : WordTree} {fault : ValueFault} → PartGives given used before first (Err fault, after) → WordGives given used before (part first rest) (Err fault, after)
    later_stops : {used : Setting} {before between after : Variables} {first : PartTree} {rest : WordTree} {marks : List Marked} {fault : ValueFault} → PartGives given used before first (Ok marks, between) → WordGives given used between rest (Err fault, after) → WordGives given used before (part first rest) (Err fault, after)

  -- what a part gives
  pub data PartGives (given : Given) : Setting → Variables → PartTree → Outcome → Type 0 where
    told_at_once : {used : Setting} {variables : Variables} {it : PartTree} {result : Result (List Marked) ValueFault} → begun given used variables it ≡ at_once result → PartGives given used variables it (result, variables)
    by_its_word : {used within : Setting} {before between : Variables} {it : PartTree} {word : WordTree} {marks : List Marked} {outcome : Outcome} → begun given used before it ≡ needs within word → WordGives given within before word (Ok marks, between) → Ends (text_in given before it) marks between it outcome → PartGives given used before it outcome
    its_word_stops : {used within : Setting} {before after : Variables} {it : PartTree} {word : WordTree} {fault : ValueFault} → begun given used before it ≡ needs within word → WordGives given within before word (Err fault, after) → PartGives given used before it (Err fault, after)
    no_memory : {used : Setting} {variables : Variables} {it : PartTree} {fault : ValueFault} → fault ≡ Memory → PartGives given used variables it (Err fault, variables)
    none_after_its_word : {used within : Setting} {before after : Variables} {it : PartTree} {word : WordTree} {marks : List Marked} {fault : ValueFault} → fault ≡ Memory → begun given used before it ≡ needs within word → WordGives given within before word (Ok marks, after) → PartGives given used before it (Err fault, after)

-- marks were appended, which are given
pub record Adds (Gives : List Marked → Type 0) (old new : List Marked) : Type 0 where
  pub marks : List Marked
  pub grew : new ≡ old ++ marks
  pub gives : Gives marks

-- what the call that begins a part leaves
abbrev pub BeginsAs : (Begun) → WordTree → Option (List ℕ) → List Marked → List Marked → Result Begin ValueFault → Type 0
BeginsAs how word text old new (Ok begin.Done) = Adds (λ marks. how ≡ at_once (Ok marks)) old new
BeginsAs how word text old new (Ok (begin.Needs within kept)) = (how ≡ needs within word) × (kept ≡ text) × (new ≡ old)
BeginsAs how word text old new (Err fault) = (how ≡ at_once (Err fault)) ⊎ (fault ≡ Memory)
