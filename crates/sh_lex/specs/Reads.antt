-- How far a construct goes (XCU 2.3 item 5, 2.6): a construct that opens inside is read as a whole, and then the outer one goes on.
-- What is refused inside is refused. The code keeps a stack of open constructs.
use Rattle.std.specs.Prelude.{◌≡◌, ℕ, List}
use Rattle.sh_lex.specs.Acts.{Act, goes, enters, ends, offends}
use Rattle.sh_lex.specs.Dollars.{in_name}
use Rattle.sh_lex.specs.DoubleQuotes.{in_double_quotes}
use Rattle.sh_lex.specs.Braces.{in_brace_head, in_braces}
use Rattle.sh_lex.specs.Arithmetic.{in_arithmetic, in_parentheses}
use Rattle.sh_lex.specs.Commands.{in_commands}
use Rattle.sh_lex.specs.declared.parts.Fault.{Fault}
use Rattle.sh_lex.specs.declared.parts.Construct.{Construct}
use Rattle.sh_lex.specs.declared.reading.ScanStop.{ScanStop}
use Rattle.sh_lex.specs.declared.reading.ScanStop.TheVariants as stop
use Rattle.sh_lex.specs.declared.parts.Construct.TheVariants as part

-- what the text does to the construct that is open there
abbrev pub act : Construct → List ℕ → Act
act (part.Commands nest opened at) text = in_commands nest opened at text
act part.Name text = in_name text
act (part.DoubleQuotes nest left) text = in_double_quotes nest left text
act (part.BraceHead nest left quoted) text = in_brace_head nest left quoted text
act (part.Braces nest left quoted) text = in_braces nest left quoted text
act (part.Arithmetic nest left) text = in_arithmetic nest left text
act (part.Parentheses nest left) text = in_parentheses nest left text

-- the construct ended and this is left, or the text is refused
pub data Outcome : Type 0 where
  past : List ℕ → Outcome
  refused : Fault → Outcome

pub data Reads : Construct → List ℕ → Outcome → Type 0 where
  goes_on : {construct next : Construct} {text rest : List ℕ} {end : Outcome}
      → act construct text ≡ goes next rest → Reads next rest end → Reads construct text end
  reads_inner : {construct inner outer : Construct} {text rest after : List ℕ} {end : Outcome}
      → act construct text ≡ enters inner outer rest → Reads inner rest (past after) → Reads outer after end
      → Reads construct text end
  refused_inside : {construct inner outer : Construct} {text rest : List ℕ} {fault : Fault}
      → act construct text ≡ enters inner outer rest → Reads inner rest (refused fault) → Reads construct text (refused fault)
  has_ended : {construct : Construct} {text rest : List ℕ} → act construct text ≡ ends rest → Reads construct text (past rest)
  offended : {construct : Construct} {text : List ℕ} {fault : Fault}
      → act construct text ≡ offends fault → Reads construct text (refused fault)

-- why the code stopped in a construct: for want of memory, which is free, or for this refusal
abbrev pub StopsReading : Construct → List ℕ → ScanStop → Type 0
StopsReading construct text (stop.Refused fault) = Reads construct text (refused fault)
StopsReading construct text stop.Memory = Unit {0}
