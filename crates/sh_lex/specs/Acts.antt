-- One step of a construct, and what begins where a token may begin. A list is what is left of the text behind it.
-- The code has the same over slices.
use Rattle.std.specs.Prelude.{ℕ, List}
use Rattle.sh_lex.specs.declared.parts.Construct.{Construct}
use Rattle.sh_lex.specs.declared.parts.Fault.{Fault}
use Rattle.sh_lex.specs.declared.tokens.TokenKind.{TokenKind}
use Rattle.sh_lex.specs.declared.acts.Step.{Step}
use Rattle.sh_lex.specs.declared.acts.Step.TheVariants as step

pub data Act : Type 0 where
  -- the construct goes on as this part
  goes : Construct → List ℕ → Act
  -- the first part opens in the construct, which goes on as the second one
  enters : Construct → Construct → List ℕ → Act
  -- the construct has ended
  ends : List ℕ → Act
  -- the text is refused
  offends : Fault → Act

-- the act that a step of the code takes
abbrev pub act_of : Step → Act
act_of (step.Goes part rest) = goes part rest.now
act_of (step.Enters inner outer rest) = enters inner outer rest.now
act_of (step.Ends rest) = ends rest.now
act_of (step.Offends fault) = offends fault

pub data Found : Type 0 where
  -- nothing is left
  nothing : Found
  -- a blank or a comment
  gap : List ℕ → Found
  -- a parenthesis
  open_parenthesis : List ℕ → Found
  close_parenthesis : List ℕ → Found
  -- another token that isn't a word
  token : TokenKind → List ℕ → Found
  -- a word
  word : Found
  -- the text is refused
  offence : Fault → Found
