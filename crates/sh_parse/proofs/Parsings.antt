-- A text is what its items are.
use Rattle.std.proofs.Common.{ℕ, List, Result, Ok, Err, IfOk, IfErr}
use Rattle.sh_tree.specs.Views.{script_tree}
use Rattle.sh_tree.specs.Numbering.{IsNumberedScript}
use Rattle.sh_tree.specs.declared.commands.Script.{Script}
use Rattle.sh_lex.specs.Lexes.{Lexes, HasRefusal}
use Rattle.sh_lex.specs.declared.refusals.Static.{Static}
use Rattle.sh_lex.specs.declared.tokens.Token.{Token}
use Rattle.sh_parse.specs.Pieces.{WordViews}
use Rattle.sh_parse.specs.Texts.{HasItems}
use Rattle.sh_parse.specs.Outcomes.{Reading, IsSound, EndsAt, IsScript, IsStopped}
use Rattle.sh_parse.specs.Inner.WordsOf.{words_of}
use Rattle.sh_parse.proofs.ManyWords.{some_words}
use Rattle.sh_parse.proofs.WordCounts.{script_is_numbered}
use Rattle.sh_parse.specs.Stops.{Refuses as RefusesGrammar}
use Rattle.sh_parse.specs.Parses.{Refuses}
use Rattle.sh_parse.specs.Inner.Parses.{RefusesItems, of_grammar}
use Rattle.sh_parse.specs.declared.refusals.GrammarRefusal.{GrammarRefusal}
use Rattle.sh_parse.specs.declared.refusals.GrammarRefusal.TheVariants as grammar
use Rattle.sh_parse.specs.declared.refusals.SyntaxRefusal.TheVariants as refusal
use Rattle.sh_parse.specs.declared.items.Item.{Item}
use Rattle.sh_parse.specs.declared.scripts.ParseRefusal.{ParseRefusal}
use Rattle.sh_parse.specs.declared.scripts.ParseRefusal.TheVariants as parse

module _ (text : List ℕ) (items : List Item) (has : HasItems text items) where
  read_as : {Is : WordViews → List Item → Type 0} → Is (words_of text) items → Reading text Is
  read_as is = record { items = items; views = words_of text; has = has; words = some_words text; is = is }

  pub script_of_text : (result : Result Script ParseRefusal)
      → IfOk result (λ script. IsSound (script_tree script) (words_of text) items) → IfOk result (λ script. IsScript text (script_tree script))
  script_of_text (Ok script) sound = read_as {Is = IsSound (script_tree script)} sound
  script_of_text (Err refusal) sound = tt

  pub numbered_text : (result : Result Script ParseRefusal)
      → IfOk result (λ script. IsSound (script_tree script) (words_of text) items) → IfOk result (λ script. IsNumberedScript (script_tree script))
  numbered_text (Ok script) sound = script_is_numbered text (script_tree script) (read_as {Is = IsSound (script_tree script)} sound)
  numbered_text (Err refusal) sound = tt

  refusal_told : (refusal : ParseRefusal) → RefusesItems (words_of text) items refusal → Refuses text refusal
  refusal_told (parse.Refused told) ends = read_as {Is = EndsAt told} ends
  refusal_told parse.Memory ends = tt

  pub refusal_of_text : (result : Result Script ParseRefusal) → IfErr result (λ refusal. RefusesItems (words_of text) items refusal)
      → IfErr result (λ refusal. Refuses text refusal)
  refusal_of_text (Ok script) ends = tt
  refusal_of_text (Err refusal) ends = refusal_told refusal ends

-- a text with tokens isn't refused
pub not_refused : (text : List ℕ) (tokens : List Token) (refusal : Static) → Lexes text tokens → HasRefusal text refusal → IsStopped text refusal
not_refused text tokens refusal lexes has = absurd (has.not_lexed tokens lexes)

-- items that are no script are refused as it is told
pub grammar_told : (views : WordViews) (items : List Item) (refusal : GrammarRefusal) → RefusesGrammar views items refusal
    → RefusesItems views items (of_grammar refusal)
grammar_told views items (grammar.Refused refusal.BadSyntax) stop = stop
grammar_told views items (grammar.Refused (refusal.TooDeep offset)) stop = stop
grammar_told views items grammar.Memory stop = tt
