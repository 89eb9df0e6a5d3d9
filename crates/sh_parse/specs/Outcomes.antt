-- What a text is: one script, or refused in one way (XCU 2.10.2, narrowed).
use Rattle.std.specs.Prelude.{◌≡◌, ℕ, ◌+◌, ◌⊎◌, Bool, false, List}
use Rattle.std.specs.List.{between}
use Rattle.std.specs.declared.option.Option.{Option}
use Rattle.std.specs.declared.option.Option.TheVariants.{None, Some}
use Rattle.sh_tree.specs.Trees.{WordTree, ScriptTree}
use Rattle.sh_lex.specs.Lexes.{Offence}
use Rattle.sh_lex.specs.declared.refusals.Static.{Static}
use Rattle.sh_lex.specs.declared.refusals.Static.TheVariants as static
use Rattle.sh_words.specs.Words.{WordOutcome, ReadsWord, ReadsAssign, assigned_name}
use Rattle.sh_words.specs.Assigning.{word_assigns}
use Rattle.sh_parse.specs.Kinds.{spelled}
use Rattle.sh_parse.specs.Pieces.{WordViews}
use Rattle.sh_parse.specs.Stops.{HasScript, HasStop, IsSomeScript}
use Rattle.sh_parse.specs.Misuses.{NoMisuse, IsFirstForm, IsFirstMix}
use Rattle.sh_parse.specs.Texts.{HasItems}
use Rattle.sh_parse.specs.declared.items.Item.{Item}
use Rattle.sh_parse.specs.declared.items.Span.{Span}
use Rattle.sh_parse.specs.declared.refusals.SyntaxRefusal.TheVariants as grammar

-- the bytes of a word
abbrev pub bytes_at : List ℕ → Span → List ℕ
bytes_at text at = between at.from at.to text

-- an offset in a word is one in the text
abbrev pub in_text : ℕ → Option ℕ → Option ℕ
in_text from None = None
in_text from (Some offset) = Some (from + offset)

-- a word is read so
pub record IsReadAs (Reads : WordOutcome → Type 0) (tree : WordTree) : Type 0 where
  pub outcome : WordOutcome
  pub reads : Reads outcome
  pub same : tree ≡ outcome.tree

-- so a word looks before it is read
pub record LooksAs (Reads : WordOutcome → Type 0) (from : ℕ) (fault : Option ℕ) (assigns : Bool) : Type 0 where
  pub outcome : WordOutcome
  pub reads : Reads outcome
  pub fault_is : fault ≡ in_text from outcome.fault
  pub assigns_is : assigns ≡ word_assigns false outcome.tree

-- these are the words of the text, by where they stand
pub record AreWordsOf (text : List ℕ) (views : WordViews) : Type 0 where
  pub word : (at : Span) (first : ℕ) → IsReadAs (ReadsWord first (bytes_at text at)) (views.word at first)
  pub value : (at : Span) (first : ℕ) → IsReadAs (ReadsAssign first (bytes_at text at)) (views.assign at first).1
  pub assigned : (at : Span) (first : ℕ) → (views.assign at first).0 ≡ assigned_name (bytes_at text at)
  pub name : (at : Span) → views.name at ≡ spelled (bytes_at text at)
  pub look : (at : Span) → LooksAs (ReadsWord 0 (bytes_at text at)) at.from (views.fault at) (views.assigns at)

-- the text's items, and its words, are so
pub record Reading (text : List ℕ) (Is : WordViews → List Item → Type 0) : Type 0 where
  pub items : List Item
  pub views : WordViews
  pub has : HasItems text items
  pub words : AreWordsOf text views
  pub is : Is views items

-- the items are this script, with nothing misused
pub record IsSound (tree : ScriptTree) (views : WordViews) (items : List Item) : Type 0 where
  pub script : HasScript views items tree
  pub no_misuse : NoMisuse views items

-- the items are a script, but the first that is misused is this `${`
pub record EndsAtForm (offset : ℕ) (views : WordViews) (items : List Item) : Type 0 where
  pub script : IsSomeScript views items
  pub first : IsFirstForm views items offset

-- the same of a command
pub record EndsAtMix (offset : ℕ) (views : WordViews) (items : List Item) : Type 0 where
  pub script : IsSomeScript views items
  pub first : IsFirstMix views items offset

-- the items are refused so
abbrev pub EndsAt : Static → WordViews → List Item → Type 0
EndsAt static.BadSyntax views items = HasStop views items grammar.BadSyntax
EndsAt (static.TooDeep offset) views items = HasStop views items (grammar.TooDeep offset)
EndsAt (static.ParameterForm offset) views items = EndsAtForm offset views items
EndsAt (static.SubstitutionMix offset) views items = EndsAtMix offset views items
EndsAt (static.UnclosedQuote _) views items = ⊥
EndsAt (static.UnclosedBrace _) views items = ⊥
EndsAt (static.OutOfProfile _ _) views items = ⊥
EndsAt static.ScriptTooLong views items = ⊥

-- the text's tokens are this script; or are refused so
abbrev pub IsScript : List ℕ → ScriptTree → Type 0
IsScript text tree = Reading text (IsSound tree)

abbrev pub IsStopped : List ℕ → Static → Type 0
IsStopped text refusal = Reading text (EndsAt refusal)

-- what a text is
pub data Outcome : Type 0 where
  script : ScriptTree → Outcome
  refused : Static → Outcome

-- the text is this script, or is refused so, by its tokens or by what they are
abbrev pub HasOutcome : List ℕ → Outcome → Type 0
HasOutcome text (script tree) = IsScript text tree
HasOutcome text (refused refusal) = Offence text refusal ⊎ IsStopped text refusal

-- every text has exactly one outcome
pub record HasOneOutcome (text : List ℕ) : Type 0 where
  pub outcome : Outcome
  pub is : HasOutcome text outcome
  pub only : (other : Outcome) → HasOutcome text other → other ≡ outcome

-- what is read of each text
abbrev pub Readings : Type 0
Readings = List ℕ → Outcome

-- it is the one outcome of each text
pub record AreOutcomes (reads : Readings) : Type 0 where
  pub has : (text : List ℕ) → HasOutcome text (reads text)
  pub only : (text : List ℕ) (other : Outcome) → HasOutcome text other → other ≡ reads text

-- each text is read as something
pub record TextsAreRead : Type 0 where
  pub reads : Readings
  pub are : AreOutcomes reads
