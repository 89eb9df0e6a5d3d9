-- The items of a text (XCU 2.10.2): what its marks stand for, in their order. The item of a word stands where the word begins, before
-- those of its command substitutions. The code walks from the last mark, with the ends of words that it has met.
use Rattle.std.specs.Prelude.{◌≡◌, ℕ, suc, zero, ◌-◌, List, [], ◌∷◌, get_or}
use Rattle.std.specs.List.{between}
use Rattle.sh_lex.specs.Marks.{HasMarks}
use Rattle.sh_lex.specs.declared.bytes.TheConstants.{ZERO}
use Rattle.sh_lex.specs.declared.lexing.marks.Mark.{Mark}
use Rattle.sh_lex.specs.declared.lexing.marks.Mark.TheVariants as mark
use Rattle.sh_lex.specs.declared.tokens.Op.{Op}
use Rattle.sh_lex.specs.declared.tokens.Op.TheVariants as op
use Rattle.sh_lex.specs.declared.tokens.Token.{Token}
use Rattle.sh_lex.specs.declared.tokens.TokenKind.{TokenKind}
use Rattle.sh_lex.specs.declared.tokens.TokenKind.TheVariants as kind
use Rattle.sh_tree.specs.declared.commands.How.TheVariants as how
use Rattle.sh_tree.specs.declared.commands.Join.TheVariants as join
use Rattle.sh_parse.specs.Kinds.{spelled, kind_of}
use Rattle.sh_parse.specs.declared.items.Item.{Item}
use Rattle.sh_parse.specs.declared.items.Item.TheVariants as item

-- a word, by its first byte and the end of its last one
abbrev pub word_item : List ℕ → ℕ → ℕ → Item
word_item text from to = item.Word (kind_of (spelled (between from to text))) (record { from = from; to = to })

-- the value of the digit at an offset
abbrev pub digit_at : List ℕ → ℕ → ℕ
digit_at text at = get_or text at ZERO - ZERO

abbrev pub operator_item : Op → ℕ → Item
operator_item op.AndIf from = item.Join join.And
operator_item op.OrIf from = item.Join join.Or
operator_item op.Semi from = item.Semi
operator_item op.Pipe from = item.Pipe
operator_item op.Open from = item.Open from
operator_item op.Close from = item.Close
operator_item op.Less from = item.Redirect how.Read from
operator_item op.Great from = item.Redirect how.Write from
operator_item op.DGreat from = item.Redirect how.Append from
operator_item op.GreatAnd from = item.Redirect how.Copy from

abbrev pub item_by : List ℕ → TokenKind → ℕ → ℕ → Item
item_by text kind.Word from to = word_item text from to
item_by text kind.IoNumber from to = item.IoNumber (digit_at text from) from
item_by text kind.Newline from to = item.Newline
item_by text (kind.Op operator) from to = operator_item operator from

-- a token
abbrev pub token_item : List ℕ → Token → Item
token_item text token = item_by text token.kind token.from token.to

-- where the word ends that these marks stand behind the beginning of, of which so many words inside are open; 0 where no mark ends it
abbrev pub word_end : List Mark → ℕ → ℕ
word_end [] inner = 0
word_end (mark.WordBegin _ ∷ rest) inner = word_end rest (suc inner)
word_end (mark.WordEnd to ∷ rest) zero = to
word_end (mark.WordEnd to ∷ rest) (suc inner) = word_end rest inner
word_end (mark.Token _ ∷ rest) inner = word_end rest inner
word_end (mark.SubOpen _ ∷ rest) inner = word_end rest inner
word_end (mark.SubClose ∷ rest) inner = word_end rest inner
word_end (mark.Close ∷ rest) inner = word_end rest inner

abbrev pub items_of : List ℕ → List Mark → List Item
items_of text [] = []
items_of text (mark.WordBegin from ∷ rest) = word_item text from (word_end rest 0) ∷ items_of text rest
items_of text (mark.WordEnd _ ∷ rest) = items_of text rest
items_of text (mark.Token token ∷ rest) = token_item text token ∷ items_of text rest
items_of text (mark.SubOpen at ∷ rest) = item.SubOpen at ∷ items_of text rest
items_of text (mark.SubClose ∷ rest) = item.SubClose ∷ items_of text rest
items_of text (mark.Close ∷ rest) = item.Close ∷ items_of text rest

-- the text is lexed, and these are its items
pub record HasItems (text : List ℕ) (items : List Item) : Type 0 where
  pub marks : List Mark
  pub marked : HasMarks text marks
  pub stands_for : items ≡ items_of text marks
