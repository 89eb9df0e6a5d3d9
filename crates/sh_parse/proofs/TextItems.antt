-- Every text that is lexed has items.
use Rattle.std.proofs.Common.{ℕ, ◌-◌, List, [], ◌∷◌, ◌++◌, length, Result, Ok, Err, refl}
use Rattle.sh_lex.specs.Reads.{Reads, past, goes_on, reads_inner, has_ended}
use Rattle.sh_lex.specs.Texts.{unspliced}
use Rattle.sh_lex.specs.Lexes as lexed
use Rattle.sh_lex.specs.Lexes.{Tokens, Lexes, after_token, token_between, one_word}
use Rattle.sh_lex.specs.Marks.{Marked, marks_on, marks_inner, marks_end, Marks, no_mark, skips, opens, closes, takes, takes_word, seen, opening, closing, entry_of}
use Rattle.sh_lex.proofs.Marked.{has_marks}
use Rattle.sh_lex.specs.declared.lexing.marks.Mark.{Mark}
use Rattle.sh_lex.specs.declared.lexing.marks.Mark.TheVariants as mark
use Rattle.sh_lex.specs.declared.parts.Fault.{Fault}
use Rattle.sh_lex.specs.declared.parts.Construct.{Construct}
use Rattle.sh_lex.specs.declared.tokens.Token.{Token}
use Rattle.sh_lex.specs.declared.tokens.TokenKind.TheVariants as kind
use Rattle.sh_lex.specs.declared.tokens.Op.TheVariants as op
use Rattle.sh_parse.specs.Texts.{items_of, HasItems}
use Rattle.sh_parse.specs.declared.items.Item.{Item}

module _ (total : ℕ) where
  -- a construct that is read has marks
  reads_marked : {construct : Construct} {text left : List ℕ} → Reads construct text (past left)
      → (found : List Mark) × Marked total construct text found left
  reads_marked {construct = construct} {text = text} (goes_on e more) =
      let (found, marked) = reads_marked more in (seen total construct text ++ found, marks_on e marked)
  reads_marked {construct = construct} {text = text} (reads_inner {inner = inner} {outer = outer} {rest = rest} e inside outside) =
      let (one, is_one) = reads_marked inside in
      let (two, is_two) = reads_marked outside in (
        seen total construct text ++ (opening total text rest (entry_of inner outer) ++ (one ++ (closing (entry_of inner outer) ++ two))),
        marks_inner e is_one is_two,
      )
  reads_marked {construct = construct} {text = text} (has_ended e) = (seen total construct text, marks_end e)

  -- the tokens were read to the end
  abbrev Done : Result (List Token) Fault → Type 0
  Done (Ok tokens) = Unit {0}
  Done (Err fault) = ⊥

  done_behind : (first : Token) (end : Result (List Token) Fault) → Done (after_token first end) → Done end
  done_behind first (Ok tokens) done = tt
  done_behind first (Err fault) done = done

  -- a text with tokens has marks
  tokens_marked : {text : List ℕ} {end : Result (List Token) Fault} → Tokens total text end → Done end
      → (found : List Mark) × Marks total text found
  tokens_marked (lexed.no_token e) done = ([], no_mark e)
  tokens_marked (lexed.skips e more) done = let (found, marked) = tokens_marked more done in (found, skips e marked)
  tokens_marked {text = text} (lexed.opens {rest = rest} {end = end} e more) done =
      let (found, marked) = tokens_marked more (done_behind (token_between total (kind.Op op.Open) text rest) end done) in
      (mark.Token (token_between total (kind.Op op.Open) text rest) ∷ found, opens e marked)
  tokens_marked {text = text} (lexed.closes {rest = rest} {end = end} e more) done =
      let (found, marked) = tokens_marked more (done_behind (token_between total (kind.Op op.Close) text rest) end done) in
      (mark.Token (token_between total (kind.Op op.Close) text rest) ∷ found, closes e marked)
  tokens_marked {text = text} (lexed.takes {rest = rest} {kind = sort} {end = end} e more) done =
      let (found, marked) = tokens_marked more (done_behind (token_between total sort text rest) end done) in
      (mark.Token (token_between total sort text rest) ∷ found, takes e marked)
  tokens_marked {text = text} (lexed.takes_word {rest = rest} {end = end} e reads more) done =
      let (found, marked) = tokens_marked more (done_behind (token_between total kind.Word text rest) end done) in
      let (inside, is_inside) = reads_marked reads in (
        mark.WordBegin (total - length (unspliced text)) ∷ (inside ++ mark.WordEnd (total - length rest) ∷ found),
        takes_word e is_inside marked,
      )
  tokens_marked (lexed.refused_word e reads) done = absurd done
  tokens_marked (lexed.refused_token e) done = absurd done

pub some_items : (text : List ℕ) (tokens : List Token) → Lexes text tokens → (items : List Item) × HasItems text items
some_items text tokens lexes =
    let (marks, marked) = tokens_marked (length text) lexes.read tt in (
      items_of text marks,
      record { marks = marks; marked = has_marks text marks lexes.short marked; stands_for = refl },
    )
