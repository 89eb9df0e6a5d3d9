-- A step leaves less of the text unless what it stands in has ended, and an expansion leaves no more than it was given.
use Rattle.std.proofs.Common.{ℕ, Bool, true, false, ◌<◌, ◌≤◌, ◌+◌, List, [], ◌∷◌, if◌then◌else◌, length, arith, rules}
use Rattle.ps_lines.specs.Bytes.{is_name_byte}
use Rattle.sh_lex.specs.Texts.{unspliced, behind_run}
use Rattle.sh_lex.specs.Heads as head
use Rattle.sh_lex.specs.Heads.{Head, brace_head}
use Rattle.sh_lex.proofs.Fronts.{length-unspliced, length-behind_run}
use Rattle.sh_lex.proofs.HeadLemmas as in_head
use Rattle.sh_tree.specs.Trees.{PartTree}
use Rattle.sh_tree.specs.declared.words.Param.{Param}
use Rattle.sh_words.specs.Inner.Built.{open_in}
use Rattle.sh_words.specs.Steps.{Step, ends, passes, gives, expands, dollar, opened, backslash, escape, unquoted_at, in_quotes_at, word_at, double_quotes_at, single_quotes_at, closing_at, parenthesis_closed, arithmetic_at, step}
use Rattle.sh_lex.specs.Dollars.{introduced_by}
use Rattle.sh_lex.specs.declared.Introduced.{Introduced}
use Rattle.sh_lex.specs.declared.Introduced.TheVariants as introduced
use Rattle.sh_words.specs.Parameters.{Expansion, whole, with_word, commands, arithmetic_text, no_form, braced, parenthesis_at, expansion_by, expansion_at, expansion}
use Rattle.sh_lex.specs.declared.Operator.{Operator}
use Rattle.sh_words.specs.declared.steps.Owner.{Owner}
use Rattle.sh_words.specs.declared.steps.Owner.TheVariants as owner
use Rattle.sh_words.specs.declared.steps.Mode.{Mode}
use Rattle.sh_words.specs.declared.steps.Mode.TheVariants as mode

-- of `count` bytes, with `depth` parentheses open, a step leaves fewer, or as many where it ends; and no more bytes and parentheses
pub data Shrinks : ℕ → ℕ → Step → Type 0 where
  at_end : {depth count : ℕ} {rest : List ℕ} → length rest ≤ count → Shrinks depth count (ends rest)
  at_quote : {depth count : ℕ} {next : Mode} {rest : List ℕ} → length rest < count → open_in next + length rest ≤ depth + count
      → Shrinks depth count (passes next rest)
  at_piece : {depth count : ℕ} {piece : PartTree} {next : Mode} {rest : List ℕ} → length rest < count
      → open_in next + length rest ≤ depth + count → Shrinks depth count (gives piece next rest)
  at_dollar : {depth count left : ℕ} {is_quoted : Bool} {rest : List ℕ} → length rest < left → left ≤ count
      → Shrinks depth count (expands is_quoted left rest)

Shrinks-if : (depth count : ℕ) (test : Bool) (left right : Step) → Shrinks depth count left → Shrinks depth count right
    → Shrinks depth count (if test then left else right)
Shrinks-if depth count true left right l r = l
Shrinks-if depth count false left right l r = r

module _ (depth count : ℕ) where
  gives-Shrinks : (piece : PartTree) (next : Mode) (rest : List ℕ) → length rest < count → open_in next ≤ depth
      → Shrinks depth count (gives piece next rest)
  gives-Shrinks piece next rest h k = at_piece h (omega arith)

  dollar-Shrinks : (is_quoted are_quoted : Bool) (at : Mode) (rest : List ℕ) → length rest < count → open_in at ≤ depth
      → Shrinks depth count (dollar is_quoted are_quoted at rest)
  dollar-Shrinks is_quoted are_quoted at rest h k =
      search (Shrinks-if, at_end, at_quote, at_piece, at_dollar, gives-Shrinks, rules) depth 12

  opened-Shrinks : (quote : ℕ) (inside outside : Mode) (text front : List ℕ) → length text < count → length front < count
      → open_in inside ≤ depth → open_in outside ≤ depth → Shrinks depth count (opened quote inside outside text front)
  opened-Shrinks quote inside outside text [] h k i o = at_quote h (omega arith)
  opened-Shrinks quote inside outside text (byte ∷ rest) h k i o =
      search (Shrinks-if, at_end, at_quote, at_piece, at_dollar, rules) depth 12

  backslash-Shrinks : (at : Mode) (rest : List ℕ) → length rest < count → open_in at ≤ depth → Shrinks depth count (backslash at rest)
  backslash-Shrinks at [] h k = at_piece h (omega arith)
  backslash-Shrinks at (byte ∷ rest) h k = at_piece (omega arith) (omega arith)

  escape-Shrinks : (is_quoted braces : Bool) (at : Mode) (rest : List ℕ) → length rest < count → open_in at ≤ depth
      → Shrinks depth count (escape is_quoted braces at rest)
  escape-Shrinks is_quoted braces at [] h k = at_piece h (omega arith)
  escape-Shrinks is_quoted braces at (byte ∷ rest) h k =
      search (Shrinks-if, at_end, at_quote, at_piece, at_dollar, rules) depth 12

  unquoted-Shrinks : (of : Owner) (byte : ℕ) (rest : List ℕ) → length rest < count → Shrinks depth count (unquoted_at of byte rest)
  unquoted-Shrinks of byte rest h =
      let none : 0 ≤ depth = omega arith in
      let inside : length (unspliced rest) < count = omega (arith, length-unspliced rest) in
      search (Shrinks-if, at_piece, at_dollar, dollar-Shrinks, opened-Shrinks, backslash-Shrinks, gives-Shrinks, rules) depth 12

  in_quotes-Shrinks : (of : Owner) (byte : ℕ) (rest : List ℕ) → length rest < count → Shrinks depth count (in_quotes_at of byte rest)
  in_quotes-Shrinks of byte rest h =
      let none : 0 ≤ depth = omega arith in
      let inside : length (unspliced rest) < count = omega (arith, length-unspliced rest) in
      search (Shrinks-if, at_piece, at_dollar, dollar-Shrinks, opened-Shrinks, escape-Shrinks, gives-Shrinks, rules) depth 12

  word-Shrinks : (of : Owner) (text : List ℕ) → length text ≤ count → Shrinks depth count (word_at of text)
  word-Shrinks of [] h = at_end h
  word-Shrinks owner.Token (byte ∷ rest) h = unquoted-Shrinks owner.Token byte rest (omega arith)
  word-Shrinks (owner.Braces true) (byte ∷ rest) h =
      search (Shrinks-if, at_end, at_quote, at_piece, at_dollar, in_quotes-Shrinks, rules) depth 12
  word-Shrinks (owner.Braces false) (byte ∷ rest) h =
      search (Shrinks-if, at_end, at_quote, at_piece, at_dollar, unquoted-Shrinks, rules) depth 12

  double_quotes-Shrinks : (of : Owner) (text : List ℕ) → length text ≤ count → Shrinks depth count (double_quotes_at of text)
  double_quotes-Shrinks of [] h = at_end h
  double_quotes-Shrinks of (byte ∷ rest) h =
      let none : 0 ≤ depth = omega arith in
      let less : length rest < count = omega arith in
      search (Shrinks-if, at_end, at_quote, at_piece, at_dollar, dollar-Shrinks, escape-Shrinks, gives-Shrinks, rules) depth 12

  single_quotes-Shrinks : (of : Owner) (text : List ℕ) → length text ≤ count → Shrinks depth count (single_quotes_at of text)
  single_quotes-Shrinks of [] h = at_end h
  single_quotes-Shrinks of (byte ∷ rest) h =
      search (Shrinks-if, at_end, at_quote, at_piece, at_dollar, rules) depth 12

  closing-Shrinks : (text front : List ℕ) → length text < count → length front < count → Shrinks depth count (closing_at text front)
  closing-Shrinks text [] h k = at_piece h (omega arith)
  closing-Shrinks text (byte ∷ rest) h k = search (Shrinks-if, at_end, at_quote, at_piece, at_dollar, rules) depth 12

  parenthesis_closed-Shrinks : (rest : List ℕ) → length rest < count → Shrinks depth count (parenthesis_closed depth rest)
  parenthesis_closed-Shrinks rest h =
      let inside : length (unspliced rest) < count = omega (arith, length-unspliced rest) in
      search (Shrinks-if, at_end, at_quote, at_piece, at_dollar, closing-Shrinks, rules) depth 12

  arithmetic-Shrinks : (text : List ℕ) → length text ≤ count → Shrinks depth count (arithmetic_at depth text)
  arithmetic-Shrinks [] h = at_end h
  arithmetic-Shrinks (byte ∷ rest) h =
      let less : length rest < count = omega arith in
      let same : depth ≤ depth = omega arith in
      search (Shrinks-if, at_end, at_quote, at_piece, at_dollar, parenthesis_closed-Shrinks, dollar-Shrinks, escape-Shrinks, gives-Shrinks, rules) depth 12

pub step-Shrinks : (at : Mode) (text : List ℕ) → Shrinks (open_in at) (length text) (step at text)
step-Shrinks (mode.Word of) text = word-Shrinks 0 (length text) of (unspliced text) (length-unspliced text)
step-Shrinks (mode.DoubleQuotes of) text = double_quotes-Shrinks 0 (length text) of (unspliced text) (length-unspliced text)
step-Shrinks (mode.SingleQuotes of) text = single_quotes-Shrinks 0 (length text) of text (omega arith)
step-Shrinks (mode.Arithmetic depth) text = arithmetic-Shrinks depth (length text) (unspliced text) (length-unspliced text)

-- an expansion leaves at most so many bytes
pub data Stays : ℕ → Expansion → Type 0 where
  in_whole : {count : ℕ} {what : Param} {measured : Bool} {rest : List ℕ} → length rest ≤ count → Stays count (whole what measured rest)
  in_word : {count : ℕ} {what : Param} {by : Operator} {rest : List ℕ} → length rest ≤ count → Stays count (with_word what by rest)
  in_tokens : {count : ℕ} {rest : List ℕ} → length rest ≤ count → Stays count (commands rest)
  in_text : {count : ℕ} {rest : List ℕ} → length rest ≤ count → Stays count (arithmetic_text rest)
  in_none : {count : ℕ} → Stays count no_form

Stays-if : (count : ℕ) (test : Bool) (left right : Expansion) → Stays count left → Stays count right
    → Stays count (if test then left else right)
Stays-if count true left right l r = l
Stays-if count false left right l r = r

braced_found : (count : ℕ) (found : Head) → in_head.Stays count found → Stays count (braced found)
braced_found count (head.whole what measured rest) (in_head.stays_whole h) = in_whole h
braced_found count (head.with_word what by rest) (in_head.stays_word h) = in_word h
braced_found count head.no_form in_head.stays_none = in_none

braced-Stays : (count : ℕ) (text : List ℕ) → length text ≤ count → Stays count (braced (brace_head text))
braced-Stays count text h = braced_found count (brace_head text) (in_head.brace_head-Stays count text h)

module _ (count : ℕ) where
  parenthesis-Stays : (text front : List ℕ) → length text ≤ count → length front ≤ count → Stays count (parenthesis_at text front)
  parenthesis-Stays text [] h k = in_tokens h
  parenthesis-Stays text (byte ∷ rest) h k = search (Stays-if, in_whole, in_word, in_tokens, in_text, in_none, rules) depth 12

  expansion_by-Stays : (what : Introduced) (byte : ℕ) (text rest : List ℕ) → length text ≤ count → length rest ≤ count
      → Stays count (expansion_by what byte text rest)
  expansion_by-Stays introduced.Braces byte text rest h k = braced-Stays count rest k
  expansion_by-Stays introduced.Parenthesis byte text rest h k = parenthesis-Stays rest (unspliced rest) k (omega (arith, length-unspliced rest))
  expansion_by-Stays introduced.Name byte text rest h k = in_whole (omega (arith, length-behind_run is_name_byte text))
  expansion_by-Stays introduced.Special byte text rest h k = in_whole k
  expansion_by-Stays (introduced.OutOfProfile spelling) byte text rest h k = in_none
  expansion_by-Stays introduced.Nothing byte text rest h k = in_none

  expansion_at-Stays : (text front : List ℕ) → length text ≤ count → length front ≤ count → Stays count (expansion_at text front)
  expansion_at-Stays text [] h k = in_none
  expansion_at-Stays text (byte ∷ rest) h k = expansion_by-Stays (introduced_by byte) byte text rest h (omega arith)

pub expansion-Stays : (text : List ℕ) → Stays (length text) (expansion text)
expansion-Stays text = expansion_at-Stays (length text) text (unspliced text) (omega arith) (length-unspliced text)
