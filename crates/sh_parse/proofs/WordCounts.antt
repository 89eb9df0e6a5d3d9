-- Each word of a text has as many command substitutions as items of its own follow it: so each command of its script numbers its command
-- substitutions.
use Rattle.std.proofs.Common.{◌≡◌, ◌⊎◌, if◌then◌else◌, ℕ, zero, suc, Bool, true, false, Option, None, Some, ◌+◌, ◌-◌, ◌<◌, ◌≤◌, List, [], ◌∷◌, ◌++◌, length, take, drop, refl, sym, ◌∙◌, ap, subst, append_assoc, length-append, inl, inr, arith}
use Rattle.std.specs.List.{range_with_len, between}
use Rattle.std.specs.Option.{option_map}
use Rattle.std.proofs.lemmas.List.{append-nil}
use Rattle.std.proofs.lemmas.Slice.{between_is}
use Rattle.std.proofs.Math.Seq.{take-append_seam, drop-append_seam}
use Rattle.sh_tree.specs.Trees.{WordTree, ScriptTree}
use Rattle.sh_tree.specs.Numbering.{word_numbers, IsNumberedScript}
use Rattle.sh_lex.specs.Bytes.{ends_word}
use Rattle.sh_lex.specs.Texts.{unspliced}
use Rattle.sh_lex.specs.Acts.{Act, goes, enters, ends, offends, Found, nothing, gap, open_parenthesis, close_parenthesis, token, word, offence}
use Rattle.sh_lex.specs.Operators.{lexeme}
use Rattle.sh_lex.specs.Commands.{in_word, between_at}
use Rattle.sh_lex.specs.Commands as scan
use Rattle.sh_lex.specs.Reads.{act, past, Reads}
use Rattle.sh_lex.specs.Lexes.{one_word, token_between}
use Rattle.sh_lex.specs.Marks.{Marked, marks_on, marks_inner, marks_end, Marks, no_mark, skips, opens, closes, takes, takes_word, seen, begun, closing, entry_of, entry_in}
use Rattle.sh_lex.specs.Marks as marks
use Rattle.sh_lex.proofs.Shrinking.{Shrinks, BeginsWord, LeavesLess}
use Rattle.sh_lex.proofs.Shorter.{act-Shrinks, lexeme-LeavesLess}
use Rattle.sh_lex.proofs.OrderLemmas.{unspliced-twice}
use Rattle.sh_lex.proofs.KeepsLemmas.{IsKept, Keeps, KeepsEnd, KeepsBehind, unspliced-kept, lexeme-kept, act-kept, Reads-kept}
use Rattle.sh_lex.proofs.Marked.{marked_reads}
use Rattle.sh_lex.proofs.Readings.{Reads-Leaves}
use Rattle.sh_lex.specs.declared.lexing.marks.Mark.{Mark}
use Rattle.sh_lex.specs.declared.lexing.marks.Mark.TheVariants as mark
use Rattle.sh_lex.specs.declared.lexing.marks.Entry.{Entry}
use Rattle.sh_lex.specs.declared.lexing.marks.Entry.TheVariants as entry
use Rattle.sh_lex.specs.declared.tokens.Op.{Op}
use Rattle.sh_lex.specs.declared.tokens.Op.TheVariants as op
use Rattle.sh_lex.specs.declared.tokens.TokenKind.{TokenKind}
use Rattle.sh_lex.specs.declared.tokens.TokenKind.TheVariants as kind
use Rattle.sh_lex.specs.declared.parts.Nest.{Nest}
use Rattle.sh_lex.specs.declared.parts.Construct.{Construct}
use Rattle.sh_lex.specs.declared.parts.Construct.TheVariants as part
use Rattle.sh_lex.specs.declared.parts.Spot.{Spot}
use Rattle.sh_lex.specs.declared.parts.Spot.TheVariants as spot
use Rattle.sh_words.specs.Steps.{step}
use Rattle.sh_words.specs.Steps as words
use Rattle.sh_words.specs.Words.{Outcome, done, ReadsPieces, word_outcome, ReadsBehind, assigned_value}
use Rattle.sh_words.specs.declared.reading.TheConstants as levels
use Rattle.sh_words.specs.declared.steps.Owner.TheVariants as owner
use Rattle.sh_words.specs.declared.steps.Mode.TheVariants as mode
use Rattle.sh_words.proofs.NumberLemmas.{behind_numbered}
use Rattle.sh_words.proofs.Readings.{pieces_same}
use Rattle.sh_parse.specs.Pieces.{WordViews}
use Rattle.sh_parse.specs.Kinds.{spelled, kind_of}
use Rattle.sh_parse.specs.Misuses.{IsIllFormed}
use Rattle.sh_parse.specs.Outcomes.{bytes_at, in_text, AreWordsOf, IsScript}
use Rattle.sh_parse.specs.Texts.{word_item, operator_item, item_by, token_item, word_end, items_of}
use Rattle.sh_parse.specs.declared.items.Item.{Item}
use Rattle.sh_parse.specs.declared.items.Item.TheVariants as item
use Rattle.sh_parse.specs.declared.items.Span.{Span}
use Rattle.sh_parse.specs.declared.items.WordKind.{WordKind}
use Rattle.sh_parse.specs.declared.items.WordKind.TheVariants as word_kind
use Rattle.sh_parse.specs.declared.items.TheConstants.{MAX_LEVELS}
use Rattle.sh_parse.proofs.Cuts.{Cut, at_cut, before, FirstCut, none_next, backslash_next, byte_next, unspliced-cut}
use Rattle.sh_parse.proofs.Takings.{Takes, TakesBy, taken-by, fault_of, IsTaken, pieces-taken}
use Rattle.sh_parse.proofs.Scannings.{Nested, none_nested, plain_nested, sub_nested, Grouped, no_group, one_group, IsPlain, HasGroups, word-groups}
use Rattle.sh_parse.proofs.Agreeings.{IsWordSpot}
use Rattle.sh_parse.proofs.Numbers.{own_subs, IsCounted, AreCounted, script-numbered}
use Rattle.sh_parse.proofs.Continuing.{Kind, among_tokens, within_word, elsewhere, kind_of_part, act-quiet, Does, balanced, flat}
use Rattle.sh_parse.proofs.Shifts.{next_of, shift-pieces, value-read}
use Rattle.sh_parse.proofs.Splits.{WordActs, word-acts, token_never_ends, EndsHere, GoesOn, front-case, Split, split, begins_here, IsOther, lexeme-other}

-- ITEMS OF MARKS: where no substitution is open none follows a token, and where one is open a token changes nothing
op_none : (operator : Op) (at : ℕ) (rest : List Item) → own_subs 0 (operator_item operator at ∷ rest) ≡ 0
op_none op.AndIf at rest = refl
op_none op.OrIf at rest = refl
op_none op.Semi at rest = refl
op_none op.Pipe at rest = refl
op_none op.Open at rest = refl
op_none op.Close at rest = refl
op_none op.Less at rest = refl
op_none op.Great at rest = refl
op_none op.DGreat at rest = refl
op_none op.GreatAnd at rest = refl

op_same : (operator : Op) (at depth : ℕ) (rest : List Item) → own_subs (suc depth) (operator_item operator at ∷ rest) ≡ own_subs (suc depth) rest
op_same op.AndIf at depth rest = refl
op_same op.OrIf at depth rest = refl
op_same op.Semi at depth rest = refl
op_same op.Pipe at depth rest = refl
op_same op.Open at depth rest = refl
op_same op.Close at depth rest = refl
op_same op.Less at depth rest = refl
op_same op.Great at depth rest = refl
op_same op.DGreat at depth rest = refl
op_same op.GreatAnd at depth rest = refl

module _ (all : List ℕ) where
  token_none : (sort : TokenKind) (from to : ℕ) (rest : List Item) → own_subs 0 (item_by all sort from to ∷ rest) ≡ 0
  token_none kind.Word from to rest = refl
  token_none kind.IoNumber from to rest = refl
  token_none kind.Newline from to rest = refl
  token_none (kind.Op operator) from to rest = op_none operator from rest

  token_same : (sort : TokenKind) (from to depth : ℕ) (rest : List Item) → own_subs (suc depth) (item_by all sort from to ∷ rest) ≡ own_subs (suc depth) rest
  token_same kind.Word from to depth rest = refl
  token_same kind.IoNumber from to depth rest = refl
  token_same kind.Newline from to depth rest = refl
  token_same (kind.Op operator) from to depth rest = op_same operator from depth rest

  plain_same : (first : Mark) (rest : List Mark) (depth : ℕ) → IsPlain first → own_subs (suc depth) (items_of all (first ∷ rest)) ≡ own_subs (suc depth) (items_of all rest)
  plain_same (mark.WordBegin from) rest depth is = refl
  plain_same (mark.WordEnd to) rest depth is = refl
  plain_same (mark.Token one) rest depth is = token_same one.kind one.from one.to depth (items_of all rest)
  plain_same (mark.SubOpen place) rest depth is = absurd is
  plain_same mark.SubClose rest depth is = absurd is
  plain_same mark.Close rest depth is = refl

  nested_same : {found : List Mark} → Nested found → (more : List Mark) (depth : ℕ)
      → own_subs (suc depth) (items_of all (found ++ more)) ≡ own_subs (suc depth) (items_of all more)
  nested_same none_nested more depth = refl
  nested_same (plain_nested {first = first} {rest = rest} is nested) more depth = plain_same first (rest ++ more) depth is ∙ nested_same nested more depth
  nested_same (sub_nested {inside = inside} {rest = rest} i nested) more depth =
      ap (λ it. own_subs (suc (suc depth)) (items_of all it)) (append_assoc inside (mark.SubClose ∷ rest) more)
      ∙ nested_same i (mark.SubClose ∷ (rest ++ more)) (suc depth) ∙ nested_same nested more depth

  groups_own : {count : ℕ} {found : List Mark} → Grouped count found → (more : List Mark) → own_subs 0 (items_of all more) ≡ 0
      → own_subs 0 (items_of all (found ++ more)) ≡ count
  groups_own no_group more none = none
  groups_own (one_group {count = count} {inside = inside} {rest = rest} i groups) more none =
      let own = groups_own groups more none in
      let here : own_subs 1 (items_of all ((inside ++ mark.SubClose ∷ rest) ++ more)) ≡ own_subs 0 (items_of all (rest ++ more))
      = ap (λ it. own_subs 1 (items_of all it)) (append_assoc inside (mark.SubClose ∷ rest) more) ∙ nested_same i (mark.SubClose ∷ (rest ++ more)) 0 in
      omega (arith, own, here)

  -- what follows the tokens of a `$( )` is no substitution of a word
  begun_none : (total : ℕ) (text : List ℕ) (found : Found) (more : List Mark) → own_subs 0 (items_of all more) ≡ 0
      → own_subs 0 (items_of all (begun total text found ++ more)) ≡ 0
  begun_none total text nothing more none = none
  begun_none total text (gap rest) more none = none
  begun_none total text (open_parenthesis rest) more none = none
  begun_none total text (close_parenthesis rest) more none = none
  begun_none total text (token sort rest) more none =
      token_none sort (token_between total sort text rest).from (token_between total sort text rest).to (items_of all more)
  begun_none total text word more none = refl
  begun_none total text (offence fault) more none = none

  closing_none : (left : ℕ) (outer : Construct) (more : List Mark) → own_subs 0 (items_of all (closing (entry_in left outer) ++ more)) ≡ 0
  closing_none left (part.Commands nest opened spot.Between) more = refl
  closing_none left (part.Commands nest opened spot.Begin) more = refl
  closing_none left (part.Commands nest opened spot.Name) more = refl
  closing_none left (part.Commands nest opened spot.ValueBegin) more = refl
  closing_none left (part.Commands nest opened spot.Value) more = refl
  closing_none left (part.Commands nest opened spot.Elsewhere) more = refl
  closing_none left part.Name more = refl
  closing_none left (part.DoubleQuotes nest start) more = refl
  closing_none left (part.BraceHead nest start quoted) more = refl
  closing_none left (part.Braces nest start quoted) more = refl
  closing_none left (part.Arithmetic nest start) more = refl
  closing_none left (part.Parentheses nest start) more = refl

  -- what a token of a `$( )` that is none of a word leads to
  abbrev GapOnly : Nest → ℕ → Act → Type 0
  GapOnly nest opened (goes next rest) = next ≡ part.Commands nest (Some opened) spot.Between
  GapOnly nest opened (enters inner outer rest) =
      (inner ≡ part.Commands nest (Some opened) spot.Between) × (outer ≡ part.Commands nest (Some opened) spot.Between)
  GapOnly nest opened (ends rest) = Unit {0}
  GapOnly nest opened (offends fault) = Unit {0}

  -- either something is seen that is no substitution, or nothing is and the tokens go on
  front_none : (total : ℕ) (nest : Nest) (opened : ℕ) (text : List ℕ) (found : Found)
      → ((more : List Mark) → own_subs 0 (items_of all (begun total text found ++ more)) ≡ 0)
      ⊎ ((begun total text found ≡ []) × GapOnly nest opened (between_at nest opened text found))
  front_none total nest opened text nothing = inr (refl, tt)
  front_none total nest opened text (gap rest) = inr (refl, refl)
  front_none total nest opened text (open_parenthesis rest) = inr (refl, (refl, refl))
  front_none total nest opened text (close_parenthesis rest) = inr (refl, tt)
  front_none total nest opened text (token sort rest) =
      inl (λ more. token_none sort (token_between total sort text rest).from (token_between total sort text rest).to (items_of all more))
  front_none total nest opened text word = inl (λ more. refl)
  front_none total nest opened text (offence fault) = inr (refl, tt)

  opening_none : (total : ℕ) (text rest : List ℕ) (nest : Nest) (opened : ℕ) (inner outer : Construct) (more : List Mark)
      → inner ≡ part.Commands nest (Some opened) spot.Between → outer ≡ part.Commands nest (Some opened) spot.Between
      → own_subs 0 (items_of all (marks.opening total text rest (entry_of inner outer) ++ more)) ≡ 0
  opening_none total text rest nest opened inner outer more one two =
      ap (λ it. own_subs 0 (items_of all (marks.opening total text rest (entry_of it outer) ++ more))) one
      ∙ ap (λ it. own_subs 0 (items_of all (marks.opening total text rest (entry_in opened it) ++ more))) two

  inner_none : (total : ℕ) (nest : Nest) (opened : ℕ) (text rest : List ℕ) (inner outer : Construct) (front more : List Mark) → front ≡ []
      → (inner ≡ part.Commands nest (Some opened) spot.Between) × (outer ≡ part.Commands nest (Some opened) spot.Between)
      → own_subs 0 (items_of all (front ++ (marks.opening total text rest (entry_of inner outer) ++ more))) ≡ 0
  inner_none total nest opened text rest inner outer front more bare parts =
      ap (λ it. own_subs 0 (items_of all (it ++ (marks.opening total text rest (entry_of inner outer) ++ more)))) bare
      ∙ opening_none total text rest nest opened inner outer more parts.0 parts.1

  module _ (total : ℕ) (nest : Nest) (opened : ℕ) where
    tokens_none : {construct : Construct} {text left : List ℕ} {found : List Mark} → Marked total construct text found left
        → construct ≡ part.Commands nest (Some opened) spot.Between → (more : List Mark) → own_subs 0 (items_of all more) ≡ 0
        → own_subs 0 (items_of all (found ++ more)) ≡ 0
    tokens_none (marks_on {construct = construct} {next = next} {text = text} {rest = rest} {found = found} e behind) same more none =
        let does = sym (ap (λ it. act it text) same) ∙ e in
        let here : own_subs 0 (items_of all (begun total text (lexeme text) ++ (found ++ more))) ≡ 0
        = elim (front_none total nest opened text (lexeme text)) [
          | inl so ↦ so (found ++ more)
          | inr so ↦ ap (λ it. own_subs 0 (items_of all (it ++ (found ++ more)))) so.0
              ∙ tokens_none behind (subst (GapOnly nest opened) does so.1) more none
        ] in
        ap (λ it. own_subs 0 (items_of all it)) (append_assoc (seen total construct text) found more)
        ∙ ap (λ it. own_subs 0 (items_of all (seen total it text ++ (found ++ more)))) same ∙ here
    tokens_none (marks_inner {construct = construct} {inner = inner} {outer = outer} {text = text} {rest = rest} {inside = one} {outside = two} e inside outside) same more none =
        let does = sym (ap (λ it. act it text) same) ∙ e in
        let by = entry_of inner outer in
        let behind = marks.opening total text rest by ++ (one ++ (closing by ++ (two ++ more))) in
        let here : own_subs 0 (items_of all (begun total text (lexeme text) ++ behind)) ≡ 0
        = elim (front_none total nest opened text (lexeme text)) [
          | inl so ↦ so behind
          | inr so ↦ inner_none total nest opened text rest inner outer (begun total text (lexeme text)) (one ++ (closing by ++ (two ++ more))) so.0
              (subst (GapOnly nest opened) does so.1)
        ] in
        ap (λ it. own_subs 0 (items_of all it)) (flat (seen total construct text) (marks.opening total text rest by) one (closing by) two more)
        ∙ ap (λ it. own_subs 0 (items_of all (seen total it text ++ behind))) same ∙ here
    tokens_none (marks_end {construct = construct} {text = text} e) same more none =
        ap (λ it. own_subs 0 (items_of all (seen total it text ++ more))) same ∙ begun_none total text (lexeme text) more none

  -- WORDS without a fault that have as many substitutions as follow
  abbrev MayCount : WordViews → List Item → Type 0
  MayCount views [] = Unit {0}
  MayCount views (item.Word sort at ∷ rest) = (views.fault at ≡ None → IsCounted views sort at (own_subs 0 rest)) × MayCount views rest
  MayCount views (item.IoNumber number at ∷ rest) = MayCount views rest
  MayCount views (item.Redirect how at ∷ rest) = MayCount views rest
  MayCount views (item.Newline ∷ rest) = MayCount views rest
  MayCount views (item.Semi ∷ rest) = MayCount views rest
  MayCount views (item.Join sign ∷ rest) = MayCount views rest
  MayCount views (item.Pipe ∷ rest) = MayCount views rest
  MayCount views (item.Open at ∷ rest) = MayCount views rest
  MayCount views (item.Close ∷ rest) = MayCount views rest
  MayCount views (item.SubOpen at ∷ rest) = MayCount views rest
  MayCount views (item.SubClose ∷ rest) = MayCount views rest

  op_may : (views : WordViews) (operator : Op) (at : ℕ) (rest : List Item) → MayCount views rest → MayCount views (operator_item operator at ∷ rest)
  op_may views op.AndIf at rest may = may
  op_may views op.OrIf at rest may = may
  op_may views op.Semi at rest may = may
  op_may views op.Pipe at rest may = may
  op_may views op.Open at rest may = may
  op_may views op.Close at rest may = may
  op_may views op.Less at rest may = may
  op_may views op.Great at rest may = may
  op_may views op.DGreat at rest may = may
  op_may views op.GreatAnd at rest may = may

  token_may : (views : WordViews) (sort : TokenKind) (from to : ℕ) (rest : List Item) → (sort ≡ kind.Word → ⊥) → MayCount views rest
      → MayCount views (item_by all sort from to ∷ rest)
  token_may views kind.Word from to rest never may = absurd (never refl)
  token_may views kind.IoNumber from to rest never may = may
  token_may views kind.Newline from to rest never may = may
  token_may views (kind.Op operator) from to rest never may = op_may views operator from rest may

  opening_may : (views : WordViews) (total : ℕ) (text rest : List ℕ) (by : Entry) (more : List Mark) → MayCount views (items_of all more)
      → MayCount views (items_of all (marks.opening total text rest by ++ more))
  opening_may views total text rest entry.Parenthesis more may = may
  opening_may views total text rest (entry.Substitution place) more may = may
  opening_may views total text rest entry.Other more may = may

  closing_may : (views : WordViews) (by : Entry) (more : List Mark) → MayCount views (items_of all more) → MayCount views (items_of all (closing by ++ more))
  closing_may views entry.Parenthesis more may = may
  closing_may views (entry.Substitution place) more may = may
  closing_may views entry.Other more may = may

-- THE BYTES OF A WORD
cut_front : (bytes tail : List ℕ) → Cut tail (bytes ++ tail) bytes
cut_front [] tail = at_cut
cut_front (byte ∷ rest) tail = before byte (cut_front rest tail)

cut_whole : {tail text copy : List ℕ} → Cut tail text copy → text ≡ copy ++ tail
cut_whole at_cut = refl
cut_whole (before byte cut) = ap (λ it. byte ∷ it) (cut_whole cut)

abbrev IsEnd : List ℕ → List ℕ → Type 0
IsEnd all rest = (bytes : List ℕ) × (all ≡ bytes ++ rest)

end_kept : (all : List ℕ) → IsKept (IsEnd all)
end_kept all byte rest (bytes, e) = (bytes ++ byte ∷ [], e ∙ sym (append_assoc bytes (byte ∷ []) rest))

between_bytes : (all front copy tail : List ℕ) → all ≡ front ++ (copy ++ tail)
    → between (length all - length (copy ++ tail)) (length all - length tail) all ≡ copy
between_bytes all front copy tail e =
    let one = length-append front (copy ++ tail) in let two = length-append copy tail in let three = length-append front copy in let long = ap length e in
    let from : length all - length (copy ++ tail) ≡ length front = omega (arith, one, long) in
    let to : length all - length tail ≡ length (front ++ copy) = omega (arith, one, two, three, long) in
    ap (λ n. between n (length all - length tail) all) from ∙ ap (λ n. between (length front) n all) to
    ∙ between_is all (length front) (length (front ++ copy))
    ∙ ap (drop (length front)) (ap (take (length (front ++ copy))) (e ∙ sym (append_assoc front copy tail)) ∙ take-append_seam (front ++ copy) tail)
    ∙ drop-append_seam front copy

-- a word begins with a byte of it
record Copy (text tail : List ℕ) : Type 0 where
  copy : List ℕ
  spliced : List ℕ
  cut : Cut tail text spliced
  there : Cut tail (unspliced text) copy
  same : step (mode.Word owner.Token) spliced ≡ step (mode.Word owner.Token) copy

copy_by : (text tail spliced : List ℕ) {front last : List ℕ} → Cut tail text spliced → length tail < length front → unspliced text ≡ front
    → unspliced spliced ≡ last → FirstCut tail front last → Copy text tail
copy_by text tail spliced {front = []} cut less is so next = absurd (omega (arith, less))
copy_by text tail spliced cut less is so (none_next {front = byte ∷ rest} p) = absurd (omega (arith, less, p))
copy_by text tail spliced cut less is so (backslash_next {front = byte ∷ rest} p) = absurd (omega (arith, less, p))
copy_by text tail spliced cut less is so (byte_next byte {text = rest} {copy = copy} a) =
    let twice : unspliced (byte ∷ copy) ≡ byte ∷ copy = subst (λ it. unspliced it ≡ it) so (unspliced-twice spliced) in
    record {
      copy = byte ∷ copy;
      spliced = spliced;
      cut = cut;
      there = subst (λ it. Cut tail it (byte ∷ copy)) (sym is) (before byte a);
      same = ap (words.word_at owner.Token) (so ∙ sym twice);
    }

-- a word leaves less than stands at its first byte
module _ (total : ℕ) (nest : Nest) where
  word_does : (text byte_rest : List ℕ) (byte : ℕ) → unspliced text ≡ byte ∷ byte_rest → ends_word byte ≡ false
      → act (part.Commands nest None spot.Begin) text ≡ scan.word_at nest None spot.Begin byte byte_rest
  word_does text rest byte front never =
      ap (in_word nest None spot.Begin text) front
      ∙ ap (λ it. if it then scan.word_end nest None text else scan.word_at nest None spot.Begin byte rest) never

  word_again : (text : List ℕ) → lexeme text ≡ word
      → act (part.Commands nest None spot.Begin) text ≡ act (part.Commands nest None spot.Begin) (unspliced text)
  word_again text e =
      let (byte, (rest, (front, never))) = subst (LeavesLess text) e (lexeme-LeavesLess text) in
      word_does text rest byte front never ∙ sym (word_does (unspliced text) rest byte (unspliced-twice text ∙ front) never)

  word_less : {construct : Construct} {text tail : List ℕ} {found : List Mark} → Marked total construct text found tail
      → construct ≡ part.Commands nest None spot.Begin → lexeme text ≡ word → length tail < length (unspliced text)
  word_less (marks_on {next = next} {text = text} {rest = rest} e more) same is =
      let does = sym (ap (λ it. act it text) same ∙ word_again text is) ∙ e in
      let fewer : length rest < length (unspliced text) = subst (Shrinks (length (unspliced text))) does (act-Shrinks (part.Commands nest None spot.Begin) (unspliced text)) in
      let less = Reads-Leaves (marked_reads more) in omega (arith, fewer, less)
  word_less (marks_inner {inner = inner} {outer = outer} {text = text} {rest = rest} e inside outside) same is =
      let does = sym (ap (λ it. act it text) same ∙ word_again text is) ∙ e in
      let fewer : length rest < length (unspliced text) = subst (Shrinks (length (unspliced text))) does (act-Shrinks (part.Commands nest None spot.Begin) (unspliced text)) in
      let less = Reads-Leaves (marked_reads inside) in let least = Reads-Leaves (marked_reads outside) in omega (arith, fewer, less, least)
  word_less (marks_end {text = text} {rest = rest} e) same is =
      let (byte, (left, (front, never))) = subst (LeavesLess text) is (lexeme-LeavesLess text) in
      absurd (token_never_ends nest 0 (word-acts nest 0 spot.Begin byte left) rest
      (sym (word_does text left byte front never) ∙ sym (ap (λ it. act it text) same) ∙ e))

  copy_of : {text tail : List ℕ} {found : List Mark} → Marked total (part.Commands nest None spot.Begin) text found tail → lexeme text ≡ word → Copy text tail
  copy_of {text = text} {tail = tail} marked is =
      let (bytes, whole) = Reads-kept (IsEnd text) (end_kept text) ([], refl) (marked_reads marked) in
      let cut : Cut tail text bytes = subst (λ it. Cut tail it bytes) (sym whole) (cut_front bytes tail) in
      copy_by text tail bytes cut (word_less marked refl is) refl refl (unspliced-cut tail cut)

-- THE SUBSTITUTIONS OF A WORD
no_fault : (first total from : ℕ) (end : Outcome) → in_text from (word_outcome first total end).fault ≡ None → fault_of end ≡ None
no_fault first total from (done tree None next rest) e = refl
no_fault first total from (done tree (Some left) next rest) e = absurd cc

subs_are : (first total count : ℕ) (end : Outcome) → next_of end ≡ first + count → (word_outcome first total end).subs ≡ count
subs_are first total count (done tree fault next rest) e = omega (arith, e)

taken_next : (first : ℕ) (text : List ℕ) (count : ℕ) (end : Outcome) → IsTaken (mode.Word owner.Token) first text end
    → ((last : ℕ) (over : List ℕ) → Takes (mode.Word owner.Token) first text last over → last ≡ first + count) → next_of end ≡ first + count
taken_next first text count (done tree fault next rest) taken counts = counts next rest taken

module _ (all : List ℕ) (views : WordViews) (words : AreWordsOf all views) where
  -- of these bytes so many are taken, from each first number on
  counted : (at : Span) (count : ℕ)
      → ((first last : ℕ) (over : List ℕ) → Takes (mode.Word owner.Token) first (bytes_at all at) last over → last ≡ first + count)
      → views.fault at ≡ None → IsCounted views (kind_of (spelled (bytes_at all at))) at count
  counted at count counts none = record { as_word = word_counted; as_value = value_counted }
    where
      ends_at : (first : ℕ) (end : Outcome) → ReadsPieces levels.MAX_LEVELS (mode.Word owner.Token) first (bytes_at all at) end → next_of end ≡ first + count
      ends_at first end reads =
          let look = words.look at in
          let (start, (begins, is)) = look.reads in
          let never : fault_of start ≡ None
          = no_fault 0 (length (bytes_at all at)) at.from start (ap (λ it. in_text at.from it.fault) (sym is) ∙ sym look.fault_is ∙ none) in
          let so = shift-pieces begins first in
          let same = pieces_same so.reads reads in
          taken_next first (bytes_at all at) count end (pieces-taken reads (ap fault_of same ∙ so.fault ∙ never)) (counts first)

      word_counted : (first : ℕ) → word_numbers (views.word at first) ≡ range_with_len first count
      word_counted first =
          let it = words.word at first in
          let (end, (reads, is)) = it.reads in
          let many : it.outcome.subs ≡ count
          = ap (λ one. one.subs) is ∙ subs_are first (length (bytes_at all at)) count end (ends_at first end reads) in
          ap word_numbers it.same ∙ behind_numbered first (length (bytes_at all at)) (bytes_at all at) it.outcome it.reads ∙ ap (range_with_len first) many

      value_counted : kind_of (spelled (bytes_at all at)) ≡ word_kind.Assign → (first : ℕ) → word_numbers (views.assign at first).1 ≡ range_with_len first count
      value_counted assigns first =
          let it = words.value at first in
          let (end, (reads, is)) = it.reads in
          let (start, (begins, start_is)) = (words.word at first).reads in
          let behind = value-read assigns begins in
          let same = pieces_same behind.reads reads in
          let next : next_of end ≡ first + count = ap next_of same ∙ behind.next ∙ ends_at first start begins in
          let many : it.outcome.subs ≡ count = ap (λ one. one.subs) is ∙ subs_are first (length (bytes_at all at)) count end next in
          ap word_numbers it.same ∙ behind_numbered first (length (bytes_at all at)) (assigned_value (bytes_at all at)) it.outcome it.reads ∙ ap (range_with_len first) many

  -- a word that the scan has read, with what follows it
  abbrev WordMay : ℕ → ℕ → List Mark → Type 0
  WordMay from to more =
      views.fault (record { from = from; to = to }) ≡ None
      → IsCounted views (kind_of (spelled (between from to all))) (record { from = from; to = to }) (own_subs 0 (items_of all more))

  word_may : (nest : Nest) (text tail : List ℕ) (inside more : List Mark) → IsEnd all text → lexeme text ≡ word
      → Marked (length all) (part.Commands nest None spot.Begin) text inside tail → own_subs 0 (items_of all more) ≡ 0
      → WordMay (length all - length (unspliced text)) (length all - length tail) (inside ++ mark.WordEnd (length all - length tail) ∷ more)
  word_may nest text tail inside more at_end is marked none fault =
      let so = copy_of (length all) nest marked is in
      let (front, whole) = unspliced-kept (IsEnd all) (end_kept all) text at_end in
      let place : unspliced text ≡ so.copy ++ tail = cut_whole so.there in
      let bytes : between (length all - length (unspliced text)) (length all - length tail) all ≡ so.copy
      = ap (λ it. between (length all - length it) (length all - length tail) all) place
      ∙ between_bytes all front so.copy tail (whole ∙ ap (λ it. front ++ it) place) in
      counted (record { from = length all - length (unspliced text); to = length all - length tail })
      (own_subs 0 (items_of all (inside ++ mark.WordEnd (length all - length tail) ∷ more)))
      (λ first last over read.
      let groups = word-groups (length all) nest spot.Begin text tail so.spliced inside tt marked so.cut first last over
      (subst (λ it. TakesBy (mode.Word owner.Token) it first last over) (sym so.same)
      (taken-by (subst (λ it. Takes (mode.Word owner.Token) first it last over) bytes read))) in
      groups.counted ∙ ap (λ n. first + n) (sym (groups_own all groups.grouped (mark.WordEnd (length all - length tail) ∷ more) none))) fault

  -- the marks of a construct, where no substitution of a word follows the tokens of a `$( )`
  abbrev IsClosed : Kind → List Mark → Type 0
  IsClosed among_tokens more = own_subs 0 (items_of all more) ≡ 0
  IsClosed within_word more = own_subs 0 (items_of all more) ≡ 0
  IsClosed elsewhere more = Unit {0}

  closed_any : (sort : Kind) (more : List Mark) → own_subs 0 (items_of all more) ≡ 0 → IsClosed sort more
  closed_any among_tokens more none = none
  closed_any within_word more none = none
  closed_any elsewhere more none = tt

  closed_next : (construct next : Construct) (text rest : List ℕ) (more : List Mark) (sort : Kind) → kind_of_part construct ≡ sort → act construct text ≡ goes next rest
      → IsClosed sort more → IsClosed (kind_of_part next) more
  closed_next construct next text rest more among_tokens is e closed = closed_any (kind_of_part next) more closed
  closed_next construct next text rest more within_word is e closed = closed_any (kind_of_part next) more closed
  closed_next construct next text rest more elsewhere is e closed =
      let same : kind_of_part next ≡ elsewhere = subst (Does elsewhere (Unit {0})) e (act-quiet construct text is) in
      subst (λ it. IsClosed it more) (sym same) tt

  closed_outer : (construct inner outer : Construct) (text rest : List ℕ) (more : List Mark) (sort : Kind) → kind_of_part construct ≡ sort
      → act construct text ≡ enters inner outer rest → IsClosed sort more → IsClosed (kind_of_part outer) more
  closed_outer construct inner outer text rest more among_tokens is e closed = closed_any (kind_of_part outer) more closed
  closed_outer construct inner outer text rest more within_word is e closed = closed_any (kind_of_part outer) more closed
  closed_outer construct inner outer text rest more elsewhere is e closed =
      let so : Does elsewhere (Unit {0}) (enters inner outer rest) = subst (Does elsewhere (Unit {0})) e (act-quiet construct text is) in
      subst (λ it. IsClosed it more) (sym so.1) tt

  closed_inner : (inner outer : Construct) (more : List Mark) → IsClosed (kind_of_part inner) (closing (entry_of inner outer) ++ more)
  closed_inner (part.Commands nest (Some left) at) outer more =
      closed_any (kind_of_part (part.Commands nest (Some left) at)) (closing (entry_in left outer) ++ more) (closing_none all left outer more)
  closed_inner (part.Commands nest None at) outer more = tt
  closed_inner part.Name outer more = tt
  closed_inner (part.DoubleQuotes nest start) outer more = tt
  closed_inner (part.BraceHead nest start quoted) outer more = tt
  closed_inner (part.Braces nest start quoted) outer more = tt
  closed_inner (part.Arithmetic nest start) outer more = tt
  closed_inner (part.Parentheses nest start) outer more = tt

  -- what is seen at a step of a `$( )`
  module _ (nest : Nest) (opened : ℕ) (text left : List ℕ) (found more : List Mark) (at_end : IsEnd all text) (none : own_subs 0 (items_of all more) ≡ 0)
      (may : MayCount all views (items_of all (found ++ more))) where
    abbrev Rebuilt : Construct → Type 0
    Rebuilt other = Marked (length all) other text (seen (length all) other text ++ found) left

    begin_may : Marked (length all) (part.Commands nest (Some opened) spot.Begin) text found left → lexeme text ≡ word
        → MayCount all views (items_of all (mark.WordBegin (length all - length (unspliced text)) ∷ (found ++ more)))
    begin_may marked is =
        let so = split (length all) nest opened marked spot.Begin refl tt in
        let last = so.more ++ more in
        let whole : found ++ more ≡ so.inside ++ mark.WordEnd (length all - length so.tail) ∷ last
        = ap (λ it. it ++ more) so.same ∙ append_assoc so.inside (mark.WordEnd (length all - length so.tail) ∷ so.more) more in
        let to : word_end (found ++ more) 0 ≡ length all - length so.tail
        = ap (λ it. word_end it 0) whole ∙ balanced (length all) so.as_token (mark.WordEnd (length all - length so.tail) ∷ last) 0 in
        let it = word_may nest text so.tail so.inside last at_end is so.as_token (tokens_none all (length all) nest opened so.behind refl more none) in (
          subst (λ n. WordMay (length all - length (unspliced text)) n (found ++ more)) (sym to)
              (subst (WordMay (length all - length (unspliced text)) (length all - length so.tail)) (sym whole) it),
          may,
        )

    module _ (build : (other : Construct) → act (part.Commands nest (Some opened) spot.Between) text ≡ act other text → Rebuilt other) where
      begun_may : (what : Found) → lexeme text ≡ what → IsOther what → MayCount all views (items_of all (begun (length all) text what ++ (found ++ more)))
      begun_may nothing is other = may
      begun_may (gap rest) is other = may
      begun_may (open_parenthesis rest) is other = may
      begun_may (close_parenthesis rest) is other = may
      begun_may (token sort rest) is other =
          token_may all views sort (token_between (length all) sort text rest).from (token_between (length all) sort text rest).to (items_of all (found ++ more)) other may
      begun_may word is other =
          let here = begins_here (length all) nest opened text is in
          begin_may (subst (λ it. Marked (length all) (part.Commands nest (Some opened) spot.Begin) text (it ++ found) left) here.sees
          (build (part.Commands nest (Some opened) spot.Begin) here.does)) is
      begun_may (offence fault) is other = may

      tokens_may : MayCount all views (items_of all (begun (length all) text (lexeme text) ++ (found ++ more)))
      tokens_may = begun_may (lexeme text) refl (lexeme-other text)

    spot_may : (at : Spot) → IsWordSpot at → ((other : Construct) → act (part.Commands nest (Some opened) at) text ≡ act other text → Rebuilt other)
        → MayCount all views (items_of all (seen (length all) (part.Commands nest (Some opened) at) text ++ (found ++ more)))
    spot_may at is build =
        elim (front-case (length all) nest opened at text is) [
          | inl here ↦ subst (λ it. MayCount all views (items_of all (it ++ (found ++ more)))) (sym here.sees)
              (tokens_may (λ other e. build other (here.does ∙ e)))
          | inr on ↦ subst (λ it. MayCount all views (items_of all (it ++ (found ++ more)))) (sym on.sees) may
        ]

  seen_may : (construct : Construct) (text left : List ℕ) (found more : List Mark) → IsEnd all text → IsClosed (kind_of_part construct) more
      → MayCount all views (items_of all (found ++ more))
      → ((other : Construct) → act construct text ≡ act other text → Marked (length all) other text (seen (length all) other text ++ found) left)
      → MayCount all views (items_of all (seen (length all) construct text ++ (found ++ more)))
  seen_may (part.Commands nest None at) text left found more at_end closed may build = may
  seen_may (part.Commands nest (Some opened) spot.Between) text left found more at_end closed may build =
      tokens_may nest opened text left found more at_end closed may build
  seen_may (part.Commands nest (Some opened) spot.Begin) text left found more at_end closed may build =
      spot_may nest opened text left found more at_end closed may spot.Begin tt build
  seen_may (part.Commands nest (Some opened) spot.Name) text left found more at_end closed may build =
      spot_may nest opened text left found more at_end closed may spot.Name tt build
  seen_may (part.Commands nest (Some opened) spot.ValueBegin) text left found more at_end closed may build =
      spot_may nest opened text left found more at_end closed may spot.ValueBegin tt build
  seen_may (part.Commands nest (Some opened) spot.Value) text left found more at_end closed may build =
      spot_may nest opened text left found more at_end closed may spot.Value tt build
  seen_may (part.Commands nest (Some opened) spot.Elsewhere) text left found more at_end closed may build =
      spot_may nest opened text left found more at_end closed may spot.Elsewhere tt build
  seen_may part.Name text left found more at_end closed may build = may
  seen_may (part.DoubleQuotes nest start) text left found more at_end closed may build = may
  seen_may (part.BraceHead nest start quoted) text left found more at_end closed may build = may
  seen_may (part.Braces nest start quoted) text left found more at_end closed may build = may
  seen_may (part.Arithmetic nest start) text left found more at_end closed may build = may
  seen_may (part.Parentheses nest start) text left found more at_end closed may build = may

  -- a construct that is read
  marked_may : {construct : Construct} {text left : List ℕ} {found : List Mark} → Marked (length all) construct text found left → IsEnd all text
      → (more : List Mark) → IsClosed (kind_of_part construct) more → MayCount all views (items_of all more) → MayCount all views (items_of all (found ++ more))
  marked_may (marks_on {construct = construct} {next = next} {text = text} {rest = rest} {left = left} {found = found} e behind) at_end more closed may =
      let at_rest : IsEnd all rest = subst (Keeps (IsEnd all)) e (act-kept (IsEnd all) (end_kept all) construct text at_end) in
      subst (λ it. MayCount all views (items_of all it)) (sym (append_assoc (seen (length all) construct text) found more))
      (seen_may construct text left found more at_end closed
      (marked_may behind at_rest more (closed_next construct next text rest more (kind_of_part construct) refl e closed) may)
      (λ other same. marks_on (sym same ∙ e) behind))
  marked_may (marks_inner {construct = construct} {inner = inner} {outer = outer} {text = text} {rest = rest} {after = after} {left = left} {inside = one} {outside = two} e inside outside) at_end more closed may =
      let by = entry_of inner outer in
      let begins = marks.opening (length all) text rest by in
      let all_of = begins ++ (one ++ (closing by ++ two)) in
      let at_rest : IsEnd all rest = subst (Keeps (IsEnd all)) e (act-kept (IsEnd all) (end_kept all) construct text at_end) in
      let at_after : IsEnd all after = Reads-kept (IsEnd all) (end_kept all) at_rest (marked_reads inside) in
      let outside_may = marked_may outside at_after more (closed_outer construct inner outer text rest more (kind_of_part construct) refl e closed) may in
      let inside_may = marked_may inside at_rest (closing by ++ (two ++ more)) (closed_inner inner outer (two ++ more)) (closing_may all views by (two ++ more) outside_may) in
      let all_may : MayCount all views (items_of all (all_of ++ more))
      = subst (λ it. MayCount all views (items_of all it)) (sym (flat [] begins one (closing by) two more))
      (opening_may all views (length all) text rest by (one ++ (closing by ++ (two ++ more))) inside_may) in
      subst (λ it. MayCount all views (items_of all it)) (sym (append_assoc (seen (length all) construct text) all_of more))
      (seen_may construct text left all_of more at_end closed all_may (λ other same. marks_inner (sym same ∙ e) inside outside))
  marked_may (marks_end {construct = construct} {text = text} {rest = rest} e) at_end more closed may =
      seen_may construct text rest [] more at_end closed may
      (λ other same. subst (λ it. Marked (length all) other text it rest) (sym (append-nil (seen (length all) other text))) (marks_end (sym same ∙ e)))

  -- ALL TOKENS OF A TEXT
  marks_none : {text : List ℕ} {found : List Mark} → Marks (length all) text found → own_subs 0 (items_of all found) ≡ 0
  marks_none (no_mark e) = refl
  marks_none (skips e more) = marks_none more
  marks_none (opens e more) = refl
  marks_none (closes e more) = refl
  marks_none (takes {text = text} {rest = rest} {kind = sort} {found = found} e more) =
      token_none all sort (token_between (length all) sort text rest).from (token_between (length all) sort text rest).to (items_of all found)
  marks_none (takes_word e marked more) = refl

  marks_may : {text : List ℕ} {found : List Mark} → Marks (length all) text found → IsEnd all text → MayCount all views (items_of all found)
  marks_may (no_mark e) at_end = tt
  marks_may (skips {text = text} {rest = rest} e more) at_end =
      marks_may more (subst (KeepsBehind (IsEnd all)) e (lexeme-kept (IsEnd all) (end_kept all) text at_end))
  marks_may (opens {text = text} {rest = rest} e more) at_end =
      marks_may more (subst (KeepsBehind (IsEnd all)) e (lexeme-kept (IsEnd all) (end_kept all) text at_end))
  marks_may (closes {text = text} {rest = rest} e more) at_end =
      marks_may more (subst (KeepsBehind (IsEnd all)) e (lexeme-kept (IsEnd all) (end_kept all) text at_end))
  marks_may (takes {text = text} {rest = rest} {kind = sort} {found = found} e more) at_end =
      token_may all views sort (token_between (length all) sort text rest).from (token_between (length all) sort text rest).to (items_of all found)
      (subst IsOther e (lexeme-other text)) (marks_may more (subst (KeepsBehind (IsEnd all)) e (lexeme-kept (IsEnd all) (end_kept all) text at_end)))
  marks_may (takes_word {text = text} {rest = rest} {inside = inside} {found = found} e marked more) at_end =
      let last = mark.WordEnd (length all - length rest) ∷ found in
      let at_rest : IsEnd all rest = Reads-kept (IsEnd all) (end_kept all) at_end (marked_reads marked) in
      let to : word_end (inside ++ last) 0 ≡ length all - length rest = balanced (length all) marked last 0 in (
        subst (λ n. WordMay (length all - length (unspliced text)) n (inside ++ last)) (sym to)
            (word_may (record { levels = 0; in_braces = false }) text rest inside found at_end e marked (marks_none more)),
        marked_may marked at_end last tt (marks_may more at_rest),
      )

-- WORDS WITHOUT A FAULT
behind_item : (views : WordViews) (front : List Item) (first : Item) (rest : List Item)
    → ((offset : ℕ) → IsIllFormed views (front ++ first ∷ rest) offset → ⊥) → (offset : ℕ) → IsIllFormed views ((front ++ first ∷ []) ++ rest) offset → ⊥
behind_item views front first rest formed offset ill =
    formed offset (subst (λ it. IsIllFormed views it offset) (append_assoc front (first ∷ []) rest) ill)

no_fault_at : (views : WordViews) (front rest : List Item) (sort : WordKind) (at : Span) (found : Option ℕ) → views.fault at ≡ found
    → ((offset : ℕ) → IsIllFormed views (front ++ item.Word sort at ∷ rest) offset → ⊥) → views.fault at ≡ None
no_fault_at views front rest sort at None e formed = e
no_fault_at views front rest sort at (Some offset) e formed =
    absurd (formed offset (record { before = front; kind = sort; at = at; behind = rest; whole = refl; fault = e }))

counted_of : (all : List ℕ) (views : WordViews) (front items : List Item)
    → ((offset : ℕ) → IsIllFormed views (front ++ items) offset → ⊥) → MayCount all views items → AreCounted views items
counted_of all views front [] formed may = tt
counted_of all views front (item.Word sort at ∷ rest) formed may = (
  may.0 (no_fault_at views front rest sort at (views.fault at) refl formed),
  counted_of all views (front ++ item.Word sort at ∷ []) rest (behind_item views front (item.Word sort at) rest formed) may.1,
)
counted_of all views front (item.IoNumber number at ∷ rest) formed may = counted_of all views (front ++ item.IoNumber number at ∷ []) rest (behind_item views front (item.IoNumber number at) rest formed) may
counted_of all views front (item.Redirect how at ∷ rest) formed may = counted_of all views (front ++ item.Redirect how at ∷ []) rest (behind_item views front (item.Redirect how at) rest formed) may
counted_of all views front (item.Newline ∷ rest) formed may = counted_of all views (front ++ item.Newline ∷ []) rest (behind_item views front item.Newline rest formed) may
counted_of all views front (item.Semi ∷ rest) formed may = counted_of all views (front ++ item.Semi ∷ []) rest (behind_item views front item.Semi rest formed) may
counted_of all views front (item.Join sign ∷ rest) formed may = counted_of all views (front ++ item.Join sign ∷ []) rest (behind_item views front (item.Join sign) rest formed) may
counted_of all views front (item.Pipe ∷ rest) formed may = counted_of all views (front ++ item.Pipe ∷ []) rest (behind_item views front item.Pipe rest formed) may
counted_of all views front (item.Open at ∷ rest) formed may = counted_of all views (front ++ item.Open at ∷ []) rest (behind_item views front (item.Open at) rest formed) may
counted_of all views front (item.Close ∷ rest) formed may = counted_of all views (front ++ item.Close ∷ []) rest (behind_item views front item.Close rest formed) may
counted_of all views front (item.SubOpen at ∷ rest) formed may = counted_of all views (front ++ item.SubOpen at ∷ []) rest (behind_item views front (item.SubOpen at) rest formed) may
counted_of all views front (item.SubClose ∷ rest) formed may = counted_of all views (front ++ item.SubClose ∷ []) rest (behind_item views front item.SubClose rest formed) may

-- A SCRIPT
pub script_is_numbered : (text : List ℕ) (script : ScriptTree) → IsScript text script → IsNumberedScript script
script_is_numbered text script so =
    let may = marks_may text so.views so.words so.has.marked.marked ([], refl) in
    let counted : AreCounted so.views so.items
    = counted_of text so.views [] so.items so.is.no_misuse.formed (subst (MayCount text so.views) (sym so.has.stands_for) may) in
    script-numbered so.views MAX_LEVELS so.items script so.is.script.reads counted
