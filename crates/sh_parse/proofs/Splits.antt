-- A word among the tokens of a `$( )` is scanned as the word of a token is. So the marks of a `$( )` from within a word on are those of the
-- word, its end, and those behind it.
use Rattle.std.proofs.Common.{◌≡◌, ℕ, suc, Bool, true, false, not, Option, None, Some, ◌+◌, ◌-◌, ◌<◌, ◌⊎◌, List, [], ◌∷◌, ◌++◌, ◌==◌, ◌&&◌, if◌then◌else◌, length, drop, refl, sym, ◌∙◌, ap, subst, append_assoc, inl, inr, arith}
use Rattle.std.specs.Prelude.{nat_lt}
use Rattle.std.specs.Char.{is_ascii_digit}
use Rattle.sh_lex.specs.Bytes.{is_blank, ends_word}
use Rattle.sh_lex.specs.Texts.{unspliced, behind_run, behind_quote, behind_comment}
use Rattle.sh_lex.specs.Acts.{Act, goes, enters, ends, offends, Found, nothing, gap, open_parenthesis, close_parenthesis, token, word, offence}
use Rattle.sh_lex.specs.Numbers.{begins_with, fits_less, fits_great, number_at, after_digit}
use Rattle.sh_lex.specs.Operators.{is_target, and_at, pipe_at, semi_at, less_at, great_at, delimiter, lexeme_at, lexeme}
use Rattle.sh_lex.specs.Dollars.{deeper, inside_braces, opening, substitution, parenthesis, introduced_by, dollar_by, dollar_at}
use Rattle.sh_lex.specs.Braces.{single_quotes}
use Rattle.sh_lex.specs.Commands as scan
use Rattle.sh_lex.specs.Commands.{is_tilde_spot, spot_behind, spot_past, word_at, word_begin, between_at, in_word, in_commands}
use Rattle.sh_lex.specs.Reads.{act}
use Rattle.sh_lex.specs.Marks.{Marked, marks_on, marks_inner, marks_end, seen, seen_at, begun, behind_word, closing, entry_of, entry_in}
use Rattle.sh_lex.specs.Marks as marks
use Rattle.sh_lex.proofs.Shrinking.{BeginsWord, LeavesLess}
use Rattle.sh_lex.proofs.Shorter.{lexeme-LeavesLess}
use Rattle.sh_lex.specs.declared.lexing.marks.Mark.{Mark}
use Rattle.sh_lex.specs.declared.lexing.marks.Mark.TheVariants as mark
use Rattle.sh_lex.specs.declared.lexing.marks.Entry.{Entry}
use Rattle.sh_lex.specs.declared.tokens.TokenKind.{TokenKind}
use Rattle.sh_lex.specs.declared.tokens.TokenKind.TheVariants as kind
use Rattle.sh_lex.specs.declared.parts.Nest.{Nest}
use Rattle.sh_lex.specs.declared.parts.Construct.{Construct}
use Rattle.sh_lex.specs.declared.parts.Construct.TheVariants as part
use Rattle.sh_lex.specs.declared.parts.Spot.{Spot}
use Rattle.sh_lex.specs.declared.parts.Spot.TheVariants as spot
use Rattle.sh_lex.specs.declared.parts.Fault.{Fault}
use Rattle.sh_lex.specs.declared.parts.TheConstants.{MAX_LEVELS}
use Rattle.sh_lex.specs.declared.dollars.Introduced.{Introduced}
use Rattle.sh_lex.specs.declared.dollars.Introduced.TheVariants as introduced
use Rattle.sh_lex.specs.declared.bytes.TheConstants.{QUOTE, DOUBLE_QUOTE, BACKSLASH, BACKQUOTE, DOLLAR, OPEN, CLOSE, TILDE, NEWLINE, AND, PIPE, SEMI, LESS, GREAT, HASH, DASH}
use Rattle.sh_parse.proofs.Agreeings.{IsWordSpot, past-spot, behind-spot}
use Rattle.sh_parse.proofs.Continuing.{flat}

-- the acts of a word among the tokens of a `$( )`, and of the word of a token
pub data WordActs (nest : Nest) (opened : ℕ) : Act → Act → Type 0 where
  both_go : {at : Spot} {rest : List ℕ} → IsWordSpot at
      → WordActs nest opened (goes (part.Commands nest (Some opened) at) rest) (goes (part.Commands nest None at) rest)
  both_enter : {inner : Construct} {at : Spot} {rest : List ℕ} → IsWordSpot at
      → WordActs nest opened (enters inner (part.Commands nest (Some opened) at) rest) (enters inner (part.Commands nest None at) rest)
  both_offend : {fault : Fault} → WordActs nest opened (offends fault) (offends fault)

module _ (nest : Nest) (opened : ℕ) where
  acts_if : (test : Bool) {one two more other : Act} → WordActs nest opened one two → WordActs nest opened more other
      → WordActs nest opened (if test then one else more) (if test then two else other)
  acts_if true a b = a
  acts_if false a b = b

  -- so it never ends
  never_ends : {does other : Act} → WordActs nest opened does other → (rest : List ℕ) → does ≡ ends rest → ⊥
  never_ends (both_go is) rest e = cc
  never_ends (both_enter is) rest e = cc
  never_ends both_offend rest e = cc

  pub token_never_ends : {does other : Act} → WordActs nest opened does other → (rest : List ℕ) → other ≡ ends rest → ⊥
  token_never_ends (both_go is) rest e = cc
  token_never_ends (both_enter is) rest e = cc
  token_never_ends both_offend rest e = cc

  module _ (left : ℕ) (at : Spot) (is : IsWordSpot at) where
    opening-acts : (inner : Construct) (rest : List ℕ) → WordActs nest opened (opening nest left inner (part.Commands nest (Some opened) at) rest)
        (opening nest left inner (part.Commands nest None at) rest)
    opening-acts inner rest = acts_if (nat_lt nest.levels MAX_LEVELS) (both_enter is) both_offend

    substitution-acts : (rest : List ℕ) → WordActs nest opened (substitution nest left (part.Commands nest (Some opened) at) rest)
        (substitution nest left (part.Commands nest None at) rest)
    substitution-acts rest = acts_if nest.in_braces both_offend (opening-acts (part.Commands (deeper nest) (Some left) spot.Between) rest)

    parenthesis-acts : (inner front : List ℕ) → WordActs nest opened (parenthesis nest left (part.Commands nest (Some opened) at) inner front)
        (parenthesis nest left (part.Commands nest None at) inner front)
    parenthesis-acts inner [] = substitution-acts inner
    parenthesis-acts inner (byte ∷ rest) = acts_if (byte == OPEN) (opening-acts (part.Arithmetic (deeper nest) left) rest) (substitution-acts inner)

    by-acts : (what : Introduced) (quoted : Bool) (all rest : List ℕ) → WordActs nest opened (dollar_by what nest quoted left (part.Commands nest (Some opened) at) all rest)
        (dollar_by what nest quoted left (part.Commands nest None at) all rest)
    by-acts (introduced.OutOfProfile spelling) quoted all rest = both_offend
    by-acts introduced.Braces quoted all rest = opening-acts (part.BraceHead (inside_braces nest) left quoted) rest
    by-acts introduced.Parenthesis quoted all rest = parenthesis-acts rest (unspliced rest)
    by-acts introduced.Name quoted all rest = both_enter is
    by-acts introduced.Special quoted all rest = both_go is
    by-acts introduced.Nothing quoted all rest = both_go is

    dollar-acts : (quoted : Bool) (all front : List ℕ) → WordActs nest opened (dollar_at nest quoted left (part.Commands nest (Some opened) at) all front)
        (dollar_at nest quoted left (part.Commands nest None at) all front)
    dollar-acts quoted all [] = both_go is
    dollar-acts quoted all (byte ∷ rest) = by-acts (introduced_by byte) quoted all rest

    single-acts : (found : Option (List ℕ)) → WordActs nest opened (single_quotes left (part.Commands nest (Some opened) at) found)
        (single_quotes left (part.Commands nest None at) found)
    single-acts None = both_offend
    single-acts (Some rest) = both_go is

  pub word-acts : (at : Spot) (byte : ℕ) (rest : List ℕ) → WordActs nest opened (word_at nest (Some opened) at byte rest) (word_at nest None at byte rest)
  word-acts at byte rest =
      acts_if (byte == QUOTE) (single-acts (length rest + 1) (spot_past at) (past-spot at) (behind_quote rest))
      (acts_if (byte == DOUBLE_QUOTE) (both_enter (past-spot at)) (acts_if (byte == BACKSLASH) (both_go (past-spot at))
      (acts_if (byte == BACKQUOTE) both_offend
      (acts_if (byte == DOLLAR) (dollar-acts (length rest + 1) (spot_past at) (past-spot at) false rest (unspliced rest))
      (acts_if ((byte == TILDE) && is_tilde_spot at) both_offend (both_go (behind-spot at byte)))))))

  pub entry_same : (inner : Construct) (at : Spot) → IsWordSpot at → entry_of inner (part.Commands nest (Some opened) at) ≡ entry_of inner (part.Commands nest None at)
  entry_same (part.Commands other (Some left) place) at is = by_spot at is
    where
      by_spot : (at : Spot) → IsWordSpot at → entry_in left (part.Commands nest (Some opened) at) ≡ entry_in left (part.Commands nest None at)
      by_spot spot.Between is = absurd is
      by_spot spot.Begin is = refl
      by_spot spot.Name is = refl
      by_spot spot.ValueBegin is = refl
      by_spot spot.Value is = refl
      by_spot spot.Elsewhere is = refl
  entry_same (part.Commands other None place) at is = refl
  entry_same part.Name at is = refl
  entry_same (part.DoubleQuotes other left) at is = refl
  entry_same (part.BraceHead other left quoted) at is = refl
  entry_same (part.Braces other left quoted) at is = refl
  entry_same (part.Arithmetic other left) at is = refl
  entry_same (part.Parentheses other left) at is = refl

module _ (total : ℕ) (nest : Nest) (opened : ℕ) where
  -- a word ends where its next byte is none of it, and else goes on as the word of a token does
  pub record EndsHere (at : Spot) (text : List ℕ) : Type 0 where
    pub does : act (part.Commands nest (Some opened) at) text ≡ act (part.Commands nest (Some opened) spot.Between) text
    pub sees : seen total (part.Commands nest (Some opened) at) text
        ≡ mark.WordEnd (total - length text) ∷ seen total (part.Commands nest (Some opened) spot.Between) text
    pub as_token : act (part.Commands nest None at) text ≡ ends text

  pub record GoesOn (at : Spot) (text : List ℕ) : Type 0 where
    pub does : WordActs nest opened (act (part.Commands nest (Some opened) at) text) (act (part.Commands nest None at) text)
    pub sees : seen total (part.Commands nest (Some opened) at) text ≡ []

  -- the same of what a word does by its next byte
  record ByFront (at : Spot) (text : List ℕ) : Type 0 where
    does : act (part.Commands nest (Some opened) at) text ≡ in_word nest (Some opened) at text (unspliced text)
    sees : seen total (part.Commands nest (Some opened) at) text ≡ behind_word total text (unspliced text)
    as_token : act (part.Commands nest None at) text ≡ in_word nest None at text (unspliced text)

  by_front : (at : Spot) (text : List ℕ) → IsWordSpot at → ByFront at text
  by_front spot.Between text is = absurd is
  by_front spot.Begin text is = record { does = refl; sees = refl; as_token = refl }
  by_front spot.Name text is = record { does = refl; sees = refl; as_token = refl }
  by_front spot.ValueBegin text is = record { does = refl; sees = refl; as_token = refl }
  by_front spot.Value text is = record { does = refl; sees = refl; as_token = refl }
  by_front spot.Elsewhere text is = record { does = refl; sees = refl; as_token = refl }

  at_front : (at : Spot) (text front : List ℕ) → unspliced text ≡ front → ByFront at text → EndsHere at text ⊎ GoesOn at text
  at_front at text [] is so =
      inl (record {
        does = so.does ∙ ap (in_word nest (Some opened) at text) is;
        sees = so.sees ∙ ap (behind_word total text) is;
        as_token = so.as_token ∙ ap (in_word nest None at text) is;
      })
  at_front at text (byte ∷ rest) is so = by_test (ends_word byte) refl
    where
      by_test : (test : Bool) → ends_word byte ≡ test → EndsHere at text ⊎ GoesOn at text
      by_test true e =
          inl (record {
            does = so.does ∙ ap (in_word nest (Some opened) at text) is
                ∙ ap (λ it. if it then scan.word_end nest (Some opened) text else word_at nest (Some opened) at byte rest) e;
            sees = so.sees ∙ ap (behind_word total text) is
                ∙ ap (λ it. if it then mark.WordEnd (total - length text) ∷ begun total text (lexeme text) else []) e;
            as_token = so.as_token ∙ ap (in_word nest None at text) is ∙ ap (λ it. if it then scan.word_end nest None text else word_at nest None at byte rest) e;
          })
      by_test false e =
          let one = so.does ∙ ap (in_word nest (Some opened) at text) is
          ∙ ap (λ it. if it then scan.word_end nest (Some opened) text else word_at nest (Some opened) at byte rest) e in
          let other = so.as_token ∙ ap (in_word nest None at text) is ∙ ap (λ it. if it then scan.word_end nest None text else word_at nest None at byte rest) e in
          inr (record {
            does = subst (λ it. WordActs nest opened it (act (part.Commands nest None at) text)) (sym one)
                (subst (WordActs nest opened (word_at nest (Some opened) at byte rest)) (sym other) (word-acts nest opened at byte rest));
            sees = so.sees ∙ ap (behind_word total text) is
                ∙ ap (λ it. if it then mark.WordEnd (total - length text) ∷ begun total text (lexeme text) else []) e;
          })

  pub front-case : (at : Spot) (text : List ℕ) → IsWordSpot at → EndsHere at text ⊎ GoesOn at text
  front-case at text is = at_front at text (unspliced text) refl (by_front at text is)

  -- the marks from within a word on
  pub record Split (at : Spot) (text left : List ℕ) (found : List Mark) : Type 0 where
    pub tail : List ℕ
    pub inside : List Mark
    pub more : List Mark
    pub as_token : Marked total (part.Commands nest None at) text inside tail
    pub behind : Marked total (part.Commands nest (Some opened) spot.Between) tail more left
    pub same : found ≡ inside ++ mark.WordEnd (total - length tail) ∷ more

  ended : (at : Spot) (text left : List ℕ) (found more : List Mark) → act (part.Commands nest None at) text ≡ ends text
      → found ≡ mark.WordEnd (total - length text) ∷ more → Marked total (part.Commands nest (Some opened) spot.Between) text more left
      → Split at text left found
  ended at text left found more over same behind =
      record { tail = text; inside = []; more = more; as_token = marks_end over; behind = behind; same = same }

  go_split : (at : Spot) (text rest left : List ℕ) (found : List Mark) {next : Construct} {other : Act} → WordActs nest opened (goes next rest) other
      → act (part.Commands nest None at) text ≡ other
      → ((place : Spot) → next ≡ part.Commands nest (Some opened) place → IsWordSpot place → Split place rest left found) → Split at text left found
  go_split at text rest left found (both_go {at = place} is) e more =
      let so = more place refl is in
      record { tail = so.tail; inside = so.inside; more = so.more; as_token = marks_on e so.as_token; behind = so.behind; same = so.same }

  enter_split : (at : Spot) (text rest after left : List ℕ) (inner : Construct) (one two : List Mark) {outer : Construct} {other : Act}
      → WordActs nest opened (enters inner outer rest) other → act (part.Commands nest None at) text ≡ other → Marked total inner rest one after
      → ((place : Spot) → outer ≡ part.Commands nest (Some opened) place → IsWordSpot place → Split place after left two)
      → Split at text left (marks.opening total text rest (entry_of inner outer) ++ (one ++ (closing (entry_of inner outer) ++ two)))
  enter_split at text rest after left inner one two (both_enter {at = place} is) e inside more =
      let so = more place refl is in
      let by = entry_of inner (part.Commands nest None place) in
      let last = mark.WordEnd (total - length so.tail) ∷ so.more in
      record {
        tail = so.tail;
        inside = marks.opening total text rest by ++ (one ++ (closing by ++ so.inside));
        more = so.more;
        as_token = marks_inner e inside so.as_token;
        behind = so.behind;
        same = ap (λ it. marks.opening total text rest it ++ (one ++ (closing it ++ two))) (entry_same nest opened inner place is)
            ∙ ap (λ it. marks.opening total text rest by ++ (one ++ (closing by ++ it))) so.same
            ∙ sym (flat [] (marks.opening total text rest by) one (closing by) so.inside last);
      }

  pub split : {construct : Construct} {text left : List ℕ} {found : List Mark} → Marked total construct text found left → (at : Spot)
      → construct ≡ part.Commands nest (Some opened) at → IsWordSpot at → Split at text left found
  split (marks_on {construct = construct} {next = next} {text = text} {rest = rest} {left = left} {found = found} e more) at same is =
      let does = sym (ap (λ it. act it text) same) ∙ e in
      elim (front-case at text is) [
        | inl here ↦ ended at text left (seen total construct text ++ found) (seen total (part.Commands nest (Some opened) spot.Between) text ++ found) here.as_token
            (ap (λ it. seen total it text ++ found) same ∙ ap (λ it. it ++ found) here.sees) (marks_on (sym here.does ∙ does) more)
        | inr on ↦ subst (Split at text left) (sym (ap (λ it. seen total it text ++ found) same ∙ ap (λ it. it ++ found) on.sees))
            (go_split at text rest left found (subst (λ it. WordActs nest opened it (act (part.Commands nest None at) text)) does on.does) refl
            (λ place again spot_is. split more place again spot_is))
      ]
  split (marks_inner {construct = construct} {inner = inner} {outer = outer} {text = text} {rest = rest} {after = after} {left = left} {inside = one} {outside = two} e inside outside) at same is =
      let does = sym (ap (λ it. act it text) same) ∙ e in
      let all = marks.opening total text rest (entry_of inner outer) ++ (one ++ (closing (entry_of inner outer) ++ two)) in
      elim (front-case at text is) [
        | inl here ↦ ended at text left (seen total construct text ++ all) (seen total (part.Commands nest (Some opened) spot.Between) text ++ all) here.as_token
            (ap (λ it. seen total it text ++ all) same ∙ ap (λ it. it ++ all) here.sees) (marks_inner (sym here.does ∙ does) inside outside)
        | inr on ↦ subst (Split at text left) (sym (ap (λ it. seen total it text ++ all) same ∙ ap (λ it. it ++ all) on.sees))
            (enter_split at text rest after left inner one two (subst (λ it. WordActs nest opened it (act (part.Commands nest None at) text)) does on.does) refl inside
            (λ place again spot_is. split outside place again spot_is))
      ]
  split (marks_end {construct = construct} {text = text} {rest = rest} e) at same is =
      let does = sym (ap (λ it. act it text) same) ∙ e in
      elim (front-case at text is) [
        | inl here ↦ ended at text rest (seen total construct text) (seen total (part.Commands nest (Some opened) spot.Between) text) here.as_token
            (ap (λ it. seen total it text) same ∙ here.sees) (marks_end (sym here.does ∙ does))
        | inr on ↦ absurd (never_ends nest opened on.does rest does)
      ]

  -- a word that begins here
  pub record BeginsHere (text : List ℕ) : Type 0 where
    pub does : act (part.Commands nest (Some opened) spot.Between) text ≡ act (part.Commands nest (Some opened) spot.Begin) text
    pub sees : seen total (part.Commands nest (Some opened) spot.Begin) text ≡ []

  pub begins_here : (text : List ℕ) → lexeme text ≡ word → BeginsHere text
  begins_here text e =
      let (byte, (rest, (front, never))) = subst (LeavesLess text) e (lexeme-LeavesLess text) in
      record {
        does = ap (between_at nest opened text) e ∙ ap (word_begin nest opened) front
            ∙ sym (ap (in_word nest (Some opened) spot.Begin text) front
            ∙ ap (λ it. if it then scan.word_end nest (Some opened) text else word_at nest (Some opened) spot.Begin byte rest) never);
        sees = ap (behind_word total text) front ∙ ap (λ it. if it then mark.WordEnd (total - length text) ∷ begun total text (lexeme text) else []) never;
      }

-- A TOKEN that begins at a text is none of kind Word
abbrev pub IsOther : Found → Type 0
IsOther nothing = Unit {0}
IsOther (gap rest) = Unit {0}
IsOther (open_parenthesis rest) = Unit {0}
IsOther (close_parenthesis rest) = Unit {0}
IsOther (token sort rest) = sort ≡ kind.Word → ⊥
IsOther word = Unit {0}
IsOther (offence fault) = Unit {0}

other_if : (test : Bool) (one other : Found) → IsOther one → IsOther other → IsOther (if test then one else other)
other_if true one other a b = a
other_if false one other a b = b

and-other : (left : ℕ) (front : List ℕ) → IsOther (and_at left front)
and-other left [] = tt
and-other left (byte ∷ rest) = other_if (byte == AND) _ _ (λ e. cc) tt

pipe-other : (text front : List ℕ) → IsOther (pipe_at text front)
pipe-other text [] = λ e. cc
pipe-other text (byte ∷ rest) = other_if (byte == PIPE) _ _ (λ e. cc) (λ e. cc)

semi-other : (left : ℕ) (text front : List ℕ) → IsOther (semi_at left text front)
semi-other left text [] = λ e. cc
semi-other left text (byte ∷ rest) = other_if (byte == SEMI) _ _ tt (λ e. cc)

less-other : (left : ℕ) (text front : List ℕ) → IsOther (less_at left text front)
less-other left text [] = λ e. cc
less-other left text (byte ∷ rest) =
    other_if (byte == LESS) _ _ (other_if (begins_with DASH (unspliced rest)) _ _ tt tt) (other_if (byte == AND) _ _ tt (other_if (byte == GREAT) _ _ tt (λ e. cc)))

great-other : (left : ℕ) (text front : List ℕ) → IsOther (great_at left text front)
great-other left text [] = λ e. cc
great-other left text (byte ∷ rest) =
    other_if (byte == GREAT) _ _ (λ e. cc) (other_if (byte == PIPE) _ _ tt
    (other_if (byte == AND) _ _ (other_if (is_target (unspliced (behind_run is_blank rest))) _ _ (λ e. cc) tt) (λ e. cc)))

number-other : (digit left : ℕ) (single : Bool) (text front : List ℕ) → IsOther (number_at digit left single text front)
number-other digit left single text [] = tt
number-other digit left single text (byte ∷ rest) =
    other_if (byte == LESS) _ _ (other_if (fits_less digit single (unspliced rest)) _ _ (λ e. cc) tt)
    (other_if (byte == GREAT) _ _ (other_if (fits_great digit single (unspliced rest)) _ _ (λ e. cc) tt) tt)

delimiter-other : (byte : ℕ) (rest : List ℕ) → IsOther (delimiter byte rest)
delimiter-other byte rest =
    other_if (byte == NEWLINE) _ _ (λ e. cc) (other_if (byte == AND) _ _ (and-other (length rest + 1) (unspliced rest))
    (other_if (byte == PIPE) _ _ (pipe-other rest (unspliced rest)) (other_if (byte == SEMI) _ _ (semi-other (length rest + 1) rest (unspliced rest))
    (other_if (byte == OPEN) _ _ tt (other_if (byte == CLOSE) _ _ tt (other_if (byte == LESS) _ _ (less-other (length rest + 1) rest (unspliced rest))
    (other_if (byte == GREAT) _ _ (great-other (length rest + 1) rest (unspliced rest)) tt)))))))

front-other : (front : List ℕ) → IsOther (lexeme_at front)
front-other [] = tt
front-other (byte ∷ rest) =
    other_if (ends_word byte) _ _ (delimiter-other byte rest) (other_if (byte == HASH) _ _ tt
    (other_if (is_ascii_digit byte) _ _ (number-other byte (length rest + 1) (length (behind_run is_ascii_digit rest) == length rest) (behind_run is_ascii_digit rest)
    (unspliced (behind_run is_ascii_digit rest))) tt))

pub lexeme-other : (text : List ℕ) → IsOther (lexeme text)
lexeme-other text = front-other (unspliced text)
