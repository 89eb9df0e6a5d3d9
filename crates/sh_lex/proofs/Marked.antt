-- Texts with marks are those with tokens, and their marks are one list.
use Rattle.std.proofs.Common.{◌≡◌, ℕ, ◌-◌, ◌≤◌, List, [], ◌∷◌, ◌++◌, length, Ok, Err, refl, sym, ◌∙◌, ap, subst, append_assoc}
use Rattle.sh_lex.specs.Acts.{Act, goes, enters, ends, offends, Found, nothing, gap, open_parenthesis, close_parenthesis, token, word, offence}
use Rattle.sh_lex.specs.Texts.{unspliced}
use Rattle.sh_lex.specs.Operators.{lexeme}
use Rattle.sh_lex.specs.Reads.{act, Reads, past, goes_on, reads_inner, has_ended}
use Rattle.sh_lex.specs.Lexes as l
use Rattle.sh_lex.specs.Lexes.{Tokens, one_word, token_between, HasTokens}
use Rattle.sh_lex.specs.Marks.{Marked, marks_on, marks_inner, marks_end, Marks, no_mark, skips, opens, closes, takes, takes_word, HasMarks, seen, opening, closing, entry_of}
use Rattle.sh_lex.specs.Inner.Marking.{word_marks, LeadsTo}
use Rattle.sh_lex.proofs.Scripts.{less_at, has_tokens}
use Rattle.sh_lex.proofs.Readings.{word-shorter}
use Rattle.sh_lex.specs.Inner.Lexing.{StopsAt}
use Rattle.sh_lex.specs.declared.reading.ScanStop.{ScanStop}
use Rattle.sh_lex.specs.declared.reading.ScanStop.TheVariants as stop
use Rattle.sh_lex.specs.declared.lexing.TheConstants.{MAX_SCRIPT}
use Rattle.sh_lex.specs.declared.lexing.marks.Mark.{Mark}
use Rattle.sh_lex.specs.declared.lexing.marks.Mark.TheVariants as mark
use Rattle.sh_lex.specs.declared.parts.Fault.{Fault}
use Rattle.sh_lex.specs.declared.parts.Construct.{Construct}
use Rattle.sh_lex.specs.declared.tokens.Token.{Token}
use Rattle.sh_lex.specs.declared.tokens.TokenKind.{TokenKind}
use Rattle.sh_lex.specs.declared.tokens.TokenKind.TheVariants as kind
use Rattle.sh_lex.specs.declared.tokens.Op.TheVariants as op

-- what a construct does next
abbrev Follows : ℕ → Construct → List ℕ → Act → List Mark → List ℕ → Type 0
Follows total construct text (goes next rest) found left = (more : List Mark) × (Marked total next rest more left × (found ≡ seen total construct text ++ more))
Follows total construct text (enters inner outer rest) found left = (after : List ℕ) × ((one : List Mark) × ((two : List Mark)
    × (Marked total inner rest one after × (Marked total outer after two left × (found ≡ seen total construct text
    ++ (opening total text rest (entry_of inner outer) ++ (one ++ (closing (entry_of inner outer) ++ two))))))))
Follows total construct text (ends rest) found left = (left ≡ rest) × (found ≡ seen total construct text)
Follows total construct text (offends fault) found left = ⊥

abbrev MarksAt : ℕ → List ℕ → Found → List Mark → Type 0
MarksAt total text nothing found = found ≡ []
MarksAt total text (gap rest) found = Marks total rest found
MarksAt total text (open_parenthesis rest) found = (more : List Mark) × (Marks total rest more
    × (found ≡ mark.Token (token_between total (kind.Op op.Open) text rest) ∷ more))
MarksAt total text (close_parenthesis rest) found = (more : List Mark) × (Marks total rest more
    × (found ≡ mark.Token (token_between total (kind.Op op.Close) text rest) ∷ more))
MarksAt total text (token kind rest) found = (more : List Mark) × (Marks total rest more
    × (found ≡ mark.Token (token_between total kind text rest) ∷ more))
MarksAt total text word found = (rest : List ℕ) × ((inside : List Mark) × ((more : List Mark) × (Marked total one_word text inside rest
    × (Marks total rest more × (found ≡ word_marks total text inside rest ++ more)))))
MarksAt total text (offence fault) found = ⊥

placed : (total : ℕ) (text rest : List ℕ) (inside more : List Mark)
    → word_marks total text inside rest ++ more
    ≡ mark.WordBegin (total - length (unspliced text)) ∷ (inside ++ mark.WordEnd (total - length rest) ∷ more)
placed total text rest inside more =
    ap (λ x. mark.WordBegin (total - length (unspliced text)) ∷ x) (append_assoc inside (mark.WordEnd (total - length rest) ∷ []) more)

module _ {total : ℕ} where
  -- a construct with marks is read
  pub marked_reads : {construct : Construct} {text left : List ℕ} {found : List Mark} → Marked total construct text found left
      → Reads construct text (past left)
  marked_reads (marks_on e more) = goes_on e (marked_reads more)
  marked_reads (marks_inner e inside outside) = reads_inner e (marked_reads inside) (marked_reads outside)
  marked_reads (marks_end e) = has_ended e

  pub marks_tokens : {text : List ℕ} {found : List Mark} → Marks total text found → (tokens : List Token) × Tokens total text (Ok tokens)
  marks_tokens (no_mark e) = ([], l.no_token e)
  marks_tokens (skips e more) = let rest = marks_tokens more in (rest.0, l.skips e rest.1)
  marks_tokens (opens {text = text} {rest = left} e more) =
      let rest = marks_tokens more in (token_between total (kind.Op op.Open) text left ∷ rest.0, l.opens e rest.1)
  marks_tokens (closes {text = text} {rest = left} e more) =
      let rest = marks_tokens more in (token_between total (kind.Op op.Close) text left ∷ rest.0, l.closes e rest.1)
  marks_tokens (takes {text = text} {rest = left} {kind = one} e more) =
      let rest = marks_tokens more in (token_between total one text left ∷ rest.0, l.takes e rest.1)
  marks_tokens (takes_word {text = text} {rest = left} e inside more) =
      let rest = marks_tokens more in (token_between total kind.Word text left ∷ rest.0, l.takes_word e (marked_reads inside) rest.1)

  follows : {construct : Construct} {text left : List ℕ} {found : List Mark} → Marked total construct text found left
      → Follows total construct text (act construct text) found left
  follows {construct = construct} {text = text} {left = left} {found = all} (marks_on {found = found} e more) =
      subst (λ a. Follows total construct text a all left) (sym e) (found, (more, refl))
  follows {construct = construct} {text = text} {left = left} {found = all} (marks_inner {after = after} {inside = one} {outside = two} e inside outside) =
      subst (λ a. Follows total construct text a all left) (sym e) (after, (one, (two, (inside, (outside, refl)))))
  follows {construct = construct} {text = text} {left = left} {found = all} (marks_end e) =
      subst (λ a. Follows total construct text a all left) (sym e) (refl, refl)

  -- a construct has one list of marks, and leaves one text
  pub marked_same : {construct : Construct} {text left other_left : List ℕ} {found other : List Mark} → Marked total construct text found left
      → Marked total construct text other other_left → (other ≡ found) × (other_left ≡ left)
  marked_same {construct = construct} {text = text} {other_left = other_left} {other = other} (marks_on e more) second =
      let (next, (marked, is)) = subst (λ a. Follows total construct text a other other_left) e (follows second) in
      let same = marked_same more marked in
      (is ∙ ap (λ x. seen total construct text ++ x) same.0, same.1)
  marked_same {construct = construct} {text = text} {other_left = other_left} {other = other}
      (marks_inner {inner = inner} {outer = outer} {rest = rest} {after = after} {inside = inside} {outside = outside} e is_inside is_outside) second =
      let (middle, (one, (two, (is_one, (is_two, is))))) = subst (λ a. Follows total construct text a other other_left) e (follows second) in
      let first = marked_same is_inside is_one in
      let rest_same = marked_same is_outside (subst (λ x. Marked total outer x two other_left) first.1 is_two) in (
        is ∙ ap (λ x. seen total construct text ++ (opening total text rest (entry_of inner outer) ++ (x ++ (closing (entry_of inner outer) ++ two)))) first.0
            ∙ ap (λ x. seen total construct text ++ (opening total text rest (entry_of inner outer) ++ (inside ++ (closing (entry_of inner outer) ++ x)))) rest_same.0,
        rest_same.1,
      )
  marked_same {construct = construct} {text = text} {other_left = other_left} {other = other} (marks_end e) second =
      let (left, is) = subst (λ a. Follows total construct text a other other_left) e (follows second) in (is, left)

  marks_at : {text : List ℕ} {found : List Mark} → Marks total text found → MarksAt total text (lexeme text) found
  marks_at {text = text} (no_mark e) = subst (λ f. MarksAt total text f []) (sym e) refl
  marks_at {text = text} {found = all} (skips e more) = subst (λ f. MarksAt total text f all) (sym e) more
  marks_at {text = text} {found = all} (opens {found = found} e more) = subst (λ f. MarksAt total text f all) (sym e) (found, (more, refl))
  marks_at {text = text} {found = all} (closes {found = found} e more) = subst (λ f. MarksAt total text f all) (sym e) (found, (more, refl))
  marks_at {text = text} {found = all} (takes {found = found} e more) = subst (λ f. MarksAt total text f all) (sym e) (found, (more, refl))
  marks_at {text = text} {found = all} (takes_word {rest = rest} {inside = inside} {found = found} e is_inside more) =
      subst (λ f. MarksAt total text f all) (sym e) (rest, (inside, (found, (is_inside, (more, sym (placed total text rest inside found))))))

  pub marks_same : {text : List ℕ} {one other : List Mark} → Marks total text one → Marks total text other → other ≡ one
  marks_same {text = text} {other = other} (no_mark e) second = subst (λ f. MarksAt total text f other) e (marks_at second)
  marks_same {text = text} {other = other} (skips e more) second = marks_same more (subst (λ f. MarksAt total text f other) e (marks_at second))
  marks_same {text = text} {other = other} (opens {rest = left} e more) second =
      let (rest, (marked, is)) = subst (λ f. MarksAt total text f other) e (marks_at second) in
      is ∙ ap (λ x. mark.Token (token_between total (kind.Op op.Open) text left) ∷ x) (marks_same more marked)
  marks_same {text = text} {other = other} (closes {rest = left} e more) second =
      let (rest, (marked, is)) = subst (λ f. MarksAt total text f other) e (marks_at second) in
      is ∙ ap (λ x. mark.Token (token_between total (kind.Op op.Close) text left) ∷ x) (marks_same more marked)
  marks_same {text = text} {other = other} (takes {rest = left} {kind = one_kind} e more) second =
      let (rest, (marked, is)) = subst (λ f. MarksAt total text f other) e (marks_at second) in
      is ∙ ap (λ x. mark.Token (token_between total one_kind text left) ∷ x) (marks_same more marked)
  marks_same {text = text} {other = other} (takes_word {rest = rest} {inside = inside} {found = found} e is_inside more) second =
      let (left, (one, (two, (is_one, (marked, is))))) = subst (λ f. MarksAt total text f other) e (marks_at second) in
      let same = marked_same is_inside is_one in
      let rest_same = marks_same more (subst (λ x. Marks total x two) same.1 marked) in
      is ∙ ap (λ x. word_marks total text x left ++ two) same.0 ∙ ap (λ x. word_marks total text inside x ++ two) same.1
      ∙ ap (λ x. word_marks total text inside rest ++ x) rest_same ∙ placed total text rest inside found

  -- a word at the text, with the marks inside it
  pub word_leads : (text rest : List ℕ) (inside : List Mark) → word ≡ lexeme text → Marked total one_word text inside rest
      → LeadsTo total text (word_marks total text inside rest) rest
  word_leads text rest inside e marked = record {
    less = word-shorter text rest (less_at text word e) (marked_reads marked);
    before = λ more is_more. subst (λ x. Marks total text x) (sym (placed total text rest inside more)) (takes_word (sym e) marked is_more);
    refused = λ fault more. l.takes_word (sym e) (marked_reads marked) more;
  }

  pub gap_leads : (text rest : List ℕ) → gap rest ≡ lexeme text → LeadsTo total text [] rest
  gap_leads text rest e = record {
    less = less_at text (gap rest) e;
    before = λ more is_more. skips (sym e) is_more;
    refused = λ fault more. l.skips (sym e) more;
  }

  pub open_leads : (text rest : List ℕ) (one : Mark) → open_parenthesis rest ≡ lexeme text
      → one ≡ mark.Token (token_between total (kind.Op op.Open) text rest) → LeadsTo total text (one ∷ []) rest
  open_leads text rest one e same = record {
    less = less_at text (open_parenthesis rest) e;
    before = λ more is_more. subst (λ x. Marks total text (x ∷ more)) (sym same) (opens (sym e) is_more);
    refused = λ fault more. l.opens (sym e) more;
  }

  pub close_leads : (text rest : List ℕ) (one : Mark) → close_parenthesis rest ≡ lexeme text
      → one ≡ mark.Token (token_between total (kind.Op op.Close) text rest) → LeadsTo total text (one ∷ []) rest
  close_leads text rest one e same = record {
    less = less_at text (close_parenthesis rest) e;
    before = λ more is_more. subst (λ x. Marks total text (x ∷ more)) (sym same) (closes (sym e) is_more);
    refused = λ fault more. l.closes (sym e) more;
  }

  pub token_leads : (text rest : List ℕ) (kind : TokenKind) (one : Mark) → token kind rest ≡ lexeme text
      → one ≡ mark.Token (token_between total kind text rest) → LeadsTo total text (one ∷ []) rest
  token_leads text rest kind one e same = record {
    less = less_at text (token kind rest) e;
    before = λ more is_more. subst (λ x. Marks total text (x ∷ more)) (sym same) (takes (sym e) is_more);
    refused = λ fault more. l.takes (sym e) more;
  }

  -- the marks so far, and those of what leads on
  pub before_on : (all text rest : List ℕ) (so_far found after : List Mark)
      → ((more : List Mark) → Marks total text more → Marks total all (so_far ++ more)) → LeadsTo total text found rest
      → after ≡ so_far ++ found → (more : List Mark) → Marks total rest more → Marks total all (after ++ more)
  before_on all text rest so_far found after ahead leads grown more is_more =
      subst (λ x. Marks total all x) (sym (append_assoc so_far found more) ∙ ap (λ x. x ++ more) (sym grown))
      (ahead (found ++ more) (leads.before more is_more))

  pub stops_on : (all text : List ℕ) (stopped : ScanStop) → ((fault : Fault) → Tokens total text (Err fault) → Tokens total all (Err fault))
      → StopsAt total text stopped → StopsAt total all stopped
  stops_on all text (stop.Refused fault) refused h = refused fault h
  stops_on all text stop.Memory refused h = tt

pub has_marks : (text : List ℕ) (marks : List Mark) → length text ≤ MAX_SCRIPT → Marks (length text) text marks → HasMarks text marks
has_marks text marks short marked = record {
  lexed = let found = marks_tokens marked in (found.0, has_tokens text found.0 short found.1);
  marked = marked;
  only = λ others second. marks_same marked second;
}
