-- The tokens of a text stand in it, each the longest at its place, with blanks, comments and removed backslash-newlines between them.
use Rattle.std.proofs.Common.{◌≡◌, ◌+◌, ◌-◌, ◌==◌, ◌||◌, ◌&&◌, ℕ, Bool, true, false, None, Some, Option, List, [], ◌∷◌, ◌++◌, if◌then◌else◌, length, Result, Ok, Err, refl, sym, ◌∙◌, ap, subst, append_assoc, arith, rules}
use Rattle.std.proofs.lemmas.Bool.Decides.{nat_tests}
use Rattle.std.specs.Char.{is_ascii_digit}
use Rattle.sh_lex.specs.Bytes.{is_blank, ends_word}
use Rattle.sh_lex.specs.Texts.{fronts, unspliced, behind_run, behind_comment}
use Rattle.sh_lex.specs.Acts.{Act, goes, enters, ends, offends, Found, nothing, gap, open_parenthesis, close_parenthesis, token, word, offence}
use Rattle.sh_lex.specs.Numbers.{begins_with, fits_less, fits_great, number_at}
use Rattle.sh_lex.specs.Operators.{has_no_word, is_target, and_at, pipe_at, semi_at, less_at, great_at, delimiter, lexeme_at, lexeme}
use Rattle.sh_lex.specs.Dollars.{opening, substitution, parenthesis, introduced_by, dollar_by, dollar_at, after_dollar}
use Rattle.sh_lex.specs.Braces.{single_quotes}
use Rattle.sh_lex.specs.Commands.{word_at, in_word, spot_past, spot_behind}
use Rattle.sh_lex.specs.Reads.{act, past, Reads, goes_on, reads_inner, has_ended}
use Rattle.sh_lex.specs.Lexes.{Lexes, Tokens, one_word, token_between, after_token, no_token, skips, opens, closes, takes, takes_word, refused_word, refused_token}
use Rattle.sh_lex.specs.Laws.{spelling, Spells, IsLongestOp, IsLongest, begins_word, has_no_newline, ends_line, Stand, at_end, removed, blank, comment, one_token}
use Rattle.sh_lex.proofs.Fronts.{behind_run-byte}
use Rattle.sh_lex.proofs.OrderLemmas.{unspliced-twice, begins_same, word_again}
use Rattle.sh_lex.proofs.KeepsLemmas.{IsKept, KeepsBehind, lexeme-kept, Reads-kept}
use Rattle.sh_lex.specs.declared.bytes.TheConstants.{BACKSLASH, NEWLINE, HASH, DASH, AND, PIPE, SEMI, OPEN, CLOSE, LESS, GREAT}
use Rattle.sh_lex.specs.declared.parts.Fault.{Fault}
use Rattle.sh_lex.specs.declared.parts.Nest.{Nest}
use Rattle.sh_lex.specs.declared.parts.Construct.{Construct}
use Rattle.sh_lex.specs.declared.parts.Spot.{Spot}
use Rattle.sh_lex.specs.declared.parts.Construct.TheVariants as part
use Rattle.sh_lex.specs.declared.parts.Spot.TheVariants as spot
use Rattle.sh_lex.specs.declared.dollars.Introduced.{Introduced}
use Rattle.sh_lex.specs.declared.dollars.Introduced.TheVariants as introduced
use Rattle.sh_lex.specs.declared.tokens.Op.{Op}
use Rattle.sh_lex.specs.declared.tokens.Op.TheVariants as op
use Rattle.sh_lex.specs.declared.tokens.Token.{Token}
use Rattle.sh_lex.specs.declared.tokens.TokenKind.{TokenKind}
use Rattle.sh_lex.specs.declared.tokens.TokenKind.TheVariants as kind

is_byte : (one other : ℕ) → (one == other) ≡ true → one ≡ other
is_byte one other h = grind (arith, nat_tests)

-- operators of two bytes, and none of three
none_of_three : (longer : Op) (first second third : ℕ) → spelling longer ≡ first ∷ second ∷ third ∷ [] → ⊥
none_of_three op.AndIf first second third e = cc
none_of_three op.OrIf first second third e = cc
none_of_three op.Semi first second third e = cc
none_of_three op.Pipe first second third e = cc
none_of_three op.Open first second third e = cc
none_of_three op.Close first second third e = cc
none_of_three op.Less first second third e = cc
none_of_three op.Great first second third e = cc
none_of_three op.DGreat first second third e = cc
none_of_three op.GreatAnd first second third e = cc

-- the second byte of an operator of two, by the first
abbrev goes_with : ℕ → ℕ → Bool
goes_with first second =
    ((first == AND) && (second == AND)) || ((first == PIPE) && (second == PIPE)) || ((first == GREAT) && (second == GREAT))
    || ((first == GREAT) && (second == AND))

pair_of : (a b first second : ℕ) → goes_with a b ≡ true → a ∷ b ∷ [] ≡ first ∷ second ∷ [] → goes_with first second ≡ true
pair_of a b first second h e =
    let one : a ≡ first = cc in let two : b ≡ second = cc in subst (λ x. goes_with first x ≡ true) two (subst (λ x. goes_with x b ≡ true) one h)

of_two : (longer : Op) (first second : ℕ) → spelling longer ≡ first ∷ second ∷ [] → goes_with first second ≡ true
of_two op.AndIf first second e = pair_of AND AND first second refl e
of_two op.OrIf first second e = pair_of PIPE PIPE first second refl e
of_two op.Semi first second e = cc
of_two op.Pipe first second e = cc
of_two op.Open first second e = cc
of_two op.Close first second e = cc
of_two op.Less first second e = cc
of_two op.Great first second e = cc
of_two op.DGreat first second e = pair_of GREAT GREAT first second refl e
of_two op.GreatAnd first second e = pair_of GREAT AND first second refl e

-- an operator of two bytes is the longest
longest_two : (which : Op) (first second : ℕ) (rest : List ℕ) → spelling which ≡ first ∷ second ∷ [] → IsLongestOp which rest
longest_two which first second rest is longer byte e =
    absurd (none_of_three longer first second byte (e ∙ ap (λ x. x ++ byte ∷ []) is))

-- one of one byte is, where the next byte doesn't go with it
abbrev continues : ℕ → List ℕ → Bool
continues first [] = false
continues first (next ∷ rest) = goes_with first next

next_isnt : (first byte : ℕ) (front : List ℕ) → goes_with first byte ≡ true → continues first front ≡ false → begins_with byte front ≡ false
next_isnt first byte [] h k = refl
next_isnt first byte (next ∷ rest) h k = by_test (next == byte) refl
  where
    by_test : (test : Bool) → (next == byte) ≡ test → (next == byte) ≡ false
    by_test true e = let same : next ≡ byte = is_byte next byte e in
        let both : goes_with first next ≡ true = subst (λ x. goes_with first x ≡ true) (sym same) h in cc
    by_test false e = e

longest_one : (which : Op) (first : ℕ) (rest : List ℕ) → spelling which ≡ first ∷ [] → continues first (unspliced rest) ≡ false
    → IsLongestOp which rest
longest_one which first rest is k longer byte e =
    next_isnt first byte (unspliced rest) (of_two longer first byte (e ∙ ap (λ x. x ++ byte ∷ []) is)) k

-- a gap at a text
data GapAt : List ℕ → List ℕ → Type 0 where
  at_blank : {byte : ℕ} {rest : List ℕ} → is_blank byte ≡ true → GapAt (byte ∷ rest) rest
  at_comment : (rest : List ℕ) → GapAt (HASH ∷ rest) (behind_comment rest)

-- what begins at a text without backslash-newlines at its beginning
abbrev StandsAt : List ℕ → Found → Type 0
StandsAt text nothing = text ≡ []
StandsAt text (gap rest) = GapAt text rest
StandsAt text (open_parenthesis rest) = IsLongest (kind.Op op.Open) text rest
StandsAt text (close_parenthesis rest) = IsLongest (kind.Op op.Close) text rest
StandsAt text (token kind rest) = IsLongest kind text rest
StandsAt text word = begins_word text ≡ true
StandsAt text (offence fault) = Unit {0}

StandsAt-if : (text : List ℕ) (test : Bool) (left right : Found) → (test ≡ true → StandsAt text left)
    → (test ≡ false → StandsAt text right) → StandsAt text (if test then left else right)
StandsAt-if text true left right l r = l refl
StandsAt-if text false left right l r = r refl

never : (first : ℕ) → ((next : ℕ) → goes_with first next ≡ false) → (front : List ℕ) → continues first front ≡ false
never first h [] = refl
never first h (next ∷ rest) = h next

or_left : (one other : Bool) → one ≡ true → (one || other) ≡ true
or_left true other h = refl
or_left false other h = cc

or_right : (one other : Bool) → other ≡ true → (one || other) ≡ true
or_right true other h = refl
or_right false other h = h

-- digits before a sign
before_sign : (end : List ℕ) (next : ℕ) (behind : List ℕ) → unspliced end ≡ next ∷ behind → ((next == LESS) || (next == GREAT)) ≡ true
    → (begins_with LESS (unspliced end) || begins_with GREAT (unspliced end)) ≡ true
before_sign end next behind e h =
    subst (λ front. (begins_with LESS front || begins_with GREAT front) ≡ true) (sym e) h

module _ (byte : ℕ) (rest : List ℕ) (begins : unspliced (byte ∷ rest) ≡ byte ∷ rest) where
  one : (first : ℕ) → (byte == first) ≡ true → Spells (first ∷ []) (byte ∷ rest) rest
  one first h = (rest, (subst (λ x. unspliced (byte ∷ rest) ≡ x ∷ rest) (is_byte byte first h) begins, refl))

  two : (first second next : ℕ) (behind : List ℕ) → (byte == first) ≡ true → unspliced rest ≡ next ∷ behind → (next == second) ≡ true
      → Spells (first ∷ second ∷ []) (byte ∷ rest) behind
  two first second next behind h e k = (
    rest,
    (
      subst (λ x. unspliced (byte ∷ rest) ≡ x ∷ rest) (is_byte byte first h) begins,
      (behind, (subst (λ x. unspliced rest ≡ x ∷ behind) (is_byte next second k) e, refl)),
    ),
  )

  alone : (which : Op) (first : ℕ) → spelling which ≡ first ∷ [] → (byte == first) ≡ true → continues first (unspliced rest) ≡ false
      → IsLongest (kind.Op which) (byte ∷ rest) rest
  alone which first is h k = (
    subst (λ bytes. Spells bytes (byte ∷ rest) rest) (sym is) (one first h),
    longest_one which first rest is k,
  )

  pair : (which : Op) (first second next : ℕ) (behind : List ℕ) → spelling which ≡ first ∷ second ∷ [] → (byte == first) ≡ true
      → unspliced rest ≡ next ∷ behind → (next == second) ≡ true → IsLongest (kind.Op which) (byte ∷ rest) behind
  pair which first second next behind is h e k = (
    subst (λ bytes. Spells bytes (byte ∷ rest) behind) (sym is) (two first second next behind h e k),
    longest_two which first second behind is,
  )

  and_stands : (left : ℕ) (front : List ℕ) → (byte == AND) ≡ true → unspliced rest ≡ front → StandsAt (byte ∷ rest) (and_at left front)
  and_stands left [] h e = tt
  and_stands left (next ∷ behind) h e =
      StandsAt-if (byte ∷ rest) (next == AND) _ _ (λ k. pair op.AndIf AND AND next behind refl h e k) (λ k. tt)

  pipe_stands : (front : List ℕ) → (byte == PIPE) ≡ true → unspliced rest ≡ front → StandsAt (byte ∷ rest) (pipe_at rest front)
  pipe_stands [] h e = alone op.Pipe PIPE refl h (ap (continues PIPE) e)
  pipe_stands (next ∷ behind) h e =
      StandsAt-if (byte ∷ rest) (next == PIPE) _ _ (λ k. pair op.OrIf PIPE PIPE next behind refl h e k)
      (λ k. alone op.Pipe PIPE refl h (ap (continues PIPE) e ∙ (simp k)))

  semi_stands : (left : ℕ) (front : List ℕ) → (byte == SEMI) ≡ true → StandsAt (byte ∷ rest) (semi_at left rest front)
  semi_stands left [] h = alone op.Semi SEMI refl h (never SEMI (λ next. refl) (unspliced rest))
  semi_stands left (next ∷ behind) h =
      StandsAt-if (byte ∷ rest) (next == SEMI) _ _ (λ k. tt) (λ k. alone op.Semi SEMI refl h (never SEMI (λ next. refl) (unspliced rest)))

  less_alone : (byte == LESS) ≡ true → IsLongest (kind.Op op.Less) (byte ∷ rest) rest
  less_alone h = alone op.Less LESS refl h (never LESS (λ next. refl) (unspliced rest))

  less_stands : (left : ℕ) (front : List ℕ) → (byte == LESS) ≡ true → StandsAt (byte ∷ rest) (less_at left rest front)
  less_stands left [] h = less_alone h
  less_stands left (next ∷ behind) h =
      StandsAt-if (byte ∷ rest) (next == LESS) _ _ (λ k. StandsAt-if (byte ∷ rest) (begins_with DASH (unspliced behind)) _ _ (λ m. tt) (λ m. tt))
      (λ k. StandsAt-if (byte ∷ rest) (next == AND) _ _ (λ m. tt)
      (λ m. StandsAt-if (byte ∷ rest) (next == GREAT) _ _ (λ n. tt) (λ n. less_alone h)))

  great_stands : (left : ℕ) (front : List ℕ) → (byte == GREAT) ≡ true → unspliced rest ≡ front → StandsAt (byte ∷ rest) (great_at left rest front)
  great_stands left [] h e = alone op.Great GREAT refl h (ap (continues GREAT) e)
  great_stands left (next ∷ behind) h e =
      StandsAt-if (byte ∷ rest) (next == GREAT) _ _ (λ k. pair op.DGreat GREAT GREAT next behind refl h e k)
      (λ k. StandsAt-if (byte ∷ rest) (next == PIPE) _ _ (λ m. tt)
      (λ m. StandsAt-if (byte ∷ rest) (next == AND) _ _
      (λ n. StandsAt-if (byte ∷ rest) (is_target (unspliced (behind_run is_blank behind))) _ _ (λ p. pair op.GreatAnd GREAT AND next behind refl h e n) (λ p. tt))
      (λ n. alone op.Great GREAT refl h (ap (continues GREAT) e ∙ (simp (k, n))))))

  delimiter_stands : ends_word byte ≡ true → StandsAt (byte ∷ rest) (delimiter byte rest)
  unfolding ends_word
  delimiter_stands delimits =
      StandsAt-if (byte ∷ rest) (byte == NEWLINE) _ _ (λ h. one NEWLINE h)
      (λ a. StandsAt-if (byte ∷ rest) (byte == AND) _ _ (λ h. and_stands (length rest + 1) (unspliced rest) h refl)
      (λ b. StandsAt-if (byte ∷ rest) (byte == PIPE) _ _ (λ h. pipe_stands (unspliced rest) h refl)
      (λ c. StandsAt-if (byte ∷ rest) (byte == SEMI) _ _ (λ h. semi_stands (length rest + 1) (unspliced rest) h)
      (λ d. StandsAt-if (byte ∷ rest) (byte == OPEN) _ _ (λ h. alone op.Open OPEN refl h (never OPEN (λ next. refl) (unspliced rest)))
      (λ e. StandsAt-if (byte ∷ rest) (byte == CLOSE) _ _ (λ h. alone op.Close CLOSE refl h (never CLOSE (λ next. refl) (unspliced rest)))
      (λ f. StandsAt-if (byte ∷ rest) (byte == LESS) _ _ (λ h. less_stands (length rest + 1) (unspliced rest) h)
      (λ g. StandsAt-if (byte ∷ rest) (byte == GREAT) _ _ (λ h. great_stands (length rest + 1) (unspliced rest) h refl)
      (λ h. at_blank (is_left (is_blank byte) (simp (a, b, c, d, e, f, g, h) at delimits))))))))))
    where
      is_left : (test : Bool) → (test || false || false || false || false || false || false || false || false) ≡ true → test ≡ true
      is_left true h = refl
      is_left false h = h

  number_stands : (digit left : ℕ) (single : Bool) (end front : List ℕ) → end ≡ behind_run is_ascii_digit (byte ∷ rest)
      → unspliced end ≡ front → begins_word (byte ∷ rest) ≡ true → StandsAt (byte ∷ rest) (number_at digit left single end front)
  number_stands digit left single end [] all e w = w
  number_stands digit left single end (next ∷ behind) all e w =
      StandsAt-if (byte ∷ rest) (next == LESS) _ _
      (λ k. StandsAt-if (byte ∷ rest) (fits_less digit single (unspliced behind)) _ _
      (λ m. (all, before_sign end next behind e (or_left (next == LESS) (next == GREAT) k))) (λ m. tt))
      (λ k. StandsAt-if (byte ∷ rest) (next == GREAT) _ _
      (λ m. StandsAt-if (byte ∷ rest) (fits_great digit single (unspliced behind)) _ _
      (λ n. (all, before_sign end next behind e (or_right (next == LESS) (next == GREAT) m))) (λ n. tt))
      (λ m. w))

  front_stands : StandsAt (byte ∷ rest) (lexeme_at (byte ∷ rest))
  front_stands =
      StandsAt-if (byte ∷ rest) (ends_word byte) _ _ (λ h. delimiter_stands h)
      (λ k. StandsAt-if (byte ∷ rest) (byte == HASH) _ _
      (λ h. subst (λ x. GapAt (x ∷ rest) (behind_comment rest)) (sym (is_byte byte HASH h)) (at_comment rest))
      (λ m. StandsAt-if (byte ∷ rest) (is_ascii_digit byte) _ _
      (λ h. number_stands byte (length rest + 1) (length (behind_run is_ascii_digit rest) == length rest) (behind_run is_ascii_digit rest)
      (unspliced (behind_run is_ascii_digit rest)) (sym (behind_run-byte is_ascii_digit byte rest (byte ∷ rest) begins h)) refl (simp (k, m)))
      (λ n. simp (k, m))))

-- the word of a token
abbrev IsWordPart : Construct → Type 0
IsWordPart (part.Commands nest None spot.Begin) = Unit {0}
IsWordPart (part.Commands nest None spot.Name) = Unit {0}
IsWordPart (part.Commands nest None spot.ValueBegin) = Unit {0}
IsWordPart (part.Commands nest None spot.Value) = Unit {0}
IsWordPart (part.Commands nest None spot.Elsewhere) = Unit {0}
IsWordPart _ = ⊥

-- it goes on as a word, and ends where no word goes on
abbrev EndsWord : Act → Type 0
EndsWord (goes next rest) = IsWordPart next
EndsWord (enters inner outer rest) = IsWordPart outer
EndsWord (ends rest) = has_no_word (unspliced rest) ≡ true
EndsWord (offends fault) = Unit {0}

EndsWord-if : (test : Bool) (left right : Act) → EndsWord left → EndsWord right → EndsWord (if test then left else right)
EndsWord-if true left right l r = l
EndsWord-if false left right l r = r

IsWordPart-if : (nest : Nest) (test : Bool) (left right : Spot) → IsWordPart (part.Commands nest None left)
    → IsWordPart (part.Commands nest None right) → IsWordPart (part.Commands nest None (if test then left else right))
IsWordPart-if nest true left right l r = l
IsWordPart-if nest false left right l r = r

past_part : (nest : Nest) (at : Spot) → IsWordPart (part.Commands nest None (spot_past at))
past_part nest spot.Between = tt
past_part nest spot.Begin = tt
past_part nest spot.Name = tt
past_part nest spot.ValueBegin = tt
past_part nest spot.Value = tt
past_part nest spot.Elsewhere = tt

behind_part : (nest : Nest) (at : Spot) (byte : ℕ) → IsWordPart (part.Commands nest None (spot_behind at byte))
behind_part nest spot.Between byte = tt
behind_part nest spot.Begin byte = search (IsWordPart-if, rules)
behind_part nest spot.Name byte = search (IsWordPart-if, rules)
behind_part nest spot.ValueBegin byte = search (IsWordPart-if, rules)
behind_part nest spot.Value byte = search (IsWordPart-if, rules)
behind_part nest spot.Elsewhere byte = tt

module _ (nest : Nest) (left : ℕ) (outer : Construct) (is_word : IsWordPart outer) where
  opening_word : (inner : Construct) (rest : List ℕ) → EndsWord (opening nest left inner outer rest)
  opening_word inner rest = search (EndsWord-if, is_word, rules)

  substitution_word : (rest : List ℕ) → EndsWord (substitution nest left outer rest)
  substitution_word rest = search (EndsWord-if, opening_word, rules)

  parenthesis_word : (inner text : List ℕ) → EndsWord (parenthesis nest left outer inner text)
  parenthesis_word inner [] = substitution_word inner
  parenthesis_word inner (byte ∷ rest) = search (EndsWord-if, substitution_word, opening_word, rules)

  by_word : (what : Introduced) (quoted : Bool) (text rest : List ℕ) → EndsWord (dollar_by what nest quoted left outer text rest)
  by_word (introduced.OutOfProfile spelling) quoted text rest = tt
  by_word introduced.Braces quoted text rest = opening_word _ rest
  by_word introduced.Parenthesis quoted text rest = parenthesis_word rest (unspliced rest)
  by_word introduced.Name quoted text rest = is_word
  by_word introduced.Special quoted text rest = is_word
  by_word introduced.Nothing quoted text rest = is_word

  dollar_word : (quoted : Bool) (text front : List ℕ) → EndsWord (dollar_at nest quoted left outer text front)
  dollar_word quoted text [] = is_word
  dollar_word quoted text (byte ∷ rest) = by_word (introduced_by byte) quoted text rest

single_word : (left : ℕ) (next : Construct) (found : Option (List ℕ)) → IsWordPart next → EndsWord (single_quotes left next found)
single_word left next None h = tt
single_word left next (Some rest) h = h

at_word : (nest : Nest) (at : Spot) (byte : ℕ) (rest : List ℕ) → EndsWord (word_at nest None at byte rest)
at_word nest at byte rest =
    let past : IsWordPart (part.Commands nest None (spot_past at)) = past_part nest at in
    let behind : IsWordPart (part.Commands nest None (spot_behind at byte)) = behind_part nest at byte in
    let dollar : EndsWord (after_dollar nest false (length rest + 1) (part.Commands nest None (spot_past at)) rest)
    = dollar_word nest (length rest + 1) (part.Commands nest None (spot_past at)) past false rest (unspliced rest) in
    search (EndsWord-if, single_word, past, behind, dollar, rules) depth 12

in_word_ends : (nest : Nest) (at : Spot) (text front : List ℕ) → unspliced text ≡ front → EndsWord (in_word nest None at text front)
in_word_ends nest at text [] e = ap has_no_word e
in_word_ends nest at text (byte ∷ rest) e = by_test (ends_word byte) refl
  where
    by_test : (test : Bool) → ends_word byte ≡ test
        → EndsWord (if test then ends text else word_at nest None at byte rest)
    by_test true h = ap has_no_word e ∙ h
    by_test false h = at_word nest at byte rest

word_acts : (construct : Construct) (text : List ℕ) → IsWordPart construct → EndsWord (act construct text)
word_acts (part.Commands nest None spot.Between) text h = absurd h
word_acts (part.Commands nest None spot.Begin) text h = in_word_ends nest spot.Begin text (unspliced text) refl
word_acts (part.Commands nest None spot.Name) text h = in_word_ends nest spot.Name text (unspliced text) refl
word_acts (part.Commands nest None spot.ValueBegin) text h = in_word_ends nest spot.ValueBegin text (unspliced text) refl
word_acts (part.Commands nest None spot.Value) text h = in_word_ends nest spot.Value text (unspliced text) refl
word_acts (part.Commands nest None spot.Elsewhere) text h = in_word_ends nest spot.Elsewhere text (unspliced text) refl
word_acts (part.Commands nest (Some opened) at) text h = absurd h
word_acts part.Name text h = absurd h
word_acts (part.DoubleQuotes nest left) text h = absurd h
word_acts (part.BraceHead nest left quoted) text h = absurd h
word_acts (part.Braces nest left quoted) text h = absurd h
word_acts (part.Arithmetic nest left) text h = absurd h
word_acts (part.Parentheses nest left) text h = absurd h

word_does : (construct : Construct) (text : List ℕ) (does : Act) → act construct text ≡ does → IsWordPart construct → EndsWord does
word_does construct text does e h = subst EndsWord e (word_acts construct text h)

word_ends : {construct : Construct} {text rest : List ℕ} → IsWordPart construct → Reads construct text (past rest)
    → has_no_word (unspliced rest) ≡ true
word_ends h (goes_on {construct = construct} {next = next} {text = text} {rest = rest} e reads) =
    word_ends (word_does construct text (goes next rest) e h) reads
word_ends h (reads_inner {construct = construct} {inner = inner} {outer = outer} {text = text} {rest = rest} e inside outside) =
    word_ends (word_does construct text (enters inner outer rest) e h) outside
word_ends h (has_ended {construct = construct} {text = text} {rest = rest} e) = word_does construct text (ends rest) e h

-- removed backslash-newlines, and a comment
removed_pair : (total first second : ℕ) (text : List ℕ) (tokens : List Token) (test : Bool)
    → ((first == BACKSLASH) && (second == NEWLINE)) ≡ test → (Stand total (unspliced text) tokens → Stand total text tokens)
    → Stand total (unspliced (first ∷ second ∷ text)) tokens → Stand total (first ∷ second ∷ text) tokens
unfolding unspliced fronts
removed_pair total first second text tokens true e more stand =
    let one : first ≡ BACKSLASH = is_byte first BACKSLASH (and_left (first == BACKSLASH) (second == NEWLINE) e) in
    let two : second ≡ NEWLINE = is_byte second NEWLINE (and_right (first == BACKSLASH) (second == NEWLINE) e) in
    rw (one, two) (removed (more (simp e at stand)))
  where
    and_left : (one other : Bool) → (one && other) ≡ true → one ≡ true
    and_left true other h = refl
    and_left false other h = h

    and_right : (one other : Bool) → (one && other) ≡ true → other ≡ true
    and_right true other h = h
    and_right false other h = cc
removed_pair total first second text tokens false e more stand = simp e at stand

behind_removed : (total : ℕ) (text : List ℕ) (tokens : List Token) → Stand total (unspliced text) tokens → Stand total text tokens
unfolding unspliced fronts
behind_removed total [] tokens stand = stand
behind_removed total (first ∷ []) tokens stand = stand
behind_removed total (first ∷ second ∷ text) tokens stand =
    removed_pair total first second text tokens ((first == BACKSLASH) && (second == NEWLINE)) refl (behind_removed total text tokens) stand

-- the bytes of a comment
pub record IsComment (text : List ℕ) : Type 0 where
  pub bytes : List ℕ
  pub whole : text ≡ bytes ++ behind_comment text
  pub within : has_no_newline bytes ≡ true
  pub behind : ends_line (behind_comment text) ≡ true

comment_of : (text : List ℕ) → IsComment text
comment_of [] = record { bytes = []; whole = refl; within = refl; behind = refl }
comment_of (byte ∷ rest) = by_test (byte == NEWLINE) refl (comment_of rest)
  where
    by_test : (test : Bool) → (byte == NEWLINE) ≡ test → IsComment rest → IsComment (byte ∷ rest)
    by_test true e more = record { bytes = []; whole = simp e; within = refl; behind = simp e }
    by_test false e more = record {
      bytes = byte ∷ more.bytes;
      whole = simp e (ap (λ x. byte ∷ x) more.whole);
      within = simp e more.within;
      behind = simp e more.behind;
    }

-- what stands at a text's first byte
stands_at : (text : List ℕ) → unspliced text ≡ text → StandsAt text (lexeme_at text)
stands_at [] begins = refl
stands_at (byte ∷ rest) begins = front_stands byte rest begins

found_stands : (text : List ℕ) (found : Found) → lexeme text ≡ found → StandsAt (unspliced text) found
found_stands text found e = subst (StandsAt (unspliced text)) e (stands_at (unspliced text) (unspliced-twice text))

-- a `)` stands where the token begins
pub close_stands : (text rest : List ℕ) → lexeme text ≡ close_parenthesis rest → Spells (CLOSE ∷ []) (unspliced text) rest
close_stands text rest e = (found_stands text (close_parenthesis rest) e).0

-- what is left of a text is its end
abbrev IsEnd : List ℕ → List ℕ → Type 0
IsEnd text rest = (bytes : List ℕ) × (text ≡ bytes ++ rest)

end_kept : (text : List ℕ) → IsKept (IsEnd text)
end_kept text byte rest (bytes, e) = (bytes ++ byte ∷ [], e ∙ sym (append_assoc bytes (byte ∷ []) rest))

found_end : (text : List ℕ) (found : Found) → lexeme text ≡ found → KeepsBehind (IsEnd (unspliced text)) found
found_end text found e =
    subst (KeepsBehind (IsEnd (unspliced text))) (begins_same text ∙ e)
    (lexeme-kept (IsEnd (unspliced text)) (end_kept (unspliced text)) (unspliced text) ([], refl))

gap_stands : (total : ℕ) (text rest : List ℕ) (tokens : List Token) → GapAt text rest → Stand total rest tokens → Stand total text tokens
gap_stands total [] rest tokens is stand = elim is [ ]
gap_stands total (byte ∷ rest) _ tokens (at_blank is) stand = blank is stand
gap_stands total (byte ∷ rest) _ tokens (at_comment _) stand =
    let found = comment_of rest in
    subst (λ text. Stand total (HASH ∷ text) tokens) (sym found.whole) (comment found.bytes (behind_comment rest) found.within found.behind stand)

token_stands : (total : ℕ) (kind : TokenKind) (text rest : List ℕ) (tokens : List Token) → IsLongest kind text rest → IsEnd text rest
    → Stand total rest tokens
    → Stand total text (record { kind = kind; from = total - length text; to = total - length rest } ∷ tokens)
token_stands total kind text rest tokens longest (bytes, e) stand =
    subst (λ text. Stand total text (record { kind = kind; from = total - length text; to = total - length rest } ∷ tokens)) (sym e)
    (one_token {kind = kind} bytes rest (subst (λ text. IsLongest kind text rest) e longest) stand)

abbrev StandsTo : ℕ → List ℕ → Result (List Token) Fault → Type 0
StandsTo total text (Ok tokens) = Stand total text tokens
StandsTo total text (Err fault) = Unit {0}

token_first : (total : ℕ) (kind : TokenKind) (text rest : List ℕ) (end : Result (List Token) Fault)
    → IsLongest kind (unspliced text) rest → IsEnd (unspliced text) rest → StandsTo total rest end
    → StandsTo total text (after_token (token_between total kind text rest) end)
token_first total kind text rest (Ok tokens) longest is stand =
    behind_removed total text (token_between total kind text rest ∷ tokens) (token_stands total kind (unspliced text) rest tokens longest is stand)
token_first total kind text rest (Err fault) longest is stand = tt

gap_first : (total : ℕ) (text rest : List ℕ) (end : Result (List Token) Fault) → GapAt (unspliced text) rest → StandsTo total rest end
    → StandsTo total text end
gap_first total text rest (Ok tokens) is stand = behind_removed total text tokens (gap_stands total (unspliced text) rest tokens is stand)
gap_first total text rest (Err fault) is stand = tt

word_end : (text rest : List ℕ) → lexeme text ≡ word → Reads one_word text (past rest) → IsEnd (unspliced text) rest
word_end text rest e reads =
    Reads-kept (IsEnd (unspliced text)) (end_kept (unspliced text)) ([], refl) (word_again text rest e reads)

module _ {total : ℕ} where
  stand : {text : List ℕ} {end : Result (List Token) Fault} → Tokens total text end → StandsTo total text end
  stand (no_token {text = text} e) =
      behind_removed total text [] (subst (λ front. Stand total front []) (sym (found_stands text nothing e)) at_end)
  stand (skips {text = text} {rest = rest} {end = end} e more) =
      gap_first total text rest end (found_stands text (gap rest) e) (stand more)
  stand (opens {text = text} {rest = rest} {end = end} e more) =
      token_first total (kind.Op op.Open) text rest end (found_stands text (open_parenthesis rest) e) (found_end text (open_parenthesis rest) e) (stand more)
  stand (closes {text = text} {rest = rest} {end = end} e more) =
      token_first total (kind.Op op.Close) text rest end (found_stands text (close_parenthesis rest) e) (found_end text (close_parenthesis rest) e) (stand more)
  stand (takes {text = text} {rest = rest} {kind = kind} {end = end} e more) =
      token_first total kind text rest end (found_stands text (token kind rest) e) (found_end text (token kind rest) e) (stand more)
  stand (takes_word {text = text} {rest = rest} {end = end} e reads more) =
      token_first total kind.Word text rest end (found_stands text word e, word_ends tt reads) (word_end text rest e reads) (stand more)
  stand (refused_word e reads) = tt
  stand (refused_token e) = tt

pub tokens_stand : (text : List ℕ) (tokens : List Token) → Lexes text tokens → Stand (length text) text tokens
tokens_stand text tokens lexes = stand lexes.read
