-- Words of a text, and the tokens that it is made of.
use Rattle.std.proofs.Common.{◌≡◌, ℕ, ◌-◌, ◌<◌, ◌≤◌, Bool, true, false, List, [], ◌∷◌, ◌++◌, length, take, map, Some, None, Option, Bor, nat_eq, refl, sym, ap, ◌∙◌, subst, arith, length-append}
use Rattle.std.proofs.lemmas.List.{take_at, append_assoc, append-nil, map-append, nil_from_length}
use Rattle.std.specs.Option.{IfSome}
use Rattle.std.proofs.lemmas.Bool.Decides.{nat_tests}
use Rattle.std.proofs.lemmas.Bool.{eqb-true}
use Rattle.sh_arith.specs.declared.tokens.Token as code
use Rattle.ps_lines.specs.Bytes.{is_name_byte, is_white_space}
use Rattle.sh_arith.specs.Tokens.{Token, meaning, word, past_word, past_blanks, next_token, Lexes, no_token, one_token}

word_goes_on : (named : Bool) (byte : ℕ) (rest : List ℕ) → is_name_byte byte ≡ named → word rest ++ past_word rest ≡ rest → word (byte ∷ rest) ++ past_word (byte ∷ rest) ≡ byte ∷ rest
word_goes_on true byte rest h more = rw h (ap (λ l. byte ∷ l) more)
word_goes_on false byte rest h more = rw h refl

-- a text is its longest word and what follows it
pub word_and_rest : (text : List ℕ) → word text ++ past_word text ≡ text
word_and_rest [] = refl
word_and_rest (byte ∷ rest) = word_goes_on (is_name_byte byte) byte rest refl (word_and_rest rest)

pub word_taken : (text rest : List ℕ) → rest ≡ past_word text → take (length text - length rest) text ≡ word text
word_taken text rest same =
    let whole = word_and_rest text in
    let long : length (word text) ≡ length text - length rest = omega (arith, length-append (word text) (past_word text), ap length whole, ap length same) in
    ap (take (length text - length rest)) (sym whole) ∙ take_at (word text) (past_word text) (length text - length rest) long

past_named : (named : Bool) (byte : ℕ) (rest : List ℕ) → is_name_byte byte ≡ named → length (past_word rest) ≤ length rest → length (past_word (byte ∷ rest)) ≤ length (byte ∷ rest)
past_named true byte rest h more = rw h (omega arith)
past_named false byte rest h more = rw h (omega arith)

past_word_within : (text : List ℕ) → length (past_word text) ≤ length text
past_word_within [] = omega arith
past_word_within (byte ∷ rest) = past_named (is_name_byte byte) byte rest refl (past_word_within rest)

pub past_first : (byte : ℕ) (rest : List ℕ) → is_name_byte byte ≡ true → length (past_word (byte ∷ rest)) < length (byte ∷ rest)
past_first byte rest named = let within = past_word_within rest in rw named (omega arith)

-- where the text begins with a word, what follows it is shorter
pub word_shorter : (result : Option (code.Token × Bor (List ℕ))) (text left rest : List ℕ) (byte : ℕ) → IfSome result (λ r. r.1.now ≡ left) → left ≡ past_word text → text ≡ byte ∷ rest → is_name_byte byte ≡ true → IfSome result (λ r. length r.1.now < length text)
word_shorter None text left rest byte same past cut named = same
word_shorter (Some r) text left rest byte same past cut named =
    let shorter = past_first byte rest named in
    let here : length (past_word text) < length text = subst (λ t. length (past_word t) < length t) (sym cut) shorter in
    omega (arith, ap length (same ∙ past))

past_again : (blank : Bool) (byte : ℕ) (rest : List ℕ) → is_white_space byte ≡ blank → past_blanks (past_blanks rest) ≡ past_blanks rest → past_blanks (past_blanks (byte ∷ rest)) ≡ past_blanks (byte ∷ rest)
past_again true byte rest h more = rw h more
past_again false byte rest h more = rw h (rw h refl)

past_blanked : (blank : Bool) (byte : ℕ) (rest : List ℕ) → is_white_space byte ≡ blank → length (past_blanks rest) ≤ length rest → length (past_blanks (byte ∷ rest)) ≤ length (byte ∷ rest)
past_blanked true byte rest h more = rw h (omega arith)
past_blanked false byte rest h more = rw h (omega arith)

pub past_blanks_within : (text : List ℕ) → length (past_blanks text) ≤ length text
past_blanks_within [] = omega arith
past_blanks_within (byte ∷ rest) = past_blanked (is_white_space byte) byte rest refl (past_blanks_within rest)

-- white space is passed at once
pub past_blanks_twice : (text : List ℕ) → past_blanks (past_blanks text) ≡ past_blanks text
past_blanks_twice [] = refl
past_blanks_twice (byte ∷ rest) = past_again (is_white_space byte) byte rest refl (past_blanks_twice rest)

pub blanks_before : {text : List ℕ} {list : List Token} → Lexes (past_blanks text) list → Lexes text list
blanks_before {text} (no_token end) = no_token (sym (past_blanks_twice text) ∙ end)
blanks_before {text} (one_token {rest = rest} {token = token} first more) = one_token (ap next_token (sym (past_blanks_twice text)) ∙ first) more

pub blanks_after : {text : List ℕ} {list : List Token} → Lexes text list → Lexes (past_blanks text) list
blanks_after {text} (no_token end) = no_token (past_blanks_twice text ∙ end)
blanks_after {text} (one_token first more) = one_token (ap next_token (past_blanks_twice text) ∙ first) more

same_rest : {t u : Token} {m n : List ℕ} → ◌≡◌ {A = Option (Token × List ℕ)} (Some (t, m)) (Some (u, n)) → m ≡ n
same_rest {t} {u} {m} {n} e = let pair : ◌≡◌ {A = Token × List ℕ} (t, m) (u, n) = cc in ap (λ (p : Token × List ℕ). p.1) pair

-- a text that is made of tokens goes on with the rest of them
pub rest_lexes : {text rest : List ℕ} {token : Token} {list : List Token} → past_blanks text ≡ text → next_token text ≡ Some (token, rest) → Lexes text list → (others : List Token) × Lexes rest others
rest_lexes {text} {rest} {token} blank next (no_token end) = let k : next_token [] ≡ Some (token, rest) = subst (λ t. next_token t ≡ Some (token, rest)) (sym blank ∙ end) next in absurd cc
rest_lexes blank next (one_token {tokens = others} first more) =
    (others, subst (λ t. Lexes t others) (same_rest (sym first ∙ ap next_token blank ∙ next)) more)

-- a text without a token at its beginning is made of none
pub no_tokens : {text : List ℕ} → past_blanks text ≡ text → nat_eq (length text) 0 ≡ false → next_token text ≡ None → (list : List Token) → Lexes text list → ⊥
no_tokens {text} blank some none list (no_token end) = let empty : length text ≡ 0 = ap length (sym blank ∙ end) in grind (arith, nat_tests)
no_tokens blank some none list (one_token first more) = let same = ap next_token blank in cc

pub more_tokens : {start text rest : List ℕ} {found : List code.Token} (token : code.Token) (before : List code.Token) → ((others : List Token) → Lexes text others → Lexes start (map meaning before ++ others)) → found ≡ before ++ token ∷ [] → past_blanks text ≡ text → next_token text ≡ Some (meaning token, rest) → (others : List Token) → Lexes (past_blanks rest) others → Lexes start (map meaning found ++ others)
more_tokens {start} token before read e blank next others lexes =
    subst (Lexes start) (sym (append_assoc (map meaning before) (meaning token ∷ []) others) ∙ ap (λ l. l ++ others) (sym (map-append meaning before (token ∷ []))) ∙ ap (λ l. map meaning l ++ others) (sym e))
    (read (meaning token ∷ others) (one_token (ap next_token blank ∙ next) (blanks_before lexes)))

pub all_tokens : {start text : List ℕ} (found : List code.Token) → ((others : List Token) → Lexes text others → Lexes start (map meaning found ++ others)) → nat_eq (length text) 0 ≡ true → Lexes start (map meaning found)
all_tokens {start} {text} found read empty =
    let none : text ≡ [] = nil_from_length text (eqb-true _ _ empty) in
    subst (Lexes start) (append-nil (map meaning found)) (read [] (no_token (ap past_blanks none)))
