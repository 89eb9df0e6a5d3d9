-- A text has an outcome.
use Rattle.std.proofs.Common.{if◌then◌else◌, ◌≡◌, ◌⊎◌, inl, inr, ℕ, zero, suc, ◌<◌, ◌≤◌, Bool, true, false, List, [], ◌∷◌, length, Option, Some, None, Ok, Err, pos, refl, sym, ap, ◌∙◌, subst, arith}
use Rattle.std.specs.Option.{option_map}
use Rattle.std.specs.Char.{is_ascii_digit}
use Rattle.std.proofs.lemmas.Bool.{cases_lt}
use Rattle.sh_arith.specs.declared.faults.ArithFault.TheVariants.{Syntax, Deep}
use Rattle.sh_arith.specs.declared.syntax.Expected.TheVariants as expected
use Rattle.sh_arith.specs.declared.tokens.Symbol.{Symbol}
use Rattle.sh_arith.specs.Constants.{constant}
use Rattle.ps_lines.specs.Bytes.{is_name_byte}
use Rattle.sh_arith.specs.Tokens.{Token, number, name, mark, past_blanks, word, past_word, double, single, longest, symbol_at, worded, next_token, Lexes, no_token, one_token}
use Rattle.sh_arith.specs.Trees.{Tree}
use Rattle.sh_arith.specs.Syntax.{accepts}
use Rattle.sh_arith.specs.Variables.{Variables}
use Rattle.sh_arith.specs.Levels.{levels}
use Rattle.sh_arith.specs.Values.{Outcome, evaluate}
use Rattle.sh_arith.specs.Arithmetic.{Writes, HasOutcome, blank, no_expression, too_deep, evaluated}
use Rattle.sh_arith.proofs.TokenLemmas.{past_first, past_blanks_within}
use Rattle.sh_arith.proofs.ReadLemmas.{accepted_exactly}
use Rattle.sh_arith.proofs.OutcomeLemmas.{first_token, unread_outcome}

-- what a token leaves is shorter
abbrev Leaves : List ℕ → Option (Token × List ℕ) → Type 0
Leaves left found = (token : Token) (rest : List ℕ) → found ≡ Some (token, rest) → rest ≡ left

mapped_leaves : {A : Type 0} (told : Option A) (token : A → Token) (left : List ℕ) → Leaves left (option_map (λ a. (token a, left)) told)
mapped_leaves None token left t rest e = cc
mapped_leaves (Some a) token left t rest e = sym (first_token e).1

if_leaves : (test : Bool) (one other : Option (Token × List ℕ)) (left : List ℕ) → Leaves left one → Leaves left other → Leaves left (if test then one else other)
if_leaves true one other left h k = h
if_leaves false one other left h k = k

worded_leaves : (found left : List ℕ) → Leaves left (worded found left)
worded_leaves [] left = λ t rest e. cc
worded_leaves (first ∷ more) left =
    if_leaves (is_ascii_digit first) (option_map (λ n. (number (first ∷ more), left)) (constant (first ∷ more))) (Some (name (first ∷ more), left)) left
    (mapped_leaves (constant (first ∷ more)) (λ n. number (first ∷ more)) left)
    (λ t rest e. sym (first_token e).1)

abbrev Shorter : List ℕ → Option (Token × List ℕ) → Type 0
Shorter text found = (token : Token) (rest : List ℕ) → found ≡ Some (token, rest) → length rest ≤ length text

marked_shorter : (told : Option (Symbol × List ℕ)) (text : List ℕ) → ((sign : Symbol) (left : List ℕ) → told ≡ Some (sign, left) → length left ≤ length text) → Shorter text (option_map (λ s. (mark s.0, s.1)) told)
marked_shorter None text h t rest e = cc
marked_shorter (Some s) text h t rest e = omega (arith, h s.0 s.1 refl, ap length (first_token e).1)

same_left : {s u : Symbol} {m n : List ℕ} → ◌≡◌ {A = Option (Symbol × List ℕ)} (Some (s, m)) (Some (u, n)) → m ≡ n
same_left {s} {u} {m} {n} e = let pair : ◌≡◌ {A = Symbol × List ℕ} (s, m) (u, n) = cc in ap (λ (p : Symbol × List ℕ). p.1) pair

single_left : (told : Option Symbol) (text : List ℕ) (sign : Symbol) (left : List ℕ) → option_map {U = Symbol × List ℕ} (λ symbol. (symbol, text)) told ≡ Some (sign, left) → text ≡ left
single_left None text sign left e = cc
single_left (Some s) text sign left e = same_left e

longest_left : (told : Option Symbol) (first second : ℕ) (more : List ℕ) (sign : Symbol) (left : List ℕ) → longest first (second ∷ more) second more told ≡ Some (sign, left) → length left ≤ length (second ∷ more)
longest_left (Some s) first second more sign left e = omega (arith, ap length (same_left e))
longest_left None first second more sign left e = omega (arith, ap length (single_left (single first) (second ∷ more) sign left e))

symbol_left : (first : ℕ) (text : List ℕ) (sign : Symbol) (left : List ℕ) → symbol_at first text ≡ Some (sign, left) → length left ≤ length text
symbol_left first [] sign left e = omega (arith, ap length (single_left (single first) [] sign left e))
symbol_left first (second ∷ more) sign left e = longest_left (double first second) first second more sign left e

then_taken : {A : Type 0} (test : Bool) (one other found : A) → test ≡ true → (if test then one else other) ≡ found → one ≡ found
then_taken true one other found h e = e
then_taken false one other found h e = cc

else_taken : {A : Type 0} (test : Bool) (one other found : A) → test ≡ false → (if test then one else other) ≡ found → other ≡ found
else_taken true one other found h e = cc
else_taken false one other found h e = e

abbrev as_word : ℕ → List ℕ → Option (Token × List ℕ)
as_word first text = worded (word (first ∷ text)) (past_word (first ∷ text))

abbrev as_symbol : ℕ → List ℕ → Option (Token × List ℕ)
as_symbol first text = option_map (λ (s : Symbol × List ℕ). (mark s.0, s.1)) (symbol_at first text)

next_shorter_as : (named : Bool) (first : ℕ) (text : List ℕ) → is_name_byte first ≡ named → (token : Token) (rest : List ℕ) → next_token (first ∷ text) ≡ Some (token, rest) → length rest < length (first ∷ text)
next_shorter_as true first text is token rest e =
    let left = worded_leaves (word (first ∷ text)) (past_word (first ∷ text)) token rest (then_taken (is_name_byte first) (as_word first text) (as_symbol first text) (Some (token, rest)) is e) in
    omega (arith, ap length left, past_first first text is)
next_shorter_as false first text is token rest e =
    let within = marked_shorter (symbol_at first text) text (symbol_left first text) token rest (else_taken (is_name_byte first) (as_word first text) (as_symbol first text) (Some (token, rest)) is e) in
    omega (arith, within)

next_shorter : (text : List ℕ) (token : Token) (rest : List ℕ) → next_token text ≡ Some (token, rest) → length rest < length text
next_shorter [] token rest e = cc
next_shorter (first ∷ text) token rest e = next_shorter_as (is_name_byte first) first text refl token rest e

-- a text is made of tokens or isn't
abbrev Lexed : List ℕ → Type 0
Lexed text = ((list : List Token) × Lexes text list) ⊎ ((list : List Token) → Lexes text list → ⊥)

not_more : (text : List ℕ) (token : Token) (rest : List ℕ) → next_token (past_blanks text) ≡ Some (token, rest) → ((list : List Token) → Lexes rest list → ⊥) → (list : List Token) → Lexes text list → ⊥
not_more text token rest next bad list (no_token end) = let none = ap next_token end in cc
not_more text token rest next bad list (one_token {tokens = others} first more) = bad others (subst (λ l. Lexes l others) (first_token (sym first ∙ next)).1 more)

not_here : (text : List ℕ) (byte : ℕ) (more : List ℕ) → past_blanks text ≡ byte ∷ more → next_token (past_blanks text) ≡ None → (list : List Token) → Lexes text list → ⊥
not_here text byte more some next list (no_token end) = cc
not_here text byte more some next list (one_token first rest) = cc

lexed_end : (text here : List ℕ) → past_blanks text ≡ here → next_token (past_blanks text) ≡ None → Lexed text
lexed_end text [] e next = inl ([], no_token e)
lexed_end text (byte ∷ more) e next = inr (not_here text byte more e next)

lexed_more : (text : List ℕ) (token : Token) (rest : List ℕ) → next_token (past_blanks text) ≡ Some (token, rest) → Lexed rest → Lexed text
lexed_more text token rest next (inl more) = inl (token ∷ more.0, one_token next more.1)
lexed_more text token rest next (inr bad) = inr (λ list x. not_more text token rest next bad list x)

lexed_from : (text : List ℕ) (found : Option (Token × List ℕ)) → next_token (past_blanks text) ≡ found → ((token : Token) (rest : List ℕ) → found ≡ Some (token, rest) → Lexed rest) → Lexed text
lexed_from text (Some found) next more = lexed_more text found.0 found.1 next (more found.0 found.1 refl)
lexed_from text None next more = lexed_end text (past_blanks text) refl next

lexed : (bound : ℕ) (text : List ℕ) → length text < bound → Lexed text
lexed zero text h = absurd (omega arith)
lexed (suc bound) text h =
    lexed_from text (next_token (past_blanks text)) refl (λ token rest e. lexed bound rest (omega (arith, next_shorter (past_blanks text) token rest e, past_blanks_within text)))

-- what is read has an outcome
written_outcome : (text : List ℕ) (variables : Variables) (tree : Tree) → Writes text tree → (outcome : Outcome) × HasOutcome text variables outcome
written_outcome text variables tree w =
    elim (cases_lt 64 (levels tree)) [
      | inl deep ↦ ((Err Deep, variables), too_deep w deep)
      | inr few ↦ (evaluate tree variables, evaluated w few refl)
    ]

accepted_outcome : (text : List ℕ) (variables : Variables) (token : Token) (list : List Token) (holds : Bool) → Lexes text (token ∷ list) → accepts expected.Anything [] (token ∷ list) ≡ holds → (outcome : Outcome) × HasOutcome text variables outcome
accepted_outcome text variables token list true x is =
    let read = (accepted_exactly (token ∷ list) true (sym is)).0 refl in
    written_outcome text variables read.0 record { tokens = token ∷ list; lexed = x; read = read.1 }
accepted_outcome text variables token list false x is =
    ((Err Syntax, variables), unread_outcome text variables (token ∷ list) false x (λ e. cc) (accepted_exactly (token ∷ list) false (sym is)).1 refl)

lexed_outcome : (text : List ℕ) (variables : Variables) → Lexed text → (outcome : Outcome) × HasOutcome text variables outcome
lexed_outcome text variables (inl ([], x)) = ((Ok (pos 0), variables), blank x)
lexed_outcome text variables (inl (token ∷ list, x)) = accepted_outcome text variables token list (accepts expected.Anything [] (token ∷ list)) x refl
lexed_outcome text variables (inr bad) = ((Err Syntax, variables), no_expression (bad []) (λ tree w. bad w.tokens w.lexed))

pub some_outcome : (text : List ℕ) (variables : Variables) → (outcome : Outcome) × HasOutcome text variables outcome
some_outcome text variables = lexed_outcome text variables (lexed (suc (length text)) text (omega arith))
