-- A text has one outcome at most.
use Rattle.std.proofs.Common.{◌≡◌, ◌⊎◌, inl, inr, Bool, true, false, None, Result, Bor, ℕ, ◌<◌, ◌≤◌, List, [], ◌∷◌, ◌++◌, refl, sym, ap, ◌∙◌, subst, arith, Some, Option, pos, Ok, Err, map, length, nat_eq}
use Rattle.std.specs.Result.{IsErrAnd, IfErr, MatchResult}
use Rattle.std.specs.Option.{IfSome, is_some}
use Rattle.std.proofs.lemmas.Bool.{false≢true, eqb-true}
use Rattle.std.proofs.lemmas.List.{nil_from_length}
use Rattle.sh_arith.specs.declared.evaluation.Evaluated.{Evaluated}
use Rattle.sh_arith.specs.declared.tokens.Token as code
use Rattle.sh_arith.specs.declared.faults.ArithFault.{ArithFault}
use Rattle.sh_arith.specs.declared.faults.ArithFault.TheVariants.{Syntax, Deep, Memory}
use Rattle.sh_arith.specs.declared.tokens.Symbol.TheVariants as symbol
use Rattle.sh_arith.specs.Tokens.{Token, meaning, mark, Lexes, no_token, one_token, next_token}
use Rattle.sh_arith.specs.Trees.{Tree, constant, variable, parenthesized, prefixed, binary, conditional, assignment, spelled, Reads}
use Rattle.sh_arith.specs.Variables.{Variables}
use Rattle.sh_arith.specs.Levels.{levels, Measures}
use Rattle.sh_arith.specs.Values.{Outcome, evaluate, Reaches}
use Rattle.sh_arith.specs.Parsing.{IsAny}
use Rattle.sh_arith.specs.Evaluation.{Ends}
use Rattle.sh_arith.specs.Arithmetic.{IsUnderWay, Writes, HasOutcome, blank, no_expression, too_deep, evaluated}
use Rattle.sh_arith.proofs.UniqueLemmas.{one_tree}
use Rattle.sh_arith.proofs.ParsingLemmas.{reads_any}

pub first_token : {t u : Token} {m n : List ℕ} → ◌≡◌ {A = Option (Token × List ℕ)} (Some (t, m)) (Some (u, n)) → (t ≡ u) × (m ≡ n)
first_token {t} {u} {m} {n} e =
    let pair : ◌≡◌ {A = Token × List ℕ} (t, m) (u, n) = cc in
    (ap (λ (p : Token × List ℕ). p.0) pair, ap (λ (p : Token × List ℕ). p.1) pair)

-- a text is made of one list of tokens at most
pub one_list : {text : List ℕ} {list other : List Token} → Lexes text list → Lexes text other → list ≡ other
one_list (no_token end) (no_token also) = refl
one_list (no_token end) (one_token first more) = let none = ap next_token end in cc
one_list (one_token first more) (no_token end) = let none = ap next_token end in cc
one_list (one_token {token = token} {tokens = tokens} first more) (one_token {token = next} {tokens = others} also rest) =
    let same = first_token (sym first ∙ also) in
    let tail = one_list more (subst (λ l. Lexes l others) (sym same.1) rest) in
    ap (λ t. t ∷ tokens) same.0 ∙ ap (λ l. next ∷ l) tail

pub one_written : (text : List ℕ) (tree other : Tree) → Writes text tree → Writes text other → tree ≡ other
one_written text tree other x y = one_tree x.tokens tree other x.read (subst (λ l. Reads l other) (one_list y.lexed x.lexed) y.read)

-- an expression has a token
some_appended : (front : List Token) (token : Token) (rest : List Token) → ◌≡◌ {A = List Token} [] (front ++ token ∷ rest) → ⊥
some_appended [] token rest e = cc
some_appended (first ∷ front) token rest e = cc

none_spelled : (tree : Tree) → ◌≡◌ {A = List Token} [] (spelled tree) → ⊥
none_spelled (constant word) e = cc
none_spelled (variable word) e = cc
none_spelled (parenthesized inner) e = cc
none_spelled (prefixed operator inner) e = cc
none_spelled (binary o left right) e = some_appended (spelled left) (mark (symbol.Operator o)) (spelled right) e
none_spelled (conditional condition chosen other) e = some_appended (spelled condition) (mark symbol.Question) (spelled chosen ++ mark symbol.Colon ∷ spelled other) e
none_spelled (assignment word value) e = cc

pub blank_writes_none : {text : List ℕ} {tree : Tree} → Lexes text [] → Writes text tree → ⊥
blank_writes_none {tree = tree} none x = none_spelled tree (one_list none x.lexed ∙ x.read.0)

pub one_outcome : (text : List ℕ) (variables : Variables) (outcome other : Outcome) → HasOutcome text variables outcome → HasOutcome text variables other → outcome ≡ other
one_outcome text variables outcome other (blank none) (blank also) = refl
one_outcome text variables outcome other (blank none) (no_expression some bad) = absurd (some none)
one_outcome text variables outcome other (blank none) (too_deep x deep) = absurd (blank_writes_none none x)
one_outcome text variables outcome other (blank none) (evaluated x small e) = absurd (blank_writes_none none x)
one_outcome text variables outcome other (no_expression some bad) (blank none) = absurd (some none)
one_outcome text variables outcome other (no_expression some bad) (no_expression also worse) = refl
one_outcome text variables outcome other (no_expression some bad) (too_deep {tree = tree} x deep) = absurd (bad tree x)
one_outcome text variables outcome other (no_expression some bad) (evaluated {tree = tree} x small e) = absurd (bad tree x)
one_outcome text variables outcome other (too_deep x deep) (blank none) = absurd (blank_writes_none none x)
one_outcome text variables outcome other (too_deep {tree = tree} x deep) (no_expression some bad) = absurd (bad tree x)
one_outcome text variables outcome other (too_deep x deep) (too_deep y also) = refl
one_outcome text variables outcome other (too_deep {tree = tree} x deep) (evaluated {tree = next} y small e) = absurd (omega (arith, ap levels (one_written text tree next x y)))
one_outcome text variables outcome other (evaluated x small e) (blank none) = absurd (blank_writes_none none x)
one_outcome text variables outcome other (evaluated {tree = tree} x small e) (no_expression some bad) = absurd (bad tree x)
one_outcome text variables outcome other (evaluated {tree = tree} x small e) (too_deep {tree = next} y deep) = absurd (omega (arith, ap levels (one_written text tree next x y)))
one_outcome text variables outcome other (evaluated {tree = tree} x small e) (evaluated {tree = next} y also f) = sym e ∙ ap (λ t. evaluate t variables) (one_written text tree next x y) ∙ f

-- a fault that `?` hands on
pub handed_fault : {T : Type 0} (P : ArithFault → Type 0) (result : Result T ArithFault) (fault : ArithFault) → IsErrAnd result (λ told. told ≡ fault) → P fault → IfErr result P
handed_fault P (Ok value) fault handed p = tt
handed_fault P (Err told) fault handed p = subst P (sym handed) p

-- no tokens
pub blank_outcome : (text : List ℕ) (old : Variables) (items : List code.Token) → Lexes text (map meaning items) → nat_eq (length items) 0 ≡ true → HasOutcome text old (Ok (pos 0), old)
blank_outcome text old items lexed none = blank (subst (λ (l : List code.Token). Lexes text (map meaning l)) (nil_from_length items (eqb-true _ _ none)) lexed)

pub some_tokens : (items : List code.Token) → nat_eq (length items) 0 ≡ false → map meaning items ≡ [] → ⊥
some_tokens [] some e = cc
some_tokens (first ∷ items) some e = cc

-- a text that isn't made of tokens
pub unlexed_fault : (text : List ℕ) (old : Variables) (fault : ArithFault) → (fault ≡ Memory) ⊎ ((fault ≡ Syntax) × ((list : List Token) → Lexes text list → ⊥)) → HasOutcome text old (Err fault, old) ⊎ ((fault ≡ Memory) × IsUnderWay text old old)
unlexed_fault text old fault (inl is) = inr (is, inl refl)
unlexed_fault text old fault (inr told) = inl (subst (λ f. HasOutcome text old (Err f, old)) (sym told.0) (no_expression (told.1 []) (λ tree x. told.1 x.tokens x.lexed)))

-- a text whose tokens are no expression
pub unread_outcome : (text : List ℕ) (old : Variables) (list : List Token) (holds : Bool) → Lexes text list → (list ≡ [] → ⊥) → (((tree : Tree) × Reads list tree) → holds ≡ true) → holds ≡ false → HasOutcome text old (Err Syntax, old)
unread_outcome text old list holds lexed some read bad = no_expression (λ none. some (one_list lexed none)) (λ tree x. false≢true (sym bad ∙ read (tree, subst (λ l. Reads l tree) (one_list x.lexed lexed) x.read)))

-- what the tokens are read as
pub written : {text : List ℕ} {list : List Token} → Lexes text list → ((tree : Tree) × Reads list tree) → (tree : Tree) × Writes text tree × IsAny list tree []
written {list = list} lexed read = (read.0, record { tokens = list; lexed = lexed; read = read.1 }, reads_any list read.0 read.1)

deeper : (result : Option (ℕ × Bor (List code.Token))) (number : ℕ) (rest : List Token) → Measures 64 number rest result → is_some result ≡ false → 64 < number
deeper None number rest measured none = measured
deeper (Some found) number rest measured none = cc

pub deep_outcome : {text : List ℕ} {list : List Token} (old : Variables) (result : Option (ℕ × Bor (List code.Token))) → Lexes text list → ((tree : Tree) × Reads list tree) → ((tree : Tree) (rest : List Token) → IsAny list tree rest → Measures 64 (levels tree) rest result) → is_some result ≡ false → HasOutcome text old (Err Deep, old)
deep_outcome old result lexed read measured is =
    let w = written lexed read in
    too_deep w.1 (deeper result (levels w.0) [] (measured w.0 [] w.2) is)

shallow : (result : Option (ℕ × Bor (List code.Token))) (number : ℕ) (rest : List Token) → IfSome result (λ found. found.0 ≤ 64) → Measures 64 number rest result → is_some result ≡ true → number ≤ 64
shallow None number rest within measured some = cc
shallow (Some found) number rest within measured some = omega (arith, measured.0)

told_outcome : (text : List ℕ) (tree : Tree) (old new : Variables) (result : Result Evaluated ArithFault) → Writes text tree → levels tree ≤ 64 → Ends (evaluate tree old) (Reaches tree old) [] new result → MatchResult result (λ found. HasOutcome text old (Ok found.value, new)) (λ fault. HasOutcome text old (Err fault, new) ⊎ ((fault ≡ Memory) × IsUnderWay text old new))
told_outcome text tree old new (Ok found) w few told = evaluated w few told.0
told_outcome text tree old new (Err fault) w few (inl told) = inl (evaluated w few told)
told_outcome text tree old new (Err fault) w few (inr told) = inr (told.0, inr (tree, w, few, told.1))

-- the text is evaluated
pub evaluated_outcome : {text : List ℕ} {list : List Token} (old new : Variables) (measure : Option (ℕ × Bor (List code.Token))) (result : Result Evaluated ArithFault) → Lexes text list → ((tree : Tree) × Reads list tree) → ((tree : Tree) (rest : List Token) → IsAny list tree rest → Measures 64 (levels tree) rest measure) → IfSome measure (λ found. found.0 ≤ 64) → is_some measure ≡ true → ((tree : Tree) (rest : List Token) → IsAny list tree rest → levels tree ≤ 64 → Ends (evaluate tree old) (Reaches tree old) rest new result) → MatchResult result (λ found. HasOutcome text old (Ok found.value, new)) (λ fault. HasOutcome text old (Err fault, new) ⊎ ((fault ≡ Memory) × IsUnderWay text old new))
evaluated_outcome {text} old new measure result lexed read measured within some ended =
    let w = written lexed read in
    let few = shallow measure (levels w.0) [] within (measured w.0 [] w.2) some in
    told_outcome text w.0 old new result w.1 few (ended w.0 [] w.2 few)
