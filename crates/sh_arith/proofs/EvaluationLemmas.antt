-- What is evaluated of an expression so far, and how its fault is the whole's.
use Rattle.std.proofs.Common.{◌≡◌, ◌⊎◌, ℕ, ◌≤◌, List, ◌∷◌, Ok, Err, Result, ℤ, Some, sym, subst, ap, ◌∙◌, inl, inr, arith}
use Rattle.std.specs.Result.{IsErrAnd}
use Rattle.sh_arith.specs.declared.evaluation.Evaluated.{Evaluated}
use Rattle.sh_arith.specs.declared.faults.ArithFault.{ArithFault}
use Rattle.sh_arith.specs.declared.faults.ArithFault.TheVariants.{Memory}
use Rattle.sh_arith.specs.declared.operators.Operator.{Operator}
use Rattle.sh_arith.specs.declared.operators.Prefix.{Prefix}
use Rattle.sh_arith.specs.declared.parsing.Step.TheVariants as step
use Rattle.sh_arith.specs.declared.tokens.Symbol.{Symbol}
use Rattle.sh_arith.specs.declared.tokens.Symbol.TheVariants as symbol
use Rattle.sh_arith.specs.Tokens.{Token, name, mark}
use Rattle.sh_arith.specs.Trees.{Tree, variable, parenthesized, prefixed, binary, conditional, assignment, operator_level}
use Rattle.sh_arith.specs.Syntax.{prefix_of}
use Rattle.sh_arith.specs.Parsing.{GoesBy, Stops, IsAny, IsTighter, IsOperand, GoesOn, stopped, operated, asked}
use Rattle.sh_arith.specs.Levels.{levels}
use Rattle.sh_arith.specs.Variables.{Variables}
use Rattle.sh_arith.specs.Values as values
use Rattle.sh_arith.specs.Values.{Outcome, and_then, evaluate, value_of, chosen_by, Reaches, begins, ends, in_parentheses, in_prefixed, in_left, in_right, in_condition, in_chosen, in_other, in_value}
use Rattle.sh_arith.specs.Evaluation.{Fails, Ends, ReachesRight, ReachesSide}
use Rattle.sh_arith.proofs.InversionLemmas.{tighter_begun, on_stopped, on_operated, on_asked, any_assigned, operand_variable, operand_parenthesized, operand_prefixed}
use Rattle.sh_arith.proofs.LevelLemmas.{on_levels}

-- an outcome that is told by its word
abbrev IsOf : Tree → Variables → List Token → Variables → Result Evaluated ArithFault → Type 0
IsOf tree old rest new result = Ends (evaluate tree old) (Reaches tree old) rest new result

abbrev FailsOf : Tree → Variables → Variables → ArithFault → Type 0
FailsOf tree old new fault = Fails (evaluate tree old) (Reaches tree old) new fault

-- a fault that `?` hands on
handed_on : (tree : Tree) (old : Variables) (rest : List Token) (new : Variables) (fault : ArithFault) (result : Result Evaluated ArithFault) → IsErrAnd result (λ told. told ≡ fault) → FailsOf tree old new fault → IsOf tree old rest new result
handed_on tree old rest new fault (Ok found) handed fails = absurd handed
handed_on tree old rest new fault (Err told) handed fails = subst (FailsOf tree old new) (sym handed) fails

-- the same outcome, reached otherwise
ends_as : (outcome : Outcome) (Reached Also : Variables → Type 0) (rest : List Token) (new : Variables) (result : Result Evaluated ArithFault) → (Reached new → Also new) → Ends outcome Reached rest new result → Ends outcome Also rest new result
ends_as outcome Reached Also rest new (Ok found) also told = told
ends_as outcome Reached Also rest new (Err fault) also (inl told) = inl told
ends_as outcome Reached Also rest new (Err fault) also (inr told) = inr (told.0, also told.1)

-- a fault of what is read so far is the whole's
on_fault : {bound : ℕ} {left tree : Tree} {tokens rest : List Token} {new : Variables} {fault : ArithFault} (old : Variables) → GoesOn bound left tokens tree rest → evaluate left old ≡ (Err fault, new) → evaluate tree old ≡ (Err fault, new)
on_fault old (stopped stops) e = e
on_fault old (operated {operator = o} {right = right} below x m) e = on_fault old m (ap (λ outcome. and_then outcome (λ value after. values.operated o value after (evaluate right after))) e)
on_fault old (asked {chosen = chosen} {other = other} below x y m) e = on_fault old m (ap (λ outcome. and_then outcome (λ value after. chosen_by value (evaluate chosen after) (evaluate other after))) e)

on_reaches : {bound : ℕ} {left tree : Tree} {tokens rest : List Token} {old new : Variables} → GoesOn bound left tokens tree rest → Reaches left old new → Reaches tree old new
on_reaches (stopped stops) r = r
on_reaches (operated below x m) r = on_reaches m (in_left r)
on_reaches (asked below x y m) r = on_reaches m (in_condition r)

on_fails : {bound : ℕ} {left tree : Tree} {tokens rest : List Token} {old new : Variables} {fault : ArithFault} → GoesOn bound left tokens tree rest → FailsOf left old new fault → FailsOf tree old new fault
on_fails {old = old} on (inl e) = inl (on_fault old on e)
on_fails on (inr r) = inr (r.0, on_reaches on r.1)

-- the value of a part that was read, and how the whole goes on with it
abbrev pub SoFar : ℕ → ℤ → List Token → Tree → List Token → Variables → Variables → Type 0
SoFar bound value tokens tree rest old new = (left : Tree) × GoesOn bound left tokens tree rest × (evaluate left old ≡ (Ok value, new))

abbrev IsEvaluated : Outcome → List Token → Variables → ℤ → List Token → Type 0
IsEvaluated outcome rest new value after = (outcome ≡ (Ok value, new)) × (after ≡ rest)

-- the first operand
pub so_far_operand : {bound : ℕ} {value : ℤ} {tokens after rest : List Token} {tree : Tree} {old new : Variables} → ((left : Tree) (middle : List Token) → IsOperand tokens left middle → levels left ≤ 64 → IsEvaluated (evaluate left old) middle new value after) → IsTighter bound tokens tree rest → levels tree ≤ 64 → SoFar bound value after tree rest old new
so_far_operand {bound} {rest = rest} {tree = tree} given h small =
    let b = tighter_begun h in
    let e = given b.0 b.1 b.2 (omega (arith, on_levels b.3)) in
    (b.0, subst (λ l. GoesOn bound b.0 l tree rest) (sym e.1) b.3, e.0)

pub fails_operand : {bound : ℕ} {tokens rest : List Token} {tree : Tree} {old new : Variables} {fault : ArithFault} (result : Result Evaluated ArithFault) → IsErrAnd result (λ told. told ≡ fault) → ((left : Tree) (middle : List Token) → IsOperand tokens left middle → levels left ≤ 64 → FailsOf left old new fault) → IsTighter bound tokens tree rest → levels tree ≤ 64 → IsOf tree old rest new result
fails_operand {rest = rest} {tree = tree} {old = old} {new = new} {fault = fault} result handed given h small =
    let b = tighter_begun h in
    handed_on tree old rest new fault result handed (on_fails b.3 (given b.0 b.1 b.2 (omega (arith, on_levels b.3))))

-- the value as it is handed to a call
told_as : {outcome : Outcome} {passed value : ℤ} {mid : Variables} → passed ≡ value → outcome ≡ (Ok value, mid) → outcome ≡ (Ok passed, mid)
told_as {mid = mid} same e = e ∙ ap (λ (v : ℤ). (Ok v, mid)) (sym same)

-- an operator's right side
with_right : (o : Operator) (left right : Tree) (old : Variables) {value : ℤ} {mid : Variables} {outcome : Outcome} → evaluate left old ≡ (Ok value, mid) → values.operated o value mid (evaluate right mid) ≡ outcome → evaluate (binary o left right) old ≡ outcome
with_right o left right old first then_right = ap (λ outcome. and_then outcome (λ value after. values.operated o value after (evaluate right after))) first ∙ then_right

pub so_far_right : {bound : ℕ} {o : Operator} {value next passed : ℤ} {tokens more after rest : List Token} {tree : Tree} {old mid new : Variables} → ((right : Tree) (middle : List Token) → IsTighter (operator_level o) more right middle → levels right ≤ 64 → IsEvaluated (values.operated o passed mid (evaluate right mid)) middle new next after) → GoesBy (step.Operator o) bound tokens more → passed ≡ value → SoFar bound value tokens tree rest old mid → levels tree ≤ 64 → SoFar bound next after tree rest old new
so_far_right {bound} {o = o} {rest = rest} {tree = tree} {old = old} given by same s small =
    let b = on_operated by.0 by.1 s.1 in
    let e = given b.0 b.1 b.2 (omega (arith, on_levels b.3)) in
    (binary o s.0 b.0, subst (λ l. GoesOn bound (binary o s.0 b.0) l tree rest) (sym e.1) b.3, with_right o s.0 b.0 old (told_as same s.2) e.0)

right_fails : (o : Operator) (left right : Tree) (old : Variables) {value : ℤ} {mid new : Variables} {fault : ArithFault} → evaluate left old ≡ (Ok value, mid) → Fails (values.operated o value mid (evaluate right mid)) (ReachesRight o value right mid) new fault → FailsOf (binary o left right) old new fault
right_fails o left right old first (inl e) = inl (with_right o left right old first e)
right_fails o left right old first (inr r) = inr (r.0, in_right first r.1.0 r.1.1)

pub fails_right : {bound : ℕ} {o : Operator} {value passed : ℤ} {tokens more rest : List Token} {tree : Tree} {old mid new : Variables} {fault : ArithFault} (result : Result Evaluated ArithFault) → IsErrAnd result (λ told. told ≡ fault) → ((right : Tree) (middle : List Token) → IsTighter (operator_level o) more right middle → levels right ≤ 64 → Fails (values.operated o passed mid (evaluate right mid)) (ReachesRight o passed right mid) new fault) → GoesBy (step.Operator o) bound tokens more → passed ≡ value → SoFar bound value tokens tree rest old mid → levels tree ≤ 64 → IsOf tree old rest new result
fails_right {o = o} {rest = rest} {tree = tree} {old = old} {new = new} {fault = fault} result handed given by same s small =
    let b = on_operated by.0 by.1 s.1 in
    handed_on tree old rest new fault result handed (on_fails b.3 (right_fails o s.0 b.0 old (told_as same s.2) (given b.0 b.1 b.2 (omega (arith, on_levels b.3)))))

-- a side of a `?:`
with_side : (condition chosen other : Tree) (old : Variables) {value : ℤ} {mid : Variables} {outcome : Outcome} → evaluate condition old ≡ (Ok value, mid) → chosen_by value (evaluate chosen mid) (evaluate other mid) ≡ outcome → evaluate (conditional condition chosen other) old ≡ outcome
with_side condition chosen other old first side = ap (λ outcome. and_then outcome (λ value after. chosen_by value (evaluate chosen after) (evaluate other after))) first ∙ side

pub so_far_side : {bound : ℕ} {value next passed : ℤ} {tokens more after rest : List Token} {tree : Tree} {old mid new : Variables} → ((chosen other : Tree) (middle end : List Token) → IsAny more chosen (mark symbol.Colon ∷ middle) → IsTighter 12 middle other end → levels chosen ≤ 64 → levels other ≤ 64 → IsEvaluated (chosen_by passed (evaluate chosen mid) (evaluate other mid)) end new next after) → GoesBy step.Question bound tokens more → passed ≡ value → SoFar bound value tokens tree rest old mid → levels tree ≤ 64 → SoFar bound next after tree rest old new
so_far_side {bound} {rest = rest} {tree = tree} {old = old} given by same s small =
    let b = on_asked by.0 by.1 s.1 in
    let e = given b.0 b.1 b.2 b.3 b.4 b.5 (omega (arith, on_levels b.6)) (omega (arith, on_levels b.6)) in
    (conditional s.0 b.0 b.1, subst (λ l. GoesOn bound (conditional s.0 b.0 b.1) l tree rest) (sym e.1) b.6, with_side s.0 b.0 b.1 old (told_as same s.2) e.0)

side_fails : (condition chosen other : Tree) (old : Variables) {value : ℤ} {mid new : Variables} {fault : ArithFault} → evaluate condition old ≡ (Ok value, mid) → Fails (chosen_by value (evaluate chosen mid) (evaluate other mid)) (ReachesSide value chosen other mid) new fault → FailsOf (conditional condition chosen other) old new fault
side_fails condition chosen other old first (inl e) = inl (with_side condition chosen other old first e)
side_fails condition chosen other old first (inr (is, inl r)) = inr (is, in_chosen first r.0 r.1)
side_fails condition chosen other old first (inr (is, inr r)) = inr (is, in_other first r.0 r.1)

pub fails_side : {bound : ℕ} {value passed : ℤ} {tokens more rest : List Token} {tree : Tree} {old mid new : Variables} {fault : ArithFault} (result : Result Evaluated ArithFault) → IsErrAnd result (λ told. told ≡ fault) → ((chosen other : Tree) (middle end : List Token) → IsAny more chosen (mark symbol.Colon ∷ middle) → IsTighter 12 middle other end → levels chosen ≤ 64 → levels other ≤ 64 → Fails (chosen_by passed (evaluate chosen mid) (evaluate other mid)) (ReachesSide passed chosen other mid) new fault) → GoesBy step.Question bound tokens more → passed ≡ value → SoFar bound value tokens tree rest old mid → levels tree ≤ 64 → IsOf tree old rest new result
fails_side {rest = rest} {tree = tree} {old = old} {new = new} {fault = fault} result handed given by same s small =
    let b = on_asked by.0 by.1 s.1 in
    handed_on tree old rest new fault result handed (on_fails b.6 (side_fails s.0 b.0 b.1 old (told_as same s.2) (given b.0 b.1 b.2 b.3 b.4 b.5 (omega (arith, on_levels b.6)) (omega (arith, on_levels b.6)))))

-- nothing goes on
pub all_evaluated : {bound : ℕ} {value : ℤ} {tokens rest : List Token} {tree : Tree} {old new : Variables} → Stops bound tokens → SoFar bound value tokens tree rest old new → (evaluate tree old ≡ (Ok value, new)) × (tokens ≡ rest)
all_evaluated {old = old} stops s =
    let e = on_stopped stops s.1 in
    (ap (λ t. evaluate t old) e.0 ∙ s.2, sym e.1)

-- want of memory as a variable is set
pub fails_assigned : (outcome : Outcome) (tree : Tree) (old middle new : Variables) (value : ℤ) (rest : List Token) (result : Result Evaluated ArithFault) → IsErrAnd result (λ told. told ≡ Memory) → evaluate tree old ≡ (Ok value, middle) → new ≡ middle → Ends outcome (Reaches tree old) rest new result
fails_assigned outcome tree old middle new value rest (Ok found) handed e same = absurd handed
fails_assigned outcome tree old middle new value rest (Err told) handed e same = inr (handed, ends (e ∙ ap (λ (v : Variables). (Ok value, v)) (sym same)))

pub assigned_evaluated : {word : List ℕ} {tokens more rest : List Token} {tree : Tree} (old new : Variables) (result : Result Evaluated ArithFault) → tokens ≡ name word ∷ (mark symbol.Assign ∷ more) → ((inner : Tree) (left : List Token) → IsAny more inner left → levels inner ≤ 64 → Ends (evaluate (assignment word inner) old) (Reaches inner old) left new result) → IsAny tokens tree rest → levels tree ≤ 64 → IsOf tree old rest new result
assigned_evaluated {word} {rest = rest} old new result cut given h small =
    let b = any_assigned cut h in
    let few : levels b.0 ≤ 64 = omega (arith, ap levels b.1) in
    subst (λ t. IsOf t old rest new result) (sym b.1)
    (ends_as (evaluate (assignment word b.0) old) (Reaches b.0 old) (Reaches (assignment word b.0) old) rest new result in_value (given b.0 rest b.2 few))

pub parenthesized_evaluated : {tokens more rest : List Token} {tree : Tree} (old new : Variables) (result : Result Evaluated ArithFault) → tokens ≡ mark symbol.OpenParen ∷ more → ((inner : Tree) (left : List Token) → IsAny more inner (mark symbol.CloseParen ∷ left) → levels inner ≤ 64 → IsOf inner old left new result) → IsOperand tokens tree rest → levels tree ≤ 64 → IsOf tree old rest new result
parenthesized_evaluated {rest = rest} old new result cut given h small =
    let b = operand_parenthesized cut h in
    let few : levels b.0 ≤ 64 = omega (arith, ap levels b.1) in
    subst (λ t. IsOf t old rest new result) (sym b.1)
    (ends_as (evaluate b.0 old) (Reaches b.0 old) (Reaches (parenthesized b.0) old) rest new result in_parentheses (given b.0 rest b.2 few))

pub prefixed_evaluated : {sign : Symbol} {operator : Prefix} {tokens more rest : List Token} {tree : Tree} (old new : Variables) (result : Result Evaluated ArithFault) → prefix_of sign ≡ Some operator → tokens ≡ mark sign ∷ more → ((inner : Tree) (left : List Token) → IsOperand more inner left → levels inner ≤ 64 → Ends (evaluate (prefixed operator inner) old) (Reaches inner old) left new result) → IsOperand tokens tree rest → levels tree ≤ 64 → IsOf tree old rest new result
prefixed_evaluated {operator = operator} {rest = rest} old new result is cut given h small =
    let b = operand_prefixed is cut h in
    let few : levels b.0 ≤ 64 = omega (arith, ap levels b.1) in
    subst (λ t. IsOf t old rest new result) (sym b.1)
    (ends_as (evaluate (prefixed operator b.0) old) (Reaches b.0 old) (Reaches (prefixed operator b.0) old) rest new result in_prefixed (given b.0 rest b.2 few))

-- a variable that has no value
variable_fails : {word : List ℕ} {old : Variables} {fault : ArithFault} → (fault ≡ Memory) ⊎ (value_of word old ≡ Err fault) → FailsOf (variable word) old old fault
variable_fails (inl is) = inr (is, begins)
variable_fails {old = old} (inr e) = inl (ap (λ (r : Result ℤ ArithFault). (r, old)) e)

pub fails_variable : {word : List ℕ} {tokens more rest : List Token} {tree : Tree} {fault : ArithFault} (old : Variables) (result : Result Evaluated ArithFault) → IsErrAnd result (λ told. told ≡ fault) → tokens ≡ name word ∷ more → (fault ≡ Memory) ⊎ (value_of word old ≡ Err fault) → IsOperand tokens tree rest → IsOf tree old rest old result
fails_variable {word} {rest = rest} {fault = fault} old result handed cut told h =
    let b = operand_variable cut h in
    subst (λ t. IsOf t old rest old result) (sym b.0) (handed_on (variable word) old rest old fault result handed (variable_fails told))
