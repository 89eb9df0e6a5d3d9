-- A construct at a text has one end or one refusal.
use Rattle.std.proofs.Common.{◌≡◌, ℕ, zero, suc, Bool, true, false, Option, None, Some, List, [], ◌∷◌, ◌<◌, ◌≤◌, if◌then◌else◌, length, refl, sym, subst, arith, rules}
use Rattle.sh_lex.specs.Texts.{unspliced}
use Rattle.sh_lex.specs.Acts.{Act, goes, enters, ends, offends}
use Rattle.sh_lex.proofs.Shrinking.{Shrinks, BeginsWord}
use Rattle.sh_lex.specs.Dollars.{opening, substitution, parenthesis, introduced_by, dollar_by, dollar_at}
use Rattle.sh_lex.specs.Braces.{single_quotes}
use Rattle.sh_lex.specs.Commands.{word_at, in_word}
use Rattle.sh_lex.specs.Reads.{act, Outcome, past, refused, Reads, goes_on, reads_inner, refused_inside, has_ended, offended}
use Rattle.sh_lex.specs.Lexes.{one_word}
use Rattle.sh_lex.proofs.Shorter.{act-Shrinks}
use Rattle.sh_lex.proofs.Stacks.{GoesOn, goes-less, enters-less, ends-less}
use Rattle.sh_lex.specs.declared.parts.Nest.{Nest}
use Rattle.sh_lex.specs.declared.parts.Construct.{Construct}
use Rattle.sh_lex.specs.declared.parts.Spot.{Spot}
use Rattle.sh_lex.specs.declared.parts.Spot.TheVariants as spot
use Rattle.sh_lex.specs.declared.dollars.Introduced.{Introduced}
use Rattle.sh_lex.specs.declared.dollars.Introduced.TheVariants as introduced

-- at most so many bytes are left
abbrev pub Leaves : ℕ → Outcome → Type 0
Leaves count (past rest) = length rest ≤ count
Leaves count (refused fault) = Unit {0}

Leaves-more : (few many : ℕ) (end : Outcome) → few ≤ many → Leaves few end → Leaves many end
Leaves-more few many (past rest) h less = omega arith
Leaves-more few many (refused fault) h less = tt

-- a construct leaves no more than it was given
pub Reads-Leaves : {construct : Construct} {text : List ℕ} {end : Outcome} → Reads construct text end → Leaves (length text) end
Reads-Leaves (goes_on {construct = construct} {next = next} {text = text} {rest = rest} {end = end} e reads) =
    let less : length rest < length text = goes-less construct next text rest (sym e) in
    Leaves-more (length rest) (length text) end (omega arith) (Reads-Leaves reads)
Reads-Leaves (reads_inner {construct = construct} {inner = inner} {outer = outer} {text = text} {rest = rest} {after = after} {end = end} e inside outside) =
    let less : length rest < length text = enters-less construct inner outer text rest (sym e) in
    let within : length after ≤ length rest = Reads-Leaves inside in
    Leaves-more (length after) (length text) end (omega arith) (Reads-Leaves outside)
Reads-Leaves (refused_inside e inside) = tt
Reads-Leaves (has_ended {construct = construct} {text = text} {rest = rest} e) = ends-less construct text rest (sym e)
Reads-Leaves (offended e) = tt

-- what a construct does next
abbrev pub Follows : Act → Outcome → Type 0
Follows (goes next rest) end = Reads next rest end
Follows (enters inner outer rest) end = (middle : Outcome) × (Reads inner rest middle × GoesOn outer middle end)
Follows (ends rest) end = end ≡ past rest
Follows (offends fault) end = end ≡ refused fault

pub follows : {construct : Construct} {text : List ℕ} {end : Outcome} → Reads construct text end → Follows (act construct text) end
follows (goes_on {end = end} e reads) = subst (λ a. Follows a end) (sym e) reads
follows (reads_inner {after = after} {end = end} e inside outside) =
    subst (λ a. Follows a end) (sym e) (past after, (inside, outside))
follows (refused_inside {fault = fault} e inside) =
    subst (λ a. Follows a (refused fault)) (sym e) (refused fault, (inside, refl))
follows (has_ended {rest = rest} e) = subst (λ a. Follows a (past rest)) (sym e) refl
follows (offended {fault = fault} e) = subst (λ a. Follows a (refused fault)) (sym e) refl

-- a construct has one outcome
pub Reads-same : {construct : Construct} {text : List ℕ} {one other : Outcome} → Reads construct text one → Reads construct text other
    → one ≡ other
Reads-same {other = other} (goes_on e reads) second = Reads-same reads (subst (λ a. Follows a other) e (follows second))
Reads-same {other = other} (reads_inner {outer = outer} e inside outside) second =
    let found = subst (λ a. Follows a other) e (follows second) in
    let middle = Reads-same inside found.1.0 in
    Reads-same outside (subst (λ o. GoesOn outer o other) (sym middle) found.1.1)
Reads-same {other = other} (refused_inside {outer = outer} e inside) second =
    let found = subst (λ a. Follows a other) e (follows second) in
    let middle = Reads-same inside found.1.0 in
    sym (subst (λ o. GoesOn outer o other) (sym middle) found.1.1)
Reads-same {other = other} (has_ended e) second = sym (subst (λ a. Follows a other) e (follows second))
Reads-same {other = other} (offended e) second = sym (subst (λ a. Follows a other) e (follows second))

-- and it has some outcome
some_behind : (construct inner outer : Construct) (text rest : List ℕ) (count : ℕ)
    → ((part : Construct) (left : List ℕ) → length left < count → (end : Outcome) × Reads part left end)
    → act construct text ≡ enters inner outer rest → length rest < count
    → (middle : Outcome) → Reads inner rest middle → (end : Outcome) × Reads construct text end
some_behind construct inner outer text rest count less e h (past after) inside =
    let within : length after ≤ length rest = Reads-Leaves inside in
    let found = less outer after (omega arith) in (found.0, reads_inner e inside found.1)
some_behind construct inner outer text rest count less e h (refused fault) inside = (refused fault, refused_inside e inside)

some_at : (construct : Construct) (text : List ℕ) (count : ℕ)
    → ((part : Construct) (left : List ℕ) → length left < count → (end : Outcome) × Reads part left end)
    → length text < suc count → (next : Act) → act construct text ≡ next → Shrinks (length text) next
    → (end : Outcome) × Reads construct text end
some_at construct text count less h (goes next rest) e s =
    let found = less next rest (omega arith) in (found.0, goes_on e found.1)
some_at construct text count less h (enters inner outer rest) e s =
    let found = less inner rest (omega arith) in
    some_behind construct inner outer text rest count less e (omega arith) found.0 found.1
some_at construct text count less h (ends rest) e s = (past rest, has_ended e)
some_at construct text count less h (offends fault) e s = (refused fault, offended e)

some_below : (count : ℕ) (construct : Construct) (text : List ℕ) → length text < count → (end : Outcome) × Reads construct text end
some_below zero construct text h = absurd (omega arith)
some_below (suc count) construct text h =
    some_at construct text count (some_below count) h (act construct text) refl (act-Shrinks construct text)

pub Reads-some : (construct : Construct) (text : List ℕ) → (end : Outcome) × Reads construct text end
Reads-some construct text = some_below (suc (length text)) construct text (omega arith)

-- a byte of a word doesn't end it
abbrev pub GoesFurther : Act → Type 0
GoesFurther (goes next rest) = Unit {0}
GoesFurther (enters inner outer rest) = Unit {0}
GoesFurther (ends rest) = ⊥
GoesFurther (offends fault) = Unit {0}

GoesFurther-if : (test : Bool) (left right : Act) → GoesFurther left → GoesFurther right
    → GoesFurther (if test then left else right)
GoesFurther-if true left right l r = l
GoesFurther-if false left right l r = r

module _ (nest : Nest) (left : ℕ) (outer : Construct) where
  opening-further : (inner : Construct) (rest : List ℕ) → GoesFurther (opening nest left inner outer rest)
  opening-further inner rest = search (GoesFurther-if, rules)

  substitution-further : (rest : List ℕ) → GoesFurther (substitution nest left outer rest)
  substitution-further rest = search (GoesFurther-if, rules)

  parenthesis-further : (inner text : List ℕ) → GoesFurther (parenthesis nest left outer inner text)
  parenthesis-further inner [] = substitution-further inner
  parenthesis-further inner (byte ∷ rest) = search (GoesFurther-if, substitution-further, opening-further, rules)

  dollar_by-further : (what : Introduced) (quoted : Bool) (text rest : List ℕ) → GoesFurther (dollar_by what nest quoted left outer text rest)
  dollar_by-further (introduced.OutOfProfile spelling) quoted text rest = tt
  dollar_by-further introduced.Braces quoted text rest = opening-further _ rest
  dollar_by-further introduced.Parenthesis quoted text rest = parenthesis-further rest (unspliced rest)
  dollar_by-further introduced.Name quoted text rest = tt
  dollar_by-further introduced.Special quoted text rest = tt
  dollar_by-further introduced.Nothing quoted text rest = tt

  dollar_at-further : (quoted : Bool) (text front : List ℕ) → GoesFurther (dollar_at nest quoted left outer text front)
  dollar_at-further quoted text [] = tt
  dollar_at-further quoted text (byte ∷ rest) = dollar_by-further (introduced_by byte) quoted text rest

single_quotes-further : (left : ℕ) (next : Construct) (found : Option (List ℕ)) → GoesFurther (single_quotes left next found)
single_quotes-further left next None = tt
single_quotes-further left next (Some rest) = tt

word_at-further : (nest : Nest) (opened : Option ℕ) (at : Spot) (byte : ℕ) (rest : List ℕ)
    → GoesFurther (word_at nest opened at byte rest)
word_at-further nest opened at byte rest =
    search (GoesFurther-if, single_quotes-further, dollar_at-further, rules) depth 9

word_further : (text : List ℕ) → BeginsWord text → GoesFurther (act one_word text)
word_further text (byte, (rest, (begins, in_word))) =
    let further : GoesFurther (word_at (record { levels = 0; in_braces = false }) None spot.Begin byte rest)
    = word_at-further (record { levels = 0; in_braces = false }) None spot.Begin byte rest in
    simp (begins, in_word) further

-- a word has a byte, so it leaves less
pub word-shorter : (text rest : List ℕ) → BeginsWord text → Reads one_word text (past rest) → length rest < length text
word-shorter text rest begins (goes_on {next = next} {rest = after} e reads) =
    let less : length after < length text = goes-less one_word next text after (sym e) in
    let within : length rest ≤ length after = Reads-Leaves reads in omega arith
word-shorter text rest begins (reads_inner {inner = inner} {outer = outer} {rest = behind} {after = after} e inside outside) =
    let less : length behind < length text = enters-less one_word inner outer text behind (sym e) in
    let within : length after ≤ length behind = Reads-Leaves inside in
    let outside_within : length rest ≤ length after = Reads-Leaves outside in omega arith
word-shorter text rest begins (has_ended e) =
    let never : ⊥ = subst (λ a. GoesFurther a) e (word_further text begins) in absurd never
