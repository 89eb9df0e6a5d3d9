-- Where command substitutions end, and the constructs that are open while that is sought.
use Rattle.std.proofs.Common.{◌≡◌, ℕ, ◌+◌, ◌-◌, ◌≤◌, Bool, true, false, Option, None, Some, MatchOption, IfSome, List, [], ◌∷◌, ◌++◌, length, take, reverse, Bor, refl, sym, ◌∙◌, ap, subst, append_assoc, length-append, arith}
use Rattle.std.proofs.Math.Seq.{take-append_seam}
use Rattle.std.proofs.lemmas.List.{reverse-append}
use Rattle.sh_lex.specs.Acts.{goes, enters, ends}
use Rattle.sh_lex.specs.Reads as lex
use Rattle.sh_lex.specs.Reads.{act, past, Reads, goes_on, reads_inner, has_ended}
use Rattle.sh_lex.proofs.EndLemmas.{substitution_ends}
use Rattle.sh_lex.proofs.Readings.{Reads-same, Reads-some}
use Rattle.sh_lex.specs.declared.bytes.TheConstants.{CLOSE}
use Rattle.sh_lex.specs.declared.Nest.{Nest}
use Rattle.sh_lex.specs.declared.Construct.{Construct}
use Rattle.sh_lex.specs.declared.Construct.TheVariants as construct
use Rattle.sh_lex.specs.declared.Spot.TheVariants as spot
use Rattle.sh_words.specs.Words.{left_by, Passes, in_commands}
use Rattle.sh_words.specs.Inner.Extents.{left_behind, EndsItself}
use Rattle.sh_words.specs.declared.substitutions.Opened.{Opened}

-- the bytes up to the `)`, of a text that goes on behind it
up_to_close : (front after : List ℕ) → take (length (front ++ CLOSE ∷ after) - length after) (front ++ CLOSE ∷ after) ≡ front ++ CLOSE ∷ []
up_to_close front after =
    let whole : front ++ CLOSE ∷ after ≡ (front ++ CLOSE ∷ []) ++ after = sym (append_assoc front (CLOSE ∷ []) after) in
    let count : length (front ++ CLOSE ∷ after) - length after ≡ length (front ++ CLOSE ∷ [])
    = let long = length-append front (CLOSE ∷ after) in let short = length-append front (CLOSE ∷ []) in omega (arith, long, short) in
    ap (λ n. take n (front ++ CLOSE ∷ after)) count ∙ ap (take (length (front ++ CLOSE ∷ []))) whole
    ∙ take-append_seam (front ++ CLOSE ∷ []) after

-- the tokens of a `$( )` with its `)`, as they are cut out of what is left of a text
pub ends_itself : (nest : Nest) (left count : ℕ) (text after : List ℕ) → count ≡ length text - length after
    → Reads (construct.Commands nest (Some left) spot.Between) text (past after) → EndsItself (take count text)
ends_itself nest left count text after same reads = λ other.
    let (front, whole, copied) = substitution_ends nest (record { levels = 0; in_braces = false }) left 0 text after other
    (record { fewer = omega arith; braces = λ h. refl }) reads in
    let bytes : take count text ≡ front ++ CLOSE ∷ []
    = ap (λ n. take n text) same ∙ ap (λ x. take (length x - length after) x) whole ∙ up_to_close front after in
    let all : take count text ++ other ≡ front ++ CLOSE ∷ other
    = ap (λ x. x ++ other) bytes ∙ append_assoc front (CLOSE ∷ []) other in
    ap left_behind all ∙ ap left_by (Reads-same (Reads-some in_commands (front ++ CLOSE ∷ other)).1 copied)

-- and where they stand again
passes_behind : (bytes here rest : List ℕ) → EndsItself bytes → here ≡ bytes ++ rest → Passes in_commands here rest
passes_behind bytes here rest itself is =
    ((Reads-some in_commands here).0, ((Reads-some in_commands here).1, sym (ap left_behind is ∙ itself rest)))

pub stripped : (bytes here : List ℕ) (result : Option (Bor (List ℕ))) (Otherwise : Type 0) → EndsItself bytes
    → MatchOption result Otherwise (λ rest. here ≡ bytes ++ rest.now) → IfSome result (λ rest. Passes in_commands here rest.now)
stripped bytes here None Otherwise itself is = tt
stripped bytes here (Some rest) Otherwise itself is = passes_behind bytes here rest.now itself is

-- the constructs that are open, the innermost first: what is read of the one that goes on is read of the innermost, and so on outward
abbrev pub Holds : List Opened → Construct → List ℕ → Type 0
Holds [] part rest = Unit {0}
Holds (opened ∷ «open») part rest =
    ((end : lex.Outcome) → Reads part rest end → Reads opened.inner opened.text.now end)
    × ((after : List ℕ) → Reads opened.inner opened.text.now (past after) → Holds «open» opened.outer after)

Holds-on : («open» : List Opened) (part next : Construct) (rest left : List ℕ)
    → ((end : lex.Outcome) → Reads next left end → Reads part rest end) → Holds «open» part rest → Holds «open» next left
Holds-on [] part next rest left on h = tt
Holds-on (opened ∷ «open») part next rest left on (innermost, outward) = (λ end reads. innermost end (on end reads), outward)

pub Holds-goes : («open» : List Opened) (part next : Construct) (rest left : List ℕ) → act part rest ≡ goes next left
    → Holds «open» part rest → Holds «open» next left
Holds-goes «open» part next rest left e h = Holds-on «open» part next rest left (λ end reads. goes_on e reads) h

pub Holds-enters : («open» more : List Opened) (opened : Opened) (part : Construct) (rest : List ℕ)
    → act part rest ≡ enters opened.inner opened.outer opened.text.now → more ≡ «open» ++ opened ∷ []
    → Holds (reverse «open») part rest → Holds (reverse more) opened.inner opened.text.now
Holds-enters «open» more opened part rest e same h =
    subst (λ x. Holds x opened.inner opened.text.now) (sym (ap reverse same ∙ reverse-append «open» (opened ∷ []))) (
      λ end reads. reads,
      λ after inside. Holds-on (reverse «open») part opened.outer rest after (λ end reads. reads_inner e inside reads) h,
    )

pub record Closes («open» : List Opened) (opened : Opened) (after : List ℕ) : Type 0 where
  pub read : Reads opened.inner opened.text.now (past after)
  pub around : Holds (reverse «open») opened.outer after

pub Holds-ends : («open» fewer : List Opened) (opened : Opened) (part : Construct) (rest after : List ℕ) → act part rest ≡ ends after
    → «open» ≡ fewer ++ opened ∷ [] → Holds (reverse «open») part rest → Closes fewer opened after
Holds-ends «open» fewer opened part rest after e same h =
    let (innermost, outward) = subst (λ x. Holds x part rest) (ap reverse same ∙ reverse-append fewer (opened ∷ [])) h in
    let read = innermost (past after) (has_ended e) in record { read = read; around = outward after read }
