-- An invocation is determined by its words.
use Rattle.std.proofs.Common.{nat_eq, ◌≡◌, ℕ, Bool, true, false, List, [], ◌∷◌, refl, ap, sym, ◌∙◌, Result, Ok, Err, ◌<◌, length, arith}
use Rattle.std.proofs.Props.{props}
use mathlib.Core.HLevel.{is_prop→PathP}
use Rattle.std.specs.Bool.{Decides}
use Rattle.std.specs.Cmp.Lexicographic.{pointwise}
use Rattle.std.proofs.lemmas.Bool.Decides.{Decides-eqb}
use Rattle.std.proofs.lemmas.Slice.Eq.{slice_eq-Decides}
use Rattle.ut_args.specs.Invocations.{command_of, words_of}
use Rattle.ut_args.specs.Reading.{invocation}
use Rattle.ut_args.specs.declared.invocations.Inv.{Inv}
use Rattle.ut_args.specs.declared.invocations.Inv.TheVariants as inv
use Rattle.ut_args.specs.declared.commands.Command.{Command}
use Rattle.ut_args.specs.declared.commands.Command.TheVariants as command
use Rattle.ut_args.specs.declared.faults.ArgFault.{ArgFault}

-- what the words of an invocation ask for is what it asks for
abbrev pub reads : (inv : Inv) → invocation (words_of inv) ≡ Ok (command_of inv)
reads (inv.Cat one) = one.read
reads (inv.Grep one) = one.read
reads (inv.Tr one) = one.read
reads (inv.Cut one) = one.read
reads (inv.Head one) = one.read
reads (inv.Tail one) = one.read
reads (inv.Wc one) = one.read
reads (inv.Uniq one) = one.read
reads (inv.Sort one) = one.read
reads (inv.Paste one) = one.read
reads (inv.Tee one) = one.read
reads (inv.True one) = one.read
reads (inv.False one) = one.read
reads (inv.Colon one) = one.read
reads (inv.Break one) = one.read
reads (inv.Continue one) = one.read
reads (inv.Exit one) = one.read
reads (inv.Set one) = one.read
reads (inv.Shift one) = one.read
reads (inv.Unset one) = one.read
reads (inv.Read one) = one.read
reads (inv.Test one) = one.read
reads (inv.Bracket one) = one.read
reads (inv.Echo one) = one.read

-- the invocation of words, and of what they ask for
abbrev rebuilt : (words : List (List ℕ)) (asked : Command) → invocation words ≡ Ok asked → Inv
rebuilt words (command.Cat args) read = inv.Cat (record { words = words; args = args; read = read })
rebuilt words (command.Grep args) read = inv.Grep (record { words = words; args = args; read = read })
rebuilt words (command.Tr args) read = inv.Tr (record { words = words; args = args; read = read })
rebuilt words (command.Cut args) read = inv.Cut (record { words = words; args = args; read = read })
rebuilt words (command.Head args) read = inv.Head (record { words = words; args = args; read = read })
rebuilt words (command.Tail args) read = inv.Tail (record { words = words; args = args; read = read })
rebuilt words (command.Wc args) read = inv.Wc (record { words = words; args = args; read = read })
rebuilt words (command.Uniq args) read = inv.Uniq (record { words = words; args = args; read = read })
rebuilt words (command.Sort args) read = inv.Sort (record { words = words; args = args; read = read })
rebuilt words (command.Paste args) read = inv.Paste (record { words = words; args = args; read = read })
rebuilt words (command.Tee args) read = inv.Tee (record { words = words; args = args; read = read })
rebuilt words command.True read = inv.True (record { words = words; read = read })
rebuilt words command.False read = inv.False (record { words = words; read = read })
rebuilt words command.Colon read = inv.Colon (record { words = words; read = read })
rebuilt words (command.Break args) read = inv.Break (record { words = words; args = args; read = read })
rebuilt words (command.Continue args) read = inv.Continue (record { words = words; args = args; read = read })
rebuilt words (command.Exit args) read = inv.Exit (record { words = words; args = args; read = read })
rebuilt words (command.Set args) read = inv.Set (record { words = words; args = args; read = read })
rebuilt words (command.Shift args) read = inv.Shift (record { words = words; args = args; read = read })
rebuilt words (command.Unset args) read = inv.Unset (record { words = words; args = args; read = read })
rebuilt words (command.Read args) read = inv.Read (record { words = words; args = args; read = read })
rebuilt words (command.Test args) read = inv.Test (record { words = words; args = args; read = read })
rebuilt words (command.Bracket args) read = inv.Bracket (record { words = words; args = args; read = read })
rebuilt words (command.Echo args) read = inv.Echo (record { words = words; args = args; read = read })

rebuilt_is : (inv : Inv) → rebuilt (words_of inv) (command_of inv) (reads inv) ≡ inv
rebuilt_is (inv.Cat one) = refl
rebuilt_is (inv.Grep one) = refl
rebuilt_is (inv.Tr one) = refl
rebuilt_is (inv.Cut one) = refl
rebuilt_is (inv.Head one) = refl
rebuilt_is (inv.Tail one) = refl
rebuilt_is (inv.Wc one) = refl
rebuilt_is (inv.Uniq one) = refl
rebuilt_is (inv.Sort one) = refl
rebuilt_is (inv.Paste one) = refl
rebuilt_is (inv.Tee one) = refl
rebuilt_is (inv.True one) = refl
rebuilt_is (inv.False one) = refl
rebuilt_is (inv.Colon one) = refl
rebuilt_is (inv.Break one) = refl
rebuilt_is (inv.Continue one) = refl
rebuilt_is (inv.Exit one) = refl
rebuilt_is (inv.Set one) = refl
rebuilt_is (inv.Shift one) = refl
rebuilt_is (inv.Unset one) = refl
rebuilt_is (inv.Read one) = refl
rebuilt_is (inv.Test one) = refl
rebuilt_is (inv.Bracket one) = refl
rebuilt_is (inv.Echo one) = refl

-- two of the same words and the same command are one
rebuilt_same : (words others : List (List ℕ)) (asked other : Command) (read : invocation words ≡ Ok asked) (read' : invocation others ≡ Ok other)
    → words ≡ others → asked ≡ other → rebuilt words asked read ≡ rebuilt others other read'
rebuilt_same words others asked other read read' same_words same_asked =
    λ i. rebuilt (same_words i) (same_asked i)
    (is_prop→PathP (λ j. invocation (same_words j) ≡ Ok (same_asked j)) (λ j. is_set _ _) read read' i)
  where
    is_set : (x y : Result Command ArgFault) (p q : x ≡ y) → p ≡ q
    is_set = hlevel props

-- the command of an outcome, where it is one
abbrev command_or : Command → Result Command ArgFault → Command
command_or fallback (Ok asked) = asked
command_or fallback (Err fault) = fallback

-- an invocation is determined by its words
pub determined : (one other : Inv) → words_of one ≡ words_of other → one ≡ other
determined one other same =
    let asked : command_of one ≡ command_of other = ap (command_or (command_of one)) (sym (reads one) ∙ (ap invocation same ∙ reads other)) in
    sym (rebuilt_is one) ∙ (rebuilt_same _ _ _ _ (reads one) (reads other) same asked ∙ rebuilt_is other)

-- an invocation has words
pub has_words : (inv : Inv) → 0 < length (words_of inv)
has_words one = some (words_of one) (reads one)
  where
    some : (words : List (List ℕ)) → invocation words ≡ Ok (command_of one) → 0 < length words
    some [] read = cc
    some (word ∷ others) read = omega arith

pub ruleset copy_steps = (determined, has_words)

-- which equality of their words decides
pub decided : (one other : Inv) (equal : Bool) → equal ≡ pointwise (pointwise nat_eq) (words_of one) (words_of other) → Decides equal (one ≡ other)
decided one other equal is =
    let words = slice_eq-Decides (λ word other. slice_eq-Decides Decides-eqb word other _ refl) (words_of one) (words_of other) equal is in
    (λ yes. determined one other (words.0 yes), λ same. words.1 (ap words_of same))
