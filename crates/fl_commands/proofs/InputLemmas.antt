-- The inputs that operands name.
use Rattle.std.proofs.Common.{◌≡◌, ℕ, suc, ◌≤◌, ◌+◌, List, [], ◌∷◌, Bool, true, false, not, ◌&&◌, ◌||◌, cond, if◌then◌else◌, length, map, IfSome, Option, Some, None, refl, sym, ap, ◌∙◌, subst, arith}
use Rattle.std.specs.List.{count_by, filter, filter_map, list_all, list_any}
use Rattle.std.proofs.lemmas.Bool.{true≢false}
use Rattle.std.proofs.lemmas.List.Recursion.{is_count_by}
use Rattle.ps_world.specs.Files.{Files, NoWriterOut}
use Rattle.ps_world.specs.Places.{is_null_path}
use Rattle.ps_world.specs.declared.places.Place.TheVariants as place
use Rattle.ut_args.specs.Inputs.{emptied, is_file, is_named, is_standard, remaining}
use Rattle.ut_args.proofs.OperandLemmas.{all-named, named-emptied}
use Rattle.fl_segments.specs.Stages.{file_in, is_stream}
use Rattle.fl_segments.specs.declared.stages.In.{In}
use Rattle.fl_commands.specs.Operands.{AllStand, AreNamed, IsEmptyMissing, IsNamed, ins_from, ins_of, is_stream_operand, lacks, without_input}
use Rattle.fl_commands.specs.Readers.{AreThere}
use Rattle.fl_commands.specs.declared.operands.Operand.{Operand}
use Rattle.fl_commands.specs.declared.operands.Operand.TheVariants as operand

-- an operand that has an input isn't empty
named-unless : (text : List ℕ) (first : Operand) → IsEmptyMissing text first → lacks first ≡ false → is_named text ≡ true
named-unless [] first is has = absurd (true≢false (sym (ap lacks is) ∙ has))
named-unless (byte ∷ bytes) first is has = refl

pub left-named : (texts : List (List ℕ)) (operands : List Operand) → AreNamed texts operands → list_all is_named (remaining (map lacks operands) texts) ≡ true
left-named [] operands are = refl
left-named (text ∷ texts) [] are = absurd are
left-named (text ∷ texts) (first ∷ rest) are = by_lack (lacks first) refl (left-named texts rest are.1)
  where
    by_lack : (is : Bool) → lacks first ≡ is → list_all is_named (remaining (map lacks rest) texts) ≡ true
        → list_all is_named (if is then remaining (map lacks rest) texts else text ∷ remaining (map lacks rest) texts) ≡ true
    by_lack true so others = others
    by_lack false so others = ap (λ named. named && list_all is_named (remaining (map lacks rest) texts)) (named-unless text first are.0.empty so) ∙ others

-- where no lines are dealt, the operands that give no input are those that have none
pub without-plain : (taken : Bool) (operands : List Operand) → without_input false taken operands ≡ map lacks operands
without-plain taken [] = refl
without-plain taken (operand.Standard ∷ rest) = ap (λ (it : List Bool). false ∷ it) (without-plain true rest)
without-plain taken (operand.At place ∷ rest) = ap (λ (it : List Bool). lacks (operand.At place) ∷ it) (without-plain taken rest)

-- there is an input for each of them
length-left : (taken : Bool) (texts : List (List ℕ)) (operands : List Operand) → AreNamed texts operands → length (ins_from false taken operands) ≡ length (remaining (map lacks operands) texts)
length-left taken [] [] are = refl
length-left taken [] (first ∷ rest) are = absurd are
length-left taken (text ∷ texts) [] are = absurd are
length-left true (text ∷ texts) (operand.Standard ∷ rest) are = ap suc (length-left true texts rest are.1)
length-left false (text ∷ texts) (operand.Standard ∷ rest) are = ap suc (length-left true texts rest are.1)
length-left taken (text ∷ texts) (operand.At place.Missing ∷ rest) are = length-left taken texts rest are.1
length-left taken (text ∷ texts) (operand.At (place.Makeable path) ∷ rest) are = length-left taken texts rest are.1
length-left taken (text ∷ texts) (operand.At (place.Dir path) ∷ rest) are = length-left taken texts rest are.1
length-left taken (text ∷ texts) (operand.At (place.File path) ∷ rest) are = ap suc (length-left taken texts rest are.1)
length-left taken (text ∷ texts) (operand.At place.Null ∷ rest) are = ap suc (length-left taken texts rest are.1)

-- where lines are dealt, for each that is a file, and one for all that are the standard input
abbrev pub one_of : Bool → ℕ
one_of test = if test then 1 else 0

file-unless : (text : List ℕ) (first : Operand) → IsNamed text first → is_stream_operand first ≡ false → lacks first ≡ false → is_file text ≡ true
file-unless text first is apart has =
    ap (λ (it : Bool). it && not (is_standard text)) (named-unless text first is.empty has) ∙ ap not (is.standard ∙ apart)

no-file : (text : List ℕ) → is_standard text ≡ true → is_file text ≡ false
no-file text is = ap (λ (it : Bool). is_named text && not it) is ∙ by_named (is_named text)
  where
    by_named : (named : Bool) → (named && false) ≡ false
    by_named true = refl
    by_named false = refl

-- the files among them, and one more where the standard input isn't taken yet
dealt : Bool → List (List ℕ) → ℕ
dealt taken texts = length (filter is_file texts) + one_of (not taken && list_any is_standard texts)

dealt-file : (taken : Bool) (text : List ℕ) (texts : List (List ℕ)) → is_file text ≡ true → is_standard text ≡ false → dealt taken (text ∷ texts) ≡ suc (dealt taken texts)
unfolding dealt
dealt-file taken text texts file apart =
    ap (λ (it : Bool). length (if it then text ∷ filter is_file texts else filter is_file texts) + one_of (not taken && (is_standard text || list_any is_standard texts))) file
    ∙ ap (λ (it : Bool). suc (length (filter is_file texts)) + one_of (not taken && (it || list_any is_standard texts))) apart
    ∙ omega arith

dealt-standard : (text : List ℕ) (texts : List (List ℕ)) → is_standard text ≡ true → dealt false (text ∷ texts) ≡ suc (dealt true texts)
unfolding dealt
dealt-standard text texts is =
    ap (λ (it : Bool). length (if it then text ∷ filter is_file texts else filter is_file texts) + one_of (is_standard text || list_any is_standard texts)) (no-file text is)
    ∙ ap (λ (it : Bool). length (filter is_file texts) + one_of (it || list_any is_standard texts)) is
    ∙ omega arith

dealt-again : (text : List ℕ) (texts : List (List ℕ)) → is_standard text ≡ true → dealt true (text ∷ texts) ≡ dealt true texts
unfolding dealt
dealt-again text texts is =
    ap (λ (it : Bool). length (if it then text ∷ filter is_file texts else filter is_file texts) + one_of false) (no-file text is)

dealt-left : (taken : Bool) (texts : List (List ℕ)) (operands : List Operand) → AreNamed texts operands → dealt taken (emptied (map lacks operands) texts) ≡ length (ins_from true taken operands)
unfolding dealt
dealt-left true [] [] are = refl
dealt-left false [] [] are = refl
dealt-left taken [] (first ∷ rest) are = absurd are
dealt-left taken (text ∷ texts) [] are = absurd are
dealt-left true (text ∷ texts) (operand.Standard ∷ rest) are = dealt-again text (emptied (map lacks rest) texts) are.0.standard ∙ dealt-left true texts rest are.1
dealt-left false (text ∷ texts) (operand.Standard ∷ rest) are = dealt-standard text (emptied (map lacks rest) texts) are.0.standard ∙ ap suc (dealt-left true texts rest are.1)
dealt-left taken (text ∷ texts) (operand.At place.Missing ∷ rest) are = dealt-left taken texts rest are.1
dealt-left taken (text ∷ texts) (operand.At (place.Makeable path) ∷ rest) are = dealt-left taken texts rest are.1
dealt-left taken (text ∷ texts) (operand.At (place.Dir path) ∷ rest) are = dealt-left taken texts rest are.1
dealt-left taken (text ∷ texts) (operand.At (place.File path) ∷ rest) are =
    dealt-file taken text (emptied (map lacks rest) texts) (file-unless text (operand.At (place.File path)) are.0 refl refl) are.0.standard ∙ ap suc (dealt-left taken texts rest are.1)
dealt-left taken (text ∷ texts) (operand.At place.Null ∷ rest) are =
    dealt-file taken text (emptied (map lacks rest) texts) (file-unless text (operand.At place.Null) are.0 refl refl) are.0.standard ∙ ap suc (dealt-left taken texts rest are.1)

-- HOW MANY INPUTS operands name that stand in the words
unfoldable pub inputs_named : Bool → List (List ℕ) → ℕ
inputs_named deals [] = 1
inputs_named deals (text ∷ texts) =
    if deals then length (filter is_file (text ∷ texts)) + one_of (list_any is_standard (text ∷ texts)) else length (filter is_named (text ∷ texts))

pub named-count : (deals : Bool) (texts : List (List ℕ)) (operands : List Operand) → AreNamed texts operands
    → inputs_named deals (emptied (map lacks operands) texts) ≡ length (ins_of deals operands)
unfolding inputs_named dealt
named-count deals [] [] are = refl
named-count deals [] (first ∷ rest) are = absurd are
named-count deals (text ∷ texts) [] are = absurd are
named-count true (text ∷ texts) (first ∷ rest) are = dealt-left false (text ∷ texts) (first ∷ rest) are
named-count false (text ∷ texts) (first ∷ rest) are =
    ap (λ it. length it) (named-emptied (map lacks (first ∷ rest)) (text ∷ texts) ∙ all-named (remaining (map lacks (first ∷ rest)) (text ∷ texts)) (left-named (text ∷ texts) (first ∷ rest) are))
    ∙ sym (length-left false (text ∷ texts) (first ∷ rest) are)

-- the standard input is one of them at most
streams : List In → ℕ
streams [] = 0
streams (first ∷ rest) = cond (is_stream first) (1 + streams rest) (streams rest)

zero-below : (most : ℕ) → 0 ≤ most
zero-below most = omega arith

one-below : 1 ≤ 1
one-below = omega arith

streams-most : (deals taken : Bool) (operands : List Operand) → streams (ins_from deals taken operands) ≤ (if taken then 0 else 1)
unfolding streams
streams-most deals true [] = zero-below 0
streams-most deals false [] = zero-below 1
streams-most true true (operand.Standard ∷ rest) = streams-most true true rest
streams-most false true (operand.Standard ∷ rest) = streams-most false true rest
streams-most deals false (operand.Standard ∷ rest) = let others = streams-most deals true rest in omega (arith, others)
streams-most deals taken (operand.At place.Missing ∷ rest) = streams-most deals taken rest
streams-most deals taken (operand.At (place.Makeable path) ∷ rest) = streams-most deals taken rest
streams-most deals taken (operand.At (place.Dir path) ∷ rest) = streams-most deals taken rest
streams-most deals taken (operand.At (place.File path) ∷ rest) = streams-most deals taken rest
streams-most deals taken (operand.At place.Null ∷ rest) = streams-most deals taken rest

pub one-stream : (deals : Bool) (operands : List Operand) → count_by is_stream (ins_of deals operands) ≤ 1
unfolding streams
one-stream deals operands = subst (λ (it : ℕ). it ≤ 1) (is_count_by streams is_stream refl (λ first rest. refl) (ins_of deals operands)) (by_operands operands)
  where
    by_operands : (it : List Operand) → streams (ins_of deals it) ≤ 1
    by_operands [] = one-below
    by_operands (first ∷ rest) = streams-most deals false (first ∷ rest)

-- none of their files is the null device
no-null : (deals taken : Bool) (texts : List (List ℕ)) (operands : List Operand) → AreNamed texts operands → list_any is_null_path (filter_map file_in (ins_from deals taken operands)) ≡ false
no-null deals taken [] [] are = refl
no-null deals taken [] (first ∷ rest) are = absurd are
no-null deals taken (text ∷ texts) [] are = absurd are
no-null true true (text ∷ texts) (operand.Standard ∷ rest) are = no-null true true texts rest are.1
no-null false true (text ∷ texts) (operand.Standard ∷ rest) are = no-null false true texts rest are.1
no-null deals false (text ∷ texts) (operand.Standard ∷ rest) are = no-null deals true texts rest are.1
no-null deals taken (text ∷ texts) (operand.At place.Missing ∷ rest) are = no-null deals taken texts rest are.1
no-null deals taken (text ∷ texts) (operand.At (place.Makeable path) ∷ rest) are = no-null deals taken texts rest are.1
no-null deals taken (text ∷ texts) (operand.At (place.Dir path) ∷ rest) are = no-null deals taken texts rest are.1
no-null deals taken (text ∷ texts) (operand.At (place.File path) ∷ rest) are =
    ap (λ null. null || list_any is_null_path (filter_map file_in (ins_from deals taken rest))) are.0.apart ∙ no-null deals taken texts rest are.1
no-null deals taken (text ∷ texts) (operand.At place.Null ∷ rest) are = no-null deals taken texts rest are.1

pub no-null-of : (deals : Bool) (texts : List (List ℕ)) (operands : List Operand) → AreNamed texts operands → list_any is_null_path (filter_map file_in (ins_of deals operands)) ≡ false
no-null-of deals texts [] are = refl
no-null-of deals texts (first ∷ rest) are = no-null deals false texts (first ∷ rest) are

-- each of their files is there, where no writer is out
there-from : (files : Files) → NoWriterOut files → (deals taken : Bool) (operands : List Operand) → AllStand files operands → AreThere files (ins_from deals taken operands)
there-from files whole deals taken [] stand = tt
there-from files whole true true (operand.Standard ∷ rest) stand = there-from files whole true true rest stand.1
there-from files whole false true (operand.Standard ∷ rest) stand = (tt, there-from files whole false true rest stand.1)
there-from files whole deals false (operand.Standard ∷ rest) stand = (tt, there-from files whole deals true rest stand.1)
there-from files whole deals taken (operand.At place.Missing ∷ rest) stand = there-from files whole deals taken rest stand.1
there-from files whole deals taken (operand.At (place.Makeable path) ∷ rest) stand = there-from files whole deals taken rest stand.1
there-from files whole deals taken (operand.At (place.Dir path) ∷ rest) stand = there-from files whole deals taken rest stand.1
there-from files whole deals taken (operand.At (place.File path) ∷ rest) stand = ((stand.0.1 (whole path)).0, there-from files whole deals taken rest stand.1)
there-from files whole deals taken (operand.At place.Null ∷ rest) stand = (tt, there-from files whole deals taken rest stand.1)

pub ins-there : (deals : Bool) (held : Option Files) (operands : List Operand) → IfSome held NoWriterOut → IfSome held (λ files. AllStand files operands)
    → IfSome held (λ files. AreThere files (ins_of deals operands))
ins-there deals None operands whole stand = tt
ins-there deals (Some files) [] whole stand = (tt, tt)
ins-there deals (Some files) (first ∷ rest) whole stand = there-from files whole deals false (first ∷ rest) stand

-- there is one more at most than operands
ins-within : (deals taken : Bool) (operands : List Operand) → length (ins_from deals taken operands) ≤ length operands
ins-within deals taken [] = zero-below 0
ins-within true true (operand.Standard ∷ rest) = let others = ins-within true true rest in omega (arith, others)
ins-within false true (operand.Standard ∷ rest) = let others = ins-within false true rest in omega (arith, others)
ins-within deals false (operand.Standard ∷ rest) = let others = ins-within deals true rest in omega (arith, others)
ins-within deals taken (operand.At place.Missing ∷ rest) = let others = ins-within deals taken rest in omega (arith, others)
ins-within deals taken (operand.At (place.Makeable path) ∷ rest) = let others = ins-within deals taken rest in omega (arith, others)
ins-within deals taken (operand.At (place.Dir path) ∷ rest) = let others = ins-within deals taken rest in omega (arith, others)
ins-within deals taken (operand.At (place.File path) ∷ rest) = let others = ins-within deals taken rest in omega (arith, others)
ins-within deals taken (operand.At place.Null ∷ rest) = let others = ins-within deals taken rest in omega (arith, others)

pub ins-most : (deals : Bool) (operands : List Operand) → length (ins_of deals operands) ≤ length operands + 1
ins-most deals [] = omega arith
ins-most deals (first ∷ rest) = let within = ins-within deals false (first ∷ rest) in omega (arith, within)
