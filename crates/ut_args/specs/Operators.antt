-- The operators of `test` (XCU test), as words spell them. Primaries are those of the profile (own).
use Rattle.std.specs.Prelude.{ℕ, List, Bool, true, false, Option, Some, None, option_map, if◌then◌else◌, codes}
use Rattle.std.specs.Str.{bytes_eq}
use Rattle.ut_args.specs.declared.operators.Asked.{Asked}
use Rattle.ut_args.specs.declared.operators.Asked.TheVariants as asked
use Rattle.ut_args.specs.declared.operators.Unary.{Unary}
use Rattle.ut_args.specs.declared.operators.Unary.TheVariants as unary
use Rattle.ut_args.specs.declared.operators.Relation.{Relation}
use Rattle.ut_args.specs.declared.operators.Relation.TheVariants as relation
use Rattle.ut_args.specs.declared.operators.Binary.{Binary}
use Rattle.ut_args.specs.declared.operators.Binary.TheVariants as binary

abbrev pub is_not : List ℕ → Bool
is_not word = bytes_eq word (codes "!")

-- the operator before one operand that a word spells
unfoldable pub unary_of : List ℕ → Option Unary
unary_of word =
    if is_not word then Some unary.Not else
    if bytes_eq word (codes "-n") then Some unary.HasBytes else
    if bytes_eq word (codes "-z") then Some unary.IsEmpty else
    if bytes_eq word (codes "-e") then Some (unary.At asked.Exists) else
    if bytes_eq word (codes "-f") then Some (unary.At asked.IsFile) else
    if bytes_eq word (codes "-d") then Some (unary.At asked.IsDir) else
    None

-- the comparison of numbers that a word spells
abbrev pub relation_of : List ℕ → Option Relation
relation_of word =
    if bytes_eq word (codes "-eq") then Some relation.Equal else
    if bytes_eq word (codes "-ne") then Some relation.NotEqual else
    if bytes_eq word (codes "-gt") then Some relation.Greater else
    if bytes_eq word (codes "-ge") then Some relation.GreaterOrEqual else
    if bytes_eq word (codes "-lt") then Some relation.Less else
    if bytes_eq word (codes "-le") then Some relation.LessOrEqual else
    None

-- the operator between two operands that a word spells
unfoldable pub binary_of : List ℕ → Option Binary
binary_of word =
    if bytes_eq word (codes "=") then Some binary.Same else
    if bytes_eq word (codes "!=") then Some binary.Differ else
    option_map (λ how. binary.Compare how) (relation_of word)
