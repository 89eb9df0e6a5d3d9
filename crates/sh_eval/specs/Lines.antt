-- The lines that a shell and its commands tell on descriptor 2 (own, but for the reasons, which are those of the C library).
use Rattle.std.specs.Prelude.{ℕ, List, [], ◌++◌, codes}
use Rattle.sh_arith.specs.declared.faults.ArithFault.{ArithFault}
use Rattle.sh_arith.specs.declared.faults.ArithFault.TheVariants as arithmetic

-- a line of what stands in the way: who tells it, of what, and the reason
abbrev pub diagnostic : List ℕ → List ℕ → List ℕ → List ℕ
diagnostic name subject reason = name ++ codes ": " ++ subject ++ codes ": " ++ reason ++ codes "\n"

abbrev pub no_such_file : List ℕ
no_such_file = codes "No such file or directory"

abbrev pub is_a_directory : List ℕ
is_a_directory = codes "Is a directory"

-- the command's words can't be used
abbrev pub bad_usage : List ℕ → List ℕ
bad_usage name = name ++ codes ": bad usage\n"

-- a parameter that has to be set isn't
abbrev pub unset_line : List ℕ → List ℕ → List ℕ
unset_line name text = diagnostic (codes "pash") name text

abbrev pub arithmetic_reason : ArithFault → List ℕ
arithmetic_reason arithmetic.Syntax = codes "syntax"
arithmetic_reason arithmetic.DivideByZero = codes "division by zero"
arithmetic_reason arithmetic.Overflow = codes "overflow"
arithmetic_reason (arithmetic.NotANumber name) = codes "not a number"
arithmetic_reason arithmetic.Deep = codes "too deep"
arithmetic_reason arithmetic.Memory = []

-- an arithmetic expression has no value
abbrev pub arithmetic_line : ArithFault → List ℕ
arithmetic_line fault = diagnostic (codes "pash") (codes "arithmetic") (arithmetic_reason fault)
