-- Faults of an expansion.
use Rattle.sh_arith.specs.declared.faults.ArithFault.{ArithFault}
use Rattle.sh_arith.specs.declared.faults.ArithFault.TheVariants as arithmetic
use Rattle.sh_expand.specs.declared.faults.ExpandFault.{ExpandFault}
use Rattle.sh_expand.specs.declared.faults.ExpandFault.TheVariants as expand
use Rattle.sh_expand.specs.declared.faults.ValueFault.{ValueFault}
use Rattle.sh_expand.specs.declared.faults.ValueFault.TheVariants as value

-- the fault of a word, as callers are told
abbrev pub told : ValueFault → ExpandFault
told (value.Unset name text) = expand.Unset name text
told (value.Arith fault) = expand.Arith fault
told value.Memory = expand.Memory

-- the fault of an arithmetic expression, in a word; want of memory has one name
abbrev pub arith_fault : ArithFault → ValueFault
arith_fault arithmetic.Syntax = value.Arith arithmetic.Syntax
arith_fault arithmetic.DivideByZero = value.Arith arithmetic.DivideByZero
arith_fault arithmetic.Overflow = value.Arith arithmetic.Overflow
arith_fault (arithmetic.NotANumber name) = value.Arith (arithmetic.NotANumber name)
arith_fault arithmetic.Deep = value.Arith arithmetic.Deep
arith_fault arithmetic.Memory = value.Memory
