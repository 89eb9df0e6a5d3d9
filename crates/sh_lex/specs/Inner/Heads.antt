-- A parameter of a `${ }`, as the code looks for it at a text.
use Rattle.std.specs.Prelude.{ℕ, Bool, List, [], ◌∷◌}
use Rattle.std.specs.declared.option.Option.{Option}
use Rattle.std.specs.declared.option.Option.TheVariants.{None}
use Rattle.sh_tree.specs.declared.words.Param.{Param}
use Rattle.sh_lex.specs.Heads.{parameter_at}

-- the parameter that the text begins with
abbrev pub parameter_in : List ℕ → Option (Param × Bool × List ℕ)
parameter_in [] = None
parameter_in (byte ∷ rest) = parameter_at byte rest
