-- Why the code gives no script.
use Rattle.std.specs.Prelude.{ℕ, List}
use Rattle.sh_parse.specs.Outcomes.{IsStopped}
use Rattle.sh_parse.specs.declared.scripts.ParseRefusal.{ParseRefusal}
use Rattle.sh_parse.specs.declared.scripts.ParseRefusal.TheVariants as parse

-- the text is refused so; want of memory is free
abbrev pub Refuses : List ℕ → ParseRefusal → Type 0
Refuses text (parse.Refused told) = IsStopped text told
Refuses text parse.Memory = Unit {0}
