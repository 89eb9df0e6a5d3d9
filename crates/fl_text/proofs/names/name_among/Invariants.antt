use Rattle.std.proofs.Common.{◌≡◌, drop, find, nat_eq}
use Rattle.std.specs.Cmp.Lexicographic.{pointwise}
use Rattle.fl_text.specs.Names.{name_text}
use Rattle.fl_text.proofs.names.name_among.Given as goal

abbrev pub invariant-loop-name : goal.invariant-loop-name
invariant-loop-name l =
    find (λ name. pointwise nat_eq (name_text name) l.text) (drop l.name-index l.names)
    ≡ find (λ name. pointwise nat_eq (name_text name) l.text) l.names
