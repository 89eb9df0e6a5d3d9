use Rattle.std.proofs.Common.{◌≡◌, drop, find, nat_eq}
use Rattle.std.specs.Cmp.Lexicographic.{pointwise}
use Rattle.ps_lines.specs.Classes.{class_name}
use Rattle.ps_lines.proofs.class.class_among.Given as goal

abbrev pub invariant-loop-class : goal.invariant-loop-class
invariant-loop-class l =
    find (λ class. pointwise nat_eq (class_name class) l.name) (drop l.class-index l.classes)
    ≡ find (λ class. pointwise nat_eq (class_name class) l.name) l.classes
