-- A class is read in three steps: what opens it, its name, and what closes it.
use Rattle.std.proofs.Common.{◌≡◌, ℕ, Bool, true, false, List, [], ◌∷◌, ◌++◌, Some, None, Option, codes, refl, ap, ◌∙◌, if◌then◌else◌}
use Rattle.ps_lines.specs.declared.class.Class.{Class}
use Rattle.ps_lines.specs.Classes.{class_name}
use Rattle.sh_pattern.specs.declared.marks.Mark.{Mark}
use Rattle.sh_pattern.specs.Marks.{is_unquoted, past_spelling}
use Rattle.sh_pattern.specs.Classes.{spelling}

-- what follows the bytes in a text that may be there
abbrev further : List ℕ → Option (List Mark) → Option (List Mark)
further bytes None = None
further bytes (Some text) = past_spelling bytes text

past_spelling-append : (bytes more : List ℕ) (text : List Mark) → past_spelling (bytes ++ more) text ≡ further more (past_spelling bytes text)
past_spelling-append [] more text = refl
past_spelling-append (byte ∷ bytes) more [] = refl
past_spelling-append (byte ∷ bytes) more (mark ∷ text) = by_test (is_unquoted byte mark) (past_spelling-append bytes more text)
  where
    by_test : (test : Bool) → past_spelling (bytes ++ more) text ≡ further more (past_spelling bytes text)
        → (if test then past_spelling (bytes ++ more) text else None) ≡ further more (if test then past_spelling bytes text else None)
    by_test true behind = behind
    by_test false behind = refl

-- no class where another name stands
pub other_name : (class : Class) (text named : List Mark) → past_spelling (codes "[:") text ≡ Some named
    → past_spelling (class_name class) named ≡ None → past_spelling (spelling class) text ≡ None
other_name class text named opens other =
    past_spelling-append (codes "[:") (class_name class ++ codes ":]") text ∙ ap (further (class_name class ++ codes ":]")) opens
    ∙ past_spelling-append (class_name class) (codes ":]") named ∙ ap (further (codes ":]")) other

-- behind the name the class has to close
pub its_name : (class : Class) (text named closed : List Mark) → past_spelling (codes "[:") text ≡ Some named
    → past_spelling (class_name class) named ≡ Some closed → past_spelling (spelling class) text ≡ past_spelling (codes ":]") closed
its_name class text named closed opens name =
    past_spelling-append (codes "[:") (class_name class ++ codes ":]") text ∙ ap (further (class_name class ++ codes ":]")) opens
    ∙ past_spelling-append (class_name class) (codes ":]") named ∙ ap (further (codes ":]")) name
