-- Character classes in a pattern (XBD 9.3.5, item 6). A class expression is `[:`, one of twelve names and `:]`.
use Rattle.std.specs.Prelude.{ℕ, List, [], ◌∷◌, ◌++◌, Option, Some, None, codes}
use Rattle.ps_lines.specs.declared.class.Class.{Class}
use Rattle.ps_lines.specs.Classes.{class_name, all_classes}
use Rattle.sh_pattern.specs.declared.marks.Mark.{Mark}
use Rattle.sh_pattern.specs.Marks.{past_spelling}

-- how a class is written
abbrev pub spelling : Class → List ℕ
spelling class = codes "[:" ++ (class_name class ++ codes ":]")

-- the class that the text begins with, with what follows it once its spelling is found
abbrev pub found : Class → Option (List Mark) → Option (Class × List Mark) → Option (Class × List Mark)
found class (Some rest) others = Some (class, rest)
found class None others = others

-- the first of the classes with which the text begins, and what follows it
abbrev pub class_among : List Class → List Mark → Option (Class × List Mark)
class_among [] text = None
class_among (first ∷ others) text = found first (past_spelling (spelling first) text) (class_among others text)

-- the class with which the text begins, and what follows it; no two are spelled alike
unfoldable pub class_at : List Mark → Option (Class × List Mark)
class_at text = class_among all_classes text
