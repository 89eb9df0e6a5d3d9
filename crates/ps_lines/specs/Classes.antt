-- The twelve character classes of the C locale (XBD 7.3.1), each with its bytes and its name.
use Rattle.std.specs.Prelude.{ℕ, ◌==◌, ◌&&◌, ◌||◌, nat_eq, nat_le, Bool, List, [], ◌∷◌, Option, codes, find}
use Rattle.std.specs.Char.{is_ascii_digit, is_ascii_uppercase, is_ascii_lowercase, is_ascii_graphic, is_ascii_alphabetic, is_ascii_control, is_ascii_alphanumeric, is_ascii_hexdigit, is_ascii_punctuation}
use Rattle.std.specs.Cmp.Lexicographic.{pointwise}
use Rattle.ps_lines.specs.declared.class.Class.{Class}
use Rattle.ps_lines.specs.declared.class.Class.TheVariants as class

-- the byte is of the class
abbrev pub class_has : Class → ℕ → Bool
class_has class.Alnum byte = is_ascii_alphanumeric byte
class_has class.Alpha byte = is_ascii_alphabetic byte
class_has class.Blank byte = byte == 32 || byte == 9
class_has class.Cntrl byte = is_ascii_control byte
class_has class.Digit byte = is_ascii_digit byte
class_has class.Graph byte = is_ascii_graphic byte
class_has class.Lower byte = is_ascii_lowercase byte
class_has class.Print byte = byte == 32 || is_ascii_graphic byte
class_has class.Punct byte = is_ascii_punctuation byte
class_has class.Space byte = byte == 32 || (nat_le 9 byte && nat_le byte 13)
class_has class.Upper byte = is_ascii_uppercase byte
class_has class.Xdigit byte = is_ascii_hexdigit byte

-- the name of the class
abbrev pub class_name : Class → List ℕ
class_name class.Alnum = codes "alnum"
class_name class.Alpha = codes "alpha"
class_name class.Blank = codes "blank"
class_name class.Cntrl = codes "cntrl"
class_name class.Digit = codes "digit"
class_name class.Graph = codes "graph"
class_name class.Lower = codes "lower"
class_name class.Print = codes "print"
class_name class.Punct = codes "punct"
class_name class.Space = codes "space"
class_name class.Upper = codes "upper"
class_name class.Xdigit = codes "xdigit"

abbrev pub all_classes : List Class
all_classes =
    class.Alnum ∷ class.Alpha ∷ class.Blank ∷ class.Cntrl ∷ class.Digit ∷ class.Graph ∷ class.Lower ∷ class.Print
    ∷ class.Punct ∷ class.Space ∷ class.Upper ∷ class.Xdigit ∷ []

-- the class of this name; no two have one name
unfoldable pub class_named : List ℕ → Option Class
class_named name = find (λ class. pointwise nat_eq (class_name class) name) all_classes
