-- The bytes that decide what a word is: all others make no difference.
use Rattle.std.proofs.Common.{◌≡◌, ℕ, Bool, true, false, Option, None, Some, List, [], ◌∷◌, ◌==◌, ◌&&◌, ◌||◌, if◌then◌else◌, take, refl, sym, ◌∙◌, ap}
use Rattle.std.specs.Prelude.{codes}
use Rattle.std.specs.Str.{bytes_eq}
use Rattle.std.proofs.lemmas.Bool.{false≢true}
use Rattle.std.proofs.lemmas.Bool.Decides.{same_from_decides}
use Rattle.std.proofs.lemmas.Slice.Eq.{bytes_eq-Decides}
use Rattle.ps_lines.specs.Bytes.{is_name_start, is_name_byte}
use Rattle.std.specs.Char.{is_ascii_digit}
use Rattle.sh_lex.specs.declared.bytes.TheConstants.{EQUALS}
use Rattle.sh_lex.specs.Texts.{unspliced}
use Rattle.sh_parse.proofs.Spellings.{spelled-none, spelled-front}
use Rattle.sh_parse.specs.Kinds.{spelled, reserved_by, are_name_bytes, is_name_text, goes_to_value, is_assign, other_kind, kind_by, kind_of}
use Rattle.sh_parse.specs.Inner.Kinds.{deciding}
use Rattle.sh_parse.specs.declared.items.WordKind.{WordKind}
use Rattle.sh_parse.specs.declared.items.Reserved.{Reserved}

abbrev is_nothing : List ℕ → Bool
is_nothing [] = true
is_nothing (byte ∷ rest) = false

-- nothing stands behind the first byte that no name has: then all bytes decide
abbrev ends_there : List ℕ → Bool
ends_there [] = true
ends_there (byte ∷ rest) = if is_name_byte byte then ends_there rest else is_nothing rest

one_taken : (rest : List ℕ) → is_nothing (take 1 rest) ≡ true → take 1 rest ≡ rest
one_taken [] h = refl
one_taken (byte ∷ rest) h = absurd (false≢true h)

none_taken : (rest : List ℕ) → is_nothing rest ≡ true → take 1 rest ≡ rest
none_taken [] h = refl
none_taken (byte ∷ rest) h = absurd (false≢true h)

cut_if : (test : Bool) (byte : ℕ) (rest : List ℕ) → (ends_there (deciding rest) ≡ true → deciding rest ≡ rest)
    → (if test then ends_there (if test then deciding rest else take 1 rest) else is_nothing (if test then deciding rest else take 1 rest)) ≡ true
    → byte ∷ (if test then deciding rest else take 1 rest) ≡ byte ∷ rest
cut_if true byte rest on h = ap (λ x. byte ∷ x) (on h)
cut_if false byte rest on h = ap (λ x. byte ∷ x) (one_taken rest h)

all_of_cut : (bytes : List ℕ) → ends_there (deciding bytes) ≡ true → deciding bytes ≡ bytes
all_of_cut [] h = refl
all_of_cut (byte ∷ rest) h = cut_if (is_name_byte byte) byte rest (all_of_cut rest) h

all_if : (test : Bool) (byte : ℕ) (rest : List ℕ) → (ends_there rest ≡ true → deciding rest ≡ rest)
    → (if test then ends_there rest else is_nothing rest) ≡ true → byte ∷ (if test then deciding rest else take 1 rest) ≡ byte ∷ rest
all_if true byte rest on h = ap (λ x. byte ∷ x) (on h)
all_if false byte rest on h = ap (λ x. byte ∷ x) (none_taken rest h)

all_of : (bytes : List ℕ) → ends_there bytes ≡ true → deciding bytes ≡ bytes
all_of [] h = refl
all_of (byte ∷ rest) h = all_if (is_name_byte byte) byte rest (all_of rest) h

-- the bytes are such a word where those that decide are
same_word : (bytes word : List ℕ) → ends_there word ≡ true → bytes_eq (deciding bytes) word ≡ bytes_eq bytes word
same_word bytes word ends =
    same_from_decides (bytes_eq (deciding bytes) word) (bytes_eq bytes word) (bytes_eq-Decides (deciding bytes) word) (
      λ e. let is : bytes ≡ word = (bytes_eq-Decides bytes word).0 e in ap deciding is ∙ all_of word ends,
      λ d. (bytes_eq-Decides bytes word).1 (sym (all_of_cut bytes (ap ends_there d ∙ ends)) ∙ d),
    )

reserved_same : (bytes : List ℕ) → reserved_by (deciding bytes) ≡ reserved_by bytes
unfolding reserved_by
reserved_same bytes =
    rw (
      same_word bytes (codes "!") refl,
      same_word bytes (codes "{") refl,
      same_word bytes (codes "}") refl,
      same_word bytes (codes "if") refl,
      same_word bytes (codes "then") refl,
      same_word bytes (codes "elif") refl,
      same_word bytes (codes "else") refl,
      same_word bytes (codes "fi") refl,
      same_word bytes (codes "while") refl,
      same_word bytes (codes "until") refl,
      same_word bytes (codes "do") refl,
      same_word bytes (codes "done") refl,
      same_word bytes (codes "for") refl,
      same_word bytes (codes "case") refl,
      same_word bytes (codes "esac") refl,
    ) refl

are_if : (test : Bool) (rest : List ℕ) → are_name_bytes (deciding rest) ≡ are_name_bytes rest
    → (test && are_name_bytes (if test then deciding rest else take 1 rest)) ≡ (test && are_name_bytes rest)
are_if true rest on = on
are_if false rest on = refl

are_same : (bytes : List ℕ) → are_name_bytes (deciding bytes) ≡ are_name_bytes bytes
are_same [] = refl
are_same (byte ∷ rest) = are_if (is_name_byte byte) rest (are_same rest)

goes_if : (equals test : Bool) (rest : List ℕ) → goes_to_value (deciding rest) ≡ goes_to_value rest
    → (if equals then true else (test && goes_to_value (if test then deciding rest else take 1 rest)))
    ≡ (if equals then true else (test && goes_to_value rest))
goes_if true test rest on = refl
goes_if false true rest on = on
goes_if false false rest on = refl

goes_same : (bytes : List ℕ) → goes_to_value (deciding bytes) ≡ goes_to_value bytes
goes_same [] = refl
goes_same (byte ∷ rest) = goes_if (byte == EQUALS) (is_name_byte byte) rest (goes_same rest)

-- behind the first byte of a name
module _ (test : List ℕ → Bool) (same : (bytes : List ℕ) → test (deciding bytes) ≡ test bytes) where
  begun_if : (begins goes : Bool) (rest : List ℕ) → (begins && test (if begins || goes then deciding rest else take 1 rest)) ≡ (begins && test rest)
  begun_if true goes rest = same rest
  begun_if false goes rest = refl

name_same : (bytes : List ℕ) → is_name_text (deciding bytes) ≡ is_name_text bytes
name_same [] = refl
name_same (byte ∷ rest) = begun_if are_name_bytes are_same (is_name_start byte) (is_ascii_digit byte) rest

assign_same : (bytes : List ℕ) → is_assign (deciding bytes) ≡ is_assign bytes
assign_same [] = refl
assign_same (byte ∷ rest) = begun_if goes_to_value goes_same (is_name_start byte) (is_ascii_digit byte) rest

other_same : (bytes : List ℕ) → other_kind (deciding bytes) ≡ other_kind bytes
unfolding other_kind
other_same bytes = rw (same_word bytes (codes "in") refl, name_same bytes, assign_same bytes) refl

kind_by_same : (found : Option Reserved) (bytes : List ℕ) → kind_by found (deciding bytes) ≡ kind_by found bytes
kind_by_same None bytes = other_same bytes
kind_by_same (Some name) bytes = refl

kind_same : (bytes : List ℕ) → kind_of (deciding bytes) ≡ kind_of bytes
kind_same bytes = ap (λ found. kind_by found (deciding bytes)) (reserved_same bytes) ∙ kind_by_same (reserved_by bytes) bytes

-- a word is what the bytes that decide are
pub decided : (all bytes : List ℕ) (kind : WordKind) → bytes ≡ deciding all → kind ≡ kind_of bytes → kind ≡ kind_of all
decided all bytes kind is found = found ∙ ap kind_of is ∙ kind_same all

-- those of a word's text: at its end, at a byte of a name, and at another one
pub cut-none : (text : List ℕ) → unspliced text ≡ [] → deciding (spelled text) ≡ []
cut-none text h = ap deciding (spelled-none text h)

pub cut-name : (byte : ℕ) (rest text : List ℕ) → unspliced text ≡ byte ∷ rest → is_name_byte byte ≡ true
    → deciding (spelled text) ≡ byte ∷ deciding (spelled rest)
cut-name byte rest text h name =
    ap deciding (spelled-front byte rest text h)
    ∙ ap (λ test. byte ∷ (if test then deciding (spelled rest) else take 1 (spelled rest))) name

pub cut-other : (byte : ℕ) (rest text : List ℕ) → unspliced text ≡ byte ∷ rest → is_name_byte byte ≡ false
    → deciding (spelled text) ≡ byte ∷ take 1 (spelled rest)
cut-other byte rest text h other =
    ap deciding (spelled-front byte rest text h)
    ∙ ap (λ test. byte ∷ (if test then deciding (spelled rest) else take 1 (spelled rest))) other
