-- Whether a word assigns a variable, as it is written: an expansion `${x=word}` or `${x:=word}` at any depth, or directly in the text of
-- an arithmetic expansion an `=` that by longest match is no part of `==`, `!=`, `<=` or `>=` (own).
use Rattle.std.specs.Prelude.{ℕ, Bool, true, false, List, [], ◌∷◌, ◌==◌, ◌||◌, ◌&&◌, if◌then◌else◌}
use Rattle.sh_tree.specs.Trees.{WordTree, no_part, part, PartTree, plain, quoted, parameter, substitution, arithmetic, FormTree, bare, length_of, default, assign, check_omitted, check, alternate, cut_suffix, cut_prefix}
use Rattle.sh_lex.specs.declared.bytes.TheConstants.{BANG, LESS, EQUALS, GREAT}

-- two bytes that are one operator of an expression: `==`, `!=`, `<=`, `>=`, `<<`, `>>`. No operator is longer (own): `<<=` is `<<`
-- and `=`, and `+=` is `+` and `=`.
abbrev pub is_pair : ℕ → ℕ → Bool
is_pair first second =
    ((second == EQUALS) && ((first == EQUALS) || (first == BANG) || (first == LESS) || (first == GREAT)))
    || ((first == LESS) && (second == LESS)) || ((first == GREAT) && (second == GREAT))

-- an `=` stands in the text by itself
abbrev pub text_assigns : List ℕ → Bool
text_assigns [] = false
text_assigns (first ∷ []) = first == EQUALS
text_assigns (first ∷ second ∷ rest) =
    if is_pair first second then text_assigns rest else (first == EQUALS) || text_assigns (second ∷ rest)

-- the flag says that the word is the text of an arithmetic expansion
abbrev mutual
  pub word_assigns : Bool → WordTree → Bool
  word_assigns in_arithmetic no_part = false
  word_assigns in_arithmetic (part first rest) = part_assigns in_arithmetic first || word_assigns in_arithmetic rest

  pub part_assigns : Bool → PartTree → Bool
  part_assigns in_arithmetic (plain bytes) = in_arithmetic && text_assigns bytes
  part_assigns in_arithmetic (quoted bytes) = false
  part_assigns in_arithmetic (parameter what form is_quoted) = form_assigns form
  part_assigns in_arithmetic (substitution number is_quoted) = false
  part_assigns in_arithmetic (arithmetic word is_quoted) = word_assigns true word

  pub form_assigns : FormTree → Bool
  form_assigns bare = false
  form_assigns length_of = false
  form_assigns (default colon word) = word_assigns false word
  form_assigns (assign colon word) = true
  form_assigns (check_omitted colon) = false
  form_assigns (check colon word) = word_assigns false word
  form_assigns (alternate colon word) = word_assigns false word
  form_assigns (cut_suffix longest word) = word_assigns false word
  form_assigns (cut_prefix longest word) = word_assigns false word
