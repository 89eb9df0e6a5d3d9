-- Digits directly before `<` or `>` are an IoNumber (XCU 2.10.1 rule 2). Where the operator is `<` it is exactly `0`, where it is
-- `>`, `>>` or `>&` exactly `1` or `2` (own); a longer operator isn't in the profile itself.
use Rattle.std.specs.Prelude.{ℕ, Bool, false, List, [], ◌∷◌, ◌+◌, ◌==◌, ◌||◌, ◌&&◌, if◌then◌else◌, length}
use Rattle.std.specs.Char.{is_ascii_digit}
use Rattle.sh_lex.specs.Texts.{unspliced, behind_run}
use Rattle.sh_lex.specs.Acts.{Found, token, word, offence}
use Rattle.sh_lex.specs.declared.bytes.TheConstants.{LESS, GREAT, AND, PIPE, ZERO, ONE, TWO}
use Rattle.sh_lex.specs.declared.tokens.TokenKind.TheVariants as kind
use Rattle.sh_lex.specs.declared.parts.Fault.TheVariants as fault

-- the first byte of a text is this one
abbrev pub begins_with : ℕ → List ℕ → Bool
begins_with wanted [] = false
begins_with wanted (byte ∷ rest) = byte == wanted

-- whether digits that begin with `digit` fit the operator whose first byte is `sign`; `single`: there is one digit,
-- `behind`: what is left behind the sign
abbrev pub fits_less : ℕ → Bool → List ℕ → Bool
fits_less digit single behind =
    begins_with LESS behind || begins_with AND behind || begins_with GREAT behind || (single && (digit == ZERO))

abbrev pub fits_great : ℕ → Bool → List ℕ → Bool
fits_great digit single behind = begins_with PIPE behind || (single && ((digit == ONE) || (digit == TWO)))

-- digits that begin with `digit`, `left` bytes left there, are judged by what stands behind them
abbrev pub number_at : ℕ → ℕ → Bool → List ℕ → List ℕ → Found
number_at digit left single text [] = word
number_at digit left single text (byte ∷ rest) =
    if byte == LESS then
    (if fits_less digit single (unspliced rest) then token kind.IoNumber text else offence (fault.Number left))
    else if byte == GREAT then
    (if fits_great digit single (unspliced rest) then token kind.IoNumber text else offence (fault.Number left))
    else word

-- `rest` is what is left behind the first digit
abbrev pub after_digit : ℕ → List ℕ → Found
after_digit digit rest =
    number_at digit (length rest + 1) (length (behind_run is_ascii_digit rest) == length rest)
    (behind_run is_ascii_digit rest) (unspliced (behind_run is_ascii_digit rest))
