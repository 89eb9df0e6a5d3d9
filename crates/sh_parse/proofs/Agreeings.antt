-- At each byte of a word the scan of a text and the reading of the word's bytes do the same.
use Rattle.std.proofs.Common.{◌≡◌, ℕ, zero, suc, Bool, true, false, not, Option, None, Some, ◌+◌, ◌-◌, ◌≤◌, ◌<◌, List, [], ◌∷◌, ◌==◌, ◌&&◌, ◌||◌, ◌⊎◌, if◌then◌else◌, length, drop, refl, sym, ◌∙◌, ap, subst, inl, inr, arith}
use Rattle.std.specs.Prelude.{nat_lt}
use Rattle.std.proofs.lemmas.Bool.{eqb-true}
use Rattle.std.proofs.lemmas.Bool.Decides.{nat_tests}
use Rattle.ps_lines.specs.Bytes.{is_name_start, is_name_byte}
use Rattle.sh_tree.specs.Trees.{PartTree, plain, quoted}
use Rattle.sh_tree.specs.declared.words.Param.{Param}
use Rattle.sh_tree.specs.declared.words.Param.TheVariants as param
use Rattle.sh_lex.specs.Bytes.{is_parameter, is_quoted_escape, ends_word}
use Rattle.sh_lex.specs.Texts.{fronts, unspliced, run, behind_run, behind_quote, behind_backslash}
use Rattle.sh_lex.specs.Acts.{Act, goes, enters, ends, offends}
use Rattle.sh_lex.specs.Dollars.{opening, substitution, parenthesis, introduced_by, dollar_by, dollar_at, after_dollar, deeper, inside_braces}
use Rattle.sh_lex.specs.DoubleQuotes.{double_quotes_at}
use Rattle.sh_lex.specs.Heads.{brace_head}
use Rattle.sh_lex.specs.Braces.{single_quotes, quote_in_braces, backslash_in_braces, braces_at, braces_word_at}
use Rattle.sh_lex.specs.Arithmetic.{expression_at, closing_at, arithmetic_at, parentheses_at}
use Rattle.sh_lex.specs.Commands.{is_tilde_spot, spot_behind, spot_past, word_at, in_word, in_commands}
use Rattle.sh_lex.specs.Reads.{act}
use Rattle.sh_lex.proofs.Fronts.{length-unspliced, behind_run-name}
use Rattle.sh_lex.proofs.Shorter.{length-behind_quote, length-behind_backslash}
use Rattle.sh_lex.specs.declared.parts.Nest.{Nest}
use Rattle.sh_lex.specs.declared.parts.Construct.{Construct}
use Rattle.sh_lex.specs.declared.parts.Construct.TheVariants as part
use Rattle.sh_lex.specs.declared.parts.Spot.{Spot}
use Rattle.sh_lex.specs.declared.parts.Spot.TheVariants as spot
use Rattle.sh_lex.specs.declared.parts.Fault.{Fault}
use Rattle.sh_lex.specs.declared.parts.Spelling.TheVariants as spelling
use Rattle.sh_lex.specs.declared.parts.TheConstants.{MAX_LEVELS}
use Rattle.sh_lex.specs.declared.dollars.Introduced.{Introduced}
use Rattle.sh_lex.specs.declared.dollars.Introduced.TheVariants as introduced
use Rattle.sh_lex.specs.declared.bytes.TheConstants.{QUOTE, DOUBLE_QUOTE, BACKSLASH, BACKQUOTE, DOLLAR, CLOSE_BRACE, OPEN, CLOSE, TILDE, BANG, DASH, OPEN_BRACE}
use Rattle.sh_words.specs.Pieces.{literal}
use Rattle.sh_words.specs.Steps as words
use Rattle.sh_words.specs.Steps.{Step, passes, gives, expands, step, is_introduced, begins_expansion, dollar, opened, backslash, escape, unquoted_at, in_quotes_at, parenthesis_closed}
use Rattle.sh_words.specs.Parameters.{Expansion, whole, braced, parenthesis_at, special, commands, arithmetic_text, expansion_by, expansion_at, expansion}
use Rattle.sh_words.specs.Words.{Passes, in_commands as commands_part}
use Rattle.sh_words.specs.declared.steps.Owner.{Owner}
use Rattle.sh_words.specs.declared.steps.Owner.TheVariants as owner
use Rattle.sh_words.specs.declared.steps.Mode.{Mode}
use Rattle.sh_words.specs.declared.steps.Mode.TheVariants as mode
use Rattle.sh_parse.proofs.Cuts.{Cut, at_cut, before, Past, Or, FirstPast, FirstCut, none_next, backslash_next, byte_next, unspliced-cut, drop-cut, backslash-cut}
use Rattle.sh_parse.proofs.Takings.{Takes, takes_quote, TakesOne, Then, TakesBy, taken-by, TakesForm, taken-form}

-- THE BYTES that mean something in a word, and the others
pub record IsOther (byte : ℕ) : Type 0 where
  pub no_quote : (byte == QUOTE) ≡ false
  pub no_string : (byte == DOUBLE_QUOTE) ≡ false
  pub no_backslash : (byte == BACKSLASH) ≡ false
  pub no_backquote : (byte == BACKQUOTE) ≡ false
  pub no_dollar : (byte == DOLLAR) ≡ false
  pub no_brace : (byte == CLOSE_BRACE) ≡ false
  pub no_open : (byte == OPEN) ≡ false
  pub no_close : (byte == CLOSE) ≡ false

pub data Byte : ℕ → Type 0 where
  a_quote : Byte QUOTE
  a_string : Byte DOUBLE_QUOTE
  a_backslash : Byte BACKSLASH
  a_backquote : Byte BACKQUOTE
  a_dollar : Byte DOLLAR
  a_brace : Byte CLOSE_BRACE
  an_open : Byte OPEN
  a_close : Byte CLOSE
  another : {byte : ℕ} → IsOther byte → Byte byte

choose : (byte other : ℕ) → Byte other → ((byte == other) ≡ false → Byte byte) → Byte byte
choose byte other same differs = by_test (byte == other) refl
  where
    by_test : (test : Bool) → (byte == other) ≡ test → Byte byte
    by_test true e = subst Byte (sym (eqb-true byte other e)) same
    by_test false e = differs e

sort_of : (byte : ℕ) → Byte byte
sort_of byte =
    choose byte QUOTE a_quote (λ a. choose byte DOUBLE_QUOTE a_string (λ b. choose byte BACKSLASH a_backslash (λ c. choose byte BACKQUOTE a_backquote (λ d.
    choose byte DOLLAR a_dollar (λ e. choose byte CLOSE_BRACE a_brace (λ f. choose byte OPEN an_open (λ g. choose byte CLOSE a_close (λ h.
    another (record { no_quote = a; no_string = b; no_backslash = c; no_backquote = d; no_dollar = e; no_brace = f; no_open = g; no_close = h })))))))))

-- a name begins behind the `$`
name_by : (a b c d e f g : Bool) (one two three : Introduced) → (one ≡ introduced.Name → ⊥) → (two ≡ introduced.Name → ⊥) → (three ≡ introduced.Name → ⊥)
    → (if a then one else if b then two else if c then three else if d then introduced.Braces else if e then introduced.Parenthesis
    else if f then introduced.Name else if g then introduced.Special else introduced.Nothing) ≡ introduced.Name → f ≡ true
name_by true b c d e f g one two three x y z is = absurd (x is)
name_by false true c d e f g one two three x y z is = absurd (y is)
name_by false false true d e f g one two three x y z is = absurd (z is)
name_by false false false true e f g one two three x y z is = absurd cc
name_by false false false false true f g one two three x y z is = absurd cc
name_by false false false false false true g one two three x y z is = refl
name_by false false false false false false true one two three x y z is = absurd cc
name_by false false false false false false false one two three x y z is = absurd cc

name_starts : (byte : ℕ) → introduced_by byte ≡ introduced.Name → is_name_start byte ≡ true
unfolding introduced_by
name_starts byte e =
    name_by (byte == DOLLAR) (byte == BANG) (byte == DASH) (byte == OPEN_BRACE) (byte == OPEN) (is_name_start byte) (is_parameter byte)
    (introduced.OutOfProfile spelling.DollarDollar) (introduced.OutOfProfile spelling.DollarBang) (introduced.OutOfProfile spelling.DollarDash)
    (λ h. cc) (λ h. cc) (λ h. cc) e

backslash_introduces : introduced_by BACKSLASH ≡ introduced.Nothing
unfolding introduced_by is_parameter
backslash_introduces = refl

none_left_of : unspliced [] ≡ []
unfolding unspliced fronts
none_left_of = refl

-- parentheses that are open
is_more : (depth : ℕ) → (suc depth == 0) ≡ false
is_more depth = grind (arith, nat_tests)

one_less : (depth : ℕ) → suc depth - 1 ≡ depth
one_less depth = omega arith

-- a choice whose test is known
taken_if : (test : Bool) {one : Step} (other : Step) → test ≡ true → (if test then one else other) ≡ one
taken_if true other e = refl
taken_if false other e = absurd cc

drop-less : (rest : List ℕ) → length (drop 1 rest) ≤ length rest
drop-less [] = omega arith
drop-less (byte ∷ rest) = omega arith

-- CONSTRUCTS AND MODES
abbrev pub IsWordSpot : Spot → Type 0
IsWordSpot spot.Between = ⊥
IsWordSpot spot.Begin = Unit {0}
IsWordSpot spot.Name = Unit {0}
IsWordSpot spot.ValueBegin = Unit {0}
IsWordSpot spot.Value = Unit {0}
IsWordSpot spot.Elsewhere = Unit {0}

spot_if : (test : Bool) (one other : Spot) → IsWordSpot one → IsWordSpot other → IsWordSpot (if test then one else other)
spot_if true one other a b = a
spot_if false one other a b = b

pub past-spot : (at : Spot) → IsWordSpot (spot_past at)
past-spot spot.Between = tt
past-spot spot.Begin = tt
past-spot spot.Name = tt
past-spot spot.ValueBegin = tt
past-spot spot.Value = tt
past-spot spot.Elsewhere = tt

pub behind-spot : (at : Spot) (byte : ℕ) → IsWordSpot (spot_behind at byte)
behind-spot spot.Between byte = tt
behind-spot spot.Begin byte = spot_if (is_name_start byte) spot.Name spot.Elsewhere tt tt
behind-spot spot.Name byte =
    spot_if (byte == 61) spot.ValueBegin (if is_name_byte byte then spot.Name else spot.Elsewhere) tt (spot_if (is_name_byte byte) spot.Name spot.Elsewhere tt tt)
behind-spot spot.ValueBegin byte = spot_if (byte == 58) spot.ValueBegin spot.Value tt tt
behind-spot spot.Value byte = spot_if (byte == 58) spot.ValueBegin spot.Value tt tt
behind-spot spot.Elsewhere byte = tt

pub data Fits : Construct → Mode → Type 0 where
  fits_word : {nest : Nest} {at : Spot} → IsWordSpot at → Fits (part.Commands nest None at) (mode.Word owner.Token)
  fits_string : {nest : Nest} {start : ℕ} {of : Owner} → Fits (part.DoubleQuotes nest start) (mode.DoubleQuotes of)
  fits_braces : {nest : Nest} {start : ℕ} {is_quoted : Bool} → Fits (part.Braces nest start is_quoted) (mode.Word (owner.Braces is_quoted))
  fits_arithmetic : {nest : Nest} {start : ℕ} → Fits (part.Arithmetic nest start) (mode.Arithmetic 0)
  fits_parentheses : {nest : Nest} {start depth : ℕ} → Fits (part.Parentheses nest start) (mode.Arithmetic (suc depth))

abbrev pub owner_of : Mode → Owner
owner_of (mode.Word of) = of
owner_of (mode.DoubleQuotes of) = of
owner_of (mode.SingleQuotes of) = of
owner_of (mode.Arithmetic depth) = owner.Token

abbrev pub depth_of : Mode → ℕ
depth_of (mode.Word of) = 0
depth_of (mode.DoubleQuotes of) = 0
depth_of (mode.SingleQuotes of) = 0
depth_of (mode.Arithmetic depth) = depth

-- what is taken behind the end of what the bytes stand in, at a copy
abbrev pub Left : Mode → List ℕ → ℕ → ℕ → List ℕ → Type 0
Left (mode.Word owner.Token) copy number last left = copy ≡ [] → last ≡ number
Left (mode.Word (owner.Braces is_quoted)) copy number last left = (last ≡ number) × (left ≡ copy)
Left (mode.DoubleQuotes of) copy number last left = Takes (mode.Word of) number copy last left
Left (mode.SingleQuotes of) copy number last left = ⊥
Left (mode.Arithmetic zero) copy number last left = (last ≡ number) × (left ≡ copy)
Left (mode.Arithmetic (suc depth)) copy number last left = Takes (mode.Arithmetic depth) number copy last left

module _ (tail : List ℕ) where
  -- what is taken from where a construct opens
  pub record Inside (in_mode : Mode) (rest : List ℕ) (next : Step) (Reads : List ℕ → ℕ → ℕ → List ℕ → Type 0) : Type 0 where
    pub copy : List ℕ
    pub cut : Cut tail rest copy
    pub reads : (number last : ℕ) (left : List ℕ) → TakesBy in_mode next number last left → Reads copy number last left

  abbrev pub Enters : Mode → Construct → List ℕ → Step → Type 0
  Enters in_mode part.Name rest next = Inside in_mode rest next (λ copy number last left. Takes in_mode number (behind_run is_name_byte copy) last left)
  Enters in_mode (part.DoubleQuotes nest start) rest next =
      (in_mode ≡ mode.Word (owner_of in_mode)) × Inside in_mode rest next (λ copy number last left. Takes (mode.DoubleQuotes (owner_of in_mode)) number copy last left)
  Enters in_mode (part.BraceHead nest start is_quoted) rest next =
      Inside in_mode rest next (λ copy number last left. Then in_mode (λ middle after. TakesForm is_quoted (braced (brace_head copy)) number middle after) last left)
  Enters in_mode (part.Braces nest start is_quoted) rest next = ⊥
  Enters in_mode (part.Arithmetic nest start) rest next =
      Inside in_mode rest next (λ copy number last left. Then in_mode (λ middle after. Takes (mode.Arithmetic 0) number copy middle after) last left)
  Enters in_mode (part.Parentheses nest start) rest next =
      (in_mode ≡ mode.Arithmetic (depth_of in_mode)) × Inside in_mode rest next (λ copy number last left. Takes (mode.Arithmetic (suc (depth_of in_mode))) number copy last left)
  Enters in_mode (part.Commands nest (Some start) spot.Between) rest next =
      Inside in_mode rest next (λ copy number last left. Then in_mode (λ middle after. (middle ≡ number + 1) × Passes commands_part copy after) last left)
  Enters in_mode (part.Commands nest opened at) rest next = ⊥

  -- an act of the scan and a step of the reading
  pub data Agree (in_mode : Mode) : Act → Step → Type 0 where
    agree_goes : {next : Construct} {rest copy : List ℕ} {does : Step} → Fits next in_mode → Cut tail rest copy
        → ((number last : ℕ) (left : List ℕ) → TakesBy in_mode does number last left → Takes in_mode number copy last left)
        → Agree in_mode (goes next rest) does
    past_goes : {next : Construct} {rest : List ℕ} {does : Step} → Past tail rest → Agree in_mode (goes next rest) does
    agree_enters : {inner outer : Construct} {rest : List ℕ} {does : Step} → Fits outer in_mode → Enters in_mode inner rest does
        → Agree in_mode (enters inner outer rest) does
    past_enters : {inner outer : Construct} {rest : List ℕ} {does : Step} → Past tail rest → Agree in_mode (enters inner outer rest) does
    agree_ends : {rest copy : List ℕ} {does : Step} → Cut tail rest copy
        → ((number last : ℕ) (left : List ℕ) → TakesBy in_mode does number last left → Left in_mode copy number last left)
        → Agree in_mode (ends rest) does
    past_ends : {rest : List ℕ} {does : Step} → Past tail rest → Agree in_mode (ends rest) does
    offends_anyway : {fault : Fault} {does : Step} → Agree in_mode (offends fault) does

  module _ {in_mode : Mode} where
    first_if : (test : Bool) {one other : Act} {does : Step} → Agree in_mode one does → Agree in_mode other does
        → Agree in_mode (if test then one else other) does
    first_if true a b = a
    first_if false a b = b

    both_if : (test : Bool) {one other : Act} {does makes : Step} → Agree in_mode one does → Agree in_mode other makes
        → Agree in_mode (if test then one else other) (if test then does else makes)
    both_if true a b = a
    both_if false a b = b

    go_or : {next : Construct} {rest copy : List ℕ} {does : Step} → Fits next in_mode → Or tail rest copy
        → ((number last : ℕ) (left : List ℕ) → TakesBy in_mode does number last left → Takes in_mode number copy last left)
        → Agree in_mode (goes next rest) does
    go_or fits (inl h) reads = past_goes h
    go_or fits (inr cut) reads = agree_goes fits cut reads

    -- WHAT LOOKS PAST THE CUT
    opening-past : (nest : Nest) (start : ℕ) (inner outer : Construct) (rest : List ℕ) (does : Step) → Past tail rest
        → Agree in_mode (opening nest start inner outer rest) does
    opening-past nest start inner outer rest does h = first_if (nat_lt nest.levels MAX_LEVELS) (past_enters h) offends_anyway

    substitution-past : (nest : Nest) (start : ℕ) (outer : Construct) (rest : List ℕ) (does : Step) → Past tail rest
        → Agree in_mode (substitution nest start outer rest) does
    substitution-past nest start outer rest does h = first_if nest.in_braces offends_anyway (opening-past nest start _ outer rest does h)

    parenthesis-past : (nest : Nest) (start : ℕ) (outer : Construct) (inner front : List ℕ) (does : Step) → Past tail inner → length front ≤ length inner
        → Agree in_mode (parenthesis nest start outer inner front) does
    parenthesis-past nest start outer inner [] does h less = substitution-past nest start outer inner does h
    parenthesis-past nest start outer inner (byte ∷ rest) does h less =
        first_if (byte == OPEN) (opening-past nest start _ outer rest does (omega (arith, h, less))) (substitution-past nest start outer inner does h)

    by-past : (what : Introduced) (nest : Nest) (is_quoted : Bool) (start : ℕ) (outer : Construct) (text rest : List ℕ) (does : Step) → Past tail text → Past tail rest
        → Agree in_mode (dollar_by what nest is_quoted start outer text rest) does
    by-past (introduced.OutOfProfile spelling) nest is_quoted start outer text rest does h k = offends_anyway
    by-past introduced.Braces nest is_quoted start outer text rest does h k = opening-past nest start _ outer rest does k
    by-past introduced.Parenthesis nest is_quoted start outer text rest does h k =
        parenthesis-past nest start outer rest (unspliced rest) does k (length-unspliced rest)
    by-past introduced.Name nest is_quoted start outer text rest does h k = past_enters k
    by-past introduced.Special nest is_quoted start outer text rest does h k = past_goes k
    by-past introduced.Nothing nest is_quoted start outer text rest does h k = past_goes h

    dollar-past : (nest : Nest) (is_quoted : Bool) (start : ℕ) (outer : Construct) (text front : List ℕ) (does : Step) → Past tail text → length front ≤ length text
        → Agree in_mode (dollar_at nest is_quoted start outer text front) does
    dollar-past nest is_quoted start outer text [] does h less = past_goes h
    dollar-past nest is_quoted start outer text (byte ∷ rest) does h less =
        by-past (introduced_by byte) nest is_quoted start outer text rest does h (omega (arith, h, less))

    single-past : (start : ℕ) (next : Construct) (rest : List ℕ) (found : Option (List ℕ)) (does : Step) → Past tail rest → behind_quote rest ≡ found
        → Agree in_mode (single_quotes start next found) does
    single-past start next rest None does h e = offends_anyway
    single-past start next rest (Some after) does h e = let less = length-behind_quote rest after e in past_goes (omega (arith, h, less))

    -- A `$` that begins nothing here
    module _ (nest : Nest) (is_quoted : Bool) (start : ℕ) (outer : Construct) {text copy : List ℕ} (fits : Fits outer in_mode) (cut : Cut tail text copy) where
      stays : {piece : PartTree} → Agree in_mode (goes outer text) (gives piece in_mode copy)
      stays = agree_goes fits cut (λ number last left taken. taken)

      by-last : (what : Introduced) (rest : List ℕ) (piece : PartTree) → Past tail rest
          → Agree in_mode (dollar_by what nest is_quoted start outer text rest) (gives piece in_mode copy)
      by-last (introduced.OutOfProfile spelling) rest piece h = offends_anyway
      by-last introduced.Braces rest piece h = opening-past nest start _ outer rest _ h
      by-last introduced.Parenthesis rest piece h = parenthesis-past nest start outer rest (unspliced rest) _ h (length-unspliced rest)
      by-last introduced.Name rest piece h = past_enters h
      by-last introduced.Special rest piece h = past_goes h
      by-last introduced.Nothing rest piece h = stays

      dollar-last : (front : List ℕ) (piece : PartTree) → FirstPast tail front
          → Agree in_mode (dollar_at nest is_quoted start outer text front) (gives piece in_mode copy)
      dollar-last [] piece p = stays
      dollar-last (byte ∷ rest) piece p = by-last (introduced_by byte) rest piece p

      -- an expansion
      module _ (byte : ℕ) {rest inner : List ℕ} (behind : Cut tail rest inner) (is : unspliced copy ≡ byte ∷ inner) where
        form_is : (what : Introduced) → introduced_by byte ≡ what → expansion copy ≡ expansion_by what byte copy inner
        form_is what e = ap (expansion_at copy) is ∙ ap (λ it. expansion_by it byte copy inner) e

        formed : (form : Expansion) → expansion copy ≡ form → (number last : ℕ) (left : List ℕ)
            → TakesBy in_mode (expands is_quoted (length copy + 1) copy) number last left → Then in_mode (TakesForm is_quoted form number) last left
        formed form e number last left found =
            record {
              middle = found.middle;
              after = found.after;
              one = subst (λ it. TakesForm is_quoted it number found.middle found.after) e (taken-form found.one);
              more = found.more;
            }

        commands-agree : expansion copy ≡ commands inner
            → Agree in_mode (substitution nest start outer rest) (expands is_quoted (length copy + 1) copy)
        commands-agree e =
            first_if nest.in_braces offends_anyway (first_if (nat_lt nest.levels MAX_LEVELS) (agree_enters fits (record {
              copy = inner;
              cut = behind;
              reads = formed (commands inner) e;
            })) offends_anyway)

        parenthesis-agree : {front last : List ℕ} → FirstCut tail front last → unspliced inner ≡ last
            → expansion copy ≡ parenthesis_at inner last
            → Agree in_mode (parenthesis nest start outer rest front) (expands is_quoted (length copy + 1) copy)
        parenthesis-agree (none_next {front = front} p) same e = by_front front p
          where
            by_front : (front : List ℕ) → FirstPast tail front → Agree in_mode (parenthesis nest start outer rest front) (expands is_quoted (length copy + 1) copy)
            by_front [] p = commands-agree e
            by_front (first ∷ more) p = first_if (first == OPEN) (opening-past nest start _ outer more _ p) (commands-agree e)
        parenthesis-agree (backslash_next {front = front} p) same e = by_front front p
          where
            by_front : (front : List ℕ) → FirstPast tail front → Agree in_mode (parenthesis nest start outer rest front) (expands is_quoted (length copy + 1) copy)
            by_front [] p = commands-agree e
            by_front (first ∷ more) p = first_if (first == OPEN) (opening-past nest start _ outer more _ p) (commands-agree e)
        parenthesis-agree (byte_next first {text = more} {copy = deep} a) same e = by_open (first == OPEN) e
          where
            by_open : (test : Bool) → expansion copy ≡ (if test then arithmetic_text deep else commands inner)
                → Agree in_mode (if test then opening nest start (part.Arithmetic (deeper nest) start) outer more else substitution nest start outer rest)
                (expands is_quoted (length copy + 1) copy)
            by_open true e =
                first_if (nat_lt nest.levels MAX_LEVELS) (agree_enters fits (record { copy = deep; cut = a; reads = formed (arithmetic_text deep) e })) offends_anyway
            by_open false e = commands-agree e

        -- what is found of an expansion that is over
        over : (number last : ℕ) (left : List ℕ) (what : Param) (measured : Bool) (rest : List ℕ)
            → Then in_mode (TakesForm is_quoted (whole what measured rest) number) last left → Takes in_mode number rest last left
        over number last left what measured rest found =
            subst (λ it. Takes in_mode it rest last left) found.one.0 (subst (λ it. Takes in_mode found.middle it last left) found.one.1 found.more)

        agree-by : (what : Introduced) → introduced_by byte ≡ what → (piece : PartTree)
            → Agree in_mode (dollar_by what nest is_quoted start outer text rest)
            (if is_introduced what then expands is_quoted (length copy + 1) copy else gives piece in_mode copy)
        agree-by (introduced.OutOfProfile spelling) e piece = offends_anyway
        agree-by introduced.Braces e piece =
            first_if (nat_lt nest.levels MAX_LEVELS) (agree_enters fits (record {
              copy = inner;
              cut = behind;
              reads = formed (braced (brace_head inner)) (form_is introduced.Braces e);
            })) offends_anyway
        agree-by introduced.Parenthesis e piece = parenthesis-agree (unspliced-cut tail behind) refl (form_is introduced.Parenthesis e)
        agree-by introduced.Name e piece =
            agree_enters fits (record {
              copy = inner;
              cut = behind;
              reads = λ number last left found.
                  subst (λ it. Takes in_mode number it last left) (behind_run-name byte inner copy is (name_starts byte e))
                  (over number last left (param.Name (run is_name_byte copy)) false (behind_run is_name_byte copy)
                  (formed (whole (param.Name (run is_name_byte copy)) false (behind_run is_name_byte copy)) (form_is introduced.Name e) number last left found));
            })
        agree-by introduced.Special e piece =
            agree_goes fits behind (λ number last left found.
            over number last left (special byte) false inner (formed (whole (special byte) false inner) (form_is introduced.Special e) number last left found))
        agree-by introduced.Nothing e piece = stays

      dollar-front : {front last : List ℕ} (piece : PartTree) → FirstCut tail front last → unspliced copy ≡ last
          → Agree in_mode (dollar_at nest is_quoted start outer text front)
          (if begins_expansion last then expands is_quoted (length copy + 1) copy else gives piece in_mode copy)
      dollar-front piece (none_next {front = front} p) is = dollar-last front piece p
      dollar-front piece (backslash_next {front = front} p) is =
          subst (λ it. Agree in_mode (dollar_at nest is_quoted start outer text front)
          (if is_introduced it then expands is_quoted (length copy + 1) copy else gives piece in_mode copy)) (sym backslash_introduces) (dollar-last front piece p)
      dollar-front piece (byte_next byte a) is = agree-by byte a is (introduced_by byte) refl piece

      dollar-agree : (are_quoted : Bool)
          → Agree in_mode (after_dollar nest is_quoted start outer text) (dollar is_quoted are_quoted in_mode copy)
      dollar-agree are_quoted = dollar-front (literal are_quoted (DOLLAR ∷ [])) (unspliced-cut tail cut) refl

  -- QUOTES. Single quotes are passed over at once
  data QuoteCut (of : Owner) : Option (List ℕ) → List ℕ → Type 0 where
    no_quote : {copy : List ℕ} → QuoteCut of None copy
    quote_past : {rest copy : List ℕ} → Past tail rest → QuoteCut of (Some rest) copy
    quote_here : {rest copy after : List ℕ} → Cut tail rest after
        → ((number last : ℕ) (left : List ℕ) → Takes (mode.SingleQuotes of) number copy last left → Takes (mode.Word of) number after last left)
        → QuoteCut of (Some rest) copy

  module _ (of : Owner) where
    quote_end : (found : Option (List ℕ)) → behind_quote tail ≡ found → QuoteCut of found []
    quote_end None e = no_quote
    quote_end (Some rest) e = quote_past (length-behind_quote tail rest e)

    quoted_step : (byte : ℕ) (copy : List ℕ) (test : Bool) → (byte == QUOTE) ≡ test → step (mode.SingleQuotes of) (byte ∷ copy)
        ≡ (if test then passes (mode.Word of) copy else gives (quoted (byte ∷ [])) (mode.SingleQuotes of) copy)
    quoted_step byte copy test e =
        ap (λ it. if it then passes (mode.Word of) copy else gives (quoted (byte ∷ [])) (mode.SingleQuotes of) copy) e

    quote_on : (byte : ℕ) {found : Option (List ℕ)} {copy : List ℕ} → (byte == QUOTE) ≡ false → QuoteCut of found copy → QuoteCut of found (byte ∷ copy)
    quote_on byte e no_quote = no_quote
    quote_on byte e (quote_past h) = quote_past h
    quote_on byte {copy = copy} e (quote_here a reads) =
        quote_here a (λ number last left taken.
        reads number last left (subst (λ it. TakesBy (mode.SingleQuotes of) it number last left) (quoted_step byte copy false e) (taken-by taken)))

    quote_by : (byte : ℕ) {text copy : List ℕ} (test : Bool) → (byte == QUOTE) ≡ test → Cut tail text copy → QuoteCut of (behind_quote text) copy
        → QuoteCut of (if test then Some text else behind_quote text) (byte ∷ copy)
    quote_by byte {copy = copy} true e a more =
        quote_here a (λ number last left taken.
        subst (λ it. TakesBy (mode.SingleQuotes of) it number last left) (quoted_step byte copy true e) (taken-by taken))
    quote_by byte false e a more = quote_on byte e more

    quote-cut : {text copy : List ℕ} → Cut tail text copy → QuoteCut of (behind_quote text) copy
    quote-cut at_cut = quote_end (behind_quote tail) refl
    quote-cut (before byte a) = quote_by byte (byte == QUOTE) refl a (quote-cut a)

    -- a quote that opens, where it may close at once
    single_taken : (copy : List ℕ) (number last : ℕ) (left : List ℕ)
        → TakesBy (mode.Word of) (opened QUOTE (mode.SingleQuotes of) (mode.Word of) copy copy) number last left → Takes (mode.SingleQuotes of) number copy last left
    single_taken [] number last left taken = taken
    single_taken (byte ∷ copy) number last left taken = by_test (byte == QUOTE) refl taken
      where
        by_test : (test : Bool) → (byte == QUOTE) ≡ test
            → TakesBy (mode.Word of) (if test then gives (quoted []) (mode.Word of) copy else passes (mode.SingleQuotes of) (byte ∷ copy)) number last left
            → Takes (mode.SingleQuotes of) number (byte ∷ copy) last left
        by_test true e taken = takes_quote (quoted_step byte copy true e) taken
        by_test false e taken = taken

    string_taken : (copy front : List ℕ) → unspliced copy ≡ front → (number last : ℕ) (left : List ℕ)
        → TakesBy (mode.Word of) (opened DOUBLE_QUOTE (mode.DoubleQuotes of) (mode.Word of) copy front) number last left
        → Takes (mode.DoubleQuotes of) number copy last left
    string_taken copy [] is number last left taken = taken
    string_taken copy (byte ∷ rest) is number last left taken = by_test (byte == DOUBLE_QUOTE) refl taken
      where
        by_test : (test : Bool) → (byte == DOUBLE_QUOTE) ≡ test
            → TakesBy (mode.Word of) (if test then gives (quoted []) (mode.Word of) rest else passes (mode.DoubleQuotes of) copy) number last left
            → Takes (mode.DoubleQuotes of) number copy last left
        by_test true e taken = takes_quote (ap (words.double_quotes_at of) is ∙ taken_if (byte == DOUBLE_QUOTE) _ e) taken
        by_test false e taken = taken

    module _ where
      single-agree : (start : ℕ) {next : Construct} → Fits next (mode.Word of) → {found : Option (List ℕ)} {copy : List ℕ} → QuoteCut of found copy
          → Agree (mode.Word of) (single_quotes start next found) (opened QUOTE (mode.SingleQuotes of) (mode.Word of) copy copy)
      single-agree start fits no_quote = offends_anyway
      single-agree start fits (quote_past h) = past_goes h
      single-agree start fits {copy = copy} (quote_here a reads) =
          agree_goes fits a (λ number last left taken. reads number last left (single_taken copy number last left taken))

      string-agree : (nest : Nest) (start : ℕ) {outer : Construct} → Fits outer (mode.Word of) → {rest copy : List ℕ} → Cut tail rest copy
          → Agree (mode.Word of) (enters (part.DoubleQuotes nest start) outer rest)
          (opened DOUBLE_QUOTE (mode.DoubleQuotes of) (mode.Word of) copy (unspliced copy))
      string-agree nest start fits {copy = copy} a =
          agree_enters fits (refl, record { copy = copy; cut = a; reads = string_taken copy (unspliced copy) refl })

  -- a backslash
  backslash_taken : (in_mode : Mode) (copy : List ℕ) (number last : ℕ) (left : List ℕ) → TakesBy in_mode (backslash in_mode copy) number last left
      → Takes in_mode number (drop 1 copy) last left
  backslash_taken in_mode [] number last left taken = taken
  backslash_taken in_mode (byte ∷ copy) number last left taken = taken

  escape_taken : (in_mode : Mode) (are_quoted braces : Bool) (copy : List ℕ) (number last : ℕ) (left : List ℕ)
      → TakesBy in_mode (escape are_quoted braces in_mode copy) number last left → Takes in_mode number (behind_backslash braces copy) last left
  escape_taken in_mode are_quoted braces [] number last left taken = taken
  escape_taken in_mode are_quoted braces (byte ∷ copy) number last left taken = by_test (is_quoted_escape byte || (braces && (byte == CLOSE_BRACE))) taken
    where
      by_test : (test : Bool)
          → TakesBy in_mode (if test then gives (literal are_quoted (byte ∷ [])) in_mode copy else gives (literal are_quoted (BACKSLASH ∷ [])) in_mode (byte ∷ copy)) number last left
          → Takes in_mode number (if test then copy else byte ∷ copy) last left
      by_test true taken = taken
      by_test false taken = taken

  -- THE WORD OF A TOKEN
  module _ (nest : Nest) (at : Spot) where
    word-agree : (byte : ℕ) → Byte byte → {rest copy : List ℕ} → Cut tail rest copy
        → Agree (mode.Word owner.Token) (word_at nest None at byte rest) (unquoted_at owner.Token byte copy)
    word-agree byte a_quote {rest = rest} a =
        single-agree owner.Token (length rest + 1) (fits_word (past-spot at)) (quote-cut owner.Token a)
    word-agree byte a_string {rest = rest} a = string-agree owner.Token nest (length rest + 1) (fits_word (past-spot at)) a
    word-agree byte a_backslash {copy = copy} a =
        go_or (fits_word (past-spot at)) (drop-cut tail a) (backslash_taken (mode.Word owner.Token) copy)
    word-agree byte a_backquote a = offends_anyway
    word-agree byte a_dollar {rest = rest} a = dollar-agree nest false (length rest + 1) _ (fits_word (past-spot at)) a false
    word-agree byte a_brace a = agree_goes (fits_word (behind-spot at CLOSE_BRACE)) a (λ number last left taken. taken)
    word-agree byte an_open a = agree_goes (fits_word (behind-spot at OPEN)) a (λ number last left taken. taken)
    word-agree byte a_close a = agree_goes (fits_word (behind-spot at CLOSE)) a (λ number last left taken. taken)
    word-agree byte (another is) a =
        simp (is.no_quote, is.no_string, is.no_backslash, is.no_backquote, is.no_dollar)
        (first_if ((byte == TILDE) && is_tilde_spot at) offends_anyway (agree_goes (fits_word (behind-spot at byte)) a (λ number last left taken. taken)))

    word-past : (byte : ℕ) (rest : List ℕ) (does : Step) → Past tail rest
        → Agree (mode.Word owner.Token) (word_at nest None at byte rest) does
    word-past byte rest does h =
        first_if (byte == QUOTE) (single-past (length rest + 1) _ rest (behind_quote rest) does h refl) (first_if (byte == DOUBLE_QUOTE) (past_enters h)
        (first_if (byte == BACKSLASH) (let less = drop-less rest in past_goes (omega (arith, h, less))) (first_if (byte == BACKQUOTE) offends_anyway
        (first_if (byte == DOLLAR) (dollar-past nest false (length rest + 1) _ rest (unspliced rest) does h (length-unspliced rest))
        (first_if ((byte == TILDE) && is_tilde_spot at) offends_anyway (past_goes h))))))

    -- it ends where its bytes do
    word-end : {text copy : List ℕ} (last_bytes : List ℕ) (does : Step) → Cut tail text copy → unspliced copy ≡ last_bytes
        → ((number last : ℕ) (left : List ℕ) → TakesBy (mode.Word owner.Token) does number last left → last_bytes ≡ [] → last ≡ number)
        → Agree (mode.Word owner.Token) (ends text) does
    word-end {copy = copy} last_bytes does a is ended =
        agree_ends a (λ number last left taken none. ended number last left taken (sym is ∙ ap unspliced none ∙ none_left_of))

    in_word-agree : {text copy front last_bytes : List ℕ} → Cut tail text copy → FirstCut tail front last_bytes → unspliced copy ≡ last_bytes
        → Agree (mode.Word owner.Token) (in_word nest None at text front) (words.word_at owner.Token last_bytes)
    in_word-agree {text = text} t (none_next {front = front} p) is = by_front front p
      where
        by_front : (front : List ℕ) → FirstPast tail front → Agree (mode.Word owner.Token) (in_word nest None at text front) (words.ends [])
        by_front [] p = word-end [] (words.ends []) t is (λ number last left taken none. taken.0)
        by_front (byte ∷ rest) p =
            first_if (ends_word byte) (word-end [] (words.ends []) t is (λ number last left taken none. taken.0)) (word-past byte rest (words.ends []) p)
    in_word-agree {text = text} t (backslash_next {front = front} p) is = by_front front p
      where
        by_front : (front : List ℕ) → FirstPast tail front
            → Agree (mode.Word owner.Token) (in_word nest None at text front) (unquoted_at owner.Token BACKSLASH [])
        by_front [] p = word-end (BACKSLASH ∷ []) (unquoted_at owner.Token BACKSLASH []) t is (λ number last left taken none. absurd cc)
        by_front (byte ∷ rest) p =
            first_if (ends_word byte) (word-end (BACKSLASH ∷ []) (unquoted_at owner.Token BACKSLASH []) t is (λ number last left taken none. absurd cc))
            (word-past byte rest (unquoted_at owner.Token BACKSLASH []) p)
    in_word-agree t (byte_next byte {copy = copy} a) is =
        first_if (ends_word byte) (word-end (byte ∷ copy) (unquoted_at owner.Token byte copy) t is (λ number last left taken none. absurd cc))
        (word-agree byte (sort_of byte) a)

  -- DOUBLE QUOTES
  module _ (nest : Nest) (start : ℕ) (of : Owner) where
    string-past : (front : List ℕ) (does : Step) → FirstPast tail front
        → Agree (mode.DoubleQuotes of) (double_quotes_at nest start front) does
    string-past [] does p = offends_anyway
    string-past (byte ∷ rest) does p =
        first_if (byte == DOUBLE_QUOTE) (past_ends p) (first_if (byte == BACKQUOTE) offends_anyway
        (first_if (byte == DOLLAR) (dollar-past nest true (length rest + 1) _ rest (unspliced rest) does p (length-unspliced rest))
        (first_if (byte == BACKSLASH) (let less = length-behind_backslash false rest in past_goes (omega (arith, p, less))) (past_goes p))))

    string_byte : (byte : ℕ) → Byte byte → {rest copy : List ℕ} → Cut tail rest copy
        → Agree (mode.DoubleQuotes of) (double_quotes_at nest start (byte ∷ rest)) (words.double_quotes_at of (byte ∷ copy))
    string_byte byte a_quote a = agree_goes fits_string a (λ number last left taken. taken)
    string_byte byte a_string a = agree_ends a (λ number last left taken. taken)
    string_byte byte a_backslash {copy = copy} a = go_or fits_string (backslash-cut tail false a) (escape_taken (mode.DoubleQuotes of) true false copy)
    string_byte byte a_backquote a = offends_anyway
    string_byte byte a_dollar {rest = rest} a = dollar-agree nest true (length rest + 1) _ fits_string a true
    string_byte byte a_brace a = agree_goes fits_string a (λ number last left taken. taken)
    string_byte byte an_open a = agree_goes fits_string a (λ number last left taken. taken)
    string_byte byte a_close a = agree_goes fits_string a (λ number last left taken. taken)
    string_byte byte (another is) a =
        simp (is.no_string, is.no_backquote, is.no_dollar, is.no_backslash) (agree_goes fits_string a (λ number last left taken. taken))

    strings-agree : {front last_bytes : List ℕ} → FirstCut tail front last_bytes
        → Agree (mode.DoubleQuotes of) (double_quotes_at nest start front) (words.double_quotes_at of last_bytes)
    strings-agree (none_next {front = front} p) = string-past front _ p
    strings-agree (backslash_next {front = front} p) = string-past front _ p
    strings-agree (byte_next byte a) = string_byte byte (sort_of byte) a

  -- THE WORD OF A `${ }`, also behind its head
  module _ (nest : Nest) (start : ℕ) where
    quote-past : (in_mode : Mode) (is_quoted : Bool) (rest : List ℕ) (does : Step) → Past tail rest → Agree in_mode (quote_in_braces nest start is_quoted rest) does
    quote-past in_mode true rest does h = past_goes h
    quote-past in_mode false rest does h = single-past (length rest + 1) _ rest (behind_quote rest) does h refl

    backslash-past : (in_mode : Mode) (is_quoted : Bool) (rest : List ℕ) (does : Step) → Past tail rest → Agree in_mode (backslash_in_braces nest start is_quoted rest) does
    backslash-past in_mode true rest does h = let less = length-behind_backslash true rest in past_goes (omega (arith, h, less))
    backslash-past in_mode false rest does h = let less = drop-less rest in past_goes (omega (arith, h, less))

    braces-past : (in_mode : Mode) (is_quoted : Bool) (front : List ℕ) (does : Step) → FirstPast tail front
        → Agree in_mode (braces_at nest start is_quoted front) does
    braces-past in_mode is_quoted [] does p = offends_anyway
    braces-past in_mode is_quoted (byte ∷ rest) does p =
        first_if (byte == CLOSE_BRACE) (past_ends p) (first_if (byte == BACKQUOTE) offends_anyway
        (first_if (byte == DOLLAR) (dollar-past nest is_quoted (length rest + 1) _ rest (unspliced rest) does p (length-unspliced rest))
        (first_if (byte == DOUBLE_QUOTE) (past_enters p) (first_if (byte == QUOTE) (quote-past in_mode is_quoted rest does p)
        (first_if (byte == BACKSLASH) (backslash-past in_mode is_quoted rest does p) (past_goes p))))))

    braces_byte : (is_quoted : Bool) (byte : ℕ) → Byte byte → {rest copy : List ℕ} → Cut tail rest copy
        → Agree (mode.Word (owner.Braces is_quoted)) (braces_at nest start is_quoted (byte ∷ rest)) (words.word_at (owner.Braces is_quoted) (byte ∷ copy))
    braces_byte true byte a_quote a = agree_goes fits_braces a (λ number last left taken. taken)
    braces_byte false byte a_quote {rest = rest} a =
        single-agree (owner.Braces false) (length rest + 1) fits_braces (quote-cut (owner.Braces false) a)
    braces_byte true byte a_string {rest = rest} a = string-agree (owner.Braces true) nest (length rest + 1) fits_braces a
    braces_byte false byte a_string {rest = rest} a = string-agree (owner.Braces false) nest (length rest + 1) fits_braces a
    braces_byte true byte a_backslash {copy = copy} a =
        go_or fits_braces (backslash-cut tail true a) (escape_taken (mode.Word (owner.Braces true)) true true copy)
    braces_byte false byte a_backslash {copy = copy} a = go_or fits_braces (drop-cut tail a) (backslash_taken (mode.Word (owner.Braces false)) copy)
    braces_byte true byte a_backquote a = offends_anyway
    braces_byte false byte a_backquote a = offends_anyway
    braces_byte true byte a_dollar {rest = rest} a = dollar-agree nest true (length rest + 1) _ fits_braces a true
    braces_byte false byte a_dollar {rest = rest} a = dollar-agree nest false (length rest + 1) _ fits_braces a false
    braces_byte true byte a_brace a = agree_ends a (λ number last left taken. taken)
    braces_byte false byte a_brace a = agree_ends a (λ number last left taken. taken)
    braces_byte true byte an_open a = agree_goes fits_braces a (λ number last left taken. taken)
    braces_byte false byte an_open a = agree_goes fits_braces a (λ number last left taken. taken)
    braces_byte true byte a_close a = agree_goes fits_braces a (λ number last left taken. taken)
    braces_byte false byte a_close a = agree_goes fits_braces a (λ number last left taken. taken)
    braces_byte true byte (another is) a =
        simp (is.no_brace, is.no_backquote, is.no_dollar, is.no_string, is.no_quote, is.no_backslash)
        (agree_goes fits_braces a (λ number last left taken. taken))
    braces_byte false byte (another is) a =
        simp (is.no_brace, is.no_backquote, is.no_dollar, is.no_string, is.no_quote, is.no_backslash)
        (agree_goes fits_braces a (λ number last left taken. taken))

    braces-agree : (is_quoted : Bool) {front last_bytes : List ℕ} → FirstCut tail front last_bytes
        → Agree (mode.Word (owner.Braces is_quoted)) (braces_at nest start is_quoted front) (words.word_at (owner.Braces is_quoted) last_bytes)
    braces-agree is_quoted (none_next {front = front} p) = braces-past (mode.Word (owner.Braces is_quoted)) is_quoted front _ p
    braces-agree is_quoted (backslash_next {front = front} p) = braces-past (mode.Word (owner.Braces is_quoted)) is_quoted front _ p
    braces-agree is_quoted (byte_next byte a) = braces_byte is_quoted byte (sort_of byte) a

    -- a `~` that begins a word
    pub braces_word-agree : (is_quoted : Bool) {front last_bytes : List ℕ} → FirstCut tail front last_bytes
        → Agree (mode.Word (owner.Braces is_quoted)) (braces_word_at nest start is_quoted front) (words.word_at (owner.Braces is_quoted) last_bytes)
    braces_word-agree is_quoted (none_next {front = front} p) = by_front front p
      where
        by_front : (front : List ℕ) → FirstPast tail front → Agree (mode.Word (owner.Braces is_quoted)) (braces_word_at nest start is_quoted front) (words.word_at (owner.Braces is_quoted) [])
        by_front [] p = offends_anyway
        by_front (byte ∷ rest) p =
            first_if ((byte == TILDE) && not is_quoted) offends_anyway (braces-past (mode.Word (owner.Braces is_quoted)) is_quoted (byte ∷ rest) _ p)
    braces_word-agree is_quoted (backslash_next {front = front} p) = by_front front p
      where
        by_front : (front : List ℕ) → FirstPast tail front
            → Agree (mode.Word (owner.Braces is_quoted)) (braces_word_at nest start is_quoted front) (words.word_at (owner.Braces is_quoted) (BACKSLASH ∷ []))
        by_front [] p = offends_anyway
        by_front (byte ∷ rest) p =
            first_if ((byte == TILDE) && not is_quoted) offends_anyway (braces-past (mode.Word (owner.Braces is_quoted)) is_quoted (byte ∷ rest) _ p)
    braces_word-agree is_quoted (byte_next byte a) =
        first_if ((byte == TILDE) && not is_quoted) offends_anyway (braces_byte is_quoted byte (sort_of byte) a)

  -- ARITHMETIC. A byte other than a `)`
  abbrev expressed : ℕ → ℕ → List ℕ → Step
  expressed depth byte rest =
      if byte == OPEN then gives (plain (OPEN ∷ [])) (mode.Arithmetic (depth + 1)) rest
      else if byte == DOLLAR then dollar true false (mode.Arithmetic depth) rest
      else if byte == BACKSLASH then escape false false (mode.Arithmetic depth) rest
      else gives (plain (byte ∷ [])) (mode.Arithmetic depth) rest

  module _ (nest : Nest) (start depth : ℕ) (self : Construct) (fits : Fits self (mode.Arithmetic depth)) where
    one_deeper : depth + 1 ≡ suc depth
    one_deeper = omega arith

    expression-past : (byte : ℕ) (rest : List ℕ) (does : Step) → Past tail rest
        → Agree (mode.Arithmetic depth) (expression_at nest start self byte rest) does
    expression-past byte rest does h =
        first_if (byte == OPEN) (past_enters h) (first_if (byte == BACKQUOTE) offends_anyway
        (first_if (byte == DOLLAR) (dollar-past nest true (length rest + 1) self rest (unspliced rest) does h (length-unspliced rest))
        (first_if (byte == BACKSLASH) (let less = length-behind_backslash false rest in past_goes (omega (arith, h, less))) (past_goes h))))

    expression-agree : (byte : ℕ) → Byte byte → {rest copy : List ℕ} → Cut tail rest copy
        → Agree (mode.Arithmetic depth) (expression_at nest start self byte rest) (expressed depth byte copy)
    expression-agree byte a_quote a = agree_goes fits a (λ number last left taken. taken)
    expression-agree byte a_string a = agree_goes fits a (λ number last left taken. taken)
    expression-agree byte a_backslash {copy = copy} a = go_or fits (backslash-cut tail false a) (escape_taken (mode.Arithmetic depth) false false copy)
    expression-agree byte a_backquote a = offends_anyway
    expression-agree byte a_dollar {rest = rest} a = dollar-agree nest true (length rest + 1) self fits a false
    expression-agree byte a_brace a = agree_goes fits a (λ number last left taken. taken)
    expression-agree byte an_open {copy = copy} a =
        agree_enters fits (
          refl,
          record {
            copy = copy;
            cut = a;
            reads = λ number last left taken. subst (λ it. Takes (mode.Arithmetic it) number copy last left) one_deeper taken;
          },
        )
    expression-agree byte a_close a = agree_goes fits a (λ number last left taken. taken)
    expression-agree byte (another is) a =
        simp (is.no_open, is.no_backquote, is.no_dollar, is.no_backslash) (agree_goes fits a (λ number last left taken. taken))

  module _ (nest : Nest) (start : ℕ) where
    closing-past : (rest front : List ℕ) (does : Step) → Past tail rest → length front ≤ length rest
        → Agree (mode.Arithmetic 0) (closing_at nest start rest front) does
    closing-past rest [] does h less = past_goes h
    closing-past rest (byte ∷ more) does h less = first_if (byte == CLOSE) (past_ends (omega (arith, h, less))) (past_goes h)

    closing-agree : {rest copy front last_bytes : List ℕ} → Cut tail rest copy → FirstCut tail front last_bytes
        → Agree (mode.Arithmetic 0) (closing_at nest start rest front) (words.closing_at copy last_bytes)
    closing-agree {rest = rest} {copy = copy} a (none_next {front = front} p) = by_front front p
      where
        by_front : (front : List ℕ) → FirstPast tail front
            → Agree (mode.Arithmetic 0) (closing_at nest start rest front) (gives (plain (CLOSE ∷ [])) (mode.Arithmetic 0) copy)
        by_front [] p = agree_goes fits_arithmetic a (λ number last left taken. taken)
        by_front (byte ∷ more) p = first_if (byte == CLOSE) (past_ends p) (agree_goes fits_arithmetic a (λ number last left taken. taken))
    closing-agree {rest = rest} {copy = copy} a (backslash_next {front = front} p) = by_front front p
      where
        by_front : (front : List ℕ) → FirstPast tail front
            → Agree (mode.Arithmetic 0) (closing_at nest start rest front) (gives (plain (CLOSE ∷ [])) (mode.Arithmetic 0) copy)
        by_front [] p = agree_goes fits_arithmetic a (λ number last left taken. taken)
        by_front (byte ∷ more) p = first_if (byte == CLOSE) (past_ends p) (agree_goes fits_arithmetic a (λ number last left taken. taken))
    closing-agree a (byte_next byte b) =
        both_if (byte == CLOSE) (agree_ends b (λ number last left taken. taken)) (agree_goes fits_arithmetic a (λ number last left taken. taken))

    arithmetic-past : (front : List ℕ) (does : Step) → FirstPast tail front
        → Agree (mode.Arithmetic 0) (arithmetic_at nest start front) does
    arithmetic-past [] does p = offends_anyway
    arithmetic-past (byte ∷ rest) does p =
        first_if (byte == CLOSE) (closing-past rest (unspliced rest) does p (length-unspliced rest))
        (expression-past nest start 0 (part.Arithmetic nest start) fits_arithmetic byte rest does p)

    arithmetic-agree : {front last_bytes : List ℕ} → FirstCut tail front last_bytes
        → Agree (mode.Arithmetic 0) (arithmetic_at nest start front) (words.arithmetic_at 0 last_bytes)
    arithmetic-agree (none_next {front = front} p) = arithmetic-past front _ p
    arithmetic-agree (backslash_next {front = front} p) = arithmetic-past front _ p
    arithmetic-agree (byte_next byte a) =
        both_if (byte == CLOSE) (closing-agree a (unspliced-cut tail a))
        (expression-agree nest start 0 (part.Arithmetic nest start) fits_arithmetic byte (sort_of byte) a)

    module _ (depth : ℕ) where
      closed_is : (copy : List ℕ) → parenthesis_closed (suc depth) copy ≡ gives (plain (CLOSE ∷ [])) (mode.Arithmetic depth) copy
      closed_is copy =
          ap (λ it. if it then words.closing_at copy (unspliced copy) else gives (plain (CLOSE ∷ [])) (mode.Arithmetic (suc depth - 1)) copy) (is_more depth)
          ∙ ap (λ it. gives (plain (CLOSE ∷ [])) (mode.Arithmetic it) copy) (one_less depth)

      parentheses-past : (front : List ℕ) (does : Step) → FirstPast tail front → Agree (mode.Arithmetic (suc depth)) (parentheses_at nest start front) does
      parentheses-past [] does p = offends_anyway
      parentheses-past (byte ∷ rest) does p =
          first_if (byte == CLOSE) (past_ends p)
          (expression-past nest start (suc depth) (part.Parentheses nest start) fits_parentheses byte rest does p)

      parentheses-agree : {front last_bytes : List ℕ} → FirstCut tail front last_bytes
          → Agree (mode.Arithmetic (suc depth)) (parentheses_at nest start front) (words.arithmetic_at (suc depth) last_bytes)
      parentheses-agree (none_next {front = front} p) = parentheses-past front _ p
      parentheses-agree (backslash_next {front = front} p) = parentheses-past front _ p
      parentheses-agree (byte_next byte {text = rest} {copy = copy} a) =
          both_if (byte == CLOSE)
          (subst (λ it. Agree (mode.Arithmetic (suc depth)) (ends rest) it) (sym (closed_is copy)) (agree_ends a (λ number last left taken. taken)))
          (expression-agree nest start (suc depth) (part.Parentheses nest start) fits_parentheses byte (sort_of byte) a)

  -- ALL OF THEM
  pub agree-all : {construct : Construct} {in_mode : Mode} → Fits construct in_mode → {text copy : List ℕ} → Cut tail text copy
      → Agree in_mode (act construct text) (step in_mode copy)
  agree-all (fits_word {nest = nest} {at = at} is) {text = text} {copy = copy} a = by_spot at is
    where
      by_spot : (at : Spot) → IsWordSpot at
          → Agree (mode.Word owner.Token) (in_commands nest None at text) (words.word_at owner.Token (unspliced copy))
      by_spot spot.Between is = absurd is
      by_spot spot.Begin is = in_word-agree nest spot.Begin a (unspliced-cut tail a) refl
      by_spot spot.Name is = in_word-agree nest spot.Name a (unspliced-cut tail a) refl
      by_spot spot.ValueBegin is = in_word-agree nest spot.ValueBegin a (unspliced-cut tail a) refl
      by_spot spot.Value is = in_word-agree nest spot.Value a (unspliced-cut tail a) refl
      by_spot spot.Elsewhere is = in_word-agree nest spot.Elsewhere a (unspliced-cut tail a) refl
  agree-all (fits_string {nest = nest} {start = start} {of = of}) a = strings-agree nest start of (unspliced-cut tail a)
  agree-all (fits_braces {nest = nest} {start = start} {is_quoted = is_quoted}) a =
      braces-agree nest start is_quoted (unspliced-cut tail a)
  agree-all (fits_arithmetic {nest = nest} {start = start}) a = arithmetic-agree nest start (unspliced-cut tail a)
  agree-all (fits_parentheses {nest = nest} {start = start} {depth = depth}) a = parentheses-agree nest start depth (unspliced-cut tail a)
