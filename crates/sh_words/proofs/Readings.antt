-- A word is read to one outcome, and to exactly one.
use Rattle.std.proofs.Common.{◌≡◌, ℕ, zero, suc, Bool, not, ◌&&◌, Option, None, Some, List, [], ◌∷◌, drop, ◌<◌, ◌≤◌, ◌+◌, length, refl, sym, ◌∙◌, ap, subst, arith}
use Rattle.sh_tree.specs.Trees.{no_part, PartTree, parameter, substitution}
use Rattle.sh_tree.specs.declared.words.Param.{Param}
use Rattle.sh_lex.specs.Reads as lex
use Rattle.sh_lex.specs.Texts.{unspliced}
use Rattle.sh_lex.specs.declared.Construct.{Construct}
use Rattle.sh_lex.proofs.Fronts.{length-unspliced}
use Rattle.sh_lex.proofs.Readings as lexed
use Rattle.sh_words.specs.Inner.Built.{open_in}
use Rattle.sh_words.specs.Steps.{Step, ends, passes, gives, expands, step}
use Rattle.sh_lex.specs.Heads.{trims}
use Rattle.sh_words.specs.Parameters.{Expansion, whole, with_word, commands, arithmetic_text, no_form, expansion, bare_form}
use Rattle.sh_words.specs.Words.{Outcome, done, Made, made, onto, found_onto, with_form, calculated, Passes, in_commands, in_braces, behind_byte, left_by, word_outcome, ReadsBehind, HasOneOutcome, ReadsPieces, has_ended, passes_on, gives_piece, expands_to, ReadsExpansion, is_parameter, is_substitution, has_word, has_arithmetic, has_no_form, word_too_deep, arithmetic_too_deep}
use Rattle.sh_words.proofs.Shrinking.{Shrinks, at_end, at_quote, at_piece, at_dollar, step-Shrinks, Stays, in_whole, in_word, in_tokens, in_text, expansion-Stays}
use Rattle.sh_words.specs.declared.steps.Owner.TheVariants as owner
use Rattle.sh_words.specs.declared.steps.Mode.{Mode}
use Rattle.sh_words.specs.declared.steps.Mode.TheVariants as mode
use Rattle.sh_lex.specs.declared.Operator.{Operator}
use Rattle.sh_words.specs.declared.reading.TheConstants.{MAX_LEVELS}

-- at most so many bytes are left, and the numbers don't fall
abbrev pub Leaves : ℕ → ℕ → Outcome → Type 0
Leaves number count (done word fault next rest) = (number ≤ next) × (length rest ≤ count)

abbrev pub LeavesPart : ℕ → ℕ → Made → Type 0
LeavesPart number count (made found fault next rest) = (number ≤ next) × (length rest ≤ count)

onto-Leaves : (number few many : ℕ) (piece : PartTree) (end : Outcome) → few ≤ many → Leaves number few end
    → Leaves number many (onto piece end)
onto-Leaves number few many piece (done word fault last rest) k (a, b) = (a, omega arith)

found_onto-Leaves : (number next few many : ℕ) (found : Option PartTree) (fault : Option ℕ) (end : Outcome) → number ≤ next → few ≤ many
    → Leaves next few end → Leaves number many (found_onto found fault end)
found_onto-Leaves number next few many found earlier (done word fault last rest) h k (a, b) = (omega arith, omega arith)

more-Leaves : (number few many : ℕ) (end : Outcome) → few ≤ many → Leaves number few end → Leaves number many end
more-Leaves number few many (done word fault last rest) k (a, b) = (a, omega arith)

with_form-Leaves : (number few many : ℕ) (what : Param) (by : Operator) (is_quoted : Bool) (end : Outcome) → few ≤ many
    → Leaves number few end → LeavesPart number many (with_form what by is_quoted end)
with_form-Leaves number few many what by is_quoted (done word fault last rest) k (a, b) = (a, omega arith)

calculated-Leaves : (number few many : ℕ) (is_quoted : Bool) (end : Outcome) → few ≤ many → Leaves number few end
    → LeavesPart number many (calculated is_quoted end)
calculated-Leaves number few many is_quoted (done word fault last rest) k (a, b) = (a, omega arith)

left_by-Leaves : (count : ℕ) (end : lex.Outcome) → lexed.Leaves count end → length (left_by end) ≤ count
left_by-Leaves count (lex.past rest) h = h
left_by-Leaves count (lex.refused fault) h = omega arith

pub Passes-less : (construct : Construct) (text rest : List ℕ) → Passes construct text rest → length rest ≤ length text
Passes-less construct text rest (end, (reads, is)) =
    subst (λ r. length r ≤ length text) (sym is) (left_by-Leaves (length text) end (lexed.Reads-Leaves reads))

length-drop_one : (text : List ℕ) → length (drop 1 text) ≤ length text
length-drop_one [] = omega arith
length-drop_one (byte ∷ rest) = omega arith

behind_byte-less : (text : List ℕ) → length (behind_byte text) ≤ length text
behind_byte-less text = omega (arith, length-drop_one (unspliced text), length-unspliced text)

-- how much less a step leaves
ended_less : (depth count : ℕ) (rest : List ℕ) → Shrinks depth count (ends rest) → length rest ≤ count
ended_less depth count rest (at_end h) = h

quote_less : (depth count : ℕ) (next : Mode) (rest : List ℕ) → Shrinks depth count (passes next rest)
    → (length rest < count) × (open_in next + length rest ≤ depth + count)
quote_less depth count next rest (at_quote h k) = (h, k)

piece_less : (depth count : ℕ) (piece : PartTree) (next : Mode) (rest : List ℕ) → Shrinks depth count (gives piece next rest)
    → (length rest < count) × (open_in next + length rest ≤ depth + count)
piece_less depth count piece next rest (at_piece h k) = (h, k)

dollar_less : (depth count left : ℕ) (is_quoted : Bool) (rest : List ℕ) → Shrinks depth count (expands is_quoted left rest)
    → (length rest < left) × (left ≤ count)
dollar_less depth count left is_quoted rest (at_dollar h k) = (h, k)

pub ends-less : (at : Mode) (text rest : List ℕ) → step at text ≡ ends rest → length rest ≤ length text
ends-less at text rest e =
    ended_less (open_in at) (length text) rest (subst (λ s. Shrinks (open_in at) (length text) s) e (step-Shrinks at text))

pub passes-less : (at next : Mode) (text rest : List ℕ) → step at text ≡ passes next rest
    → (length rest < length text) × (open_in next + length rest ≤ open_in at + length text)
passes-less at next text rest e =
    quote_less (open_in at) (length text) next rest (subst (λ s. Shrinks (open_in at) (length text) s) e (step-Shrinks at text))

pub gives-less : (at next : Mode) (text rest : List ℕ) (piece : PartTree) → step at text ≡ gives piece next rest
    → (length rest < length text) × (open_in next + length rest ≤ open_in at + length text)
gives-less at next text rest piece e =
    piece_less (open_in at) (length text) piece next rest (subst (λ s. Shrinks (open_in at) (length text) s) e (step-Shrinks at text))

pub expands-less : (at : Mode) (text rest : List ℕ) (is_quoted : Bool) (left : ℕ) → step at text ≡ expands is_quoted left rest
    → (length rest < left) × (left ≤ length text)
expands-less at text rest is_quoted left e =
    dollar_less (open_in at) (length text) left is_quoted rest (subst (λ s. Shrinks (open_in at) (length text) s) e (step-Shrinks at text))

whole_less : (count : ℕ) (what : Param) (measured : Bool) (rest : List ℕ) → Stays count (whole what measured rest) → length rest ≤ count
whole_less count what measured rest (in_whole h) = h

word_less : (count : ℕ) (what : Param) (by : Operator) (rest : List ℕ) → Stays count (with_word what by rest) → length rest ≤ count
word_less count what by rest (in_word h) = h

tokens_less : (count : ℕ) (rest : List ℕ) → Stays count (commands rest) → length rest ≤ count
tokens_less count rest (in_tokens h) = h

text_less : (count : ℕ) (rest : List ℕ) → Stays count (arithmetic_text rest) → length rest ≤ count
text_less count rest (in_text h) = h

expansion-less : (text : List ℕ) (found : Expansion) → expansion text ≡ found → Stays (length text) found
expansion-less text found e = subst (λ f. Stays (length text) f) e (expansion-Stays text)

mutual
  pub pieces-Leaves : {most number : ℕ} {at : Mode} {text : List ℕ} {end : Outcome} → ReadsPieces most at number text end
      → Leaves number (length text) end
  pieces-Leaves {at = at} {text = text} (has_ended {rest = rest} e) = (omega arith, ends-less at text rest e)
  pieces-Leaves {number = number} {at = at} {text = text} {end = end} (passes_on {next = next} {rest = rest} e reads) =
      let less = passes-less at next text rest e in
      more-Leaves number (length rest) (length text) end (omega (arith, less.0)) (pieces-Leaves reads)
  pieces-Leaves {number = number} {at = at} {text = text} (gives_piece {next = next} {rest = rest} {piece = piece} {end = end} e reads) =
      let less = gives-less at next text rest piece e in
      onto-Leaves number (length rest) (length text) piece end (omega (arith, less.0)) (pieces-Leaves reads)
  pieces-Leaves {number = number} {at = at} {text = text} (expands_to {left = left} {next = next} {is_quoted = is_quoted} {rest = rest} {after = after} {found = found} {fault = fault} {end = end} e inside reads) =
      let less = expands-less at text rest is_quoted left e in
      let within : (number ≤ next) × (length after ≤ length rest) = expansion-Leaves inside in
      found_onto-Leaves number next (length after) (length text) found fault end within.0 (omega (arith, less.0, less.1, within.1))
      (pieces-Leaves reads)

  pub expansion-Leaves : {most left number : ℕ} {is_quoted : Bool} {text : List ℕ} {end : Made}
      → ReadsExpansion most is_quoted left number text end → LeavesPart number (length text) end
  expansion-Leaves {text = text} (is_parameter {measured = measured} {what = what} {rest = rest} e) =
      (omega arith, whole_less (length text) what measured rest (expansion-less text (whole what measured rest) e))
  expansion-Leaves {text = text} (is_substitution {inner = inner} {rest = rest} e passed) =
      let less : length inner ≤ length text = tokens_less (length text) inner (expansion-less text (commands inner) e) in
      (omega arith, omega (arith, less, Passes-less in_commands inner rest passed))
  expansion-Leaves {number = number} {is_quoted = is_quoted} {text = text} (has_word {what = what} {by = by} {inner = inner} {end = end} e reads) =
      let less : length inner ≤ length text = word_less (length text) what by inner (expansion-less text (with_word what by inner) e) in
      with_form-Leaves number (length inner) (length text) what by is_quoted end less (pieces-Leaves reads)
  expansion-Leaves {number = number} {is_quoted = is_quoted} {text = text} (has_arithmetic {inner = inner} {end = end} e reads) =
      let less : length inner ≤ length text = text_less (length text) inner (expansion-less text (arithmetic_text inner) e) in
      calculated-Leaves number (length inner) (length text) is_quoted end less (pieces-Leaves reads)
  expansion-Leaves {left = left} {is_quoted = is_quoted} {text = text} (has_no_form {rest = rest} e passed) =
      (omega arith, omega (arith, Passes-less (in_braces is_quoted left) (behind_byte text) rest passed, behind_byte-less text))
  expansion-Leaves (word_too_deep e) = (omega arith, omega arith)
  expansion-Leaves (arithmetic_too_deep e) = (omega arith, omega arith)

-- behind an expansion
abbrev Behind : ℕ → Mode → Made → Outcome → Type 0
Behind most at (made found fault next rest) end =
    (inner : Outcome) × (ReadsPieces most at next rest inner × (end ≡ found_onto found fault inner))

-- what a step leads to
abbrev Follows : ℕ → Mode → ℕ → Step → Outcome → Type 0
Follows most at number (ends rest) end = end ≡ done no_part None number rest
Follows most at number (passes next rest) end = ReadsPieces most next number rest end
Follows most at number (gives piece next rest) end = (inner : Outcome) × (ReadsPieces most next number rest inner × (end ≡ onto piece inner))
Follows most at number (expands is_quoted left rest) end = (part : Made) × (ReadsExpansion most is_quoted left number rest part × Behind most at part end)

follows : {most number : ℕ} {at : Mode} {text : List ℕ} {end : Outcome} → ReadsPieces most at number text end
    → Follows most at number (step at text) end
follows {most = most} {number = number} {at = at} {end = end} (has_ended e) = subst (λ s. Follows most at number s end) (sym e) refl
follows {most = most} {number = number} {at = at} {end = end} (passes_on e reads) = subst (λ s. Follows most at number s end) (sym e) reads
follows {most = most} {number = number} {at = at} {end = all} (gives_piece {end = end} e reads) =
    subst (λ s. Follows most at number s all) (sym e) (end, (reads, refl))
follows {most = most} {number = number} {at = at} {end = all} (expands_to {next = next} {after = after} {found = found} {fault = fault} {end = end} e inside reads) =
    subst (λ s. Follows most at number s all) (sym e) (made found fault next after, (inside, (end, (reads, refl))))

-- what the word of a `${ }` and the text of a `$((` lead to
abbrev FollowsWord : ℕ → Bool → ℕ → ℕ → Param → Operator → List ℕ → Made → Type 0
FollowsWord zero is_quoted left number what by inner part = part ≡ made None (Some left) number []
FollowsWord (suc most) is_quoted left number what by inner part =
    (end : Outcome) × (ReadsPieces most (mode.Word (owner.Braces (is_quoted && not (trims by)))) number inner end
    × (part ≡ with_form what by is_quoted end))

abbrev FollowsText : ℕ → Bool → ℕ → ℕ → List ℕ → Made → Type 0
FollowsText zero is_quoted left number inner part = part ≡ made None (Some left) number []
FollowsText (suc most) is_quoted left number inner part =
    (end : Outcome) × (ReadsPieces most (mode.Arithmetic 0) number inner end × (part ≡ calculated is_quoted end))

-- what a text behind a `$` leads to
abbrev FollowsDollar : ℕ → Bool → ℕ → ℕ → List ℕ → Expansion → Made → Type 0
FollowsDollar most is_quoted left number text (whole what measured rest) part =
    part ≡ made (Some (parameter what (bare_form measured) is_quoted)) None number rest
FollowsDollar most is_quoted left number text (commands inner) part =
    (rest : List ℕ) × (Passes in_commands inner rest × (part ≡ made (Some (substitution number is_quoted)) None (number + 1) rest))
FollowsDollar most is_quoted left number text (with_word what by inner) part = FollowsWord most is_quoted left number what by inner part
FollowsDollar most is_quoted left number text (arithmetic_text inner) part = FollowsText most is_quoted left number inner part
FollowsDollar most is_quoted left number text no_form part =
    (rest : List ℕ) × (Passes (in_braces is_quoted left) (behind_byte text) rest × (part ≡ made None (Some left) number rest))

dollar_follows : {most left number : ℕ} {is_quoted : Bool} {text : List ℕ} {part : Made} → ReadsExpansion most is_quoted left number text part
    → FollowsDollar most is_quoted left number text (expansion text) part
dollar_follows {most = most} {left = left} {number = number} {is_quoted = is_quoted} {text = text} {part = part} (is_parameter e) =
    subst (λ x. FollowsDollar most is_quoted left number text x part) (sym e) refl
dollar_follows {most = most} {left = left} {number = number} {is_quoted = is_quoted} {text = text} {part = part} (is_substitution {rest = rest} e passed) =
    subst (λ x. FollowsDollar most is_quoted left number text x part) (sym e) (rest, (passed, refl))
dollar_follows {most = suc most} {left = left} {number = number} {is_quoted = is_quoted} {text = text} {part = part} (has_word {end = end} e reads) =
    subst (λ x. FollowsDollar (suc most) is_quoted left number text x part) (sym e) (end, (reads, refl))
dollar_follows {most = suc most} {left = left} {number = number} {is_quoted = is_quoted} {text = text} {part = part} (has_arithmetic {end = end} e reads) =
    subst (λ x. FollowsDollar (suc most) is_quoted left number text x part) (sym e) (end, (reads, refl))
dollar_follows {most = most} {left = left} {number = number} {is_quoted = is_quoted} {text = text} {part = part} (has_no_form {rest = rest} e passed) =
    subst (λ x. FollowsDollar most is_quoted left number text x part) (sym e) (rest, (passed, refl))
dollar_follows {most = zero} {left = left} {number = number} {is_quoted = is_quoted} {text = text} {part = part} (word_too_deep e) =
    subst (λ x. FollowsDollar zero is_quoted left number text x part) (sym e) refl
dollar_follows {most = zero} {left = left} {number = number} {is_quoted = is_quoted} {text = text} {part = part} (arithmetic_too_deep e) =
    subst (λ x. FollowsDollar zero is_quoted left number text x part) (sym e) refl

passed_same : (construct : Construct) (text one other : List ℕ) → Passes construct text one → Passes construct text other → other ≡ one
passed_same construct text one other (end, (reads, is)) (second, (again, same)) =
    same ∙ (ap left_by (lexed.Reads-same again reads) ∙ sym is)

mutual
  -- a text has one outcome
  pub pieces_same : {most number : ℕ} {at : Mode} {text : List ℕ} {one other : Outcome} → ReadsPieces most at number text one
      → ReadsPieces most at number text other → other ≡ one
  pieces_same {most = most} {number = number} {at = at} {other = other} (has_ended e) second =
      subst (λ s. Follows most at number s other) e (follows second)
  pieces_same {most = most} {number = number} {at = at} {other = other} (passes_on e reads) second =
      pieces_same reads (subst (λ s. Follows most at number s other) e (follows second))
  pieces_same {most = most} {number = number} {at = at} {other = other} (gives_piece {piece = piece} e reads) second =
      let (inner, (again, is)) = subst (λ s. Follows most at number s other) e (follows second) in
      is ∙ ap (onto piece) (pieces_same reads again)
  pieces_same {most = most} {number = number} {at = at} {other = other} (expands_to {found = found} {fault = fault} e inside reads) second =
      let (part, (again, behind)) = subst (λ s. Follows most at number s other) e (follows second) in
      let (inner, (others, is)) = subst (λ p. Behind most at p other) (expansion_same inside again) behind in
      is ∙ ap (found_onto found fault) (pieces_same reads others)

  pub expansion_same : {most left number : ℕ} {is_quoted : Bool} {text : List ℕ} {one other : Made}
      → ReadsExpansion most is_quoted left number text one → ReadsExpansion most is_quoted left number text other → other ≡ one
  expansion_same {most = most} {left = left} {number = number} {is_quoted = is_quoted} {text = text} {other = other} (is_parameter e) second =
      subst (λ x. FollowsDollar most is_quoted left number text x other) e (dollar_follows second)
  expansion_same {most = most} {left = left} {number = number} {is_quoted = is_quoted} {text = text} {other = other} (is_substitution {inner = inner} {rest = rest} e passed) second =
      let (after, (again, is)) = subst (λ x. FollowsDollar most is_quoted left number text x other) e (dollar_follows second) in
      is ∙ ap (made (Some (substitution number is_quoted)) None (number + 1)) (passed_same in_commands inner rest after passed again)
  expansion_same {most = suc most} {left = left} {number = number} {is_quoted = is_quoted} {text = text} {other = other} (has_word {what = what} {by = by} e reads) second =
      let (end, (again, is)) = subst (λ x. FollowsDollar (suc most) is_quoted left number text x other) e (dollar_follows second) in
      is ∙ ap (with_form what by is_quoted) (pieces_same reads again)
  expansion_same {most = suc most} {left = left} {number = number} {is_quoted = is_quoted} {text = text} {other = other} (has_arithmetic e reads) second =
      let (end, (again, is)) = subst (λ x. FollowsDollar (suc most) is_quoted left number text x other) e (dollar_follows second) in
      is ∙ ap (calculated is_quoted) (pieces_same reads again)
  expansion_same {most = most} {left = left} {number = number} {is_quoted = is_quoted} {text = text} {other = other} (has_no_form {rest = rest} e passed) second =
      let (after, (again, is)) = subst (λ x. FollowsDollar most is_quoted left number text x other) e (dollar_follows second) in
      is ∙ ap (made None (Some left) number) (passed_same (in_braces is_quoted left) (behind_byte text) rest after passed again)
  expansion_same {most = zero} {left = left} {number = number} {is_quoted = is_quoted} {text = text} {other = other} (word_too_deep e) second =
      subst (λ x. FollowsDollar zero is_quoted left number text x other) e (dollar_follows second)
  expansion_same {most = zero} {left = left} {number = number} {is_quoted = is_quoted} {text = text} {other = other} (arithmetic_too_deep e) second =
      subst (λ x. FollowsDollar zero is_quoted left number text x other) e (dollar_follows second)

-- and it has some outcome, where the texts one level below have
abbrev Below : ℕ → Type 0
Below zero = Unit {0}
Below (suc most) = (at : Mode) (number : ℕ) (text : List ℕ) → (end : Outcome) × ReadsPieces most at number text end

dollar_some : (most : ℕ) → Below most → (is_quoted : Bool) (left number : ℕ) (text : List ℕ) (found : Expansion) → expansion text ≡ found
    → (part : Made) × ReadsExpansion most is_quoted left number text part
dollar_some most below is_quoted left number text (whole what measured rest) e =
    (made (Some (parameter what (bare_form measured) is_quoted)) None number rest, is_parameter e)
dollar_some most below is_quoted left number text (commands inner) e =
    let (end, reads) = lexed.Reads-some in_commands inner in
    (made (Some (substitution number is_quoted)) None (number + 1) (left_by end), is_substitution e (end, (reads, refl)))
dollar_some zero below is_quoted left number text (with_word what by inner) e = (made None (Some left) number [], word_too_deep e)
dollar_some (suc most) below is_quoted left number text (with_word what by inner) e =
    let (end, reads) = below (mode.Word (owner.Braces (is_quoted && not (trims by)))) number inner in
    (with_form what by is_quoted end, has_word e reads)
dollar_some zero below is_quoted left number text (arithmetic_text inner) e = (made None (Some left) number [], arithmetic_too_deep e)
dollar_some (suc most) below is_quoted left number text (arithmetic_text inner) e =
    let (end, reads) = below (mode.Arithmetic 0) number inner in (calculated is_quoted end, has_arithmetic e reads)
dollar_some most below is_quoted left number text no_form e =
    let (end, reads) = lexed.Reads-some (in_braces is_quoted left) (behind_byte text) in
    (made None (Some left) number (left_by end), has_no_form e (end, (reads, refl)))

-- of a text that is shorter than this
abbrev Shorter : ℕ → ℕ → Type 0
Shorter most count = (at : Mode) (number : ℕ) (text : List ℕ) → length text < count → (end : Outcome) × ReadsPieces most at number text end

behind_some : (most count : ℕ) → Shorter most count → (at : Mode) (number left : ℕ) (is_quoted : Bool) (text rest : List ℕ)
    → step at text ≡ expands is_quoted left rest → length rest < count → (part : Made)
    → ReadsExpansion most is_quoted left number rest part → (end : Outcome) × ReadsPieces most at number text end
behind_some most count shorter at number left is_quoted text rest e h (made found fault next after) inside =
    let within : (number ≤ next) × (length after ≤ length rest) = expansion-Leaves inside in
    let (end, reads) = shorter at next after (omega (arith, within.1)) in (found_onto found fault end, expands_to e inside reads)

step_some : (most count : ℕ) → Below most → Shorter most count → (at : Mode) (number : ℕ) (text : List ℕ) → length text < suc count
    → (next : Step) → step at text ≡ next → (end : Outcome) × ReadsPieces most at number text end
step_some most count below shorter at number text h (ends rest) e = (done no_part None number rest, has_ended e)
step_some most count below shorter at number text h (passes next rest) e =
    let less = passes-less at next text rest e in
    let (end, reads) = shorter next number rest (omega (arith, less.0)) in (end, passes_on e reads)
step_some most count below shorter at number text h (gives piece next rest) e =
    let less = gives-less at next text rest piece e in
    let (end, reads) = shorter next number rest (omega (arith, less.0)) in (onto piece end, gives_piece e reads)
step_some most count below shorter at number text h (expands is_quoted left rest) e =
    let less = expands-less at text rest is_quoted left e in
    let (part, inside) = dollar_some most below is_quoted left number rest (expansion rest) refl in
    behind_some most count shorter at number left is_quoted text rest e (omega (arith, less.0, less.1)) part inside

level_some : (most : ℕ) → Below most → (count : ℕ) → Shorter most count
level_some most below zero = λ at number text h. absurd (omega arith)
level_some most below (suc count) = λ at number text h.
    step_some most count below (level_some most below count) at number text h (step at text) refl

pub pieces_some : (most : ℕ) (at : Mode) (number : ℕ) (text : List ℕ) → (end : Outcome) × ReadsPieces most at number text end
pieces_some zero = λ at number text. level_some zero tt (suc (length text)) at number text (omega arith)
pieces_some (suc most) = λ at number text. level_some (suc most) (pieces_some most) (suc (length text)) at number text (omega arith)

-- so has a word behind some bytes
pub behind_one : (first total : ℕ) (text : List ℕ) → HasOneOutcome (ReadsBehind first total text)
behind_one first total text =
    let (end, reads) = pieces_some MAX_LEVELS (mode.Word owner.Token) first text in (
      word_outcome first total end,
      (
        (end, (reads, refl)),
        λ other (last, (again, is)). is ∙ ap (word_outcome first total) (pieces_same reads again),
      ),
    )
