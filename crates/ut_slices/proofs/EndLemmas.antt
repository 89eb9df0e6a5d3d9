-- The lines at the beginning and at the end of a text.
use Rattle.std.proofs.Common.{◌≡◌, ◌==◌, ◌||◌, ◌<◌, ◌≤◌, ◌+◌, ◌-◌, ℕ, zero, suc, List, [], ◌∷◌, ◌++◌, length, take, drop, Bool, true, false, refl, ap, sym, subst, ◌∙◌, append_assoc, append-nil, arith, length-append, length-drop, if◌then◌else◌}
use Rattle.std.specs.List.{concat, onto_first}
use Rattle.std.proofs.lemmas.Bool.{eqb-true, or_parts}
use Rattle.std.proofs.lemmas.List.{drop_all, take-append-drop}
use Rattle.std.proofs.Math.Dec.{ltb}
use Rattle.std.proofs.Math.Seq.{drop-append-add, drop-append_seam, take-append_seam}
use Rattle.ut_args.specs.declared.commands.Unit.{Unit}
use Rattle.ut_args.specs.declared.commands.Unit.TheVariants as unit
use Rattle.ps_lines.specs.Lines.{CutsLine, has_newline, is_closed, is_empty}
use Rattle.ps_lines.proofs.LineLemmas.{is_closed-push}
use Rattle.ut_streams.specs.Streams.{CutsLastLine}
use Rattle.ut_streams.proofs.StreamLemmas.{Wrote-put, Wrote-same, Put-whole, Put-none, Put-after, Put-broken}
use Rattle.ut_slices.specs.Ends.{behind, behind_lines, first_lines, last, last_lines, whole_lines}
use Rattle.ut_slices.specs.Inner.Cuts.{BeginsLast, PassesLines}

abbrev empty : List (List ℕ)
empty = []

-- a byte before whole lines, where `ends` says that it is a newline
abbrev before : Bool → ℕ → List (List ℕ) → List (List ℕ)
before ends byte others = if ends then (byte ∷ []) ∷ others else onto_first byte others

other : (byte : ℕ) (rest : List ℕ) → (byte == 10) ≡ false → whole_lines (byte ∷ rest) ≡ onto_first byte (whole_lines rest)
other byte rest is = rw is

-- the first line is what stands up to the first newline
pub whole_lines-line : (line rest : List ℕ) → has_newline line ≡ false → whole_lines (line ++ 10 ∷ rest) ≡ (line ++ 10 ∷ []) ∷ whole_lines rest
whole_lines-line [] rest plain = refl
whole_lines-line (byte ∷ line) rest plain =
    let parts = or_parts (byte == 10) (has_newline line) plain in
    other byte (line ++ 10 ∷ rest) parts.0 ∙ ap (onto_first byte) (whole_lines-line line rest parts.1)

-- a text with a newline at its end at most is one line, if it isn't empty
alone : (ends : Bool) (byte : ℕ) → before ends byte [] ≡ (byte ∷ []) ∷ []
alone true byte = refl
alone false byte = refl

pub whole_lines-last : (line : List ℕ) (last : ℕ) → has_newline line ≡ false → whole_lines (line ++ last ∷ []) ≡ (line ++ last ∷ []) ∷ []
whole_lines-last [] last plain = alone (last == 10) last
whole_lines-last (byte ∷ line) last plain =
    let parts = or_parts (byte == 10) (has_newline line) plain in
    other byte (line ++ last ∷ []) parts.0 ∙ ap (onto_first byte) (whole_lines-last line last parts.1)

-- the lines joined are the text
onto-concat : (ends : Bool) (byte : ℕ) (others : List (List ℕ)) → concat (before ends byte others) ≡ byte ∷ concat others
onto-concat true byte others = refl
onto-concat false byte [] = refl
onto-concat false byte (line ∷ others) = refl

pub whole_lines-concat : (text : List ℕ) → concat (whole_lines text) ≡ text
whole_lines-concat [] = refl
whole_lines-concat (byte ∷ rest) = onto-concat (byte == 10) byte (whole_lines rest) ∙ ap (λ rest. byte ∷ rest) (whole_lines-concat rest)

-- the lines of a closed text followed by another are the lines of both
some : (ends : Bool) (byte : ℕ) (lines : List (List ℕ)) → (line : List ℕ) × (others : List (List ℕ)) × (before ends byte lines ≡ line ∷ others)
some true byte lines = (byte ∷ [], lines, refl)
some false byte [] = (byte ∷ [], [], refl)
some false byte (line ∷ lines) = (byte ∷ line, lines, refl)

before-append : (ends : Bool) (byte : ℕ) (line : List ℕ) (front back : List (List ℕ))
    → before ends byte ((line ∷ front) ++ back) ≡ before ends byte (line ∷ front) ++ back
before-append true byte line front back = refl
before-append false byte line front back = refl

pub whole_lines-append : (front back : List ℕ) → is_closed front ≡ true → whole_lines (front ++ back) ≡ whole_lines front ++ whole_lines back
whole_lines-append [] back closed = refl
whole_lines-append (byte ∷ []) back closed = rw closed
whole_lines-append (byte ∷ next ∷ rest) back closed =
    let put = before (byte == 10) byte in
    let first = some (next == 10) next (whole_lines rest) in
    ap put (whole_lines-append (next ∷ rest) back closed ∙ ap (λ front. front ++ whole_lines back) first.2)
    ∙ before-append (byte == 10) byte first.0 first.1 (whole_lines back)
    ∙ ap (λ front. put front ++ whole_lines back) (sym first.2)

-- more bytes make no fewer lines
onto-more : (ends : Bool) (byte : ℕ) (one other : List (List ℕ)) → length one ≤ length other → length (before ends byte one) ≤ length (before ends byte other)
onto-more true byte one other more = omega (arith, more)
onto-more false byte [] [] more = omega arith
onto-more false byte [] (line ∷ others) more = omega arith
onto-more false byte (line ∷ one) [] more = absurd (omega (arith, more))
onto-more false byte (line ∷ one) (line' ∷ others) more = omega (arith, more)

pub whole_lines-more : (front back : List ℕ) → length (whole_lines front) ≤ length (whole_lines (front ++ back))
whole_lines-more [] back = omega arith
whole_lines-more (byte ∷ rest) back = onto-more (byte == 10) byte (whole_lines rest) (whole_lines (rest ++ back)) (whole_lines-more rest back)

-- a line of the first ones is passed
pub first-line : (count : ℕ) (line rest : List ℕ) → 0 < count → has_newline line ≡ false
    → first_lines count (line ++ 10 ∷ rest) ≡ (line ++ 10 ∷ []) ++ first_lines (count - 1) rest
first-line zero line rest more plain = absurd (omega (arith, more))
first-line (suc count) line rest more plain =
    let less : suc count - 1 ≡ count = omega arith in
    ap (λ lines. concat (take (suc count) lines)) (whole_lines-line line rest plain)
    ∙ ap (λ count. (line ++ 10 ∷ []) ++ first_lines count rest) (sym less)

pub behind-line : (count : ℕ) (line rest : List ℕ) → 0 < count → has_newline line ≡ false
    → behind_lines count (line ++ 10 ∷ rest) ≡ behind_lines (count - 1) rest
behind-line zero line rest more plain = absurd (omega (arith, more))
behind-line (suc count) line rest more plain =
    let less : suc count - 1 ≡ count = omega arith in
    ap (λ lines. concat (drop (suc count) lines)) (whole_lines-line line rest plain) ∙ ap (λ count. behind_lines count rest) (sym less)

-- bytes that end no line
pub first-onto : (count byte : ℕ) (lines : List (List ℕ)) → 0 < count → concat (take count (onto_first byte lines)) ≡ byte ∷ concat (take count lines)
first-onto zero byte lines more = absurd (omega (arith, more))
first-onto (suc count) byte [] more = ap (λ lines. concat ((byte ∷ []) ∷ lines)) (none count) where
  none : (count : ℕ) → take count empty ≡ []
  none zero = refl
  none (suc count) = refl
first-onto (suc count) byte (line ∷ lines) more = refl

pub first-plain : (count : ℕ) (text more : List ℕ) → 0 < count → has_newline text ≡ false → first_lines count (text ++ more) ≡ text ++ first_lines count more
first-plain count [] more some plain = refl
first-plain count (byte ∷ text) more some plain =
    let parts = or_parts (byte == 10) (has_newline text) plain in
    ap (λ lines. concat (take count lines)) (other byte (text ++ more) parts.0) ∙ first-onto count byte (whole_lines (text ++ more)) some
    ∙ ap (λ rest. byte ∷ rest) (first-plain count text more some parts.1)

behind-onto : (count byte : ℕ) (lines : List (List ℕ)) → 0 < count → concat (drop count (onto_first byte lines)) ≡ concat (drop count lines)
behind-onto zero byte lines more = absurd (omega (arith, more))
behind-onto (suc count) byte [] more = ap concat (drop_all count [] (omega arith))
behind-onto (suc count) byte (line ∷ lines) more = refl

pub behind-plain : (count : ℕ) (text more : List ℕ) → 0 < count → has_newline text ≡ false → behind_lines count (text ++ more) ≡ behind_lines count more
behind-plain count [] more some plain = refl
behind-plain count (byte ∷ text) more some plain =
    let parts = or_parts (byte == 10) (has_newline text) plain in
    ap (λ lines. concat (drop count lines)) (other byte (text ++ more) parts.0) ∙ behind-onto count byte (whole_lines (text ++ more)) some
    ∙ behind-plain count text more some parts.1

-- some first lines of a piece were passed: `rest` is what stands behind them
pub record Passing (piece : List ℕ) (count : ℕ) (rest : List ℕ) (left : ℕ) : Type 0 where
  pub front : List ℕ
  pub whole : piece ≡ front ++ rest
  pub first : (more : List ℕ) → first_lines count (piece ++ more) ≡ front ++ first_lines left (rest ++ more)
  pub behind : (more : List ℕ) → behind_lines count (piece ++ more) ≡ behind_lines left (rest ++ more)

pub Passing-start : (piece : List ℕ) (count : ℕ) → Passing piece count piece count
Passing-start piece count = record { front = []; whole = refl; first = λ more. refl; behind = λ more. refl }

pub Passing-line : (piece : List ℕ) (count : ℕ) (rest : List ℕ) (left : ℕ) (line after : List ℕ) → Passing piece count rest left → 0 < left → CutsLine rest line after
    → Passing piece count after (left - 1)
Passing-line piece count rest left line after passing more cut =
    let goes_on : (more : List ℕ) → rest ++ more ≡ line ++ 10 ∷ (after ++ more) = λ more. ap (λ rest. rest ++ more) cut.whole ∙ append_assoc line (10 ∷ after) more in
    record {
      front = passing.front ++ (line ++ 10 ∷ []);
      whole = passing.whole ∙ ap (λ rest. passing.front ++ rest) (cut.whole ∙ sym (append_assoc line (10 ∷ []) after)) ∙ sym (append_assoc passing.front (line ++ 10 ∷ []) after);
      first = λ coming.
          passing.first coming ∙ ap (λ rest. passing.front ++ first_lines left rest) (goes_on coming)
          ∙ ap (λ rest. passing.front ++ rest) (first-line left line (after ++ coming) more cut.plain)
          ∙ sym (append_assoc passing.front (line ++ 10 ∷ []) (first_lines (left - 1) (after ++ coming)));
      behind = λ coming.
          passing.behind coming ∙ ap (behind_lines left) (goes_on coming) ∙ behind-line left line (after ++ coming) more cut.plain;
    }

-- all lines were passed, or the piece has too few
pub PassesLines-all : (piece : List ℕ) (count : ℕ) (rest : List ℕ) (left at : ℕ) → left ≤ 0 → at ≡ length piece - length rest → Passing piece count rest left
    → PassesLines piece count (take at piece) (drop at piece) 0
PassesLines-all piece count rest (suc left) at none is passing = absurd (omega (arith, none))
PassesLines-all piece count rest zero at none is passing =
    let place : at ≡ length passing.front = omega (arith, is, ap length passing.whole, length-append passing.front rest) in
    let cut : drop at piece ≡ rest = ap (λ at. drop at piece) place ∙ ap (drop (length passing.front)) passing.whole ∙ drop-append_seam passing.front rest in
    let front : take at piece ≡ passing.front = ap (λ at. take at piece) place ∙ ap (take (length passing.front)) passing.whole ∙ take-append_seam passing.front rest in
    record {
      first = λ more. passing.first more ∙ ap (λ front. front ++ []) (sym front);
      behind = λ more.
          passing.behind more ∙ whole_lines-concat (rest ++ more)
          ∙ ap (λ rest. rest ++ more) (sym cut) ∙ ap (λ more. drop at piece ++ more) (sym (whole_lines-concat more));
    }

pub PassesLines-some : (piece : List ℕ) (count : ℕ) (rest : List ℕ) (left : ℕ) → Passing piece count rest left → 0 < left → has_newline rest ≡ false
    → PassesLines piece count piece [] left
PassesLines-some piece count rest left passing more plain =
    record {
      first = λ coming.
          passing.first coming ∙ ap (λ rest. passing.front ++ rest) (first-plain left rest coming more plain)
          ∙ sym (append_assoc passing.front rest (first_lines left coming)) ∙ ap (λ piece. piece ++ first_lines left coming) (sym passing.whole);
      behind = λ coming. passing.behind coming ∙ behind-plain left rest coming more plain;
    }

-- nothing comes before the lines that are wanted
pub first_lines-none : (text : List ℕ) → first_lines 0 text ≡ []
first_lines-none text = refl

none-taken : (count : ℕ) → concat (take count empty) ≡ []
none-taken zero = refl
none-taken (suc count) = refl

pub first_lines-empty : (count : ℕ) → first_lines count [] ≡ []
first_lines-empty count = none-taken count

pub behind-empty : (unit : Unit) (count : ℕ) → behind unit count [] ≡ []
behind-empty unit.Lines count = ap concat (drop_all count [] (omega arith))
behind-empty unit.Bytes count = drop_all count [] (omega arith)

-- the last lines of a text were gone over from its end: so many are left to go, before the front
pub record Walked (text : List ℕ) (count : ℕ) (front : List ℕ) (left : ℕ) : Type 0 where
  pub back : List ℕ
  pub whole : text ≡ front ++ back
  pub lines : length (whole_lines back) + left ≡ count
  pub ends : (is_closed front || is_empty back) ≡ true

ends-empty : (closed : Bool) → (closed || true) ≡ true
ends-empty true = refl
ends-empty false = refl

ends-some : (closed : Bool) → (closed || false) ≡ true → closed ≡ true
ends-some true is = refl
ends-some false is = is

pub Walked-start : (text : List ℕ) (count : ℕ) → Walked text count text count
Walked-start text count = record { back = []; whole = sym (append-nil text); lines = omega arith; ends = ends-empty (is_closed text) }

-- the last line of the front is gone over
one_more : (before body : List ℕ) (last : ℕ) (back : List ℕ) → (is_closed (before ++ (body ++ last ∷ [])) || is_empty back) ≡ true → has_newline body ≡ false
    → length (whole_lines ((body ++ last ∷ []) ++ back)) ≡ length (whole_lines back) + 1
one_more before body last [] ends plain =
    ap (λ text. length (whole_lines text)) (append-nil (body ++ last ∷ [])) ∙ ap length (whole_lines-last body last plain)
one_more before body last (byte ∷ back) ends plain =
    let closed : is_closed (before ++ (body ++ last ∷ [])) ≡ true = ends-some (is_closed (before ++ (body ++ last ∷ []))) ends in
    let pushed : is_closed ((before ++ body) ++ last ∷ []) ≡ true = ap is_closed (append_assoc before body (last ∷ [])) ∙ closed in
    let newline : last ≡ 10 = eqb-true last 10 (sym (is_closed-push (before ++ body) last) ∙ pushed) in
    ap (λ last. length (whole_lines ((body ++ last ∷ []) ++ (byte ∷ back)))) newline
    ∙ ap (λ text. length (whole_lines text)) (append_assoc body (10 ∷ []) (byte ∷ back))
    ∙ ap length (whole_lines-line body (byte ∷ back) plain) ∙ omega arith

pub Walked-line : (text : List ℕ) (count : ℕ) (front : List ℕ) (left last : ℕ) (body before rest : List ℕ) → Walked text count front left → 0 < left
    → front ≡ body ++ last ∷ [] → CutsLastLine body before rest → Walked text count before (left - 1)
Walked-line text count front left last body before rest walked more is cut =
    let parts : front ≡ before ++ (rest ++ last ∷ []) = is ∙ ap (λ body. body ++ last ∷ []) cut.whole ∙ append_assoc before rest (last ∷ []) in
    let ends : (is_closed (before ++ (rest ++ last ∷ [])) || is_empty walked.back) ≡ true = ap (λ front. is_closed front || is_empty walked.back) (sym parts) ∙ walked.ends in
    record {
      back = (rest ++ last ∷ []) ++ walked.back;
      whole = walked.whole ∙ ap (λ front. front ++ walked.back) parts ∙ append_assoc before (rest ++ last ∷ []) walked.back;
      lines = omega (arith, one_more before rest last walked.back ends cut.plain, walked.lines, more);
      ends = ap (λ closed. closed || is_empty ((rest ++ last ∷ []) ++ walked.back)) cut.ends;
    }

-- lines before the last ones don't count
last-behind : (count : ℕ) (front back more : List ℕ) → is_closed front ≡ true → count ≤ length (whole_lines (back ++ more))
    → last_lines count ((front ++ back) ++ more) ≡ last_lines count (back ++ more)
last-behind count front back more closed enough =
    let split : whole_lines ((front ++ back) ++ more) ≡ whole_lines front ++ whole_lines (back ++ more) =
    ap whole_lines (append_assoc front back more) ∙ whole_lines-append front (back ++ more) closed in
    let size : length (whole_lines front ++ whole_lines (back ++ more)) - count ≡ length (whole_lines front) + (length (whole_lines (back ++ more)) - count) =
    omega (arith, length-append (whole_lines front) (whole_lines (back ++ more)), enough) in
    ap (λ lines. concat (drop (length lines - count) lines)) split
    ∙ ap (λ size. concat (drop size (whole_lines front ++ whole_lines (back ++ more)))) size
    ∙ ap concat (drop-append-add (whole_lines front) (whole_lines (back ++ more)) (length (whole_lines (back ++ more)) - count))

last-none : (text : List ℕ) → last_lines 0 text ≡ []
last-none text = ap concat (drop_all (length (whole_lines text) - 0) (whole_lines text) (omega arith))

pub last-few : (count : ℕ) (text : List ℕ) → length (whole_lines text) ≤ count → last_lines count text ≡ text
last-few count text few =
    let none : length (whole_lines text) - count ≡ 0 = omega (arith, few) in
    ap (λ size. concat (drop size (whole_lines text))) none ∙ whole_lines-concat text

keeps-by : (count : ℕ) (front back : List ℕ) → length (whole_lines back) ≡ count → (is_closed front || is_empty back) ≡ true
    → (more : List ℕ) → last_lines count ((front ++ back) ++ more) ≡ last_lines count (back ++ more)
keeps-by count front [] lines ends more =
    let none : count ≡ 0 = sym lines in
    ap (λ count. last_lines count ((front ++ []) ++ more)) none ∙ last-none ((front ++ []) ++ more) ∙ sym (last-none more) ∙ ap (λ count. last_lines count more) lines
keeps-by count front (byte ∷ back) lines ends more =
    last-behind count front (byte ∷ back) more (ends-some (is_closed front) ends) (omega (arith, lines, whole_lines-more (byte ∷ back) more))

-- so many lines were gone over
pub BeginsLast-all : (text : List ℕ) (count : ℕ) (front : List ℕ) (left : ℕ) → left ≤ 0 → Walked text count front left → BeginsLast (last_lines count) text (length front)
BeginsLast-all text count front left none walked =
    let cut : drop (length front) text ≡ walked.back = ap (drop (length front)) walked.whole ∙ drop-append_seam front walked.back in
    let lines : length (whole_lines walked.back) ≡ count = omega (arith, walked.lines, none) in
    record {
      within = omega (arith, ap length walked.whole, length-append front walked.back);
      keeps = λ more.
          ap (λ text. last_lines count (text ++ more)) walked.whole ∙ keeps-by count front walked.back lines walked.ends more
          ∙ ap (λ back. last_lines count (back ++ more)) (sym cut);
      whole = ap (last_lines count) cut ∙ last-few count walked.back (omega (arith, lines)) ∙ sym cut;
    }

-- or all lines were
pub BeginsLast-few : (text : List ℕ) (count : ℕ) (front : List ℕ) (left : ℕ) → length front ≡ 0 → Walked text count front left → BeginsLast (last_lines count) text 0
BeginsLast-few text count [] left none walked =
    record {
      within = omega arith;
      keeps = λ more. refl;
      whole = ap (last_lines count) walked.whole ∙ last-few count walked.back (omega (arith, walked.lines)) ∙ sym walked.whole;
    }
BeginsLast-few text count (byte ∷ front) left none walked = absurd (omega (arith, none))

-- the last bytes
bytes-keep : (count : ℕ) (front back more : List ℕ) → length back ≡ count
    → drop (length ((front ++ back) ++ more) - count) ((front ++ back) ++ more) ≡ drop (length (back ++ more) - count) (back ++ more)
bytes-keep count front back more is =
    let size : length ((front ++ back) ++ more) - count ≡ length front + (length (back ++ more) - count) =
    omega (arith, length-append (front ++ back) more, length-append front back, length-append back more, is) in
    ap (λ size. drop size ((front ++ back) ++ more)) size ∙ ap (drop (length front + (length (back ++ more) - count))) (append_assoc front back more)
    ∙ drop-append-add front (back ++ more) (length (back ++ more) - count)

bytes-at : (count : ℕ) (text : List ℕ) (place : ℕ) (few : Bool) → ltb count (length text) ≡ few → place ≡ length text - count
    → BeginsLast (λ text. drop (length text - count) text) text place
bytes-at count text place false few is =
    let none : place ≡ 0 = grind (arith, few, is) in
    let whole : length text - count ≡ 0 = omega (arith, none, is) in
    subst (λ place. BeginsLast (λ text. drop (length text - count) text) text place) (sym none)
    (record { within = omega arith; keeps = λ more. refl; whole = ap (λ size. drop size text) whole })
bytes-at count text place true few is =
    let more : count < length text = grind (arith, few) in
    let size : length (drop place text) ≡ count = omega (arith, length-drop place text, is, more) in
    let none : length (drop place text) - count ≡ 0 = omega (arith, size) in
    record {
      within = omega (arith, is);
      keeps = λ coming.
          ap (λ text. drop (length (text ++ coming) - count) (text ++ coming)) (sym (take-append-drop place text))
          ∙ bytes-keep count (take place text) (drop place text) coming size;
      whole = ap (λ size. drop size (drop place text)) none;
    }

pub BeginsLast-bytes : (count : ℕ) (text : List ℕ) (place : ℕ) → place ≡ length text - count → BeginsLast (λ text. drop (length text - count) text) text place
BeginsLast-bytes count text place is = bytes-at count text place (ltb count (length text)) refl is

-- a piece was held, and what stands before the end dropped
pub held-end : (unit : Unit) (count : ℕ) (old piece held : List ℕ) (place : ℕ) → held ≡ old ++ piece → BeginsLast (last unit count) held place
    → (more : List ℕ) → last unit count (drop place held ++ more) ≡ last unit count (old ++ (piece ++ more))
held-end unit count old piece held place is begins more =
    sym (begins.keeps more) ∙ ap (λ held. last unit count (held ++ more)) is ∙ ap (last unit count) (append_assoc old piece more)

-- the end of what is held is put
pub held-last : (unit : Unit) (count : ℕ) (held : List ℕ) (place : ℕ) → BeginsLast (last unit count) held place → last unit count (held ++ []) ≡ drop place held
held-last unit count held place begins = begins.keeps [] ∙ ap (last unit count) (append-nil (drop place held)) ∙ begins.whole

pub ruleset steps = (Wrote-put, Wrote-same, Put-whole, Put-none, first_lines-empty, behind-empty)
