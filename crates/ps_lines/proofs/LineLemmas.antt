-- Laws of lines.
use Rattle.std.proofs.Common.{◌≡◌, ℕ, ◌==◌, ◌&&◌, ◌||◌, List, [], ◌∷◌, ◌++◌, Bool, true, false, not, if◌then◌else◌, refl, ap, sym, ◌∙◌, append_assoc, append-nil, ◌<◌, length, arith}
use Rattle.std.specs.List.{list_all, onto_first, flat_map, concat, slice_split}
use Rattle.std.proofs.lemmas.Bool.{or_parts, and_parts, eqb-true, true≢false, not-true, cond-true, cond-false}
use Rattle.std.proofs.lemmas.Bool.Decides.{nat_tests}
use Rattle.ps_lines.specs.Lines.{lines, has_newline, are_lines, text_of_lines, is_closed, closing, is_empty, is_cutlist, CutsLine, without_empty_rest}

-- the byte before the lines, where `ends` says that it is a newline
abbrev before : Bool → ℕ → List (List ℕ) → List (List ℕ)
before ends byte others = if ends then [] ∷ others else onto_first byte others

-- a byte that is no newline stands before the first line
lines-other : (byte : ℕ) (rest : List ℕ) → (byte == 10) ≡ false → lines (byte ∷ rest) ≡ onto_first byte (lines rest)
lines-other byte rest other = rw other

-- the first line is what stands before the first newline
pub lines-line : (line rest : List ℕ) → has_newline line ≡ false → lines (line ++ 10 ∷ rest) ≡ line ∷ lines rest
lines-line [] rest plain = refl
lines-line (byte ∷ line) rest plain =
    let parts = or_parts (byte == 10) (has_newline line) plain in
    lines-other byte (line ++ 10 ∷ rest) parts.0 ∙ ap (onto_first byte) (lines-line line rest parts.1)

-- a text without a newline is one line, if it isn't empty
pub lines-last : (byte : ℕ) (line : List ℕ) → has_newline (byte ∷ line) ≡ false → lines (byte ∷ line) ≡ (byte ∷ line) ∷ []
lines-last byte [] plain = lines-other byte [] (or_parts (byte == 10) false plain).0
lines-last byte (next ∷ line) plain =
    let parts = or_parts (byte == 10) (has_newline (next ∷ line)) plain in
    lines-other byte (next ∷ line) parts.0 ∙ ap (onto_first byte) (lines-last next line parts.1)

-- the first line of a text that isn't empty, and the others
lines-some : (byte : ℕ) (rest : List ℕ) → (line : List ℕ) × (others : List (List ℕ)) × (lines (byte ∷ rest) ≡ line ∷ others)
lines-some byte rest = some (byte == 10) byte (lines rest)
  where
    some : (ends : Bool) (byte : ℕ) (lines : List (List ℕ)) → (line : List ℕ) × (others : List (List ℕ)) × (before ends byte lines ≡ line ∷ others)
    some true byte lines = ([], lines, refl)
    some false byte [] = (byte ∷ [], [], refl)
    some false byte (line ∷ lines) = (byte ∷ line, lines, refl)

before-append : (ends : Bool) (byte : ℕ) (line : List ℕ) (front back : List (List ℕ))
    → before ends byte ((line ∷ front) ++ back) ≡ before ends byte (line ∷ front) ++ back
before-append true byte line front back = refl
before-append false byte line front back = refl

-- the lines of a closed text followed by another are the lines of both
pub lines-append : (front back : List ℕ) → is_closed front ≡ true → lines (front ++ back) ≡ lines front ++ lines back
lines-append [] back closed = refl
lines-append (byte ∷ []) back closed = rw closed
lines-append (byte ∷ next ∷ rest) back closed =
    let put = before (byte == 10) byte in
    let some = lines-some next rest in
    ap put (lines-append (next ∷ rest) back closed ∙ ap (λ front. front ++ lines back) some.2)
    ∙ before-append (byte == 10) byte some.0 some.1 (lines back)
    ∙ ap (λ front. put front ++ lines back) (sym some.2)

-- a newline after an unclosed text adds no line
lines-unclosed : (text : List ℕ) → is_closed text ≡ false → lines (text ++ 10 ∷ []) ≡ lines text
lines-unclosed [] unclosed = absurd (true≢false unclosed)
lines-unclosed (byte ∷ []) unclosed = rw unclosed
lines-unclosed (byte ∷ next ∷ rest) unclosed = ap (before (byte == 10) byte) (lines-unclosed (next ∷ rest) unclosed)

pub lines-closing : (text : List ℕ) → lines (closing text) ≡ lines text
lines-closing text = by_end (is_closed text) refl
  where
    by_end : (closed : Bool) → is_closed text ≡ closed → lines (if closed then text else text ++ 10 ∷ []) ≡ lines text
    by_end true _ = refl
    by_end false unclosed = lines-unclosed text unclosed

-- the closed text is that of its lines, each with its newline
text_of_lines-before : (ends : Bool) (byte : ℕ) (line : List ℕ) (others : List (List ℕ)) → (byte == 10) ≡ ends
    → text_of_lines (before ends byte (line ∷ others)) ≡ byte ∷ text_of_lines (line ∷ others)
text_of_lines-before true byte line others ends = ap (λ first. first ∷ text_of_lines (line ∷ others)) (sym (eqb-true byte 10 ends))
text_of_lines-before false byte line others ends = refl

closing-cons : (byte next : ℕ) (rest : List ℕ) → closing (byte ∷ next ∷ rest) ≡ byte ∷ closing (next ∷ rest)
closing-cons byte next rest = by_end (is_closed (next ∷ rest))
  where
    by_end : (closed : Bool)
        → (if closed then byte ∷ next ∷ rest else byte ∷ next ∷ (rest ++ 10 ∷ [])) ≡ byte ∷ (if closed then next ∷ rest else next ∷ (rest ++ 10 ∷ []))
    by_end true = refl
    by_end false = refl

pub text_of_lines-lines : (text : List ℕ) → text_of_lines (lines text) ≡ closing text
text_of_lines-lines [] = refl
text_of_lines-lines (byte ∷ []) = by_end (byte == 10) refl
  where
    by_end : (ends : Bool) → (byte == 10) ≡ ends → text_of_lines (before ends byte []) ≡ (if ends then byte ∷ [] else byte ∷ 10 ∷ [])
    by_end true ends = ap (λ first. first ∷ []) (sym (eqb-true byte 10 ends))
    by_end false ends = refl
text_of_lines-lines (byte ∷ next ∷ rest) =
    let put = before (byte == 10) byte in
    let some = lines-some next rest in
    ap (λ others. text_of_lines (put others)) some.2
    ∙ text_of_lines-before (byte == 10) byte some.0 some.1 refl
    ∙ ap (λ others. byte ∷ text_of_lines others) (sym some.2)
    ∙ ap (λ text. byte ∷ text) (text_of_lines-lines (next ∷ rest))
    ∙ sym (closing-cons byte next rest)

-- and the lines of a text of lines are these lines
pub lines-text_of_lines : (texts : List (List ℕ)) → are_lines texts ≡ true → lines (text_of_lines texts) ≡ texts
lines-text_of_lines [] are = refl
lines-text_of_lines (line ∷ others) are =
    let parts = and_parts (not (has_newline line)) (are_lines others) are in
    lines-line line (text_of_lines others) (not-true (has_newline line) parts.0) ∙ ap (λ rest. line ∷ rest) (lines-text_of_lines others parts.1)

-- no line has a newline in it
are_lines-before : (ends : Bool) (byte : ℕ) (others : List (List ℕ)) → (byte == 10) ≡ ends → are_lines others ≡ true → are_lines (before ends byte others) ≡ true
are_lines-before true byte others ends are = are
are_lines-before false byte [] ends are = rw ends
are_lines-before false byte (line ∷ others) ends are = rw ends are

pub are_lines-lines : (text : List ℕ) → are_lines (lines text) ≡ true
are_lines-lines [] = refl
are_lines-lines (byte ∷ rest) = are_lines-before (byte == 10) byte (lines rest) refl (are_lines-lines rest)

-- a text that is cut at ends of lines has the lines of its parts
concat-empty : (texts : List (List ℕ)) → list_all is_empty texts ≡ true → concat texts ≡ []
concat-empty [] all = refl
concat-empty ([] ∷ others) all = concat-empty others all
concat-empty ((byte ∷ text) ∷ others) all = absurd (true≢false (sym all))

flat_map-empty : (texts : List (List ℕ)) → list_all is_empty texts ≡ true → flat_map lines texts ≡ []
flat_map-empty [] all = refl
flat_map-empty ([] ∷ others) all = flat_map-empty others all
flat_map-empty ((byte ∷ text) ∷ others) all = absurd (true≢false (sym all))

pub lines-concat : (texts : List (List ℕ)) → is_cutlist texts ≡ true → lines (concat texts) ≡ flat_map lines texts
lines-concat [] cut = refl
lines-concat (text ∷ others) cut = by_end (is_closed text) refl cut (lines-concat others)
  where
    by_end : (closed : Bool) → is_closed text ≡ closed → (if closed then is_cutlist others else list_all is_empty others) ≡ true
        → (is_cutlist others ≡ true → lines (concat others) ≡ flat_map lines others) → lines (text ++ concat others) ≡ lines text ++ flat_map lines others
    by_end true closed cut same = lines-append text (concat others) closed ∙ ap (λ rest. lines text ++ rest) (same cut)
    by_end false _ empty _ =
        ap (λ rest. lines (text ++ rest)) (concat-empty others empty) ∙ ap lines (append-nil text) ∙ sym (append-nil (lines text))
        ∙ ap (λ rest. lines text ++ rest) (sym (flat_map-empty others empty))

-- of two texts, in the form that functions of texts are compared in
pub lines_of_cut : (front back : List ℕ) → is_cutlist (front ∷ back ∷ []) ≡ true → lines (front ++ back) ≡ lines front ++ lines back
lines_of_cut front back cut =
    ap (λ rest. lines (front ++ rest)) (sym (append-nil back)) ∙ lines-concat (front ∷ back ∷ []) cut ∙ ap (λ rest. lines front ++ rest) (append-nil (lines back))

-- the lines are the parts between newlines, without an empty rest
without_empty_rest-before : (ends : Bool) (byte : ℕ) (part : List ℕ) (others : List (List ℕ))
    → before ends byte (without_empty_rest (part ∷ others)) ≡ without_empty_rest (if ends then [] ∷ part ∷ others else onto_first byte (part ∷ others))
without_empty_rest-before true byte part others = refl
without_empty_rest-before false byte [] [] = refl
without_empty_rest-before false byte (first ∷ part) [] = refl
without_empty_rest-before false byte part (next ∷ others) = refl

slice_split-some : (text : List ℕ) → (part : List ℕ) × (others : List (List ℕ)) × (slice_split (λ byte. byte == 10) text ≡ part ∷ others)
slice_split-some [] = ([], [], refl)
slice_split-some (byte ∷ rest) = some (byte == 10) (slice_split (λ byte. byte == 10) rest)
  where
    some : (ends : Bool) (parts : List (List ℕ))
        → (part : List ℕ) × (others : List (List ℕ)) × ((if ends then [] ∷ parts else onto_first byte parts) ≡ part ∷ others)
    some true parts = ([], parts, refl)
    some false [] = (byte ∷ [], [], refl)
    some false (part ∷ parts) = (byte ∷ part, parts, refl)

pub lines-between : (text : List ℕ) → lines text ≡ without_empty_rest (slice_split (λ byte. byte == 10) text)
lines-between [] = refl
lines-between (byte ∷ rest) =
    let some = slice_split-some rest in
    ap (before (byte == 10) byte) (lines-between rest ∙ ap without_empty_rest some.2)
    ∙ without_empty_rest-before (byte == 10) byte some.0 some.1
    ∙ ap (λ parts. without_empty_rest (before (byte == 10) byte parts)) (sym some.2)

-- a text that begins with a line, whatever follows, and the same behind the beginning of that line
pub lines-cut : (text line rest more : List ℕ) → CutsLine text line rest → lines (text ++ more) ≡ line ∷ lines (rest ++ more)
lines-cut text line rest more cut =
    ap (λ text. lines (text ++ more)) cut.whole ∙ ap lines (append_assoc line (10 ∷ rest) more) ∙ lines-line line (rest ++ more) cut.plain

pub lines-held : (held text line rest more : List ℕ) → has_newline held ≡ false → CutsLine text line rest
    → lines (held ++ (text ++ more)) ≡ (held ++ line) ∷ lines (rest ++ more)
lines-held [] text line rest more plain cut = lines-cut text line rest more cut
lines-held (byte ∷ held) text line rest more plain cut =
    let parts = or_parts (byte == 10) (has_newline held) plain in
    lines-other byte (held ++ (text ++ more)) parts.0 ∙ ap (onto_first byte) (lines-held held text line rest more parts.1 cut)

pub lines-first : (text line rest : List ℕ) → CutsLine text line rest → lines text ≡ line ∷ lines rest
lines-first text line rest cut = ap lines cut.whole ∙ lines-line line rest cut.plain

-- a text without a newline is one line, and none where it is empty
pub lines-plain : (text : List ℕ) → has_newline text ≡ false → 0 < length text → lines text ≡ text ∷ []
lines-plain [] plain some = absurd (omega arith)
lines-plain (byte ∷ line) plain some = lines-last byte line plain

pub lines-empty : (text : List ℕ) → length text ≡ 0 → lines text ≡ []
lines-empty [] none = refl
lines-empty (byte ∷ line) none = absurd (omega arith)

-- the last byte decides whether a text is closed
pub is_closed-push : (front : List ℕ) (byte : ℕ) → is_closed (front ++ byte ∷ []) ≡ (byte == 10)
is_closed-push [] byte = refl
is_closed-push (first ∷ []) byte = refl
is_closed-push (first ∷ next ∷ rest) byte = is_closed-push (next ∷ rest) byte

pub is_closed-closing : (text : List ℕ) → is_closed (closing text) ≡ true
is_closed-closing text = by_end (is_closed text) refl
  where
    by_end : (closed : Bool) → is_closed text ≡ closed → is_closed (if closed then text else text ++ 10 ∷ []) ≡ true
    by_end true closed = closed
    by_end false _ = is_closed-push text 10

pub text_of_lines-closed : (text : List ℕ) → is_closed text ≡ true → text_of_lines (lines text) ≡ text
text_of_lines-closed text closed = text_of_lines-lines text ∙ cond-true (is_closed text) text (text ++ 10 ∷ []) closed

pub text_of_lines-unclosed : (text : List ℕ) → is_closed text ≡ false → text_of_lines (lines text) ≡ text ++ 10 ∷ []
text_of_lines-unclosed text unclosed = text_of_lines-lines text ∙ cond-false (is_closed text) text (text ++ 10 ∷ []) unclosed

-- what lines are
pub ruleset line_laws = (lines-between, are_lines-lines, text_of_lines-closed, text_of_lines-unclosed, lines-text_of_lines, lines-closing, is_closed-push, is_closed-closing, lines-append, lines-concat)

-- a walk from line to line
pub ruleset line_steps = (append_assoc, append-nil, nat_tests, lines-first, lines-plain, lines-empty)
