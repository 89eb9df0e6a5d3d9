-- Rows of the lines of one input each, as they are written.
use Rattle.std.proofs.Common.{◌≡◌, ℕ, ◌==◌, ◌<◌, List, [], ◌∷◌, ◌++◌, length, drop, take, Option, None, Bool, true, false, if◌then◌else◌, refl, ap, sym, ◌∙◌, append_assoc, arith}
use Rattle.std.specs.List.{flat_map, onto_first}
use Rattle.std.proofs.lemmas.Bool.{or_parts}
use Rattle.ps_lines.specs.Lines.{has_newline, lines, CutsLine}
use Rattle.ps_lines.proofs.LineLemmas.{lines-cut}
use Rattle.ut_streams.specs.Streams.{Put, Wrote}
use Rattle.ut_streams.proofs.StreamLemmas.{Wrote-broken, Wrote-put, Wrote-trans}
use Rattle.ut_slices.specs.Paste.{first_delimiter, following, row, row_behind}
use Rattle.ut_slices.specs.Inner.Serials.{delimiters_behind, due_of_rows, row_left}

-- what stands before a line that isn't begun
abbrev opening : List (Option ℕ) → Bool → List ℕ
opening left within = if within then [] else first_delimiter left

-- A ROW'S BEGINNING
row-begun : (all : List (Option ℕ)) (coming : List (List ℕ)) → row_behind all (None ∷ all) coming ≡ row all coming
row-begun all [] = refl
row-begun all (line ∷ others) = ap (λ left. line ++ row_behind all left others) (after all)
  where
    after : (all : List (Option ℕ)) → following all (None ∷ all) ≡ all
    after [] = refl
    after (one ∷ others) = refl

pub rows-begun : (all left : List (Option ℕ)) (texts : List (List ℕ)) → left ≡ None ∷ all → due_of_rows all left false texts ≡ flat_map (λ text. row all (lines text)) texts
rows-begun all left [] is = refl
rows-begun all left (text ∷ others) is =
    ap (λ left. row_behind all left (lines text) ++ flat_map (λ text. row all (lines text)) others) is
    ∙ ap (λ first. first ++ flat_map (λ text. row all (lines text)) others) (row-begun all (lines text))

-- the first of the delimiters is empty
pub first-none : (delimiters : List (Option ℕ)) → take 1 delimiters ≡ None ∷ [] → delimiters ≡ None ∷ drop 1 delimiters
first-none [] first = cc
first-none (one ∷ others) first = ap (λ (all : List (Option ℕ)). all ++ others) first

-- WITHIN A ROW
line-due : (all left : List (Option ℕ)) (within : Bool) (line : List ℕ) (others : List (List ℕ))
    → row_left all left within (line ∷ others) ≡ (opening left within ++ line) ++ row_left all (delimiters_behind all left within) false others
line-due all left true line others = refl
line-due all left false line others = sym (append_assoc (first_delimiter left) line (row_behind all (following all left) others))

-- the bytes of a line that is begun
onto-due : (all left : List (Option ℕ)) (byte : ℕ) (coming : List (List ℕ)) → row_left all left true (onto_first byte coming) ≡ byte ∷ row_left all left true coming
onto-due all left byte [] = refl
onto-due all left byte (line ∷ others) = refl

bytes-due : (all left : List (Option ℕ)) (part more : List ℕ) → has_newline part ≡ false → row_left all left true (lines (part ++ more)) ≡ part ++ row_left all left true (lines more)
bytes-due all left [] more plain = refl
bytes-due all left (byte ∷ part) more plain =
    let parts = or_parts (byte == 10) (has_newline part) plain in
    ap (row_left all left true) (other (byte == 10) parts.0) ∙ onto-due all left byte (lines (part ++ more)) ∙ ap (λ rest. byte ∷ rest) (bytes-due all left part more parts.1)
  where
    other : (ends : Bool) → ends ≡ false → (if ends then [] ∷ lines (part ++ more) else onto_first byte (lines (part ++ more))) ≡ onto_first byte (lines (part ++ more))
    other ends is = rw is refl

-- a line is begun by its first byte
begun-due : (all left : List (Option ℕ)) (byte : ℕ) (rest : List ℕ)
    → row_behind all left (lines (byte ∷ rest)) ≡ first_delimiter left ++ row_left all (following all left) true (lines (byte ∷ rest))
begun-due all left byte rest = by_end (byte == 10) (lines rest)
  where
    by_end : (ends : Bool) (coming : List (List ℕ)) → row_behind all left (if ends then [] ∷ coming else onto_first byte coming)
        ≡ first_delimiter left ++ row_left all (following all left) true (if ends then [] ∷ coming else onto_first byte coming)
    by_end true coming = refl
    by_end false [] = refl
    by_end false (line ∷ others) = refl

part-due : (all left : List (Option ℕ)) (within : Bool) (part more : List ℕ) → 0 < length part → has_newline part ≡ false
    → row_left all left within (lines (part ++ more)) ≡ (opening left within ++ part) ++ row_left all (delimiters_behind all left within) true (lines more)
part-due all left within [] more some plain = absurd (omega arith)
part-due all left true (byte ∷ part) more some plain = bytes-due all left (byte ∷ part) more plain
part-due all left false (byte ∷ part) more some plain =
    begun-due all left byte (part ++ more) ∙ ap (λ rest. first_delimiter left ++ rest) (bytes-due all (following all left) (byte ∷ part) more plain)
    ∙ sym (append_assoc (first_delimiter left) (byte ∷ part) (row_left all (following all left) true (lines more)))

-- STEPS
module _ (all left : List (Option ℕ)) (within : Bool) (old new : List ℕ) where
  abbrev line_was : List ℕ → List (List ℕ) → List ℕ
  line_was line others = row_left all left within (line ∷ others)

  abbrev part_was : List ℕ → List ℕ → List ℕ
  part_was part more = row_left all left within (lines (part ++ more))

  pub line-written : (left' : List (Option ℕ)) (within' : Bool) (line : List ℕ) → left' ≡ delimiters_behind all left within → within' ≡ false
      → Put (opening left within ++ line) old new true → Wrote (line_was line) (row_left all left' within') old new true
  line-written left' within' line is ended put =
      Wrote-put (line_was line) (row_left all left' within') (opening left within ++ line) old new true
      (λ others. rw (is, ended) (line-due all left within line others)) put

  pub line-stopped : (now : List (List ℕ) → List ℕ) (line : List ℕ) → Put (opening left within ++ line) old new false → Wrote (line_was line) now old new false
  line-stopped now line put =
      Wrote-broken (line_was line) (row_left all (delimiters_behind all left within) false) now old new
      (Wrote-put (line_was line) (row_left all (delimiters_behind all left within) false) (opening left within ++ line) old new false (line-due all left within line) put)

  pub part-written : (left' : List (Option ℕ)) (within' : Bool) (part : List ℕ) → 0 < length part → has_newline part ≡ false → left' ≡ delimiters_behind all left within → within' ≡ true
      → Put (opening left within ++ part) old new true → Wrote (part_was part) (λ more. row_left all left' within' (lines more)) old new true
  part-written left' within' part some plain is begun put =
      Wrote-put (part_was part) (λ more. row_left all left' within' (lines more)) (opening left within ++ part) old new true
      (λ more. rw (is, begun) (part-due all left within part more some plain)) put

  pub part-stopped : (now : List ℕ → List ℕ) (part : List ℕ) → 0 < length part → has_newline part ≡ false → Put (opening left within ++ part) old new false
      → Wrote (part_was part) now old new false
  part-stopped now part some plain put =
      Wrote-broken (part_was part) (λ more. row_left all (delimiters_behind all left within) true (lines more)) now old new
      (Wrote-put (part_was part) (λ more. row_left all (delimiters_behind all left within) true (lines more)) (opening left within ++ part) old new false
      (λ more. part-due all left within part more some plain) put)

-- lines of a text were written, and one more is
pub next-line : (first : List ℕ → List ℕ) (due due' : List (List ℕ) → List ℕ) (text line rest old half new : List ℕ) (whole : Bool) → CutsLine text line rest
    → Wrote first (λ more. due (lines (text ++ more))) old half true → Wrote (λ others. due (line ∷ others)) due' half new whole
    → Wrote first (λ more. due' (lines (rest ++ more))) old new whole
next-line first due due' text line rest old half new whole cut done wrote =
    Wrote-trans first (λ more. due (lines (text ++ more))) (λ more. due' (lines (rest ++ more))) old half new whole done
    (record {
      kept = wrote.kept;
      grew = λ ok more. wrote.grew ok (lines (rest ++ more)) ∙ ap (λ coming. half ++ due coming) (sym (lines-cut text line rest more cut));
      part = λ more. rw (lines-cut text line rest more cut) (wrote.part (lines (rest ++ more)));
    })

-- memory is wanted at a line
pub next-stopped : (first now : List ℕ → List ℕ) (due due' : List (List ℕ) → List ℕ) (text line rest old half new : List ℕ) → CutsLine text line rest
    → Wrote first (λ more. due (lines (text ++ more))) old half true → Wrote (λ others. due (line ∷ others)) due' half new false → Wrote first now old new false
next-stopped first now due due' text line rest old half new cut done broken =
    Wrote-broken first (λ more. due' (lines (rest ++ more))) now old new (next-line first due due' text line rest old half new false cut done broken)

-- the input has ended
pub input-ended : (all left left' : List (Option ℕ)) (within within' : Bool) (old new : List ℕ) (whole : Bool) → left' ≡ None ∷ all → within' ≡ false → Put (10 ∷ []) old new whole
    → Wrote (λ others. due_of_rows all left within ([] ∷ others)) (due_of_rows all left' within') old new whole
input-ended all left left' within within' old new whole is ended put =
    Wrote-put (λ others. due_of_rows all left within ([] ∷ others)) (due_of_rows all left' within') (10 ∷ []) old new whole
    (λ others. rw ended (by_line within others ∙ ap (λ rest. 10 ∷ rest) (sym (rows-begun all left' others is)))) put
  where
    by_line : (within : Bool) (others : List (List ℕ)) → due_of_rows all left within ([] ∷ others) ≡ 10 ∷ flat_map (λ text. row all (lines text)) others
    by_line true others = refl
    by_line false others = refl

pub ruleset begins = (rows-begun)
