-- Bytes as they stand are found where they stand.
use Rattle.std.proofs.Common.{◌≡◌, ◌↔◌, ℕ, zero, suc, ◌+◌, ◌<◌, ◌≤◌, ◌||◌, ◌&&◌, ◌==◌, Bool, true, false, List, [], ◌∷◌, ◌++◌, length, drop, take, slice_index, refl, ap, ap₂, sym, ◌∙◌, subst, append_assoc, append-nil, length-append, arith}
use Rattle.std.proofs.lemmas.Bool.{eqb-true, eq-eqb}
use Rattle.std.proofs.lemmas.List.{take-append-drop, length-take-le}
use Rattle.ut_args.specs.declared.commands.Syntax.TheVariants as syntax
use Rattle.ut_regex.specs.Spans.{Has, Spans, fits, other_case}
use Rattle.ut_regex.specs.Several.{in_order, then_bytes}
use Rattle.ut_regex.specs.Tree.{Tree, empty, leaf, sequence}
use Rattle.ut_regex.specs.declared.tree.Leaf.TheVariants.{Byte}
use Rattle.ut_regex.proofs.RunLemmas.{had-has}
use Rattle.ut_grep.specs.Patterns.{is_had_by, tree_of}

-- the bytes stand in the line from this place on
abbrev StandsAt : List ℕ → ℕ → List ℕ → Type 0
StandsAt line place bytes = (back : List ℕ) × (drop place line ≡ bytes ++ back)

-- a place within, and what stands there
drop-next : (line : List ℕ) (place byte : ℕ) → drop (suc place + 1) (byte ∷ line) ≡ drop (place + 1) line
drop-next line place byte = ap (λ (count : ℕ). drop count (byte ∷ line)) (let same : suc place + 1 ≡ suc (place + 1) = omega arith in same)

drop-at : (line : List ℕ) (place : ℕ) → place < length line → drop place line ≡ slice_index line place ∷ drop (place + 1) line
drop-at [] place within = absurd (omega (arith, within))
drop-at (byte ∷ line) zero within = refl
drop-at (byte ∷ line) (suc place) within =
    drop-at line place (omega (arith, within)) ∙ ap (λ (rest : List ℕ). slice_index line place ∷ rest) (sym (drop-next line place byte))

-- and back
place-within : (line : List ℕ) (place byte : ℕ) (rest : List ℕ) → drop place line ≡ byte ∷ rest → (place < length line) × (slice_index line place ≡ byte) × (drop (place + 1) line ≡ rest)
place-within [] zero byte rest is = absurd (let size : 0 ≡ length (byte ∷ rest) = ap length is in omega (arith, size))
place-within [] (suc place) byte rest is = absurd (let size : 0 ≡ length (byte ∷ rest) = ap length is in omega (arith, size))
place-within (first ∷ line) zero byte rest is = (omega arith, ap (λ text. slice_index text 0) is, ap (drop 1) is)
place-within (first ∷ line) (suc place) byte rest is =
    let inner = place-within line place byte rest is in
    (omega (arith, inner.0), inner.1, drop-next line place first ∙ inner.2)

same-byte : (wanted byte : ℕ) → fits false (Byte wanted) byte ≡ true → byte ≡ wanted
same-byte wanted byte is = eqb-true byte wanted (or-none (byte == wanted) is)
  where
    or-none : (test : Bool) → (test || false) ≡ true → test ≡ true
    or-none true is = refl
    or-none false is = is

fits-byte : (wanted byte : ℕ) → byte ≡ wanted → fits false (Byte wanted) byte ≡ true
fits-byte wanted byte same = ap (λ (test : Bool). test || false) (eq-eqb byte wanted same)

module _ (line : List ℕ) where
  -- what spans bytes behind an expression spans it up to some place, and they stand there
  spans-stand : (re : Tree) (bytes : List ℕ) (from to : ℕ) → Spans false line (then_bytes re bytes) from to
      → (middle : ℕ) × Spans false line re from middle × StandsAt line middle bytes
  spans-stand re [] from to spans = (to, spans, (drop to line, refl))
  spans-stand re (byte ∷ bytes) from to spans =
      let inner = spans-stand (sequence re (leaf (Byte byte))) bytes from to spans in
      let before = inner.1.0 in
      let at = inner.1.2 in
      let here : drop before line ≡ byte ∷ (bytes ++ inner.2.0) =
      drop-at line before at.0
      ∙ ap₂ (λ (first : ℕ) (rest : List ℕ). first ∷ rest) (same-byte byte (slice_index line before) at.2)
      (ap (λ (place : ℕ). drop place line) (sym at.1) ∙ inner.2.1) in
      (before, inner.1.1, (inner.2.0, here))

  stand-spans : (re : Tree) (bytes : List ℕ) (from middle : ℕ) (back : List ℕ) → Spans false line re from middle → drop middle line ≡ bytes ++ back
      → Spans false line (then_bytes re bytes) from (middle + length bytes)
  stand-spans re [] from middle back spans stands = subst (λ (to : ℕ). Spans false line re from to) (let same : middle ≡ middle + 0 = omega arith in same) spans
  stand-spans re (byte ∷ bytes) from middle back spans stands =
      let here = place-within line middle byte (bytes ++ back) stands in
      subst (λ (to : ℕ). Spans false line (then_bytes (sequence re (leaf (Byte byte))) bytes) from to)
      (let same : middle + 1 + length bytes ≡ middle + length (byte ∷ bytes) = omega arith in same)
      (stand-spans (sequence re (leaf (Byte byte))) bytes from (middle + 1) back (middle, spans, (here.0, refl, fits-byte byte (slice_index line middle) here.1)) here.2)

-- a place behind some bytes
drop-front : (front back : List ℕ) → drop (length front) (front ++ back) ≡ back
drop-front [] back = refl
drop-front (byte ∷ front) back = drop-front front back

pub bytes-stand : (pattern line : List ℕ) → (is_had_by false false (tree_of syntax.Fixed pattern) line ≡ true) ↔ ((front : List ℕ) × (back : List ℕ) × (line ≡ front ++ (pattern ++ back)))
bytes-stand pattern line = (λ had. stands ((had-has false false (in_order pattern) line).0 had), λ there. (had-has false false (in_order pattern) line).1 (has there))
  where
    stands : Has false false line (in_order pattern) → (front : List ℕ) × (back : List ℕ) × (line ≡ front ++ (pattern ++ back))
    stands (from, to, within, spans) =
        let there = spans-stand line empty pattern from to spans in
        (take there.0 line, there.2.0, sym (take-append-drop there.0 line) ∙ ap (λ (rest : List ℕ). take there.0 line ++ rest) there.2.1)

    has : (front : List ℕ) × (back : List ℕ) × (line ≡ front ++ (pattern ++ back)) → Has false false line (in_order pattern)
    has (front, back, is) =
        let behind : drop (length front) line ≡ pattern ++ back = ap (drop (length front)) is ∙ drop-front front (pattern ++ back) in
        let size = ap length is ∙ length-append front (pattern ++ back) in
        let more = length-append pattern back in
        (length front, length front + length pattern, omega (arith, size, more), stand-spans line empty pattern (length front) (length front) back refl behind)
