-- The parts of a text are the text, cut at ends of lines.
use Rattle.std.proofs.Common.{◌≡◌, ℕ, zero, suc, ◌+◌, ◌-◌, ◌*◌, ◌/◌, ◌<◌, ◌≤◌, ◌==◌, Bool, true, false, List, [], ◌∷◌, ◌++◌, length, take, drop, if◌then◌else◌, refl, ap, sym, ◌∙◌, take_all, mul-suc, add-one, ◌&&◌, arith, ⊎_elim, ◌⊎◌, inl, inr}
use Rattle.std.proofs.lemmas.Nat.{le-div, mul-le}
use Rattle.std.proofs.Math.Seq.{take-add}
use Rattle.std.proofs.Math.Nat.{div-mul-le_self, div-eq_of_lt, mul_comm}
use Rattle.std.specs.List.{concat, list_all}
use Rattle.std.proofs.lemmas.Bool.{cond-true, cases_lt}
use Rattle.std.proofs.lemmas.List.{drop-drop, drop-take}
use Rattle.ps_lines.specs.Lines.{is_closed, is_cutlist, is_empty}
use Rattle.fl_classes.specs.Parts.{line_size, next_end, share, part_end, slice, parts_from, parts_of}

-- a first line is within its text, and not empty where the text isn't
line_size-within : (text : List ℕ) → line_size text ≤ length text
line_size-within [] = omega arith
line_size-within (byte ∷ text) = by_end (byte == 10) (line_size-within text)
  where
    by_end : (ends : Bool) → line_size text ≤ length text → (if ends then 1 else 1 + line_size text) ≤ suc (length text)
    by_end true _ = omega arith
    by_end false within = omega arith

line_size-some : (byte : ℕ) (text : List ℕ) → 1 ≤ line_size (byte ∷ text)
line_size-some byte text = by_end (byte == 10)
  where
    by_end : (ends : Bool) → 1 ≤ (if ends then 1 else 1 + line_size text)
    by_end true = omega arith
    by_end false = omega arith

-- an end is at or after its place, and within the text
pub next_end-reaches : (text : List ℕ) (place : ℕ) → place ≤ length text → place ≤ next_end text place
next_end-reaches text zero low = omega arith
next_end-reaches [] (suc place) low = absurd (omega arith)
next_end-reaches (byte ∷ text) (suc zero) low = line_size-some byte text
next_end-reaches (byte ∷ text) (suc (suc place)) low = let later = next_end-reaches text (suc place) (omega arith) in omega arith

pub next_end-within : (text : List ℕ) (place : ℕ) → next_end text place ≤ length text
next_end-within text zero = omega arith
next_end-within [] (suc place) = omega arith
next_end-within (byte ∷ text) (suc zero) = line_size-within (byte ∷ text)
next_end-within (byte ∷ text) (suc (suc place)) = let later = next_end-within text (suc place) in omega arith

-- later places have later ends
line_size-first : (text : List ℕ) (place : ℕ) → suc place ≤ length text → line_size text ≤ next_end text (suc place)
line_size-first [] place low = absurd (omega arith)
line_size-first (byte ∷ text) zero low = omega arith
line_size-first (byte ∷ text) (suc place) low = by_end (byte == 10) (line_size-first text place (omega arith)) (next_end-reaches text (suc place) (omega arith))
  where
    by_end : (ends : Bool) → line_size text ≤ next_end text (suc place) → suc place ≤ next_end text (suc place)
        → (if ends then 1 else 1 + line_size text) ≤ 1 + next_end text (suc place)
    by_end true _ _ = omega arith
    by_end false first _ = omega arith

pub next_end-rises : (text : List ℕ) (first second : ℕ) → first ≤ second → second ≤ length text → next_end text first ≤ next_end text second
next_end-rises text zero second low high = omega arith
next_end-rises [] (suc first) second low high = absurd (omega arith)
next_end-rises (byte ∷ text) (suc first) zero low high = absurd (omega arith)
next_end-rises (byte ∷ text) (suc zero) (suc second) low high = line_size-first (byte ∷ text) second high
next_end-rises (byte ∷ text) (suc (suc first)) (suc zero) low high = absurd (omega arith)
next_end-rises (byte ∷ text) (suc (suc first)) (suc (suc second)) low high =
    let later = next_end-rises text (suc first) (suc second) (omega arith) (omega arith) in omega arith

-- what stands before an end is closed, or all
abbrev pub IsEnd : List ℕ → ℕ → Type 0
IsEnd text end = (is_closed (take end text) ≡ true) ⊎ (end ≡ length text)

-- one byte before does no harm
is_end-later : (byte : ℕ) (text : List ℕ) (end : ℕ) → end ≤ length text → (length text ≡ 0) ⊎ (1 ≤ end) → IsEnd text end → IsEnd (byte ∷ text) (1 + end)
is_end-later byte text end within some (inr all) = inr (omega arith)
is_end-later byte [] end within some (inl closed) = inr (omega arith)
is_end-later byte (next ∷ text) zero within (inl none) (inl closed) = absurd (omega arith)
is_end-later byte (next ∷ text) zero within (inr some) (inl closed) = absurd (omega arith)
is_end-later byte (next ∷ text) (suc end) within some (inl closed) = let later : 1 + suc end ≡ suc (suc end) = omega arith in rw later (inl closed)

some_or_none : (text : List ℕ) (end : ℕ) → (1 ≤ length text → 1 ≤ end) → (length text ≡ 0) ⊎ (1 ≤ end)
some_or_none [] end some = inl refl
some_or_none (byte ∷ text) end some = inr (some (omega arith))

line_size-end : (text : List ℕ) → IsEnd text (line_size text)
line_size-end [] = inr refl
line_size-end (byte ∷ text) = by_end (byte == 10) refl (line_size-end text)
  where
    by_end : (ends : Bool) → (byte == 10) ≡ ends → IsEnd text (line_size text) → IsEnd (byte ∷ text) (if ends then 1 else 1 + line_size text)
    by_end true newline _ = inl newline
    by_end false _ end = is_end-later byte text (line_size text) (line_size-within text) (some_or_none text (line_size text) (some text)) end
      where
        some : (text : List ℕ) → 1 ≤ length text → 1 ≤ line_size text
        some [] low = absurd (omega arith)
        some (byte ∷ text) low = line_size-some byte text

pub next_end-end : (text : List ℕ) (place : ℕ) → place ≤ length text → IsEnd text (next_end text place)
next_end-end text zero low = inl refl
next_end-end [] (suc place) low = inr refl
next_end-end (byte ∷ text) (suc zero) low = line_size-end (byte ∷ text)
next_end-end (byte ∷ text) (suc (suc place)) low =
    is_end-later byte text (next_end text (suc place)) (next_end-within text (suc place))
    (inr (let reaches = next_end-reaches text (suc place) (omega arith) in omega arith)) (next_end-end text (suc place) (omega arith))

-- slices side by side
pub slice-slice : (text : List ℕ) (first second third : ℕ) → first ≤ second → second ≤ third
    → slice text first second ++ slice text second third ≡ slice text first third
slice-slice text first second third low high =
    let inner : drop (second - first) (drop first text) ≡ drop second text =
    drop-drop (second - first) first text ∙ ap (λ place. drop place text) (omega arith) in
    let sum : (second - first) + (third - second) ≡ third - first = omega arith in
    ap (λ rest. slice text first second ++ take (third - second) rest) (sym inner)
    ∙ sym (take-add (second - first) (third - second) (drop first text)) ∙ ap (λ count. take count (drop first text)) sum

-- none, and all, of a text
pub slice-none : (text : List ℕ) (place : ℕ) → slice text place place ≡ []
slice-none text place = let none : place - place ≡ 0 = omega arith in ap (λ count. take count (drop place text)) none

pub slice-all : (text : List ℕ) → slice text 0 (length text) ≡ text
slice-all text = let all : length text - 0 ≡ length text = omega arith in ap (λ count. take count text) all ∙ take_all (length text) text (omega arith)

-- a part that ends at an end is closed
closed-drop : (count : ℕ) (text : List ℕ) → is_closed text ≡ true → is_closed (drop count text) ≡ true
closed-drop zero text closed = closed
closed-drop (suc count) [] closed = refl
closed-drop (suc count) (byte ∷ []) closed = ap is_closed (none count)
  where
    none : (count : ℕ) → drop {A = ℕ} count [] ≡ []
    none zero = refl
    none (suc count) = refl
closed-drop (suc count) (byte ∷ next ∷ text) closed = closed-drop count (next ∷ text) closed

pub slice-closed : (text : List ℕ) (from end : ℕ) → from ≤ end → is_closed (take end text) ≡ true → is_closed (slice text from end) ≡ true
slice-closed text from end low closed =
    let sum : from + (end - from) ≡ end = omega arith in
    ap is_closed (sym (drop-take from (end - from) text) ∙ ap (λ end. drop from (take end text)) sum) ∙ closed-drop from (take end text) closed

-- the shares rise from nothing to all
module _ (size parts : ℕ) (some : 0 < parts) where
  share-rises : (part : ℕ) → share part parts size ≤ share (part + 1) parts size
  share-rises part =
      let products : part * size ≤ (part + 1) * size = mul-le part size (part + 1) size (omega arith) (omega arith) in
      let below : (part * size + (parts - 1)) / parts * parts ≤ part * size + (parts - 1) = div-mul-le_self (part * size + (parts - 1)) parts in
      le-div ((part * size + (parts - 1)) / parts) ((part + 1) * size + (parts - 1)) parts some (omega arith)

  share-none : share 0 parts size ≡ 0
  share-none = let none : 0 * size + (parts - 1) ≡ parts - 1 = omega arith in ap (λ sum. sum / parts) none ∙ div-eq_of_lt (omega arith)

  share-within : (part : ℕ) → part ≤ parts → share part parts size ≤ size
  share-within part few =
      let below : share part parts size * parts ≤ part * size + (parts - 1) = div-mul-le_self (part * size + (parts - 1)) parts in
      let whole : part * size ≤ parts * size = mul-le part size parts size few (omega arith) in
      ⊎_elim (λ (high : share part parts size < size + 1). omega arith)
      (λ (high : size + 1 ≤ share part parts size).
      let more : (size + 1) * parts ≤ share part parts size * parts = mul-le (size + 1) parts (share part parts size) parts high (omega arith) in
      let product : (size + 1) * parts ≡ parts * size + parts = mul_comm (size + 1) parts ∙ ap (λ next. parts * next) (add-one size) ∙ mul-suc parts size in
      absurd (omega arith))
      (cases_lt (share part parts size) (size + 1))

  share-all : share parts parts size ≡ size
  share-all =
      let low : size ≤ share parts parts size = le-div size (parts * size + (parts - 1)) parts some (let swapped : size * parts ≡ parts * size = mul_comm size parts in omega arith) in
      let high = share-within parts (omega arith) in omega arith

-- the parts from one on, side by side
module _ (text : List ℕ) (parts : ℕ) (some : 0 < parts) where
  part_end-rises : (part : ℕ) → part + 1 ≤ parts → part_end text parts part ≤ part_end text parts (part + 1)
  part_end-rises part few =
      next_end-rises text (share part parts (length text)) (share (part + 1) parts (length text)) (share-rises (length text) parts some part)
      (share-within (length text) parts some (part + 1) few)

  part_end-within : (part : ℕ) → part_end text parts part ≤ length text
  part_end-within part = next_end-within text (share part parts (length text))

  part_end-none : part_end text parts 0 ≡ 0
  part_end-none = ap (next_end text) (share-none (length text) parts some)

  part_end-all : part_end text parts parts ≡ length text
  part_end-all =
      let all = ap (next_end text) (share-all (length text) parts some) in
      let low = next_end-reaches text (length text) (omega arith) in
      let high = next_end-within text (length text) in omega arith

  part_end-end : (part : ℕ) → part ≤ parts → IsEnd text (part_end text parts part)
  part_end-end part few = next_end-end text (share part parts (length text)) (share-within (length text) parts some part few)

  -- joined, they are the text between the first's beginning and the last's end
  ends-rise : (part left : ℕ) → part + left ≤ parts → part_end text parts part ≤ part_end text parts (part + left)
  ends-rise part zero few = let none : part + 0 ≡ part = omega arith in rw none (omega arith)
  ends-rise part (suc left) few =
      let next : part + suc left ≡ (part + 1) + left = omega arith in
      let first = part_end-rises part (omega arith) in
      let rest = ends-rise (part + 1) left (omega arith) in
      rw next (omega arith)

  parts_from-joined : (part left : ℕ) → part + left ≤ parts
      → concat (parts_from text parts part left) ≡ slice text (part_end text parts part) (part_end text parts (part + left))
  parts_from-joined part zero few =
      let none : part + 0 ≡ part = omega arith in rw none (sym (slice-none text (part_end text parts part)))
  parts_from-joined part (suc left) few =
      let next : part + suc left ≡ (part + 1) + left = omega arith in
      rw next (ap (λ rest. slice text (part_end text parts part) (part_end text parts (part + 1)) ++ rest) (parts_from-joined (part + 1) left (omega arith))
      ∙ slice-slice text (part_end text parts part) (part_end text parts (part + 1)) (part_end text parts ((part + 1) + left)) (part_end-rises part (omega arith))
      (ends-rise (part + 1) left (omega arith)))

  -- behind the end of the text they are empty
  parts_from-past : (part left : ℕ) → part + left ≤ parts → part_end text parts part ≡ length text → list_all is_empty (parts_from text parts part left) ≡ true
  parts_from-past part zero few all = refl
  parts_from-past part (suc left) few all =
      let rises = part_end-rises part (omega arith) in
      let within = part_end-within (part + 1) in
      let next : part_end text parts (part + 1) ≡ part_end text parts part = omega arith in
      ap (λ end. is_empty (slice text (part_end text parts part) end) && list_all is_empty (parts_from text parts (part + 1) left)) next
      ∙ ap (λ none. is_empty none && list_all is_empty (parts_from text parts (part + 1) left)) (slice-none text (part_end text parts part))
      ∙ parts_from-past (part + 1) left (omega arith) (next ∙ all)

  parts_from-cut : (part left : ℕ) → part + left ≤ parts → is_cutlist (parts_from text parts part left) ≡ true
  parts_from-cut part zero few = refl
  parts_from-cut part (suc left) few =
      let rest = parts_from text parts (part + 1) left in
      let first = slice text (part_end text parts part) (part_end text parts (part + 1)) in
      let later = parts_from-cut (part + 1) left (omega arith) in
      ⊎_elim (λ (closed : is_closed (take (part_end text parts (part + 1)) text) ≡ true).
      cond-true (is_closed first) (is_cutlist rest) (list_all is_empty rest)
      (slice-closed text (part_end text parts part) (part_end text parts (part + 1)) (part_end-rises part (omega arith)) closed) ∙ later)
      (λ (all : part_end text parts (part + 1) ≡ length text).
      both (is_closed first) (is_cutlist rest) (list_all is_empty rest) later (parts_from-past (part + 1) left (omega arith) all))
      (part_end-end (part + 1) (omega arith))
    where
      both : (choice one other : Bool) → one ≡ true → other ≡ true → (if choice then one else other) ≡ true
      both true one other first second = first
      both false one other first second = second

  pub parts-joined : concat (parts_of text parts) ≡ text
  parts-joined =
      let all : 0 + parts ≡ parts = omega arith in
      parts_from-joined 0 parts (omega arith) ∙ ap (λ from. slice text from (part_end text parts (0 + parts))) part_end-none
      ∙ ap (λ end. slice text 0 (part_end text parts end)) all ∙ ap (slice text 0) part_end-all ∙ slice-all text

  pub parts-cut : is_cutlist (parts_of text parts) ≡ true
  parts-cut = parts_from-cut 0 parts (omega arith)

pub parts-count : (text : List ℕ) (parts part left : ℕ) → length (parts_from text parts part left) ≡ left
parts-count text parts part zero = refl
parts-count text parts part (suc left) = ap suc (parts-count text parts (part + 1) left)

pub parts_of-count : (text : List ℕ) (parts : ℕ) → length (parts_of text parts) ≡ parts
parts_of-count text parts = parts-count text parts 0 parts

pub ruleset part_laws = (parts_of-count, parts-joined, parts-cut)
