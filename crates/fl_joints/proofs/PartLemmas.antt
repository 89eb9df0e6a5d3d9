-- Where the parts of a split end.
use Rattle.std.proofs.Common.{◌≡◌, ℕ, zero, suc, ◌+◌, ◌-◌, ◌*◌, ◌/◌, ◌^◌, ◌<◌, ◌≤◌, ◌==◌, List, [], ◌∷◌, ◌++◌, false, length, take, drop, if◌then◌else◌, get_or, refl, ap, ◌∙◌, mul-suc, add-one, length-drop, ⊎_elim, arith}
use Rattle.std.proofs.lemmas.Nat.{le-div, mul-le, mul-lt}
use Rattle.std.proofs.Math.Nat.{div-mul-le_self, div-eq_of_lt, mul_comm}
use Rattle.std.proofs.lemmas.Bool.{cases_lt, or_parts}
use Rattle.std.proofs.lemmas.List.{length-take-le}
use Rattle.ps_lines.specs.Lines.{has_newline, HasNoNewline, BeginsNextLine}
use Rattle.ps_lines.proofs.NewlineLemmas.{CutsLine-next, has_newline-rest}
use Rattle.fl_classes.specs.Parts.{line_size, next_end, share, part_end, slice, parts_from, parts_of}
use Rattle.fl_classes.proofs.PartLemmas.{next_end-rises}

-- a first line has its bytes and its newline, and all bytes where there is none
line_size-line : (line rest : List ℕ) → has_newline line ≡ false → line_size (line ++ 10 ∷ rest) ≡ length line + 1
line_size-line [] rest plain = refl
line_size-line (byte ∷ line) rest plain =
    let parts = or_parts (byte == 10) (has_newline line) plain in
    let later = line_size-line line rest parts.1 in
    ap (λ ends. if ends then 1 else 1 + line_size (line ++ 10 ∷ rest)) parts.0 ∙ omega arith

line_size-plain : (text : List ℕ) → has_newline text ≡ false → line_size text ≡ length text
line_size-plain [] plain = refl
line_size-plain (byte ∷ text) plain =
    let parts = or_parts (byte == 10) (has_newline text) plain in
    let later = line_size-plain text parts.1 in
    ap (λ ends. if ends then 1 else 1 + line_size text) parts.0 ∙ omega arith

-- an end is that of the line that the byte before its place is in
next_end-line : (text : List ℕ) (place : ℕ) → place < length text → next_end text (suc place) ≡ place + line_size (drop place text)
next_end-line [] place low = absurd (omega arith)
next_end-line (byte ∷ text) zero low = omega arith
next_end-line (byte ∷ text) (suc place) low = let later = next_end-line text place (omega arith) in omega arith

next_end-begins : (text : List ℕ) (from next : ℕ) → from < length text → BeginsNextLine text from next → next_end text (suc from) ≡ next
next_end-begins text from next low begins =
    let line = take (next - 1 - from) (drop from text) in
    let cut = CutsLine-next text from next (omega arith) begins in
    let left = length-drop from text in
    let after = begins.after in
    let within = begins.within in
    let size : length line ≡ next - 1 - from = length-take-le (next - 1 - from) (drop from text) (omega arith) in
    let first : line_size (drop from text) ≡ length line + 1 = ap line_size cut.whole ∙ line_size-line line (drop next text) cut.plain in
    next_end-line text from low ∙ omega arith

pub next_end-found : (text : List ℕ) (place next : ℕ) → 0 < place → place ≤ length text → BeginsNextLine text (place - 1) next → next_end text place ≡ next
next_end-found text place next some low begins =
    let place_is : place ≡ suc (place - 1) = omega arith in
    ap (next_end text) place_is ∙ next_end-begins text (place - 1) next (omega arith) begins

pub next_end-last : (text : List ℕ) (place : ℕ) → 0 < place → place ≤ length text → HasNoNewline text (place - 1) (length text) → next_end text place ≡ length text
next_end-last text place some low none =
    let place_is : place ≡ suc (place - 1) = omega arith in
    let left = length-drop (place - 1) text in
    let rest : line_size (drop (place - 1) text) ≡ length (drop (place - 1) text) = line_size-plain (drop (place - 1) text) (has_newline-rest text (place - 1) none) in
    ap (next_end text) place_is ∙ next_end-line text (place - 1) (omega arith) ∙ omega arith

pub next_end-none : (text : List ℕ) (place : ℕ) → place ≡ 0 → next_end text place ≡ 0
next_end-none text place none = ap (next_end text) none

pub ruleset ends = (next_end-found, next_end-last, next_end-none)

-- a share is within the text, and fits
pub product-fits : (part size : ℕ) → part < 2 ^ 32 → size < 2 ^ 64 → part * size < 2 ^ 96
product-fits part size few fits = mul-lt part size (2 ^ 32) (2 ^ 64) few fits

pub share-within : (part parts size : ℕ) → 0 < parts → part ≤ parts → (part * size + (parts - 1)) / parts ≤ size
share-within part parts size some few =
    let below : (part * size + (parts - 1)) / parts * parts ≤ part * size + (parts - 1) = div-mul-le_self (part * size + (parts - 1)) parts in
    let whole : part * size ≤ parts * size = mul-le part size parts size few (omega arith) in
    ⊎_elim (λ (high : (part * size + (parts - 1)) / parts < size + 1). omega arith)
    (λ (high : size + 1 ≤ (part * size + (parts - 1)) / parts).
    let more : (size + 1) * parts ≤ (part * size + (parts - 1)) / parts * parts = mul-le (size + 1) parts ((part * size + (parts - 1)) / parts) parts high (omega arith) in
    let product : (size + 1) * parts ≡ parts * size + parts = mul_comm (size + 1) parts ∙ ap (λ next. parts * next) (add-one size) ∙ mul-suc parts size in
    absurd (omega arith))
    (cases_lt ((part * size + (parts - 1)) / parts) (size + 1))

pub ruleset shares = (product-fits, share-within)

share-rises : (part parts size : ℕ) → 0 < parts → share part parts size ≤ share (part + 1) parts size
share-rises part parts size some =
    let products : part * size ≤ (part + 1) * size = mul-le part size (part + 1) size (omega arith) (omega arith) in
    let below : (part * size + (parts - 1)) / parts * parts ≤ part * size + (parts - 1) = div-mul-le_self (part * size + (parts - 1)) parts in
    le-div ((part * size + (parts - 1)) / parts) ((part + 1) * size + (parts - 1)) parts some (omega arith)

-- each part ends behind the one before it, and the first begins the text
pub part_end-rises : (text : List ℕ) (parts part : ℕ) → part + 1 ≤ parts → part_end text parts part ≤ part_end text parts (part + 1)
part_end-rises text parts part few =
    next_end-rises text (share part parts (length text)) (share (part + 1) parts (length text)) (share-rises part parts (length text) (omega arith))
    (share-within (part + 1) parts (length text) (omega arith) few)

pub ruleset behind = part_end-rises

pub part_end-none : (text : List ℕ) (parts : ℕ) → 0 < parts → part_end text parts 0 ≡ 0
part_end-none text parts some =
    let none : 0 * length text + (parts - 1) ≡ parts - 1 = omega arith in
    ap (next_end text) (ap (λ sum. sum / parts) none ∙ div-eq_of_lt (omega arith))

-- the parts one by one
get_or-parts : (text : List ℕ) (parts part left other : ℕ) → other < left
    → get_or (parts_from text parts part left) other [] ≡ slice text (part_end text parts (part + other)) (part_end text parts (part + other + 1))
get_or-parts text parts part zero other low = absurd (omega arith)
get_or-parts text parts part (suc left) zero low = ap (λ place. slice text (part_end text parts place) (part_end text parts (place + 1))) (omega arith)
get_or-parts text parts part (suc left) (suc other) low =
    get_or-parts text parts (part + 1) left other (omega arith) ∙ ap (λ place. slice text (part_end text parts place) (part_end text parts (place + 1))) (omega arith)

get_or-past : (text : List ℕ) (parts part left other : ℕ) → left ≤ other → get_or (parts_from text parts part left) other [] ≡ []
get_or-past text parts part zero zero past = refl
get_or-past text parts part zero (suc other) past = refl
get_or-past text parts part (suc left) zero past = absurd (omega arith)
get_or-past text parts part (suc left) (suc other) past = get_or-past text parts (part + 1) left other (omega arith)

pub part-at : (text : List ℕ) (parts part : ℕ) → part < parts → get_or (parts_of text parts) part [] ≡ slice text (part_end text parts part) (part_end text parts (part + 1))
part-at text parts part low = get_or-parts text parts 0 parts part low ∙ ap (λ place. slice text (part_end text parts place) (part_end text parts (place + 1))) (omega arith)

pub part-past : (text : List ℕ) (parts part : ℕ) → parts ≤ part → get_or (parts_of text parts) part [] ≡ []
part-past text parts part past = get_or-past text parts 0 parts part past
