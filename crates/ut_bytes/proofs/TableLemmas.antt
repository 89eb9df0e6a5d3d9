-- The tables of tr, entry by entry.
use Rattle.std.proofs.Common.{◌≡◌, ◌==◌, ◌||◌, ◌<◌, ◌≤◌, ◌+◌, ◌-◌, ℕ, suc, zero, List, [], ◌∷◌, ◌++◌, length, get_or, set, drop, replicate, Bool, true, false, refl, ap, sym, subst, ◌∙◌, arith, if◌then◌else◌}
use Rattle.std.proofs.lemmas.Bool.{eqb-true, true≢false}
use mathlib.Core.Path.{fun_ext}
use Rattle.std.proofs.Math.Dec.{ltb}
use Rattle.std.proofs.lemmas.List.{get_or-set_other, get_or-set_same, get_or_append_left, get_or-append_right}
use Rattle.ut_args.specs.Strings.{image}
use Rattle.ut_bytes.specs.Inner.Tables.{image_at, last_of, marked}
use Rattle.ut_bytes.specs.Tr.{image_of}
use Rattle.ut_options.specs.Rows.{is_among}

eqb-self : (number : ℕ) → (number == number) ≡ true
eqb-self number = grind arith

-- one entry of a table is set
pub set-at : {Entry : Type 0} (table : List Entry) (one byte : ℕ) (entry default : Entry) (same : Bool) → (one == byte) ≡ same → one < length table
    → get_or (set table one entry) byte default ≡ (if same then entry else get_or table byte default)
set-at table one byte entry default true is within =
    subst (λ byte. get_or (set table one entry) byte default ≡ entry) (eqb-true one byte is) (get_or-set_same table one entry default within)
set-at table one byte entry default false is within =
    get_or-set_other table one byte entry default (λ same. true≢false (sym (eqb-self one) ∙ ap (λ other. one == other) (sym same) ∙ is))

-- a byte is marked, and those behind it are still to come
marked-first : (first mark rest : Bool) → ((if first then true else mark) || rest) ≡ (mark || (first || rest))
marked-first true true rest = refl
marked-first true false rest = refl
marked-first false true rest = refl
marked-first false false rest = refl

pub marked-next : (marks : List Bool) (one byte : ℕ) (others : List ℕ) → one < length marks
    → (get_or (set marks one true) byte false || is_among others byte) ≡ (get_or marks byte false || is_among (one ∷ others) byte)
marked-next marks one byte others within =
    ap (λ mark. mark || is_among others byte) (set-at marks one byte true false (one == byte) refl within)
    ∙ marked-first (one == byte) (get_or marks byte false) (is_among others byte)

pub or-none : (mark : Bool) → (mark || false) ≡ mark
or-none true = refl
or-none false = refl

-- a byte is replaced, and those behind it are still to come
image-first : (byte current last one : ℕ) (from to : List ℕ)
    → image byte current last (one ∷ from) to ≡ image byte (if one == byte then last_of last to else current) (last_of last to) from (drop 1 to)
image-first byte current last one from [] = refl
image-first byte current last one from (other ∷ to) = refl

pub image-next : (images : List ℕ) (one byte last : ℕ) (from to : List ℕ) → one < length images
    → image byte (get_or (set images one (last_of last to)) byte byte) (last_of last to) from (drop 1 to) ≡ image byte (get_or images byte byte) last (one ∷ from) to
image-next images one byte last from to within =
    ap (λ current. image byte current (last_of last to) from (drop 1 to)) (set-at images one byte (last_of last to) byte (one == byte) refl within)
    ∙ sym (image-first byte (get_or images byte byte) last one from to)

-- without a second string, no byte becomes another
pub image-none : (byte last : ℕ) (from : List ℕ) → image byte byte byte from [] ≡ byte
image-none byte last [] = refl
image-none byte last (one ∷ from) = ap (λ current. image byte current byte from []) (same (one == byte)) ∙ image-none byte last from where
  same : (is : Bool) → (if is then byte else byte) ≡ byte
  same true = refl
  same false = refl

-- what stands before the second string doesn't matter where that has a byte
pub image-begins : (byte current last before other : ℕ) (from to : List ℕ) → image byte current last from (other ∷ to) ≡ image byte current before from (other ∷ to)
image-begins byte current last before other [] to = refl
image-begins byte current last before other (one ∷ from) to = refl

-- a table in which each byte stays as it is goes on so
only : (start offset : ℕ) → get_or (start ∷ []) offset (start + offset) ≡ start + offset
only start zero = omega arith
only start (suc offset) = refl

pushed-at : (table : List ℕ) (byte : ℕ) (before : Bool) → ltb byte (length table) ≡ before → get_or table byte byte ≡ byte → get_or (table ++ length table ∷ []) byte byte ≡ byte
pushed-at table byte true is same = get_or_append_left table (length table ∷ []) byte byte (grind (arith, is)) ∙ same
pushed-at table byte false is same =
    let after : length table ≤ byte = grind (arith, is) in
    let whole : length table + (byte - length table) ≡ byte = omega (arith, after) in
    get_or-append_right table (length table ∷ []) (length table) byte byte refl after
    ∙ ap (λ default. get_or (length table ∷ []) (byte - length table) default) (sym whole) ∙ only (length table) (byte - length table) ∙ whole

pub pushed-same : (table : List ℕ) (byte count : ℕ) → length table ≡ count → get_or table byte byte ≡ byte → get_or (table ++ count ∷ []) byte byte ≡ byte
pushed-same table byte count is same = ap (λ count. get_or (table ++ count ∷ []) byte byte) (sym is) ∙ pushed-at table byte (ltb byte (length table)) refl same

-- a table in which nothing was marked before
unmarked-at : (count byte : ℕ) → get_or (replicate count false) byte false ≡ false
unmarked-at zero byte = refl
unmarked-at (suc count) zero = refl
unmarked-at (suc count) (suc byte) = unmarked-at count byte

pub marked-is : (before marks : List Bool) (bytes : List ℕ) (count : ℕ) → before ≡ replicate count false
    → ((byte : ℕ) → get_or marks byte false ≡ (get_or before byte false || is_among bytes byte)) → marked marks ≡ is_among bytes
marked-is before marks bytes count unmarked is =
    fun_ext (λ (byte : ℕ). is byte ∙ ap (λ mark. mark || is_among bytes byte) (ap (λ marks. get_or marks byte false) unmarked ∙ unmarked-at count byte))

-- a table in which each byte stays as it is, and one in which the bytes of a string were replaced
pub image_at-none : (images from to : List ℕ) → length to < 1 → ((byte : ℕ) → get_or images byte byte ≡ byte) → image_at images ≡ image_of from to
image_at-none images from [] none same = fun_ext (λ (byte : ℕ). same byte ∙ sym (image-none byte byte from))
image_at-none images from (other ∷ to) none same = absurd (omega (arith, none))

pub image_at-is : (before images from to : List ℕ) (last : ℕ) → 1 ≤ length to → ((byte : ℕ) → get_or before byte byte ≡ byte)
    → ((byte : ℕ) → get_or images byte byte ≡ image byte (get_or before byte byte) last from to) → image_at images ≡ image_of from to
image_at-is before images from [] last some same is = absurd (omega (arith, some))
image_at-is before images from (other ∷ to) last some same is =
    fun_ext (λ (byte : ℕ). is byte ∙ ap (λ current. image byte current last from (other ∷ to)) (same byte) ∙ image-begins byte byte last byte other from to)
