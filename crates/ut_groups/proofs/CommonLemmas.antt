-- How many bytes two texts begin with in common: block by block and lane by lane, and of a text that is compared with itself one line on.
use Rattle.std.proofs.Common.{◌≡◌, ℕ, zero, suc, ◌+◌, ◌*◌, ◌/◌, ◌%◌, ◌^◌, ◌<◌, ◌≤◌, ◌==◌, Bool, true, false, not, List, [], ◌∷◌, ◌++◌, length, map, take, drop, if◌then◌else◌, w8, w64, refl, ap, sym, ◌∙◌, append_assoc, arith}
use Rattle.std.specs.List.{prefix_len}
use Rattle.std.specs.Int.{trailing_zeros}
use Rattle.std.proofs.lemmas.Bool.{cond-true, eqb-true, eq-eqb}
use Rattle.std.proofs.Math.Nat.{div-le_self, div-mul-le_self, lt-div-mul-add}
use Rattle.std.proofs.lemmas.List.{drop-drop}
use Rattle.std.proofs.lemmas.Simd.{first_set_mask_l, length-zip2, mask_l-mod, tops_compared}
use Rattle.ut_groups.specs.Inner.Runs.{common, copies}
use lib.Lanes.{mask_l, top, zip2}
use mir.Val.{hbits}

pub common-most : (one other : List ℕ) → common one other ≤ length one
common-most [] other = omega arith
common-most (byte ∷ one) [] = omega arith
common-most (byte ∷ one) (first ∷ other) = by_test (byte == first) (common-most one other)
  where
    by_test : (test : Bool) → common one other ≤ length one → (if test then suc (common one other) else 0) ≤ suc (length one)
    by_test true most = omega (arith, most)
    by_test false most = omega arith

-- a front of both decides, or all of it is the same
pub common-less : (count : ℕ) (one other : List ℕ) → common (take count one) (take count other) < count
    → common one other ≡ common (take count one) (take count other)
common-less zero one other less = absurd (omega (arith, less))
common-less (suc count) [] other less = refl
common-less (suc count) (byte ∷ one) [] less = refl
common-less (suc count) (byte ∷ one) (first ∷ other) less = by_test (byte == first) (common-less count one other) less
  where
    by_test : (test : Bool) → (common (take count one) (take count other) < count → common one other ≡ common (take count one) (take count other))
        → (if test then suc (common (take count one) (take count other)) else 0) < suc count
        → (if test then suc (common one other) else 0) ≡ (if test then suc (common (take count one) (take count other)) else 0)
    by_test true same less = ap (λ it. suc it) (same (omega (arith, less)))
    by_test false same less = refl

pub common-whole : (count : ℕ) (one other : List ℕ) → count ≤ common (take count one) (take count other)
    → common one other ≡ count + common (drop count one) (drop count other)
common-whole zero one other whole = omega arith
common-whole (suc count) [] other whole = absurd (omega (arith, whole))
common-whole (suc count) (byte ∷ one) [] whole = absurd (omega (arith, whole))
common-whole (suc count) (byte ∷ one) (first ∷ other) whole = by_test (byte == first) (common-whole count one other) whole
  where
    by_test : (test : Bool) → (count ≤ common (take count one) (take count other) → common one other ≡ count + common (drop count one) (drop count other))
        → suc count ≤ (if test then suc (common (take count one) (take count other)) else 0)
        → (if test then suc (common one other) else 0) ≡ suc count + common (drop count one) (drop count other)
    by_test true same whole = omega (arith, same (omega (arith, whole)))
    by_test false same whole = absurd (omega (arith, whole))

pub ruleset cuts = (common-less, common-whole, common-most)

-- a byte of each
pub common-same : (byte first : ℕ) (one other : List ℕ) → byte ≡ first → common (byte ∷ one) (first ∷ other) ≡ suc (common one other)
common-same byte first one other same = cond-true (byte == first) (suc (common one other)) 0 (eq-eqb byte first same)

pub common-none : (one other : List ℕ) → length other < 1 → common one other ≡ 0
common-none [] other none = refl
common-none (byte ∷ one) [] none = refl
common-none (byte ∷ one) (first ∷ other) none = absurd (omega (arith, none))

pub ruleset bytes = (common-same, common-none, common-most)

-- the lanes that differ
lanes-common : (one other : List ℕ) → prefix_len (λ test. not test) (zip2 (λ a b. not (a == b)) one other) ≡ common one other
lanes-common [] other = refl
lanes-common (byte ∷ one) [] = refl
lanes-common (byte ∷ one) (first ∷ other) = by_test (byte == first) (lanes-common one other)
  where
    by_test : (test : Bool) → prefix_len (λ test. not test) (zip2 (λ a b. not (a == b)) one other) ≡ common one other
        → (if not (not test) then 1 + prefix_len (λ test. not test) (zip2 (λ a b. not (a == b)) one other) else 0) ≡ (if test then suc
        (common one other) else 0)
    by_test true same = omega (arith, same)
    by_test false same = refl

map-same : (tests : List Bool) → map (λ test. test) tests ≡ tests
map-same [] = refl
map-same (test ∷ tests) = ap (λ it. test ∷ it) (map-same tests)

pub lowest_common : (one other : List ℕ) (count bits result : ℕ) → length one ≡ count → length other ≡ count → count ≤ 64
    → bits ≡ mask_l (map (top (hbits w8)) (zip2 (λ a b. if not (a == b) then 255 else 0) one other)) % 2 ^ 64
    → result ≡ (if bits == 0 then count else trailing_zeros w64 bits) → result ≡ common one other
lowest_common one other count bits result long other_long few mask lowest =
    let lanes : List Bool = zip2 (λ a b. not (a == b)) one other in
    let size : length lanes ≡ count = length-zip2 (λ a b. not (a == b)) one other (long ∙ sym other_long) ∙ long in
    let all : bits ≡ mask_l (map (λ test. test) lanes) =
    mask ∙ ap (λ it. mask_l it % 2 ^ 64) (tops_compared w8 (λ a b. not (a == b)) one other) ∙ mask_l-mod lanes 64 (omega (arith, size))
    ∙ ap mask_l (sym (map-same lanes)) in
    lowest ∙ ap (λ it. if it == 0 then count else trailing_zeros w64 it) all ∙ first_set_mask_l (λ test. test) lanes count size few ∙ lanes-common one other

pub ruleset fronts = (common-most)

-- how often a size goes into a count
pub times-low : (count size : ℕ) → count / size * size ≤ count
times-low count size = div-mul-le_self count size

pub times-high : (count size : ℕ) → 0 < size → count < (count / size + 1) * size
times-high count size some = let high : count < count / size * size + size = lt-div-mul-add some in omega (arith, high)

pub times-few : (count size : ℕ) → count / size ≤ count
times-few count size = div-le_self count size

pub ruleset sizes = (times-low, times-high, times-few)

-- a front in common
common-append : (front one other : List ℕ) → common (front ++ one) (front ++ other) ≡ length front + common one other
common-append [] one other = omega arith
common-append (byte ∷ front) one other =
    common-same byte byte (front ++ one) (front ++ other) refl ∙ ap (λ it. suc it) (common-append front one other) ∙ omega arith

common-begins : (front one other : List ℕ) → length front ≤ common one (front ++ other) → one ≡ front ++ drop (length front) one
common-begins [] one other long = refl
common-begins (byte ∷ front) [] other long = absurd (omega (arith, long))
common-begins (byte ∷ front) (first ∷ one) other long = by_test (first == byte) refl (common-begins front one other) long
  where
    by_test : (test : Bool) → (first == byte) ≡ test → (length front ≤ common one (front ++ other) → one ≡ front ++ drop (length front) one)
        → suc (length front) ≤ (if test then suc (common one (front ++ other)) else 0) → first ∷ one ≡ byte ∷ (front ++ drop (length front) one)
    by_test true is same long = ap (λ it. it ∷ one) (eqb-true first byte is) ∙ ap (λ it. byte ∷ it) (same (omega (arith, long)))
    by_test false is same long = absurd (omega (arith, long))

-- so many copies of a unit stand behind it as it goes into what is common of a text and what stands behind the unit
pub copies-common : (count : ℕ) (unit rest : List ℕ) → count * length unit ≤ common rest (unit ++ rest)
    → rest ≡ copies count unit ++ drop (count * length unit) rest
copies-common zero unit rest long = let none : 0 ≡ 0 * length unit = omega arith in ap (λ it. drop it rest) none
copies-common (suc count) unit rest long =
    let left = drop (length unit) rest in
    let begins : rest ≡ unit ++ left = common-begins unit rest rest (omega (arith, long)) in
    let further : common rest (unit ++ rest) ≡ length unit + common left (unit ++ left) =
    ap (λ it. common it (unit ++ it)) begins ∙ common-append unit left (unit ++ left) in
    let sum : length unit + count * length unit ≡ suc count * length unit = omega arith in
    let there : drop (count * length unit) left ≡ drop (suc count * length unit) rest =
    drop-drop (count * length unit) (length unit) rest ∙ ap (λ it. drop it rest) sum in
    begins ∙ ap (λ it. unit ++ it) (copies-common count unit left (omega (arith, long, further)))
    ∙ sym (append_assoc unit (copies count unit) (drop (count * length unit) left)) ∙ ap (λ it. (unit ++ copies count unit) ++ it) there

-- and no further one
common-copies : (count : ℕ) (unit behind : List ℕ)
    → common (copies count unit ++ behind) (unit ++ (copies count unit ++ behind)) ≡ count * length unit + common behind (unit ++ behind)
common-copies zero unit behind = omega arith
common-copies (suc count) unit behind =
    let inner = copies count unit ++ behind in
    ap (λ it. common it (unit ++ it)) (append_assoc unit (copies count unit) behind) ∙ common-append unit inner (unit ++ inner)
    ∙ ap (λ it. length unit + it) (common-copies count unit behind) ∙ omega arith

pub copies-end : (count : ℕ) (unit rest behind more : List ℕ) → common rest (unit ++ rest) < suc count * length unit
    → rest ≡ copies count unit ++ behind → behind ≡ unit ++ more → ⊥
copies-end count unit rest behind more less whole again =
    let all : common rest (unit ++ rest) ≡ count * length unit + common behind (unit ++ behind) =
    ap (λ it. common it (unit ++ it)) whole ∙ common-copies count unit behind in
    let further : common behind (unit ++ behind) ≡ length unit + common more behind =
    ap (λ it. common it (unit ++ behind)) again ∙ common-append unit more behind in
    absurd (omega (arith, less, all, further))
