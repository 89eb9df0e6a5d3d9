-- The parts that are left of a split, as pieces of them are put.
use Rattle.std.proofs.Common.{◌≡◌, ℕ, zero, suc, ◌+◌, ◌-◌, ◌<◌, ◌≤◌, ◌==◌, ◌&&◌, ◌||◌, not, nat_lt, List, [], ◌∷◌, ◌++◌, Bool, true, false, length, take, drop, min, if◌then◌else◌, get_or, refl, ap, sym, ◌∙◌, append_assoc, append-nil, ⊎_elim, arith}
use Rattle.std.proofs.lemmas.Bool.{cases_lt, eq-eqb, ne_eqb, eqb-true, lt-ltb, le-ltb, true≢false}
use Rattle.std.proofs.lemmas.List.{take-append-drop, drop-take, drop-drop, length-take}
use Rattle.fl_graph.specs.Machines.{NoneWasDue, WereDue, is_put, port_put}
use Rattle.fl_graph.specs.declared.pieces.Act.{Act}
use Rattle.fl_graph.specs.declared.pieces.Act.TheVariants as act
use Rattle.fl_classes.specs.Parts.{part_end, slice, parts_of}
use Rattle.fl_classes.proofs.PartLemmas.{slice-none}
use Rattle.fl_joints.specs.Joints.{parts_left}
use Rattle.fl_joints.proofs.PartLemmas.{part-at, part-past, part_end-none}

-- of a part before, nothing is left; of the one that is put, the rest; and those behind are whole
module _ (text : List ℕ) (parts part given end other : ℕ) where
  left-before : other < part → parts_left text parts part given end other ≡ []
  left-before before =
      ap (λ behind. if behind then get_or (parts_of text parts) other [] else if other == part then slice text given end else []) (le-ltb part other (omega arith))
      ∙ ap (λ here. if here then slice text given end else []) (ne_eqb other part (λ same. omega arith))

  left-at : other ≡ part → parts_left text parts part given end other ≡ slice text given end
  left-at at =
      ap (λ behind. if behind then get_or (parts_of text parts) other [] else if other == part then slice text given end else []) (le-ltb part other (omega arith))
      ∙ ap (λ here. if here then slice text given end else []) (eq-eqb other part at)

  left-behind : part < other → parts_left text parts part given end other ≡ get_or (parts_of text parts) other []
  left-behind behind =
      ap (λ behind. if behind then get_or (parts_of text parts) other [] else if other == part then slice text given end else []) (lt-ltb part other behind)

-- at the end of the input all parts are left
pub parts_left-all : (text : List ℕ) (parts part given end other : ℕ) → part ≡ 0 → given ≡ 0 → 0 < parts → end ≡ part_end text parts (part + 1)
    → parts_left text parts part given end other ≡ get_or (parts_of (text ++ []) parts) other []
parts_left-all text parts part given end other first start some placed =
    ⊎_elim (λ (here : other < 1).
    let at : other ≡ part = omega arith in
    left-at text parts part given end other at
    ∙ ap (λ from. slice text from end) (start ∙ sym (part_end-none text parts some) ∙ ap (part_end text parts) (sym first ∙ sym at))
    ∙ ap (slice text (part_end text parts other)) (placed ∙ ap (λ part. part_end text parts (part + 1)) (sym at))
    ∙ sym (part-at text parts other (omega arith)))
    (λ (behind : 1 ≤ other). left-behind text parts part given end other (omega arith))
    (cases_lt other 1)
    ∙ ap (λ text. get_or (parts_of text parts) other []) (sym (append-nil text))

-- a front of what waits, and the rest
pub slice-piece : (text bytes : List ℕ) (given given' end most : ℕ) → given ≤ end → given' ≡ given + length bytes
    → bytes ≡ take (min (length (slice text given end)) most) (slice text given end) → slice text given end ≡ bytes ++ slice text given' end
slice-piece text bytes given given' end most within next front =
    let count = min (length (slice text given end)) most in
    let all = length-take (end - given) (drop given text) in
    let part : length (take count (slice text given end)) ≡ min count (length (slice text given end)) = length-take count (slice text given end) in
    let size : length bytes ≡ count = ap length front ∙ part ∙ omega arith in
    let sum : count + (end - given') ≡ end - given = omega arith in
    let rest : drop count (slice text given end) ≡ slice text given' end =
    ap (λ size. drop count (take size (drop given text))) (sym sum) ∙ drop-take count (end - given') (drop given text)
    ∙ ap (take (end - given')) (drop-drop count given text ∙ ap (λ place. drop place text) (omega arith)) in
    sym (take-append-drop count (slice text given end)) ∙ ap (λ rest. take count (slice text given end) ++ rest) rest
    ∙ ap (λ start. start ++ slice text given' end) (sym front)

pub parts_left-piece : (text bytes : List ℕ) (parts part given given' end most other : ℕ) → given ≤ end → given' ≡ given + length bytes
    → bytes ≡ take (min (length (slice text given end)) most) (slice text given end)
    → parts_left text parts part given end other ≡ (if other == part then bytes ++ parts_left text parts part given' end other else parts_left text parts part given' end other)
parts_left-piece text bytes parts part given given' end most other within next front = choice (other == part) refl
  where
    elsewhere : (behind here : Bool) → here ≡ false → (whole rest rest' : List ℕ) → (if behind then whole else if here then rest else []) ≡ (if behind then whole else if here then rest' else [])
    elsewhere true here none whole rest rest' = refl
    elsewhere false here none whole rest rest' = ap (λ here. if here then rest else []) none ∙ sym (ap (λ here. if here then rest' else []) none)

    choice : (here : Bool) → (other == part) ≡ here
        → parts_left text parts part given end other ≡ (if here then bytes ++ parts_left text parts part given' end other else parts_left text parts part given' end other)
    choice true at =
        let there : other ≡ part = eqb-true other part at in
        left-at text parts part given end other there ∙ slice-piece text bytes given given' end most within next front
        ∙ ap (λ rest. bytes ++ rest) (sym (left-at text parts part given' end other there))
    choice false at = elsewhere (nat_lt part other) (other == part) at (get_or (parts_of text parts) other []) (slice text given end) (slice text given' end)

-- where a part is put, nothing is left of it, and the next comes
pub parts_left-none : (text : List ℕ) (parts part given end : ℕ) → given ≡ end → parts_left text parts part given end part ≡ []
parts_left-none text parts part given end done =
    left-at text parts part given end part refl ∙ ap (λ from. slice text from end) done ∙ slice-none text end

pub parts_left-next : (text : List ℕ) (parts part part' given end end' other : ℕ) → given ≡ end → part' ≡ part + 1 → part < parts → end ≡ part_end text parts (part + 1)
    → (part + 1 < parts → end' ≡ part_end text parts (part + 1 + 1)) → (parts ≤ part + 1 → end' ≡ end)
    → parts_left text parts part given end other ≡ parts_left text parts part' given end' other
parts_left-next text parts part part' given end end' other done next low placed more last =
    ⊎_elim (λ (before : other < part').
    ⊎_elim (λ (early : other < part). left-before text parts part given end other early)
    (λ (late : part ≤ other).
    let at : other ≡ part = omega arith in left-at text parts part given end other at ∙ ap (λ from. slice text from end) done ∙ slice-none text end)
    (cases_lt other part)
    ∙ sym (left-before text parts part' given end' other before))
    (λ (after : part' ≤ other).
    left-behind text parts part given end other (omega arith)
    ∙ ⊎_elim (λ (at : other < part' + 1).
    let there : other ≡ part' = omega arith in
    let here : other ≡ part + 1 = omega arith in
    ⊎_elim (λ (few : part + 1 < parts).
    part-at text parts other (omega arith)
    ∙ ap (λ place. slice text (part_end text parts place) (part_end text parts (place + 1))) here
    ∙ ap (λ from. slice text from (part_end text parts (part + 1 + 1))) (sym (done ∙ placed))
    ∙ ap (slice text given) (sym (more few)))
    (λ (all : parts ≤ part + 1).
    part-past text parts other (omega arith) ∙ sym (ap (slice text given) (last all ∙ sym done) ∙ slice-none text given))
    (cases_lt (part + 1) parts)
    ∙ sym (left-at text parts part' given end' other there))
    (λ (behind : part' + 1 ≤ other). sym (left-behind text parts part' given end' other (omega arith)))
    (cases_lt other (part' + 1)))
    (cases_lt other part')

-- the same, of a machine whose turn it is to put
abbrev act_of : Bool → Bool → Bool → ℕ → Act
act_of some broken taking part = if some && (broken || not taking) then act.Put part else if taking then act.Take 0 else act.Stop

abbrev due_of : Bool → List ℕ → ℕ → ℕ → ℕ → ℕ → (ℕ → List ℕ) → ℕ → List ℕ
due_of taking text parts part given end texts other =
    if taking then get_or (parts_of (text ++ texts 0) parts) other [] else parts_left text parts part given end other

pub put-piece : (text shown bytes : List ℕ) (parts part given given' end most : ℕ) (some broken taking : Bool) → is_put (act_of some broken taking part) ≡ true → broken ≡ false
    → given ≤ end → given' ≡ given + length bytes → shown ≡ text → bytes ≡ take (min (length (slice shown given end)) most) (slice shown given end)
    → (broken ≡ false) × WereDue (due_of taking text parts part given end) (due_of taking text parts part given' end) (port_put (act_of some broken taking part)) bytes
put-piece text shown bytes parts part given given' end most true false false turn whole within next same front = (
  refl,
  λ texts other. parts_left-piece text bytes parts part given given' end most other within next
      (front ∙ ap (λ text. take (min (length (slice text given end)) most) (slice text given end)) same),
)
put-piece text shown bytes parts part given given' end most some true taking turn whole within next same front = absurd (true≢false whole)
put-piece text shown bytes parts part given given' end most false false false turn whole within next same front = absurd (true≢false (sym turn))
put-piece text shown bytes parts part given given' end most true false true turn whole within next same front = absurd (true≢false (sym turn))
put-piece text shown bytes parts part given given' end most false false true turn whole within next same front = absurd (true≢false (sym turn))

pub put-end : (text shown : List ℕ) (parts part given end end' : ℕ) (some broken taking : Bool) → is_put (act_of some broken taking part) ≡ true → broken ≡ false
    → given ≡ end → (some ≡ true → part < parts) → (taking ≡ false → broken ≡ false → part < parts → end ≡ part_end text parts (part + 1)) → shown ≡ text
    → (part + 1 < parts → end' ≡ part_end shown parts (part + 1 + 1)) → (parts ≤ part + 1 → end' ≡ end)
    → (broken ≡ false) × NoneWasDue (due_of taking text parts part given end) (due_of taking text parts (part + 1) given end') (port_put (act_of some broken taking part))
put-end text shown parts part given end end' true false false turn whole done low placed same more last = (
  refl,
  (
    λ texts. parts_left-none text parts part given end done,
    λ texts other. parts_left-next text parts part (part + 1) given end end' other done refl (low refl) (placed refl refl (low refl))
        (λ few. more few ∙ ap (λ text. part_end text parts (part + 1 + 1)) same) last,
  ),
)
put-end text shown parts part given end end' some true taking turn whole done low placed same more last = absurd (true≢false whole)
put-end text shown parts part given end end' false false false turn whole done low placed same more last = absurd (true≢false (sym turn))
put-end text shown parts part given end end' true false true turn whole done low placed same more last = absurd (true≢false (sym turn))
put-end text shown parts part given end end' false false true turn whole done low placed same more last = absurd (true≢false (sym turn))

pub ruleset takes = (append_assoc, parts_left-all)

pub ruleset puts = (slice-none, length-take)
