-- What waits to be put.
use Rattle.std.proofs.Common.{◌≡◌, ◌≤◌, ◌<◌, ◌-◌, ◌==◌, ◌&&◌, nat_le, ℕ, List, [], ◌∷◌, length, drop, Bool, true, false, if◌then◌else◌, refl, ap, sym, ◌∙◌, arith}
use Rattle.std.proofs.lemmas.Bool.{true≢false, eq-eqb, eqb-true}
use Rattle.std.proofs.lemmas.List.{drop_all, length-drop}
use Rattle.ps_lines.specs.Lines.{is_empty}
use Rattle.fl_graph.specs.Machines.{is_take}
use Rattle.fl_graph.specs.declared.pieces.Act.TheVariants as act
use Rattle.fl_machines.specs.Through.{next_act}
use Rattle.fl_machines.specs.Waiting.{is_worth_putting}
use Rattle.fl_machines.specs.declared.waiting.TheConstants.{HALF_PIECE}

pub empty-none : (text : List ℕ) → is_empty text ≡ true → text ≡ []
empty-none [] is = refl
empty-none (byte ∷ text) is = absurd (true≢false (sym is))

filled-some : (text : List ℕ) → is_empty text ≡ false → 0 < length text
filled-some [] is = absurd (true≢false is)
filled-some (byte ∷ text) is = omega arith

some-filled : (text : List ℕ) → 0 < length text → is_empty text ≡ false
some-filled [] some = absurd (omega arith)
some-filled (byte ∷ text) some = refl

-- nothing is left of a buffer where all is given
pub empty-behind : (out : List ℕ) (given size : ℕ) → length out ≡ size → given ≤ size → (given == size) ≡ is_empty (drop given out)
empty-behind out given size sized within = by_test (given == size) refl (length-drop given out)
  where
    by_test : (all : Bool) → (given == size) ≡ all → length (drop given out) ≡ length out - given → all ≡ is_empty (drop given out)
    by_test true is left = let same = eqb-true given size is in sym (ap is_empty (drop_all given out (omega (arith, same, sized))))
    by_test false is left =
        let differs : given ≡ size → ⊥ = λ same. true≢false (sym (eq-eqb given size same) ∙ is) in
        sym (some-filled (drop given out) (omega (arith, left, within, sized, differs)))

pub front-filled : (out : List ℕ) (given : ℕ) → is_empty (drop given out) ≡ false → given < length out
front-filled out given is =
    let some = filled-some (drop given out) is in
    let left : length (drop given out) ≡ length out - given = length-drop given out in
    omega (arith, some, left)

-- what is left of a buffer is worth putting where it is long enough
pub worth-behind : (out : List ℕ) (given size : ℕ) → length out ≡ size → nat_le HALF_PIECE (size - given) ≡ is_worth_putting (drop given out)
worth-behind out given size sized = ap (nat_le HALF_PIECE) (ap (λ size. size - given) (sym sized) ∙ sym (length-drop given out))

-- nothing isn't
pub nothing-worth : is_worth_putting [] ≡ false
nothing-worth = refl

-- a machine that takes has its in open, and takes from there
pub open-takes : (urgent taking putting : Bool) → is_take (next_act urgent taking putting) ≡ true → taking ≡ true
open-takes urgent true putting turn = refl
open-takes urgent false putting turn = absurd (by_putting (putting && urgent) putting turn)
  where
    by_putting : (waits putting : Bool) → is_take (if waits then act.Put 0 else if putting then act.Put 0 else act.Stop) ≡ true → ⊥
    by_putting true putting turn = true≢false (sym turn)
    by_putting false true turn = true≢false (sym turn)
    by_putting false false turn = true≢false (sym turn)

pub ruleset buffers = (empty-none, empty-behind, front-filled, worth-behind)

pub ruleset waits = (empty-none, nothing-worth, open-takes)
