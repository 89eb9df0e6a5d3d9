-- What is left for the outs that each get one text, as pieces of it are taken and put.
use Rattle.std.proofs.Common.{◌≡◌, ℕ, zero, suc, ◌+◌, ◌-◌, ◌<◌, ◌≤◌, ◌==◌, ◌&&◌, ◌||◌, not, nat_lt, List, [], ◌∷◌, ◌++◌, Bool, true, false, if◌then◌else◌, get_or, replicate, refl, ap, sym, ◌∙◌, append_assoc, ⊎_elim, arith}
use Rattle.std.proofs.lemmas.Bool.{and_parts, cases_lt, eqb-true, eq-eqb, lt-ltb, le-ltb, true≢false}
use Rattle.std.proofs.lemmas.List.{get_or-replicate}
use Rattle.ps_world.specs.Paths.{Components}
use Rattle.ps_world.specs.declared.tree.Mode.{Mode}
use Rattle.fl_graph.specs.declared.kinds.NodeKind.TheVariants as kind
use Rattle.fl_classes.specs.Nodes.{given_on}
use Rattle.fl_joints.specs.Joints.{left_for}

-- an out that isn't there gets nothing
left-past : (outs first : ℕ) (held rest : List ℕ) (out : ℕ) → outs ≤ out → left_for outs first held rest out ≡ []
left-past outs first held rest out past =
    ap (λ known. if known then (if nat_lt out first then rest else held ++ rest) else []) (le-ltb out outs past)

-- one with a lower number than the first has the piece, and another hasn't
left-given : (outs first : ℕ) (held rest : List ℕ) (out : ℕ) → out < outs → out < first → left_for outs first held rest out ≡ rest
left-given outs first held rest out known given =
    ap (λ known. if known then (if nat_lt out first then rest else held ++ rest) else []) (lt-ltb out outs known)
    ∙ ap (λ given. if given then rest else held ++ rest) (lt-ltb out first given)

left-whole : (outs first : ℕ) (held rest : List ℕ) (out : ℕ) → out < outs → first ≤ out → left_for outs first held rest out ≡ held ++ rest
left-whole outs first held rest out known lacks =
    ap (λ known. if known then (if nat_lt out first then rest else held ++ rest) else []) (lt-ltb out outs known)
    ∙ ap (λ given. if given then rest else held ++ rest) (le-ltb out first lacks)

-- where nothing is held, no number matters
left-rest : (outs first : ℕ) (rest : List ℕ) (out : ℕ) → out < outs → left_for outs first [] rest out ≡ rest
left-rest outs first rest out known =
    ⊎_elim (λ (given : out < first). left-given outs first [] rest out known given) (λ (lacks : first ≤ out). left-whole outs first [] rest out known lacks) (cases_lt out first)

-- all of a text is left at its beginning
pub left-all : (outs : ℕ) (text : List ℕ) (out : ℕ) → left_for outs 0 [] text out ≡ get_or (replicate outs text) out []
left-all outs text out =
    ⊎_elim (λ (known : out < outs). left-rest outs 0 text out known ∙ sym (get_or-replicate outs out text [] known))
    (λ (past : outs ≤ out). left-past outs 0 [] text out past ∙ sym (none outs out past)) (cases_lt out outs)
  where
    none : (outs out : ℕ) → outs ≤ out → get_or (replicate outs text) out [] ≡ []
    none zero out past = refl
    none (suc outs) zero past = absurd (omega (arith, past))
    none (suc outs) (suc out) past = none outs out (omega (arith, past))

pub tee-given : (path : Components) (mode : Mode) (ins outs count given : ℕ) (texts : ℕ → List ℕ) (out : ℕ) → ((ins == 1) && (outs == 1)) ≡ true → count ≡ outs + 1 → given ≡ 0
    → left_for count given [] (texts 0) out ≡ given_on (kind.TeeFile path mode) ins (suc outs) texts out
tee-given path mode ins outs count given texts out ports more none =
    let one : ins ≡ 1 = eqb-true ins 1 (and_parts (ins == 1) (outs == 1) ports).0 in
    let next : outs + 1 ≡ suc outs = omega arith in
    ap (λ first. left_for count first [] (texts 0) out) none ∙ ap (λ count. left_for count 0 [] (texts 0) out) (more ∙ next) ∙ left-all (suc outs) (texts 0) out
    ∙ ap (λ ins. given_on (kind.TeeFile path mode) ins (suc outs) texts out) (sym one)

-- a piece that is taken is held for all of them
pub left-taken : (outs first : ℕ) (bytes rest : List ℕ) (out : ℕ) → left_for outs 0 bytes rest out ≡ left_for outs first [] (bytes ++ rest) out
left-taken outs first bytes rest out =
    ⊎_elim (λ (known : out < outs). left-whole outs 0 bytes rest out known (omega arith) ∙ sym (left-rest outs first (bytes ++ rest) out known))
    (λ (past : outs ≤ out). left-past outs 0 bytes rest out past ∙ sym (left-past outs first [] (bytes ++ rest) out past)) (cases_lt out outs)

-- an out that gets the piece lacks it no more
module _ (outs first : ℕ) (held rest : List ℕ) (known : first < outs) where
  left-here : left_for outs first held rest first ≡ held ++ rest
  left-here = left-whole outs first held rest first known (omega arith)

  pub left-next : (out : ℕ) → left_for outs first held rest out ≡ (if out == first then held ++ left_for outs (first + 1) held rest out else left_for outs (first + 1) held rest out)
  left-next out = by_test (out == first) refl
    where
      elsewhere : (out ≡ first → ⊥) → left_for outs first held rest out ≡ left_for outs (first + 1) held rest out
      elsewhere apart =
          ⊎_elim (λ (there : out < outs).
          ⊎_elim (λ (given : out < first). left-given outs first held rest out there given ∙ sym (left-given outs (first + 1) held rest out there (omega arith)))
          (λ (lacks : first ≤ out).
          let later : first + 1 ≤ out = ⊎_elim (λ (same : out < first + 1). let here : out ≡ first = omega arith in absurd (apart here)) (λ (behind : first + 1 ≤ out). behind) (cases_lt out (first + 1)) in
          left-whole outs first held rest out there lacks ∙ sym (left-whole outs (first + 1) held rest out there later))
          (cases_lt out first))
          (λ (past : outs ≤ out). left-past outs first held rest out past ∙ sym (left-past outs (first + 1) held rest out past)) (cases_lt out outs)

      by_test : (here : Bool) → (out == first) ≡ here
          → left_for outs first held rest out ≡ (if here then held ++ left_for outs (first + 1) held rest out else left_for outs (first + 1) held rest out)
      by_test true is =
          let same : out ≡ first = eqb-true out first is in
          left-whole outs first held rest out (omega arith) (omega arith) ∙ ap (λ text. held ++ text) (sym (left-given outs (first + 1) held rest out (omega arith) (omega arith)))
      by_test false is = elsewhere (λ same. true≢false (sym (eq-eqb out first same) ∙ is))

  -- and where it was the last, no out does
  pub left-last : (out : ℕ) → outs - first ≡ 1 → left_for outs first held rest out ≡ (if out == first then held ++ left_for outs first [] rest out else left_for outs first [] rest out)
  left-last out last = by_test (out == first) refl
    where
      elsewhere : (out ≡ first → ⊥) → left_for outs first held rest out ≡ left_for outs first [] rest out
      elsewhere apart =
          ⊎_elim (λ (there : out < outs).
          let given : out < first = ⊎_elim (λ (before : out < first). before) (λ (lacks : first ≤ out). let here : out ≡ first = omega arith in absurd (apart here)) (cases_lt out first) in
          left-given outs first held rest out there given ∙ sym (left-given outs first [] rest out there given))
          (λ (past : outs ≤ out). left-past outs first held rest out past ∙ sym (left-past outs first [] rest out past)) (cases_lt out outs)

      by_test : (here : Bool) → (out == first) ≡ here
          → left_for outs first held rest out ≡ (if here then held ++ left_for outs first [] rest out else left_for outs first [] rest out)
      by_test true is =
          let same : out ≡ first = eqb-true out first is in
          left-whole outs first held rest out (omega arith) (omega arith) ∙ ap (λ text. held ++ text) (sym (left-rest outs first rest out (omega arith)))
      by_test false is = elsewhere (λ same. true≢false (sym (eq-eqb out first same) ∙ is))

-- at the end of the text nothing is left
pub left-none : (outs first out : ℕ) → left_for outs first [] [] out ≡ []
left-none outs first out =
    ⊎_elim (λ (known : out < outs). left-rest outs first [] out known) (λ (past : outs ≤ out). left-past outs first [] [] out past) (cases_lt out outs)

pub ruleset takes = (left-taken, left-none)

pub ruleset puts = (left-next, left-last, left-none)
