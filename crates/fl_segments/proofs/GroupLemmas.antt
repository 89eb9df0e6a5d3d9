-- The files of a leading cat in groups: the groups joined are all files, none is empty, and they are cut at ends of lines.
use Rattle.std.proofs.Common.{◌≡◌, ℕ, zero, suc, ◌+◌, ◌-◌, ◌*◌, ◌/◌, ◌^◌, ◌<◌, ◌≤◌, List, [], ◌∷◌, ◌++◌, Bool, true, false, ◌&&◌, if◌then◌else◌, length, map, take, drop, nat_le, refl, ap, sym, ◌∙◌, ⊎_elim, mul-suc, add-one, length-drop, arith}
use Rattle.std.specs.List.{concat, list_all}
use Rattle.std.proofs.lemmas.Bool.{true≢false, and_from, and_parts, cases_lt, cond-true, le-leb, leb-true}
use Rattle.std.proofs.lemmas.List.{length-take-le}
use Rattle.std.proofs.lemmas.List.Folds.{list_all-append}
use Rattle.std.proofs.lemmas.Nat.{le-div, mul-le, mul-lt}
use Rattle.std.proofs.Math.Nat.{div-eq_of_lt, div-mul-le_self, mul_comm}
use Rattle.ps_lines.specs.Lines.{is_closed, is_cutlist, is_empty}
use Rattle.ut_args.specs.declared.invocations.Inv.{Inv}
use Rattle.ps_lines.proofs.ClosedLemmas.{closed-append}
use Rattle.fl_classes.specs.Parts.{slice}
use Rattle.fl_classes.specs.Used.{is_cat}
use Rattle.fl_classes.proofs.PartLemmas.{slice-all, slice-none, slice-slice}
use Rattle.fl_segments.specs.Groups.{group_start, is_file, is_grouped, is_marked, may_group}
use Rattle.fl_segments.specs.Inner.Steps.{does_nodes, groups_from}
use Rattle.fl_segments.specs.declared.stages.Does.{Does}
use Rattle.fl_segments.specs.declared.stages.Does.TheVariants as does
use Rattle.fl_segments.specs.declared.stages.In.{In}

-- WHERE GROUPS BEGIN
pub product-fits : (group files : ℕ) → group < 2 ^ 32 → files < 2 ^ 64 → group * files < 2 ^ 96
product-fits group files few fits = mul-lt group files (2 ^ 32) (2 ^ 64) few fits

pub start-within : (group groups files : ℕ) → 0 < groups → group ≤ groups → group * files / groups ≤ files
start-within group groups files some few =
    let below : group * files / groups * groups ≤ group * files = div-mul-le_self (group * files) groups in
    let whole : group * files ≤ groups * files = mul-le group files groups files few (omega arith) in
    ⊎_elim (λ (high : group * files / groups < files + 1). omega arith)
    (λ (high : files + 1 ≤ group * files / groups).
    let more : (files + 1) * groups ≤ group * files / groups * groups = mul-le (files + 1) groups (group * files / groups) groups high (omega arith) in
    let product : (files + 1) * groups ≡ groups * files + groups = mul_comm (files + 1) groups ∙ ap (λ next. groups * next) (add-one files) ∙ mul-suc groups files in
    absurd (omega arith))
    (cases_lt (group * files / groups) (files + 1))

-- WHAT GOES IN GROUPS
pub record GoesInGroups (width : ℕ) (leads : Bool) (it : Does) (ins : List In) : Type 0 where
  pub inv : Inv
  pub runs : it ≡ does.Util inv
  pub cat : (is_cat inv && leads) ≡ true
  pub wide : 2 ≤ width
  pub enough : width ≤ length ins
  pub files : list_all is_file ins ≡ true
  pub marked : list_all is_marked (take (group_start width (length ins) (width - 1)) ins) ≡ true

pub grouped-so : (width : ℕ) (leads : Bool) (it : Does) (ins : List In) → is_grouped width leads it ins ≡ true → GoesInGroups width leads it ins
grouped-so width leads does.Skip ins is = absurd (true≢false (sym is))
grouped-so width leads (does.Util inv) ins is =
    let marked : Bool = list_all is_marked (take (group_start width (length ins) (width - 1)) ins) in
    let one = and_parts (is_cat inv && leads) (may_group width ins) is in
    let two = and_parts (nat_le 2 width) (nat_le width (length ins) && (list_all is_file ins && marked)) one.1 in
    let three = and_parts (nat_le width (length ins)) (list_all is_file ins && marked) two.1 in
    let four = and_parts (list_all is_file ins) marked three.1 in
    record {
      inv = inv;
      runs = refl;
      cat = one.0;
      wide = leb-true 2 width two.0;
      enough = leb-true width (length ins) three.0;
      files = four.0;
      marked = four.1;
    }

-- no later stage does
pub later-whole : (width : ℕ) (leads : Bool) (it : Does) (ins : List In) → leads ≡ false → is_grouped width leads it ins ≡ true → ⊥
later-whole width leads it ins later is =
    let so : GoesInGroups width leads it ins = grouped-so width leads it ins is in true≢false (sym (and_parts (is_cat so.inv) leads so.cat).1 ∙ later)

-- its utility has no node that is named
pub grouped-nodes : (width number : ℕ) (leads : Bool) (it : Does) (ins : List In) (edges : List ℕ) (before : ℕ) → is_grouped width leads it ins ≡ true → does_nodes width number leads it edges before ≡ []
grouped-nodes width number leads does.Skip ins edges before is = absurd (true≢false (sym is))
grouped-nodes width number leads (does.Util inv) ins edges before is =
    cond-true (is_cat inv && leads) [] _ (and_parts (is_cat inv && leads) (may_group width ins) is).0

pub ruleset starts = (product-fits, start-within)

pub ruleset named = (grouped-nodes)

module _ (groups files : ℕ) (some : 0 < groups) where
  next-product : (group : ℕ) → (group + 1) * files ≡ group * files + files
  next-product group =
      mul_comm (group + 1) files ∙ ap (λ next. files * next) (add-one group) ∙ mul-suc files group ∙ ap (λ product. product + files) (mul_comm files group)

  pub start-rises : (group : ℕ) → group_start groups files group ≤ group_start groups files (group + 1)
  start-rises group =
      let below : group * files / groups * groups ≤ group * files = div-mul-le_self (group * files) groups in
      let more : group * files ≤ (group + 1) * files = mul-le group files (group + 1) files (omega arith) (omega arith) in
      le-div (group_start groups files group) ((group + 1) * files) groups some (omega arith)

  -- where there are as many files, each group has one
  start-grows : groups ≤ files → (group : ℕ) → group_start groups files group + 1 ≤ group_start groups files (group + 1)
  start-grows enough group =
      let here : ℕ = group_start groups files group in
      let below : here * groups ≤ group * files = div-mul-le_self (group * files) groups in
      let product : (here + 1) * groups ≡ here * groups + groups =
      mul_comm (here + 1) groups ∙ ap (λ next. groups * next) (add-one here) ∙ mul-suc groups here ∙ ap (λ product. product + groups) (mul_comm groups here) in
      let next = next-product group in
      le-div (here + 1) ((group + 1) * files) groups some (omega (arith, below, product, next, enough))

  starts-rise : (group left : ℕ) → group_start groups files group ≤ group_start groups files (group + left)
  starts-rise group zero = let none : group + 0 ≡ group = omega arith in rw none (omega arith)
  starts-rise group (suc left) =
      let next : group + suc left ≡ (group + 1) + left = omega arith in
      let first = start-rises group in
      let rest = starts-rise (group + 1) left in
      rw next (omega (arith, first, rest))

  start-none : group_start groups files 0 ≡ 0
  start-none = let none : 0 * files ≡ 0 = omega arith in ap (λ product. product / groups) none ∙ div-eq_of_lt some

  start-all : group_start groups files groups ≡ files
  start-all =
      let low : files ≤ group_start groups files groups = le-div files (groups * files) groups some (let swapped : files * groups ≡ groups * files = mul_comm files groups in omega arith) in
      let high : group_start groups files groups ≤ files = start-within groups groups files some (omega arith) in omega (arith, low, high)

abbrev pub has_some : List ℕ → Bool
has_some group = nat_le 1 (length group)

module _ (width : ℕ) (edges : List ℕ) (some : 0 < width) where
  abbrev start : ℕ → ℕ
  start group = group_start width (length edges) group

  -- ALL FILES ARE IN THE GROUPS
  from-joined : (group left : ℕ) → concat (groups_from width edges group left) ≡ slice edges (start group) (start (group + left))
  from-joined group zero = let none : group + 0 ≡ group = omega arith in rw none (sym (slice-none edges (start group)))
  from-joined group (suc left) =
      let next : group + suc left ≡ (group + 1) + left = omega arith in
      rw next (ap (λ rest. slice edges (start group) (start (group + 1)) ++ rest) (from-joined (group + 1) left)
      ∙ slice-slice edges (start group) (start (group + 1)) (start ((group + 1) + left)) (start-rises width (length edges) some group) (starts-rise width (length edges) some (group + 1) left))

  pub groups-joined : concat (groups_from width edges 0 width) ≡ edges
  groups-joined =
      let all : 0 + width ≡ width = omega arith in
      from-joined 0 width ∙ ap (λ from. slice edges from (start (0 + width))) (start-none width (length edges) some)
      ∙ ap (λ last. slice edges 0 (start last)) all ∙ ap (slice edges 0) (start-all width (length edges) some) ∙ slice-all edges

  -- each has one at least
  slice-size : (from end : ℕ) → from ≤ end → end ≤ length edges → length (slice edges from end) ≡ end - from
  slice-size from end low high = let left = length-drop from edges in length-take-le (end - from) (drop from edges) (omega (arith, left, low, high))

  from-some : width ≤ length edges → (group left : ℕ) → group + left ≤ width → list_all has_some (groups_from width edges group left) ≡ true
  from-some enough group zero few = refl
  from-some enough group (suc left) few =
      let more = start-grows width (length edges) some enough group in
      let within = start-within (group + 1) width (length edges) some (omega (arith, few)) in
      let size = slice-size (start group) (start (group + 1)) (omega (arith, more)) within in
      and_from (has_some (slice edges (start group) (start (group + 1)))) (list_all has_some (groups_from width edges (group + 1) left))
      (le-leb 1 (length (slice edges (start group) (start (group + 1)))) (omega (arith, more, size))) (from-some enough (group + 1) left (omega (arith, few)))

  pub groups-some : width ≤ length edges → list_all has_some (groups_from width edges 0 width) ≡ true
  groups-some enough = from-some enough 0 width (omega arith)

  -- THEY ARE CUT where all files before the last group are closed
  all-slice : (test : ℕ → Bool) (from end most : ℕ) → from ≤ end → end ≤ most → list_all test (take most edges) ≡ true → list_all test (slice edges from end) ≡ true
  all-slice test from end most low high all =
      let front : slice edges 0 from ++ slice edges from end ≡ slice edges 0 end = slice-slice edges 0 from end (omega arith) low in
      let whole : slice edges 0 end ++ slice edges end most ≡ slice edges 0 most = slice-slice edges 0 end most (omega arith) high in
      let size : most - 0 ≡ most = omega arith in
      let taken : list_all test (slice edges 0 most) ≡ true = ap (λ count. list_all test (take count edges)) size ∙ all in
      let first = and_parts (list_all test (slice edges 0 end)) (list_all test (slice edges end most)) (sym (list_all-append test (slice edges 0 end) (slice edges end most)) ∙ ap (list_all test) whole ∙ taken) in
      (and_parts (list_all test (slice edges 0 from)) (list_all test (slice edges from end)) (sym (list_all-append test (slice edges 0 from) (slice edges from end)) ∙ ap (list_all test) front ∙ first.0)).1

  module _ (at : ℕ → List ℕ) (closed : list_all (λ edge. is_closed (at edge)) (take (group_start width (length edges) (width - 1)) edges) ≡ true) where
    joined-closed : (group : List ℕ) → list_all (λ edge. is_closed (at edge)) group ≡ true → is_closed (concat (map at group)) ≡ true
    joined-closed [] all = refl
    joined-closed (edge ∷ group) all =
        let parts = and_parts (is_closed (at edge)) (list_all (λ edge. is_closed (at edge)) group) all in
        closed-append (at edge) (concat (map at group)) parts.0 (joined-closed group parts.1)

    either : (test : Bool) → (if test then true else true) ≡ true
    either true = refl
    either false = refl

    from-cut : (group left : ℕ) → group + left ≡ width → is_cutlist (map (λ group. concat (map at group)) (groups_from width edges group left)) ≡ true
    from-cut group zero is = refl
    from-cut group (suc zero) is = either (is_closed (concat (map at (slice edges (start group) (start (group + 1))))))
    from-cut group (suc (suc left)) is =
        let first : List ℕ = slice edges (start group) (start (group + 1)) in
        let rest : List (List ℕ) = map (λ group. concat (map at group)) (groups_from width edges (group + 1) (suc left)) in
        let last : (group + 1) + left ≡ width - 1 = omega (arith, is) in
        let before : start (group + 1) ≤ start (width - 1) = ap-le last in
        cond-true (is_closed (concat (map at first))) (is_cutlist rest) (list_all is_empty rest)
        (joined-closed first (all-slice (λ edge. is_closed (at edge)) (start group) (start (group + 1)) (start (width - 1)) (start-rises width (length edges) some group) before closed))
        ∙ from-cut (group + 1) (suc left) (omega (arith, is))
      where
        ap-le : (group + 1) + left ≡ width - 1 → start (group + 1) ≤ start (width - 1)
        ap-le last = rw (sym last) (starts-rise width (length edges) some (group + 1) left)

    pub groups-cut : is_cutlist (map (λ group. concat (map at group)) (groups_from width edges 0 width)) ≡ true
    groups-cut = from-cut 0 width (omega arith)

pub groups-count : (width : ℕ) (edges : List ℕ) (group left : ℕ) → length (groups_from width edges group left) ≡ left
groups-count width edges group zero = refl
groups-count width edges group (suc left) = ap suc (groups-count width edges (group + 1) left)
