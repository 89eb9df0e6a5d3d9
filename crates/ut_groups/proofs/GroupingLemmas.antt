-- Groups that are open, as further lines come.
use Rattle.std.proofs.Common.{◌≡◌, ℕ, ◌+◌, ◌==◌, nat_lt, Bool, true, false, List, [], ◌∷◌, ◌++◌, map, decimal, if◌then◌else◌, refl, ap, sym, ◌∙◌, append_assoc, append-nil, arith}
use Rattle.std.proofs.lemmas.Bool.{cond-true, cond-false, ltb-true, lt-ltb, eqb-true, eq-eqb}
use Rattle.std.proofs.lemmas.Slice.Eq.{bytes_eq-Decides}
use Rattle.std.specs.List.{flat_map}
use Rattle.std.specs.Str.{bytes_eq}
use Rattle.ut_args.specs.declared.commands.Groups.{Groups}
use Rattle.ut_args.specs.declared.commands.Groups.TheVariants as groups
use Rattle.ut_streams.specs.Streams.{Put, Wrote}
use Rattle.ut_streams.proofs.StreamLemmas.{Wrote-at, Wrote-put, Wrote-same, Wrote-trans}
use Rattle.ut_groups.specs.declared.grouping.Grouping.{Grouping}
use Rattle.ut_groups.specs.declared.skips.Skip.{Skip}
use Rattle.ut_groups.specs.Counting.{saturated}
use Rattle.ut_groups.specs.Groups.{Group, before_groups, compared, group_of, group_text, grouped, is_same, line_of}
use Rattle.ut_groups.specs.Inner.Open.{due_behind, due_of, ending, group_held, left_of, opening}
use Rattle.ut_groups.proofs.CountingLemmas.{saturated-more, saturated-self}

-- lines that are the same are so to every other line
pub same-compared : (skip : Skip) (one other : List ℕ) → is_same skip one other ≡ true → compared skip one ≡ compared skip other
same-compared skip one other same = (bytes_eq-Decides (compared skip one) (compared skip other)).0 same

pub same-others : (skip : Skip) (one other third : List ℕ) → is_same skip one other ≡ true → is_same skip one third ≡ is_same skip other third
same-others skip one other third same = ap (λ seen. bytes_eq seen (compared skip third)) (same-compared skip one other same)

-- counts that are printed alike
both-tests : (one other : Bool) → (one ≡ true → other ≡ true) → (other ≡ true → one ≡ true) → one ≡ other
both-tests true true there back = refl
both-tests true false there back = sym (there refl)
both-tests false true there back = back refl
both-tests false false there back = refl

above-alike : (one other : ℕ) → saturated one ≡ saturated other → nat_lt 1 one ≡ nat_lt 1 other
above-alike one other same =
    both-tests (nat_lt 1 one) (nat_lt 1 other)
    (λ is. lt-ltb 1 other (let above = ltb-true 1 one is in omega arith))
    (λ is. lt-ltb 1 one (let above = ltb-true 1 other is in omega arith))

single-alike : (one other : ℕ) → saturated one ≡ saturated other → (one == 1) ≡ (other == 1)
single-alike one other same =
    both-tests (one == 1) (other == 1)
    (λ is. eq-eqb other 1 (let single = eqb-true one 1 is in omega arith))
    (λ is. eq-eqb one 1 (let single = eqb-true other 1 is in omega arith))

pub text-alike : (groups : Groups) (first : List ℕ) (one other : ℕ) → saturated one ≡ saturated other
    → group_text groups (group_held first one) ≡ group_text groups (group_held first other)
text-alike groups.All first one other same = refl
text-alike groups.Counted first one other same = ap (λ count. decimal count ++ 32 ∷ line_of first) same
text-alike groups.Repeated first one other same = ap (λ test. if test then line_of first else []) (above-alike one other same)
text-alike groups.Single first one other same = ap (λ test. if test then line_of first else []) (single-alike one other same)

ending-alike : (groups : Groups) (first : List ℕ) (one other : ℕ) → saturated one ≡ saturated other
    → ending groups (group_held first one) ≡ ending groups (group_held first other)
ending-alike groups.All first one other same = refl
ending-alike groups.Counted first one other same = text-alike groups.Counted first one other same
ending-alike groups.Repeated first one other same = text-alike groups.Repeated first one other same
ending-alike groups.Single first one other same = text-alike groups.Single first one other same

-- what is written for a group, as it comes and as it has ended
text-parts : (groups : Groups) (group : Group) → group_text groups group ≡ opening groups group.first ++ ending groups group
text-parts groups.All group = sym (append-nil (line_of group.first))
text-parts groups.Counted group = refl
text-parts groups.Repeated group = refl
text-parts groups.Single group = refl

left-alike : (groups : Groups) (first : List ℕ) (one other : ℕ) (others : List Group) → saturated one ≡ saturated other
    → left_of groups (group_held first one ∷ others) ≡ left_of groups (group_held first other ∷ others)
left-alike groups first one other others same = ap (λ text. text ++ flat_map (group_text groups) others) (ending-alike groups first one other same)

-- a line that is the same as those of the open group
module _ (skip : Skip) (groups : Groups) (group next : Group) where
  abbrev more : Group
  more = group_held group.first (saturated (group.count + next.count))

  pub left-same : is_same skip group.first next.first ≡ true → (coming : List Group)
      → left_of groups (before_groups skip more coming) ≡ left_of groups (before_groups skip group (before_groups skip next coming))
  left-same same [] =
      left-alike groups group.first (saturated (group.count + next.count)) (group.count + next.count) [] (saturated-self (group.count + next.count))
      ∙ ap (left_of groups) (sym (cond-true (is_same skip group.first next.first) (group_held group.first (group.count + next.count) ∷ []) (group ∷ next ∷ []) same))
  left-same same (third ∷ others) = by_third (is_same skip next.first third.first) refl
    where
      by_third : (test : Bool) → is_same skip next.first third.first ≡ test
          → left_of groups (before_groups skip more (third ∷ others)) ≡ left_of groups (before_groups skip group (before_groups skip next (third ∷ others)))
      by_third true is =
          ap (left_of groups) (cond-true (is_same skip group.first third.first) (group_held group.first (saturated (group.count + next.count) + third.count) ∷ others) (more ∷ third ∷ others) (same-others skip group.first next.first third.first same ∙ is))
          ∙ left-alike groups group.first (saturated (group.count + next.count) + third.count) (group.count + (next.count + third.count)) others
          (saturated-more (group.count + next.count) third.count ∙ ap saturated (omega arith))
          ∙ ap (left_of groups) (sym (cond-true (is_same skip group.first next.first) (group_held group.first (group.count + (next.count + third.count)) ∷ others) (group ∷ group_held next.first (next.count + third.count) ∷ others) same))
          ∙ ap (λ behind. left_of groups (before_groups skip group behind)) (sym (cond-true (is_same skip next.first third.first) (group_held next.first (next.count + third.count) ∷ others) (next ∷ third ∷ others) is))
      by_third false is =
          ap (left_of groups) (cond-false (is_same skip group.first third.first) (group_held group.first (saturated (group.count + next.count) + third.count) ∷ others) (more ∷ third ∷ others) (same-others skip group.first next.first third.first same ∙ is))
          ∙ left-alike groups group.first (saturated (group.count + next.count)) (group.count + next.count) (third ∷ others) (saturated-self (group.count + next.count))
          ∙ ap (left_of groups) (sym (cond-true (is_same skip group.first next.first) (group_held group.first (group.count + next.count) ∷ third ∷ others) (group ∷ next ∷ third ∷ others) same))
          ∙ ap (λ behind. left_of groups (before_groups skip group behind)) (sym (cond-false (is_same skip next.first third.first) (group_held next.first (next.count + third.count) ∷ others) (next ∷ third ∷ others) is))

  -- and one that isn't: the open group has ended
  ended : (count : ℕ) (others : List Group) → is_same skip group.first next.first ≡ false
      → left_of groups (before_groups skip group (group_held next.first count ∷ others))
      ≡ (ending groups group ++ opening groups next.first) ++ left_of groups (group_held next.first count ∷ others)
  ended count others other =
      ap (left_of groups) (cond-false (is_same skip group.first next.first) (group_held group.first (group.count + count) ∷ others) (group ∷ group_held next.first count ∷ others) other)
      ∙ ap (λ text. ending groups group ++ (text ++ flat_map (group_text groups) others)) (text-parts groups (group_held next.first count))
      ∙ ap (λ text. ending groups group ++ text) (append_assoc (opening groups next.first) (ending groups (group_held next.first count)) (flat_map (group_text groups) others))
      ∙ sym (append_assoc (ending groups group) (opening groups next.first) (left_of groups (group_held next.first count ∷ others)))

  pub left-other : is_same skip group.first next.first ≡ false → (coming : List Group)
      → left_of groups (before_groups skip group (before_groups skip next coming))
      ≡ (ending groups group ++ opening groups next.first) ++ left_of groups (before_groups skip next coming)
  left-other other [] = ended next.count [] other
  left-other other (third ∷ others) = by_third (is_same skip next.first third.first)
    where
      by_third : (test : Bool)
          → left_of groups (before_groups skip group (if test then group_held next.first (next.count + third.count) ∷ others else next ∷ third ∷ others))
          ≡ (ending groups group ++ opening groups next.first) ++ left_of groups (if test then group_held next.first (next.count + third.count) ∷ others else next ∷ third ∷ others)
      by_third true = ended (next.count + third.count) others other
      by_third false = ended next.count (third ∷ others) other

-- the first line opens a group
pub left-first : (skip : Skip) (groups : Groups) (group : Group) (coming : List Group)
    → flat_map (group_text groups) (before_groups skip group coming) ≡ opening groups group.first ++ left_of groups (before_groups skip group coming)
left-first skip groups group [] =
    ap (λ text. text ++ []) (text-parts groups group) ∙ append_assoc (opening groups group.first) (ending groups group) []
left-first skip groups group (next ∷ others) = by_next (is_same skip group.first next.first)
  where
    first-text : (count : ℕ) (others : List Group) → flat_map (group_text groups) (group_held group.first count ∷ others) ≡ opening groups group.first ++ left_of groups (group_held group.first count ∷ others)
    first-text count others =
        ap (λ text. text ++ flat_map (group_text groups) others) (text-parts groups (group_held group.first count))
        ∙ append_assoc (opening groups group.first) (ending groups (group_held group.first count)) (flat_map (group_text groups) others)

    by_next : (test : Bool)
        → flat_map (group_text groups) (if test then group_held group.first (group.count + next.count) ∷ others else group ∷ next ∷ others)
        ≡ opening groups group.first ++ left_of groups (if test then group_held group.first (group.count + next.count) ∷ others else group ∷ next ∷ others)
    by_next true = first-text (group.count + next.count) others
    by_next false = first-text group.count (next ∷ others)

-- a line is passed: one that is the same, and one that isn't
module _ (grouping : Grouping) (group next : Group) (line : List ℕ) (is : next ≡ group_of grouping.form line) where
  due-same : is_same grouping.skip group.first next.first ≡ true → (count : ℕ) → count ≡ saturated (group.count + next.count) → (more : List (List ℕ))
      → due_behind grouping (group_held group.first count) more ≡ due_behind grouping group (line ∷ more)
  due-same same count sum more =
      ap (λ count. due_behind grouping (group_held group.first count) more) sum
      ∙ left-same grouping.skip grouping.groups group next same (grouped grouping.skip (map (group_of grouping.form) more))
      ∙ ap (λ next. left_of grouping.groups (before_groups grouping.skip group (before_groups grouping.skip next (grouped grouping.skip (map (group_of grouping.form) more))))) is

  due-other : is_same grouping.skip group.first next.first ≡ false → (more : List (List ℕ))
      → due_behind grouping group (line ∷ more) ≡ (ending grouping.groups group ++ opening grouping.groups next.first) ++ due_behind grouping next more
  due-other other more =
      ap (λ next. left_of grouping.groups (before_groups grouping.skip group (before_groups grouping.skip next (grouped grouping.skip (map (group_of grouping.form) more))))) (sym is)
      ∙ left-other grouping.skip grouping.groups group next other (grouped grouping.skip (map (group_of grouping.form) more))

  pub passed-same : is_same grouping.skip group.first next.first ≡ true → (count : ℕ) → count ≡ saturated (group.count + next.count) → (old : List ℕ)
      → Wrote (λ more. due_behind grouping group (line ∷ more)) (due_behind grouping (group_held group.first count)) old old true
  passed-same same count sum old =
      Wrote-same (λ more. due_behind grouping group (line ∷ more)) (due_behind grouping (group_held group.first count)) old true (λ ok more. due-same same count sum more)

  pub passed-other : is_same grouping.skip group.first next.first ≡ false → (now : Group) (old new : List ℕ) (whole : Bool) → now ≡ next
      → Put (ending grouping.groups group ++ opening grouping.groups next.first) old new whole
      → Wrote (λ more. due_behind grouping group (line ∷ more)) (due_behind grouping now) old new whole
  passed-other other now old new whole same put =
      Wrote-put (λ more. due_behind grouping group (line ∷ more)) (due_behind grouping now) (ending grouping.groups group ++ opening grouping.groups next.first) old new whole
      (λ more. due-other other more ∙ ap (λ now. (ending grouping.groups group ++ opening grouping.groups next.first) ++ due_behind grouping now more) (sym same)) put

-- the first line opens a group
pub due-first : (grouping : Grouping) (group next : Group) (line : List ℕ) → next ≡ group_of grouping.form line → (more : List (List ℕ))
    → due_of grouping false group (line ∷ more) ≡ opening grouping.groups next.first ++ due_behind grouping next more
due-first grouping group next line is more =
    ap (λ next. flat_map (group_text grouping.groups) (before_groups grouping.skip next (grouped grouping.skip (map (group_of grouping.form) more)))) (sym is)
    ∙ left-first grouping.skip grouping.groups next (grouped grouping.skip (map (group_of grouping.form) more))

-- a group is kept, and so is what is due behind it
pub kept-due : (grouping grouping' : Grouping) (is_open : Bool) (group kept : Group) (more : List (List ℕ)) → grouping' ≡ grouping → is_open ≡ true → kept ≡ group
    → due_of grouping' is_open kept more ≡ due_behind grouping group more
kept-due grouping grouping' is_open group kept more same opened is =
    ap (λ grouping. due_of grouping is_open kept more) same ∙ ap (λ is_open. due_of grouping is_open kept more) opened ∙ ap (λ kept. due_behind grouping kept more) is

pub Wrote-kept : (was : List (List ℕ) → List ℕ) (grouping grouping' : Grouping) (group kept : Group) (is_open : Bool) (old new : List ℕ) (whole : Bool)
    → Wrote was (due_behind grouping group) old new true → grouping' ≡ grouping → (whole ≡ true → is_open ≡ true) → (whole ≡ true → kept ≡ group)
    → Wrote was (λ more. due_of grouping' is_open kept more) old new whole
Wrote-kept was grouping grouping' group kept is_open old new whole wrote same opened is =
    Wrote-trans was (due_behind grouping group) (λ more. due_of grouping' is_open kept more) old new new whole wrote
    (Wrote-same (due_behind grouping group) (λ more. due_of grouping' is_open kept more) new whole
    (λ ok more. kept-due grouping grouping' is_open group kept more same (opened ok) (is ok)))

-- a group that is open, by its first line wherever that is held
pub Wrote-opened : (grouping : Grouping) (is_open : Bool) (first first' : List ℕ) (count : ℕ) (coming : List (List ℕ) → List (List ℕ)) (now : List (List ℕ) → List ℕ)
    (old new : List ℕ) (whole : Bool) → is_open ≡ true → first' ≡ first
    → Wrote (λ more. due_behind grouping (group_held first' count) (coming more)) now old new whole
    → Wrote (λ more. due_of grouping is_open (group_held first count) (coming more)) now old new whole
Wrote-opened grouping is_open first first' count coming now old new whole opened same wrote =
    Wrote-at (λ more. due_behind grouping (group_held first' count) (coming more)) (λ more. due_of grouping is_open (group_held first count) (coming more)) now now old new whole
    (λ more. ap (λ is_open. due_of grouping is_open (group_held first count) (coming more)) opened
    ∙ ap (λ first. due_behind grouping (group_held first count) (coming more)) (sym same)) (λ more. refl) wrote

-- and a first line that opens one
pub Wrote-begun : (grouping : Grouping) (is_open : Bool) (group next : Group) (line old new : List ℕ) (whole : Bool) → is_open ≡ false → next ≡ group_of grouping.form line
    → Put (opening grouping.groups next.first) old new whole
    → Wrote (λ more. due_of grouping is_open group (line ∷ more)) (due_behind grouping next) old new whole
Wrote-begun grouping is_open group next line old new whole closed is put =
    Wrote-put (λ more. due_of grouping is_open group (line ∷ more)) (due_behind grouping next) (opening grouping.groups next.first) old new whole
    (λ more. ap (λ is_open. due_of grouping is_open group (line ∷ more)) closed ∙ due-first grouping group next line is more) put
