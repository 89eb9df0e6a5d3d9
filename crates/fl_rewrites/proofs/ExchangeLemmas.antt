-- Nodes that go, and others that come in the place of some behind them: the edges are still given once, taken once, and by a later node.
use Rattle.std.proofs.Common.{◌≡◌, ℕ, ◌+◌, ◌<◌, ◌≤◌, ◌==◌, List, [], ◌∷◌, ◌++◌, Bool, true, false, refl, ap, sym, ◌∙◌, arith, ⊎_elim, ◌⊎◌, inl, inr}
use Rattle.std.specs.List.{flat_map}
use Rattle.std.proofs.lemmas.Bool.{true≢false, and_parts, and_from, cases_lt, false_from_ne_true}
use Rattle.std.proofs.lemmas.Grind.{flat_map-append}
use Rattle.fl_graph.specs.Net.{has, count, takes, gives}
use Rattle.fl_graph.specs.Checks.{takes_given, each_after}
use Rattle.fl_graph.specs.declared.graphs.Cell.{Cell}
use Rattle.fl_graph.proofs.ListLemmas.{holds-has, all-has, count-append, count-has, count-none}
use Rattle.fl_graph.proofs.NetLemmas.{has-front, has-back}
use Rattle.fl_rewrites.proofs.OrderLemmas.{OfAll, IsWired, absent-count, present-count}
use Rattle.fl_rewrites.proofs.SpliceLemmas.{after-front, gives-behind, has-either}

-- nodes which take edges that are known, or that an earlier one among them gives
abbrev pub Follows : {Kind : Type 0} → (ℕ → Type 0) → List (Cell Kind) → Type 0
Follows known [] = Unit {0}
Follows known (cell ∷ cells) = OfAll known cell.ins × Follows (λ edge. known edge ⊎ (has edge cell.outs ≡ true)) cells

module _ {Kind : Type 0} where
  pub follows-more : (known more : ℕ → Type 0) → ((edge : ℕ) → known edge → more edge) → (cells : List (Cell Kind)) → Follows known cells → Follows more cells
  follows-more known more wider [] follows = tt
  follows-more known more wider (cell ∷ cells) follows = (
    λ edge there. wider edge (follows.0 edge there),
    follows-more (λ edge. known edge ⊎ (has edge cell.outs ≡ true)) (λ edge. more edge ⊎ (has edge cell.outs ≡ true))
        (λ edge is. ⊎_elim (λ (old : known edge). inl (wider edge old)) (λ (own : has edge cell.outs ≡ true). inr own) is) cells follows.1,
  )

  pub follows-append : (known : ℕ → Type 0) (front back : List (Cell Kind)) → Follows known front → Follows (λ edge. known edge ⊎ (has edge (gives front) ≡ true)) back → Follows known (front ++ back)
  follows-append known [] back first second =
      follows-more (λ edge. known edge ⊎ (has edge [] ≡ true)) known
      (λ edge is. ⊎_elim (λ (old : known edge). old) (λ (none : has edge [] ≡ true). absurd (true≢false (sym none))) is) back second
  follows-append known (cell ∷ front) back first second = (
    first.0,
    follows-append (λ edge. known edge ⊎ (has edge cell.outs ≡ true)) front back first.1
        (follows-more (λ edge. known edge ⊎ (has edge (cell.outs ++ gives front) ≡ true)) (λ edge. (known edge ⊎ (has edge cell.outs ≡ true)) ⊎ (has edge (gives front) ≡ true))
        (λ edge is. ⊎_elim (λ (old : known edge). inl (inl old))
        (λ (there : has edge (cell.outs ++ gives front) ≡ true).
        ⊎_elim (λ (own : has edge cell.outs ≡ true). inl (inr own)) (λ (later : has edge (gives front) ≡ true). inr later) (has-either edge cell.outs (gives front) there)) is)
        back second),
  )

  pub follows-given : (known : ℕ → Type 0) (before cells : List (Cell Kind)) → ((edge : ℕ) → known edge → has edge (gives before) ≡ true) → Follows known cells
      → each_after takes_given before cells ≡ true
  follows-given known before [] within follows = refl
  follows-given known before (cell ∷ cells) within follows =
      and_from (takes_given before cell) (each_after takes_given (before ++ cell ∷ []) cells)
      (all-has (λ edge. has edge (gives before)) cell.ins (λ edge there. within edge (follows.0 edge there)))
      (follows-given (λ edge. known edge ⊎ (has edge cell.outs ≡ true)) (before ++ cell ∷ []) cells (λ edge is.
      ap (has edge) (gives-behind before cell)
      ∙ ⊎_elim (λ (old : known edge). has-front edge (gives before) cell.outs (within edge old)) (λ (own : has edge cell.outs ≡ true). has-back edge (gives before) cell.outs own) is)
      follows.1)

  -- where what they take is given by others, nodes still take what is
  pub later-among : (before others cells : List (Cell Kind))
      → ((edge : ℕ) → has edge (takes cells) ≡ true → has edge (gives before) ≡ true → has edge (gives others) ≡ true)
      → each_after takes_given before cells ≡ true → each_after takes_given others cells ≡ true
  later-among before others [] more later = refl
  later-among before others (cell ∷ cells) more later =
      let parts = and_parts (takes_given before cell) (each_after takes_given (before ++ cell ∷ []) cells) later in
      and_from (takes_given others cell) (each_after takes_given (others ++ cell ∷ []) cells)
      (all-has (λ edge. has edge (gives others)) cell.ins (λ edge there.
      more edge (has-front edge cell.ins (takes cells) there) (holds-has (λ edge. has edge (gives before)) edge cell.ins parts.0 there)))
      (later-among (before ++ cell ∷ []) (others ++ cell ∷ []) cells (λ edge taken there.
      behind edge (more edge (has-back edge cell.ins (takes cells) taken)) (ap (has edge) (sym (gives-behind before cell)) ∙ there)) parts.1)
    where
      behind : (edge : ℕ) → (has edge (gives before) ≡ true → has edge (gives others) ≡ true) → has edge (gives before ++ cell.outs) ≡ true → has edge (gives (others ++ cell ∷ [])) ≡ true
      behind edge kept there =
          ap (has edge) (gives-behind others cell)
          ∙ ⊎_elim (λ (here : has edge (gives before) ≡ true). has-front edge (gives others) cell.outs (kept here))
          (λ (here : has edge cell.outs ≡ true). has-back edge (gives others) cell.outs here)
          (has-either edge (gives before) cell.outs there)

-- the nodes before an exchange, and behind it: some go, others stay, and new ones come in the place of old ones
abbrev pub was : {Kind : Type 0} → List (Cell Kind) → List (Cell Kind) → List (Cell Kind) → List (Cell Kind) → List (Cell Kind) → List (Cell Kind)
was front gone middle olds back = front ++ (gone ++ (middle ++ (olds ++ back)))

abbrev pub becomes : {Kind : Type 0} → List (Cell Kind) → List (Cell Kind) → List (Cell Kind) → List (Cell Kind) → List (Cell Kind)
becomes front middle news back = front ++ (middle ++ (news ++ back))

-- the new nodes take and give what the old ones and those that went did, but for edges among these (`inner`), and edges of their own (`fresh`)
pub record Rewires {Kind : Type 0} (gone olds news : List (Cell Kind)) (next : ℕ) : Type 0 where
  pub inner : List ℕ
  pub fresh : List ℕ
  pub takes_same : (edge : ℕ) → count edge (takes news) + count edge inner ≡ (count edge (takes gone) + count edge (takes olds)) + count edge fresh
  pub gives_same : (edge : ℕ) → count edge (gives news) + count edge inner ≡ (count edge (gives gone) + count edge (gives olds)) + count edge fresh
  -- the edges of their own have numbers from `next` on, each its own
  pub high : (edge : ℕ) → edge < next → count edge fresh ≡ 0
  pub single : (edge : ℕ) → count edge fresh ≤ 1
  -- what those that went gave was taken by the old nodes alone
  pub joins : (edge : ℕ) → count edge (gives gone) ≤ count edge inner
  pub taken : (edge : ℕ) → count edge inner ≤ count edge (takes olds)

module _ {Kind : Type 0} where
  parts-count : (pick : Cell Kind → List ℕ) (edge : ℕ) (front back : List (Cell Kind)) → count edge (flat_map pick (front ++ back)) ≡ count edge (flat_map pick front) + count edge (flat_map pick back)
  parts-count pick edge front back = ap (count edge) (flat_map-append pick front back) ∙ count-append edge (flat_map pick front) (flat_map pick back)

  module _ (front gone middle olds news back : List (Cell Kind)) where
    was-count : (pick : Cell Kind → List ℕ) (edge : ℕ) → count edge (flat_map pick (was front gone middle olds back))
        ≡ count edge (flat_map pick front) + (count edge (flat_map pick gone) + (count edge (flat_map pick middle) + (count edge (flat_map pick olds) + count edge (flat_map pick back))))
    was-count pick edge =
        let one = parts-count pick edge front (gone ++ (middle ++ (olds ++ back))) in
        let two = parts-count pick edge gone (middle ++ (olds ++ back)) in
        let three = parts-count pick edge middle (olds ++ back) in
        let four = parts-count pick edge olds back in omega (arith, one, two, three, four)

    becomes-count : (pick : Cell Kind → List ℕ) (edge : ℕ) → count edge (flat_map pick (becomes front middle news back))
        ≡ count edge (flat_map pick front) + (count edge (flat_map pick middle) + (count edge (flat_map pick news) + count edge (flat_map pick back)))
    becomes-count pick edge =
        let one = parts-count pick edge front (middle ++ (news ++ back)) in
        let two = parts-count pick edge middle (news ++ back) in
        let three = parts-count pick edge news back in omega (arith, one, two, three)

    module _ (next : ℕ) (wired : IsWired (was front gone middle olds back)) (rewires : Rewires gone olds news next) where
      -- nodes that stay take no edge of those that go
      pub outer-count : (edge : ℕ) → 1 ≤ count edge (takes front) + (count edge (takes middle) + count edge (takes back))
          → (count edge rewires.inner ≡ 0) × (count edge (gives gone) ≡ 0)
      outer-count edge some =
          let all_takes = was-count (λ cell. cell.ins) edge in
          let once = wired.once edge in
          let same = wired.taken edge in
          let among = rewires.taken edge in
          let joins = rewires.joins edge in
          let none : count edge rewires.inner ≡ 0 = omega (arith, some, all_takes, once, same, among) in
          (none, omega (arith, none, joins))

      some-front : (edge : ℕ) → has edge (takes front) ≡ true → 1 ≤ count edge (takes front) + (count edge (takes middle) + count edge (takes back))
      some-front edge there = let some = count-has edge (takes front) there in omega (arith, some)

      some-middle : (edge : ℕ) → has edge (takes middle) ≡ true → 1 ≤ count edge (takes front) + (count edge (takes middle) + count edge (takes back))
      some-middle edge there = let some = count-has edge (takes middle) there in omega (arith, some)

      some-back : (edge : ℕ) → has edge (takes back) ≡ true → 1 ≤ count edge (takes front) + (count edge (takes middle) + count edge (takes back))
      some-back edge there = let some = count-has edge (takes back) there in omega (arith, some)

      pub outer-front : OfAll (λ edge. has edge (gives gone) ≡ false) (takes front)
      outer-front edge there = absent-count edge (gives gone) (outer-count edge (some-front edge there)).1

      pub outer-middle : OfAll (λ edge. has edge (gives gone) ≡ false) (takes middle)
      outer-middle edge there = absent-count edge (gives gone) (outer-count edge (some-middle edge there)).1

      pub outer-back : OfAll (λ edge. has edge (gives gone) ≡ false) (takes back)
      outer-back edge there = absent-count edge (gives gone) (outer-count edge (some-back edge there)).1

      once_new : ((edge : ℕ) → has edge (gives (was front gone middle olds back)) ≡ true → edge < next) → (edge : ℕ) → count edge (gives (becomes front middle news back)) ≤ 1
      once_new below edge =
          let old = was-count (λ cell. cell.outs) edge in
          let new = becomes-count (λ cell. cell.outs) edge in
          let same = rewires.gives_same edge in
          let once = wired.once edge in
          ⊎_elim (λ (low : edge < next). let none = rewires.high edge low in omega (arith, old, new, same, once, none))
          (λ (high : next ≤ edge).
          let absent = false_from_ne_true (has edge (gives (was front gone middle olds back))) (λ there. let low = below edge there in omega (arith, low, high)) in
          let none = count-none edge (gives (was front gone middle olds back)) absent in
          let single = rewires.single edge in omega (arith, old, new, same, none, single))
          (cases_lt edge next)

      taken_new : (edge : ℕ) → count edge (takes (becomes front middle news back)) ≡ count edge (gives (becomes front middle news back))
      taken_new edge =
          let old_gives = was-count (λ cell. cell.outs) edge in
          let new_gives = becomes-count (λ cell. cell.outs) edge in
          let old_takes = was-count (λ cell. cell.ins) edge in
          let new_takes = becomes-count (λ cell. cell.ins) edge in
          let same_gives = rewires.gives_same edge in
          let same_takes = rewires.takes_same edge in
          let taken = wired.taken edge in omega (arith, old_gives, new_gives, old_takes, new_takes, same_gives, same_takes, taken)

      -- the order of the nodes, part by part
      pub record InParts : Type 0 where
        pub front_holds : each_after takes_given [] front ≡ true
        pub middle_holds : each_after takes_given (front ++ gone) middle ≡ true
        pub behind_holds : each_after takes_given (front ++ gone) (middle ++ (olds ++ back)) ≡ true
        pub back_holds : each_after takes_given (((front ++ gone) ++ middle) ++ olds) back ≡ true

      pub in-parts : InParts
      in-parts =
          let one = and_parts (each_after takes_given [] front) (each_after takes_given front (gone ++ (middle ++ (olds ++ back))))
          (sym (after-front takes_given [] front (gone ++ (middle ++ (olds ++ back)))) ∙ wired.later) in
          let two = and_parts (each_after takes_given front gone) (each_after takes_given (front ++ gone) (middle ++ (olds ++ back)))
          (sym (after-front takes_given front gone (middle ++ (olds ++ back))) ∙ one.1) in
          let three = and_parts (each_after takes_given (front ++ gone) middle) (each_after takes_given ((front ++ gone) ++ middle) (olds ++ back))
          (sym (after-front takes_given (front ++ gone) middle (olds ++ back)) ∙ two.1) in
          let four = and_parts (each_after takes_given ((front ++ gone) ++ middle) olds) (each_after takes_given (((front ++ gone) ++ middle) ++ olds) back)
          (sym (after-front takes_given ((front ++ gone) ++ middle) olds back) ∙ three.1) in
          record { front_holds = one.0; middle_holds = three.0; behind_holds = two.1; back_holds = four.1 }

      given-still : (edge : ℕ) → has edge (takes back) ≡ true → has edge (gives (((front ++ gone) ++ middle) ++ olds)) ≡ true → has edge (gives ((front ++ middle) ++ news)) ≡ true
      given-still edge taken there =
          let some = count-has edge (gives (((front ++ gone) ++ middle) ++ olds)) there in
          let one = parts-count (λ cell. cell.outs) edge ((front ++ gone) ++ middle) olds in
          let two = parts-count (λ cell. cell.outs) edge (front ++ gone) middle in
          let three = parts-count (λ cell. cell.outs) edge front gone in
          let four = parts-count (λ cell. cell.outs) edge (front ++ middle) news in
          let five = parts-count (λ cell. cell.outs) edge front middle in
          let same = rewires.gives_same edge in
          let none = (outer-count edge (some-back edge taken)).0 in
          present-count edge (gives ((front ++ middle) ++ news)) (omega (arith, some, one, two, three, four, five, same, none))

      later_new : Follows (λ edge. has edge (gives front) ≡ true) news → each_after takes_given [] (becomes front middle news back) ≡ true
      later_new follows =
          let parts = in-parts in
          let middles : each_after takes_given front middle ≡ true =
          later-among (front ++ gone) front middle (λ edge taken there.
          ⊎_elim (λ (first : has edge (gives front) ≡ true). first) (λ (own : has edge (gives gone) ≡ true). absurd (true≢false (sym own ∙ outer-middle edge taken)))
          (has-either edge (gives front) (gives gone) (ap (has edge) (sym (flat_map-append (λ (cell : Cell Kind). cell.outs) front gone)) ∙ there)))
          parts.middle_holds in
          let comes : each_after takes_given (front ++ middle) news ≡ true =
          follows-given (λ edge. has edge (gives front) ≡ true) (front ++ middle) news (λ edge there.
          ap (has edge) (flat_map-append (λ (cell : Cell Kind). cell.outs) front middle) ∙ has-front edge (gives front) (gives middle) there) follows in
          let backs : each_after takes_given ((front ++ middle) ++ news) back ≡ true =
          later-among (((front ++ gone) ++ middle) ++ olds) ((front ++ middle) ++ news) back given-still parts.back_holds in
          after-front takes_given [] front (middle ++ (news ++ back))
          ∙ and_from (each_after takes_given [] front) (each_after takes_given front (middle ++ (news ++ back))) parts.front_holds
          (after-front takes_given front middle (news ++ back)
          ∙ and_from (each_after takes_given front middle) (each_after takes_given (front ++ middle) (news ++ back)) middles
          (after-front takes_given (front ++ middle) news back
          ∙ and_from (each_after takes_given (front ++ middle) news) (each_after takes_given ((front ++ middle) ++ news) back) comes backs))

      pub wired-exchange : ((edge : ℕ) → has edge (gives (was front gone middle olds back)) ≡ true → edge < next) → Follows (λ edge. has edge (gives front) ≡ true) news
          → IsWired (becomes front middle news back)
      wired-exchange below follows = record { once = once_new below; taken = taken_new; later = later_new follows }
