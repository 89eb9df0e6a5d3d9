-- A split and a Cat before a node: the edges are still given once, taken once, and by a later node.
use Rattle.std.proofs.Common.{◌≡◌, ℕ, ◌+◌, ◌<◌, ◌≤◌, ◌==◌, List, [], ◌∷◌, ◌++◌, Bool, true, false, if◌then◌else◌, map, refl, ap, sym, ◌∙◌, arith, eq-eqb, ⊎_elim}
use Rattle.std.specs.List.{range_with_len}
use Rattle.std.proofs.lemmas.Bool.{and_parts, and_from, eqb-true, cases_lt, or_left, false_from_ne_true}
use Rattle.std.proofs.lemmas.Grind.{flat_map-append}
use Rattle.fl_graph.specs.Net.{has, count, takes, gives}
use Rattle.fl_graph.specs.Checks.{takes_given, each_after}
use Rattle.fl_graph.specs.declared.graphs.Cell.{Cell}
use Rattle.fl_graph.specs.declared.kinds.NodeKind.{NodeKind}
use Rattle.fl_graph.proofs.ListLemmas.{holds-has, all-has, count-append, count-has, count-none}
use Rattle.fl_graph.proofs.NetLemmas.{has-front, has-back}
use Rattle.fl_rewrites.proofs.OrderLemmas.{IsWired}
use Rattle.fl_rewrites.proofs.NumberLemmas.{of-mapped}
use Rattle.fl_rewrites.proofs.SpliceLemmas.{after-front, gives-behind, has-either, later-more, count-fresh, count-low}
use Rattle.fl_split.specs.Inserting.{split_cell, join_cell, turned_cell, turned}
use Rattle.fl_split.proofs.KindLemmas.{put}

-- an edge in place of another
module _ (old new : ℕ) where
  turned-none : (ins : List ℕ) → count old ins ≡ 0 → map (turned old new) ins ≡ ins
  turned-none [] none = refl
  turned-none (first ∷ ins) none = by_test (first == old) none (turned-none ins)
    where
      by_test : (same : Bool) → (if same then 1 else 0) + count old ins ≡ 0 → (count old ins ≡ 0 → map (turned old new) ins ≡ ins)
          → (if same then new else first) ∷ map (turned old new) ins ≡ first ∷ ins
      by_test true none rest = absurd (omega (arith, none))
      by_test false none rest = ap (λ (others : List ℕ). first ∷ others) (rest (omega (arith, none)))

  -- where it stands once, there is one of the new in place of one of the old
  pub turned-count : (ins : List ℕ) (other : ℕ) → count old ins ≡ 1 → count other (map (turned old new) ins) + count other (old ∷ []) ≡ count other ins + count other (new ∷ [])
  turned-count [] other once = absurd (omega (arith, once))
  turned-count (first ∷ ins) other once = by_test (first == old) refl once (turned-none ins) (turned-count ins other)
    where
      by_test : (same : Bool) → (first == old) ≡ same → (if same then 1 else 0) + count old ins ≡ 1 → (count old ins ≡ 0 → map (turned old new) ins ≡ ins)
          → (count old ins ≡ 1 → count other (map (turned old new) ins) + count other (old ∷ []) ≡ count other ins + count other (new ∷ []))
          → count other ((if same then new else first) ∷ map (turned old new) ins) + count other (old ∷ []) ≡ count other (first ∷ ins) + count other (new ∷ [])
      by_test true is once none rest =
          let head : ◌≡◌ {A = ℕ} (if first == other then 1 else 0) (if old == other then 1 else 0) = ap (λ (edge : ℕ). if edge == other then 1 else 0) (eqb-true first old is) in
          let same : count other (map (turned old new) ins) ≡ count other ins = ap (count other) (none (omega (arith, once))) in
          omega (arith, head, same)
      by_test false is once none rest = let later = rest (omega (arith, once)) in omega (arith, later)

module _ (next edge parts : ℕ) (taker : Cell NodeKind) (front back : List (Cell NodeKind)) (wired : IsWired (front ++ (taker ∷ back)))
    (taken : has edge taker.ins ≡ true) (below : (other : ℕ) → has other (gives (front ++ (taker ∷ back))) ≡ true → other < next) where
  old_takes : (other : ℕ) → count other (takes (front ++ (taker ∷ back))) ≡ count other (takes front) + (count other taker.ins + count other (takes back))
  old_takes other =
      let whole = flat_map-append (λ (cell : Cell NodeKind). cell.ins) front (taker ∷ back) in
      let one = count-append other (takes front) (taker.ins ++ takes back) in
      let two = count-append other taker.ins (takes back) in
      ap (count other) whole ∙ one ∙ ap (λ (times : ℕ). count other (takes front) + times) two

  old_gives : (other : ℕ) → count other (gives (front ++ (taker ∷ back))) ≡ count other (gives front) + (count other taker.outs + count other (gives back))
  old_gives other =
      let whole = flat_map-append (λ (cell : Cell NodeKind). cell.outs) front (taker ∷ back) in
      let one = count-append other (gives front) (taker.outs ++ gives back) in
      let two = count-append other taker.outs (gives back) in
      ap (count other) whole ∙ one ∙ ap (λ (times : ℕ). count other (gives front) + times) two

  once_taken : count edge taker.ins ≡ 1
  once_taken =
      let some = count-has edge taker.ins taken in
      let all = old_takes edge in
      let given = wired.taken edge in
      let once = wired.once edge in omega (arith, some, all, given, once)

  new_gives : (other : ℕ) → count other (gives (front ++ put next edge parts taker back))
      ≡ count other (gives (front ++ (taker ∷ back))) + (count other (range_with_len next parts) + count other ((next + parts) ∷ []))
  new_gives other =
      let whole : count other (gives (front ++ put next edge parts taker back)) ≡ count other (gives front ++ (range_with_len next parts ++ (((next + parts) ∷ []) ++ (taker.outs ++ gives back)))) =
      ap (count other) (flat_map-append (λ (cell : Cell NodeKind). cell.outs) front (put next edge parts taker back)) in
      let one = count-append other (gives front) (range_with_len next parts ++ (((next + parts) ∷ []) ++ (taker.outs ++ gives back))) in
      let two = count-append other (range_with_len next parts) (((next + parts) ∷ []) ++ (taker.outs ++ gives back)) in
      let three = count-append other ((next + parts) ∷ []) (taker.outs ++ gives back) in
      let four = count-append other taker.outs (gives back) in
      let old = old_gives other in omega (arith, whole, one, two, three, four, old)

  new_takes : (other : ℕ) → count other (takes (front ++ put next edge parts taker back))
      ≡ count other (takes (front ++ (taker ∷ back))) + (count other (range_with_len next parts) + count other ((next + parts) ∷ []))
  new_takes other =
      let ins : List ℕ = map (turned edge (next + parts)) taker.ins in
      let whole : count other (takes (front ++ put next edge parts taker back)) ≡ count other (takes front ++ ((edge ∷ []) ++ (range_with_len next parts ++ (ins ++ takes back)))) =
      ap (count other) (flat_map-append (λ (cell : Cell NodeKind). cell.ins) front (put next edge parts taker back)) in
      let one = count-append other (takes front) ((edge ∷ []) ++ (range_with_len next parts ++ (ins ++ takes back))) in
      let two = count-append other (edge ∷ []) (range_with_len next parts ++ (ins ++ takes back)) in
      let three = count-append other (range_with_len next parts) (ins ++ takes back) in
      let four = count-append other ins (takes back) in
      let turn = turned-count edge (next + parts) taker.ins other once_taken in
      let old = old_takes other in omega (arith, whole, one, two, three, four, turn, old)

  once_new : (other : ℕ) → count other (gives (front ++ put next edge parts taker back)) ≤ 1
  once_new other =
      let all = new_gives other in
      ⊎_elim (λ (low : other < next). let none = count-low other next parts low in let once = wired.once other in omega (arith, all, none, once))
      (λ (high : next ≤ other).
      let absent = false_from_ne_true (has other (gives (front ++ (taker ∷ back)))) (λ there. let low = below other there in omega (arith, low, high)) in
      let none = count-none other (gives (front ++ (taker ∷ back))) absent in
      let fresh = count-fresh other next parts in omega (arith, all, none, fresh))
      (cases_lt other next)

  -- the order of the nodes
  later_new : each_after takes_given [] (front ++ put next edge parts taker back) ≡ true
  later_new =
      let split : Cell NodeKind = split_cell next edge parts taker.stage in
      let join : Cell NodeKind = join_cell next parts taker.stage in
      let last : Cell NodeKind = turned_cell edge (next + parts) taker in
      let before_join : List (Cell NodeKind) = front ++ split ∷ [] in
      let before_last : List (Cell NodeKind) = before_join ++ join ∷ [] in
      let parts_of = and_parts (each_after takes_given [] front) (each_after takes_given front (taker ∷ back)) (sym (after-front takes_given [] front (taker ∷ back)) ∙ wired.later) in
      let here = and_parts (takes_given front taker) (each_after takes_given (front ++ taker ∷ []) back) parts_of.1 in
      let splits : takes_given front split ≡ true =
      and_from (has edge (gives front)) true (holds-has (λ edge. has edge (gives front)) edge taker.ins here.0 taken) refl in
      let joins : takes_given before_join join ≡ true =
      all-has (λ edge. has edge (gives before_join)) (range_with_len next parts) (λ other there.
      ap (has other) (gives-behind front split) ∙ has-back other (gives front) (range_with_len next parts) there) in
      let lasts : takes_given before_last last ≡ true =
      all-has (λ edge. has edge (gives before_last)) last.ins (of-mapped (turned edge (next + parts)) (λ edge. has edge (gives before_last) ≡ true) taker.ins (λ other there.
      ap (has (turned edge (next + parts) other)) (gives-behind before_join join)
      ∙ by_test other (other == edge) (ap (has other) (gives-behind front split) ∙ has-front other (gives front) (range_with_len next parts) (holds-has (λ edge. has edge (gives front)) other taker.ins here.0 there)))) in
      let behind : each_after takes_given (before_last ++ last ∷ []) back ≡ true =
      later-more (front ++ taker ∷ []) (before_last ++ last ∷ []) back (λ other there.
      ap (has other) (gives-behind before_last last)
      ∙ ⊎_elim (λ (first : has other (gives front) ≡ true).
      has-front other (gives before_last) taker.outs (ap (has other) (gives-behind before_join join) ∙ has-front other (gives before_join) ((next + parts) ∷ [])
      (ap (has other) (gives-behind front split) ∙ has-front other (gives front) (range_with_len next parts) first)))
      (λ (own : has other taker.outs ≡ true). has-back other (gives before_last) taker.outs own)
      (has-either other (gives front) taker.outs (ap (has other) (sym (gives-behind front taker)) ∙ there))) here.1 in
      after-front takes_given [] front (put next edge parts taker back)
      ∙ and_from (each_after takes_given [] front) (each_after takes_given front (put next edge parts taker back)) parts_of.0
      (and_from (takes_given front split) (each_after takes_given before_join (join ∷ last ∷ back)) splits
      (and_from (takes_given before_join join) (each_after takes_given before_last (last ∷ back)) joins
      (and_from (takes_given before_last last) (each_after takes_given (before_last ++ last ∷ []) back) lasts behind)))
    where
      by_test : (other : ℕ) (same : Bool) → has other (gives (front ++ split_cell next edge parts taker.stage ∷ [])) ≡ true
          → has (if same then next + parts else other) (gives (front ++ split_cell next edge parts taker.stage ∷ []) ++ ((next + parts) ∷ [])) ≡ true
      by_test other true there =
          has-back (next + parts) (gives (front ++ split_cell next edge parts taker.stage ∷ [])) ((next + parts) ∷ [])
          (or_left ((next + parts) == (next + parts)) false (eq-eqb (next + parts) (next + parts) refl))
      by_test other false there = has-front other (gives (front ++ split_cell next edge parts taker.stage ∷ [])) ((next + parts) ∷ []) there

  pub wired-split : IsWired (front ++ put next edge parts taker back)
  wired-split =
      record {
        once = once_new;
        taken = λ other. (let takes_all = new_takes other in let gives_all = new_gives other in let old = wired.taken other in omega (arith, takes_all, gives_all, old));
        later = later_new;
      }
