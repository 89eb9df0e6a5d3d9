-- Nodes that are added one behind the other are drawn as one list of steps.
use Rattle.std.proofs.Common.{◌≡◌, ℕ, suc, ◌+◌, ◌-◌, ◌<◌, ◌≤◌, List, [], ◌∷◌, ◌++◌, Bool, false, length, get_or, take, drop, ap, sym, subst, ◌∙◌, append_assoc, length-append, arith, append-nil}
use Rattle.std.specs.Prelude.{Result, Ok, Err, OnOk}
use Rattle.std.proofs.lemmas.List.{take_all}
use Rattle.ps_world.specs.Paths.{Components}
use Rattle.ut_args.specs.declared.invocations.Inv.{Inv}
use Rattle.fl_graph.specs.declared.graphs.Cell.{Cell}
use Rattle.fl_graph.specs.declared.kinds.NodeKind.{NodeKind}
use Rattle.fl_graph.specs.declared.kinds.NodeKind.TheVariants as kind
use Rattle.fl_classes.specs.Parts.{slice}
use Rattle.fl_segments.specs.Groups.{group_start}
use Rattle.fl_segments.specs.Stages.{is_reader}
use Rattle.fl_segments.specs.Inner.Drawing.{Step, drawn, behind, step}
use Rattle.fl_segments.specs.Inner.Steps.{begins, beside_parts, beside_steps, cat_steps, chain_nodes, chain_rule, chain_steps, comes_behind, comes_cut, comes_from, does_nodes, done_next, done_parts, done_steps, drain_steps, earlier_steps, ends_from, files_parts, files_steps, first_parts, first_steps, front_edges, front_steps, goes_from, in_edges, in_steps, join_steps, joined_edges, last_steps, main_nodes, main_parts, main_steps, parts_on, read_edges, read_steps, Tree, Leaf, Join, half_of, joins_of, tree_edge, tree_over, tree_steps, finish_edge, finish_steps, fold_parts, fold_steps, folded_edge, folded_steps, mapped_parts, mapped_steps, spread_parts, spread_steps, stage_parts, stage_steps, group_steps, groups_from}
use Rattle.fl_segments.specs.declared.parts.Coming.{Coming}
use Rattle.fl_segments.specs.declared.parts.Parts.{Parts}
use Rattle.fl_segments.specs.declared.stages.Does.{Does}
use Rattle.fl_segments.specs.declared.stages.Does.TheVariants as does
use Rattle.fl_segments.specs.declared.stages.In.{In}
use Rattle.fl_segments.specs.declared.stages.Stage.{Stage}
use Rattle.fl_segments.proofs.DrawingLemmas.{behind-append, drawn-append}
use Rattle.fl_segments.proofs.StageLemmas.{drain-behind, over-few, over-halves, tree-behind}
use Rattle.fl_segments.proofs.StatusLemmas.{drawn-length}

pub on_ok : {Value Refused One Other : Type 0} (result : Result Value Refused) → OnOk result One → (One → Other) → OnOk result Other
on_ok (Ok value) is next = next is
on_ok (Err refused) is next = tt

-- one part behind the other
module _ (next : ℕ) (front back : List Step) where
  pub adds-append : (old mid new : List (Cell NodeKind)) (on : ℕ) → mid ≡ old ++ drawn next front → on ≡ behind next front → new ≡ mid ++ drawn on back → new ≡ old ++ drawn next (front ++ back)
  adds-append old mid new on mid_is on_is new_is =
      new_is ∙ ap (λ (before : List (Cell NodeKind)). before ++ drawn on back) mid_is
      ∙ ap (λ (from : ℕ). (old ++ drawn next front) ++ drawn from back) on_is
      ∙ append_assoc old (drawn next front) (drawn (behind next front) back) ∙ ap (λ (cells : List (Cell NodeKind)). old ++ cells) (sym (drawn-append next front back))

  pub next-append : (on last : ℕ) → on ≡ behind next front → last ≡ behind on back → last ≡ behind next (front ++ back)
  next-append on last on_is last_is = last_is ∙ ap (λ (from : ℕ). behind from back) on_is ∙ sym (behind-append next front back)

-- where the second part hangs on the number behind the first, and on what that gave
module _ {Given : Type 0} (next : ℕ) (front : List Step) (back : Given → ℕ → List Step) (given : Given) (on : ℕ) (gave : Given) (on_is : on ≡ behind next front) (gave_is : gave ≡ given) where
  same-back : back gave on ≡ back given (behind next front)
  same-back = ap (λ (it : Given). back it on) gave_is ∙ ap (back given) on_is

  pub adds-both : (old mid new : List (Cell NodeKind)) → mid ≡ old ++ drawn next front → new ≡ mid ++ drawn on (back gave on) → new ≡ old ++ drawn next (front ++ back given (behind next front))
  adds-both old mid new mid_is new_is =
      adds-append next front (back given (behind next front)) old mid new on mid_is on_is (new_is ∙ ap (λ (steps : List Step). mid ++ drawn on steps) same-back)

  pub next-both : (last : ℕ) → last ≡ behind on (back gave on) → last ≡ behind next (front ++ back given (behind next front))
  next-both last is = next-append next front (back given (behind next front)) on last on_is (is ∙ ap (behind on) same-back)

  pub gives-both : {Value : Type 0} (value : Given → ℕ → Value) (it : Value) → it ≡ value gave on → it ≡ value given (behind next front)
  gives-both value it is = is ∙ ap (λ (it : Given). value it on) gave_is ∙ ap (value given) on_is

-- how many nodes there are then
pub adds-count : (old new : List (Cell NodeKind)) (next : ℕ) (steps : List Step) → new ≡ old ++ drawn next steps → length new ≡ length old + length steps
adds-count old new next steps is = ap length is ∙ length-append old (drawn next steps) ∙ ap (λ (count : ℕ). length old + count) (drawn-length next steps)

-- WHAT A STAGE READS
module _ (number : ℕ) (comes : Coming) (stage : Stage) (next on : ℕ) (on_is : on ≡ next) where
  abbrev drain : List Step
  drain = drain_steps number comes (is_reader stage)

  abbrev reads : ℕ → List Step
  reads from = read_steps number comes stage.does stage.ins from

  on_behind : on ≡ behind next (drain_steps number comes (is_reader stage))
  on_behind = on_is ∙ sym (drain-behind number comes (is_reader stage) next)

  pub front-adds : (is_read : Bool) → is_read ≡ is_reader stage → (old mid new : List (Cell NodeKind)) → mid ≡ old ++ drawn next (drain_steps number comes is_read) → new ≡ mid ++ drawn on (read_steps number comes stage.does stage.ins on)
      → new ≡ old ++ drawn next (front_steps number comes stage next)
  front-adds is_read read_is old mid new mid_is new_is =
      adds-append next drain (reads next) old mid new on (mid_is ∙ ap (λ (is_read : Bool). old ++ drawn next (drain_steps number comes is_read)) read_is) on_behind (new_is ∙ ap (λ (from : ℕ). mid ++ drawn on (reads from)) on_is)

  pub front-next : (last : ℕ) → last ≡ behind on (read_steps number comes stage.does stage.ins on) → last ≡ behind next (front_steps number comes stage next)
  front-next last is = next-append next drain (reads next) on last on_behind (is ∙ ap (λ (from : ℕ). behind on (reads from)) on_is)

  pub front-takes : (edges : List ℕ) (cut : Bool) → cut ≡ comes_cut comes → edges ≡ read_edges number comes stage.does stage.ins on → parts_on edges cut ≡ parts_on (front_edges number comes stage next) (comes_cut comes)
  front-takes edges cut cut_is is =
      ap (λ (edges : List ℕ). parts_on edges cut) (is ∙ ap (read_edges number comes stage.does stage.ins) on_is) ∙ ap (parts_on (front_edges number comes stage next)) cut_is

module _ (number : ℕ) (comes : Coming) (inv : Inv) (ins : List In) (next on : ℕ) (edges : List ℕ) (leads : Bool) (on_is : on ≡ behind next (in_steps number comes ins)) (edges_are : edges ≡ in_edges number comes ins next) (leads_is : leads ≡ begins comes) where
  same-joins : join_steps number leads inv ins edges ≡ join_steps number (begins comes) inv ins (in_edges number comes ins next)
  same-joins = ap (λ (leads : Bool). join_steps number leads inv ins edges) leads_is ∙ ap (join_steps number (begins comes) inv ins) edges_are

  pub inputs-add : (old mid new : List (Cell NodeKind)) → mid ≡ old ++ drawn next (in_steps number comes ins) → new ≡ mid ++ drawn on (join_steps number leads inv ins edges)
      → new ≡ old ++ drawn next (read_steps number comes (does.Util inv) ins next)
  inputs-add old mid new mid_is new_is =
      adds-append next (in_steps number comes ins) (join_steps number (begins comes) inv ins (in_edges number comes ins next)) old mid new on mid_is on_is
      (new_is ∙ ap (λ (steps : List Step). mid ++ drawn on steps) same-joins)

  pub inputs-next : (last : ℕ) → last ≡ behind on (join_steps number leads inv ins edges) → last ≡ behind next (read_steps number comes (does.Util inv) ins next)
  inputs-next last is =
      next-append next (in_steps number comes ins) (join_steps number (begins comes) inv ins (in_edges number comes ins next)) on last on_is (is ∙ ap (behind on) same-joins)

  pub inputs-edges : (joined : List ℕ) → joined ≡ joined_edges leads inv ins edges on → joined ≡ read_edges number comes (does.Util inv) ins next
  inputs-edges joined is =
      is ∙ ap (λ (leads : Bool). joined_edges leads inv ins edges on) leads_is ∙ ap (λ (edges : List ℕ). joined_edges (begins comes) inv ins edges on) edges_are
      ∙ ap (joined_edges (begins comes) inv ins (in_edges number comes ins next)) on_is

-- THE TREE OF AGGREGATES
module _ (number : ℕ) (inv : Inv) (edges : List ℕ) (next : ℕ) where
  abbrev tree_so : List Step
  tree_so = tree_steps number inv (tree_over edges) next

  -- there is one edge at most
  module _ (few : length edges ≤ 1) where
    few-leaf : tree_over edges ≡ Leaf (get_or edges 0 0)
    few-leaf = over-few edges few

    pub few-adds : (old : List (Cell NodeKind)) → old ≡ old ++ drawn next tree_so
    few-adds old = sym (append-nil old) ∙ ap (λ (tree : Tree). old ++ drawn next (tree_steps number inv tree next)) (sym few-leaf)

    pub few-next : next ≡ behind next tree_so
    few-next = ap (λ (tree : Tree). behind next (tree_steps number inv tree next)) (sym few-leaf)

    pub few-edge : (edge : ℕ) → edge ≡ get_or edges 0 0 → edge ≡ tree_edge (tree_over edges) next
    few-edge edge is = is ∙ ap (λ (tree : Tree). tree_edge tree next) (sym few-leaf)

  -- two halves are added, and then what joins them
  pub record Halves (front back : List ℕ) (old one two : List (Cell NodeKind)) (to_one to_two first second : ℕ) : Type 0 where
    pub front_is : front ≡ take (half_of (length edges)) edges
    pub back_is : back ≡ drop (half_of (length edges)) edges
    pub many : 2 ≤ length edges
    pub left : one ≡ old ++ drawn next (tree_steps number inv (tree_over front) next)
    pub to_left : to_one ≡ behind next (tree_steps number inv (tree_over front) next)
    pub first_is : first ≡ tree_edge (tree_over front) next
    pub right : two ≡ one ++ drawn to_one (tree_steps number inv (tree_over back) to_one)
    pub to_right : to_two ≡ behind to_one (tree_steps number inv (tree_over back) to_one)
    pub second_is : second ≡ tree_edge (tree_over back) to_one

  module _ (front back : List ℕ) (old one two : List (Cell NodeKind)) (to_one to_two first second : ℕ) (halves : Halves front back old one two to_one to_two first second) where
    abbrev on : ℕ
    on = next + joins_of (tree_over front)

    abbrev left_steps : List Step
    left_steps = tree_steps number inv (tree_over front) next

    abbrev right_steps : List Step
    right_steps = tree_steps number inv (tree_over back) on

    abbrev agg_steps : List ℕ → List Step
    agg_steps ins = step (kind.Agg inv) ins number ∷ []

    abbrev joined_ins : List ℕ
    joined_ins = tree_edge (tree_over front) next ∷ tree_edge (tree_over back) on ∷ []

    join-is : Join (tree_over front) (tree_over back) ≡ tree_over edges
    join-is =
        ap (λ (front : List ℕ). Join (tree_over front) (tree_over back)) halves.front_is
        ∙ ap (λ (back : List ℕ). Join (tree_over (take (half_of (length edges)) edges)) (tree_over back)) halves.back_is ∙ sym (over-halves edges halves.many)

    on-is : to_one ≡ on
    on-is = halves.to_left ∙ tree-behind number inv (tree_over front) next

    right-next : to_two ≡ behind to_one right_steps
    right-next = halves.to_right ∙ ap (λ (from : ℕ). behind to_one (tree_steps number inv (tree_over back) from)) on-is

    both-add : two ≡ old ++ drawn next (left_steps ++ right_steps)
    both-add =
        adds-append next left_steps right_steps old one two to_one halves.left halves.to_left (halves.right ∙ ap (λ (from : ℕ). one ++ drawn to_one (tree_steps number inv (tree_over back) from)) on-is)

    both-next : to_two ≡ behind next (left_steps ++ right_steps)
    both-next = next-append next left_steps right_steps to_one to_two halves.to_left right-next

    ins-are : (first ∷ second ∷ []) ≡ joined_ins
    ins-are = ap (λ (one : ℕ). one ∷ second ∷ []) halves.first_is ∙ ap (λ (other : ℕ). tree_edge (tree_over front) next ∷ other ∷ []) (halves.second_is ∙ ap (tree_edge (tree_over back)) on-is)

    pub tree-adds : (new : List (Cell NodeKind)) → new ≡ two ++ drawn to_two (step (kind.Agg inv) (first ∷ second ∷ []) number ∷ []) → new ≡ old ++ drawn next tree_so
    tree-adds new is =
        adds-append next (left_steps ++ right_steps) (agg_steps joined_ins) old two new to_two both-add both-next (is ∙ ap (λ (ins : List ℕ). two ++ drawn to_two (agg_steps ins)) ins-are)
        ∙ ap (λ (tree : Tree). old ++ drawn next (tree_steps number inv tree next)) join-is

    pub tree-next : (last : ℕ) → last ≡ to_two + 1 → last ≡ behind next tree_so
    tree-next last is =
        next-append next (left_steps ++ right_steps) (agg_steps joined_ins) to_two last both-next is ∙ ap (λ (tree : Tree). behind next (tree_steps number inv tree next)) join-is

    pub tree-edge-is : (edge : ℕ) → edge ≡ to_two → edge ≡ tree_edge (tree_over edges) next
    tree-edge-is edge is =
        is ∙ halves.to_right ∙ tree-behind number inv (tree_over back) to_one ∙ ap (λ (from : ℕ). from + joins_of (tree_over back)) on-is ∙ ap (λ (tree : Tree). tree_edge tree next) join-is

  -- and what is behind it
  module _ (on edge : ℕ) (on_is : on ≡ behind next tree_so) (edge_is : edge ≡ tree_edge (tree_over edges) next) where
    pub folded-adds : (old mid new : List (Cell NodeKind)) → mid ≡ old ++ drawn next tree_so → new ≡ mid ++ drawn on (finish_steps number inv edge) → new ≡ old ++ drawn next (folded_steps number inv edges next)
    folded-adds old mid new mid_is new_is =
        adds-both next tree_so (λ (edge from : ℕ). finish_steps number inv edge) (tree_edge (tree_over edges) next) on edge on_is edge_is old mid new mid_is new_is

    pub folded-next : (last : ℕ) → last ≡ behind on (finish_steps number inv edge) → last ≡ behind next (folded_steps number inv edges next)
    folded-next last is = next-both next tree_so (λ (edge from : ℕ). finish_steps number inv edge) (tree_edge (tree_over edges) next) on edge on_is edge_is last is

    pub folded-edge : (last : ℕ) → last ≡ finish_edge inv edge on → last ≡ folded_edge number inv edges next
    folded-edge last is = gives-both next tree_so (λ (edge from : ℕ). finish_steps number inv edge) (tree_edge (tree_over edges) next) on edge on_is edge_is (finish_edge inv) last is

-- a utility that is spread: its maps, and what is made of them
module _ (width number : ℕ) (inv : Inv) (taken : Parts) (next on : ℕ) (maps : Parts)
    (on_is : on ≡ behind next (mapped_steps width number inv taken.edges next)) (maps_are : maps ≡ mapped_parts width number inv taken.edges next taken.cut) where
  pub spread-adds : (old mid new : List (Cell NodeKind)) → mid ≡ old ++ drawn next (mapped_steps width number inv taken.edges next) → new ≡ mid ++ drawn on (fold_steps number inv maps.edges on)
      → new ≡ old ++ drawn next (spread_steps width number inv taken.edges next)
  spread-adds old mid new mid_is new_is =
      adds-both next (mapped_steps width number inv taken.edges next) (λ (maps : Parts) (from : ℕ). fold_steps number inv maps.edges from) (mapped_parts width number inv taken.edges next taken.cut) on maps on_is maps_are old mid new mid_is new_is

  pub spread-next : (last : ℕ) → last ≡ behind on (fold_steps number inv maps.edges on) → last ≡ behind next (spread_steps width number inv taken.edges next)
  spread-next last is =
      next-both next (mapped_steps width number inv taken.edges next) (λ (maps : Parts) (from : ℕ). fold_steps number inv maps.edges from) (mapped_parts width number inv taken.edges next taken.cut) on maps on_is maps_are last is

  pub spread-gives : (parts : Parts) → parts ≡ fold_parts number inv maps on → parts ≡ spread_parts width number inv taken next
  spread-gives parts is =
      gives-both next (mapped_steps width number inv taken.edges next) (λ (maps : Parts) (from : ℕ). fold_steps number inv maps.edges from) (mapped_parts width number inv taken.edges next taken.cut) on maps on_is maps_are (fold_parts number inv) parts is

-- the files of tee, and what comes before what they hand on
module _ (number : ℕ) (it : Does) (paths : List Components) (text : List ℕ) (parts : Parts) (next on : ℕ) (teed : Parts)
    (on_is : on ≡ behind next (files_steps number it paths parts.edges next)) (teed_is : teed ≡ files_parts number it paths parts next) where
  pub beside-adds : (old mid new : List (Cell NodeKind)) → mid ≡ old ++ drawn next (files_steps number it paths parts.edges next) → new ≡ mid ++ drawn on (first_steps number it text teed.edges)
      → new ≡ old ++ drawn next (beside_steps number it paths text parts next)
  beside-adds old mid new mid_is new_is =
      adds-both next (files_steps number it paths parts.edges next) (λ (teed : Parts) (from : ℕ). first_steps number it text teed.edges) (files_parts number it paths parts next) on teed on_is teed_is old mid new mid_is new_is

  pub beside-next : (last : ℕ) → last ≡ behind on (first_steps number it text teed.edges) → last ≡ behind next (beside_steps number it paths text parts next)
  beside-next last is =
      next-both next (files_steps number it paths parts.edges next) (λ (teed : Parts) (from : ℕ). first_steps number it text teed.edges) (files_parts number it paths parts next) on teed on_is teed_is last is

  pub beside-gives : (both : Parts) → both ≡ first_parts number it text teed on → both ≡ beside_parts number it paths text parts next
  beside-gives both is =
      gives-both next (files_steps number it paths parts.edges next) (λ (teed : Parts) (from : ℕ). first_steps number it text teed.edges) (files_parts number it paths parts next) on teed on_is teed_is (first_parts number it text) both is

-- GROUPS OF FILES
-- the groups from this one on are still to be added
pub record GroupsLeft (width number : ℕ) (edges : List ℕ) (before : List (Cell NodeKind)) (from group : ℕ) (now : List (Cell NodeKind)) (next : ℕ) : Type 0 where
  pub nodes : now ++ drawn next (cat_steps number (groups_from width edges group (width - group))) ≡ before ++ drawn from (group_steps width number edges)
  pub behind_is : behind next (cat_steps number (groups_from width edges group (width - group))) ≡ behind from (group_steps width number edges)

module _ (width number : ℕ) (edges : List ℕ) (before : List (Cell NodeKind)) (from : ℕ) where
  pub groups-begin : GroupsLeft width number edges before from 0 before from
  groups-begin =
      let all : width - 0 ≡ width = omega arith in
      record {
        nodes = ap (λ (left : ℕ). before ++ drawn from (cat_steps number (groups_from width edges 0 left))) all;
        behind_is = ap (λ (left : ℕ). behind from (cat_steps number (groups_from width edges 0 left))) all;
      }

  -- one more is added
  pub groups-next : (group : ℕ) (now new : List (Cell NodeKind)) (next on : ℕ) → group < width → GroupsLeft width number edges before from group now next
      → new ≡ now ++ drawn next (step (kind.Cat false) (slice edges (group_start width (length edges) group) (group_start width (length edges) (group + 1))) number ∷ []) → on ≡ next + 1
      → GroupsLeft width number edges before from (group + 1) new on
  groups-next group now new next on more left new_is on_is =
      let it : Step = step (kind.Cat false) (slice edges (group_start width (length edges) group) (group_start width (length edges) (group + 1))) number in
      let rest : List Step = cat_steps number (groups_from width edges (group + 1) (width - (group + 1))) in
      let count : width - group ≡ suc (width - (group + 1)) = omega (arith, more) in
      let steps : cat_steps number (groups_from width edges group (width - group)) ≡ it ∷ rest = ap (λ (left : ℕ). cat_steps number (groups_from width edges group left)) count in
      record {
        nodes = ap (λ (on : ℕ). new ++ drawn on rest) on_is ∙ ap (λ (cells : List (Cell NodeKind)). cells ++ drawn (next + 1) rest) new_is
            ∙ append_assoc now (drawn next (it ∷ [])) (drawn (next + 1) rest) ∙ sym (ap (λ (steps : List Step). now ++ drawn next steps) steps) ∙ left.nodes;
        behind_is = ap (λ (on : ℕ). behind on rest) on_is ∙ sym (ap (behind next) steps) ∙ left.behind_is;
      }

  pub groups-added : (group : ℕ) (now : List (Cell NodeKind)) (next : ℕ) → width ≤ group → GroupsLeft width number edges before from group now next → now ≡ before ++ drawn from (group_steps width number edges)
  groups-added group now next all left =
      let none : width - group ≡ 0 = omega (arith, all) in
      sym (append-nil now) ∙ sym (ap (λ (left : ℕ). now ++ drawn next (cat_steps number (groups_from width edges group left))) none) ∙ left.nodes

  pub groups-behind : (group : ℕ) (now : List (Cell NodeKind)) (next : ℕ) → width ≤ group → GroupsLeft width number edges before from group now next → next ≡ behind from (group_steps width number edges)
  groups-behind group now next all left =
      let none : width - group ≡ 0 = omega (arith, all) in
      sym (ap (λ (left : ℕ). behind next (cat_steps number (groups_from width edges group left))) none) ∙ left.behind_is

-- A STAGE
module _ (width number : ℕ) (comes : Coming) (stage : Stage) (next : ℕ) where
  -- what it adds up to where its output goes
  pub record Main (old one two three : List (Cell NodeKind)) (leads : Bool) (to_one to_two to_three : ℕ) (taken done both : Parts) (nodes : List ℕ) : Type 0 where
    pub front : one ≡ old ++ drawn next (front_steps number comes stage next)
    pub to_front : to_one ≡ behind next (front_steps number comes stage next)
    pub taken_is : taken ≡ parts_on (front_edges number comes stage next) (comes_cut comes)
    pub leads_is : leads ≡ begins comes
    pub does_so : two ≡ one ++ drawn to_one (stage_steps width number leads stage.does stage.ins stage.first taken.edges to_one)
    pub to_does : to_two ≡ behind to_one (stage_steps width number leads stage.does stage.ins stage.first taken.edges to_one)
    pub done_is : done ≡ stage_parts width number leads stage.does stage.ins taken to_one
    pub nodes_are : nodes ≡ does_nodes width number leads stage.does taken.edges (length one)
    pub beside_so : three ≡ two ++ drawn to_two (beside_steps number stage.does stage.tees stage.first done to_two)
    pub to_beside : to_three ≡ behind to_two (beside_steps number stage.does stage.tees stage.first done to_two)
    pub both_is : both ≡ beside_parts number stage.does stage.tees stage.first done to_two

  module _ (old one two three : List (Cell NodeKind)) (leads : Bool) (to_one to_two to_three : ℕ) (taken done both : Parts) (nodes : List ℕ) (main : Main old one two three leads to_one to_two to_three taken done both nodes) where
    same-does : stage_steps width number leads stage.does stage.ins stage.first taken.edges to_one ≡ done_steps width number comes stage next
    same-does =
        ap (λ (leads : Bool). stage_steps width number leads stage.does stage.ins stage.first taken.edges to_one) main.leads_is
        ∙ ap (λ (taken : Parts). stage_steps width number (begins comes) stage.does stage.ins stage.first taken.edges to_one) main.taken_is
        ∙ ap (stage_steps width number (begins comes) stage.does stage.ins stage.first (front_edges number comes stage next)) main.to_front

    two-behind : to_two ≡ behind to_one (done_steps width number comes stage next)
    two-behind = main.to_does ∙ ap (behind to_one) same-does

    two-is : to_two ≡ done_next width number comes stage next
    two-is = two-behind ∙ ap (λ (from : ℕ). behind from (done_steps width number comes stage next)) main.to_front

    done-same : done ≡ done_parts width number comes stage next
    done-same =
        main.done_is ∙ ap (λ (leads : Bool). stage_parts width number leads stage.does stage.ins taken to_one) main.leads_is
        ∙ ap (λ (taken : Parts). stage_parts width number (begins comes) stage.does stage.ins taken to_one) main.taken_is
        ∙ ap (stage_parts width number (begins comes) stage.does stage.ins (parts_on (front_edges number comes stage next) (comes_cut comes))) main.to_front

    abbrev besides : List Step
    besides = beside_steps number stage.does stage.tees stage.first (done_parts width number comes stage next) (done_next width number comes stage next)

    same-beside : beside_steps number stage.does stage.tees stage.first done to_two ≡ besides
    same-beside =
        ap (λ (done : Parts). beside_steps number stage.does stage.tees stage.first done to_two) done-same
        ∙ ap (beside_steps number stage.does stage.tees stage.first (done_parts width number comes stage next)) two-is

    pub main-adds : three ≡ old ++ drawn next (main_steps width number comes stage next)
    main-adds =
        adds-append next (front_steps number comes stage next) (done_steps width number comes stage next ++ besides) old one three to_one main.front main.to_front
        (adds-append to_one (done_steps width number comes stage next) besides one two three to_two (main.does_so ∙ ap (λ (steps : List Step). one ++ drawn to_one steps) same-does) two-behind
        (main.beside_so ∙ ap (λ (steps : List Step). two ++ drawn to_two steps) same-beside))

    pub main-behind : to_three ≡ behind next (main_steps width number comes stage next)
    main-behind =
        next-append next (front_steps number comes stage next) (done_steps width number comes stage next ++ besides) to_one to_three main.to_front
        (next-append to_one (done_steps width number comes stage next) besides to_two to_three two-behind (main.to_beside ∙ ap (behind to_two) same-beside))

    pub main-gives : both ≡ main_parts width number comes stage next
    main-gives =
        main.both_is ∙ ap (λ (done : Parts). beside_parts number stage.does stage.tees stage.first done to_two) done-same
        ∙ ap (beside_parts number stage.does stage.tees stage.first (done_parts width number comes stage next)) two-is

    pub main-named : nodes ≡ main_nodes width number comes stage next (length old)
    main-named =
        main.nodes_are ∙ ap (λ (leads : Bool). does_nodes width number leads stage.does taken.edges (length one)) main.leads_is
        ∙ ap (λ (taken : Parts). does_nodes width number (begins comes) stage.does taken.edges (length one)) main.taken_is
        ∙ ap (does_nodes width number (begins comes) stage.does (front_edges number comes stage next)) (adds-count old one next (front_steps number comes stage next) main.front)

  module _ (on : ℕ) (parts : Parts) (on_is : on ≡ behind next (main_steps width number comes stage next)) (parts_are : parts ≡ main_parts width number comes stage next) where
    pub earlier-adds : (following : Stage) (old mid new : List (Cell NodeKind)) → mid ≡ old ++ drawn next (main_steps width number comes stage next)
        → new ≡ mid ++ drawn on (goes_from width number stage following parts on) → new ≡ old ++ drawn next (earlier_steps width number comes stage next following)
    earlier-adds following old mid new mid_is new_is =
        adds-both next (main_steps width number comes stage next) (goes_from width number stage following) (main_parts width number comes stage next) on parts on_is parts_are old mid new mid_is new_is

    pub earlier-next : (following : Stage) (last : ℕ) → last ≡ behind on (goes_from width number stage following parts on) → last ≡ behind next (earlier_steps width number comes stage next following)
    earlier-next following last is =
        next-both next (main_steps width number comes stage next) (goes_from width number stage following) (main_parts width number comes stage next) on parts on_is parts_are last is

    pub earlier-comes : (following : Stage) (goes : Coming) → goes ≡ comes_from width number stage following parts on → goes ≡ comes_behind width number comes stage next following
    earlier-comes following goes is =
        gives-both next (main_steps width number comes stage next) (goes_from width number stage following) (main_parts width number comes stage next) on parts on_is parts_are (comes_from width number stage following) goes is

    pub last-adds : (old mid new : List (Cell NodeKind)) → mid ≡ old ++ drawn next (main_steps width number comes stage next)
        → new ≡ mid ++ drawn on (ends_from number stage parts on) → new ≡ old ++ drawn next (last_steps width number comes stage next)
    last-adds old mid new mid_is new_is =
        adds-both next (main_steps width number comes stage next) (ends_from number stage) (main_parts width number comes stage next) on parts on_is parts_are old mid new mid_is new_is

-- ALL STAGES
-- the stages from this one on are left to add
pub record IsAt (width : ℕ) (before now : List (Cell NodeKind)) (from next : ℕ) (begin comes : Coming) (segment left : List Stage) (stage : Stage) (number : ℕ) : Type 0 where
  pub nodes : now ++ drawn next (chain_steps width number comes (stage ∷ left) next) ≡ before ++ drawn from (chain_steps width 0 begin segment from)
  pub named : chain_nodes width number comes (stage ∷ left) next (length now) ≡ chain_nodes width 0 begin segment from (length before)
  pub rule : (nodes : List ℕ) → chain_rule (stage ∷ left) nodes ≡ chain_rule segment nodes
  pub count : number + 1 + length left ≡ length segment

-- a slice's first element, and the rest
pub left-parts : {X : Type 0} (left : List X) (item : X) → item ≡ get_or left 0 item → 1 ≤ length left → left ≡ item ∷ take (length left - 1) (drop 1 left)
left-parts [] item is some = absurd (omega (arith, some))
left-parts {X} (first ∷ left) item is some =
    ap (λ (it : X). it ∷ left) (sym is) ∙ ap (λ (rest : List X). item ∷ rest) (sym (take_all (length (first ∷ left) - 1) left (omega arith)))

module _ (width : ℕ) (before now : List (Cell NodeKind)) (from next : ℕ) (begin comes : Coming) (segment : List Stage) (stage : Stage) (number : ℕ) where
  pub goes-on : (following : Stage) (others : List Stage) → IsAt width before now from next begin comes segment (following ∷ others) stage number
      → (new : List (Cell NodeKind)) (on : ℕ) (goes : Coming)
      → new ≡ now ++ drawn next (earlier_steps width number comes stage next following) → on ≡ behind next (earlier_steps width number comes stage next following)
      → goes ≡ comes_behind width number comes stage next following → IsAt width before new from on begin goes segment others following (number + 1)
  goes-on following others at new on goes new_is on_is goes_is =
      let here : List Step = earlier_steps width number comes stage next following in
      let coming : Coming = comes_behind width number comes stage next following in
      let there : ℕ = behind next here in
      let count : length new ≡ length now + length here = adds-count now new next here new_is in
      record {
        nodes = ap (λ (comes : Coming). new ++ drawn on (chain_steps width (number + 1) comes (following ∷ others) on)) goes_is
            ∙ ap (λ (from : ℕ). new ++ drawn from (chain_steps width (number + 1) coming (following ∷ others) from)) on_is
            ∙ ap (λ (cells : List (Cell NodeKind)). cells ++ drawn there (chain_steps width (number + 1) coming (following ∷ others) there)) new_is
            ∙ append_assoc now (drawn next here) (drawn there (chain_steps width (number + 1) coming (following ∷ others) there))
            ∙ ap (λ (cells : List (Cell NodeKind)). now ++ cells) (sym (drawn-append next here (chain_steps width (number + 1) coming (following ∷ others) there))) ∙ at.nodes;
        named = ap (λ (comes : Coming). chain_nodes width (number + 1) comes (following ∷ others) on (length new)) goes_is
            ∙ ap (λ (from : ℕ). chain_nodes width (number + 1) coming (following ∷ others) from (length new)) on_is
            ∙ ap (chain_nodes width (number + 1) coming (following ∷ others) there) count ∙ at.named;
        rule = at.rule;
        count = (let all = at.count in omega (arith, all));
      }

  pub goes-on-at : (left : List Stage) (following : Stage) → following ≡ get_or left 0 following → 1 ≤ length left → IsAt width before now from next begin comes segment left stage number
      → (new : List (Cell NodeKind)) (on : ℕ) (goes : Coming)
      → new ≡ now ++ drawn next (earlier_steps width number comes stage next following) → on ≡ behind next (earlier_steps width number comes stage next following)
      → goes ≡ comes_behind width number comes stage next following → IsAt width before new from on begin goes segment (take (length left - 1) (drop 1 left)) following (number + 1)
  goes-on-at left following is some at new on goes new_is on_is goes_is =
      goes-on following (take (length left - 1) (drop 1 left)) (subst (λ (left : List Stage). IsAt width before now from next begin comes segment left stage number) (left-parts left following is some) at) new on goes new_is on_is goes_is
