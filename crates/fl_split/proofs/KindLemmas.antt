-- A split and a Cat before a node: what is asked of the kinds of nodes alone, and of the numbers that a status names.
use Rattle.std.proofs.Common.{◌≡◌, ℕ, zero, suc, ◌+◌, ◌<◌, ◌≤◌, ◌==◌, List, [], ◌∷◌, ◌++◌, Bool, true, false, ◌&&◌, ◌||◌, nat_le, if◌then◌else◌, Option, None, length, map, get_or, refl, ap, sym, ◌∙◌, arith, ⊎_elim}
use Rattle.std.specs.List.{list_all, list_any, count_by, filter_map, cons_option, sum_by, range_with_len}
use Rattle.std.proofs.lemmas.Bool.{and_parts, and_from, lt-ltb, le-ltb, le-leb, cases_lt}
use Rattle.std.proofs.lemmas.List.{length-map, map-append}
use Rattle.std.proofs.lemmas.List.FromFn.{length-range_with_len}
use Rattle.std.proofs.lemmas.List.Sums.{sum_by-cons}
use Rattle.fl_graph.specs.declared.graphs.Cell.{Cell}
use Rattle.fl_graph.specs.declared.graphs.StatusRule.{StatusRule}
use Rattle.fl_graph.specs.declared.graphs.StatusRule.TheVariants as status
use Rattle.fl_graph.specs.Kinds.{may_have, has_its_ports, selects_lines}
use Rattle.fl_graph.specs.Valid.{nodes_named, names_selector}
use Rattle.fl_graph.specs.declared.kinds.NodeKind.{NodeKind}
use Rattle.fl_graph.specs.declared.kinds.NodeKind.TheVariants as kind
use Rattle.fl_classes.specs.Flow.{status_by}
use Rattle.fl_split.specs.Inserting.{split_cell, join_cell, turned_cell, turned, split_cells, moved, moved_status}

module _ (next edge parts : ℕ) (taker : Cell NodeKind) (back : List (Cell NodeKind)) where
  abbrev pub put : List (Cell NodeKind)
  put = split_cells next edge parts taker ++ back

  pub kinds-all : (test : NodeKind → Bool) → test kind.Split ≡ true → test (kind.Cat false) ≡ true → (front : List (Cell NodeKind))
      → list_all (λ (cell : Cell NodeKind). test cell.kind) (front ++ put) ≡ list_all (λ (cell : Cell NodeKind). test cell.kind) (front ++ (taker ∷ back))
  kinds-all test split join [] =
      let rest : Bool = list_all (λ (cell : Cell NodeKind). test cell.kind) (taker ∷ back) in
      ap (λ (first : Bool). first && (test (kind.Cat false) && rest)) split ∙ ap (λ (second : Bool). second && rest) join
  kinds-all test split join (cell ∷ front) = ap (λ (rest : Bool). test cell.kind && rest) (kinds-all test split join front)

  pub kinds-count : (test : NodeKind → Bool) → test kind.Split ≡ false → test (kind.Cat false) ≡ false → (front : List (Cell NodeKind))
      → count_by (λ (cell : Cell NodeKind). test cell.kind) (front ++ put) ≡ count_by (λ (cell : Cell NodeKind). test cell.kind) (front ++ (taker ∷ back))
  kinds-count test split join [] =
      let one = sum_by-cons (λ (cell : Cell NodeKind). if test cell.kind then 1 else 0) (split_cell next edge parts taker.stage) (join_cell next parts taker.stage ∷ turned_cell edge (next + parts) taker ∷ back) in
      let two = sum_by-cons (λ (cell : Cell NodeKind). if test cell.kind then 1 else 0) (join_cell next parts taker.stage) (turned_cell edge (next + parts) taker ∷ back) in
      let three = sum_by-cons (λ (cell : Cell NodeKind). if test cell.kind then 1 else 0) (turned_cell edge (next + parts) taker) back in
      let four = sum_by-cons (λ (cell : Cell NodeKind). if test cell.kind then 1 else 0) taker back in
      let rest : ℕ = (if test taker.kind then 1 else 0) + sum_by (λ (cell : Cell NodeKind). if test cell.kind then 1 else 0) back in
      one ∙ ap (λ (sum : ℕ). (if test kind.Split then 1 else 0) + sum) (two ∙ ap (λ (sum : ℕ). (if test (kind.Cat false) then 1 else 0) + sum) three)
      ∙ ap (λ (is : Bool). (if is then 1 else 0) + ((if test (kind.Cat false) then 1 else 0) + rest)) split
      ∙ ap (λ (is : Bool). 0 + ((if is then 1 else 0) + rest)) join ∙ omega arith ∙ sym four
  kinds-count test split join (cell ∷ front) =
      sum_by-cons (λ (cell : Cell NodeKind). if test cell.kind then 1 else 0) cell (front ++ put)
      ∙ ap (λ (rest : ℕ). (if test cell.kind then 1 else 0) + rest) (kinds-count test split join front)
      ∙ sym (sum_by-cons (λ (cell : Cell NodeKind). if test cell.kind then 1 else 0) cell (front ++ (taker ∷ back)))

  pub kinds-found : {Found : Type 0} (find : NodeKind → Option Found) → find kind.Split ≡ None → find (kind.Cat false) ≡ None → (front : List (Cell NodeKind))
      → filter_map (λ (cell : Cell NodeKind). find cell.kind) (front ++ put) ≡ filter_map (λ (cell : Cell NodeKind). find cell.kind) (front ++ (taker ∷ back))
  kinds-found {Found} find split join [] =
      let rest : List Found = filter_map (λ (cell : Cell NodeKind). find cell.kind) (taker ∷ back) in
      ap (λ (first : Option Found). cons_option first (cons_option (find (kind.Cat false)) rest)) split ∙ ap (λ (second : Option Found). cons_option second rest) join
  kinds-found {Found} find split join (cell ∷ front) = ap (λ (rest : List Found). cons_option (find cell.kind) rest) (kinds-found find split join front)

  pub ports-kept : 1 ≤ parts → (front : List (Cell NodeKind)) → list_all has_its_ports (front ++ (taker ∷ back)) ≡ true → list_all has_its_ports (front ++ put) ≡ true
  ports-kept some [] ports =
      let both = and_parts (has_its_ports taker) (list_all has_its_ports back) ports in
      let row : length (range_with_len next parts) ≡ parts = length-range_with_len next parts in
      let split : has_its_ports (split_cell next edge parts taker.stage) ≡ true =
      ap (λ (outs : ℕ). may_have kind.Split 1 outs) row ∙ and_from (1 == 1) (nat_le 1 parts) refl (le-leb 1 parts some) in
      let join : has_its_ports (join_cell next parts taker.stage) ≡ true =
      ap (λ (ins : ℕ). may_have (kind.Cat false) ins 1) row ∙ and_from (nat_le 1 parts) (1 == 1) (le-leb 1 parts some) refl in
      let last : has_its_ports (turned_cell edge (next + parts) taker) ≡ true =
      ap (λ (ins : ℕ). may_have taker.kind ins (length taker.outs)) (length-map taker.ins (turned edge (next + parts))) ∙ both.0 in
      and_from (has_its_ports (split_cell next edge parts taker.stage)) (list_all has_its_ports (join_cell next parts taker.stage ∷ turned_cell edge (next + parts) taker ∷ back)) split
      (and_from (has_its_ports (join_cell next parts taker.stage)) (list_all has_its_ports (turned_cell edge (next + parts) taker ∷ back)) join
      (and_from (has_its_ports (turned_cell edge (next + parts) taker)) (list_all has_its_ports back) last both.1))
  ports-kept some (cell ∷ front) ports =
      let both = and_parts (has_its_ports cell) (list_all has_its_ports (front ++ (taker ∷ back))) ports in
      and_from (has_its_ports cell) (list_all has_its_ports (front ++ put)) both.0 (ports-kept some front both.1)

-- a list of answers, one a node, with two more before one of them
moved-before : (place node : ℕ) → moved (suc place) (suc node) ≡ suc (moved place node)
moved-before place node =
    ⊎_elim (λ (low : node < place).
    ap (λ (is : Bool). if is then suc node else suc node + 2) (lt-ltb (suc node) (suc place) (omega (arith, low)))
    ∙ ap suc (sym (ap (λ (is : Bool). if is then node else node + 2) (lt-ltb node place low))))
    (λ (high : place ≤ node).
    let next : suc node + 2 ≡ suc (node + 2) = omega arith in
    ap (λ (is : Bool). if is then suc node else suc node + 2) (le-ltb (suc node) (suc place) (omega (arith, high))) ∙ next
    ∙ ap suc (sym (ap (λ (is : Bool). if is then node else node + 2) (le-ltb node place high))))
    (cases_lt node place)

pub found-moved : (front : List Bool) (one two : Bool) (back : List Bool) (node : ℕ)
    → get_or (front ++ (one ∷ two ∷ back)) (moved (length front) node) false ≡ get_or (front ++ back) node false
found-moved [] one two back node =
    let two_more : node + 2 ≡ suc (suc node) = omega arith in
    ap (λ (is : Bool). get_or (one ∷ two ∷ back) (if is then node else node + 2) false) (le-ltb node 0 (omega arith)) ∙ ap (λ (number : ℕ). get_or (one ∷ two ∷ back) number false) two_more
found-moved (first ∷ front) one two back zero =
    ap (λ (is : Bool). get_or (first ∷ (front ++ (one ∷ two ∷ back))) (if is then 0 else 0 + 2) false) (lt-ltb 0 (suc (length front)) (omega arith))
found-moved (first ∷ front) one two back (suc node) =
    ap (λ (number : ℕ). get_or (first ∷ (front ++ (one ∷ two ∷ back))) number false) (moved-before (length front) node) ∙ found-moved front one two back node

abbrev pub selectors : List (Cell NodeKind) → List Bool
selectors cells = map (λ cell. selects_lines cell.kind) cells

selector-listed : (cells : List (Cell NodeKind)) (node : ℕ) → names_selector cells node ≡ get_or (selectors cells) node false
selector-listed [] node = refl
selector-listed (cell ∷ cells) zero = refl
selector-listed (cell ∷ cells) (suc node) = selector-listed cells node

pub selector-moved : (next edge parts : ℕ) (taker : Cell NodeKind) (front back : List (Cell NodeKind)) (node : ℕ)
    → names_selector (front ++ put next edge parts taker back) (moved (length front) node) ≡ names_selector (front ++ (taker ∷ back)) node
selector-moved next edge parts taker front back node =
    selector-listed (front ++ put next edge parts taker back) (moved (length front) node)
    ∙ ap (λ (all : List Bool). get_or all (moved (length front) node) false) (map-append (λ (cell : Cell NodeKind). selects_lines cell.kind) front (put next edge parts taker back))
    ∙ ap (λ (size : ℕ). get_or (selectors front ++ (false ∷ false ∷ selectors (taker ∷ back))) (moved size node) false) (sym (length-map front (λ (cell : Cell NodeKind). selects_lines cell.kind)))
    ∙ found-moved (selectors front) false false (selectors (taker ∷ back)) node
    ∙ ap (λ (all : List Bool). get_or all node false) (sym (map-append (λ (cell : Cell NodeKind). selects_lines cell.kind) front (taker ∷ back)))
    ∙ sym (selector-listed (front ++ (taker ∷ back)) node)

pub named-moved : (place : ℕ) (rule : StatusRule) → nodes_named (moved_status place rule) ≡ map (moved place) (nodes_named rule)
named-moved place (status.Fixed code) = refl
named-moved place (status.Selected nodes some none) = refl

any-agree : (one other : ℕ → Bool) → ((node : ℕ) → one node ≡ other node) → (nodes : List ℕ) → list_any one nodes ≡ list_any other nodes
any-agree one other agree [] = refl
any-agree one other agree (node ∷ nodes) = ap (λ (first : Bool). first || list_any one nodes) (agree node) ∙ ap (λ (rest : Bool). other node || rest) (any-agree one other agree nodes)

any-map : (test : ℕ → Bool) (turn : ℕ → ℕ) (nodes : List ℕ) → list_any test (map turn nodes) ≡ list_any (λ node. test (turn node)) nodes
any-map test turn [] = refl
any-map test turn (node ∷ nodes) = ap (λ (rest : Bool). test (turn node) || rest) (any-map test turn nodes)

-- the status is the same where the answers are
pub status-moved : (rule : StatusRule) (front : List Bool) (one two : Bool) (back : List Bool)
    → status_by rule (front ++ back) ≡ status_by (moved_status (length front) rule) (front ++ (one ∷ two ∷ back))
status-moved (status.Fixed code) front one two back = refl
status-moved (status.Selected nodes some none) front one two back =
    ap (λ (is : Bool). if is then some else none)
    (sym (any-map (λ node. get_or (front ++ (one ∷ two ∷ back)) node false) (moved (length front)) nodes
    ∙ any-agree (λ node. get_or (front ++ (one ∷ two ∷ back)) (moved (length front) node) false) (λ node. get_or (front ++ back) node false) (found-moved front one two back) nodes))
