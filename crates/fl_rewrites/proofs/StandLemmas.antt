-- Nodes in the place of one: what is asked of each node, and the status by it, with the numbers that stand for a node's.
use Rattle.std.proofs.Common.{◌≡◌, ℕ, zero, suc, ◌+◌, ◌-◌, ◌<◌, ◌≤◌, ◌==◌, List, [], ◌∷◌, ◌++◌, Bool, true, false, ◌&&◌, ◌||◌, nat_lt, if◌then◌else◌, length, map, get_or, refl, ap, sym, ◌∙◌, arith, eq-eqb, ⊎_elim, append_assoc}
use Rattle.std.specs.List.{list_all, list_any, flat_map, range_with_len}
use Rattle.std.proofs.lemmas.Bool.{true≢false, and_parts, and_from, lt-ltb, le-ltb, cases_lt, ne_eqb, cases_eq, eqb-true}
use Rattle.std.proofs.lemmas.List.{length-map, map-append, get_or-append-add}
use Rattle.std.proofs.Math.ListN.{get_or-append}
use Rattle.std.proofs.lemmas.List.Folds.{list_all-append, list_any-append}
use Rattle.fl_graph.specs.declared.graphs.Cell.{Cell}
use Rattle.fl_graph.specs.declared.graphs.StatusRule.{StatusRule}
use Rattle.fl_graph.specs.declared.graphs.StatusRule.TheVariants as status
use Rattle.fl_graph.specs.Kinds.{selects_lines}
use Rattle.fl_graph.specs.Valid.{nodes_named, names_selector}
use Rattle.fl_graph.specs.declared.kinds.NodeKind.{NodeKind}
use Rattle.fl_graph.proofs.ListLemmas.{list_all-agree}
use Rattle.fl_classes.specs.Flow.{status_by}
use Rattle.fl_rewrites.specs.Replacing.{stand_for, renamed_status}

-- answers at the numbers in a row that begins behind a part
row-found : {X : Type 0} (front named back : List X) (d : X) → map (λ node. get_or (front ++ (named ++ back)) node d) (range_with_len (length front) (length named)) ≡ named
row-found front [] back d = refl
row-found {X} front (first ∷ named) back d =
    let whole : front ++ ((first ∷ named) ++ back) ≡ (front ++ first ∷ []) ++ (named ++ back) = sym (one-on front) in
    let size : length (front ++ first ∷ []) ≡ length front + 1 = longer front in
    let here : get_or (front ++ (first ∷ (named ++ back))) (length front) d ≡ first =
    ap (λ (place : ℕ). get_or (front ++ (first ∷ (named ++ back))) place d) (omega arith) ∙ get_or-append-add front (first ∷ (named ++ back)) 0 d in
    ap (λ (head : X). head ∷ map (λ node. get_or (front ++ (first ∷ (named ++ back))) node d) (range_with_len (length front + 1) (length named))) here
    ∙ ap (λ (rest : List X). first ∷ rest)
    (ap (λ (all : List X). map (λ node. get_or all node d) (range_with_len (length front + 1) (length named))) whole
    ∙ ap (λ (from : ℕ). map (λ node. get_or ((front ++ first ∷ []) ++ (named ++ back)) node d) (range_with_len from (length named))) (sym size)
    ∙ row-found (front ++ first ∷ []) named back d)
  where
    one-on : (items : List X) → (items ++ first ∷ []) ++ (named ++ back) ≡ items ++ (first ∷ (named ++ back))
    one-on [] = refl
    one-on (item ∷ items) = ap (λ (rest : List X). item ∷ rest) (one-on items)

    longer : (items : List X) → length (items ++ first ∷ []) ≡ length items + 1
    longer [] = refl
    longer (item ∷ items) = let rest = longer items in omega (arith, rest)

-- the answers at the numbers that stand for a node's: its own, or those of the nodes that are named in its place
pub found-standing : {X : Type 0} (front : List X) (one : X) (named others back : List X) (d : X) (node : ℕ)
    → map (λ number. get_or (front ++ ((named ++ others) ++ back)) number d) (stand_for (length front) (length (named ++ others)) (length named) node)
    ≡ (if node == length front then named else get_or (front ++ (one ∷ back)) node d ∷ [])
found-standing {X} front one named others back d node =
    ⊎_elim (λ (low : node < length front).
    ap (λ (is : Bool). found (if is then node ∷ [] else if node == length front then range_with_len (length front) (length named) else (node + size - 1) ∷ [])) (lt-ltb node (length front) low)
    ∙ ap (λ (item : X). item ∷ []) (get_or-append front ((named ++ others) ++ back) d node low ∙ sym (get_or-append front (one ∷ back) d node low))
    ∙ sym (ap (λ (is : Bool). if is then named else get_or (front ++ (one ∷ back)) node d ∷ []) (ne_eqb node (length front) (λ same. omega (arith, low, same)))))
    (λ (high : length front ≤ node).
    ap (λ (is : Bool). found (if is then node ∷ [] else if node == length front then range_with_len (length front) (length named) else (node + size - 1) ∷ [])) (le-ltb node (length front) high)
    ∙ ⊎_elim (λ (same : node ≡ length front).
    ap (λ (is : Bool). found (if is then range_with_len (length front) (length named) else (node + size - 1) ∷ [])) (eq-eqb node (length front) same)
    ∙ ap (λ (all : List X). map (λ number. get_or (front ++ all) number d) (range_with_len (length front) (length named))) (append_assoc named others back)
    ∙ row-found front named (others ++ back) d
    ∙ sym (ap (λ (is : Bool). if is then named else get_or (front ++ (one ∷ back)) node d ∷ []) (eq-eqb node (length front) same)))
    (λ (other : node ≡ length front → ⊥).
    let behind : ℕ = node - (length front + 1) in
    let number : node ≡ length front + suc behind = omega (arith, high, other) in
    let moved : node + size - 1 ≡ length front + (size + behind) = omega (arith, number) in
    ap (λ (is : Bool). found (if is then range_with_len (length front) (length named) else (node + size - 1) ∷ [])) (ne_eqb node (length front) other)
    ∙ ap (λ (place : ℕ). get_or (front ++ ((named ++ others) ++ back)) place d ∷ []) moved
    ∙ ap (λ (item : X). item ∷ []) (get_or-append-add front ((named ++ others) ++ back) (size + behind) d ∙ get_or-append-add (named ++ others) back behind d
    ∙ sym (ap (λ (place : ℕ). get_or (front ++ (one ∷ back)) place d) number ∙ get_or-append-add front (one ∷ back) (suc behind) d))
    ∙ sym (ap (λ (is : Bool). if is then named else get_or (front ++ (one ∷ back)) node d ∷ []) (ne_eqb node (length front) other)))
    (cases_eq node (length front)))
    (cases_lt node (length front))
  where
    size : ℕ
    size = length (named ++ others)

    found : List ℕ → List X
    found numbers = map (λ number. get_or (front ++ ((named ++ others) ++ back)) number d) numbers

-- the status by such answers
any-joined : (test : ℕ → Bool) (turn : ℕ → List ℕ) (nodes : List ℕ) → list_any test (flat_map turn nodes) ≡ list_any (λ node. list_any test (turn node)) nodes
any-joined test turn [] = refl
any-joined test turn (node ∷ nodes) = list_any-append test (turn node) (flat_map turn nodes) ∙ ap (λ (rest : Bool). list_any test (turn node) || rest) (any-joined test turn nodes)

any-of : (found : ℕ → Bool) (nodes : List ℕ) → list_any found nodes ≡ list_any (λ (it : Bool). it) (map found nodes)
any-of found [] = refl
any-of found (node ∷ nodes) = ap (λ (rest : Bool). found node || rest) (any-of found nodes)

all-of : (found : ℕ → Bool) (nodes : List ℕ) → list_all found nodes ≡ list_all (λ (it : Bool). it) (map found nodes)
all-of found [] = refl
all-of found (node ∷ nodes) = ap (λ (rest : Bool). found node && rest) (all-of found nodes)

pub any-agree : (one other : ℕ → Bool) → ((node : ℕ) → one node ≡ other node) → (nodes : List ℕ) → list_any one nodes ≡ list_any other nodes
any-agree one other agree [] = refl
any-agree one other agree (node ∷ nodes) = ap (λ (first : Bool). first || list_any one nodes) (agree node) ∙ ap (λ (rest : Bool). other node || rest) (any-agree one other agree nodes)

module _ (front : List Bool) (one : Bool) (named others back : List Bool) where
  abbrev new : List Bool
  new = front ++ ((named ++ others) ++ back)

  abbrev old : List Bool
  old = front ++ (one ∷ back)

  abbrev turn : ℕ → List ℕ
  turn = stand_for (length front) (length (named ++ others)) (length named)

  or-none : (test : Bool) → (test || false) ≡ test
  or-none true = refl
  or-none false = refl

  any-standing : one ≡ list_any (λ (it : Bool). it) named → (node : ℕ) → get_or old node false ≡ list_any (λ number. get_or new number false) (turn node)
  any-standing same node =
      sym (any-of (λ number. get_or new number false) (turn node) ∙ ap (list_any (λ (it : Bool). it)) (found-standing front one named others back false node) ∙ by_test (node == length front) refl)
    where
      by_test : (test : Bool) → (node == length front) ≡ test → list_any (λ (it : Bool). it) (if test then named else get_or old node false ∷ []) ≡ get_or old node false
      by_test true is = sym same ∙ sym (ap (λ (place : ℕ). get_or old place false) (eqb-true node (length front) is ∙ omega arith) ∙ get_or-append-add front (one ∷ back) 0 false)
      by_test false is = or-none (get_or old node false)

  pub status-standing : one ≡ list_any (λ (it : Bool). it) named → (rule : StatusRule)
      → status_by rule old ≡ status_by (renamed_status (length front) (length (named ++ others)) (length named) rule) new
  status-standing same (status.Fixed code) = refl
  status-standing same (status.Selected nodes some none) =
      ap (λ (is : Bool). if is then some else none)
      (any-agree (λ node. get_or old node false) (λ node. list_any (λ number. get_or new number false) (turn node)) (any-standing same) nodes
      ∙ sym (any-joined (λ number. get_or new number false) turn nodes))

  -- what is asked of the nodes that a status names
  all-standing : (one ≡ true → list_all (λ (it : Bool). it) named ≡ true) → (node : ℕ) → get_or old node false ≡ true → list_all (λ number. get_or new number false) (turn node) ≡ true
  all-standing holds node is =
      all-of (λ number. get_or new number false) (turn node) ∙ ap (list_all (λ (it : Bool). it)) (found-standing front one named others back false node) ∙ by_test (node == length front) refl
    where
      by_test : (test : Bool) → (node == length front) ≡ test → list_all (λ (it : Bool). it) (if test then named else get_or old node false ∷ []) ≡ true
      by_test true same = holds (sym (ap (λ (place : ℕ). get_or old place false) (eqb-true node (length front) same ∙ omega arith) ∙ get_or-append-add front (one ∷ back) 0 false) ∙ is)
      by_test false same = and_from (get_or old node false) true is refl

  pub named-standing : (one ≡ true → list_all (λ (it : Bool). it) named ≡ true) → (rule : StatusRule) → list_all (λ node. get_or old node false) (nodes_named rule) ≡ true
      → list_all (λ node. get_or new node false) (nodes_named (renamed_status (length front) (length (named ++ others)) (length named) rule)) ≡ true
  named-standing holds (status.Fixed code) all = refl
  named-standing holds (status.Selected nodes some none) all = over nodes all
    where
      over : (nodes : List ℕ) → list_all (λ node. get_or old node false) nodes ≡ true → list_all (λ node. get_or new node false) (flat_map turn nodes) ≡ true
      over [] all = refl
      over (node ∷ nodes) all =
          let parts = and_parts (get_or old node false) (list_all (λ node. get_or old node false) nodes) all in
          list_all-append (λ node. get_or new node false) (turn node) (flat_map turn nodes)
          ∙ and_from (list_all (λ node. get_or new node false) (turn node)) (list_all (λ node. get_or new node false) (flat_map turn nodes)) (all-standing holds node parts.0) (over nodes parts.1)

-- which nodes tell whether they select
abbrev pub selectors : List (Cell NodeKind) → List Bool
selectors cells = map (λ cell. selects_lines cell.kind) cells

pub selector-listed : (cells : List (Cell NodeKind)) (node : ℕ) → names_selector cells node ≡ get_or (selectors cells) node false
selector-listed [] node = refl
selector-listed (cell ∷ cells) zero = refl
selector-listed (cell ∷ cells) (suc node) = selector-listed cells node

pub selectors-append : (front back : List (Cell NodeKind)) → selectors (front ++ back) ≡ selectors front ++ selectors back
selectors-append front back = map-append (λ (cell : Cell NodeKind). selects_lines cell.kind) front back

all-listed : (cells : List (Cell NodeKind)) (nodes : List ℕ) → list_all (names_selector cells) nodes ≡ list_all (λ node. get_or (selectors cells) node false) nodes
all-listed cells nodes = list_all-agree (names_selector cells) (λ node. get_or (selectors cells) node false) (selector-listed cells) nodes

-- new nodes in the place of one, of which the first are named in its place: the status names nodes that tell it
pub names-standing : (front : List (Cell NodeKind)) (one : Cell NodeKind) (named others back : List (Cell NodeKind)) (rule : StatusRule)
    → (selects_lines one.kind ≡ true → list_all (λ (it : Bool). it) (selectors named) ≡ true) → list_all (names_selector (front ++ (one ∷ back))) (nodes_named rule) ≡ true
    → list_all (names_selector (front ++ ((named ++ others) ++ back))) (nodes_named (renamed_status (length front) (length (named ++ others)) (length named) rule)) ≡ true
names-standing front one named others back rule holds all =
    let size_of : List (Cell NodeKind) → ℕ = λ cells. length (selectors cells) in
    let old : list_all (λ node. get_or (selectors front ++ (selects_lines one.kind ∷ selectors back)) node false) (nodes_named rule) ≡ true =
    ap (λ (found : List Bool). list_all (λ node. get_or found node false) (nodes_named rule)) (sym (selectors-append front (one ∷ back)))
    ∙ sym (all-listed (front ++ (one ∷ back)) (nodes_named rule)) ∙ all in
    let new = named-standing (selectors front) (selects_lines one.kind) (selectors named) (selectors others) (selectors back) holds rule old in
    let whole : selectors (front ++ ((named ++ others) ++ back)) ≡ selectors front ++ ((selectors named ++ selectors others) ++ selectors back) =
    selectors-append front ((named ++ others) ++ back)
    ∙ ap (λ (rest : List Bool). selectors front ++ rest) (selectors-append (named ++ others) back ∙ ap (λ (first : List Bool). first ++ selectors back) (selectors-append named others)) in
    let sizes : renamed_status (length front) (length (named ++ others)) (length named) rule
    ≡ renamed_status (length (selectors front)) (length (selectors named ++ selectors others)) (length (selectors named)) rule =
    ap (λ (place : ℕ). renamed_status place (length (named ++ others)) (length named) rule) (sym (length-map front (λ (cell : Cell NodeKind). selects_lines cell.kind)))
    ∙ ap (λ (size : ℕ). renamed_status (size_of front) size (length named) rule)
    (sym (ap length (sym (selectors-append named others)) ∙ length-map (named ++ others) (λ (cell : Cell NodeKind). selects_lines cell.kind)))
    ∙ ap (λ (size : ℕ). renamed_status (size_of front) (length (selectors named ++ selectors others)) size rule) (sym (length-map named (λ (cell : Cell NodeKind). selects_lines cell.kind))) in
    all-listed (front ++ ((named ++ others) ++ back)) (nodes_named (renamed_status (length front) (length (named ++ others)) (length named) rule))
    ∙ ap (λ (found : List Bool). list_all (λ node. get_or found node false) (nodes_named (renamed_status (length front) (length (named ++ others)) (length named) rule))) whole
    ∙ ap (λ (renamed : StatusRule). list_all (λ node. get_or (selectors front ++ ((selectors named ++ selectors others) ++ selectors back)) node false) (nodes_named renamed)) sizes
    ∙ new
