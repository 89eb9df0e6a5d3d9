-- What is known to be a cut list is one, wherever the groups among it are.
use Rattle.std.proofs.Common.{◌≡◌, ℕ, ◌+◌, ◌<◌, ◌≤◌, ◌==◌, List, [], ◌∷◌, ◌++◌, Bool, true, false, not, ◌&&◌, ◌||◌, nat_eq, nat_le, if◌then◌else◌, length, map, drop, get_or, refl, ap, sym, subst, ◌∙◌, append-nil, arith, ⊎_elim}
use Rattle.std.specs.List.{concat, flat_map, list_all, list_any}
use Rattle.std.specs.Cmp.Lexicographic.{pointwise}
use Rattle.std.proofs.lemmas.Bool.{true≢false, and_parts, and_from, or_cases, eqb-true, leb-true}
use Rattle.std.proofs.lemmas.List.{map-id}
use Rattle.ps_lines.specs.Lines.{is_closed, is_cutlist, is_empty}
use Rattle.fl_graph.specs.Net.{has}
use Rattle.fl_graph.specs.declared.graphs.Cell.{Cell}
use Rattle.fl_graph.specs.Kinds.{may_have, has_its_ports}
use Rattle.ut_args.specs.Classes.{keeps_closed_of}
use Rattle.ut_args.specs.declared.invocations.Inv.{Inv}
use Rattle.fl_graph.specs.declared.kinds.NodeKind.{NodeKind}
use Rattle.fl_graph.specs.declared.kinds.NodeKind.TheVariants as kind
use Rattle.fl_classes.specs.Flow.{only, texts_given}
use Rattle.fl_classes.specs.Aggregates.{map_of}
use Rattle.fl_classes.specs.Laws.{KeepsClosed}
use Rattle.fl_classes.specs.Parts.{parts_of}
use Rattle.fl_classes.proofs.PartLemmas.{parts-cut}
use Rattle.fl_rewrites.specs.Suits.{Value, is_file, groups_given as groups_made, with_origin, values_given}
use Rattle.fl_rewrites.specs.Known.{keeps_ends, first_in, root_behind, roots_behind, root_of, is_split, joins_plainly, splits_into, files_given, is_group, groups_given, is_known}
use Rattle.fl_rewrites.proofs.OrderLemmas.{IsMet}
use Rattle.fl_rewrites.proofs.SpliceLemmas.{has-either}
use Rattle.fl_rewrites.proofs.PlacedLemmas.{next_source, numbered_cell}
use Rattle.fl_rewrites.proofs.CarryLemmas.{Carries, text_of, map-after}

-- a text that is closed or empty where another is
pub record Follows (root text : List ℕ) : Type 0 where
  pub closed : is_closed root ≡ true → is_closed text ≡ true
  pub none : is_empty root ≡ true → is_empty text ≡ true

pub follows-same : (text : List ℕ) → Follows text text
follows-same text = record { closed = λ is. is; none = λ is. is }

pub follows-on : (root between text : List ℕ) → Follows root between → Follows between text → Follows root text
follows-on root between text first second = record { closed = λ is. second.closed (first.closed is); none = λ is. second.none (first.none is) }

-- texts that follow those of a cut list are one
module _ (root text : ℕ → List ℕ) (follows : (edge : ℕ) → Follows (root edge) (text edge)) where
  follow-empty : (edges : List ℕ) → list_all is_empty (map root edges) ≡ true → list_all is_empty (map text edges) ≡ true
  follow-empty [] all = refl
  follow-empty (edge ∷ edges) all =
      let parts = and_parts (is_empty (root edge)) (list_all is_empty (map root edges)) all in
      and_from (is_empty (text edge)) (list_all is_empty (map text edges)) ((follows edge).none parts.0) (follow-empty edges parts.1)

  either : (edges : List ℕ) (closed : Bool) → is_cutlist (map text edges) ≡ true → list_all is_empty (map text edges) ≡ true → (if closed then is_cutlist (map text edges) else list_all is_empty (map text edges)) ≡ true
  either edges true cut none = cut
  either edges false cut none = none

  empty-cut : (edges : List ℕ) → list_all is_empty (map text edges) ≡ true → is_cutlist (map text edges) ≡ true
  empty-cut [] all = refl
  empty-cut (edge ∷ edges) all =
      let parts = and_parts (is_empty (text edge)) (list_all is_empty (map text edges)) all in
      either edges (is_closed (text edge)) (empty-cut edges parts.1) parts.1

  pub follow-cut : (edges : List ℕ) → is_cutlist (map root edges) ≡ true → is_cutlist (map text edges) ≡ true
  follow-cut [] cut = refl
  follow-cut (edge ∷ edges) cut = by_closed (is_closed (root edge)) refl cut (follow-cut edges)
    where
      by_closed : (closed : Bool) → is_closed (root edge) ≡ closed → (if closed then is_cutlist (map root edges) else list_all is_empty (map root edges)) ≡ true
          → (is_cutlist (map root edges) ≡ true → is_cutlist (map text edges) ≡ true)
          → (if is_closed (text edge) then is_cutlist (map text edges) else list_all is_empty (map text edges)) ≡ true
      by_closed true is cut rest =
          ap (λ (closed : Bool). if closed then is_cutlist (map text edges) else list_all is_empty (map text edges)) ((follows edge).closed is) ∙ rest cut
      by_closed false is none rest =
          let empty = follow-empty edges none in either edges (is_closed (text edge)) (empty-cut edges empty) empty

-- lists of numbers that are compared
pub same-edges : (one other : List ℕ) → pointwise nat_eq one other ≡ true → one ≡ other
same-edges [] [] same = refl
same-edges [] (edge ∷ other) same = absurd (true≢false (sym same))
same-edges (edge ∷ one) [] same = absurd (true≢false (sym same))
same-edges (edge ∷ one) (another ∷ other) same =
    let parts = and_parts (nat_eq edge another) (pointwise nat_eq one other) same in
    ap (λ (first : ℕ). first ∷ one) (eqb-true edge another parts.0) ∙ ap (λ (rest : List ℕ). another ∷ rest) (same-edges one other parts.1)

-- a list with one item
pub record IsOne (edges : List ℕ) : Type 0 where
  pub edge : ℕ
  pub all : edges ≡ edge ∷ []

pub one-edge : (edges : List ℕ) → (length edges == 1) ≡ true → IsOne edges
one-edge [] size = absurd (true≢false (sym size))
one-edge (edge ∷ []) size = record { edge = edge; all = refl }
one-edge (edge ∷ next ∷ edges) size = (let two = eqb-true (length (edge ∷ next ∷ edges)) 1 size in absurd (omega (arith, two)))

pub only-one : (edge other : ℕ) → has edge (other ∷ []) ≡ true → other ≡ edge
only-one edge other there = ⊎_elim (λ (here : (other == edge) ≡ true). eqb-true other edge here) (λ (none : false ≡ true). absurd (true≢false (sym none))) (or_cases (other == edge) false there)

module _ (sources : List (List ℕ)) (values : ℕ → Value) (closes : (inv : Inv) → keeps_closed_of inv ≡ true → KeepsClosed inv) where
  -- an edge comes from its root: its text follows the root's, and it is of the same group
  record ComesFrom (root edge : ℕ) : Type 0 where
    text : Follows (values root).text (values edge).text
    group : (values edge).group ≡ (values root).group

  by-map : (inv : Inv) → keeps_closed_of inv ≡ true → (root before edge : ℕ) → ComesFrom root before
      → values edge ≡ with_origin (kind.Map inv) (values before ∷ []) (map_of inv (values before).text) → ComesFrom root edge
  by-map inv keeps root before edge from is =
      let law = closes inv keeps in
      let text_is : (values edge).text ≡ map_of inv (values before).text = ap text_of is in
      let group_is : (values edge).group ≡ (values before).group = ap (λ (value : Value). value.group) is ∙ append-nil (values before).group in
      let step : Follows (values before).text (values edge).text =
      subst (λ (text : List ℕ). Follows (values before).text text) (sym text_is)
      (record { closed = law.closed (values before).text; none = λ none. ap (λ (text : List ℕ). is_empty (map_of inv text)) (empty-is (values before).text none) ∙ ap is_empty law.none }) in
      record { text = follows-on (values root).text (values before).text (values edge).text from.text step; group = group_is ∙ from.group }
    where
      empty-is : (text : List ℕ) → is_empty text ≡ true → text ≡ []
      empty-is [] none = refl
      empty-is (byte ∷ text) none = absurd (true≢false (sym none))

  -- a node hands on where its edges come from
  by-node : (number : ℕ) (cell : Cell NodeKind) (node : NodeKind) → cell.kind ≡ node → has_its_ports cell ≡ true → IsMet (values_given sources) values (numbered_cell number cell)
      → (roots : ℕ → ℕ) → ((edge : ℕ) → ComesFrom (roots edge) edge) → (edge : ℕ) → keeps_ends node ≡ true → has edge cell.outs ≡ true → ComesFrom (roots (first_in cell.ins edge)) edge
  by-node number cell (kind.Map inv) is ports met roots from edge keeps there =
      let ports_is = and_parts (length cell.ins == 1) (length cell.outs == 1) (ap (λ (node : NodeKind). may_have node (length cell.ins) (length cell.outs)) (sym is) ∙ ports) in
      let ins = one-edge cell.ins ports_is.0 in
      let outs = one-edge cell.outs ports_is.1 in
      let edge_is : outs.edge ≡ edge = only-one edge outs.edge (ap (has edge) (sym outs.all) ∙ there) in
      let carried : values outs.edge ∷ [] ≡ with_origin (kind.Map inv) (values ins.edge ∷ []) (map_of inv (values ins.edge).text) ∷ [] =
      ap (map values) (sym outs.all) ∙ met ∙ ap (λ (node : NodeKind). values_given sources (number, node) (length cell.outs) (map values cell.ins)) is
      ∙ ap (λ (edges : List ℕ). values_given sources (number, kind.Map inv) (length cell.outs) (map values edges)) ins.all in
      let value : values outs.edge ≡ with_origin (kind.Map inv) (values ins.edge ∷ []) (map_of inv (values ins.edge).text) = ap (λ (all : List Value). get_or all 0 (values outs.edge)) carried in
      let root : first_in cell.ins edge ≡ ins.edge = ap (λ (edges : List ℕ). first_in edges edge) ins.all in
      by-map inv keeps (roots (first_in cell.ins edge)) ins.edge edge
      (subst (λ (it : ℕ). ComesFrom (roots it) ins.edge) (sym root) (from ins.edge))
      (ap values (sym edge_is) ∙ value)
  by-node number cell (kind.Source source) is ports met roots from edge keeps there = absurd (true≢false (sym keeps))
  by-node number cell (kind.Text text) is ports met roots from edge keeps there = absurd (true≢false (sym keeps))
  by-node number cell kind.Split is ports met roots from edge keeps there = absurd (true≢false (sym keeps))
  by-node number cell (kind.Whole inv) is ports met roots from edge keeps there = absurd (true≢false (sym keeps))
  by-node number cell (kind.Cat close) is ports met roots from edge keeps there = absurd (true≢false (sym keeps))
  by-node number cell (kind.Agg inv) is ports met roots from edge keeps there = absurd (true≢false (sym keeps))
  by-node number cell (kind.Finish inv) is ports met roots from edge keeps there = absurd (true≢false (sym keeps))
  by-node number cell (kind.TeeFile path mode) is ports met roots from edge keeps there = absurd (true≢false (sym keeps))
  by-node number cell kind.Drain is ports met roots from edge keeps there = absurd (true≢false (sym keeps))
  by-node number cell (kind.Sink sink) is ports met roots from edge keeps there = absurd (true≢false (sym keeps))

  roots-behind : (number : ℕ) (cells : List (Cell NodeKind)) → list_all has_its_ports cells ≡ true → Carries sources number cells values
      → (roots : ℕ → ℕ) → ((edge : ℕ) → ComesFrom (roots edge) edge) → (edge : ℕ) → ComesFrom (roots_behind cells roots edge) edge
  roots-behind number [] ports met roots from edge = from edge
  roots-behind number (cell ∷ cells) ports met roots from edge =
      let parts = and_parts (has_its_ports cell) (list_all has_its_ports cells) ports in
      roots-behind (next_source number cell) cells parts.1 met.1 (root_behind cell roots) (λ another. by_test another (keeps_ends cell.kind && has another cell.outs) refl parts.0) edge
    where
      by_test : (another : ℕ) (test : Bool) → (keeps_ends cell.kind && has another cell.outs) ≡ test → has_its_ports cell ≡ true → ComesFrom (if test then roots (first_in cell.ins another) else roots another) another
      by_test another true is here = let both = and_parts (keeps_ends cell.kind) (has another cell.outs) is in by-node number cell cell.kind refl here met.0 roots from another both.0 both.1
      by_test another false is here = from another

  module _ (cells : List (Cell NodeKind)) (ports : list_all has_its_ports cells ≡ true) (met : Carries sources 0 cells values) where
    pub comes-from : (edge : ℕ) → Follows (values (root_of cells edge)).text (values edge).text
    comes-from edge = (roots-behind 0 cells ports met (λ it. it) (λ it. record { text = follows-same (values it).text; group = refl }) edge).text

    pub same-group : (edge : ℕ) → (values edge).group ≡ (values (root_of cells edge)).group
    same-group edge = (roots-behind 0 cells ports met (λ it. it) (λ it. record { text = follows-same (values it).text; group = refl }) edge).group

    -- what a node says of each of its outs
    origin-at : (node : NodeKind) (ins : List Value) (edges : List ℕ) (texts : List (List ℕ)) → map values edges ≡ map (with_origin node ins) texts → (edge : ℕ) → has edge edges ≡ true
        → ((values edge).file ≡ is_file node) × ((values edge).group ≡ groups_made node ins)
    origin-at node ins [] texts same edge there = absurd (true≢false (sym there))
    origin-at node ins (first ∷ edges) [] same edge there = absurd (omega (arith, ap length same))
    origin-at node ins (first ∷ edges) (text ∷ texts) same edge there =
        let head : values first ≡ with_origin node ins text = ap (λ (all : List Value). get_or all 0 (values first)) same in
        let tail : map values edges ≡ map (with_origin node ins) texts = ap (drop 1) same in
        ⊎_elim (λ (here : (first == edge) ≡ true).
        let is : values edge ≡ with_origin node ins text = ap values (sym (eqb-true first edge here)) ∙ head in
        (ap (λ (value : Value). value.file) is, ap (λ (value : Value). value.group) is))
        (λ (here : has edge edges ≡ true). origin-at node ins edges texts tail edge here)
        (or_cases (first == edge) (has edge edges) there)

    -- the outs of a split
    split-cut : (number : ℕ) (cell : Cell NodeKind) (node : NodeKind) → cell.kind ≡ node → is_split node ≡ true → has_its_ports cell ≡ true → IsMet (values_given sources) values (numbered_cell number cell)
        → is_cutlist (map (λ edge. (values edge).text) cell.outs) ≡ true
    split-cut number cell kind.Split is split here met =
        let ins : List Value = map values cell.ins in
        let text : List ℕ = only (map text_of ins) in
        let some = (and_parts (length cell.ins == 1) (nat_le 1 (length cell.outs)) (ap (λ (node : NodeKind). may_have node (length cell.ins) (length cell.outs)) (sym is) ∙ here)).1 in
        let least = leb-true 1 (length cell.outs) some in
        let carried : map values cell.outs ≡ map (with_origin kind.Split ins) (parts_of text (length cell.outs)) =
        met ∙ ap (λ (node : NodeKind). values_given sources (number, node) (length cell.outs) ins) is in
        ap is_cutlist (sym (map-after values text_of cell.outs) ∙ ap (map text_of) carried ∙ map-after (with_origin kind.Split ins) text_of (parts_of text (length cell.outs)) ∙ map-id (parts_of text (length cell.outs)))
        ∙ parts-cut text (length cell.outs) (omega (arith, least))
    split-cut number cell (kind.Source source) is split here met = absurd (true≢false (sym split))
    split-cut number cell (kind.Text text) is split here met = absurd (true≢false (sym split))
    split-cut number cell (kind.Map inv) is split here met = absurd (true≢false (sym split))
    split-cut number cell (kind.Whole inv) is split here met = absurd (true≢false (sym split))
    split-cut number cell (kind.Cat close) is split here met = absurd (true≢false (sym split))
    split-cut number cell (kind.Agg inv) is split here met = absurd (true≢false (sym split))
    split-cut number cell (kind.Finish inv) is split here met = absurd (true≢false (sym split))
    split-cut number cell (kind.TeeFile path mode) is split here met = absurd (true≢false (sym split))
    split-cut number cell kind.Drain is split here met = absurd (true≢false (sym split))
    split-cut number cell (kind.Sink sink) is split here met = absurd (true≢false (sym split))

    split-among : (number : ℕ) (others : List (Cell NodeKind)) → list_all has_its_ports others ≡ true → Carries sources number others values → (edges : List ℕ)
        → list_any (splits_into edges) others ≡ true → is_cutlist (map (λ edge. (values edge).text) edges) ≡ true
    split-among number [] all carried edges there = absurd (true≢false (sym there))
    split-among number (cell ∷ others) all carried edges there =
        let both = and_parts (has_its_ports cell) (list_all has_its_ports others) all in
        ⊎_elim (λ (here : splits_into edges cell ≡ true).
        let is = and_parts (is_split cell.kind) (pointwise nat_eq cell.outs edges) here in
        subst (λ (it : List ℕ). is_cutlist (map (λ edge. (values edge).text) it) ≡ true) (same-edges cell.outs edges is.1) (split-cut number cell cell.kind refl is.0 both.0 carried.0))
        (λ (later : list_any (splits_into edges) others ≡ true). split-among (next_source number cell) others both.1 carried.1 edges later)
        (or_cases (splits_into edges cell) (list_any (splits_into edges) others) there)

    -- a file's edge, and a group's
    file-among : (number : ℕ) (others : List (Cell NodeKind)) → Carries sources number others values → (edge : ℕ) → has edge (files_given others) ≡ true → (values edge).file ≡ true
    file-among number [] carried edge there = absurd (true≢false (sym there))
    file-among number (cell ∷ others) carried edge there =
        ⊎_elim (λ (here : has edge (if is_file cell.kind then cell.outs else []) ≡ true). by_test (is_file cell.kind) refl here)
        (λ (later : has edge (files_given others) ≡ true). file-among (next_source number cell) others carried.1 edge later)
        (has-either edge (if is_file cell.kind then cell.outs else []) (files_given others) there)
      where
        by_test : (test : Bool) → is_file cell.kind ≡ test → has edge (if test then cell.outs else []) ≡ true → (values edge).file ≡ true
        by_test true is here =
            let ins : List Value = map values cell.ins in
            (origin-at cell.kind ins cell.outs (texts_given sources number cell.kind (length cell.outs) (map text_of ins)) carried.0 edge here).0 ∙ is
        by_test false is here = absurd (true≢false (sym here))

    no-group : (node : NodeKind) (ins : List Value) → is_file node ≡ true → groups_made node ins ≡ []
    no-group (kind.Source source) ins is = refl
    no-group (kind.Text text) ins is = absurd (true≢false (sym is))
    no-group kind.Split ins is = absurd (true≢false (sym is))
    no-group (kind.Map inv) ins is = absurd (true≢false (sym is))
    no-group (kind.Whole inv) ins is = absurd (true≢false (sym is))
    no-group (kind.Cat close) ins is = absurd (true≢false (sym is))
    no-group (kind.Agg inv) ins is = absurd (true≢false (sym is))
    no-group (kind.Finish inv) ins is = absurd (true≢false (sym is))
    no-group (kind.TeeFile path mode) ins is = absurd (true≢false (sym is))
    no-group kind.Drain ins is = absurd (true≢false (sym is))
    no-group (kind.Sink sink) ins is = absurd (true≢false (sym is))

    no-group-among : (number : ℕ) (others : List (Cell NodeKind)) → Carries sources number others values → (edge : ℕ) → has edge (files_given others) ≡ true → (values edge).group ≡ []
    no-group-among number [] carried edge there = absurd (true≢false (sym there))
    no-group-among number (cell ∷ others) carried edge there =
        ⊎_elim (λ (here : has edge (if is_file cell.kind then cell.outs else []) ≡ true). by_test (is_file cell.kind) refl here)
        (λ (later : has edge (files_given others) ≡ true). no-group-among (next_source number cell) others carried.1 edge later)
        (has-either edge (if is_file cell.kind then cell.outs else []) (files_given others) there)
      where
        by_test : (test : Bool) → is_file cell.kind ≡ test → has edge (if test then cell.outs else []) ≡ true → (values edge).group ≡ []
        by_test true is here =
            let ins : List Value = map values cell.ins in
            (origin-at cell.kind ins cell.outs (texts_given sources number cell.kind (length cell.outs) (map text_of ins)) carried.0 edge here).1 ∙ no-group cell.kind ins is
        by_test false is here = absurd (true≢false (sym here))

    -- a file comes from no group
    pub file-group : (edge : ℕ) → has edge (files_given cells) ≡ true → (values edge).group ≡ []
    file-group edge there = no-group-among 0 cells met edge there

    all-files : (ins : List ℕ) → list_all (λ edge. has edge (files_given cells)) ins ≡ true → list_all (λ (value : Value). value.file) (map values ins) ≡ true
    all-files [] all = refl
    all-files (edge ∷ ins) all =
        let both = and_parts (has edge (files_given cells)) (list_all (λ edge. has edge (files_given cells)) ins) all in
        and_from (values edge).file (list_all (λ (value : Value). value.file) (map values ins)) (file-among 0 cells met edge both.0) (all-files ins both.1)

    group-is : (number : ℕ) (cell : Cell NodeKind) (node : NodeKind) → cell.kind ≡ node → joins_plainly node ≡ true → has_its_ports cell ≡ true → IsMet (values_given sources) values (numbered_cell number cell)
        → list_all (λ edge. has edge (files_given cells)) cell.ins ≡ true → (edge : ℕ) → has edge cell.outs ≡ true → (values edge).group ≡ (values edge).text ∷ []
    group-is number cell (kind.Cat true) is plain here carried files edge there = absurd (true≢false (sym plain))
    group-is number cell (kind.Cat false) is plain here carried files edge there =
        let ins : List Value = map values cell.ins in
        let outs = one-edge cell.outs (and_parts (nat_le 1 (length cell.ins)) (length cell.outs == 1) (ap (λ (node : NodeKind). may_have node (length cell.ins) (length cell.outs)) (sym is) ∙ here)).1 in
        let edge_is : outs.edge ≡ edge = only-one edge outs.edge (ap (has edge) (sym outs.all) ∙ there) in
        let all : values outs.edge ∷ [] ≡ with_origin (kind.Cat false) ins (concat (map text_of ins)) ∷ [] =
        ap (map values) (sym outs.all) ∙ carried ∙ ap (λ (node : NodeKind). values_given sources (number, node) (length cell.outs) ins) is in
        let value : values edge ≡ with_origin (kind.Cat false) ins (concat (map text_of ins)) =
        ap values (sym edge_is) ∙ ap (λ (them : List Value). get_or them 0 (values outs.edge)) all in
        ap (λ (it : Value). it.group) value ∙ ap (λ (test : Bool). if test then concat (map text_of ins) ∷ [] else []) (all-files cell.ins files)
        ∙ ap (λ (text : List ℕ). text ∷ []) (sym (ap text_of value))
    group-is number cell (kind.Source source) is plain here carried files edge there = absurd (true≢false (sym plain))
    group-is number cell (kind.Text text) is plain here carried files edge there = absurd (true≢false (sym plain))
    group-is number cell kind.Split is plain here carried files edge there = absurd (true≢false (sym plain))
    group-is number cell (kind.Map inv) is plain here carried files edge there = absurd (true≢false (sym plain))
    group-is number cell (kind.Whole inv) is plain here carried files edge there = absurd (true≢false (sym plain))
    group-is number cell (kind.Agg inv) is plain here carried files edge there = absurd (true≢false (sym plain))
    group-is number cell (kind.Finish inv) is plain here carried files edge there = absurd (true≢false (sym plain))
    group-is number cell (kind.TeeFile path mode) is plain here carried files edge there = absurd (true≢false (sym plain))
    group-is number cell kind.Drain is plain here carried files edge there = absurd (true≢false (sym plain))
    group-is number cell (kind.Sink sink) is plain here carried files edge there = absurd (true≢false (sym plain))

    group-among : (number : ℕ) (others : List (Cell NodeKind)) → list_all has_its_ports others ≡ true → Carries sources number others values → (edge : ℕ)
        → has edge (flat_map (λ (cell : Cell NodeKind). if is_group (λ edge. has edge (files_given cells)) cell then cell.outs else []) others) ≡ true → (values edge).group ≡ (values edge).text ∷ []
    group-among number [] all carried edge there = absurd (true≢false (sym there))
    group-among number (cell ∷ others) all carried edge there =
        let both = and_parts (has_its_ports cell) (list_all has_its_ports others) all in
        let rest : List ℕ = flat_map (λ (cell : Cell NodeKind). if is_group (λ edge. has edge (files_given cells)) cell then cell.outs else []) others in
        ⊎_elim (λ (here : has edge (if is_group (λ edge. has edge (files_given cells)) cell then cell.outs else []) ≡ true). by_test (is_group (λ edge. has edge (files_given cells)) cell) refl both.0 here)
        (λ (later : has edge rest ≡ true). group-among (next_source number cell) others both.1 carried.1 edge later)
        (has-either edge (if is_group (λ edge. has edge (files_given cells)) cell then cell.outs else []) rest there)
      where
        by_test : (test : Bool) → is_group (λ edge. has edge (files_given cells)) cell ≡ test → has_its_ports cell ≡ true → has edge (if test then cell.outs else []) ≡ true → (values edge).group ≡ (values edge).text ∷ []
        by_test true is has_ports here =
            let both = and_parts (joins_plainly cell.kind) (list_all (λ edge. has edge (files_given cells)) cell.ins) is in
            group-is number cell cell.kind refl both.0 has_ports carried.0 both.1 edge here
        by_test false is has_ports here = absurd (true≢false (sym here))

    all-groups : (edges : List ℕ) → list_all (λ edge. has edge (groups_given cells)) (map (root_of cells) edges) ≡ true
        → flat_map (λ (value : Value). value.group) (map values edges) ≡ map (λ edge. (values (root_of cells edge)).text) edges
    all-groups [] all = refl
    all-groups (edge ∷ edges) all =
        let both = and_parts (has (root_of cells edge) (groups_given cells)) (list_all (λ edge. has edge (groups_given cells)) (map (root_of cells) edges)) all in
        let here : (values edge).group ≡ (values (root_of cells edge)).text ∷ [] = same-group edge ∙ group-among 0 cells ports met (root_of cells edge) both.0 in
        ap (λ (group : List (List ℕ)). group ++ flat_map (λ (value : Value). value.group) (map values edges)) here
        ∙ ap (λ (rest : List (List ℕ)). (values (root_of cells edge)).text ∷ rest) (all-groups edges both.1)

    -- what is known to be a cut list is one, where the groups among it are
    pub known-cut : (edges : List ℕ) → is_known cells edges ≡ true → is_cutlist (flat_map (λ (value : Value). value.group) (map values edges)) ≡ true
        → is_cutlist (map (λ edge. (values edge).text) edges) ≡ true
    known-cut edges known groups =
        let roots_cut : is_cutlist (map (λ edge. (values (root_of cells edge)).text) edges) ≡ true =
        ⊎_elim (λ (split : list_any (splits_into (map (root_of cells) edges)) cells ≡ true).
        ap is_cutlist (sym (map-after (root_of cells) (λ edge. (values edge).text) edges)) ∙ split-among 0 cells ports met (map (root_of cells) edges) split)
        (λ (all : list_all (λ edge. has edge (groups_given cells)) (map (root_of cells) edges) ≡ true). ap is_cutlist (sym (all-groups edges all)) ∙ groups)
        (or_cases (list_any (splits_into (map (root_of cells) edges)) cells) (list_all (λ edge. has edge (groups_given cells)) (map (root_of cells) edges)) known) in
        follow-cut (λ edge. (values (root_of cells edge)).text) (λ edge. (values edge).text) comes-from edges roots_cut
