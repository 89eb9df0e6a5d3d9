-- Laws of networks, whatever their nodes do.
use Rattle.std.proofs.Common.{◌≡◌, ℕ, ◌==◌, List, [], ◌∷◌, ◌++◌, Bool, true, false, ◌&&◌, ◌||◌, if◌then◌else◌, length, replicate, refl, ap, sym, ◌∙◌, map, append_assoc, eq-eqb}
use Rattle.std.specs.List.{AllZip}
use Rattle.std.proofs.lemmas.Bool.{or_parts, or_left, or_right}
use Rattle.std.proofs.lemmas.List.Folds.{list_all-append, list_any-append}
use Rattle.fl_graph.specs.Net.{has, takes, gives, store, step, after, run}
use Rattle.fl_graph.specs.declared.graphs.Cell.{Cell}
use Rattle.fl_graph.specs.Makers.{all_hold}
use Rattle.fl_graph.specs.Checks.{each_after}

module _ {Kind Value : Type 0} (equation : Kind → ℕ → List Value → List Value) where
  -- the values behind two parts of a network are those behind the second, from those behind the first
  pub after-append : (front back : List (Cell Kind)) (values : ℕ → Value) → after equation (front ++ back) values ≡ after equation back (after equation front values)
  after-append [] back values = refl
  after-append (cell ∷ front) back values = after-append front back (step equation cell values)

module _ {Kind Value Told : Type 0} (equation : Kind → ℕ → List Value → List Value) (tell : Kind → List Value → List Told) where
  -- two parts of a network tell what the one tells and then what the other does behind it
  pub run-append : (front back : List (Cell Kind)) (values : ℕ → Value) → run equation tell (front ++ back) values ≡ run equation tell front values ++ run equation tell back (after equation front values)
  run-append [] back values = refl
  run-append (cell ∷ front) back values =
      let told = tell cell.kind (map values cell.ins) in
      let rest : run equation tell (front ++ back) (step equation cell values) ≡ run equation tell front (step equation cell values) ++ run equation tell back (after equation front (step equation cell values)) = run-append front back (step equation cell values) in
      ap (λ others. told ++ others) rest ∙ sym (append_assoc told (run equation tell front (step equation cell values)) (run equation tell back (after equation front (step equation cell values))))

-- edges that are stored with one value have it, and the others what they had
pub store-all : {Value : Type 0} (edges : List ℕ) (value : Value) (values : ℕ → Value) (edge : ℕ)
    → store edges (replicate (length edges) value) values edge ≡ (if has edge edges then value else values edge)
store-all [] value values edge = refl
store-all {Value} (other ∷ edges) value values edge =
    choice (other == edge) (has edge edges) (store edges (replicate (length edges) value) values edge) (store-all edges value values edge)
  where
    choice : (equal more : Bool) (stored : Value) → stored ≡ (if more then value else values edge)
        → (if equal then value else stored) ≡ (if equal || more then value else values edge)
    choice true more stored rest = refl
    choice false more stored rest = rest

-- what nodes tell of the edges behind those before them, as a test of each node and those before it
module _ {Kind Value : Type 0} (equation : Kind → ℕ → List Value → List Value) (tell : Kind → List Value → List Bool) (start : ℕ → Value)
    (test : List (Cell Kind) → Cell Kind → Bool)
    (agree : (before : List (Cell Kind)) (cell : Cell Kind) → all_hold (tell cell.kind (map (after equation before start) cell.ins)) ≡ test before cell) where
  pub told_each : (before cells : List (Cell Kind)) → all_hold (run equation tell cells (after equation before start)) ≡ each_after test before cells
  told_each before [] = refl
  told_each before (cell ∷ cells) =
      let values = after equation before start in
      let told = tell cell.kind (map values cell.ins) in
      let others = run equation tell cells (step equation cell values) in
      let behind : step equation cell values ≡ after equation (before ++ cell ∷ []) start = sym (after-append equation before (cell ∷ []) start) in
      let rest : all_hold others ≡ each_after test (before ++ cell ∷ []) cells =
      ap (λ (v : ℕ → Value). all_hold (run equation tell cells v)) behind ∙ told_each (before ++ cell ∷ []) cells in
      list_all-append (λ (holds : Bool). holds) told others ∙ ap (λ (first : Bool). first && all_hold others) (agree before cell) ∙ ap (λ (last : Bool). test before cell && last) rest

-- two environments have the same values at these edges
abbrev pub Agree : {Value : Type 0} → List ℕ → (ℕ → Value) → (ℕ → Value) → Type 0
Agree edges one other = (edge : ℕ) → has edge edges ≡ true → one edge ≡ other edge

-- an edge of one of two lists is an edge of both together
pub has-front : (edge : ℕ) (front back : List ℕ) → has edge front ≡ true → has edge (front ++ back) ≡ true
has-front edge front back there = list_any-append (λ (other : ℕ). other == edge) front back ∙ or_left (has edge front) (has edge back) there

pub has-back : (edge : ℕ) (front back : List ℕ) → has edge back ≡ true → has edge (front ++ back) ≡ true
has-back edge front back there = list_any-append (λ (other : ℕ). other == edge) front back ∙ or_right (has edge front) (has edge back) there

pub has-neither : (edge : ℕ) (front back : List ℕ) → has edge (front ++ back) ≡ false → (has edge front ≡ false) × (has edge back ≡ false)
has-neither edge front back none = or_parts (has edge front) (has edge back) (sym (list_any-append (λ (other : ℕ). other == edge) front back) ∙ none)

-- the values of edges at which environments agree
pub values-agree : {Value : Type 0} (edges : List ℕ) (one other : ℕ → Value) → Agree edges one other → map one edges ≡ map other edges
values-agree [] one other agree = refl
values-agree {Value} (edge ∷ edges) one other agree =
    let first = agree edge (or_left (edge == edge) (has edge edges) (eq-eqb edge edge refl)) in
    let rest = values-agree edges one other (λ another there. agree another (or_right (edge == another) (has another edges) there)) in
    ap (λ (value : Value). value ∷ map one edges) first ∙ ap (λ (values : List Value). other edge ∷ values) rest

-- storing keeps the values of other edges, and agreement
pub store-other : {Value : Type 0} (edges : List ℕ) (new : List Value) (values : ℕ → Value) (edge : ℕ) → has edge edges ≡ false → store edges new values edge ≡ values edge
store-other [] new values edge none = refl
store-other (first ∷ edges) [] values edge none = refl
store-other {Value} (first ∷ edges) (value ∷ new) values edge none =
    let parts = or_parts (first == edge) (has edge edges) none in
    ap (λ (here : Bool). if here then value else store edges new values edge) parts.0 ∙ store-other edges new values edge parts.1

pub store-agree : {Value : Type 0} (edges : List ℕ) (new : List Value) (one other : ℕ → Value) (edge : ℕ) → one edge ≡ other edge → store edges new one edge ≡ store edges new other edge
store-agree [] new one other edge same = same
store-agree (first ∷ edges) [] one other edge same = same
store-agree {Value} (first ∷ edges) (value ∷ new) one other edge same = ap (λ (stored : Value). if first == edge then value else stored) (store-agree edges new one other edge same)

module _ {Kind Value : Type 0} (equation : Kind → ℕ → List Value → List Value) where
  pub step-agree : (cell : Cell Kind) (one other : ℕ → Value) → map one cell.ins ≡ map other cell.ins → (edge : ℕ) → one edge ≡ other edge → step equation cell one edge ≡ step equation cell other edge
  step-agree cell one other ins edge same =
      ap (λ (values : List Value). store cell.outs (equation cell.kind (length cell.outs) values) one edge) ins
      ∙ store-agree cell.outs (equation cell.kind (length cell.outs) (map other cell.ins)) one other edge same

  -- the values behind a network that takes what environments agree on
  pub after-same : (cells : List (Cell Kind)) (one other : ℕ → Value) → Agree (takes cells) one other → (edge : ℕ) → one edge ≡ other edge → after equation cells one edge ≡ after equation cells other edge
  after-same [] one other agree edge same = same
  after-same (cell ∷ cells) one other agree edge same =
      let ins = values-agree cell.ins one other (λ another there. agree another (has-front another cell.ins (takes cells) there)) in
      after-same cells (step equation cell one) (step equation cell other)
      (λ another there. step-agree cell one other ins another (agree another (has-back another cell.ins (takes cells) there)))
      edge (step-agree cell one other ins edge same)

  -- an edge that the network doesn't give keeps its value
  pub persist : (cells : List (Cell Kind)) (values : ℕ → Value) (edge : ℕ) → has edge (gives cells) ≡ false → after equation cells values edge ≡ values edge
  persist [] values edge none = refl
  persist (cell ∷ cells) values edge none =
      let parts = has-neither edge cell.outs (gives cells) none in
      persist cells (step equation cell values) edge parts.1 ∙ store-other cell.outs (equation cell.kind (length cell.outs) (map values cell.ins)) values edge parts.0

module _ {Kind Value Told : Type 0} (equation : Kind → ℕ → List Value → List Value) (tell : Kind → List Value → List Told) where
  -- a network tells the same in environments that agree on what it takes
  pub run-same : (cells : List (Cell Kind)) (one other : ℕ → Value) → Agree (takes cells) one other → run equation tell cells one ≡ run equation tell cells other
  run-same [] one other agree = refl
  run-same (cell ∷ cells) one other agree =
      let ins = values-agree cell.ins one other (λ another there. agree another (has-front another cell.ins (takes cells) there)) in
      ap (λ (values : List Value). tell cell.kind values ++ run equation tell cells (step equation cell one)) ins
      ∙ ap (λ (rest : List Told). tell cell.kind (map other cell.ins) ++ rest)
      (run-same cells (step equation cell one) (step equation cell other)
      (λ another there. step-agree equation cell one other ins another (agree another (has-back another cell.ins (takes cells) there))))

  -- a part of a network may be replaced by one that tells the same, and leaves the same values to what follows
  pub run-spliced : (front part new back : List (Cell Kind)) (values : ℕ → Value)
      → run equation tell part (after equation front values) ≡ run equation tell new (after equation front values)
      → Agree (takes back) (after equation part (after equation front values)) (after equation new (after equation front values))
      → run equation tell (front ++ (part ++ back)) values ≡ run equation tell (front ++ (new ++ back)) values
  run-spliced front part new back values same agree =
      let behind = after equation front values in
      let told = run equation tell front values in
      let rest_told : run equation tell (part ++ back) behind ≡ run equation tell (new ++ back) behind =
      run-append equation tell part back behind
      ∙ ap (λ (first : List Told). first ++ run equation tell back (after equation part behind)) same
      ∙ ap (λ (last : List Told). run equation tell new behind ++ last) (run-same back (after equation part behind) (after equation new behind) agree)
      ∙ sym (run-append equation tell new back behind) in
      run-append equation tell front (part ++ back) values ∙ ap (λ (rest : List Told). told ++ rest) rest_told ∙ sym (run-append equation tell front (new ++ back) values)

-- relations of values, edge by edge
pub AllZip-append : {X Y : Type 0} (Related : X → Y → Type 0) (front : List X) (others : List Y) (back : List X) (more : List Y)
    → AllZip Related front others → AllZip Related back more → AllZip Related (front ++ back) (others ++ more)
AllZip-append Related [] [] back more first rest = rest
AllZip-append Related [] (y ∷ others) back more first rest = absurd first
AllZip-append Related (x ∷ front) [] back more first rest = absurd first
AllZip-append Related (x ∷ front) (y ∷ others) back more first rest = (first.0, AllZip-append Related front others back more first.1 rest)

module _ {One Other : Type 0} (Related : One → Other → Type 0) where
  pub values-related : (edges : List ℕ) (one : ℕ → One) (other : ℕ → Other) → ((edge : ℕ) → Related (one edge) (other edge)) → AllZip Related (map one edges) (map other edges)
  values-related [] one other related = tt
  values-related (edge ∷ edges) one other related = (related edge, values-related edges one other related)

  pub store-related : (edges : List ℕ) (new : List One) (others : List Other) (one : ℕ → One) (other : ℕ → Other) (edge : ℕ)
      → AllZip Related new others → Related (one edge) (other edge) → Related (store edges new one edge) (store edges others other edge)
  store-related [] new others one other edge all related = related
  store-related (first ∷ edges) [] [] one other edge all related = related
  store-related (first ∷ edges) [] (y ∷ others) one other edge all related = absurd all
  store-related (first ∷ edges) (x ∷ new) [] one other edge all related = absurd all
  store-related (first ∷ edges) (x ∷ new) (y ∷ others) one other edge all related = choice (first == edge) (store-related edges new others one other edge all.1 related)
    where
      choice : (here : Bool) → Related (store edges new one edge) (store edges others other edge)
          → Related (if here then x else store edges new one edge) (if here then y else store edges others other edge)
      choice true rest = all.0
      choice false rest = rest

-- two readings of one network, by equations that keep a relation: the edges' values are related behind it
module _ {Kind One Other : Type 0} (equation : Kind → ℕ → List One → List One) (another : Kind → ℕ → List Other → List Other) (Related : One → Other → Type 0)
    (kept : (node : Kind) (outs : ℕ) (ones : List One) (others : List Other) → AllZip Related ones others → AllZip Related (equation node outs ones) (another node outs others)) where
  pub step-related : (cell : Cell Kind) (one : ℕ → One) (other : ℕ → Other) → ((edge : ℕ) → Related (one edge) (other edge)) → (edge : ℕ) → Related (step equation cell one edge) (step another cell other edge)
  step-related cell one other related edge =
      store-related Related cell.outs (equation cell.kind (length cell.outs) (map one cell.ins)) (another cell.kind (length cell.outs) (map other cell.ins)) one other edge
      (kept cell.kind (length cell.outs) (map one cell.ins) (map other cell.ins) (values-related Related cell.ins one other related)) (related edge)

  pub after-related : (cells : List (Cell Kind)) (one : ℕ → One) (other : ℕ → Other) → ((edge : ℕ) → Related (one edge) (other edge)) → (edge : ℕ) → Related (after equation cells one edge) (after another cells other edge)
  after-related [] one other related edge = related edge
  after-related (cell ∷ cells) one other related edge = after-related cells (step equation cell one) (step another cell other) (step-related cell one other related) edge

  -- and what is told, by tellings that keep another
  module _ {Told Said : Type 0} (tell : Kind → List One → List Told) (say : Kind → List Other → List Said) (Alike : Told → Said → Type 0)
      (told : (node : Kind) (ones : List One) (others : List Other) → AllZip Related ones others → AllZip Alike (tell node ones) (say node others)) where
    pub run-related : (cells : List (Cell Kind)) (one : ℕ → One) (other : ℕ → Other) → ((edge : ℕ) → Related (one edge) (other edge)) → AllZip Alike (run equation tell cells one) (run another say cells other)
    run-related [] one other related = tt
    run-related (cell ∷ cells) one other related =
        AllZip-append Alike (tell cell.kind (map one cell.ins)) (say cell.kind (map other cell.ins)) (run equation tell cells (step equation cell one)) (run another say cells (step another cell other))
        (told cell.kind (map one cell.ins) (map other cell.ins) (values-related Related cell.ins one other related))
        (run-related cells (step equation cell one) (step another cell other) (step-related cell one other related))
