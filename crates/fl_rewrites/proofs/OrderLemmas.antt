-- Networks in the order of their nodes: what each node hands on from its ins to its outs holds of all edges, and the values behind the last
-- node meet the equation of each. So a network is spoken of by any values that meet all equations, node by node and in no order.
use Rattle.std.proofs.Common.{◌≡◌, ℕ, ◌+◌, ◌≤◌, ◌==◌, List, [], ◌∷◌, ◌++◌, Bool, true, false, if◌then◌else◌, length, map, refl, ap, sym, ◌∙◌, append_assoc, append-nil, arith, eq-eqb, ⊎_elim}
use Rattle.std.specs.List.{flat_map}
use Rattle.std.proofs.lemmas.Bool.{true≢false, and_parts, or_cases, eqb-true, ne_eqb, false_from_ne_true, true_from_ne_false}
use Rattle.std.proofs.lemmas.List.Folds.{list_any-append}
use Rattle.std.proofs.lemmas.Grind.{flat_map-append}
use Rattle.fl_graph.specs.Net.{has, count, takes, gives, at, store, step, after, run}
use Rattle.fl_graph.specs.Checks.{takes_given, each_after}
use Rattle.fl_graph.specs.declared.graphs.Cell.{Cell}
use Rattle.fl_graph.proofs.ListLemmas.{holds-has, count-append, count-has, count-none}
use Rattle.fl_graph.proofs.NetLemmas.{Agree, values-agree, persist, has-front, has-back}

-- it holds of each item
abbrev pub Each : {X : Type 0} → (X → Type 0) → List X → Type 0
Each holds [] = Unit {0}
Each holds (x ∷ xs) = holds x × Each holds xs

pub each-append : {X : Type 0} (holds : X → Type 0) (front back : List X) → Each holds front → Each holds back → Each holds (front ++ back)
each-append holds [] back first second = second
each-append holds (x ∷ front) back first second = (first.0, each-append holds front back first.1 second)

pub each-front : {X : Type 0} (holds : X → Type 0) (front back : List X) → Each holds (front ++ back) → Each holds front
each-front holds [] back all = tt
each-front holds (x ∷ front) back all = (all.0, each-front holds front back all.1)

pub each-back : {X : Type 0} (holds : X → Type 0) (front back : List X) → Each holds (front ++ back) → Each holds back
each-back holds [] back all = all
each-back holds (x ∷ front) back all = each-back holds front back all.1

pub each-all : {X : Type 0} (holds : X → Type 0) → ((x : X) → holds x) → (xs : List X) → Each holds xs
each-all holds all [] = tt
each-all holds all (x ∷ xs) = (all x, each-all holds all xs)

-- it holds of each edge of a list
abbrev pub OfAll : (ℕ → Type 0) → List ℕ → Type 0
OfAll holds edges = (edge : ℕ) → has edge edges ≡ true → holds edge

pub of-both : (holds : ℕ → Type 0) (front back : List ℕ) → OfAll holds front → OfAll holds back → OfAll holds (front ++ back)
of-both holds front back first second edge there =
    ⊎_elim (λ (here : has edge front ≡ true). first edge here) (λ (here : has edge back ≡ true). second edge here)
    (or_cases (has edge front) (has edge back) (sym (list_any-append (λ (other : ℕ). other == edge) front back) ∙ there))

-- how often an edge is at the head of a list
pub count-here : (edge : ℕ) (edges : List ℕ) → count edge (edge ∷ edges) ≡ 1 + count edge edges
count-here edge edges = ap (λ (same : Bool). (if same then 1 else 0) + count edge edges) (eq-eqb edge edge refl)

pub absent-count : (edge : ℕ) (edges : List ℕ) → count edge edges ≡ 0 → has edge edges ≡ false
absent-count edge edges none = false_from_ne_true (has edge edges) (λ there. let some = count-has edge edges there in omega (arith, some, none))

pub present-count : (edge : ℕ) (edges : List ℕ) → 1 ≤ count edge edges → has edge edges ≡ true
present-count edge edges some = true_from_ne_false (has edge edges) (λ absent. let none = count-none edge edges absent in omega (arith, some, none))

-- values that are the same at all edges of a list
pub same-values : {Value : Type 0} (edges : List ℕ) (one other : ℕ → Value) → map one edges ≡ map other edges → Agree edges one other
same-values [] one other same edge there = absurd (true≢false (sym there))
same-values {Value} (first ∷ edges) one other same edge there =
    let head : one first ≡ other first = cc in
    let tail : map one edges ≡ map other edges = cc in
    ⊎_elim (λ (here : (first == edge) ≡ true). rw (← eqb-true first edge here) head) (λ (here : has edge edges ≡ true). same-values edges one other tail edge here)
    (or_cases (first == edge) (has edge edges) there)

-- values that are stored once at each edge are there
pub stored-values : {Value : Type 0} (edges : List ℕ) (new : List Value) (values : ℕ → Value) → length new ≡ length edges → ((edge : ℕ) → count edge edges ≤ 1)
    → map (store edges new values) edges ≡ new
stored-values [] [] values same once = refl
stored-values [] (value ∷ new) values same once = absurd (omega (arith, same))
stored-values (edge ∷ edges) [] values same once = absurd (omega (arith, same))
stored-values {Value} (edge ∷ edges) (value ∷ new) values same once =
    let rest : ℕ → Value = store edges new values in
    let here : at edge value rest edge ≡ value = ap (λ (equal : Bool). if equal then value else rest edge) (eq-eqb edge edge refl) in
    let none : count edge edges ≡ 0 = (let whole = once edge in let head = count-here edge edges in omega (arith, whole, head)) in
    let others : map (at edge value rest) edges ≡ map rest edges = values-agree edges (at edge value rest) rest (λ other there. other_kept other there none) in
    let fewer : (other : ℕ) → count other edges ≤ 1 = λ other. (let whole = once other in omega (arith, whole)) in
    ap (λ (first : Value). first ∷ map (at edge value rest) edges) here ∙ ap (λ (later : List Value). value ∷ later) (others ∙ stored-values edges new values (omega (arith, same)) fewer)
  where
    other_kept : (other : ℕ) → has other edges ≡ true → count edge edges ≡ 0 → at edge value (store edges new values) other ≡ store edges new values other
    other_kept other there none =
        ap (λ (equal : Bool). if equal then value else store edges new values other)
        (ne_eqb edge other (λ same. let some = count-has other edges there in let zero_times : count other edges ≡ 0 = rw (← same) none in omega (arith, some, zero_times)))

-- a network whose nodes take what earlier ones give, each edge once
pub record IsWired {Kind : Type 0} (cells : List (Cell Kind)) : Type 0 where
  pub once : (edge : ℕ) → count edge (gives cells) ≤ 1
  pub taken : (edge : ℕ) → count edge (takes cells) ≡ count edge (gives cells)
  pub later : each_after takes_given [] cells ≡ true

-- what each node hands on to its outs from its ins holds of all edges
pub along : {Kind : Type 0} (holds : ℕ → Type 0) (before cells : List (Cell Kind)) → each_after takes_given before cells ≡ true
    → Each (λ cell. OfAll holds cell.ins → OfAll holds cell.outs) cells → OfAll holds (gives before) → OfAll holds (gives (before ++ cells))
along holds before [] later each known edge there = known edge (ap (λ cells. has edge (gives cells)) (sym (append-nil before)) ∙ there)
along {Kind} holds before (cell ∷ cells) later each known edge there =
    let parts = and_parts (takes_given before cell) (each_after takes_given (before ++ cell ∷ []) cells) later in
    let ins : OfAll holds cell.ins = λ edge taken. known edge (holds-has (λ edge. has edge (gives before)) edge cell.ins parts.0 taken) in
    let outs : OfAll holds (cell.outs ++ []) = λ edge given. each.0 ins edge (ap (has edge) (sym (append-nil cell.outs)) ∙ given) in
    let whole : gives (before ++ cell ∷ []) ≡ gives before ++ (cell.outs ++ []) = flat_map-append (λ (cell : Cell Kind). cell.outs) before (cell ∷ []) in
    let behind : OfAll holds (gives (before ++ cell ∷ [])) = λ edge there. of-both holds (gives before) (cell.outs ++ []) known outs edge (ap (has edge) (sym whole) ∙ there) in
    along holds (before ++ cell ∷ []) cells parts.1 each.1 behind edge (ap (λ cells. has edge (gives cells)) (append_assoc before (cell ∷ []) cells) ∙ there)

-- the counts of what is given go on behind a node
once-on : {Kind : Type 0} (before : List (Cell Kind)) (cell : Cell Kind) (cells : List (Cell Kind)) → ((edge : ℕ) → count edge (gives before) + count edge (cell.outs ++ gives cells) ≤ 1)
    → (edge : ℕ) → count edge (gives (before ++ cell ∷ [])) + count edge (gives cells) ≤ 1
once-on {Kind} before cell cells once edge =
    let whole = once edge in
    let parts = count-append edge cell.outs (gives cells) in
    let behind : count edge (gives (before ++ cell ∷ [])) ≡ count edge (gives before ++ cell.outs) =
    ap (count edge) (flat_map-append (λ (cell : Cell Kind). cell.outs) before (cell ∷ []) ∙ ap (λ (outs : List ℕ). gives before ++ outs) (append-nil cell.outs)) in
    let both = count-append edge (gives before) cell.outs in
    omega (arith, whole, parts, behind, both)

module _ {Kind Value : Type 0} (equation : Kind → ℕ → List Value → List Value) where
  -- the values meet the node's equation, which has as many values as the node has outs
  abbrev pub IsMet : (ℕ → Value) → Cell Kind → Type 0
  IsMet values cell = map values cell.outs ≡ equation cell.kind (length cell.outs) (map values cell.ins)

  abbrev pub Fits : Cell Kind → Type 0
  Fits cell = (ins : List Value) → length (equation cell.kind (length cell.outs) ins) ≡ length cell.outs

  -- a node's ins have the values that they had before it
  ins-kept : (before : List (Cell Kind)) (cell : Cell Kind) (cells : List (Cell Kind)) (values : ℕ → Value) → takes_given before cell ≡ true
      → ((edge : ℕ) → count edge (gives before) + count edge (cell.outs ++ gives cells) ≤ 1)
      → map (after equation (cell ∷ cells) values) cell.ins ≡ map values cell.ins
  ins-kept before cell cells values given once =
      values-agree cell.ins (after equation (cell ∷ cells) values) values (λ edge taken. persist equation (cell ∷ cells) values edge (absent edge taken))
    where
      absent : (edge : ℕ) → has edge cell.ins ≡ true → has edge (gives (cell ∷ cells)) ≡ false
      absent edge taken =
          let some = count-has edge (gives before) (holds-has (λ edge. has edge (gives before)) edge cell.ins given taken) in
          let most = once edge in
          absent-count edge (cell.outs ++ gives cells) (omega (arith, some, most))

  met-from : (before cells : List (Cell Kind)) (values : ℕ → Value) → each_after takes_given before cells ≡ true
      → ((edge : ℕ) → count edge (gives before) + count edge (gives cells) ≤ 1) → Each Fits cells → Each (IsMet (after equation cells values)) cells
  met-from before [] values later once fits = tt
  met-from before (cell ∷ cells) values later once fits =
      let parts = and_parts (takes_given before cell) (each_after takes_given (before ++ cell ∷ []) cells) later in
      let behind : ℕ → Value = step equation cell values in
      let last : ℕ → Value = after equation cells behind in
      let ins : map last cell.ins ≡ map values cell.ins = ins-kept before cell cells values parts.0 once in
      let outs : map last cell.outs ≡ map behind cell.outs = values-agree cell.outs last behind (λ edge given. persist equation cells behind edge (absent edge given)) in
      let stored : map behind cell.outs ≡ equation cell.kind (length cell.outs) (map values cell.ins) =
      stored-values cell.outs (equation cell.kind (length cell.outs) (map values cell.ins)) values (fits.0 (map values cell.ins)) few in
      (outs ∙ stored ∙ ap (equation cell.kind (length cell.outs)) (sym ins), met-from (before ++ cell ∷ []) cells behind parts.1 (once-on before cell cells once) fits.1)
    where
      few : (edge : ℕ) → count edge cell.outs ≤ 1
      few edge = let most = once edge in let parts = count-append edge cell.outs (gives cells) in omega (arith, most, parts)

      absent : (edge : ℕ) → has edge cell.outs ≡ true → has edge (gives cells) ≡ false
      absent edge given =
          let some = count-has edge cell.outs given in
          let most = once edge in
          let parts = count-append edge cell.outs (gives cells) in
          absent-count edge (gives cells) (omega (arith, some, most, parts))

  -- the values behind a network meet its equations
  pub after-met : (cells : List (Cell Kind)) (values : ℕ → Value) → IsWired cells → Each Fits cells → Each (IsMet (after equation cells values)) cells
  after-met cells values wired fits = met-from [] cells values wired.later (λ edge. let most = wired.once edge in omega (arith, most)) fits

  -- values that agree on a network's edges meet the same equations
  pub met-agree : (cells : List (Cell Kind)) (one other : ℕ → Value) → Agree (takes cells) one other → Agree (gives cells) one other → Each (IsMet one) cells → Each (IsMet other) cells
  met-agree [] one other taken given met = tt
  met-agree (cell ∷ cells) one other taken given met =
      let ins : map one cell.ins ≡ map other cell.ins = values-agree cell.ins one other (λ edge there. taken edge (has-front edge cell.ins (takes cells) there)) in
      let outs : map one cell.outs ≡ map other cell.outs = values-agree cell.outs one other (λ edge there. given edge (has-front edge cell.outs (gives cells) there)) in (
        sym outs ∙ met.0 ∙ ap (equation cell.kind (length cell.outs)) ins,
        met-agree cells one other (λ edge there. taken edge (has-back edge cell.ins (takes cells) there)) (λ edge there. given edge (has-back edge cell.outs (gives cells) there)) met.1,
      )

  handed-on : (cells : List (Cell Kind)) (one other : ℕ → Value) → Each (IsMet one) cells → Each (IsMet other) cells
      → Each (λ cell. OfAll (λ edge. one edge ≡ other edge) cell.ins → OfAll (λ edge. one edge ≡ other edge) cell.outs) cells
  handed-on [] one other first second = tt
  handed-on (cell ∷ cells) one other first second = (
    λ agree. same-values cell.outs one other (first.0 ∙ ap (equation cell.kind (length cell.outs)) (values-agree cell.ins one other agree) ∙ sym second.0),
    handed-on cells one other first.1 second.1,
  )

  -- so they are the only values that do
  pub only-met : (cells : List (Cell Kind)) (one other : ℕ → Value) → IsWired cells → Each (IsMet one) cells → Each (IsMet other) cells → Agree (gives cells) one other
  only-met cells one other wired first second =
      along (λ edge. one edge ≡ other edge) [] cells wired.later (handed-on cells one other first second) (λ edge none. absurd (true≢false (sym none)))

module _ {Kind Value Told : Type 0} (tell : Kind → List Value → List Told) where
  -- what the nodes tell of these values
  abbrev pub told : (ℕ → Value) → List (Cell Kind) → List Told
  told values cells = flat_map (λ cell. tell cell.kind (map values cell.ins)) cells

  pub told-agree : (cells : List (Cell Kind)) (one other : ℕ → Value) → Agree (takes cells) one other → told one cells ≡ told other cells
  told-agree [] one other agree = refl
  told-agree (cell ∷ cells) one other agree =
      let ins : map one cell.ins ≡ map other cell.ins = values-agree cell.ins one other (λ edge there. agree edge (has-front edge cell.ins (takes cells) there)) in
      ap (λ (values : List Value). tell cell.kind values ++ told one cells) ins
      ∙ ap (λ (rest : List Told). tell cell.kind (map other cell.ins) ++ rest) (told-agree cells one other (λ edge there. agree edge (has-back edge cell.ins (takes cells) there)))

module _ {Kind Value Told : Type 0} (equation : Kind → ℕ → List Value → List Value) (tell : Kind → List Value → List Told) where
  told-from : (before cells : List (Cell Kind)) (values : ℕ → Value) → each_after takes_given before cells ≡ true
      → ((edge : ℕ) → count edge (gives before) + count edge (gives cells) ≤ 1) → run equation tell cells values ≡ told tell (after equation cells values) cells
  told-from before [] values later once = refl
  told-from before (cell ∷ cells) values later once =
      let parts = and_parts (takes_given before cell) (each_after takes_given (before ++ cell ∷ []) cells) later in
      let behind : ℕ → Value = step equation cell values in
      let last : ℕ → Value = after equation cells behind in
      let ins : map last cell.ins ≡ map values cell.ins = ins-kept equation before cell cells values parts.0 once in
      ap (λ (ins : List Value). tell cell.kind ins ++ run equation tell cells behind) (sym ins)
      ∙ ap (λ (rest : List Told). tell cell.kind (map last cell.ins) ++ rest) (told-from (before ++ cell ∷ []) cells behind parts.1 (once-on before cell cells once))

  -- a network tells what its nodes tell of any values that meet its equations
  pub told-met : (cells : List (Cell Kind)) (values known : ℕ → Value) → IsWired cells → Each (Fits equation) cells → Each (IsMet equation known) cells
      → run equation tell cells values ≡ told tell known cells
  told-met cells values known wired fits met =
      let last : ℕ → Value = after equation cells values in
      let same : Agree (gives cells) last known = only-met equation cells last known wired (after-met equation cells values wired fits) met in
      told-from [] cells values wired.later (λ edge. let most = wired.once edge in omega (arith, most))
      ∙ told-agree tell cells last known (λ edge there. same edge (present-count edge (gives cells) (let some = count-has edge (takes cells) there in let both = wired.taken edge in omega (arith, some, both))))
