-- Halves that are put at the numbers of their edges.
use Rattle.std.proofs.Common.{◌≡◌, ◌≢◌, ℕ, zero, suc, ◌+◌, ◌<◌, ◌≤◌, ◌==◌, ◌||◌, List, [], ◌∷◌, ◌++◌, Bool, true, false, if◌then◌else◌, map, length, get_or, drop, slice_set, Option, Some, None, is_some, refl, ap, sym, subst, ◌∙◌, arith, eq-eqb}
use Rattle.std.proofs.lemmas.Bool.{true≢false, or_left, or_parts, or_right, ne_eqb, eqb-true}
use Rattle.std.specs.Global.{Vec}
use Rattle.std.specs.List.{flat_map}
use Rattle.std.proofs.lemmas.List.Folds.{list_any-append}
use Rattle.fl_graph.specs.Net.{count, gives, has}
use Rattle.fl_graph.specs.declared.graphs.Cell.{Cell}
use Rattle.fl_graph.specs.declared.kinds.NodeKind.{NodeKind}
use Rattle.fl_graph.proofs.ListLemmas.{count-has}
use Rattle.fl_nodes.specs.Stashes.{half_of}
use Rattle.fl_relay.specs.declared.edges.EdgeGiver.{EdgeGiver}
use Rattle.fl_threads.specs.Threads.{EachOf}
use Rattle.fl_edges.specs.Settled.{all_of, put_all}
use Rattle.fl_edges.proofs.EachLemmas.{each-first, each-none, parts-first}

some_is : {X : Type 0} (one other : X) → Some one ≡ Some other → one ≡ other
some_is one other is = cc

pub put_all-append : {Half : Type 0} (stash : List (Option Half)) (front back : List ℕ) (halves others : List Half) → length halves ≡ length front
    → put_all stash (front ++ back) (halves ++ others) ≡ put_all (put_all stash front halves) back others
put_all-append stash [] back [] others same = refl
put_all-append stash [] back (half ∷ halves) others same = absurd (omega (arith, same))
put_all-append stash (edge ∷ front) back [] others same = absurd (omega (arith, same))
put_all-append stash (edge ∷ front) back (half ∷ halves) others same = put_all-append (slice_set stash edge (Some half)) front back halves others (omega (arith, same))

-- a half that is put lies at its number, and elsewhere lies what lay there
set-same : {Half : Type 0} (stash : List (Option Half)) (edge : ℕ) (half : Half) → edge < length stash → half_of (slice_set stash edge (Some half)) edge ≡ Some half
set-same [] edge half within = absurd (omega (arith, within))
set-same (first ∷ stash) zero half within = refl
set-same (first ∷ stash) (suc edge) half within = set-same stash edge half (omega (arith, within))

set-other : {Half : Type 0} (stash : List (Option Half)) (edge other : ℕ) (half : Half) → other ≢ edge → half_of (slice_set stash edge (Some half)) other ≡ half_of stash other
set-other [] edge other half apart = refl
set-other (first ∷ stash) zero zero half apart = absurd (apart refl)
set-other (first ∷ stash) zero (suc other) half apart = refl
set-other (first ∷ stash) (suc edge) zero half apart = refl
set-other (first ∷ stash) (suc edge) (suc other) half apart = set-other stash edge other half (λ same. apart (ap suc same))

set-length : {Half : Type 0} (stash : List (Option Half)) (edge : ℕ) (half : Option Half) → length (slice_set stash edge half) ≡ length stash
set-length [] edge half = refl
set-length (first ∷ stash) zero half = refl
set-length (first ∷ stash) (suc edge) half = ap suc (set-length stash edge half)

put_all-other : {Half : Type 0} (stash : List (Option Half)) (edges : List ℕ) (halves : List Half) (other : ℕ) → has other edges ≡ false
    → half_of (put_all stash edges halves) other ≡ half_of stash other
put_all-other stash [] halves other none = refl
put_all-other stash (edge ∷ edges) [] other none = refl
put_all-other stash (edge ∷ edges) (half ∷ halves) other none =
    let parts = or_parts (edge == other) (has other edges) none in
    put_all-other (slice_set stash edge (Some half)) edges halves other parts.1
    ∙ set-other stash edge other half (λ same. true≢false (sym (eq-eqb edge other (sym same)) ∙ parts.0))

-- an edge that stands once in front doesn't stand behind
once-front : (edge : ℕ) (edges : List ℕ) → count edge (edge ∷ edges) ≤ 1 → has edge edges ≡ false
once-front edge edges once = by_has (has edge edges) refl
  where
    by_has : (there : Bool) → has edge edges ≡ there → there ≡ false
    by_has false is = refl
    by_has true is =
        let some = count-has edge edges is in
        let one : count edge (edge ∷ edges) ≡ 1 + count edge edges = ap (λ (it : Bool). (if it then 1 else 0) + count edge edges) (eq-eqb edge edge refl) in
        absurd (omega (arith, some, one, once))

once-rest : (first : ℕ) (edges : List ℕ) → ((edge : ℕ) → count edge (first ∷ edges) ≤ 1) → (edge : ℕ) → count edge edges ≤ 1
once-rest first edges once edge = by_here (first == edge) (once edge)
  where
    by_here : (here : Bool) → (if here then 1 else 0) + count edge edges ≤ 1 → count edge edges ≤ 1
    by_here true most = omega (arith, most)
    by_here false most = omega (arith, most)

-- where no number stands twice, each half lies at its own
pub put_all-lies : {Half : Type 0} (stash : List (Option Half)) (edges : List ℕ) (halves : List Half) → length halves ≡ length edges → ((edge : ℕ) → count edge edges ≤ 1)
    → ((edge : ℕ) → has edge edges ≡ true → edge < length stash) → map (half_of (put_all stash edges halves)) edges ≡ map Some halves
put_all-lies stash [] [] same once below = refl
put_all-lies stash [] (half ∷ halves) same once below = absurd (omega (arith, same))
put_all-lies stash (edge ∷ edges) [] same once below = absurd (omega (arith, same))
put_all-lies {Half} stash (edge ∷ edges) (half ∷ halves) same once below =
    let grown : List (Option Half) = slice_set stash edge (Some half) in
    let here : half_of (put_all grown edges halves) edge ≡ Some half =
    put_all-other grown edges halves edge (once-front edge edges (once edge)) ∙ set-same stash edge half (below edge (or_left (edge == edge) (has edge edges) (eq-eqb edge edge refl))) in
    ap (λ (it : Option Half). it ∷ map (half_of (put_all grown edges halves)) edges) here
    ∙ ap (λ (it : List (Option Half)). Some half ∷ it)
    (put_all-lies grown edges halves (omega (arith, same)) (once-rest edge edges once)
    (λ other there.
    let wide = set-length stash edge (Some half) in
    let low = below other (or_right_of (edge == other) (has other edges) there) in
    omega (arith, wide, low)))
  where
    or_right_of : (one other : Bool) → other ≡ true → (one || other) ≡ true
    or_right_of true other is = refl
    or_right_of false other is = is

-- so at the number of each of these edges lies one
pub lies-there : {Half : Type 0} (stash : List (Option Half)) (edges : List ℕ) (halves : List Half) (edge : ℕ) → map (half_of stash) edges ≡ map Some halves → has edge edges ≡ true
    → is_some (half_of stash edge) ≡ true
lies-there stash [] halves edge lies there = absurd (true≢false (sym there))
lies-there stash (first ∷ edges) [] edge lies there = absurd (cc)
lies-there stash (first ∷ edges) (half ∷ halves) edge lies there =
    by_here (first == edge) refl there (λ some. lies-there stash edges halves edge (let rest : map (half_of stash) edges ≡ map Some halves = cc in rest) some)
  where
    by_here : (here : Bool) → (first == edge) ≡ here → (here || has edge edges) ≡ true → (has edge edges ≡ true → is_some (half_of stash edge) ≡ true) → is_some (half_of stash edge) ≡ true
    by_here true is some behind =
        let lie : half_of stash first ≡ Some half = cc in
        ap is_some (ap (half_of stash) (sym (eqb-true first edge is)) ∙ lie)
    by_here false is some behind = behind some

-- what is told of each of the halves is told of what lies at the edges
pub lies-told : {Half Told : Type 0} (tell : Half → Told) (told : Option Half → Told) → ((half : Half) → told (Some half) ≡ tell half) → (stash : List (Option Half)) (edges : List ℕ) (halves : List Half)
    → map (half_of stash) edges ≡ map Some halves → map (λ edge. told (half_of stash edge)) edges ≡ map tell halves
lies-told tell told same stash [] [] lies = refl
lies-told tell told same stash [] (half ∷ halves) lies = absurd (cc)
lies-told tell told same stash (edge ∷ edges) [] lies = absurd (cc)
lies-told {Half} {Told} tell told same stash (edge ∷ edges) (half ∷ halves) lies =
    let here : half_of stash edge ≡ Some half = cc in
    let rest : map (half_of stash) edges ≡ map Some halves = cc in
    ap (λ (it : Told). it ∷ map (λ (edge : ℕ). told (half_of stash edge)) edges) (ap told here ∙ same half)
    ∙ ap (λ (it : List Told). tell half ∷ it) (lies-told tell told same stash edges halves rest)

-- the names of halves that are put are those of their numbers, where those of all that lay there were
set-named : {Half Named : Type 0} (name : Half → Named) (named : ℕ → Named) (stash : List (Option Half)) (edge : ℕ) (half : Half) → name half ≡ named edge
    → ((other : ℕ) (it : Half) → half_of stash other ≡ Some it → name it ≡ named other)
    → (other : ℕ) (it : Half) → half_of (slice_set stash edge (Some half)) other ≡ Some it → name it ≡ named other
set-named name named [] edge half here each other it is = absurd (cc)
set-named name named (first ∷ stash) zero half here each zero it is = ap name (sym (some_is half it is)) ∙ here
set-named name named (first ∷ stash) zero half here each (suc other) it is = each (suc other) it is
set-named name named (first ∷ stash) (suc edge) half here each zero it is = each zero it is
set-named name named (first ∷ stash) (suc edge) half here each (suc other) it is = set-named name (λ place. named (suc place)) stash edge half here (λ place. each (suc place)) other it is

pub put_all-named : {Half Named : Type 0} (name : Half → Named) (named : ℕ → Named) (stash : List (Option Half)) (edges : List ℕ) (halves : List Half) → map name halves ≡ map named edges
    → ((other : ℕ) (it : Half) → half_of stash other ≡ Some it → name it ≡ named other)
    → (other : ℕ) (it : Half) → half_of (put_all stash edges halves) other ≡ Some it → name it ≡ named other
put_all-named name named stash [] halves are each = each
put_all-named name named stash (edge ∷ edges) [] are each = each
put_all-named name named stash (edge ∷ edges) (half ∷ halves) are each =
    put_all-named name named (slice_set stash edge (Some half)) edges halves (let rest : map name halves ≡ map named edges = cc in rest)
    (set-named name named stash edge half (let here : name half ≡ named edge = cc in here) each)

-- along the edges of a node: where a giver is left there is an edge for it
pub place-within : {Half : Type 0} (edges : List ℕ) (place : ℕ) (half : Half) (rest left : List Half) → left ≡ half ∷ rest → length left ≡ length (drop place edges) → place < length edges
place-within edges place half rest left is same = at edges place (sym (ap length is) ∙ same)
  where
    at : (edges : List ℕ) (place : ℕ) → suc (length rest) ≡ length (drop place edges) → place < length edges
    at [] zero same = absurd (omega (arith, same))
    at [] (suc place) same = absurd (omega (arith, same))
    at (edge ∷ edges) zero same = omega arith
    at (edge ∷ edges) (suc place) same = let within = at edges place same in omega (arith, within)

pub has-at : (edges : List ℕ) (place : ℕ) → place < length edges → has (get_or edges place 0) edges ≡ true
has-at [] place within = absurd (omega (arith, within))
has-at (edge ∷ edges) zero within = or_left (edge == edge) (has edge edges) (eq-eqb edge edge refl)
has-at (edge ∷ edges) (suc place) within = behind (edge == get_or edges place 0) (has-at edges place (omega (arith, within)))
  where
    behind : (here : Bool) {there : Bool} → there ≡ true → (here || there) ≡ true
    behind true is = refl
    behind false is = is

-- the edges of a node are among those of all
pub part-has : (part : Cell NodeKind → List ℕ) (nodes : List (Cell NodeKind)) (node : ℕ) (cell : Cell NodeKind) (edge : ℕ) → node < length nodes → cell ≡ get_or nodes node cell
    → has edge (part cell) ≡ true → has edge (flat_map part nodes) ≡ true
part-has part [] node cell edge within same there = absurd (omega (arith, within))
part-has part (first ∷ nodes) zero cell edge within same there =
    list_any-append (λ (other : ℕ). other == edge) (part first) (flat_map part nodes)
    ∙ or_left (has edge (part first)) (has edge (flat_map part nodes)) (ap (λ (it : Cell NodeKind). has edge (part it)) (sym same) ∙ there)
part-has part (first ∷ nodes) (suc node) cell edge within same there =
    list_any-append (λ (other : ℕ). other == edge) (part first) (flat_map part nodes)
    ∙ or_right (has edge (part first)) (has edge (flat_map part nodes)) (part-has part nodes node cell edge (omega (arith, within)) same there)

-- along the nodes: the givers of one are put, and then those of the rest
module _ (nodes : List (Cell NodeKind)) (node : ℕ) (cell : Cell NodeKind) (own : Vec EdgeGiver) (rest left : List (Vec EdgeGiver)) (is : left ≡ own ∷ rest) (within : node < length nodes)
    (same : cell ≡ get_or nodes node cell) (counted : EachOf (λ cell own. length own.items ≡ length cell.outs) (drop node nodes) left) where
  pub counted-here : length own.items ≡ length cell.outs
  counted-here = each-first (λ (cell : Cell NodeKind) (own : Vec EdgeGiver). length own.items ≡ length cell.outs) nodes node cell own rest left is within same counted

  pub put-first : (stash now : List (Option EdgeGiver)) → now ≡ put_all stash cell.outs own.items
      → put_all now (gives (drop (node + 1) nodes)) (all_of rest) ≡ put_all stash (gives (drop node nodes)) (all_of left)
  put-first stash now put =
      ap (λ (it : List (Option EdgeGiver)). put_all it (gives (drop (node + 1) nodes)) (all_of rest)) put
      ∙ sym (put_all-append stash cell.outs (gives (drop (node + 1) nodes)) own.items (all_of rest) counted-here)
      ∙ ap (λ (edges : List ℕ). put_all stash edges (own.items ++ all_of rest)) (sym (parts-first (λ (it : Cell NodeKind). it.outs) nodes node cell within same))
      ∙ ap (λ (owns : List (Vec EdgeGiver)). put_all stash (gives (drop node nodes)) (all_of owns)) (sym is)

-- where none is left, all are put
pub all-put : (nodes : List (Cell NodeKind)) (node : ℕ) (left : List (Vec EdgeGiver)) → left ≡ [] → (stash : List (Option EdgeGiver))
    → EachOf (λ cell own. length own.items ≡ length cell.outs) (drop node nodes) left → stash ≡ put_all stash (gives (drop node nodes)) (all_of left)
all-put nodes node left none stash counted =
    ap (λ (cells : List (Cell NodeKind)). put_all stash (gives cells) (all_of left))
    (sym (each-none (λ (cell : Cell NodeKind) (own : Vec EdgeGiver). length own.items ≡ length cell.outs) (drop node nodes) left none counted))
