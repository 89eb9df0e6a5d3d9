-- Tables of marks and of roots, filled edge by edge.
use Rattle.std.proofs.Common.{◌≡◌, ℕ, zero, suc, ◌+◌, ◌<◌, ◌≤◌, ◌==◌, List, [], ◌∷◌, ◌++◌, Bool, true, false, ◌&&◌, ◌||◌, if◌then◌else◌, Option, None, Some, length, get_or, set, take, drop, replicate, max, refl, ap, sym, ◌∙◌, arith, eq-eqb, ⊎_elim}
use Rattle.std.proofs.Math.Path.{fun_ext}
use Rattle.std.proofs.lemmas.Bool.{ne_eqb, cases_eq}
use Rattle.std.proofs.lemmas.List.{drop_more, drop_all, get_or-set_same, get_or-set_other, length-set, length-replicate}
use Rattle.fl_graph.specs.Net.{has, gives}
use Rattle.fl_graph.specs.declared.graphs.Cell.{Cell}
use Rattle.fl_graph.specs.declared.kinds.NodeKind.{NodeKind}
use Rattle.fl_rewrites.specs.Inner.Tables.{bound, holds, marked, root_in, all_at}
use Rattle.fl_rewrites.specs.Known.{keeps_ends, first_in, root_behind, roots_behind}

pub bound-front : (front back : List ℕ) → bound front ≤ bound (front ++ back)
bound-front [] back = omega arith
bound-front (edge ∷ front) back = let rest = bound-front front back in omega (arith, rest)

pub bound-back : (front back : List ℕ) → bound back ≤ bound (front ++ back)
bound-back [] back = omega arith
bound-back (edge ∷ front) back = let rest = bound-back front back in omega (arith, rest)

empty-at : {X : Type 0} (size edge : ℕ) (d : X) → get_or (replicate size d) edge d ≡ d
empty-at zero edge d = refl
empty-at (suc size) zero d = refl
empty-at (suc size) (suc edge) d = empty-at size edge d

-- the edges from this place on still want their marks
pub record IsMarked (marks : List Bool) (edges : List ℕ) (place : ℕ) : Type 0 where
  pub within : bound (drop place edges) ≤ length marks
  pub table : (edge : ℕ) → (marked marks edge || has edge (drop place edges)) ≡ has edge edges

pub marks-begin : (edges : List ℕ) (size : ℕ) → size ≡ bound edges → IsMarked (replicate size false) edges 0
marks-begin edges size is =
    record {
      within = (let all = length-replicate size false in omega (arith, all, is));
      table = λ edge. ap (λ (mark : Bool). mark || has edge edges) (empty-at size edge false);
    }

first-within : (edges : List ℕ) (place d size : ℕ) → place < length edges → bound (drop place edges) ≤ size → (get_or edges place d < size) × (bound (drop (place + 1) edges) ≤ size)
first-within edges place d size below within =
    let left = ap bound (drop_more edges place d below) in (omega (arith, left, within), omega (arith, left, within))

pub mark-there : (marks : List Bool) (edges : List ℕ) (place d : ℕ) → place < length edges → IsMarked marks edges place → get_or edges place d < length marks
mark-there marks edges place d below is = (first-within edges place d (length marks) below is.within).0

pub marks-on : (marks : List Bool) (edges : List ℕ) (place d : ℕ) → place < length edges → IsMarked marks edges place → IsMarked (set marks (get_or edges place d) true) edges (place + 1)
marks-on marks edges place d below is =
    let here : ℕ = get_or edges place d in
    let fits = first-within edges place d (length marks) below is.within in
    let size = length-set marks here true in
    record {
      within = (let rest = fits.1 in omega (arith, rest, size));
      table = λ edge.
          ⊎_elim (λ (same : here ≡ edge).
          ap (λ (mark : Bool). mark || has edge (drop (place + 1) edges)) (ap (λ (at : ℕ). get_or (set marks here true) at false) (sym same) ∙ get_or-set_same marks here true false fits.0)
          ∙ sym (sym (is.table edge) ∙ ap (λ (left : List ℕ). marked marks edge || has edge left) (drop_more edges place d below)
          ∙ ap (λ (equal : Bool). marked marks edge || (equal || has edge (drop (place + 1) edges))) (eq-eqb here edge same) ∙ or-true (marked marks edge)))
          (λ (other : here ≡ edge → ⊥).
          ap (λ (mark : Bool). mark || has edge (drop (place + 1) edges)) (get_or-set_other marks here edge true false (λ same. other (sym same)))
          ∙ sym (ap (λ (left : List ℕ). marked marks edge || has edge left) (drop_more edges place d below)
          ∙ ap (λ (equal : Bool). marked marks edge || (equal || has edge (drop (place + 1) edges))) (ne_eqb here edge other))
          ∙ is.table edge)
          (cases_eq here edge);
    }
  where
    or-true : (test : Bool) → (test || true) ≡ true
    or-true true = refl
    or-true false = refl

pub marks-end : (marks : List Bool) (edges : List ℕ) (place : ℕ) → length edges ≤ place → IsMarked marks edges place → marked marks ≡ holds edges
marks-end marks edges place past is =
    fun_ext (λ edge. or-none (marked marks edge) ∙ ap (λ (left : List ℕ). marked marks edge || has edge left) (sym (drop_all place edges past)) ∙ is.table edge)
  where
    or-none : (test : Bool) → test ≡ (test || false)
    or-none true = refl
    or-none false = refl

-- the edges from this place on still want this root
pub record IsRooted (table : List (Option ℕ)) (root : ℕ) (edges : List ℕ) (place : ℕ) (initial : List (Option ℕ)) : Type 0 where
  pub within : bound (drop place edges) ≤ length table
  pub size : length table ≡ length initial
  pub roots : (edge : ℕ) → all_at root (drop place edges) (root_in table) edge ≡ all_at root edges (root_in initial) edge

pub roots-begin : (table : List (Option ℕ)) (root : ℕ) (edges : List ℕ) → bound edges ≤ length table → IsRooted table root edges 0 table
roots-begin table root edges within = record { within = within; size = refl; roots = λ edge. refl }

pub root-there : (table : List (Option ℕ)) (root : ℕ) (edges : List ℕ) (place d : ℕ) (initial : List (Option ℕ)) → place < length edges → IsRooted table root edges place initial → get_or edges place d < length table
root-there table root edges place d initial below is = (first-within edges place d (length table) below is.within).0

pub roots-on : (table : List (Option ℕ)) (root : ℕ) (edges : List ℕ) (place d : ℕ) (initial : List (Option ℕ)) → place < length edges → IsRooted table root edges place initial
    → IsRooted (set table (get_or edges place d) (Some root)) root edges (place + 1) initial
roots-on table root edges place d initial below is =
    let here : ℕ = get_or edges place d in
    let fits = first-within edges place d (length table) below is.within in
    let same_size = length-set table here (Some root) in
    record {
      within = (let rest = fits.1 in omega (arith, rest, same_size));
      size = same_size ∙ is.size;
      roots = λ edge.
          sym (ap (λ (left : List ℕ). all_at root left (root_in table) edge) (drop_more edges place d below) ∙ step edge here (has edge (drop (place + 1) edges)) fits.0) ∙ is.roots edge;
    }
  where
    step : (edge here : ℕ) (later : Bool) → here < length table
        → (if ((here == edge) || later) then root else root_in table edge) ≡ (if later then root else root_in (set table here (Some root)) edge)
    step edge here true there = by_either (here == edge)
      where
        by_either : (same : Bool) → (if (same || true) then root else root_in table edge) ≡ root
        by_either true = refl
        by_either false = refl
    step edge here false there =
        ⊎_elim (λ (same : here ≡ edge).
        ap (λ (equal : Bool). if (equal || false) then root else root_in table edge) (eq-eqb here edge same)
        ∙ sym (ap (λ (at : ℕ). root_in (set table here (Some root)) at) (sym same) ∙ ap (found here) (get_or-set_same table here (Some root) None there)))
        (λ (other : here ≡ edge → ⊥).
        ap (λ (equal : Bool). if (equal || false) then root else root_in table edge) (ne_eqb here edge other)
        ∙ sym (ap (found edge) (get_or-set_other table here edge (Some root) None (λ same. other (sym same)))))
        (cases_eq here edge)
      where
        found : ℕ → Option ℕ → ℕ
        found edge None = edge
        found edge (Some root) = root

pub roots-end : (table : List (Option ℕ)) (root : ℕ) (edges : List ℕ) (place : ℕ) (initial : List (Option ℕ)) → length edges ≤ place → IsRooted table root edges place initial
    → root_in table ≡ all_at root edges (root_in initial)
roots-end table root edges place initial past is =
    fun_ext (λ edge. ap (λ (left : List ℕ). all_at root left (root_in table) edge) (sym (drop_all place edges past)) ∙ is.roots edge)

-- a node's outs, behind the node
pub passes-not : (cell : Cell NodeKind) (roots : ℕ → ℕ) → keeps_ends cell.kind ≡ false → roots ≡ root_behind cell roots
passes-not cell roots not = fun_ext (λ edge. sym (ap (λ (keeps : Bool). if keeps && has edge cell.outs then roots (first_in cell.ins edge) else roots edge) not))

pub passes-none : (cell : Cell NodeKind) (roots : ℕ → ℕ) → cell.ins ≡ [] → roots ≡ root_behind cell roots
passes-none cell roots none =
    fun_ext (λ edge. by_test edge (keeps_ends cell.kind && has edge cell.outs) ∙ sym (ap (λ (ins : List ℕ). if keeps_ends cell.kind && has edge cell.outs then roots (first_in ins edge) else roots edge) none))
  where
    by_test : (edge : ℕ) (test : Bool) → roots edge ≡ (if test then roots edge else roots edge)
    by_test edge true = refl
    by_test edge false = refl

-- the nodes from this place on are still to be passed
pub record IsPassed (table : List (Option ℕ)) (cells : List (Cell NodeKind)) (place : ℕ) : Type 0 where
  pub within : bound (gives (drop place cells)) ≤ length table
  pub roots : roots_behind (drop place cells) (root_in table) ≡ roots_behind cells (λ it. it)

pub passing-begins : (cells : List (Cell NodeKind)) (size : ℕ) → size ≡ bound (gives cells) → IsPassed (replicate size None) cells 0
passing-begins cells size is =
    record {
      within = (let all = length-replicate {A = Option ℕ} size None in omega (arith, all, is));
      roots = ap (roots_behind cells) (fun_ext (λ edge. ap (found edge) (empty-at size edge None)));
    }
  where
    found : ℕ → Option ℕ → ℕ
    found edge None = edge
    found edge (Some root) = root

pub passing-fits : (table : List (Option ℕ)) (cells : List (Cell NodeKind)) (place : ℕ) (d : Cell NodeKind) → place < length cells → IsPassed table cells place → bound (get_or cells place d).outs ≤ length table
passing-fits table cells place d below is =
    let left = ap (λ (it : List (Cell NodeKind)). bound (gives it)) (drop_more cells place d below) in
    let first = bound-front (get_or cells place d).outs (gives (drop (place + 1) cells)) in
    let within = is.within in omega (arith, left, first, within)

pub passing-goes-on : (table new : List (Option ℕ)) (cells : List (Cell NodeKind)) (place : ℕ) (d : Cell NodeKind) → place < length cells → IsPassed table cells place
    → root_in new ≡ root_behind (get_or cells place d) (root_in table) → length new ≡ length table → IsPassed new cells (place + 1)
passing-goes-on table new cells place d below is roots size =
    let left = ap (λ (it : List (Cell NodeKind)). bound (gives it)) (drop_more cells place d below) in
    let last = bound-back (get_or cells place d).outs (gives (drop (place + 1) cells)) in
    let within = is.within in
    record {
      within = omega (arith, left, last, within, size);
      roots = ap (roots_behind (drop (place + 1) cells)) roots ∙ ap (λ (it : List (Cell NodeKind)). roots_behind it (root_in table)) (sym (drop_more cells place d below)) ∙ is.roots;
    }

pub passing-ends : (table : List (Option ℕ)) (cells : List (Cell NodeKind)) (place : ℕ) → length cells ≤ place → IsPassed table cells place → root_in table ≡ roots_behind cells (λ it. it)
passing-ends table cells place past is = ap (λ (it : List (Cell NodeKind)). roots_behind it (root_in table)) (sym (drop_all place cells past)) ∙ is.roots

-- so it is where the outs have the root of the first in
first-is : (ins : List ℕ) (edge : ℕ) → 1 ≤ length ins → first_in ins edge ≡ get_or ins 0 0
first-is [] edge some = absurd (omega (arith, some))
first-is (first ∷ ins) edge some = refl

pub passes_so : (cell : Cell NodeKind) (new table old : List (Option ℕ)) (ins outs : List ℕ) (root first : ℕ) → root_in new ≡ all_at root outs (root_in table) → outs ≡ cell.outs
    → root ≡ root_in old first → old ≡ table → first ≡ get_or ins 0 0 → ins ≡ cell.ins → keeps_ends cell.kind ≡ true → 1 ≤ length cell.ins → root_in new ≡ root_behind cell (root_in table)
passes_so cell new table old ins outs root first new_is outs_are root_is old_is first_is ins_are keeps some =
    let there : first ≡ get_or cell.ins 0 0 = first_is ∙ ap (λ (edges : List ℕ). get_or edges 0 0) ins_are in
    new_is ∙ ap (λ (edges : List ℕ). all_at root edges (root_in table)) outs_are
    ∙ ap (λ (it : ℕ). all_at it cell.outs (root_in table)) (root_is ∙ ap (λ (it : List (Option ℕ)). root_in it first) old_is ∙ ap (root_in table) there)
    ∙ fun_ext (λ edge. sym (ap (λ (keep : Bool). if keep && has edge cell.outs then root_in table (first_in cell.ins edge) else root_in table edge) keeps
    ∙ ap (λ (it : ℕ). if has edge cell.outs then root_in table it else root_in table edge) (first-is cell.ins edge some)))

-- a node that is passed, at its place
pub passing_on : (table new : List (Option ℕ)) (cells : List (Cell NodeKind)) (place : ℕ) (cell : Cell NodeKind) → cell ≡ get_or cells place cell → place < length cells → IsPassed table cells place
    → root_in new ≡ root_behind cell (root_in table) → length new ≡ length table → IsPassed new cells (place + 1)
passing_on table new cells place cell is below passed roots size =
    passing-goes-on table new cells place cell below passed (roots ∙ ap (λ (it : Cell NodeKind). root_behind it (root_in table)) is) size

pub ruleset mark_laws = (marks-begin, mark-there, marks-on, marks-end, roots-begin, root-there, roots-on, roots-end)

pub ruleset pass_laws = (passes-not, passes-none)

pub ruleset root_laws = (passing-begins, passing-fits, passing-goes-on, passing-ends)
