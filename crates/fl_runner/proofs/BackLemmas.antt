-- What nodes give back is of their edges and of their ends.
use Rattle.std.proofs.Common.{◌≡◌, ℕ, suc, ◌<◌, ◌||◌, List, [], ◌∷◌, Bool, true, false, if◌then◌else◌, map, length, nat_lt, Option, is_some, refl, ap, sym, subst, ◌∙◌, arith}
use Rattle.std.specs.List.{list_all}
use Rattle.std.proofs.lemmas.Bool.{and_from, lt-ltb, true≢false}
use Rattle.std.proofs.lemmas.List.{length-map}
use Rattle.fl_graph.specs.Runs.{are_closed}
use Rattle.fl_graph.specs.declared.graphs.Cell.{Cell}
use Rattle.fl_graph.specs.declared.kinds.NodeKind.{NodeKind}
use Rattle.fl_graph.specs.declared.machines.Machine.{Ghosts as MachineGhosts}
use Rattle.fl_classes.specs.Flow.{is_source}
use Rattle.fl_edges.specs.Settled.{AreAtEnds, AreBack}
use Rattle.fl_nodes.specs.Came.{NodeCame}
use Rattle.fl_nodes.specs.Ends.{Role as Kind, Nothing as IsNothing, Reader as IsReader, Writer as IsWriter, Input as IsInput, Output as IsOutput}
use Rattle.fl_nodes.specs.Work.{at, side}
use Rattle.fl_nodes.specs.declared.ends.OwnEnd.{Ghosts as EndGhosts}
use Rattle.fl_nodes.specs.declared.nodes.NodeJob.{NodeJob}
use Rattle.fl_nodes.specs.declared.nodes.NodeDone.{NodeDone}
use Rattle.fl_relay.specs.declared.edges.EdgeTaker.{EdgeTaker}
use Rattle.fl_relay.specs.Edges.{EdgeId, gives_over, takes_over, taken_from}
use Rattle.fl_threads.specs.Threads.{EachOf}
use Rattle.fl_nodes.specs.declared.own.Own.{Own}
use Rattle.fl_nodes.specs.declared.own.Own.TheVariants as own
use Rattle.fl_core.specs.Roles.{is_same, is_used}
use Rattle.fl_core.specs.EndLists.{NodeEnd}
use Rattle.fl_core.specs.declared.end_lists.Ends.{Ends}
use Rattle.fl_core.specs.declared.roles.Role.{Role}
use Rattle.fl_runner.specs.Lent.{end_with, fits, held_by, kind_with}
use Rattle.fl_runner.specs.Runs.{IsOf}
use Rattle.fl_runner.proofs.OwnLemmas.{same-is}

-- each taker is closed where all ports below their number are
all-closed : (takers : List EdgeTaker) → ((port : ℕ) → port < length takers → are_closed (at (map taken_from takers) port) ≡ true) → list_all (λ taker. are_closed (taken_from taker)) takers ≡ true
all-closed [] closed = refl
all-closed (taker ∷ takers) closed =
    and_from (are_closed (taken_from taker)) (list_all (λ (taker : EdgeTaker). are_closed (taken_from taker)) takers) (closed 0 (omega arith))
    (all-closed takers (λ port within. closed (suc port) (omega (arith, within))))

module _ {M E G : Type 0} {machines : MachineGhosts M} {ends : EndGhosts E} where
  module _ (ids : ℕ → EdgeId) (cell : Cell NodeKind) (job : NodeJob M E G machines ends) (done : NodeDone E) (of_node : IsOf ids cell job) (came : NodeCame job done) where
    takes-done : map takes_over done.takers.items ≡ map ids cell.ins
    takes-done = came.came.stands.takes ∙ of_node.takes

    gives-done : map gives_over done.givers.items ≡ map ids cell.outs
    gives-done = came.came.stands.gives ∙ of_node.gives

    takers-done : length done.takers.items ≡ length cell.ins
    takers-done = sym (length-map done.takers.items takes_over) ∙ ap (λ (it : List EdgeId). length it) takes-done ∙ length-map cell.ins ids

    closed-done : list_all (λ taker. are_closed (taken_from taker)) done.takers.items ≡ true
    closed-done = all-closed done.takers.items (λ port within. by_source (is_source cell.kind) refl port within)
      where
        by_source : (source : Bool) → is_source cell.kind ≡ source → (port : ℕ) → port < length done.takers.items → are_closed (at (map taken_from done.takers.items) port) ≡ true
        by_source true is port within =
            let none = ap (λ (it : List ℕ). length it) (of_node.alone is) in
            let counted = takers-done in
            absurd (omega (arith, within, none, counted))
        by_source false is port within =
            let counted = takers-done in
            let low : port < length cell.ins = omega (arith, within, counted) in
            let reads : (ends.state job.own).reads ≡ false = of_node.reads ∙ is in
            let opened : (machines.state job.machine).takes port ≡ true =
            of_node.begins.takes_all port ∙ ap (λ (test : Bool). nat_lt port (if test then 1 else length cell.ins)) is ∙ lt-ltb port (length cell.ins) low in
            ap (λ (outer : Bool). are_closed (side outer came.came.outside (map taken_from done.takers.items) port)) (sym reads) ∙ came.came.stopped.ins port opened

  -- so with all nodes
  pub takes-back : (ids : ℕ → EdgeId) (cells : List (Cell NodeKind)) (jobs : List (NodeJob M E G machines ends)) (dones : List (NodeDone E)) → EachOf (IsOf ids) cells jobs → EachOf (λ job done. NodeCame job done) jobs dones
      → EachOf (λ cell own. map takes_over own.items ≡ map ids cell.ins) cells (map (λ done. done.takers) dones)
  takes-back ids [] [] [] of_nodes came = tt
  takes-back ids [] [] (done ∷ dones) of_nodes came = absurd came
  takes-back ids [] (job ∷ jobs) dones of_nodes came = absurd of_nodes
  takes-back ids (cell ∷ cells) [] dones of_nodes came = absurd of_nodes
  takes-back ids (cell ∷ cells) (job ∷ jobs) [] of_nodes came = absurd came
  takes-back ids (cell ∷ cells) (job ∷ jobs) (done ∷ dones) of_nodes came = (takes-done ids cell job done of_nodes.0 came.0, takes-back ids cells jobs dones of_nodes.1 came.1)

  pub gives-back : (ids : ℕ → EdgeId) (cells : List (Cell NodeKind)) (jobs : List (NodeJob M E G machines ends)) (dones : List (NodeDone E)) → EachOf (IsOf ids) cells jobs → EachOf (λ job done. NodeCame job done) jobs dones
      → EachOf (λ cell own. map gives_over own.items ≡ map ids cell.outs) cells (map (λ done. done.givers) dones)
  gives-back ids [] [] [] of_nodes came = tt
  gives-back ids [] [] (done ∷ dones) of_nodes came = absurd came
  gives-back ids [] (job ∷ jobs) dones of_nodes came = absurd of_nodes
  gives-back ids (cell ∷ cells) [] dones of_nodes came = absurd of_nodes
  gives-back ids (cell ∷ cells) (job ∷ jobs) [] of_nodes came = absurd came
  gives-back ids (cell ∷ cells) (job ∷ jobs) (done ∷ dones) of_nodes came = (gives-done ids cell job done of_nodes.0 came.0, gives-back ids cells jobs dones of_nodes.1 came.1)

  pub are-at-ends : (ids : ℕ → EdgeId) (cells : List (Cell NodeKind)) (jobs : List (NodeJob M E G machines ends)) (dones : List (NodeDone E)) → EachOf (IsOf ids) cells jobs → EachOf (λ job done. NodeCame job done) jobs dones
      → AreAtEnds (map (λ done. done.takers) dones)
  are-at-ends ids [] [] [] of_nodes came = tt
  are-at-ends ids [] [] (done ∷ dones) of_nodes came = absurd came
  are-at-ends ids [] (job ∷ jobs) dones of_nodes came = absurd of_nodes
  are-at-ends ids (cell ∷ cells) [] dones of_nodes came = absurd of_nodes
  are-at-ends ids (cell ∷ cells) (job ∷ jobs) [] of_nodes came = absurd came
  are-at-ends ids (cell ∷ cells) (job ∷ jobs) (done ∷ dones) of_nodes came = (closed-done ids cell job done of_nodes.0 came.0, are-at-ends ids cells jobs dones of_nodes.1 came.1)

  pub are_back : (ids : ℕ → EdgeId) (cells : List (Cell NodeKind)) (jobs : List (NodeJob M E G machines ends)) (dones : List (NodeDone E)) → EachOf (IsOf ids) cells jobs → EachOf (λ job done. NodeCame job done) jobs dones
      → AreBack cells (map (λ done. done.givers) dones) (map (λ done. done.takers) dones)
  are_back ids cells jobs dones of_nodes came = record { ids = ids; gives = gives-back ids cells jobs dones of_nodes came; takes = takes-back ids cells jobs dones of_nodes came }

-- the ends that come back are those of the roles of their nodes
module _ {R W I O M G : Type 0} {machines : MachineGhosts M} {ends : EndGhosts (Own R W I O)} (role_is : (end : Own R W I O) → (ends.state end).role ≡ kind_with end) (readers writers : ℕ) where
  pub dones-fit : (roles : List Role) (jobs : List (NodeJob M (Own R W I O) G machines ends)) (dones : List (NodeDone (Own R W I O)))
      → EachOf (λ one job. fits readers writers one (kind_with job.own) ≡ true) roles jobs → EachOf (λ job done. NodeCame job done) jobs dones
      → EachOf (λ one end. fits readers writers one (kind_with end) ≡ true) roles (map (λ done. done.own) dones)
  dones-fit [] [] [] fit came = tt
  dones-fit [] [] (done ∷ dones) fit came = absurd came
  dones-fit [] (job ∷ jobs) dones fit came = absurd fit
  dones-fit (one ∷ roles) [] dones fit came = absurd fit
  dones-fit (one ∷ roles) (job ∷ jobs) [] fit came = absurd came
  dones-fit (one ∷ roles) (job ∷ jobs) (done ∷ dones) fit came =
      let same : kind_with done.own ≡ kind_with job.own = sym (role_is done.own) ∙ came.0.came.stands.moved.same.role ∙ role_is job.own in
      (ap (fits readers writers one) same ∙ fit.0, dones-fit roles jobs dones fit.1 came.1)

  pub jobs-fit : (roles : List Role) (jobs : List (NodeJob M (Own R W I O) G machines ends)) → EachOf (λ one job. fits readers writers one (kind_with job.own) ≡ true) roles jobs
      → EachOf (λ one end. fits readers writers one (kind_with end) ≡ true) roles (map (λ job. job.own) jobs)
  jobs-fit [] [] fit = tt
  jobs-fit [] (job ∷ jobs) fit = absurd fit
  jobs-fit (one ∷ roles) [] fit = absurd fit
  jobs-fit (one ∷ roles) (job ∷ jobs) fit = (fit.0, jobs-fit roles jobs fit.1)

-- what is told of what items have
pub map-of : {A B C : Type 0} (tell : B → C) (part : A → B) (items : List A) → map tell (map part items) ≡ map (λ it. tell (part it)) items
map-of tell part [] = refl
map-of {A} {B} {C} tell part (it ∷ items) = ap (λ (rest : List C). tell (part it) ∷ rest) (map-of tell part items)

-- the kinds of ends that there are
abbrev is_there : Kind → Bool
is_there IsNothing = false
is_there IsReader = true
is_there IsWriter = true
is_there IsInput = true
is_there IsOutput = true

module _ {R W I O : Type 0} where
  with-kind : (end : Own R W I O) → is_some (end_with end) ≡ is_there (kind_with end)
  with-kind own.Nothing = refl
  with-kind (own.Reader inlet) = refl
  with-kind (own.Writer writer) = refl
  with-kind (own.Input inlet) = refl
  with-kind (own.Output out) = refl

  -- an end comes back where one went
  module _ {M G : Type 0} {machines : MachineGhosts M} {ends : EndGhosts (Own R W I O)} (role_is : (end : Own R W I O) → (ends.state end).role ≡ kind_with end) where
    pub dones-there : (jobs : List (NodeJob M (Own R W I O) G machines ends)) (dones : List (NodeDone (Own R W I O))) → EachOf (λ job done. NodeCame job done) jobs dones
        → map (λ done. is_some (end_with done.own)) dones ≡ map (λ job. is_some (end_with job.own)) jobs
    dones-there [] [] came = refl
    dones-there [] (done ∷ dones) came = absurd came
    dones-there (job ∷ jobs) [] came = absurd came
    dones-there (job ∷ jobs) (done ∷ dones) came =
        let same : kind_with done.own ≡ kind_with job.own = sym (role_is done.own) ∙ came.0.came.stands.moved.same.role ∙ role_is job.own in
        let here : is_some (end_with done.own) ≡ is_some (end_with job.own) = with-kind done.own ∙ ap is_there same ∙ sym (with-kind job.own) in
        ap (λ (it : Bool). it ∷ map (λ done. is_some (end_with done.own)) dones) here
        ∙ ap (λ (rest : List Bool). is_some (end_with job.own) ∷ rest) (dones-there jobs dones came.1)

-- what is told alike of all roles in order is told alike of each that is used
pub told-used : {Told : Type 0} (one other : Role → Told) (roles : List Role) → map one roles ≡ map other roles → (it : Role) → is_used roles it ≡ true → one it ≡ other it
told-used one other [] same it used = absurd (true≢false (sym used))
told-used {Told} one other (first ∷ roles) same it used = by_first (is_same it first) refl used (told-used one other roles rest it)
  where
    here : one first ≡ other first
    here = cc

    rest : map one roles ≡ map other roles
    rest = cc

    by_first : (test : Bool) → is_same it first ≡ test → (test || is_used roles it) ≡ true → (is_used roles it ≡ true → one it ≡ other it) → one it ≡ other it
    by_first true is used behind = subst (λ (at : Role). one at ≡ other at) (sym (same-is it first is).0) here
    by_first false is used behind = behind used

-- what lies in the places of the roles is what nodes gave back, or what jobs have that haven't run
module _ {R W I O : Type 0} (roles : List Role) (lent : Ends (Option R) (Option W) (Option I) (Option O)) (owns : List (Own R W I O))
    (lie : map (λ one. held_by one lent) roles ≡ map end_with owns) where
  abbrev held_at : Role → Option (NodeEnd R W I O)
  held_at one = held_by one lent

  abbrev some_end : Option (NodeEnd R W I O) → Bool
  some_end found = is_some found

  abbrev end_of : Own R W I O → Option (NodeEnd R W I O)
  end_of own = end_with own

  some-lie : map (λ one. is_some (held_by one lent)) roles ≡ map (λ own. is_some (end_with own)) owns
  some-lie = sym (map-of some_end held_at roles) ∙ ap (map some_end) lie ∙ map-of some_end end_of owns

  pub lie-done : (dones : List (NodeDone (Own R W I O))) → owns ≡ map (λ done. done.own) dones → map (λ one. held_by one lent) roles ≡ map (λ done. end_with done.own) dones
  lie-done dones is = lie ∙ ap (map end_of) is ∙ map-of end_of (λ (done : NodeDone (Own R W I O)). done.own) dones

  pub some-done : {M G : Type 0} {machines : MachineGhosts M} {ends : EndGhosts (Own R W I O)} → ((end : Own R W I O) → (ends.state end).role ≡ kind_with end) → (jobs : List (NodeJob M (Own R W I O) G machines ends)) (dones : List (NodeDone (Own R W I O)))
      → EachOf (λ job done. NodeCame job done) jobs dones → owns ≡ map (λ done. done.own) dones
      → map (λ one. is_some (held_by one lent)) roles ≡ map (λ job. is_some (end_with job.own)) jobs
  some-done {M} {G} {machines} {ends} role_is jobs dones came is =
      some-lie
      ∙ ap (map (λ (own : Own R W I O). is_some (end_with own))) is
      ∙ map-of (λ (own : Own R W I O). is_some (end_with own)) (λ (done : NodeDone (Own R W I O)). done.own) dones
      ∙ dones-there role_is jobs dones came

  pub lie-jobs : {M G : Type 0} {machines : MachineGhosts M} {ends : EndGhosts (Own R W I O)} → (jobs : List (NodeJob M (Own R W I O) G machines ends)) → owns ≡ map (λ job. job.own) jobs → map (λ one. held_by one lent) roles ≡ map (λ job. end_with job.own) jobs
  lie-jobs {M} {G} {machines} {ends} jobs is = lie ∙ ap (map end_of) is ∙ map-of end_of (λ (job : NodeJob M (Own R W I O) G machines ends). job.own) jobs

  pub some-jobs : {M G : Type 0} {machines : MachineGhosts M} {ends : EndGhosts (Own R W I O)} → (jobs : List (NodeJob M (Own R W I O) G machines ends)) → owns ≡ map (λ job. job.own) jobs
      → map (λ one. is_some (held_by one lent)) roles ≡ map (λ job. is_some (end_with job.own)) jobs
  some-jobs {M} {G} {machines} {ends} jobs is =
      some-lie
      ∙ ap (map (λ (own : Own R W I O). is_some (end_with own))) is
      ∙ map-of (λ (own : Own R W I O). is_some (end_with own)) (λ (job : NodeJob M (Own R W I O) G machines ends). job.own) jobs
