-- The jobs of a graph's nodes, from what the nodes begin with and the ends of their roles.
use Rattle.std.proofs.Common.{◌≡◌, ℕ, zero, suc, List, [], ◌∷◌, Bool, true, false, not, map, length, slice_get, nat_lt, Option, Some, None, is_some, refl, ap, sym, subst, ◌∙◌, arith}
use Rattle.std.specs.Option.{option_map}
use Rattle.std.specs.Global.{Vec}
use Rattle.std.proofs.lemmas.Bool.{lt-ltb, ltb-true, true≢false}
use Rattle.std.proofs.lemmas.List.{length-map}
use Rattle.std.proofs.lemmas.Option.{get_or_from_slice_get}
use Rattle.fl_graph.specs.Kinds.{has_its_ports}
use Rattle.fl_graph.specs.Machines.{State}
use Rattle.fl_graph.specs.Valid.{Valid}
use Rattle.fl_graph.specs.declared.graphs.Cell.{Cell}
use Rattle.fl_graph.specs.declared.graphs.StatusRule.{StatusRule}
use Rattle.fl_graph.specs.declared.kinds.NodeKind.{NodeKind}
use Rattle.fl_graph.specs.declared.machines.Machine.{Ghosts as MachineGhosts}
use Rattle.fl_classes.specs.Flow.{is_source}
use Rattle.fl_classes.specs.Kinds.{is_writer}
use Rattle.fl_core.specs.EndLists.{HasItsEnds, NodeEnd, Reader, Writer, end_in, own_end}
use Rattle.fl_core.specs.Roles.{HasRoles, end_by}
use Rattle.fl_net.specs.Starts.{BeginsAs}
use Rattle.fl_core.specs.declared.end_lists.Ends.{Ends}
use Rattle.fl_core.specs.declared.machines.NodeMachine.{NodeMachine}
use Rattle.fl_core.specs.declared.roles.Role.{Role}
use Rattle.fl_core.specs.declared.roles.Role.TheVariants as role
use Rattle.fl_net.proofs.PlanLemmas.{holds_at, source_ports}
use Rattle.fl_edges.proofs.EachLemmas.{each-length}
use Rattle.fl_nodes.specs.Ends.{EndState}
use Rattle.fl_nodes.specs.Work.{IsReady}
use Rattle.fl_nodes.specs.declared.ends.OwnEnd.{Ghosts as EndGhosts}
use Rattle.fl_nodes.specs.declared.nodes.NodeJob.{NodeJob}
use Rattle.fl_nodes.specs.declared.own.Own.{Own}
use Rattle.fl_nodes.specs.declared.own.Own.TheVariants as own
use Rattle.fl_relay.specs.declared.edges.EdgeGiver.{EdgeGiver}
use Rattle.fl_relay.specs.declared.edges.EdgeTaker.{EdgeTaker}
use Rattle.fl_relay.specs.Edges.{gives_over, takes_over}
use Rattle.fl_threads.specs.Threads.{EachOf}
use Rattle.fl_runner.specs.Lent.{end_state, end_with, fits, held_by, kind_with, lent_of}
use Rattle.fl_runner.specs.Runs.{AreJobs, IsOf}
use Rattle.fl_runner.specs.Starts.{AreStarts, IsStart, job_parts, start_parts}
use Rattle.fl_runner.specs.declared.starts.NodeStart.{NodeStart}
use Rattle.fl_runner.proofs.LendLemmas.{held-all}
use Rattle.fl_runner.proofs.ReadyLemmas.{is_ready, own_reads, own_writes}
use Rattle.fl_runner.proofs.RunLemmas.{each-at, each-from}
use Rattle.fl_runner.proofs.TogetherLemmas.{end_here, told-at}

-- what holds of the items of two lists of one length in their places holds of each
pub each-by : {A B : Type 0} (Holds : A → B → Type 0) (ones : List A) (others : List B) → length others ≡ length ones
    → ((place : ℕ) (one : A) (other : B) → slice_get ones place ≡ Some one → slice_get others place ≡ Some other → Holds one other) → EachOf Holds ones others
each-by Holds [] [] same holds = tt
each-by Holds [] (second ∷ others) same holds = absurd (omega (arith, same))
each-by Holds (first ∷ ones) [] same holds = absurd (omega (arith, same))
each-by Holds (first ∷ ones) (second ∷ others) same holds =
    (holds 0 first second refl refl, each-by Holds ones others (omega (arith, same)) (λ place one other at there. holds (suc place) one other at there))

some_is : {X : Type 0} (one other : X) → Some one ≡ Some other → one ≡ other
some_is one other is = cc

module _ {R W I O : Type 0} (of_reader : R → Option (List ℕ)) (of_writer : W → Option (List ℕ)) (of_input : I → Option (List ℕ)) (of_output : O → Option (List ℕ))
    (reader_faults : R → ℕ) (writer_faults : W → ℕ) (input_faults : I → ℕ) (output_faults : O → ℕ) where
  abbrev pub state_by : Option (NodeEnd R W I O) → EndState
  state_by found = end_state of_reader of_writer of_input of_output reader_faults writer_faults input_faults output_faults found

  module _ (state : NodeMachine → State) (cells : List (Cell NodeKind)) (status : StatusRule) (valid : Valid cells status) (ends : Ends R W I O) (has : HasItsEnds cells ends)
      (roles : List Role) (roled : HasRoles cells ends roles) (starts : List (NodeStart NodeMachine)) (are : AreStarts state cells starts) (lent : Ends (Option R) (Option W) (Option I) (Option O))
      (readers : lent.readers.items ≡ lent_of ends.readers.items) (writers : lent.writers.items ≡ lent_of ends.writers.items) (input : lent.input ≡ Some ends.input) (out : lent.out ≡ Some ends.out) where
    -- a source has no in
    source-alone : (node : ℕ) (cell : Cell NodeKind) → slice_get cells node ≡ Some cell → is_source cell.kind ≡ true → cell.ins ≡ []
    source-alone node cell at is = (source_ports cell.kind cell.ins cell.outs is (holds_at has_its_ports cells node cell valid.ports at)).0

    -- the end of a node's role
    own-held : (node : ℕ) (cell : Cell NodeKind) (one : Role) → slice_get cells node ≡ Some cell → slice_get roles node ≡ Some one → held_by one lent ≡ own_end cell.kind node ends
    own-held node cell one at there =
        held-all ends lent readers writers input out one
        ∙ ap (λ (it : Role). end_by it ends) (sym (get_or_from_slice_get roles node one role.Nothing there))
        ∙ end_here cells ends roles roled node cell at

    held-reads : (node : ℕ) (cell : Cell NodeKind) (one : Role) → slice_get cells node ≡ Some cell → slice_get roles node ≡ Some one → (state_by (held_by one lent)).reads ≡ is_source cell.kind
    held-reads node cell one at there =
        ap (λ (it : Option (NodeEnd R W I O)). (state_by it).reads) (own-held node cell one at there)
        ∙ own_reads of_reader of_writer of_input of_output reader_faults writer_faults input_faults output_faults cell.kind node ends (has node cell at)

    held-writes : (node : ℕ) (cell : Cell NodeKind) (one : Role) → slice_get cells node ≡ Some cell → slice_get roles node ≡ Some one → (state_by (held_by one lent)).writes ≡ is_writer cell.kind
    held-writes node cell one at there =
        ap (λ (it : Option (NodeEnd R W I O)). (state_by it).writes) (own-held node cell one at there)
        ∙ own_writes of_reader of_writer of_input of_output reader_faults writer_faults input_faults output_faults cell.kind node ends (has node cell at)

    counted-starts : length starts ≡ length roles
    counted-starts = each-length (IsStart state are.ids) cells starts are.each ∙ sym roled.all

    -- each node is ready
    pub all-ready : EachOf (λ one start. IsReady (state start.machine) (state_by (held_by one lent)) start.halves.takers.items start.halves.givers.items) roles starts
    all-ready = each-by (λ one start. IsReady (state start.machine) (state_by (held_by one lent)) start.halves.takers.items start.halves.givers.items) roles starts counted-starts ready
      where
        ready : (node : ℕ) (one : Role) (start : NodeStart NodeMachine) → slice_get roles node ≡ Some one → slice_get starts node ≡ Some start
            → IsReady (state start.machine) (state_by (held_by one lent)) start.halves.takers.items start.halves.givers.items
        ready node one start there at =
            let its = each-from (IsStart state are.ids) cells starts are.each node start at in
            is_ready its.0 (source-alone node its.0 its.1.0) (state start.machine) its.1.1.begins are.ids start.halves its.1.1.halves (state_by (held_by one lent))
            (held-reads node its.0 one its.1.0 there) (held-writes node its.0 one its.1.0 there)

    module _ {G : Type 0} {machines : MachineGhosts NodeMachine} {own_ends : EndGhosts (Own R W I O)} (machine_is : (it : NodeMachine) → machines.state it ≡ state it)
        (end_is : (end : Own R W I O) → own_ends.state end ≡ state_by (end_with end)) (jobs : List (NodeJob NodeMachine (Own R W I O) G machines own_ends))
        (parts : map job_parts jobs ≡ map start_parts starts) (owns : map (λ job. end_with job.own) jobs ≡ map (λ one. held_by one lent) roles) where
      counted-jobs : length jobs ≡ length starts
      counted-jobs =
          sym (length-map jobs (job_parts {E = Own R W I O} {G = G} {machines = machines} {ends = own_ends})) ∙ ap (λ (it : List (NodeMachine × (Vec EdgeTaker × Vec EdgeGiver))). length it) parts ∙ length-map starts start_parts

      -- each job is that of its node
      pub are_jobs : AreJobs cells jobs
      are_jobs = record {
        ids = are.ids;
        each = each-by (IsOf are.ids) cells jobs (counted-jobs ∙ counted-starts ∙ roled.all) of;
      }
        where
          of : (node : ℕ) (cell : Cell NodeKind) (job : NodeJob NodeMachine (Own R W I O) G machines own_ends) → slice_get cells node ≡ Some cell → slice_get jobs node ≡ Some job → IsOf are.ids cell job
          of node cell job at there =
              let begun = told-at job_parts start_parts jobs starts parts node job there in
              let start = begun.0 in
              let its = each-at (IsStart state are.ids) cells starts are.each node cell at in
              let same : its.0 ≡ start = some_is its.0 start (sym its.1.0 ∙ begun.1.0) in
              let is : IsStart state are.ids cell start = subst (IsStart state are.ids cell) same its.1.1 in
              let machine : job.machine ≡ start.machine = ap (λ (it : NodeMachine × (Vec EdgeTaker × Vec EdgeGiver)). it.0) begun.1.1 in
              let takers : job.takers ≡ start.halves.takers = ap (λ (it : NodeMachine × (Vec EdgeTaker × Vec EdgeGiver)). it.1.0) begun.1.1 in
              let givers : job.givers ≡ start.halves.givers = ap (λ (it : NodeMachine × (Vec EdgeTaker × Vec EdgeGiver)). it.1.1) begun.1.1 in
              let found = told-at (λ (it : NodeJob NodeMachine (Own R W I O) G machines own_ends). end_with it.own) (λ (one : Role). held_by one lent) jobs roles owns node job there in
              let end : own_ends.state job.own ≡ state_by (held_by found.0 lent) = end_is job.own ∙ ap state_by found.1.1 in
              record {
                begins = subst (λ (it : State). BeginsAs it cell) (sym (machine_is job.machine ∙ ap state machine)) is.begins;
                takes = ap (λ (it : Vec EdgeTaker). map takes_over it.items) takers ∙ is.halves.takes;
                gives = ap (λ (it : Vec EdgeGiver). map gives_over it.items) givers ∙ is.halves.gives;
                reads = ap (λ (it : EndState). it.reads) end ∙ held-reads node cell found.0 at found.1.0;
                writes = ap (λ (it : EndState). it.writes) end ∙ held-writes node cell found.0 at found.1.0;
                alone = source-alone node cell at;
              }

-- one number is below another where the next ones are
below-suc : (place count : ℕ) → nat_lt place count ≡ nat_lt (suc place) (suc count)
below-suc place count = by_test (nat_lt place count) (nat_lt (suc place) (suc count)) refl refl
  where
    by_test : (first second : Bool) → nat_lt place count ≡ first → nat_lt (suc place) (suc count) ≡ second → first ≡ second
    by_test true true is next = refl
    by_test false false is next = refl
    by_test true false is next = let low = ltb-true place count is in absurd (true≢false (sym (lt-ltb (suc place) (suc count) (omega (arith, low))) ∙ next))
    by_test false true is next = let low = ltb-true (suc place) (suc count) next in absurd (true≢false (sym (lt-ltb place count (omega (arith, low))) ∙ is))

-- the end that a place has, or none where there is no such place
module _ {R W I O : Type 0} (ends : Ends R W I O) (lent : Ends (Option R) (Option W) (Option I) (Option O)) (readers : lent.readers.items ≡ lent_of ends.readers.items)
    (writers : lent.writers.items ≡ lent_of ends.writers.items) (input : lent.input ≡ Some ends.input) (out : lent.out ≡ Some ends.out) where
  end-within : {End : Type 0} (entries : List (ℕ × End)) (place : ℕ) → is_some (end_in entries place) ≡ nat_lt place (length entries)
  end-within [] place = by_test (nat_lt place 0) refl
    where
      by_test : (test : Bool) → nat_lt place 0 ≡ test → false ≡ test
      by_test true is = let low = ltb-true place 0 is in absurd (omega (arith, low))
      by_test false is = refl
  end-within (entry ∷ entries) zero = sym (lt-ltb 0 (suc (length entries)) (omega arith))
  end-within (entry ∷ entries) (suc place) = end-within entries place ∙ below-suc place (length entries)

  fits-reader : (found : Option R) (place count : ℕ) → is_some found ≡ nat_lt place count → (end : Own R W I O) → end_with end ≡ option_map Reader found
      → fits count (length lent.writers.items) (role.Reader place) (kind_with end) ≡ true
  fits-reader None place count is own.Nothing same = ap not (sym is)
  fits-reader (Some reader) place count is own.Nothing same = absurd (cc)
  fits-reader None place count is (own.Reader inlet) same = absurd (cc)
  fits-reader (Some reader) place count is (own.Reader inlet) same = sym is
  fits-reader None place count is (own.Writer writer) same = absurd (cc)
  fits-reader (Some reader) place count is (own.Writer writer) same = absurd (cc)
  fits-reader None place count is (own.Input inlet) same = absurd (cc)
  fits-reader (Some reader) place count is (own.Input inlet) same = absurd (cc)
  fits-reader None place count is (own.Output it) same = absurd (cc)
  fits-reader (Some reader) place count is (own.Output it) same = absurd (cc)

  fits-writer : (found : Option W) (place count : ℕ) → is_some found ≡ nat_lt place count → (end : Own R W I O) → end_with end ≡ option_map Writer found
      → fits (length lent.readers.items) count (role.Writer place) (kind_with end) ≡ true
  fits-writer None place count is own.Nothing same = ap not (sym is)
  fits-writer (Some writer) place count is own.Nothing same = absurd (cc)
  fits-writer None place count is (own.Reader inlet) same = absurd (cc)
  fits-writer (Some writer) place count is (own.Reader inlet) same = absurd (cc)
  fits-writer None place count is (own.Writer it) same = absurd (cc)
  fits-writer (Some writer) place count is (own.Writer it) same = sym is
  fits-writer None place count is (own.Input inlet) same = absurd (cc)
  fits-writer (Some writer) place count is (own.Input inlet) same = absurd (cc)
  fits-writer None place count is (own.Output it) same = absurd (cc)
  fits-writer (Some writer) place count is (own.Output it) same = absurd (cc)

  -- it is of the role's kind
  fits-held : (one : Role) (end : Own R W I O) → end_with end ≡ end_by one ends → fits (length lent.readers.items) (length lent.writers.items) one (kind_with end) ≡ true
  fits-held role.Nothing own.Nothing same = refl
  fits-held role.Nothing (own.Reader inlet) same = absurd (cc)
  fits-held role.Nothing (own.Writer writer) same = absurd (cc)
  fits-held role.Nothing (own.Input inlet) same = absurd (cc)
  fits-held role.Nothing (own.Output it) same = absurd (cc)
  fits-held role.Input own.Nothing same = absurd (cc)
  fits-held role.Input (own.Reader inlet) same = absurd (cc)
  fits-held role.Input (own.Writer writer) same = absurd (cc)
  fits-held role.Input (own.Input inlet) same = refl
  fits-held role.Input (own.Output it) same = absurd (cc)
  fits-held role.Output own.Nothing same = absurd (cc)
  fits-held role.Output (own.Reader inlet) same = absurd (cc)
  fits-held role.Output (own.Writer writer) same = absurd (cc)
  fits-held role.Output (own.Input inlet) same = absurd (cc)
  fits-held role.Output (own.Output it) same = refl
  fits-held (role.Reader place) end same =
      fits-reader (end_in ends.readers.items place) place (length lent.readers.items)
      (end-within ends.readers.items place ∙ ap (nat_lt place) (sym (length-map ends.readers.items (λ (entry : ℕ × R). (entry.0, Some entry.1))) ∙ ap (λ (it : List (ℕ × Option R)). length it) (sym readers))) end same
  fits-held (role.Writer place) end same =
      fits-writer (end_in ends.writers.items place) place (length lent.writers.items)
      (end-within ends.writers.items place ∙ ap (nat_lt place) (sym (length-map ends.writers.items (λ (entry : ℕ × W). (entry.0, Some entry.1))) ∙ ap (λ (it : List (ℕ × Option W)). length it) (sym writers))) end same

  module _ {M G : Type 0} {machines : MachineGhosts M} {own_ends : EndGhosts (Own R W I O)} (roles : List Role) (jobs : List (NodeJob M (Own R W I O) G machines own_ends))
      (owns : map (λ job. end_with job.own) jobs ≡ map (λ one. held_by one lent) roles) where
    pub all-fit : EachOf (λ one job. fits (length lent.readers.items) (length lent.writers.items) one (kind_with job.own) ≡ true) roles jobs
    all-fit =
        each-by (λ (one : Role) (job : NodeJob M (Own R W I O) G machines own_ends). fits (length lent.readers.items) (length lent.writers.items) one (kind_with job.own) ≡ true) roles jobs
        (sym (length-map jobs (λ (job : NodeJob M (Own R W I O) G machines own_ends). end_with job.own)) ∙ ap (λ (it : List (Option (NodeEnd R W I O))). length it) owns ∙ length-map roles (λ (one : Role). held_by one lent))
        fit
      where
        fit : (node : ℕ) (one : Role) (job : NodeJob M (Own R W I O) G machines own_ends) → slice_get roles node ≡ Some one → slice_get jobs node ≡ Some job
            → fits (length lent.readers.items) (length lent.writers.items) one (kind_with job.own) ≡ true
        fit node one job there at =
            let found = told-at (λ (it : NodeJob M (Own R W I O) G machines own_ends). end_with it.own) (λ (it : Role). held_by it lent) jobs roles owns node job at in
            let same : found.0 ≡ one = some_is found.0 one (sym found.1.0 ∙ there) in
            fits-held one job.own (found.1.1 ∙ ap (λ (it : Role). held_by it lent) same ∙ held-all ends lent readers writers input out one)
