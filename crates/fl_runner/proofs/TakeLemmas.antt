-- The jobs of nodes, each with the end of its role, which is taken from its place, one after another.
use Rattle.std.proofs.Common.{◌≡◌, ℕ, ◌+◌, ◌<◌, List, [], ◌∷◌, ◌++◌, false, map, length, take, drop, Option, refl, ap, sym, subst, ◌∙◌, append-nil}
use mathlib.Core.List.{append_assoc}
use Rattle.std.specs.Global.{Vec}
use Rattle.std.proofs.lemmas.List.{map-append}
use Rattle.fl_graph.specs.Machines.{State}
use Rattle.fl_graph.specs.declared.machines.Machine.{Ghosts as MachineGhosts}
use Rattle.fl_core.specs.EndLists.{NodeEnd, numbers_of}
use Rattle.fl_core.specs.Roles.{AreApart, is_same, is_used, role_at}
use Rattle.fl_core.specs.declared.end_lists.Ends.{Ends}
use Rattle.fl_core.specs.declared.roles.Role.{Role}
use Rattle.fl_edges.proofs.EachLemmas.{each-first, each-none, each-rest, each-within}
use Rattle.fl_nodes.specs.Ends.{EndState}
use Rattle.fl_nodes.specs.Work.{IsReady}
use Rattle.fl_nodes.specs.declared.ends.OwnEnd.{Ghosts as EndGhosts}
use Rattle.fl_nodes.specs.declared.nodes.NodeJob.{NodeJob}
use Rattle.fl_nodes.specs.declared.own.Own.{Own}
use Rattle.fl_relay.specs.declared.edges.EdgeGiver.{EdgeGiver}
use Rattle.fl_relay.specs.declared.edges.EdgeTaker.{EdgeTaker}
use Rattle.fl_threads.specs.Threads.{EachOf}
use Rattle.fl_runner.specs.Lent.{end_with, held_by}
use Rattle.fl_runner.specs.Starts.{job_parts, start_parts}
use Rattle.fl_runner.specs.declared.starts.NodeStart.{NodeStart}
use Rattle.fl_runner.proofs.OwnLemmas.{at-here, take-next, used-more}
use Rattle.fl_runner.proofs.PutLemmas.{held_at, take-all, unused-here}

abbrev Parts : Type 0 → Type 0
Parts M = M × (Vec EdgeTaker × Vec EdgeGiver)

module _ {R W I O M : Type 0} (state : M → State) (state_by : Option (NodeEnd R W I O) → EndState) where
  -- a node is ready with what it begins with, and the end of its role
  abbrev pub IsReadyBy : Ends (Option R) (Option W) (Option I) (Option O) → Role → NodeStart M → Type 0
  IsReadyBy was one start = IsReady (state start.machine) (state_by (held_by one was)) start.halves.takers.items start.halves.givers.items

module _ {R W I O M G : Type 0} {machines : MachineGhosts M} {ends : EndGhosts (Own R W I O)} (state : M → State) (state_by : Option (NodeEnd R W I O) → EndState) where
  abbrev parts_of : NodeJob M (Own R W I O) G machines ends → Parts M
  parts_of job = job_parts job

  abbrev end_of_job : NodeJob M (Own R W I O) G machines ends → Option (NodeEnd R W I O)
  end_of_job job = end_with job.own

  -- the first nodes have their jobs, with the ends of their roles, and the others are ready
  pub record Taken (roles : List Role) (was : Ends (Option R) (Option W) (Option I) (Option O)) (all : List (NodeStart M))
      (node : ℕ) (now : Ends (Option R) (Option W) (Option I) (Option O)) (jobs : List (NodeJob M (Own R W I O) G machines ends)) (left : List (NodeStart M)) : Type 0 where
    pub ready : EachOf (IsReadyBy state state_by was) (drop node roles) left
    pub starts : map parts_of jobs ++ map start_parts left ≡ map start_parts all
    pub owns : map end_of_job jobs ≡ map (held_at was) (take node roles)
    pub others : (one : Role) → is_used (take node roles) one ≡ false → held_by one now ≡ held_by one was
    pub reader_numbers : numbers_of now.readers.items ≡ numbers_of was.readers.items
    pub writer_numbers : numbers_of now.writers.items ≡ numbers_of was.writers.items

  -- all have
  pub record AreTaken (roles : List Role) (was : Ends (Option R) (Option W) (Option I) (Option O)) (all : List (NodeStart M))
      (now : Ends (Option R) (Option W) (Option I) (Option O)) (jobs : List (NodeJob M (Own R W I O) G machines ends)) : Type 0 where
    pub starts : map parts_of jobs ≡ map start_parts all
    pub owns : map end_of_job jobs ≡ map (held_at was) roles
    pub others : (one : Role) → is_used roles one ≡ false → held_by one now ≡ held_by one was

  pub taken-first : (roles : List Role) (was : Ends (Option R) (Option W) (Option I) (Option O)) (all left : List (NodeStart M)) → left ≡ all → EachOf (IsReadyBy state state_by was) roles all
      → (jobs : List (NodeJob M (Own R W I O) G machines ends)) → jobs ≡ [] → Taken roles was all 0 was jobs left
  taken-first roles was all left is ready jobs none = record {
    ready = subst (EachOf (IsReadyBy state state_by was) roles) (sym is) ready;
    starts = ap (λ (it : List (NodeJob M (Own R W I O) G machines ends)). map parts_of it ++ map start_parts left) none ∙ ap (λ (it : List (NodeStart M)). map start_parts it) is;
    owns = ap (map end_of_job) none;
    others = λ one idle. refl;
    reader_numbers = refl;
    writer_numbers = refl;
  }

  module _ (roles : List Role) (was : Ends (Option R) (Option W) (Option I) (Option O)) (all : List (NodeStart M)) (node : ℕ) (now : Ends (Option R) (Option W) (Option I) (Option O))
      (jobs : List (NodeJob M (Own R W I O) G machines ends)) (left : List (NodeStart M)) (taken : Taken roles was all node now jobs left) where
    pub taken-within : (start : NodeStart M) (rest : List (NodeStart M)) → left ≡ start ∷ rest → node < length roles
    taken-within start rest is = each-within (IsReadyBy state state_by was) roles node start rest left is taken.ready

    module _ (start : NodeStart M) (rest : List (NodeStart M)) (is : left ≡ start ∷ rest) (here : Role) (same : here ≡ role_at roles node) (apart : AreApart roles) (own : Own R W I O)
        (held : end_with own ≡ held_by here now) where
      held-here : end_with own ≡ held_by here was
      held-here = held ∙ taken.others here (unused-here roles apart node here same)

      -- the next node is ready with its end
      pub taken-ready : (ends.state own ≡ state_by (end_with own)) → IsReady (state start.machine) (ends.state own) start.halves.takers.items start.halves.givers.items
      taken-ready state_is =
          subst (λ (it : EndState). IsReady (state start.machine) it start.halves.takers.items start.halves.givers.items) (sym (state_is ∙ ap state_by held-here))
          (each-first (IsReadyBy state state_by was) roles node here start rest left is (taken-within start rest is) (at-here roles node here (taken-within start rest is) same) taken.ready)

      -- one more has its job
      pub taken-next : (next : Ends (Option R) (Option W) (Option I) (Option O)) → ((other : Role) → is_same other here ≡ false → held_by other next ≡ held_by other now)
          → numbers_of next.readers.items ≡ numbers_of now.readers.items → numbers_of next.writers.items ≡ numbers_of now.writers.items
          → (job : NodeJob M (Own R W I O) G machines ends) → job.machine ≡ start.machine → job.takers ≡ start.halves.takers → job.givers ≡ start.halves.givers → job.own ≡ own
          → (more : List (NodeJob M (Own R W I O) G machines ends)) → more ≡ jobs ++ job ∷ [] → Taken roles was all (node + 1) next more rest
      taken-next next stays reader_numbers writer_numbers job machine takers givers its more grew = record {
        ready = each-rest (IsReadyBy state state_by was) roles node here start rest left is (taken-within start rest is) taken.ready;
        starts =
            ap (λ (it : List (NodeJob M (Own R W I O) G machines ends)). map parts_of it ++ map start_parts rest) grew
            ∙ ap (λ (it : List (Parts M)). it ++ map start_parts rest) (map-append parts_of jobs (job ∷ []))
            ∙ append_assoc (map parts_of jobs) (job_parts job ∷ []) (map start_parts rest)
            ∙ ap (λ (it : Parts M). map parts_of jobs ++ it ∷ map start_parts rest) (λ i. (machine i, (takers i, givers i)))
            ∙ ap (λ (it : List (NodeStart M)). map parts_of jobs ++ map start_parts it) (sym is)
            ∙ taken.starts;
        owns =
            ap (map end_of_job) grew
            ∙ map-append end_of_job jobs (job ∷ [])
            ∙ ap (λ (it : List (Option (NodeEnd R W I O))). it ++ end_with job.own ∷ []) taken.owns
            ∙ ap (λ (it : Option (NodeEnd R W I O)). map (held_at was) (take node roles) ++ it ∷ []) (ap (λ (it : Own R W I O). end_with it) its ∙ held-here)
            ∙ sym (map-append (held_at was) (take node roles) (here ∷ []))
            ∙ ap (map (held_at was)) (sym (take-next roles node here (taken-within start rest is) same));
        others = λ one none. let parts = used-more roles node here one (taken-within start rest is) same none in stays one parts.1 ∙ taken.others one parts.0;
        reader_numbers = reader_numbers ∙ taken.reader_numbers;
        writer_numbers = writer_numbers ∙ taken.writer_numbers;
      }

    -- all have
    pub taken-all : left ≡ [] → AreTaken roles was all now jobs
    taken-all none =
        let behind : drop node roles ≡ [] = each-none (IsReadyBy state state_by was) (drop node roles) left none taken.ready in
        let whole : take node roles ≡ roles = take-all roles node behind in
        record {
          starts = sym (append-nil (map parts_of jobs)) ∙ ap (λ (it : List (NodeStart M)). map parts_of jobs ++ map start_parts it) (sym none) ∙ taken.starts;
          owns = taken.owns ∙ ap (map (held_at was)) whole;
          others = λ one idle. taken.others one (ap (λ (it : List Role). is_used it one) whole ∙ idle);
        }
