-- The ends of a graph on their way: lent, with their nodes, and back again.
use Rattle.std.proofs.Common.{◌≡◌, ◌≤◌, ℕ, List, Bool, true, false, map, length, vec_len, Option, Some, is_some, refl, ap, sym, subst, ◌∙◌, arith}
use Rattle.fl_graph.specs.declared.machines.Machine.{Ghosts as MachineGhosts}
use Rattle.fl_core.specs.EndLists.{NodeEnd, numbers_of}
use Rattle.fl_core.specs.Roles.{end_by, is_used}
use Rattle.fl_core.specs.declared.end_lists.Ends.{Ends}
use Rattle.fl_core.specs.declared.roles.Role.{Role}
use Rattle.fl_nodes.specs.declared.ends.OwnEnd.{Ghosts as EndGhosts}
use Rattle.fl_nodes.specs.declared.nodes.NodeJob.{NodeJob}
use Rattle.fl_nodes.specs.declared.own.Own.{Own}
use Rattle.fl_threads.specs.Threads.{EachOf}
use Rattle.fl_runner.specs.Lent.{AreAllBack, end_with, fits, held_by, kind_with, lent_of}
use Rattle.fl_runner.proofs.BackLemmas.{map-of, told-used}
use Rattle.fl_runner.proofs.ComeLemmas.{input-same, out-same, readers-same, writers-same}
use Rattle.fl_runner.proofs.LendLemmas.{are_all_back, as-long, held-all, held-each, lent_of-numbers}
use Rattle.fl_runner.proofs.PreparedLemmas.{all-fit}

module _ {R W I O M G : Type 0} {machines : MachineGhosts M} {own_ends : EndGhosts (Own R W I O)} (roles : List Role) (jobs : List (NodeJob M (Own R W I O) G machines own_ends))
    (ends : Ends R W I O) (first : Ends (Option R) (Option W) (Option I) (Option O))
    (readers : first.readers.items ≡ lent_of ends.readers.items) (writers : first.writers.items ≡ lent_of ends.writers.items) (input : first.input ≡ Some ends.input) (out : first.out ≡ Some ends.out)
    (owns : map (λ job. end_with job.own) jobs ≡ map (λ one. held_by one first) roles) where
  abbrev first_by : Role → Option (NodeEnd R W I O)
  first_by one = held_by one first

  abbrev end_of_job : NodeJob M (Own R W I O) G machines own_ends → Option (NodeEnd R W I O)
  end_of_job job = end_with job.own

  -- the jobs have the ends of their roles
  pub owns-ends : map (λ job. end_with job.own) jobs ≡ map (λ one. end_by one ends) roles
  owns-ends = owns ∙ held-each ends first readers writers input out roles

  module _ (mid : Ends (Option R) (Option W) (Option I) (Option O)) (mid_readers : numbers_of mid.readers.items ≡ numbers_of first.readers.items)
      (mid_writers : numbers_of mid.writers.items ≡ numbers_of first.writers.items) where
    -- they fit in the lists that they were taken from
    pub mid-fit : EachOf (λ one job. fits (length mid.readers.items) (length mid.writers.items) one (kind_with job.own) ≡ true) roles jobs
    mid-fit =
        subst (λ (it : ℕ). EachOf (λ (one : Role) (job : NodeJob M (Own R W I O) G machines own_ends). fits it (length mid.writers.items) one (kind_with job.own) ≡ true) roles jobs)
        (sym (as-long mid.readers.items first.readers.items mid_readers))
        (subst (λ (it : ℕ). EachOf (λ (one : Role) (job : NodeJob M (Own R W I O) G machines own_ends). fits (length first.readers.items) it one (kind_with job.own) ≡ true) roles jobs)
        (sym (as-long mid.writers.items first.writers.items mid_writers))
        (all-fit ends first readers writers input out roles jobs owns))

    module _ (last : Ends (Option R) (Option W) (Option I) (Option O)) (last_readers : numbers_of last.readers.items ≡ numbers_of mid.readers.items)
        (last_writers : numbers_of last.writers.items ≡ numbers_of mid.writers.items) where
      pub last-readers : numbers_of last.readers.items ≡ numbers_of ends.readers.items
      last-readers = last_readers ∙ mid_readers ∙ ap numbers_of readers ∙ lent_of-numbers ends.readers.items

      pub last-writers : numbers_of last.writers.items ≡ numbers_of ends.writers.items
      last-writers = last_writers ∙ mid_writers ∙ ap numbers_of writers ∙ lent_of-numbers ends.writers.items

      -- and fit in the lists of the ends
      pub readers-fit : (room : ℕ) → vec_len ends.readers ≤ room → vec_len last.readers ≤ room
      readers-fit room fit =
          let long = as-long last.readers.items ends.readers.items last-readers in
          omega (arith, long, fit, ends.readers.ok.0, last.readers.ok.0)

      pub writers-fit : (room : ℕ) → vec_len ends.writers ≤ room → vec_len last.writers ≤ room
      writers-fit room fit =
          let long = as-long last.writers.items ends.writers.items last-writers in
          omega (arith, long, fit, ends.writers.ok.0, last.writers.ok.0)

      module _ (mid_others : (one : Role) → is_used roles one ≡ false → held_by one mid ≡ held_by one first)
          (last_others : (one : Role) → is_used roles one ≡ false → held_by one last ≡ held_by one mid) where
        -- what no node has is in its place all the time
        pub last-others : (one : Role) → is_used roles one ≡ false → held_by one last ≡ end_by one ends
        last-others one idle = last_others one idle ∙ mid_others one idle ∙ held-all ends first readers writers input out one

        -- what is told alike of the ends that came back and of the jobs' is told alike of all ends
        told-last : {Told : Type 0} (tell : Option (NodeEnd R W I O) → Told) → map (λ one. tell (held_by one last)) roles ≡ map (λ job. tell (end_with job.own)) jobs
            → (one : Role) → tell (held_by one last) ≡ tell (end_by one ends)
        told-last {Told} tell same one = by_used (is_used roles one) refl
          where
            by_used : (used : Bool) → is_used roles one ≡ used → tell (held_by one last) ≡ tell (end_by one ends)
            by_used true is =
                told-used (λ (it : Role). tell (held_by it last)) (λ (it : Role). tell (end_by it ends)) roles
                (same
                ∙ sym (map-of tell end_of_job jobs)
                ∙ ap (λ (it : List (Option (NodeEnd R W I O))). map tell it) owns-ends
                ∙ map-of tell (λ (it : Role). end_by it ends) roles) one is
            by_used false is = ap tell (last-others one is)

        -- where one came back for each that went, all are back
        pub last-back : map (λ one. is_some (held_by one last)) roles ≡ map (λ job. is_some (end_with job.own)) jobs → AreAllBack last
        last-back there = are_all_back ends last last-readers last-writers (told-last (λ (it : Option (NodeEnd R W I O)). is_some it) there)

        -- where those came back that went, all ends are as they were
        pub last-same : map (λ one. held_by one last) roles ≡ map (λ job. end_with job.own) jobs → (one : Role) → held_by one last ≡ end_by one ends
        last-same there = told-last (λ (it : Option (NodeEnd R W I O)). it) there

        -- so each list has what it had
        module _ (there : map (λ one. held_by one last) roles ≡ map (λ job. end_with job.own) jobs) (back : Ends R W I O) (back_readers : last.readers.items ≡ lent_of back.readers.items)
            (back_writers : last.writers.items ≡ lent_of back.writers.items) (back_input : last.input ≡ Some back.input) (back_out : last.out ≡ Some back.out) where
          same-by : (one : Role) → end_by one back ≡ end_by one ends
          same-by one = sym (held-all back last back_readers back_writers back_input back_out one) ∙ last-same there one

          pub back-readers : back.readers.items ≡ ends.readers.items
          back-readers = readers-same ends back same-by (sym (ap numbers_of back_readers ∙ lent_of-numbers back.readers.items) ∙ last-readers)

          pub back-writers : back.writers.items ≡ ends.writers.items
          back-writers = writers-same ends back same-by (sym (ap numbers_of back_writers ∙ lent_of-numbers back.writers.items) ∙ last-writers)

          pub back-input : back.input ≡ ends.input
          back-input = input-same ends back same-by

          pub back-out : back.out ≡ ends.out
          back-out = out-same ends back same-by
