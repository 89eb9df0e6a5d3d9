use Rattle.std.proofs.Common.{◌≡◌, length, map, true, vec_len, refl, ap, sym, subst, ◌∙◌, arith, rules}
use Rattle.fl_edges.specs.Settled.{AreAtEnds, AreBack, AreSettled}
use Rattle.fl_edges.proofs.EachLemmas.{each-length}
use Rattle.fl_threads.specs.Threads.{EachOf}
use Rattle.fl_runner.specs.Lent.{fits, kind_with}
use Rattle.fl_runner.proofs.BackLemmas.{are-at-ends, are_back, dones-fit, jobs-fit, lie-done, lie-jobs, some-done, some-jobs}
use Rattle.fl_runner.proofs.OwnLemmas.{role_is}
use Rattle.fl_runner.proofs.runs.run_jobs.Goals as goal

pub tell-told-requires : goal.tell-told-requires
tell-told-requires g c =
    let came = each-length _ c.args.jobs.items c.in-Ran.done.items c.in-Ran.ensures in
    let of_nodes = each-length _ c.args.graph.now.nodes c.args.jobs.items c.requires.jobs.each in
    let few = c.requires.few in
    record { few = omega (arith, came, of_nodes, few) }

pub take_apart-givers-requires-clause-givers_fit : goal.take_apart-givers-requires-clause-givers_fit
take_apart-givers-requires-clause-givers_fit g c =
    let came = each-length _ c.args.jobs.items c.in-Ran.done.items c.in-Ran.ensures in
    let of_nodes = each-length _ c.args.graph.now.nodes c.args.jobs.items c.requires.jobs.each in
    let size : vec_len c.in-Ran.done ≡ length c.in-Ran.done.items = search rules in
    let fit = c.requires.back.givers_fit in
    omega (arith, came, of_nodes, size, fit)

pub take_apart-givers-requires-clause-takers_fit : goal.take_apart-givers-requires-clause-takers_fit
take_apart-givers-requires-clause-takers_fit g c =
    let came = each-length _ c.args.jobs.items c.in-Ran.done.items c.in-Ran.ensures in
    let of_nodes = each-length _ c.args.graph.now.nodes c.args.jobs.items c.requires.jobs.each in
    let size : vec_len c.in-Ran.done ≡ length c.in-Ran.done.items = search rules in
    let fit = c.requires.back.takers_fit in
    omega (arith, came, of_nodes, size, fit)

pub take_apart-givers-requires-clause-owns_fit : goal.take_apart-givers-requires-clause-owns_fit
take_apart-givers-requires-clause-owns_fit g c =
    let came = each-length _ c.args.jobs.items c.in-Ran.done.items c.in-Ran.ensures in
    let of_nodes = each-length _ c.args.graph.now.nodes c.args.jobs.items c.requires.jobs.each in
    let size : vec_len c.in-Ran.done ≡ length c.in-Ran.done.items = search rules in
    let fit = c.requires.back.owns_fit in
    omega (arith, came, of_nodes, size, fit)

pub settle_edges-requires-clause-back : goal.settle_edges-requires-clause-back
settle_edges-requires-clause-back g c =
    subst (λ givers. AreBack c.args.graph.now.nodes givers c.take_apart-givers.result.1.items) (sym c.take_apart-givers.ensures.givers)
    (subst (λ takers. AreBack c.args.graph.now.nodes (map (λ done. done.givers) c.in-Ran.done.items) takers) (sym c.take_apart-givers.ensures.takers)
    (are_back c.requires.jobs.ids c.args.graph.now.nodes c.args.jobs.items c.in-Ran.done.items c.requires.jobs.each c.in-Ran.ensures))

pub settle_edges-requires-clause-ends : goal.settle_edges-requires-clause-ends
settle_edges-requires-clause-ends g c =
    subst AreAtEnds (sym c.take_apart-givers.ensures.takers) (are-at-ends c.requires.jobs.ids c.args.graph.now.nodes c.args.jobs.items c.in-Ran.done.items c.requires.jobs.each c.in-Ran.ensures)

pub put_owns-requires-clause-fit : goal.put_owns-requires-clause-fit
put_owns-requires-clause-fit g c =
    subst (λ owns. EachOf (λ one end. fits (length c.args.lent.now.readers.items) (length c.args.lent.now.writers.items) one (kind_with end) ≡ true) c.args.roles.now owns)
    (sym c.take_apart-givers.ensures.owns)
    (dones-fit (role_is c.args.jobs.items refl (λ inlet. refl) (λ writer. refl) (λ inlet. refl) (λ out. refl)) _ _ c.args.roles.now
    c.args.jobs.items c.in-Ran.done.items c.requires.fit c.in-Ran.ensures)

pub returns-in-Ran-clause-ran : goal.returns-in-Ran-clause-ran
returns-in-Ran-clause-ran g c = record {
  dones = c.in-Ran.done.items;
  came = c.in-Ran.ensures;
  settled =
      subst (λ givers. AreSettled c.args.graph.now.nodes givers (map (λ done. done.takers) c.in-Ran.done.items)) c.take_apart-givers.ensures.givers
      (subst (λ takers. AreSettled c.args.graph.now.nodes c.take_apart-givers.result.0.items takers) c.take_apart-givers.ensures.takers c.settle_edges.ensures);
  back = lie-done _ _ _ c.put_owns.ensures.ends c.in-Ran.done.items c.take_apart-givers.ensures.owns;
  tells = search rules;
}

pub returns-in-Ran-clause-there : goal.returns-in-Ran-clause-there
returns-in-Ran-clause-there g c =
    some-done _ _ _ c.put_owns.ensures.ends (role_is c.args.jobs.items refl (λ inlet. refl) (λ writer. refl) (λ inlet. refl) (λ out. refl))
    c.args.jobs.items c.in-Ran.done.items c.in-Ran.ensures c.take_apart-givers.ensures.owns

pub owns_of-requires-clause-fit : goal.owns_of-requires-clause-fit
owns_of-requires-clause-fit g c =
    let back = ap (λ jobs. length jobs) c.in-NotRun.ensures in
    let of_nodes = each-length _ c.args.graph.now.nodes c.args.jobs.items c.requires.jobs.each in
    let size : vec_len c.in-NotRun.jobs ≡ length c.in-NotRun.jobs.items = search rules in
    let fit = c.requires.back.owns_fit in
    omega (arith, back, of_nodes, size, fit)

pub put_owns-requires-in-NotRun-clause-fit : goal.put_owns-requires-in-NotRun-clause-fit
put_owns-requires-in-NotRun-clause-fit g c =
    subst (λ owns. EachOf (λ one end. fits (length c.args.lent.now.readers.items) (length c.args.lent.now.writers.items) one (kind_with end) ≡ true) c.args.roles.now owns)
    (sym (c.owns_of.ensures ∙ ap (map (λ job. job.own)) c.in-NotRun.ensures))
    (jobs-fit (role_is c.args.jobs.items refl (λ inlet. refl) (λ writer. refl) (λ inlet. refl) (λ out. refl)) _ _ c.args.roles.now c.args.jobs.items
    c.requires.fit)

pub returns-in-NotRun-clause-not_ran : goal.returns-in-NotRun-clause-not_ran
returns-in-NotRun-clause-not_ran g c = lie-jobs _ _ _ c.put_owns-in-NotRun.ensures.ends c.args.jobs.items (c.owns_of.ensures ∙ ap (map (λ job. job.own)) c.in-NotRun.ensures)

pub returns-in-NotRun-clause-there : goal.returns-in-NotRun-clause-there
returns-in-NotRun-clause-there g c = some-jobs _ _ _ c.put_owns-in-NotRun.ensures.ends c.args.jobs.items (c.owns_of.ensures ∙ ap (map (λ job. job.own)) c.in-NotRun.ensures)
