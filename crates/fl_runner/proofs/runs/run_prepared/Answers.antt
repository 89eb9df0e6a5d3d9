use Rattle.std.proofs.Common.{refl, sym, subst, arith}
use Rattle.fl_core.specs.GraphRuns.{HasRun}
use Rattle.fl_core.specs.Roles.{AreApart, HasRoles}
use Rattle.fl_core.specs.contracts.machines.NodeMachineMachine.TheImpl as machine
use Rattle.fl_core.proofs.EndListLemmas.{are_apart}
use Rattle.fl_edges.proofs.EachLemmas.{each-length}
use Rattle.fl_runner.specs.Lent.{end_state}
use Rattle.fl_runner.specs.Starts.{IsStart}
use Rattle.fl_runner.proofs.ComeLemmas.{has-same, has_run, run_over_same}
use Rattle.fl_runner.proofs.PassLemmas.{back-input, back-out, back-readers, back-writers, last-back, last-others, last-readers, last-writers, mid-fit, owns-ends, readers-fit, writers-fit}
use Rattle.fl_runner.proofs.OwnLemmas.{state_is}
use Rattle.fl_runner.proofs.PreparedLemmas.{all-ready, are_jobs}
use Rattle.fl_runner.proofs.runs.run_prepared.Goals as goal

pub jobs_of-jobs-requires-clause-apart : goal.jobs_of-jobs-requires-clause-apart
jobs_of-jobs-requires-clause-apart g c = λ lifetimes outlive.
    subst AreApart (sym c.as_slice-all_roles.ensures.value) (are_apart _ c.args.ends _ c.requires.prepared.roles c.requires.valid.ends)

pub jobs_of-jobs-requires-clause-ready : goal.jobs_of-jobs-requires-clause-ready
jobs_of-jobs-requires-clause-ready g c = λ lifetimes outlive.
    all-ready g.R.Source.left g.W.Sink.taken g.I.Source.left g.O.Sink.taken g.R.Source.faults g.W.Sink.faults g.I.Source.faults g.O.Sink.faults machine.ghosts.state c.args.graph.now.nodes
    c.args.graph.now.status c.requires.valid c.args.ends c.requires.ends c.as_slice-all_roles.result.now
    (subst (HasRoles c.args.graph.now.nodes c.args.ends) (sym c.as_slice-all_roles.ensures.value) c.requires.prepared.roles) c.args.starts.items c.requires.starts c.lend-lent.result.0
    c.lend-lent.ensures.readers c.lend-lent.ensures.writers c.lend-lent.ensures.input c.lend-lent.ensures.out

pub jobs_of-jobs-requires-clause-few : goal.jobs_of-jobs-requires-clause-few
jobs_of-jobs-requires-clause-few g c =
    let counted = each-length (IsStart machine.ghosts.state c.requires.starts.ids) c.args.graph.now.nodes c.args.starts.items c.requires.starts.each in
    let size = c.args.starts.ok.0 in
    let few = c.requires.prepared.few in
    omega (arith, counted, size, few)

pub jobs_of-jobs-requires-clause-fit : goal.jobs_of-jobs-requires-clause-fit
jobs_of-jobs-requires-clause-fit g c =
    let counted = each-length (IsStart machine.ghosts.state c.requires.starts.ids) c.args.graph.now.nodes c.args.starts.items c.requires.starts.each in
    let size = c.args.starts.ok.0 in
    let fit = c.requires.prepared.fit in
    omega (arith, counted, size, fit)

pub run_jobs-told-requires-clause-jobs : goal.run_jobs-told-requires-clause-jobs
run_jobs-told-requires-clause-jobs g c = λ lifetimes outlive.
    are_jobs g.R.Source.left g.W.Sink.taken g.I.Source.left g.O.Sink.taken g.R.Source.faults g.W.Sink.faults g.I.Source.faults g.O.Sink.faults machine.ghosts.state c.args.graph.now.nodes
    c.args.graph.now.status c.requires.valid c.args.ends c.requires.ends c.as_slice-all_roles.result.now
    (subst (HasRoles c.args.graph.now.nodes c.args.ends) (sym c.as_slice-all_roles.ensures.value) c.requires.prepared.roles) c.args.starts.items c.requires.starts c.lend-lent.result.0
    c.lend-lent.ensures.readers c.lend-lent.ensures.writers c.lend-lent.ensures.input c.lend-lent.ensures.out
    (λ it. refl) (state_is c.jobs_of-jobs.result.items (end_state g.R.Source.left g.W.Sink.taken g.I.Source.left g.O.Sink.taken g.R.Source.faults g.W.Sink.faults g.I.Source.faults g.O.Sink.faults) refl (λ inlet. refl) (λ writer. refl) (λ inlet. refl) (λ out. refl))
    c.jobs_of-jobs.result.items c.jobs_of-jobs.ensures.starts c.jobs_of-jobs.ensures.owns

pub run_jobs-told-requires-clause-fit : goal.run_jobs-told-requires-clause-fit
run_jobs-told-requires-clause-fit g c = λ lifetimes outlive.
    mid-fit c.as_slice-all_roles.result.now c.jobs_of-jobs.result.items c.args.ends c.lend-lent.result.0
    c.lend-lent.ensures.readers c.lend-lent.ensures.writers c.lend-lent.ensures.input c.lend-lent.ensures.out c.jobs_of-jobs.ensures.owns
    c.jobs_of-jobs.new.lent c.jobs_of-jobs.ensures.readers c.jobs_of-jobs.ensures.writers

pub give_back-ends-requires-clause-back : goal.give_back-ends-requires-clause-back
give_back-ends-requires-clause-back g c =
    last-back c.as_slice-all_roles.result.now c.jobs_of-jobs.result.items c.args.ends c.lend-lent.result.0
    c.lend-lent.ensures.readers c.lend-lent.ensures.writers c.lend-lent.ensures.input c.lend-lent.ensures.out c.jobs_of-jobs.ensures.owns
    c.jobs_of-jobs.new.lent c.jobs_of-jobs.ensures.readers c.jobs_of-jobs.ensures.writers c.run_jobs-told.new.lent c.run_jobs-told.ensures.readers c.run_jobs-told.ensures.writers c.jobs_of-jobs.ensures.others c.run_jobs-told.ensures.others
    c.run_jobs-told.ensures.there

pub run_jobs-told-requires-clause-apart : goal.run_jobs-told-requires-clause-apart
run_jobs-told-requires-clause-apart g c = λ lifetimes outlive.
    subst AreApart (sym c.as_slice-all_roles.ensures.value) (are_apart _ c.args.ends _ c.requires.prepared.roles c.requires.valid.ends)

pub give_back-ends-requires-clause-readers_fit : goal.give_back-ends-requires-clause-readers_fit
give_back-ends-requires-clause-readers_fit g c =
    readers-fit c.as_slice-all_roles.result.now c.jobs_of-jobs.result.items c.args.ends c.lend-lent.result.0
    c.lend-lent.ensures.readers c.lend-lent.ensures.writers c.lend-lent.ensures.input c.lend-lent.ensures.out c.jobs_of-jobs.ensures.owns
    c.jobs_of-jobs.new.lent c.jobs_of-jobs.ensures.readers c.jobs_of-jobs.ensures.writers c.run_jobs-told.new.lent c.run_jobs-told.ensures.readers c.run_jobs-told.ensures.writers _ c.lend-lent.ensures.readers_fit

pub give_back-ends-requires-clause-writers_fit : goal.give_back-ends-requires-clause-writers_fit
give_back-ends-requires-clause-writers_fit g c =
    writers-fit c.as_slice-all_roles.result.now c.jobs_of-jobs.result.items c.args.ends c.lend-lent.result.0
    c.lend-lent.ensures.readers c.lend-lent.ensures.writers c.lend-lent.ensures.input c.lend-lent.ensures.out c.jobs_of-jobs.ensures.owns
    c.jobs_of-jobs.new.lent c.jobs_of-jobs.ensures.readers c.jobs_of-jobs.ensures.writers c.run_jobs-told.new.lent c.run_jobs-told.ensures.readers c.run_jobs-told.ensures.writers _ c.lend-lent.ensures.writers_fit

pub returns-in-Some : goal.returns-in-Some
returns-in-Some g c =
    subst (HasRun g.R.Source.left g.I.Source.left g.W.Sink.taken g.O.Sink.taken g.R.Source.faults g.W.Sink.faults g.I.Source.faults g.O.Sink.faults c.args.graph.now c.args.ends) (sym c.ran.ensures)
    (has_run g.R.Source.left g.I.Source.left g.W.Sink.taken g.O.Sink.taken g.R.Source.faults g.W.Sink.faults g.I.Source.faults g.O.Sink.faults
    (state_is c.jobs_of-jobs.result.items (end_state g.R.Source.left g.W.Sink.taken g.I.Source.left g.O.Sink.taken g.R.Source.faults g.W.Sink.faults g.I.Source.faults g.O.Sink.faults) refl (λ inlet. refl) (λ writer. refl) (λ inlet. refl) (λ out. refl)) c.args.graph.now c.requires.valid c.args.ends c.as_slice-all_roles.result.now
    (subst (HasRoles c.args.graph.now.nodes c.args.ends) (sym c.as_slice-all_roles.ensures.value) c.requires.prepared.roles) c.jobs_of-jobs.result.items
    (are_jobs g.R.Source.left g.W.Sink.taken g.I.Source.left g.O.Sink.taken g.R.Source.faults g.W.Sink.faults g.I.Source.faults g.O.Sink.faults machine.ghosts.state c.args.graph.now.nodes
    c.args.graph.now.status c.requires.valid c.args.ends c.requires.ends c.as_slice-all_roles.result.now
    (subst (HasRoles c.args.graph.now.nodes c.args.ends) (sym c.as_slice-all_roles.ensures.value) c.requires.prepared.roles) c.args.starts.items c.requires.starts c.lend-lent.result.0
    c.lend-lent.ensures.readers c.lend-lent.ensures.writers c.lend-lent.ensures.input c.lend-lent.ensures.out
    (λ it. refl) (state_is c.jobs_of-jobs.result.items (end_state g.R.Source.left g.W.Sink.taken g.I.Source.left g.O.Sink.taken g.R.Source.faults g.W.Sink.faults g.I.Source.faults g.O.Sink.faults) refl (λ inlet. refl) (λ writer. refl) (λ inlet. refl) (λ out. refl))
    c.jobs_of-jobs.result.items c.jobs_of-jobs.ensures.starts c.jobs_of-jobs.ensures.owns)
    (owns-ends c.as_slice-all_roles.result.now c.jobs_of-jobs.result.items c.args.ends c.lend-lent.result.0
    c.lend-lent.ensures.readers c.lend-lent.ensures.writers c.lend-lent.ensures.input c.lend-lent.ensures.out c.jobs_of-jobs.ensures.owns)
    c.run_jobs-told.new.lent c.give_back-ends.result c.give_back-ends.ensures.readers c.give_back-ends.ensures.writers c.give_back-ends.ensures.input c.give_back-ends.ensures.out
    (last-readers c.as_slice-all_roles.result.now c.jobs_of-jobs.result.items c.args.ends c.lend-lent.result.0
    c.lend-lent.ensures.readers c.lend-lent.ensures.writers c.lend-lent.ensures.input c.lend-lent.ensures.out c.jobs_of-jobs.ensures.owns
    c.jobs_of-jobs.new.lent c.jobs_of-jobs.ensures.readers c.jobs_of-jobs.ensures.writers c.run_jobs-told.new.lent c.run_jobs-told.ensures.readers c.run_jobs-told.ensures.writers)
    (last-writers c.as_slice-all_roles.result.now c.jobs_of-jobs.result.items c.args.ends c.lend-lent.result.0
    c.lend-lent.ensures.readers c.lend-lent.ensures.writers c.lend-lent.ensures.input c.lend-lent.ensures.out c.jobs_of-jobs.ensures.owns
    c.jobs_of-jobs.new.lent c.jobs_of-jobs.ensures.readers c.jobs_of-jobs.ensures.writers c.run_jobs-told.new.lent c.run_jobs-told.ensures.readers c.run_jobs-told.ensures.writers)
    (last-others c.as_slice-all_roles.result.now c.jobs_of-jobs.result.items c.args.ends c.lend-lent.result.0
    c.lend-lent.ensures.readers c.lend-lent.ensures.writers c.lend-lent.ensures.input c.lend-lent.ensures.out c.jobs_of-jobs.ensures.owns
    c.jobs_of-jobs.new.lent c.jobs_of-jobs.ensures.readers c.jobs_of-jobs.ensures.writers c.run_jobs-told.new.lent c.run_jobs-told.ensures.readers c.run_jobs-told.ensures.writers c.jobs_of-jobs.ensures.others c.run_jobs-told.ensures.others)
    c.in-Some.told c.in-Some.ensures.ran)

pub run_in_turn-requires-clause-ends : goal.run_in_turn-requires-clause-ends
run_in_turn-requires-clause-ends g c =
    has-same g.R.Source.left g.I.Source.left g.W.Sink.taken g.O.Sink.taken g.R.Source.faults g.W.Sink.faults g.I.Source.faults g.O.Sink.faults c.args.graph.now c.give_back-ends.result c.args.ends
    (back-readers c.as_slice-all_roles.result.now c.jobs_of-jobs.result.items c.args.ends c.lend-lent.result.0
    c.lend-lent.ensures.readers c.lend-lent.ensures.writers c.lend-lent.ensures.input c.lend-lent.ensures.out c.jobs_of-jobs.ensures.owns
    c.jobs_of-jobs.new.lent c.jobs_of-jobs.ensures.readers c.jobs_of-jobs.ensures.writers c.run_jobs-told.new.lent c.run_jobs-told.ensures.readers c.run_jobs-told.ensures.writers c.jobs_of-jobs.ensures.others c.run_jobs-told.ensures.others
    c.in-None.ensures.not_ran c.give_back-ends.result c.give_back-ends.ensures.readers c.give_back-ends.ensures.writers c.give_back-ends.ensures.input c.give_back-ends.ensures.out)
    (back-writers c.as_slice-all_roles.result.now c.jobs_of-jobs.result.items c.args.ends c.lend-lent.result.0
    c.lend-lent.ensures.readers c.lend-lent.ensures.writers c.lend-lent.ensures.input c.lend-lent.ensures.out c.jobs_of-jobs.ensures.owns
    c.jobs_of-jobs.new.lent c.jobs_of-jobs.ensures.readers c.jobs_of-jobs.ensures.writers c.run_jobs-told.new.lent c.run_jobs-told.ensures.readers c.run_jobs-told.ensures.writers c.jobs_of-jobs.ensures.others c.run_jobs-told.ensures.others
    c.in-None.ensures.not_ran c.give_back-ends.result c.give_back-ends.ensures.readers c.give_back-ends.ensures.writers c.give_back-ends.ensures.input c.give_back-ends.ensures.out)
    (back-input c.as_slice-all_roles.result.now c.jobs_of-jobs.result.items c.args.ends c.lend-lent.result.0
    c.lend-lent.ensures.readers c.lend-lent.ensures.writers c.lend-lent.ensures.input c.lend-lent.ensures.out c.jobs_of-jobs.ensures.owns
    c.jobs_of-jobs.new.lent c.jobs_of-jobs.ensures.readers c.jobs_of-jobs.ensures.writers c.run_jobs-told.new.lent c.run_jobs-told.ensures.readers c.run_jobs-told.ensures.writers c.jobs_of-jobs.ensures.others c.run_jobs-told.ensures.others
    c.in-None.ensures.not_ran c.give_back-ends.result c.give_back-ends.ensures.readers c.give_back-ends.ensures.writers c.give_back-ends.ensures.input c.give_back-ends.ensures.out)
    (back-out c.as_slice-all_roles.result.now c.jobs_of-jobs.result.items c.args.ends c.lend-lent.result.0
    c.lend-lent.ensures.readers c.lend-lent.ensures.writers c.lend-lent.ensures.input c.lend-lent.ensures.out c.jobs_of-jobs.ensures.owns
    c.jobs_of-jobs.new.lent c.jobs_of-jobs.ensures.readers c.jobs_of-jobs.ensures.writers c.run_jobs-told.new.lent c.run_jobs-told.ensures.readers c.run_jobs-told.ensures.writers c.jobs_of-jobs.ensures.others c.run_jobs-told.ensures.others
    c.in-None.ensures.not_ran c.give_back-ends.result c.give_back-ends.ensures.readers c.give_back-ends.ensures.writers c.give_back-ends.ensures.input c.give_back-ends.ensures.out)
    c.requires.ends

pub returns : goal.returns
returns g c =
    run_over_same g.R.Source.left g.I.Source.left g.W.Sink.taken g.O.Sink.taken g.R.Source.faults g.W.Sink.faults g.I.Source.faults g.O.Sink.faults c.args.graph.now c.give_back-ends.result c.args.ends
    (back-readers c.as_slice-all_roles.result.now c.jobs_of-jobs.result.items c.args.ends c.lend-lent.result.0
    c.lend-lent.ensures.readers c.lend-lent.ensures.writers c.lend-lent.ensures.input c.lend-lent.ensures.out c.jobs_of-jobs.ensures.owns
    c.jobs_of-jobs.new.lent c.jobs_of-jobs.ensures.readers c.jobs_of-jobs.ensures.writers c.run_jobs-told.new.lent c.run_jobs-told.ensures.readers c.run_jobs-told.ensures.writers c.jobs_of-jobs.ensures.others c.run_jobs-told.ensures.others
    c.in-None.ensures.not_ran c.give_back-ends.result c.give_back-ends.ensures.readers c.give_back-ends.ensures.writers c.give_back-ends.ensures.input c.give_back-ends.ensures.out)
    (back-writers c.as_slice-all_roles.result.now c.jobs_of-jobs.result.items c.args.ends c.lend-lent.result.0
    c.lend-lent.ensures.readers c.lend-lent.ensures.writers c.lend-lent.ensures.input c.lend-lent.ensures.out c.jobs_of-jobs.ensures.owns
    c.jobs_of-jobs.new.lent c.jobs_of-jobs.ensures.readers c.jobs_of-jobs.ensures.writers c.run_jobs-told.new.lent c.run_jobs-told.ensures.readers c.run_jobs-told.ensures.writers c.jobs_of-jobs.ensures.others c.run_jobs-told.ensures.others
    c.in-None.ensures.not_ran c.give_back-ends.result c.give_back-ends.ensures.readers c.give_back-ends.ensures.writers c.give_back-ends.ensures.input c.give_back-ends.ensures.out)
    (back-input c.as_slice-all_roles.result.now c.jobs_of-jobs.result.items c.args.ends c.lend-lent.result.0
    c.lend-lent.ensures.readers c.lend-lent.ensures.writers c.lend-lent.ensures.input c.lend-lent.ensures.out c.jobs_of-jobs.ensures.owns
    c.jobs_of-jobs.new.lent c.jobs_of-jobs.ensures.readers c.jobs_of-jobs.ensures.writers c.run_jobs-told.new.lent c.run_jobs-told.ensures.readers c.run_jobs-told.ensures.writers c.jobs_of-jobs.ensures.others c.run_jobs-told.ensures.others
    c.in-None.ensures.not_ran c.give_back-ends.result c.give_back-ends.ensures.readers c.give_back-ends.ensures.writers c.give_back-ends.ensures.input c.give_back-ends.ensures.out)
    (back-out c.as_slice-all_roles.result.now c.jobs_of-jobs.result.items c.args.ends c.lend-lent.result.0
    c.lend-lent.ensures.readers c.lend-lent.ensures.writers c.lend-lent.ensures.input c.lend-lent.ensures.out c.jobs_of-jobs.ensures.owns
    c.jobs_of-jobs.new.lent c.jobs_of-jobs.ensures.readers c.jobs_of-jobs.ensures.writers c.run_jobs-told.new.lent c.run_jobs-told.ensures.readers c.run_jobs-told.ensures.writers c.jobs_of-jobs.ensures.others c.run_jobs-told.ensures.others
    c.in-None.ensures.not_ran c.give_back-ends.result c.give_back-ends.ensures.readers c.give_back-ends.ensures.writers c.give_back-ends.ensures.input c.give_back-ends.ensures.out)
    _ c.run_in_turn.ensures
