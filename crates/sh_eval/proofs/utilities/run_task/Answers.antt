use Rattle.std.proofs.Common.{[], ◌≡◌, ◌∙◌, Bool, true, false, Option, Some, None, IfSome, if◌then◌else◌, ap, sym, subst}
use Rattle.ps_world.specs.Files.{Files}
use Rattle.fl_commands.specs.Writers.{AreFilesAt}
use Rattle.sh_eval.specs.declared.session.Session.{Session}
use Rattle.sh_eval.specs.declared.streams.Streams.{Streams}
use Rattle.sh_eval.specs.Contract.{CanTake, Stands}
use Rattle.sh_eval.specs.States.{reading}
use Rattle.sh_eval.specs.Inner.Inputs.{TakesStream, taken_from}
use Rattle.sh_eval.specs.Inner.Runs.{asks_of, reads_of, takes}
use Rattle.sh_eval.proofs.Growing.{adds-takes}
use Rattle.sh_eval.proofs.RunSteps.{files-there, gathered-ran, no-files, own-files, put-so, ran-out, ran-put, ran-stopped, runs-alone}
use Rattle.sh_eval.proofs.Steps.{wanted}
use Rattle.sh_eval.proofs.utilities.run_task.Goals as goal

-- what is written goes where it went
leads-still : (reads : Bool) (old new : Session) → new ≡ (if reads then reading (taken_from old.streams.from) old else old) → (new.streams.to ≡ old.streams.to) × (new.streams.errors_to ≡ old.streams.errors_to)
leads-still true old new is = (ap (λ (it : Session). it.streams.to) is, ap (λ (it : Session). it.streams.errors_to) is)
leads-still false old new is = (ap (λ (it : Session). it.streams.to) is, ap (λ (it : Session). it.streams.errors_to) is)

stands-still : (held : Option Files) (one other : Streams) → other.to ≡ one.to → other.errors_to ≡ one.errors_to → IfSome held (Stands one) → IfSome held (Stands other)
stands-still None one other leads tells stands = tt
stands-still (Some files) one other leads tells stands =
    record { whole = stands.whole; output = subst (CanTake files) (sym leads) stands.output; errors = subst (CanTake files) (sym tells) stands.errors }

sound-still : (reads : Bool) (session session' : Session) (held held' : Option Files) → session' ≡ (if reads then reading (taken_from session.streams.from) session else session) → held' ≡ held
    → IfSome held (Stands session.streams) → IfSome held' (Stands session'.streams)
sound-still reads session session' held held' is same sound =
    let leads = leads-still reads session session' is in
    stands-still held' session.streams session'.streams leads.0 leads.1 (subst (λ (it : Option Files). IfSome it (Stands session.streams)) (sym same) sound)

pub run_asked-ended-requires-clause-apart : goal.run_asked-ended-requires-clause-apart
run_asked-ended-requires-clause-apart g c κs within = c.can_stream.ensures.apart c.if-can_stream.true

pub run_asked-ended-requires-2-clause-ready : goal.run_asked-ended-requires-2-clause-ready
run_asked-ended-requires-2-clause-ready g c κs within = runs-alone c.args.task c.args.files.now (g.T.Tree.state c.args.tree.now) c.requires.ready

pub spread-how-requires-clause-there : goal.spread-how-requires-clause-there
spread-how-requires-clause-there g c κs within =
    subst (λ (it : Option Files). IfSome it (λ held. AreFilesAt held c.args.files.now))
    (sym (c.run_asked-ended-2.ensures.held (no-files c.args.task c.args.files.now (g.T.Tree.state c.args.tree.now) c.requires.ready _)))
    (files-there c.args.task c.args.files.now (g.T.Tree.state c.args.tree.now) c.requires.ready)

pub spread-how-requires-clause-sound : goal.spread-how-requires-clause-sound
spread-how-requires-clause-sound g c κs within =
    sound-still _ c.args.session.now c.take_stream.new.session (g.T.Tree.state c.args.tree.now).held _ c.in-Ok.ensures.ok.session
    (c.run_asked-ended-2.ensures.held (no-files c.args.task c.args.files.now (g.T.Tree.state c.args.tree.now) c.requires.ready _)) c.requires.sound

pub returns-in_default : goal.returns-in_default
returns-in_default g c = λ does meant. rw c.in_default.ensures.err (wanted (λ expansions. takes c.args.files.now does) _ (λ expansions. adds-takes c.args.files.now does))

pub returns-then-can_stream : goal.returns-then-can_stream
returns-then-can_stream g c = λ does meant.
    ran-out (asks_of c.args.task c.args.files.now) (reads_of c.args.task) does _ _ _ _ _ _ _ _ _ _ _ _ _ _ _ (meant c.args.files.now) c.args.files.now
    (subst (λ (it : Bool). TakesStream it c.args.session.now c.take_stream.new.session c.in-Ok.first) c.reads_input.ensures c.in-Ok.ensures.ok)
    c.end-how.ensures.shell c.end-how.ensures.how (own-files c.args.task c.args.files.now (g.T.Tree.state c.args.tree.now) c.requires.ready _) _ _ _ _ _ _ _ _
    (c.can_stream.ensures.output c.if-can_stream.true) c.run_asked-ended.ensures

pub returns-then-not-goes_on : goal.returns-then-not-goes_on
returns-then-not-goes_on g c = λ does meant.
    ran-stopped (asks_of c.args.task []) (reads_of c.args.task) does _ _ _ _ _ _ _ _ _ _ _ _ _ _ _ (meant []) c.args.files.now
    (subst (λ (it : Bool). TakesStream it c.args.session.now c.take_stream.new.session c.in-Ok.first) c.reads_input.ensures c.in-Ok.ensures.ok)
    c.end-how-2.ensures.shell c.end-how-2.ensures.how (no-files c.args.task c.args.files.now (g.T.Tree.state c.args.tree.now) c.requires.ready _) _ _ _ _ _ _ _ (gathered-ran _ _ _ _ _ _ _ _ _ _ _ _ _ c.new.ensures c.into_bytes-text.ensures c.run_asked-ended-2.ensures)
    (sym c.goes_on.ensures ∙ c.if-not-goes_on.true)

pub returns : goal.returns
returns g c = λ does meant.
    ran-put (asks_of c.args.task []) (reads_of c.args.task) does _ _ _ _ _ _ _ _ _ _ _ _ _ _ _ (meant []) c.args.files.now
    (subst (λ (it : Bool). TakesStream it c.args.session.now c.take_stream.new.session c.in-Ok.first) c.reads_input.ensures c.in-Ok.ensures.ok)
    c.end-how-2.ensures.shell c.end-how-2.ensures.how (no-files c.args.task c.args.files.now (g.T.Tree.state c.args.tree.now) c.requires.ready _) _ _ _ _ _ _ _ (gathered-ran _ _ _ _ _ _ _ _ _ _ _ _ _ c.new.ensures c.into_bytes-text.ensures c.run_asked-ended-2.ensures)
    (sym c.goes_on.ensures ∙ c.if-not-goes_on.false) _ _ (put-so c.args.files.now _ _ _ _ _ c.as_slice.ensures.value (c.spread-how.ensures _ _ _))
