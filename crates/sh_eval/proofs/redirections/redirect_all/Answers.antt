use Rattle.std.proofs.Common.{[], None, refl, ap}
use Rattle.sh_eval.specs.declared.session.Session.{Session}
use Rattle.sh_eval.specs.Shells.{started}
use Rattle.sh_eval.specs.Contract.{drawn_of, seen_of}
use Rattle.sh_eval.specs.Redirections.{redirecting}
use Rattle.sh_eval.proofs.RedirectionLoops.{reaches-none, all-led, all-done, all-stopped-at, kept-none, kept-more, kept-all, kept-some}
use Rattle.sh_eval.proofs.redirections.redirect_all.Goals as goal

pub loop-target-init : goal.loop-target-init
loop-target-init g c =
    record { reaches = λ shell seen input output errors. reaches-none (λ way. redirecting way c.args.targets.now) _; whole = c.requires.whole; kept = kept-none c.args.targets.now _ _ }

pub loop-target-preserved : goal.loop-target-preserved
loop-target-preserved g c =
    record {
      reaches = λ shell seen input output errors.
          all-led c.args.targets.now c.loop-target.target-index c.target-item.result _ _ _ c.target-item.is c.loop-target-test.true (c.loop-target.invariant.reaches shell seen input output errors)
          (c.in-Ok.ensures.does shell seen input output errors);
      whole = (c.in-Ok.ensures.does (started [] []) (seen_of (drawn_of None None) None None) 0 0 0).leaves_on.whole c.loop-target.invariant.whole;
      kept = kept-more c.args.targets.now c.loop-target.target-index c.target-item.result _ _ _ _ _ _ c.in-Ok.read c.target-item.is c.loop-target-test.true c.loop-target.invariant.kept c.in-Ok.ensures.from c.keep_read.ensures
          c.in-Ok.ensures.kept c.requires.fresh;
    }

pub returns-in-Err-clause-does : goal.returns-in-Err-clause-does
returns-in-Err-clause-does g c =
    λ shell seen input output errors. all-stopped-at c.args.targets.now c.loop-target.target-index c.target-item.result _ _ _ c.in-Err.stop c.target-item.is c.loop-target-test.true refl
    (c.loop-target.invariant.reaches shell seen input output errors) (c.in-Err.ensures.does shell seen input output errors)

pub returns-in-Err-clause-err : goal.returns-in-Err-clause-err
returns-in-Err-clause-err g c = kept-some c.args.targets.now _ _ _ _ _ _ (ap (λ (it : Session). it.streams.from) c.in-Err.ensures.unchanged) c.loop-target.invariant.kept

pub returns-clause-does : goal.returns-clause-does
returns-clause-does g c =
    λ shell seen input output errors. all-done c.args.targets.now c.loop-target.target-index _ _ c.loop-target-test.false (c.loop-target.invariant.reaches shell seen input output errors)

pub returns-clause-ok : goal.returns-clause-ok
returns-clause-ok g c = kept-all c.args.targets.now c.loop-target.target-index _ _ _ _ c.loop-target-test.false c.loop-target.invariant.kept
