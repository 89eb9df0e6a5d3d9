use Rattle.std.proofs.Common.{refl}
use Rattle.sh_eval.proofs.ExpandingSteps.{targets-begun, targets-done, targets-end, targets-pass, targets-wanted}
use Rattle.sh_eval.proofs.expanding.expand_targets.Goals as goal

pub returns-in-Err-clause-err : goal.returns-in-Err-clause-err
returns-in-Err-clause-err g c = λ drawn input next adds.
    c.loop-redir.invariant.rest next drawn input _ _
    (targets-end c.args.redirs.now c.loop-redir.redir-index c.redir-item.result c.redir-item.is c.loop-redir-test.true _ _ _ _ _ _ _ _ _ _ c.in-Err.ensures.others c.in-Err.fault c.in-Err.ensures.of_words
    c.in-Err.ensures.told _ _ (c.stop_at.ensures drawn input) next adds)

pub returns-in_default-clause-err : goal.returns-in_default-clause-err
returns-in_default-clause-err g c = λ drawn input next adds.
    c.loop-redir.invariant.rest next drawn input _ _ (targets-wanted c.args.redirs.now c.loop-redir.redir-index _ _ _ _ _ _ _ next adds)

pub loop-redir-init : goal.loop-redir-init
loop-redir-init g c =
    record {
      rest = λ next drawn input came new. targets-begun c.args.redirs.now _ c.new-targets.ensures.items next _ new came;
      sound = c.requires.sound;
      session = refl;
      state = refl;
    }

pub loop-redir-preserved : goal.loop-redir-preserved
loop-redir-preserved g c =
    record {
      rest = λ next drawn input came new rest. c.loop-redir.invariant.rest next drawn input came new
          (targets-pass c.args.redirs.now c.loop-redir.redir-index c.redir-item.result c.redir-item.is c.loop-redir-test.true _ _ _ _ _ _ _ c.in-Ok.ensures.others _ _ _ c.in-Ok.ensures.told
          c.from_vec-text.ensures c.in-Ok-push.ensures.items came new next rest);
      sound = c.loop-redir.invariant.sound;
      session = c.loop-redir.invariant.session;
      state = c.loop-redir.invariant.state;
    }

pub returns-clause-ok : goal.returns-clause-ok
returns-clause-ok g c = λ drawn input next came new found.
    c.loop-redir.invariant.rest next drawn input came new (targets-done c.args.redirs.now c.loop-redir.redir-index _ c.loop-redir-test.false next _ _ _ found)
