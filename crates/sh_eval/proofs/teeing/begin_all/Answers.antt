use Rattle.std.proofs.Common.{◌∙◌, refl}
use Rattle.ps_lines.specs.Texts.{texts_of}
use Rattle.sh_eval.specs.Inner.Teeing.{made_of}
use Rattle.sh_eval.specs.Teeing.{making, none_made}
use Rattle.sh_eval.proofs.TeeingSteps.{begins-done, begins-next, begins-none, fails-next, there-none}
use Rattle.sh_eval.proofs.teeing.begin_all.Goals as goal

pub loop-text-init : goal.loop-text-init
loop-text-init g c =
    record {
      begins = begins-none c.args.anew c.args.name.now (texts_of c.args.texts.now) _ _ (g.T.Tree.state c.args.tree.now) c.new.ensures.items c.new-2.ensures.items;
      there = there-none _ _ c.new.ensures.items;
      calm = refl;
    }

pub begin_one-requires-clause-whole : goal.begin_one-requires-clause-whole
begin_one-requires-clause-whole g c κs within = c.loop-text.invariant.begins.whole c.requires.whole

pub loop-text-preserved : goal.loop-text-preserved
loop-text-preserved g c =
    record {
      begins = begins-next c.args.anew c.args.name.now _ c.args.texts.now c.loop-text.text-index c.text-item.result (making c.args.anew c.args.name.now (texts_of c.args.texts.now) none_made) (made_of c.loop-text.begun) _
          (g.T.Tree.state c.args.tree.now) (g.T.Tree.state c.loop-text.tree) (g.T.Tree.state c.begin_one.new.tree) c.text-item.is c.loop-text-test.true c.as_slice.ensures.value c.loop-text.invariant.begins c.in-Ok.ensures.begins;
      there = c.in-Ok.ensures.there c.loop-text.invariant.there;
      calm = c.in-Ok.ensures.calm ∙ c.loop-text.invariant.calm;
    }

pub returns-in-Err-clause-err : goal.returns-in-Err-clause-err
returns-in-Err-clause-err g c =
    fails-next c.args.anew c.args.name.now _ c.args.texts.now c.loop-text.text-index c.text-item.result (making c.args.anew c.args.name.now (texts_of c.args.texts.now) none_made) (made_of c.loop-text.begun) _
    (g.T.Tree.state c.args.tree.now) (g.T.Tree.state c.loop-text.tree) (g.T.Tree.state c.begin_one.new.tree) _ _ _ c.text-item.is c.loop-text-test.true c.as_slice.ensures.value c.loop-text.invariant.begins c.loop-text.invariant.calm
    c.in-Err.ensures.err

pub returns-clause-begins : goal.returns-clause-begins
returns-clause-begins g c =
    begins-done c.args.anew c.args.name.now c.args.texts.now c.loop-text.text-index (making c.args.anew c.args.name.now (texts_of c.args.texts.now) none_made) _ (g.T.Tree.state c.args.tree.now) (g.T.Tree.state c.loop-text.tree) c.loop-text-test.false c.loop-text.invariant.begins
