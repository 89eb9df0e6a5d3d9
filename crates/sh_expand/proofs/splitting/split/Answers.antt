use Rattle.sh_expand.proofs.SplitLemmas.{step, holds}
use Rattle.sh_expand.proofs.splitting.split.Goals as goal

pub loop-mark-preserved : goal.loop-mark-preserved
loop-mark-preserved c =
    let l = c.loop-mark in
    record {
      fields = step _ _ _ l.field.items c.put_mark.new.field.items _ c.in-Some.rest.now c.args.ifs.now l.before c.after-before.result c.act_at.result c.class_of-class.result c.in-Some.mark c.in-Some.ensures.first c.class_of-class.ensures c.act_at.ensures c.after-before.ensures c.in_ok-put_mark.ensures.fields l.invariant.fields;
      held = holds l.field.items _ l.before _ c.act_at.result c.class_of-class.result c.in-Some.mark c.act_at.ensures c.after-before.ensures c.in_ok-put_mark.ensures.field l.invariant.held;
    }
