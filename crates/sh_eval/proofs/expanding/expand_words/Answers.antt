use Rattle.std.proofs.Common.{map, Err, ap}
use Rattle.sh_tree.specs.Views.{word_tree}
use Rattle.sh_eval.proofs.ExpandingSteps.{words-end}
use Rattle.sh_eval.proofs.expanding.expand_words.Goals as goal

pub returns-in-Err : goal.returns-in-Err
returns-in-Err g c =
    record {
      ok = tt;
      err = λ drawn input. words-end (map word_tree c.args.words.now) _ _ _ _ _ _ _ _ _ _ _ c.in-Err.ensures.others c.in-Err.ensures.state c.in-Err.fault
          c.in-Err.ensures.told c.in-Err.ensures.cause.later (λ failed. c.in-Err.ensures.cause.failed (ap Err failed)) c.in-Err.ensures.cause.others _ _ (c.stop_at.ensures drawn input);
      session = tt;
      state = tt;
    }
