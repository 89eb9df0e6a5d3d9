use Rattle.std.proofs.Common.{ℕ, List, map, drop, ap, ◌∙◌}
use Rattle.std.specs.FinMap as finite
use Rattle.sh_arith.specs.Variables.{Variables}
use Rattle.sh_eval.specs.Shells.{with_env}
use Rattle.std.proofs.Math.ListN.{drop_of_length-le}
use Rattle.sh_eval.specs.declared.outcomes.How.TheVariants as how
use Rattle.sh_eval.specs.Expanding.{assigning}
use Rattle.sh_eval.specs.Inner.Bodies.{assign_tree}
use Rattle.sh_eval.proofs.Growing.{adds-assigning}
use Rattle.sh_eval.proofs.ExpandingSteps.{assigns-end, assigns-pass}
use Rattle.sh_eval.proofs.Steps.{failed-early, no-fewer}
use Rattle.sh_eval.proofs.expanding.assign_all.Goals as goal

pub returns-in-Err-clause-err : goal.returns-in-Err-clause-err
returns-in-Err-clause-err g c = λ drawn input next adds.
    c.loop-name.invariant.rest (λ expansions. next expansions (tt {0})) drawn input _ _
    (assigns-end c.args.assigns.now c.loop-name.name-index c.loop-name-item.result c.loop-name-item.is c.loop-name-test.true _ _ _ _ _ _ _ _ _ c.in-Err.ensures.others c.in-Err.fault c.in-Err.ensures.of_words
    c.in-Err.ensures.told _ _ (c.stop_at.ensures drawn input) (λ expansions. next expansions (tt {0})) (λ expansions. adds expansions (tt {0})))

pub returns-in_default-clause-err : goal.returns-in_default-clause-err
returns-in_default-clause-err g c = λ drawn input next adds.
    c.loop-name.invariant.rest (λ expansions. next expansions (tt {0})) drawn input _ _
    (failed-early (λ expansions. assigning expansions (map assign_tree (drop c.loop-name.name-index c.args.assigns.now)) (next expansions (tt {0})))
    (λ expansions. adds-assigning expansions (map assign_tree (drop c.loop-name.name-index c.args.assigns.now)) (next expansions (tt {0})) (adds expansions (tt {0}))) _ _ _ _ _ _ _ how.Memory (λ gone. gone) (no-fewer _) tt)

pub loop-name-preserved : goal.loop-name-preserved
loop-name-preserved g c =
    record {
      rest = λ next drawn input came new rest. c.loop-name.invariant.rest next drawn input came new
          (assigns-pass c.args.assigns.now c.loop-name.name-index c.loop-name-item.result c.loop-name-item.is c.loop-name-test.true _ _ _ _ _ _ _ c.in-Ok.ensures.others _ c.in-Ok.ensures.told
          (ap (λ (it : Variables). with_env it c.text_of.new.shell) (c.in-Ok-set.ensures.ok ∙ ap (λ (it : List ℕ). finite.insert c.text_of.new.shell.variables it c.as_slice-in-loop-name.result.now) c.as_slice.ensures
          ∙ ap (finite.insert c.text_of.new.shell.variables c.loop-name-item.result.0) c.as_slice-in-loop-name.ensures.value)) came new next rest);
      sound = c.loop-name.invariant.sound;
      session = c.loop-name.invariant.session;
      state = c.loop-name.invariant.state;
    }

pub returns-clause-ok : goal.returns-clause-ok
returns-clause-ok g c = λ drawn input next came new found.
    c.loop-name.invariant.rest (λ expansions. next expansions (tt {0})) drawn input came new (rw (drop_of_length-le c.args.assigns.now c.loop-name-test.false) found)
