use Rattle.std.proofs.Common.{◌≡◌, ℕ, List, IfOk, refl, subst}
use Rattle.sh_eval.specs.declared.flows.Flow.TheVariants as flow
use Rattle.sh_eval.specs.declared.refusals.Refusal.TheVariants as refusal
use Rattle.sh_eval.specs.Lines.{unset_line}
use Rattle.sh_eval.proofs.Steps.{changed}
use Rattle.sh_eval.proofs.expanding.stop_at.Goals as goal

pub returns-in-ArgsTooMany : goal.returns-in-ArgsTooMany
returns-in-ArgsTooMany g c = λ drawn input. rw c.in-ArgsTooMany.is (changed (flow.Refused refusal.ArgsTooMany) (λ shell. shell) _ _ _ _ _ _ refl)

pub returns-in-Failed : goal.returns-in-Failed
returns-in-Failed g c = λ drawn input. rw c.in-Failed.is (record { came_is = refl; same = refl })

pub returns-in-Memory : goal.returns-in-Memory
returns-in-Memory g c = λ drawn input. rw c.in-Memory.is (record { came_is = refl; same = refl })

pub returns-in-Unset : goal.returns-in-Unset
returns-in-Unset g c = λ drawn input. rw c.in-Unset.is (c.end_told.ensures _ (subst (λ (it : List ℕ). IfOk c.unset_line-line.result (λ line. line.items ≡ unset_line it c.in-Unset.text)) c.as_slice.ensures
    (subst (λ (it : List ℕ). IfOk c.unset_line-line.result (λ line. line.items ≡ unset_line c.as_slice.result.now it)) c.as_slice-in-Unset.ensures c.unset_line-line.ensures)) drawn input)

pub returns-in-Arith : goal.returns-in-Arith
returns-in-Arith g c = λ drawn input. rw c.in-Arith.is (c.end_told-in-Arith.ensures _ c.arithmetic_line-line.ensures drawn input)
