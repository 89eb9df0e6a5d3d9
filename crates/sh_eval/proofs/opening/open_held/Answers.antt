use Rattle.std.proofs.Common.{[], refl}
use Rattle.sh_eval.specs.declared.flows.Flow.TheVariants as flow
use Rattle.sh_eval.specs.Redirections.{holding, in_redirections, uses_of}
use Rattle.sh_eval.proofs.Growing.{adds-in_redirections}
use Rattle.sh_eval.proofs.OpeningLemmas.{adds-held, faults-so, finds-alone, held-so, opens-held, shuts-held, shuts-unheld}
use Rattle.sh_eval.proofs.opening.open_held.Goals as goal

pub returns-in-Err-clause-err : goal.returns-in-Err-clause-err
returns-in-Err-clause-err g c = λ drawn input next adds.
    c.in-Err.ensures.err _ _ _ _ _ (λ state. []) (λ state held home. c.new-uses.ensures.items) (λ expansions at_first. in_redirections flow.On c.args.targets.now (λ inner. next expansions (holding (uses_of at_first c.args.targets.now) inner)))
    (λ expansions at_first. adds-in_redirections flow.On c.args.targets.now (λ inner. next expansions (holding (uses_of at_first c.args.targets.now) inner)) (adds-held (uses_of at_first c.args.targets.now) (next expansions) (adds expansions)))

pub returns-in-Err-lead_all-clause-err : goal.returns-in-Err-lead_all-clause-err
returns-in-Err-lead_all-clause-err g c = λ drawn input.
    shuts-held c.args.targets.now _ _ _ _ _ _ _ _ c.in-Ok.ensures.free (finds-alone c.args.targets.now (g.T.Tree.state c.args.tree.now) _ _ c.new-uses.ensures.items c.in-Ok.ensures.ok) c.in-Ok.ensures.state (faults-so input _ _ _ _ c.in-Ok.ensures.calm) _ _
    (c.in-Err-lead_all.ensures.err drawn input)

pub returns-in_default-clause-err : goal.returns-in_default-clause-err
returns-in_default-clause-err g c = λ drawn input.
    shuts-unheld c.args.targets.now _ _ _ _ _ _ _ _ c.in-Ok.ensures.free (finds-alone c.args.targets.now (g.T.Tree.state c.args.tree.now) _ _ c.new-uses.ensures.items c.in-Ok.ensures.ok) c.in-Ok.ensures.state (faults-so input _ _ _ _ c.in-Ok.ensures.calm) c.in-Ok-lead_all.before _ _ _ _ _ _ _
    (c.in-Ok-lead_all.ensures.ok drawn input) refl c.close.ensures

pub returns-clause-ok : goal.returns-clause-ok
returns-clause-ok g c = λ drawn input.
    opens-held c.args.targets.now _ _ _ _ _ _ _ _ c.in-Ok.ensures.free (finds-alone c.args.targets.now (g.T.Tree.state c.args.tree.now) _ _ c.new-uses.ensures.items c.in-Ok.ensures.ok) c.in-Ok.ensures.state (faults-so input _ _ _ _ c.in-Ok.ensures.calm) c.in-Ok-lead_all.before _ _ _ _ _ _
    (c.in-Ok-lead_all.ensures.ok drawn input) (held-so _ _ _ _ c.as_slice.ensures.value c.in-Ok-hold.ensures)
