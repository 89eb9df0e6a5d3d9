use Rattle.std.proofs.Common.{rules, ◌≡◌, ℕ, List, IfSome, subst}
use Rattle.ps_world.specs.Places.{resolve}
use Rattle.ut_test.specs.Tests.{tested_by}
use Rattle.sh_eval.specs.Builtins.{tests}
use Rattle.sh_eval.proofs.BuiltinLemmas.{tested-from, adds-tests, tree-failed, tree-wanted}
use Rattle.sh_eval.proofs.builtins.run_test.Goals as goal

pub returns-in-Ok : goal.returns-in-Ok
returns-in-Ok g c =
    λ drawn input. tested-from c.args.name.now c.args.arguments.now c.in-Ok.tested _ _ _ _ _ _ _ _ _ _ _ _
    (subst (λ (it : List (List ℕ)). IfSome (g.T.Tree.state c.args.tree.now).held (λ files. c.in-Ok.tested ≡ tested_by (resolve files (g.T.Tree.state c.args.tree.now).home) it)) c.as_slice.ensures c.in-Ok.ensures.answer)
    c.in-Ok.ensures.state c.in-Ok.ensures.cause.ok (c.answer.ensures drawn input)

pub returns-in-Err-Failed : goal.returns-in-Err-Failed
returns-in-Err-Failed g c =
    λ drawn input. tree-failed (λ expansions. tests c.args.name.now c.args.arguments.now) _ _ _ _ _ _ _ _ _ _ _ (adds-tests c.args.name.now c.args.arguments.now) c.test.ensures.state c.test.ensures.cause (search rules)

pub returns-in-Err-Memory : goal.returns-in-Err-Memory
returns-in-Err-Memory g c =
    λ drawn input. tree-wanted (λ expansions. tests c.args.name.now c.args.arguments.now) _ _ _ _ _ _ _ _ _ _ (adds-tests c.args.name.now c.args.arguments.now) c.test.ensures.state c.test.ensures.cause.later
