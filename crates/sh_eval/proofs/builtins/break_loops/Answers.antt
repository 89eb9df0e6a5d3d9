use Rattle.std.proofs.Common.{rules, ◌≡◌, ℕ, min, refl, ap, ◌∙◌}
use Rattle.sh_eval.specs.declared.flows.Flow.TheVariants as flow
use Rattle.sh_eval.proofs.BuiltinLemmas.{no_loop, some_loop, loops-left}
use Rattle.sh_eval.proofs.builtins.break_loops.Goals as goal

pub returns-then-shell-eq0 : goal.returns-then-shell-eq0
returns-then-shell-eq0 c =
    loops-left (λ loops. flow.Break loops) c.args.count c.args.shell.now _ flow.On refl (no_loop (λ loops. flow.Break loops) c.args.count c.args.shell.now.loops (search rules))

pub returns : goal.returns
returns c =
    let least : c.min.result ≡ min c.args.count c.args.shell.now.loops = search rules in
    loops-left (λ loops. flow.Break loops) c.args.count c.args.shell.now _ (flow.Break c.min.result) refl
    (ap (λ (it : ℕ). flow.Break it) least ∙ some_loop (λ loops. flow.Break loops) c.args.count c.args.shell.now.loops (search rules))
