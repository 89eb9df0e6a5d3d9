use Rattle.std.proofs.Common.{◌≡◌, ℕ, List, drop, refl, sym, ap, ◌∙◌}
use Rattle.std.specs.Global.{Vec}
use Rattle.std.proofs.lemmas.List.{drop-map, take_rest}
use Rattle.ps_lines.specs.Texts.{texts_of}
use Rattle.sh_eval.specs.declared.flows.Flow.TheVariants as flow
use Rattle.sh_eval.specs.Shells.{with_status}
use Rattle.sh_eval.specs.Builtins.{sets}
use Rattle.sh_eval.proofs.EndingLemmas.{changed}
use Rattle.sh_eval.proofs.builtins.drop_arguments.Goals as goal

pub returns : goal.returns
returns c =
    let left : c.in-Ok.arguments ≡ drop c.args.count c.args.shell.now.arguments =
    c.in-Ok.ensures ∙ ap texts_of (take_rest c.as_slice.result.now c.args.count) ∙ sym (drop-map (λ (text : Vec ℕ). text.items) c.args.count c.as_slice.result.now) ∙ ap (drop c.args.count) c.as_slice.ensures in
    changed (λ expansions. sets (drop c.args.count c.args.shell.now.arguments)) flow.On (λ shell. with_status 0 (record shell { arguments = drop c.args.count c.args.shell.now.arguments })) c.args.shell.now _
    (ap (λ (it : List (List ℕ)). with_status 0 (record c.args.shell.now { arguments = it })) left) (λ expansions state same. refl)
