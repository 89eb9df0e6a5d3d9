use Rattle.std.proofs.Common.{ℕ, true, false, sym, ap, ◌∙◌}
use Rattle.ut_args.specs.Invocations.{command_of}
use Rattle.ut_args.specs.declared.invocations.Inv.{Inv}
use Rattle.sh_eval.specs.declared.flows.Flow.TheVariants as flow
use Rattle.sh_eval.specs.Asking.{builtin, does}
use Rattle.sh_eval.specs.Builtins.{succeeds, fails, echoes, tests, leaves_loops, exits, sets, shifts, unsets, reads}
use Rattle.sh_eval.proofs.Steps.{wanted}
use Rattle.sh_eval.proofs.BuiltinLemmas.{run-so, asked-adds_to}
use Rattle.sh_eval.proofs.builtins.run.Goals as goal

pub returns-in-True : goal.returns-in-True
returns-in-True g c =
    λ used words is_special means is. run-so false is_special succeeds means _ _ _ (ap (λ (it : Inv). does c.args.name.now words (command_of it)) (sym c.in-True.is) ∙ is) (c.succeed.ensures _ _ _ _)

pub returns-in-False : goal.returns-in-False
returns-in-False g c =
    λ used words is_special means is. run-so false is_special fails means _ _ _ (ap (λ (it : Inv). does c.args.name.now words (command_of it)) (sym c.in-False.is) ∙ is) (c.fail.ensures _ _ _ _)

pub returns-in-Colon : goal.returns-in-Colon
returns-in-Colon g c =
    λ used words is_special means is. run-so true is_special succeeds means _ _ _ (ap (λ (it : Inv). does c.args.name.now words (command_of it)) (sym c.in-Colon.is) ∙ is) (c.succeed-in-Colon.ensures _ _ _ _)

pub returns-in-Exit : goal.returns-in-Exit
returns-in-Exit g c =
    λ used words is_special means is. run-so true is_special (exits c.in-Exit.inv.args.status) means _ _ _ (ap (λ (it : Inv). does c.args.name.now words (command_of it)) (sym c.in-Exit.is) ∙ is) (c.exit.ensures _ _ _ _)

pub returns-in-Set : goal.returns-in-Set
returns-in-Set g c =
    λ used words is_special means is. run-so true is_special (sets c.in-Set.inv.args.arguments) means _ _ _ (ap (λ (it : Inv). does c.args.name.now words (command_of it)) (sym c.in-Set.is) ∙ is) (c.set.ensures _ _ _ _)

pub returns-in-Unset : goal.returns-in-Unset
returns-in-Unset g c =
    λ used words is_special means is. run-so true is_special (unsets c.in-Unset.inv.args.names) means _ _ _ (ap (λ (it : Inv). does c.args.name.now words (command_of it)) (sym c.in-Unset.is) ∙ is) (c.unset.ensures _ _ _ _)

pub returns-in-Read : goal.returns-in-Read
returns-in-Read g c =
    λ used words is_special means is. run-so false is_special (reads c.in-Read.inv.args.names) means _ _ _ (ap (λ (it : Inv). does c.args.name.now words (command_of it)) (sym c.in-Read.is) ∙ is) (c.read_names.ensures _ _ _ _ _ _ _)

pub returns-in-Test : goal.returns-in-Test
returns-in-Test g c =
    λ used words is_special means is. run-so false is_special (tests c.args.name.now c.in-Test.inv.args.arguments) means _ _ _ (ap (λ (it : Inv). does c.args.name.now words (command_of it)) (sym c.in-Test.is) ∙ is) (c.run_test.ensures _ _)

pub returns-in-Bracket : goal.returns-in-Bracket
returns-in-Bracket g c =
    λ used words is_special means is. run-so false is_special (tests c.args.name.now c.in-Bracket.inv.args.arguments) means _ _ _ (ap (λ (it : Inv). does c.args.name.now words (command_of it)) (sym c.in-Bracket.is) ∙ is) (c.run_test-in-Bracket.ensures _ _)

pub returns-in-Echo : goal.returns-in-Echo
returns-in-Echo g c =
    λ used words is_special means is. run-so false is_special (echoes c.in-Echo.inv.args.operands) means _ _ _ (ap (λ (it : Inv). does c.args.name.now words (command_of it)) (sym c.in-Echo.is) ∙ is) (c.run_echo.ensures _ _)

pub returns-in-Break : goal.returns-in-Break
returns-in-Break g c =
    λ used words is_special means is. run-so true is_special (leaves_loops (λ loops. flow.Break loops) c.unwrap_or.result) means _ _ _
    (ap (λ (it : ℕ). builtin true (leaves_loops (λ loops. flow.Break loops) it)) c.unwrap_or.ensures ∙ ap (λ (it : Inv). does c.args.name.now words (command_of it)) (sym c.in-Break.is) ∙ is) (c.break_loops.ensures _ _ _ _)

pub returns-in-Continue : goal.returns-in-Continue
returns-in-Continue g c =
    λ used words is_special means is. run-so true is_special (leaves_loops (λ loops. flow.Continue loops) c.unwrap_or-in-Continue.result) means _ _ _
    (ap (λ (it : ℕ). builtin true (leaves_loops (λ loops. flow.Continue loops) it)) c.unwrap_or-in-Continue.ensures ∙ ap (λ (it : Inv). does c.args.name.now words (command_of it)) (sym c.in-Continue.is) ∙ is) (c.continue_loops.ensures _ _ _ _)

pub returns-in-Shift : goal.returns-in-Shift
returns-in-Shift g c =
    λ used words is_special means is. run-so true is_special (shifts c.args.name.now c.unwrap_or-in-Shift.result) means _ _ _
    (ap (λ (it : ℕ). builtin true (shifts c.args.name.now it)) c.unwrap_or-in-Shift.ensures ∙ ap (λ (it : Inv). does c.args.name.now words (command_of it)) (sym c.in-Shift.is) ∙ is) (c.shift.ensures _ _)

pub returns-in_default : goal.returns-in_default
returns-in_default g c =
    λ used words is_special means is. wanted (λ expansions. means) _ (λ expansions. asked-adds_to c.args.name.now words (command_of c.args.inv.now) is_special means is)
