use Rattle.std.proofs.Common.{Bool, ap, ◌∙◌}
use Rattle.ut_args.specs.Invocations.{command_of}
use Rattle.fl_commands.specs.Inner.Stages.{plain_status}
use Rattle.fl_commands.specs.Operands.{ins_of}
use Rattle.fl_commands.proofs.StageLemmas.{stage-so}
use Rattle.fl_commands.proofs.stages.stage_of.Goals as goal

pub returns : goal.returns
returns c =
    stage-so c.args.inv.now c.args.operands.now c.args.tees.now c.in_ok-without.without _ _ _ _ _ _ _ _ (c.as_slice.ensures.value ∙ c.in_ok-flags.ensures) c.in_ok-without.ensures.command c.in_ok-without.ensures.words
    (c.from_vec.ensures ∙ c.in_ok-ins.ensures ∙ ap (λ (it : Bool). ins_of it c.args.operands.now) c.deals.ensures) (c.from_vec-2.ensures ∙ c.new.ensures.items) (c.from_vec-3.ensures ∙ c.new-2.ensures.items) (c.status_where.ensures ∙ ap (plain_status (command_of c.args.inv.now)) c.some_lacks.ensures)
    (c.from_vec-4.ensures ∙ c.new-3.ensures.items) (c.from_vec-5.ensures ∙ c.new-4.ensures.items) (c.from_vec-6.ensures ∙ c.in_ok-tees.ensures)
