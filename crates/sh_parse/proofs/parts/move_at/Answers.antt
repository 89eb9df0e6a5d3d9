use Rattle.std.proofs.Common.{◌∙◌, [], ◌∷◌, sym, ap}
use Rattle.sh_parse.specs.Inner.Owed.{move, pipes, joins, separator, followed, stuck, skip}
use Rattle.sh_parse.proofs.Movings.{next_command_rest, next_pipeline_rest, again_rest, body_rest}
use Rattle.sh_parse.proofs.parts.move_at.Goals as goal

pub returns-in_default-item-4 : goal.returns-in_default-item-4
returns-in_default-item-4 c =
    c.alone-in_default-item-4.ensures ∙ c.command_by-in_default-item-4.ensures
    ∙ sym (next_command_rest c.args.item c.in_default-item-4.not-Newline) ∙ ap (λ p. move p c.args.item) (sym c.in-NextCommand.is)

pub returns-in_default-item-6 : goal.returns-in_default-item-6
returns-in_default-item-6 c =
    c.followed-in_default-item-6.ensures ∙ ap (λ m. followed m (pipes ∷ []) stuck) c.pipeline_by-in_default-item-6.ensures
    ∙ sym (next_pipeline_rest c.args.item c.in_default-item-6.not-Newline) ∙ ap (λ p. move p c.args.item) (sym c.in-NextPipeline.is)

pub returns-in_default-item-8 : goal.returns-in_default-item-8
returns-in_default-item-8 c =
    c.followed-in_default-item-8.ensures ∙ ap (λ m. followed m (pipes ∷ joins ∷ separator ∷ []) skip) c.pipeline_by-in_default-item-8.ensures
    ∙ sym (again_rest c.args.item c.in_default-item-8.not-Newline) ∙ ap (λ p. move p c.args.item) (sym c.in-Again.is)

pub returns-in_default-item-9 : goal.returns-in_default-item-9
returns-in_default-item-9 c =
    c.followed-in_default-item-9.ensures ∙ ap (λ m. followed m (pipes ∷ joins ∷ separator ∷ []) stuck) c.pipeline_by-in_default-item-9.ensures
    ∙ sym (body_rest c.args.item c.in_default-item-9.not-Newline) ∙ ap (λ p. move p c.args.item) (sym c.in-Body.is)
