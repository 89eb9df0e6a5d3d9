use Rattle.std.proofs.Common.{◌≡◌, ◌≤◌, ◌<◌, ◌∙◌, ◌∷◌, ap, arith}
use Rattle.sh_parse.specs.Inner.Owed.{verdict, levels}
use Rattle.sh_parse.specs.Inner.Moves.{stacked}
use Rattle.sh_parse.specs.declared.items.TheConstants.{MAX_LEVELS}
use Rattle.sh_parse.proofs.Checks.{popped, push_is, opens_is, skip_is, stuck_is, push_steps, opens_steps, opens_over, skip_steps, stuck_steps}
use Rattle.sh_parse.proofs.checking.step.Goals as goal

pub returns-in-Push-clause-steps : goal.returns-in-Push-clause-steps
returns-in-Push-clause-steps c = λ rest.
    let l = c.loop-part in
    l.invariant rest ∙ ap (λ s. verdict MAX_LEVELS (c.args.first ∷ rest) s) (popped l.stack.items c.pop.new.self.items c.in-Some.part c.in-Some.ensures.items)
    ∙ push_steps c.args.first c.in-Some.part (stacked c.pop.new.self.items) rest _ (stacked c.in_ok-pushed-in-Push.pushed.items)
    (push_is c.move_at-owing.result _ c.in-Push.parts c.move_at-owing.ensures c.in-Push.is) c.in_ok-pushed-in-Push.ensures.owed

pub returns-then-levels-clause-stop : goal.returns-then-levels-clause-stop
returns-then-levels-clause-stop c = λ rest count.
    let l = c.loop-part in
    let same : c.levels.result ≡ levels (stacked c.in_ok-deeper-in-Opens.deeper.items)
    = c.levels.ensures ∙ ap (λ s. levels (stacked s)) c.as_slice.ensures.value in
    let more : MAX_LEVELS < levels (stacked c.in_ok-deeper-in-Opens.deeper.items) = omega (arith, same, c.if-levels.true) in
    l.invariant rest ∙ ap (λ s. verdict MAX_LEVELS (c.args.first ∷ rest) s) (popped l.stack.items c.pop.new.self.items c.in-Some.part c.in-Some.ensures.items)
    ∙ opens_over c.args.first c.in-Some.part (stacked c.pop.new.self.items) rest _ (stacked c.in_ok-deeper-in-Opens.deeper.items) c.args.left
    (opens_is c.move_at-owing.result _ c.in-Opens.parts c.move_at-owing.ensures c.in-Opens.is) c.in_ok-deeper-in-Opens.ensures.owed more count

pub returns-in-Opens-clause-steps : goal.returns-in-Opens-clause-steps
returns-in-Opens-clause-steps c = λ rest.
    let l = c.loop-part in
    let same : c.levels.result ≡ levels (stacked c.in_ok-deeper-in-Opens.deeper.items)
    = c.levels.ensures ∙ ap (λ s. levels (stacked s)) c.as_slice.ensures.value in
    let less : levels (stacked c.in_ok-deeper-in-Opens.deeper.items) ≤ MAX_LEVELS = omega (arith, same, c.if-levels.false) in
    l.invariant rest ∙ ap (λ s. verdict MAX_LEVELS (c.args.first ∷ rest) s) (popped l.stack.items c.pop.new.self.items c.in-Some.part c.in-Some.ensures.items)
    ∙ opens_steps c.args.first c.in-Some.part (stacked c.pop.new.self.items) rest _ (stacked c.in_ok-deeper-in-Opens.deeper.items)
    (opens_is c.move_at-owing.result _ c.in-Opens.parts c.move_at-owing.ensures c.in-Opens.is) c.in_ok-deeper-in-Opens.ensures.owed less

pub loop-part-preserved : goal.loop-part-preserved
loop-part-preserved c = λ rest.
    let l = c.loop-part in
    l.invariant rest ∙ ap (λ s. verdict MAX_LEVELS (c.args.first ∷ rest) s) (popped l.stack.items c.pop.new.self.items c.in-Some.part c.in-Some.ensures.items)
    ∙ skip_steps c.args.first c.in-Some.part (stacked c.pop.new.self.items) rest
    (skip_is c.move_at-owing.result _ c.move_at-owing.ensures c.in-Skip.is)

pub returns-in-Stuck-clause-stop : goal.returns-in-Stuck-clause-stop
returns-in-Stuck-clause-stop c = λ rest count.
    let l = c.loop-part in
    l.invariant rest ∙ ap (λ s. verdict MAX_LEVELS (c.args.first ∷ rest) s) (popped l.stack.items c.pop.new.self.items c.in-Some.part c.in-Some.ensures.items)
    ∙ stuck_steps c.args.first c.in-Some.part (stacked c.pop.new.self.items) rest c.args.left
    (stuck_is c.move_at-owing.result _ c.move_at-owing.ensures c.in-Stuck.is) count
