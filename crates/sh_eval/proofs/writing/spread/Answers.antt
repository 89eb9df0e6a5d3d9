use Rattle.std.proofs.Common.{[], None, ◌∙◌, sym, refl}
use Rattle.sh_eval.specs.Contract.{drawn_of}
use Rattle.sh_eval.specs.Shells.{started}
use Rattle.sh_eval.proofs.Steps.{goes-gone}
use Rattle.sh_eval.proofs.TeeingSteps.{spread-so, spread-stopped, there-kept}
use Rattle.sh_eval.proofs.writing.spread.Goals as goal

pub write_each-requires-clause-there : goal.write_each-requires-clause-there
write_each-requires-clause-there g c κs within =
    there-kept c.args.files.now c.args.files.now _ _ refl ((c.put-how.ensures.evaluates (started [] []) (drawn_of None None) 0).keeps (goes-gone _ (sym c.goes_on.ensures ∙ c.if-not-goes_on.false))) c.requires.there

pub returns-then-not-goes_on : goal.returns-then-not-goes_on
returns-then-not-goes_on g c = λ shell drawn input. spread-stopped c.args.files.now c.args.bytes.now _ _ _ (sym c.goes_on.ensures ∙ c.if-not-goes_on.true) (c.put-how.ensures.evaluates shell drawn input)

pub returns : goal.returns
returns g c = λ shell drawn input.
    spread-so c.args.files.now c.args.bytes.now _ _ _ _ _ (sym c.goes_on.ensures ∙ c.if-not-goes_on.false) (c.put-how.ensures.evaluates shell drawn input) (c.write_each.ensures shell _ _ input _ _)
