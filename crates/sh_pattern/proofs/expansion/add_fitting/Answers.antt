use Rattle.std.proofs.Common.{ℕ, ap, ◌∙◌}
use Rattle.std.specs.Global.{Vec}
use Rattle.ps_world.specs.Paths.{is_name}
use Rattle.sh_pattern.proofs.ExpansionLemmas.{adds_next, name_at}
use Rattle.sh_pattern.proofs.expansion.add_fitting.Goals as goal

pub add_if_fits-requires-clause-name : goal.add_if_fits-requires-clause-name
add_if_fits-requires-clause-name c =
    ap is_name (c.as_slice.ensures.value ∙ ap (λ (name : Vec ℕ). name.items) c.name-item.is) ∙ name_at c.args.names.now c.loop-name.name-index c.name-item.result c.loop-name-test.true c.requires.names

pub loop-name-preserved : goal.loop-name-preserved
loop-name-preserved c =
    adds_next c.args.names.now c.loop-name.name-index c.name-item.result c.as_slice.result.now c.args.from.now c.args.component.now c.args.ending.now _ _ _
    c.name-item.is c.loop-name-test.true c.as_slice.ensures.value c.loop-name.invariant c.in_ok-add_if_fits.ensures.found
