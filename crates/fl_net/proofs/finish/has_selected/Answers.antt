use Rattle.std.proofs.Common.{rules, refl, sym, ◌∙◌, length}
use Rattle.std.proofs.lemmas.Option.{slice_get_read}
use Rattle.fl_net.proofs.finish.has_selected.Goals as goal

pub returns : goal.returns
returns g c =
    let at = slice_get_read c.args.machines.now (length c.args.machines.now) c.args.node c.index-machines-place.result refl (search rules) (search rules) in
    λ told tells counted.
    c.selected.ensures (c.requires.stopped c.args.node c.index-machines-place.result at) (c.requires.whole c.args.node c.index-machines-place.result at)
    ∙ sym (tells c.args.node c.index-machines-place.result at)
