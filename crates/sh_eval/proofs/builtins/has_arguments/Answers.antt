use Rattle.std.proofs.Common.{ℕ, nat_le, length, sym, ap, ◌∙◌}
use Rattle.std.specs.Global.{Vec}
use Rattle.std.proofs.lemmas.List.{length-map}
use Rattle.sh_eval.proofs.builtins.has_arguments.Goals as goal

pub returns : goal.returns
returns c = ap (nat_le c.args.count) (sym (length-map c.as_slice.result.now (λ (text : Vec ℕ). text.items)) ∙ ap length c.as_slice.ensures)
