use Rattle.std.proofs.Common.{◌≡◌, ◌∷◌, ℕ, List, take}
use Rattle.std.specs.List.{flat_map}
use Rattle.ps_lines.specs.Texts.{texts_of}
use Rattle.ps_world.specs.Paths.{slash}
use Rattle.ps_world.proofs.path.Path.spell.Given as goal

abbrev pub invariant-loop-part : goal.invariant-loop-part
invariant-loop-part l = l.text.items ≡ flat_map (λ (part : List ℕ). slash ∷ part) (texts_of (take l.part-index l.part-items))
