-- Paths as lists of byte strings.
use Rattle.std.proofs.Common.{◌≡◌, ℕ, List, nat_eq}
use Rattle.std.proofs.lemmas.List.{length-map, take-map}
use Rattle.std.specs.Global.{Vec}
use Rattle.std.specs.List.{starts_with}
use Rattle.std.specs.Cmp.Derive.Mapped.{pointwise-map}
use Rattle.std.specs.Cmp.Lexicographic.{pointwise}
use Rattle.ps_lines.specs.Texts.{texts_of}

-- the texts of one list begin with those of another where the byte strings do
pub starts_with-texts : (whole front : List (Vec ℕ)) → starts_with (pointwise nat_eq) (texts_of whole) (texts_of front) ≡ starts_with (λ text other. pointwise nat_eq text.items other.items) whole front
starts_with-texts whole front =
    simp (length-map, take-map, pointwise-map)
