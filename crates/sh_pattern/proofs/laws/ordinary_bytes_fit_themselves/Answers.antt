use Rattle.std.proofs.Common.{sym, subst, map}
use Rattle.sh_pattern.specs.declared.elements.Element.TheVariants as element
use Rattle.sh_pattern.specs.Fits.{Fits}
use Rattle.sh_pattern.proofs.FitLemmas.{fits_itself, fits_only_itself}
use Rattle.sh_pattern.proofs.laws.ordinary_bytes_fit_themselves.Goals as goal

pub returns : goal.returns
returns c = λ bytes text. (fits_only_itself bytes text, λ same. subst (Fits (map element.Byte bytes)) (sym same) (fits_itself bytes))
