use Rattle.ps_lines.proofs.ByteSetLemmas.{has-turned}
use Rattle.ps_lines.proofs.byte_set.complement_words.Goals as goal

pub returns : goal.returns
returns c = λ byte. has-turned c.args.words byte c.element_fits.fits c.element_fits2.fits c.element_fits3.fits c.element_fits4.fits
