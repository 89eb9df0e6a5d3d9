use Rattle.ut_bytes.proofs.TableLemmas.{image_at-is, image_at-none}
use Rattle.ut_bytes.proofs.tables.Images.of.Goals as goal

pub returns-in_default : goal.returns-in_default
returns-in_default c = image_at-none c.in_ok-images.images.items c.args.from.now c.args.to.now c.in_default.len_below c.in_ok-images.ensures.same

pub returns : goal.returns
returns c =
    image_at-is c.in_ok-images.images.items c.replace.new.images.items c.args.from.now c.args.to.now _ c.in-len1-up.len_at_least c.in_ok-images.ensures.same
    c.replace.ensures.replaced
