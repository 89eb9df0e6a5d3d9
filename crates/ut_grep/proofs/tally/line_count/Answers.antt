use Rattle.std.proofs.Common.{◌∙◌, ap, length}
use Rattle.memchr.specs.Find.{is_byte}
use Rattle.memchr.proofs.lemmas.CallerLemmas.{length-places}
use Rattle.ut_grep.proofs.TallyLemmas.{newlines-lines}
use Rattle.ut_grep.proofs.tally.line_count.Goals as goal

pub returns : goal.returns
returns c =
    c.count.ensures ∙ ap length c.memchr_iter.ensures.value ∙ length-places (is_byte 10) c.args.block.now ∙ newlines-lines c.args.block.now c.requires
