use Rattle.std.specs.Prelude.{codes}
use Rattle.pash.proofs.LineLemmas.{grew_by_both}
use Rattle.pash.proofs.lines.add_unsupported_flag.Goals as goal

pub returns : goal.returns
returns c = grew_by_both _ c.args.line.now.items (codes "UnsupportedFlag ") _ _ _ c.in_ok-add.ensures c.add_with_letter.ensures
