use Rattle.std.proofs.Common.{sym, ap, ◌∙◌, drop, [], arith}
use Rattle.std.proofs.lemmas.List.{at_drop_more}
use Rattle.sh_pattern.specs.Marks.{past_spelling}
use Rattle.sh_pattern.proofs.classes.past_spelling.Goals as goal

pub returns-in_default-clause-past : goal.returns-in_default-clause-past
returns-in_default-clause-past c =
    let bytes = c.args.bytes.now in
    let at = c.loop-byte.byte-index in
    sym c.loop-byte.invariant.past ∙ ap (past_spelling (drop at bytes)) c.in_default.ensures ∙ at_drop_more (λ left. past_spelling left []) bytes at 0 (omega arith)
