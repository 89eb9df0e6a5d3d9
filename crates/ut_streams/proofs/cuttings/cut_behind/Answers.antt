use Rattle.std.proofs.Common.{◌++◌, ◌∙◌, ap}
use Rattle.std.specs.List.{concat}
use Rattle.ps_lines.specs.Texts.{texts_of}
use Rattle.ut_streams.proofs.StreamLemmas.{all_given, texts_of-push}
use Rattle.ut_streams.proofs.cuttings.cut_behind.Goals as goal

pub returns : goal.returns
returns c =
    ap (λ pieces. concat (texts_of pieces)) c.in_ok-push-2.ensures.items ∙ texts_of-push c.loop-left.pieces.items c.loop-left.piece
    ∙ all_given (concat (texts_of c.loop-left.pieces.items) ++ c.loop-left.piece.items) c.loop-left.left.now c.args.text.now c.in_default.len_below c.loop-left.invariant
