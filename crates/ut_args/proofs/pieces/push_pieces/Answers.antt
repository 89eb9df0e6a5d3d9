use Rattle.std.proofs.Common.{rules}
use Rattle.ut_args.proofs.PieceLemmas.{pieces_step}
use Rattle.ut_args.proofs.pieces.push_pieces.Goals as goal

pub loop-piece-preserved : goal.loop-piece-preserved
loop-piece-preserved c =
    pieces_step c.args.separators.now c.loop-piece.left.now c.in-Some.piece.now c.in-Some.behind.now _ c.loop-piece.texts c.push.new.self
    (search rules) (search rules) c.loop-piece.invariant
