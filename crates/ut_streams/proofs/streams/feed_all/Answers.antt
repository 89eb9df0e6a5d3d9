use Rattle.std.specs.List.{concat}
use Rattle.ps_lines.specs.Texts.{texts_of}
use Rattle.ut_streams.proofs.StreamLemmas.{Put-stopped}
use Rattle.ut_streams.proofs.streams.feed_all.Goals as goal

pub returns-in-Err-clause-wrote : goal.returns-in-Err-clause-wrote
returns-in-Err-clause-wrote g c =
    Put-stopped (g.S.Stream.due c.args.stream.now) (g.S.Stream.due c.feed_pieces.new.stream) (concat (texts_of c.args.pieces.now)) c.args.out.now.items
    c.feed_pieces.new.out.items c.in-Err.ensures.wrote
