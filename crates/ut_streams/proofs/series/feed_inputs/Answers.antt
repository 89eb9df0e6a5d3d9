use Rattle.ut_streams.specs.Streams.{whole_texts}
use Rattle.ut_streams.proofs.StreamLemmas.{Put-stopped}
use Rattle.ut_streams.proofs.series.feed_inputs.Goals as goal

pub returns-in-Err-clause-wrote : goal.returns-in-Err-clause-wrote
returns-in-Err-clause-wrote g c =
    Put-stopped (g.S.Series.due c.args.series.now) (g.S.Series.due c.feed_each.new.series) (whole_texts c.args.inputs.now) c.args.out.now.items
    c.feed_each.new.out.items c.in-Err.ensures.wrote
