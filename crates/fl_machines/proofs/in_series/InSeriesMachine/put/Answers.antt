use Rattle.std.proofs.Common.{rules}
use Rattle.fl_machines.proofs.SeriesLemmas.{bytes-put, put-port}
use Rattle.fl_machines.proofs.in_series.InSeriesMachine.put.Goals as goal

pub returns-in-Ok-clause-put : goal.returns-in-Ok-clause-put
returns-in-Ok-clause-put g c =
    let self = c.args.self.now in (
      search rules,
      λ texts port. bytes-put (g.S.Series.due self.series) self.at self.ins _ self.waiting c.in-Ok.bytes _ texts port (put-port _ self.at self.ins self.putting) c.in-Ok.ensures,
    )
