use Rattle.fl_graph.proofs.StateLemmas.{Run-broken}
use Rattle.fl_nodes.proofs.machines.shut_off.Goals as goal

pub returns-clause-run : goal.returns-clause-run
returns-clause-run g c = λ start taken put failed run.
    Run-broken start _ _ taken put failed run (record {
      takes = c.break_off.ensures.takes;
      puts = c.break_off.ensures.puts;
      numbered_ins = c.break_off.ensures.numbered_ins;
      numbered_outs = c.break_off.ensures.numbered_outs;
      broken = c.break_off.ensures.broken;
    })
