use Rattle.std.proofs.Common.{inl, rules}
use Rattle.ps_world.proofs.ToldLemmas.{grew_by_nothing}
use Rattle.fl_engines.proofs.engines.Engine.run_graph.Goals as goal

pub returns-in-Err : goal.returns-in-Err
returns-in-Err g c = record {
  run = record {
    written = tt;
    output = tt;
    files = tt;
    read = tt;
    status = tt;
    front = λ sources told node cell at sink. grew_by_nothing _ _;
    part = λ sources told. grew_by_nothing _ _;
    cause = search rules;
    kept = search rules;
  };
  used_whole = tt;
  used_or_not = inl (search rules);
}
