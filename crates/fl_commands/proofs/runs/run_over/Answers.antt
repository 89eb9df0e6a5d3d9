use Rattle.std.proofs.Common.{◌∙◌, sym}
use Rattle.std.proofs.lemmas.Bool.{true≢false}
use Rattle.fl_commands.proofs.RunLemmas.{nodes-count, not-begun, sources-count}
use Rattle.fl_commands.proofs.runs.run_over.Goals as goal

pub unreachable-requires : goal.unreachable-requires
unreachable-requires g c =
    true≢false (sym (c.in-Ok-false.ensures.fit (c.requires.reads ∙ sym (sources-count 0 c.args.graph.now.nodes))
    (c.requires.writes ∙ sym (nodes-count 0 c.args.graph.now.nodes))) ∙ c.in-Ok-false.field-0-test)

pub returns-in-Ok-true : goal.returns-in-Ok-true
returns-in-Ok-true g c =
    record {
      numbered = c.number_ends.new.ends;
      readers_are = c.number_ends.ensures.readers;
      writers_are = c.number_ends.ensures.writers;
      input_is = c.number_ends.ensures.input;
      out_is = c.number_ends.ensures.out;
      runs = c.run_own.ensures;
    }

pub returns-in-Err : goal.returns-in-Err
returns-in-Err g c =
    record {
      numbered = c.number_ends.new.ends;
      readers_are = c.number_ends.ensures.readers;
      writers_are = c.number_ends.ensures.writers;
      input_is = c.number_ends.ensures.input;
      out_is = c.number_ends.ensures.out;
      runs = not-begun g.T.Reader.Source.left g.I.Source.left g.T.Writer.Sink.taken g.O.Sink.taken g.T.Reader.Source.faults g.T.Writer.Sink.faults g.I.Source.faults g.O.Sink.faults _ _ _;
    }
