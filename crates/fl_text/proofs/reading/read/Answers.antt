use Rattle.serde_json.specs.View.{view}
use Rattle.fl_text.proofs.AnswerLemmas.{graph-read, is-json, other-version, valid-read}
use Rattle.fl_text.proofs.GraphLemmas.{no-graph}
use Rattle.fl_text.proofs.reading.read.Goals as goal

pub returns-in-Ok-clause-text : goal.returns-in-Ok-clause-text
returns-in-Ok-clause-text c =
    graph-read c.args.text.now (view c.in-Ok.value) c.read_value.result (is-json c.args.text.now (view c.in-Ok.value) c.in-Ok.ensures.ok) c.read_value.ensures.graph

pub returns-in-Ok-clause-graph : goal.returns-in-Ok-clause-graph
returns-in-Ok-clause-graph c = valid-read (view c.in-Ok.value) c.read_value.result c.read_value.ensures.graph c.read_value.ensures.valid

pub returns-in-Ok-clause-bad_version : goal.returns-in-Ok-clause-bad_version
returns-in-Ok-clause-bad_version c =
    λ is. other-version c.args.text.now (view c.in-Ok.value) (is-json c.args.text.now (view c.in-Ok.value) c.in-Ok.ensures.ok) (c.read_value.ensures.bad_version is)

pub returns-in-Ok-clause-not_graph : goal.returns-in-Ok-clause-not_graph
returns-in-Ok-clause-not_graph c =
    λ is. no-graph c.args.text.now (view c.in-Ok.value) (is-json c.args.text.now (view c.in-Ok.value) c.in-Ok.ensures.ok) (c.read_value.ensures.not_graph is)
    (c.read_value.ensures.none is)
