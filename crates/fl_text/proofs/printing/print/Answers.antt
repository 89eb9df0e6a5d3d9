use Rattle.serde_json.specs.View.{view}
use Rattle.fl_text.proofs.AnswerLemmas.{json-printed, text-printed}
use Rattle.fl_text.proofs.printing.print.Goals as goal

pub returns-clause-text : goal.returns-clause-text
returns-clause-text c =
    text-printed (view c.in_ok-value.value) c.args.graph.now.nodes c.args.graph.now.status c.in_ok-to_vec.field-0.items c.in_ok-value.ensures.value c.in_ok-to_vec.ensures.text

pub returns-clause-json : goal.returns-clause-json
returns-clause-json c =
    json-printed (view c.in_ok-value.value) c.args.graph.now.nodes c.args.graph.now.status c.in_ok-to_vec.field-0.items c.in_ok-value.ensures.value c.in_ok-to_vec.ensures.utf8
    c.in_ok-to_vec.ensures.reads_back
