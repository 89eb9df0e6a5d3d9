-- What the answers to a text mean, from what its JSON value is.
use Rattle.std.proofs.Common.{◌≡◌, ◌≤◌, ℕ, List, Bool, true, false, Some, None, Result, Ok, Err, IfOk, ap, sym, subst, ◌∙◌, IsUtf8}
use Rattle.serde_json.specs.Data.{Data, depth}
use Rattle.serde_json.specs.Read.{max_depth, read}
use Rattle.serde_json.specs.Written.{compact_text, has_float}
use Rattle.fl_graph.specs.Valid.{Valid}
use Rattle.fl_graph.specs.declared.graphs.Cell.{Cell}
use Rattle.fl_graph.specs.declared.graphs.Graph.{Graph}
use Rattle.fl_graph.specs.declared.graphs.StatusRule.{StatusRule}
use Rattle.fl_graph.specs.declared.kinds.NodeKind.{NodeKind}
use Rattle.fl_text.specs.Texts.{IsGraph, IsGraphText, IsJson, IsNoJson, IsOfOtherVersion, graph_text, has_other_version}
use Rattle.fl_text.specs.Values.{graph_value}
use Rattle.fl_text.specs.Inner.Drafts.{graph_in}
use Rattle.fl_text.specs.declared.reading.TextFault.{TextFault}
use Rattle.fl_text.proofs.GraphLemmas.{is-graph, reads-graph}
use Rattle.fl_text.proofs.InverseLemmas.{same_some}
use Rattle.fl_text.proofs.PrintLemmas.{graph-depth, graph-float}

-- ---- read

pub is-json : (text : List ℕ) (json : Data) → IsUtf8 text × (read text ≡ Some json) → IsJson text json
is-json text json both = record { utf8 = both.0; value_is = both.1 }

pub no-json : (text : List ℕ) → (IsUtf8 text → read text ≡ None) → IsNoJson text
no-json text none json is = let same : None ≡ Some json = sym (none is.utf8) ∙ is.value_is in absurd (cc)

pub other-version : (text : List ℕ) (json : Data) → IsJson text json → has_other_version json ≡ true → IsOfOtherVersion text
other-version text json says is = record { value = json; json = says; other = is }

pub graph-read : (text : List ℕ) (json : Data) (result : Result Graph TextFault) → IsJson text json → IfOk result (λ graph. graph_in json ≡ Some graph)
    → IfOk result (λ graph. IsGraphText text graph)
graph-read text json (Ok graph) says is = reads-graph text json graph says is
graph-read text json (Err fault) says is = tt

pub valid-read : (json : Data) (result : Result Graph TextFault) → IfOk result (λ graph. graph_in json ≡ Some graph)
    → IfOk result (λ graph. Valid graph.nodes graph.status) → IfOk result IsGraph
valid-read json (Ok graph) is valid = is-graph json graph is valid
valid-read json (Err fault) is valid = tt

-- the one graph that the value is isn't valid
pub not-valid : (json : Data) (graph : Graph) (answer : Bool) → Some graph ≡ graph_in json → answer ≡ false → (Valid graph.nodes graph.status → answer ≡ true)
    → (other : Graph) → graph_in json ≡ Some other → Valid other.nodes other.status → ⊥
not-valid json graph answer is fails valid other other_is holds =
    let same : graph ≡ other = same_some graph other (is ∙ other_is) in
    let yes : answer ≡ true = valid (subst (λ it. Valid it.nodes it.status) (sym same) holds) in
    absurd (cc)

pub none-in : (json : Data) → None ≡ graph_in json → (other : Graph) → graph_in json ≡ Some other → Valid other.nodes other.status → ⊥
none-in json none other is holds = let same : None ≡ Some other = none ∙ is in absurd (cc)

pub ruleset one_value = (not-valid, none-in)

pub ruleset read_steps = (no-json)

-- ---- print

pub text-printed : (json : Data) (cells : List (Cell NodeKind)) (rule : StatusRule) (text : List ℕ) → json ≡ graph_value cells rule
    → (has_float json ≡ false → text ≡ compact_text json) → text ≡ graph_text cells rule
text-printed json cells rule text is printed = printed (ap has_float is ∙ graph-float cells rule) ∙ ap compact_text is

pub json-printed : (json : Data) (cells : List (Cell NodeKind)) (rule : StatusRule) (text : List ℕ) → json ≡ graph_value cells rule → IsUtf8 text
    → (depth json ≤ max_depth → read text ≡ Some json) → IsJson text (graph_value cells rule)
json-printed json cells rule text is utf8 reads =
    record { utf8 = utf8; value_is = reads (subst (λ it. depth it ≤ max_depth) (sym is) (graph-depth cells rule)) ∙ ap Some is }
