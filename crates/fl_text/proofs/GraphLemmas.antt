-- Graphs read from their JSON values, and back.
use Rattle.std.proofs.Common.{◌≡◌, ℕ, List, Bool, true, false, ◌&&◌, Option, Some, None, option_map, refl, ap, sym, subst, ◌∙◌, cond}
use Rattle.std.specs.Prelude.{codes}
use Rattle.std.specs.List.{list_all}
use Rattle.std.proofs.lemmas.Bool.{and_parts, and_from, eqb-true}
use Rattle.serde_json.specs.Data.{Data, null, boolean, number, string, array, object, Members, no_members, member}
use Rattle.fl_graph.specs.Valid.{Valid}
use Rattle.fl_graph.specs.declared.graphs.Cell.{Cell}
use Rattle.fl_graph.specs.declared.graphs.Graph.{Graph}
use Rattle.fl_graph.specs.declared.graphs.StatusRule.{StatusRule}
use Rattle.fl_graph.specs.declared.graphs.StatusRule.TheVariants as status
use Rattle.fl_graph.specs.declared.kinds.NodeKind.{NodeKind}
use Rattle.fl_text.specs.Texts.{IsGraph, IsGraphText, IsJson, IsNoGraph, IsNoJson, IsOfOtherVersion, has_other_version}
use Rattle.fl_text.specs.Values.{are_counts, count_value, graph_value, if_some, is_byte, is_count, is_held, is_held_node, is_held_status, list_value, node_value, status_value, version}
use Rattle.fl_text.specs.Inner.Drafts.{all_in, byte_of, count_of, fixed_in, graph_in, is_version, node_in, past_fixed, past_nodes, past_none, past_rule, past_some, past_version, required, rule_in, selected, selected_in, status_in, with_rule}
use Rattle.fl_text.specs.Inner.Members.{are_none, behind, found}
use Rattle.fl_text.proofs.InverseLemmas.{Inverse, list-inverse, mapped-forth, number-inverse, required-forth, same_some}
use Rattle.fl_text.proofs.CellLemmas.{counts-inverse, node-inverse, none-forth, taken}

-- ---- status rules

record SelectedMade (nodes : Option (List ℕ)) (none some : Option ℕ) (rule : StatusRule) : Type 0 where
  named : List ℕ
  if_not : ℕ
  if_so : ℕ
  nodes_are : nodes ≡ Some named
  none_is : none ≡ Some if_not
  some_is : some ≡ Some if_so
  rule_is : status.Selected named if_so if_not ≡ rule

selected-made : (nodes : Option (List ℕ)) (none some : Option ℕ) (rule : StatusRule) → selected nodes none some ≡ Some rule → SelectedMade nodes none some rule
selected-made None if_not if_so rule is = absurd (cc)
selected-made (Some nodes) None if_so rule is = absurd (cc)
selected-made (Some nodes) (Some if_not) None rule is = absurd (cc)
selected-made (Some nodes) (Some if_not) (Some if_so) rule is =
    record { named = nodes; if_not = if_not; if_so = if_so; nodes_are = refl; none_is = refl; some_is = refl; rule_is = same_some _ rule is }

-- an object of three members
three-taken : (first second third : List ℕ) (members : Members) (one two three : Data) → found first members ≡ Some one → found second (behind first members) ≡ Some two
    → found third (behind second (behind first members)) ≡ Some three → are_none (behind third (behind second (behind first members))) ≡ true
    → members ≡ member first one (member second two (member third three no_members))
three-taken first second third members one two three one_is two_is three_is none =
    (taken first members ∙ ap (λ it. if_some first it (behind first members)) one_is)
    ∙ ap (member first one) ((taken second (behind first members) ∙ ap (λ it. if_some second it (behind second (behind first members))) two_is)
    ∙ ap (member second two) ((taken third (behind second (behind first members)) ∙ ap (λ it. if_some third it (behind third (behind second (behind first members)))) three_is)
    ∙ ap (member third three) (none-forth (behind third (behind second (behind first members))) none)))

selected-forth : (members : Members) (rule : StatusRule) → selected_in members ≡ Some rule → (status_value rule ≡ object members) × (is_held_status rule ≡ true)
selected-forth members rule is = by (are_none (past_some members)) refl is
  where
    by : (answer : Bool) → are_none (past_some members) ≡ answer
        → cond answer (selected (required (all_in count_of) (found (codes "nodes") members)) (required byte_of (found (codes "none") (past_nodes members)))
        (required byte_of (found (codes "some") (past_none members)))) None ≡ Some rule
        → (status_value rule ≡ object members) × (is_held_status rule ≡ true)
    by false none is = absurd (cc)
    by true none is =
        let made = selected-made _ _ _ rule is in
        let nodes = required-forth (list_value count_value) (all_in count_of) are_counts counts-inverse (found (codes "nodes") members) made.named made.nodes_are in
        let rest = required-forth count_value byte_of is_byte (number-inverse is_byte) (found (codes "none") (past_nodes members)) made.if_not made.none_is in
        let some = required-forth count_value byte_of is_byte (number-inverse is_byte) (found (codes "some") (past_none members)) made.if_so made.some_is in
        subst (λ it. (status_value it ≡ object members) × (is_held_status it ≡ true)) made.rule_is (
          ap object (sym (three-taken (codes "nodes") (codes "none") (codes "some") members _ _ _ nodes.0 rest.0 some.0 none)),
          and_from _ _ nodes.1 (and_from _ _ some.1 rest.1),
        )

fixed-forth : (inner : Members) (json : Data) (rule : StatusRule) (answer : Bool) → found (codes "fixed") inner ≡ Some json → are_none (past_fixed inner) ≡ answer
    → fixed_in json answer ≡ Some rule → (status_value rule ≡ object inner) × (is_held_status rule ≡ true)
fixed-forth inner json rule false there none is = absurd (cc)
fixed-forth inner json rule true there none is =
    let made = mapped-forth status.Fixed (byte_of json) rule is in
    let code = (number-inverse is_byte).forth json made.part made.found_is in
    let whole : inner ≡ member (codes "fixed") json no_members =
    (taken (codes "fixed") inner ∙ ap (λ it. if_some (codes "fixed") it (past_fixed inner)) there)
    ∙ ap (member (codes "fixed") json) (none-forth (past_fixed inner) none) in
    subst (λ it. (status_value it ≡ object inner) × (is_held_status it ≡ true)) made.whole_is
    (ap (λ it. object (member (codes "fixed") it no_members)) code.0 ∙ ap object (sym whole), code.1)

rule-forth : (members : Members) (rule : StatusRule) (fixed : Option Data) → found (codes "fixed") members ≡ fixed → rule_in fixed members ≡ Some rule
    → (status_value rule ≡ object members) × (is_held_status rule ≡ true)
rule-forth members rule None there is = selected-forth members rule is
rule-forth members rule (Some json) there is = fixed-forth members json rule (are_none (past_fixed members)) there refl is

status-forth : (json : Data) (rule : StatusRule) → status_in json ≡ Some rule → (status_value rule ≡ json) × (is_held_status rule ≡ true)
status-forth null rule is = absurd (cc)
status-forth (boolean b) rule is = absurd (cc)
status-forth (number n) rule is = absurd (cc)
status-forth (string s) rule is = absurd (cc)
status-forth (array ds) rule is = absurd (cc)
status-forth (object members) rule is = rule-forth members rule (found (codes "fixed") members) refl is

selected-joined : (nodes : Option (List ℕ)) (byte other : Option ℕ) (named : List ℕ) (if_not if_so : ℕ) → nodes ≡ Some named → byte ≡ Some if_not → other ≡ Some if_so
    → selected nodes byte other ≡ Some (status.Selected named if_so if_not)
selected-joined nodes byte other named if_not if_so nodes_are none_is some_is = rw (nodes_are, none_is, some_is) refl

status-back : (rule : StatusRule) → is_held_status rule ≡ true → status_in (status_value rule) ≡ Some rule
status-back (status.Fixed code) held = ap (option_map status.Fixed) ((number-inverse is_byte).back code held)
status-back (status.Selected nodes some none) held =
    let first = and_parts (are_counts nodes) _ held in
    let second = and_parts (is_byte some) (is_byte none) first.1 in
    selected-joined _ _ _ nodes none some (counts-inverse.back nodes first.0) ((number-inverse is_byte).back none second.1) ((number-inverse is_byte).back some second.0)

status-inverse : Inverse status_value status_in is_held_status
status-inverse = record { back = status-back; forth = status-forth }

nodes-inverse : Inverse (list_value node_value) (all_in node_in) (λ nodes. list_all is_held_node nodes)
nodes-inverse = list-inverse node_value node_in is_held_node node-inverse

-- ---- graphs

record GraphMade (nodes : Option (List (Cell NodeKind))) (rule : Option StatusRule) (graph : Graph) : Type 0 where
  nodes_are : nodes ≡ Some graph.nodes
  rule_is : rule ≡ Some graph.status

graph-made : (nodes : Option (List (Cell NodeKind))) (rule : Option StatusRule) (graph : Graph) → with_rule nodes rule ≡ Some graph → GraphMade nodes rule graph
graph-made None rule graph is = absurd (cc)
graph-made (Some nodes) None graph is = absurd (cc)
graph-made (Some nodes) (Some rule) graph is =
    subst (λ it. GraphMade (Some nodes) (Some rule) it) (same_some _ graph is) (record { nodes_are = refl; rule_is = refl })

version-forth : (count : Option ℕ) → is_version count ≡ true → count ≡ Some version
version-forth None is = absurd (cc)
version-forth (Some count) is = ap Some (eqb-true count version is)

pub graph-forth : (json : Data) (graph : Graph) → graph_in json ≡ Some graph → (graph_value graph.nodes graph.status ≡ json) × (is_held graph.nodes graph.status ≡ true)
graph-forth null graph is = absurd (cc)
graph-forth (boolean b) graph is = absurd (cc)
graph-forth (number n) graph is = absurd (cc)
graph-forth (string s) graph is = absurd (cc)
graph-forth (array ds) graph is = absurd (cc)
graph-forth (object members) graph is =
    by (are_none (past_version members) && is_version (required count_of (found (codes "version") (past_rule members)))) refl is
  where
    by : (answer : Bool) → (are_none (past_version members) && is_version (required count_of (found (codes "version") (past_rule members)))) ≡ answer
        → cond answer (with_rule (required (all_in node_in) (found (codes "nodes") members)) (required status_in (found (codes "status") (past_nodes members)))) None ≡ Some graph
        → (graph_value graph.nodes graph.status ≡ object members) × (is_held graph.nodes graph.status ≡ true)
    by false tests is = absurd (cc)
    by true tests is =
        let halves = and_parts (are_none (past_version members)) _ tests in
        let made = graph-made _ _ graph is in
        let nodes = required-forth (list_value node_value) (all_in node_in) (λ nodes. list_all is_held_node nodes) nodes-inverse (found (codes "nodes") members) graph.nodes made.nodes_are in
        let rule = required-forth status_value status_in is_held_status status-inverse (found (codes "status") (past_nodes members)) graph.status made.rule_is in
        let count = required-forth count_value count_of is_count (number-inverse is_count) (found (codes "version") (past_rule members)) version
        (version-forth (required count_of (found (codes "version") (past_rule members))) halves.1) in
        (ap object (sym (three-taken (codes "nodes") (codes "status") (codes "version") members _ _ _ nodes.0 rule.0 count.0 halves.0)), and_from _ _ nodes.1 rule.1)

graph-joined : (nodes : Option (List (Cell NodeKind))) (rule : Option StatusRule) (graph : Graph) → nodes ≡ Some graph.nodes → rule ≡ Some graph.status
    → with_rule nodes rule ≡ Some graph
graph-joined nodes rule graph nodes_are rule_is = rw (nodes_are, rule_is) refl

pub graph-back : (graph : Graph) → is_held graph.nodes graph.status ≡ true → graph_in (graph_value graph.nodes graph.status) ≡ Some graph
graph-back graph held =
    let halves = and_parts (list_all is_held_node graph.nodes) (is_held_status graph.status) held in
    graph-joined _ _ graph (nodes-inverse.back graph.nodes halves.0) (status-back graph.status halves.1)

-- ---- texts

-- what has a graph's value is that of no other version
pub graph-version : (cells : List (Cell NodeKind)) (rule : StatusRule) → has_other_version (graph_value cells rule) ≡ false
graph-version cells rule = refl

-- a text has one value
one-value : (text : List ℕ) (one other : Data) → IsJson text one → IsJson text other → one ≡ other
one-value text one other is is' = same_some one other (sym is.value_is ∙ is'.value_is)

pub one_graph : (text : List ℕ) (one other : Graph) → IsGraph one → IsGraph other → IsGraphText text one → IsGraphText text other → one ≡ other
one_graph text one other is is' says says' =
    same_some one other (sym (graph-back one is.held) ∙ (ap graph_in (one-value text _ _ says says') ∙ graph-back other is'.held))

pub json-fault : (text : List ℕ) (graph : Graph) → IsGraphText text graph → IsNoJson text → ⊥
json-fault text graph says none = none (graph_value graph.nodes graph.status) says

pub version-fault : (text : List ℕ) (graph : Graph) → IsGraphText text graph → IsOfOtherVersion text → ⊥
version-fault text graph says other =
    let same : true ≡ false = sym other.other ∙ (ap has_other_version (one-value text _ _ other.json says) ∙ graph-version graph.nodes graph.status) in cc

pub graph-fault : (text : List ℕ) (graph : Graph) → IsGraph graph → IsGraphText text graph → IsNoGraph text → ⊥
graph-fault text graph is says none = none.none graph is says

pub ruleset no_fault = (json-fault, version-fault, graph-fault)

pub json-version : (text : List ℕ) → IsNoJson text → IsOfOtherVersion text → ⊥
json-version text none other = none other.value other.json

pub json-graph : (text : List ℕ) → IsNoJson text → IsNoGraph text → ⊥
json-graph text none other = none other.value other.json

pub version-graph : (text : List ℕ) → IsOfOtherVersion text → IsNoGraph text → ⊥
version-graph text other none =
    let same : true ≡ false = sym other.other ∙ (ap has_other_version (one-value text _ _ other.json none.json) ∙ none.version_is) in cc

pub ruleset one_fault = (json-version, json-graph, version-graph)

-- a value that was read is a graph's text's
pub reads-graph : (text : List ℕ) (json : Data) (graph : Graph) → IsJson text json → graph_in json ≡ Some graph → IsGraphText text graph
reads-graph text json graph says is = subst (λ it. IsJson text it) (sym (graph-forth json graph is).0) says

pub is-graph : (json : Data) (graph : Graph) → graph_in json ≡ Some graph → Valid graph.nodes graph.status → IsGraph graph
is-graph json graph is valid = record { valid = valid; held = (graph-forth json graph is).1 }

pub no-graph : (text : List ℕ) (json : Data) → IsJson text json → has_other_version json ≡ false
    → ((graph : Graph) → graph_in json ≡ Some graph → Valid graph.nodes graph.status → ⊥) → IsNoGraph text
no-graph text json says version_is none = record {
  value = json;
  json = says;
  version_is = version_is;
  none = λ graph is told. none graph (ap graph_in (one-value text _ _ says told) ∙ graph-back graph is.held) is.valid;
}
