-- A text has one reading.
use Rattle.std.proofs.Common.{◌≡◌, ℕ, List, Bool, true, false, Option, Some, None, Result, Ok, Err, IfOk, IsErrOf, IsUtf8, refl, ap, sym, subst, ◌∙◌, cond}
use Rattle.std.specs.Str.{is_utf8}
use Rattle.std.proofs.lemmas.Bool.{true≢false}
use Rattle.std.proofs.lemmas.Str.{IsUtf8-from_is_utf8, is_utf8-from_IsUtf8}
use Rattle.serde_json.specs.Data.{Data}
use Rattle.serde_json.specs.Read.{read}
use Rattle.fl_graph.specs.Checks.{is_valid}
use Rattle.fl_graph.specs.declared.graphs.Graph.{Graph}
use Rattle.fl_graph.proofs.CheckLemmas.{only_if_valid, valid_if}
use Rattle.fl_text.specs.Readings.{IsReadAs, Reading, json_reading, no_graph, no_json, of_graph, other_version, reading, valid_reading, value_reading}
use Rattle.fl_text.specs.Texts.{IsGraph, IsGraphText, IsJson, IsNoGraph, IsNoJson, IsOfOtherVersion, has_other_version}
use Rattle.fl_text.specs.Inner.Drafts.{graph_in}
use Rattle.fl_text.specs.declared.reading.TextFault.{TextFault}
use Rattle.fl_text.specs.declared.reading.TextFault.TheVariants as fault
use Rattle.fl_text.proofs.GraphLemmas.{graph-fault, is-graph, json-fault, json-graph, json-version, no-graph, one_graph, reads-graph, version-fault, version-graph}
use Rattle.fl_text.proofs.InverseLemmas.{same_some}

-- ---- it has the one that is made of it

module _ (text : List ℕ) (json : Data) (says : IsJson text json) where
  by-valid : (graph : Graph) → graph_in json ≡ Some graph → has_other_version json ≡ false → (answer : Bool) → is_valid graph.nodes graph.status ≡ answer
      → IsReadAs text (cond answer (of_graph graph) no_graph)
  by-valid graph is version true passes = (is-graph json graph is (valid_if graph.nodes graph.status passes), reads-graph text json graph says is)
  by-valid graph is version false fails =
      no-graph text json says version (λ other other_is valid.
      (let same : graph ≡ other = same_some graph other (sym is ∙ other_is) in
      true≢false (sym (only_if_valid other.nodes other.status valid) ∙ subst (λ (it : Graph). is_valid it.nodes it.status ≡ false) same fails)))

  by-graph : (found : Option Graph) → graph_in json ≡ found → has_other_version json ≡ false → IsReadAs text (valid_reading found)
  by-graph None none version = no-graph text json says version (λ graph is valid. (let same : None ≡ Some graph = sym none ∙ is in absurd (cc)))
  by-graph (Some graph) is version = by-valid graph is version (is_valid graph.nodes graph.status) refl

  by-version : (answer : Bool) → has_other_version json ≡ answer → IsReadAs text (cond answer other_version (valid_reading (graph_in json)))
  by-version true is = record { value = json; json = says; other = is }
  by-version false is = by-graph (graph_in json) refl is

by-json : (text : List ℕ) (json : Option Data) → read text ≡ json → IsUtf8 text → IsReadAs text (json_reading json)
by-json text None none utf8 = λ value says. (let same : None ≡ Some value = sym none ∙ says.value_is in absurd (cc))
by-json text (Some json) is utf8 =
    let says : IsJson text json = record { utf8 = utf8; value_is = is } in by-version text json says (has_other_version json) refl

by-utf8 : (text : List ℕ) (answer : Bool) → is_utf8 text ≡ answer → IsReadAs text (cond answer (json_reading (read text)) no_json)
by-utf8 text true is = by-json text (read text) refl (IsUtf8-from_is_utf8 text is)
by-utf8 text false is = λ value says. true≢false (sym (is_utf8-from_IsUtf8 text says.utf8) ∙ is)

pub reading_is : (text : List ℕ) → IsReadAs text (reading text)
reading_is text = by-utf8 text (is_utf8 text) refl

-- ---- and no other

pub one_reading : (text : List ℕ) (one other : Reading) → IsReadAs text one → IsReadAs text other → one ≡ other
one_reading text (of_graph one) (of_graph other) is is' = ap of_graph (one_graph text one other is.0 is'.0 is.1 is'.1)
one_reading text (of_graph graph) no_json is none = absurd (json-fault text graph is.1 none)
one_reading text (of_graph graph) other_version is none = absurd (version-fault text graph is.1 none)
one_reading text (of_graph graph) no_graph is none = absurd (graph-fault text graph is.0 is.1 none)
one_reading text no_json (of_graph graph) none is = absurd (json-fault text graph is.1 none)
one_reading text no_json no_json none is = refl
one_reading text no_json other_version none is = absurd (json-version text none is)
one_reading text no_json no_graph none is = absurd (json-graph text none is)
one_reading text other_version (of_graph graph) none is = absurd (version-fault text graph is.1 none)
one_reading text other_version no_json none is = absurd (json-version text is none)
one_reading text other_version other_version none is = refl
one_reading text other_version no_graph none is = absurd (version-graph text none is)
one_reading text no_graph (of_graph graph) none is = absurd (graph-fault text graph is.0 is.1 none)
one_reading text no_graph no_json none is = absurd (json-graph text is none)
one_reading text no_graph other_version none is = absurd (version-graph text is none)
one_reading text no_graph no_graph none is = refl

-- ---- so what a call answers is what its text is read as

abbrev pub Answers : Reading → Result Graph TextFault → Type 0
Answers is (Ok graph) = is ≡ of_graph graph
Answers is (Err fault.NotJson) = is ≡ no_json
Answers is (Err fault.NotGraph) = is ≡ no_graph
Answers is (Err fault.BadVersion) = is ≡ other_version
Answers is (Err fault.Memory) = Unit {0}

pub answers-so : (text : List ℕ) (result : Result Graph TextFault) → IfOk result (λ graph. IsGraphText text graph) → IfOk result IsGraph
    → (IsErrOf result fault.NotJson → IsNoJson text) → (IsErrOf result fault.BadVersion → IsOfOtherVersion text) → (IsErrOf result fault.NotGraph → IsNoGraph text)
    → Answers (reading text) result
answers-so text (Ok graph) says is no_json_is version_is no_graph_is = one_reading text (reading text) (of_graph graph) (reading_is text) (is, says)
answers-so text (Err fault.NotJson) says is no_json_is version_is no_graph_is = one_reading text (reading text) no_json (reading_is text) (no_json_is refl)
answers-so text (Err fault.NotGraph) says is no_json_is version_is no_graph_is = one_reading text (reading text) no_graph (reading_is text) (no_graph_is refl)
answers-so text (Err fault.BadVersion) says is no_json_is version_is no_graph_is = one_reading text (reading text) other_version (reading_is text) (version_is refl)
answers-so text (Err fault.Memory) says is no_json_is version_is no_graph_is = tt
