-- What was put on the edges of a network over texts, and what a node did that has stopped.
use Rattle.std.proofs.Common.{◌≡◌, ℕ, ◌<◌, List, [], Bool, true, false, nat_lt, if◌then◌else◌, length, slice_get, Some, refl, ap, sym, subst, ◌∙◌}
use Rattle.std.proofs.lemmas.Bool.{true≢false, lt-ltb}
use Rattle.ps_lines.specs.Texts.{BeginsWith}
use Rattle.fl_graph.specs.declared.graphs.Cell.{Cell}
use Rattle.fl_graph.specs.declared.graphs.StatusRule.{StatusRule}
use Rattle.fl_graph.specs.declared.kinds.NodeKind.{NodeKind}
use Rattle.fl_graph.specs.declared.kinds.NodeKind.TheVariants as kind
use Rattle.fl_graph.specs.declared.pieces.Piece.{Piece}
use Rattle.fl_graph.specs.Machines.{State}
use Rattle.fl_graph.specs.Net.{gives}
use Rattle.fl_graph.specs.Runs.{completion, text_of, Run, Stopped}
use Rattle.fl_graph.specs.Valid.{Valid}
use Rattle.fl_classes.specs.Flow.{flow, is_source}
use Rattle.fl_classes.specs.Nodes.{given_on, Begins}
use Rattle.fl_net.specs.Inputs.{RunsOver}
use Rattle.fl_net.specs.Laws.{given, Carries, NodeRan}
use Rattle.fl_net.specs.Plans.{AreTold}
use Rattle.fl_net.specs.declared.nets.Ports.{Ports}
use Rattle.fl_net.proofs.HaltLemmas.{reached_halts}
use Rattle.fl_net.proofs.KeepLemmas.{halted_keeps}
use Rattle.fl_net.proofs.LawLemmas.{edge_carries, edge_ended}
use Rattle.fl_net.proofs.FinishLemmas.{in_ends, its_machine}
use Rattle.fl_net.proofs.PlanLemmas.{own_in_below, own_ins}
use Rattle.fl_net.proofs.PortLemmas.{stands-has}
use Rattle.std.proofs.lemmas.Option.{slice_get_within}

module _ {Machine : Type 0} (state : Machine → State) (cells : List (Cell NodeKind)) (status : StatusRule) (valid : Valid cells status) (inputs : ℕ → List ℕ)
    (moves : ℕ) (failed : ℕ → Bool) (ports : List Ports) (machines : List Machine) (wires : List (List Piece)) (runs : RunsOver state cells inputs moves failed ports machines wires)
    (sources : List (List ℕ)) (told : AreTold sources cells (λ node. Some (inputs node))) where
  pub history_carries : (edge : ℕ) → edge < length (gives cells) → Carries (runs.goes.reached.put edge) (flow cells sources edge)
  history_carries edge within =
      edge_carries cells status valid sources runs.goes.reached.took runs.goes.reached.put
      (halted_keeps cells status runs.goes.plan valid runs.planned (λ node. Some [])
      (reached_halts state runs.goes.plan machines wires (λ node. Some []) (λ node. Some []) runs.goes.reached (length cells) runs.counted) sources
      (λ number found at_number source. runs.told number ∙ told number found at_number source)) edge within

  -- where no node has failed and each machine has stopped, all of its flow was taken from each edge that leads into a node
  pub history_whole : ((number : ℕ) → failed number ≡ false)
      → ((number : ℕ) (machine : Machine) → slice_get machines number ≡ Some machine → ((port : ℕ) → (state machine).takes port ≡ false) × ((port : ℕ) → (state machine).puts port ≡ false))
      → (node : ℕ) (cell : Cell NodeKind) → slice_get cells node ≡ Some cell → is_source cell.kind ≡ false
      → (port edge : ℕ) → slice_get cell.ins port ≡ Some edge → flow cells sources edge ≡ text_of (runs.goes.reached.took edge)
  history_whole unfailed stopped node cell at_node no_source port edge stands =
      let reached = runs.goes.reached in
      let plan = runs.goes.plan in
      let unbroken = reached.sound (λ number. runs.marked number ∙ unfailed number) in
      let found = its_machine state cells status plan valid runs.planned machines wires (λ node. Some []) (λ node. Some []) reached runs.counted unbroken stopped node cell at_node in
      let there : slice_get (plan.ins node) port ≡ Some edge =
      ap (λ (edges : List ℕ). slice_get edges port) (own_ins cells status plan valid runs.planned node cell at_node no_source) ∙ stands in
      let begins = runs.planned.begins node cell at_node in
      let opened : (plan.starts node).takes port ≡ true =
      begins.takes_all port ∙ ap (λ (test : Bool). nat_lt port (if test then 1 else length cell.ins)) no_source
      ∙ lt-ltb port (length cell.ins) (slice_get_within cell.ins port edge stands) in
      edge_ended cells status valid sources reached.took reached.put
      (halted_keeps cells status plan valid runs.planned (λ node. Some [])
      (reached_halts state plan machines wires (λ node. Some []) (λ node. Some []) reached (length cells) runs.counted) sources
      (λ number found at_number source. runs.told number ∙ told number found at_number source)) edge
      (own_in_below cells status plan valid runs.planned node edge cell at_node (stands-has cell.ins port edge stands))
      (in_ends state cells status plan valid runs.planned machines wires (λ node. Some []) (λ node. Some []) reached runs.counted unbroken stopped
      node found.0 port edge found.1 there opened)

-- what a node gives that is no source hangs on no source's text
same_given : (sources : List (List ℕ)) (number : ℕ) (node : NodeKind) (ins outs : ℕ) (texts : ℕ → List ℕ) (port : ℕ) → is_source node ≡ false
    → given_on node ins outs texts port ≡ given sources (number, node) ins outs texts port
same_given sources number (kind.Source source) ins outs texts port no_source = absurd (true≢false no_source)
same_given sources number other ins outs texts port no_source = refl

-- a machine that began as a node and has stopped
pub node_ran : (sources : List (List ℕ)) (number : ℕ) (node : NodeKind) (ins outs : ℕ) (start now : State) (taken put : ℕ → List Piece) (failed : Bool) → is_source node ≡ false
    → Begins node ins outs start → Run start now taken put failed → Stopped start now taken put → NodeRan (given sources (number, node) ins outs) outs taken put failed
node_ran sources number node ins outs start now taken put failed no_source begins run stopped =
    let owes : (texts : ℕ → List ℕ) (port : ℕ) → start.due texts port ≡ given sources (number, node) ins outs texts port =
    λ texts port. begins.owes texts port ∙ same_given sources number node ins outs texts port no_source in
    record {
      keeps = record {
        front = λ rest port. subst (λ (text : List ℕ). BeginsWith text (text_of (put port))) (owes (completion taken rest) port) (run.texts.front rest port);
        whole = λ port ended rest. sym (owes (completion taken rest) port) ∙ run.texts.ended port ended rest;
      };
      closed = λ port below. stopped.outs port (begins.puts_all port ∙ lt-ltb port outs below);
      caused = λ unfailed clean. run.honest (run.caused unfailed clean);
    }
