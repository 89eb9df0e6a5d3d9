-- Networks of graphs, built node by node.
use Rattle.std.proofs.Common.{◌≡◌, ℕ, zero, suc, ◌+◌, ◌<◌, List, [], ◌∷◌, ◌++◌, Bool, true, if◌then◌else◌, length, slice_get, get_or, Some, refl, ap, sym, subst, ◌∙◌, length-append}
use Rattle.std.specs.List.{list_all}
use Rattle.std.proofs.lemmas.Option.{slice_get_read}
use Rattle.fl_graph.specs.Net.{gives}
use Rattle.fl_graph.specs.declared.graphs.Cell.{Cell}
use Rattle.fl_graph.specs.Machines.{State}
use Rattle.fl_graph.specs.declared.kinds.NodeKind.{NodeKind}
use Rattle.fl_graph.specs.declared.pieces.Piece.{Piece}
use Rattle.fl_classes.specs.Flow.{is_source}
use Rattle.fl_classes.specs.Kinds.{is_writer}
use Rattle.fl_net.specs.Plans.{IsNetOf}
use Rattle.fl_net.specs.Starts.{BeginsAs, HasPorts, NodesHave}
use Rattle.fl_net.specs.Steps.{waiting_on}
use Rattle.fl_net.specs.declared.nets.Ports.{Ports}
use Rattle.fl_net.proofs.PlanLemmas.{holds_at}

-- where an item stands behind a push: where it stood, or it is the last
data PushedAt {Item : Type 0} (items : List Item) (last : Item) (place : ℕ) (item : Item) : Type 0 where
  Before : slice_get items place ≡ Some item → PushedAt items last place item
  Last : place ≡ length items → item ≡ last → PushedAt items last place item

pushed_at : {Item : Type 0} (items : List Item) (last : Item) (place : ℕ) (item : Item) → slice_get (items ++ last ∷ []) place ≡ Some item → PushedAt items last place item
pushed_at [] last zero item is = Last refl (cc)
pushed_at [] last (suc place) item is = absurd (cc)
pushed_at (first ∷ items) last zero item is = Before is
pushed_at (first ∷ items) last (suc place) item is = behind (pushed_at items last place item is)
  where
    behind : PushedAt items last place item → PushedAt (first ∷ items) last (suc place) item
    behind (Before there) = Before there
    behind (Last at same) = Last (ap (λ (it : ℕ). suc it) at) same

pub node_holds : (test : Cell NodeKind → Bool) (nodes : List (Cell NodeKind)) (node : ℕ) (it : Cell NodeKind) → list_all test nodes ≡ true → node < length nodes → it ≡ get_or nodes node it
    → test it ≡ true
node_holds test nodes node it all within is = holds_at test nodes node it all (slice_get_read nodes (length nodes) node it refl within is)

-- the next node has its own too
pub nodes_more : {Own : Type 0} (has : ℕ → Cell NodeKind → Own → Type 0) (nodes : List (Cell NodeKind)) (owns now : List Own) (last : Own) (node : ℕ) (it : Cell NodeKind)
    → now ≡ owns ++ last ∷ [] → node < length nodes → it ≡ get_or nodes node it → (length owns ≡ node) × NodesHave has nodes owns → has node it last
    → (length now ≡ node + 1) × NodesHave has nodes now
nodes_more {Own} has nodes owns now last node it more within is before here =
    subst (λ (list : List Own). (length list ≡ node + 1) × NodesHave has nodes list) (sym more) (length-append owns (last ∷ []) ∙ ap (λ (count : ℕ). count + 1) before.0, all)
  where
    at_node : slice_get nodes node ≡ Some it
    at_node = slice_get_read nodes (length nodes) node it refl within is

    by_place : (other : ℕ) (at_other : Cell NodeKind) (own : Own) → slice_get nodes other ≡ Some at_other → PushedAt owns last other own → has other at_other own
    by_place other at_other own at (Before there) = before.1 other at_other own at there
    by_place other at_other own at (Last place same) =
        let one : other ≡ node = place ∙ before.0 in
        let found : Some at_other ≡ Some it = sym at ∙ ap (slice_get nodes) one ∙ at_node in
        let same_cell : at_other ≡ it = cc in
        subst (λ (place : ℕ). has place at_other own) (sym one)
        (subst (λ (cell : Cell NodeKind). has node cell own) (sym same_cell) (subst (λ (own : Own). has node it own) (sym same) here))

    all : NodesHave has nodes (owns ++ last ∷ [])
    all other at_other own at at_own = by_place other at_other own at (pushed_at owns last other own at_own)

-- ports with the edges of a node
pub has_ports : (nodes : List (Cell NodeKind)) (node : ℕ) (it : Cell NodeKind) (edges : ℕ) (own : Ports) → edges ≡ length (gives nodes)
    → own.ins.items ≡ (if is_source it.kind then (edges + node) ∷ [] else it.ins)
    → own.outs.items ≡ (if is_writer it.kind then (edges + node) ∷ it.outs else it.outs)
    → own.reads ≡ is_source it.kind → own.writes ≡ is_writer it.kind → HasPorts nodes node it own
has_ports nodes node it edges own counted ins outs reads writes = record {
  ins = ins ∙ ap (λ (count : ℕ). if is_source it.kind then (count + node) ∷ [] else it.ins) counted;
  outs = outs ∙ ap (λ (count : ℕ). if is_writer it.kind then (count + node) ∷ it.outs else it.outs) counted;
  reads = reads;
  writes = writes;
}

-- one more wire on which nothing waits
pub nothing_more : (wires : List (List Piece)) → ((edge : ℕ) → waiting_on wires edge ≡ []) → (edge : ℕ) → waiting_on (wires ++ [] ∷ []) edge ≡ []
nothing_more [] none zero = refl
nothing_more [] none (suc edge) = refl
nothing_more (wire ∷ wires) none zero = none zero
nothing_more (wire ∷ wires) none (suc edge) = nothing_more wires (λ other. none (suc other)) edge

-- ports, machines and wires of all nodes are their network
pub net_is_of : {Machine : Type 0} (state : Machine → State) (nodes given : List (Cell NodeKind)) (edges count : ℕ) (ports : List Ports) (machines : List Machine) (wires : List (List Piece))
    → given ≡ nodes → edges ≡ length (gives given) → count ≡ edges + length given
    → length ports ≡ length given → NodesHave (HasPorts given) given ports
    → length machines ≡ length nodes → NodesHave (λ node cell machine. BeginsAs (state machine) cell) nodes machines
    → length wires ≡ count → ((edge : ℕ) → waiting_on wires edge ≡ [])
    → IsNetOf state nodes ports machines wires
net_is_of {Machine} state nodes given edges count ports machines wires same edges_are count_is all_ports each_port all_machines each_machine all_wires none =
    subst (λ (list : List (Cell NodeKind)). IsNetOf state list ports machines wires) same
    (record {
      all_ports = all_ports;
      all_machines = all_machines ∙ ap (λ (list : List (Cell NodeKind)). length list) (sym same);
      all_wires = all_wires ∙ count_is ∙ ap (λ (it : ℕ). it + length given) edges_are;
      none_waits = none;
      ins = λ node cell own at_node at_own. (each_port node cell own at_node at_own).ins;
      outs = λ node cell own at_node at_own. (each_port node cell own at_node at_own).outs;
      reads = λ node cell own at_node at_own. (each_port node cell own at_node at_own).reads;
      writes = λ node cell own at_node at_own. (each_port node cell own at_node at_own).writes;
      begins = subst (λ (list : List (Cell NodeKind)). NodesHave (λ node cell (machine : Machine). BeginsAs (state machine) cell) list machines) (sym same) each_machine;
    })
