-- Each node of a graph is ready to run with its machine, the halves of its edges and the end of its role.
use Rattle.std.proofs.Common.{◌≡◌, ℕ, zero, suc, ◌<◌, ◌||◌, List, [], ◌∷◌, Bool, true, false, if◌then◌else◌, map, length, Option, Some, None, is_some, refl, ap, sym, subst, ◌∙◌, arith}
use Rattle.std.specs.Option.{option_map}
use Rattle.std.proofs.lemmas.Bool.{ltb-true, true≢false}
use Rattle.std.proofs.lemmas.List.{length-map}
use Rattle.fl_graph.specs.Machines.{State}
use Rattle.fl_graph.specs.declared.graphs.Cell.{Cell}
use Rattle.fl_graph.specs.declared.kinds.NodeKind.{NodeKind}
use Rattle.fl_graph.specs.declared.kinds.NodeKind.TheVariants as kind
use Rattle.fl_graph.specs.declared.kinds.From.TheVariants as from
use Rattle.fl_graph.specs.declared.kinds.To.TheVariants as to
use Rattle.fl_graph.specs.declared.pieces.Piece.{Piece}
use Rattle.fl_classes.specs.Flow.{is_source}
use Rattle.fl_classes.specs.Kinds.{is_writer, run_ins, run_outs}
use Rattle.fl_core.specs.EndLists.{NodeEnd, Reader, Writer, end_of, own_end}
use Rattle.fl_net.specs.Starts.{BeginsAs}
use Rattle.fl_core.specs.declared.end_lists.Ends.{Ends}
use Rattle.fl_net.proofs.PlanLemmas.{source_no_writer}
use Rattle.fl_edges.specs.Halves.{HasHalves, no_pieces}
use Rattle.fl_edges.specs.declared.dealing.NodeHalves.{NodeHalves}
use Rattle.fl_nodes.specs.Ends.{EndState}
use Rattle.fl_nodes.specs.Work.{IsReady, at, width}
use Rattle.fl_relay.specs.declared.edges.EdgeTaker.{EdgeTaker}
use Rattle.fl_relay.specs.Edges.{EdgeId, gives_over, takes_over}
use Rattle.fl_runner.specs.Lent.{end_state}

-- nothing has gone over the edges of these ports
at-none : (edges : List ℕ) (port : ℕ) → at (map no_pieces edges) port ≡ []
at-none [] port = refl
at-none (edge ∷ edges) zero = refl
at-none (edge ∷ edges) (suc port) = at-none edges port

no-takers : (takers : List EdgeTaker) → map takes_over takers ≡ [] → takers ≡ []
no-takers [] same = refl
no-takers (taker ∷ takers) same = absurd (cc)

-- the open ports of a machine are below the width of its node's side
below-ins : (source : Bool) (ins count port : ℕ) → count ≡ ins → port < (if source then 1 else ins) → port < width source count
below-ins true ins count port same low = omega (arith, low)
below-ins false ins count port same low = omega (arith, low, same)

below-outs : (writer : Bool) (outs count port : ℕ) → count ≡ outs → port < (if writer then suc outs else outs) → port < width writer count
below-outs true outs count port same low = omega (arith, low, same)
below-outs false outs count port same low = omega (arith, low, same)

module _ (cell : Cell NodeKind) (alone : is_source cell.kind ≡ true → cell.ins ≡ []) (start : State) (begins : BeginsAs start cell) (ids : ℕ → EdgeId) (halves : NodeHalves) (has : HasHalves ids cell halves)
    (own : EndState) (reads : own.reads ≡ is_source cell.kind) (writes : own.writes ≡ is_writer cell.kind) where
  takers-counted : length halves.takers.items ≡ length cell.ins
  takers-counted = sym (length-map halves.takers.items takes_over) ∙ ap (λ (it : List EdgeId). length it) has.takes ∙ length-map cell.ins ids

  givers-counted : length halves.givers.items ≡ length cell.outs
  givers-counted = sym (length-map halves.givers.items gives_over) ∙ ap (λ (it : List EdgeId). length it) has.gives ∙ length-map cell.outs ids

  pub is_ready : IsReady start own halves.takers.items halves.givers.items
  is_ready = record {
    whole = begins.is_whole;
    ins = λ port opened.
        subst (λ (outer : Bool). port < width outer (length halves.takers.items)) (sym reads)
        (below-ins (is_source cell.kind) (length cell.ins) (length halves.takers.items) port takers-counted
        (ltb-true port (run_ins cell.kind (length cell.ins)) (sym (begins.takes_all port) ∙ opened)));
    outs = λ port opened.
        subst (λ (outer : Bool). port < width outer (length halves.givers.items)) (sym writes)
        (below-outs (is_writer cell.kind) (length cell.outs) (length halves.givers.items) port givers-counted
        (ltb-true port (run_outs cell.kind (length cell.outs)) (sym (begins.puts_all port) ∙ opened)));
    plain = begins.plain_outs;
    alone = λ is. no-takers halves.takers.items (has.takes ∙ ap (map ids) (alone (sym reads ∙ is)));
    apart = λ is. writes ∙ source_no_writer cell.kind (sym reads ∙ is);
    untaken = λ port. ap (λ (pieces : List (List Piece)). at pieces port) has.untaken ∙ at-none cell.ins port;
    unput = λ port. ap (λ (pieces : List (List Piece)). at pieces port) has.unput ∙ at-none cell.outs port;
  }

-- the end of a node is read where the node is a source, and written where it writes
module _ {R W I O : Type 0} (of_reader : R → Option (List ℕ)) (of_writer : W → Option (List ℕ)) (of_input : I → Option (List ℕ)) (of_output : O → Option (List ℕ))
    (reader_faults : R → ℕ) (writer_faults : W → ℕ) (input_faults : I → ℕ) (output_faults : O → ℕ) where
  abbrev state_of : Option (NodeEnd R W I O) → EndState
  state_of found = end_state of_reader of_writer of_input of_output reader_faults writer_faults input_faults output_faults found

  abbrev as_reader : Option R → Option (NodeEnd R W I O)
  as_reader found = option_map Reader found

  abbrev as_writer : Option W → Option (NodeEnd R W I O)
  as_writer found = option_map Writer found

  reader-reads : (found : Option R) → is_some (as_reader found) ≡ true → (state_of (as_reader found)).reads ≡ true
  reader-reads None some = absurd (true≢false (sym some))
  reader-reads (Some end) some = refl

  reader-writes : (found : Option R) → (state_of (as_reader found)).writes ≡ false
  reader-writes None = refl
  reader-writes (Some end) = refl

  writer-reads : (found : Option W) → (state_of (as_writer found)).reads ≡ false
  writer-reads None = refl
  writer-reads (Some end) = refl

  writer-writes : (found : Option W) → is_some (as_writer found) ≡ true → (state_of (as_writer found)).writes ≡ true
  writer-writes None some = absurd (true≢false (sym some))
  writer-writes (Some end) some = refl

  pub own_reads : (it : NodeKind) (node : ℕ) (ends : Ends R W I O) → ((is_source it || is_writer it) ≡ true → is_some (own_end it node ends) ≡ true) → (state_of (own_end it node ends)).reads ≡ is_source it
  own_reads (kind.Source from.Input) node ends has = refl
  own_reads (kind.Source (from.File path)) node ends has = reader-reads (end_of ends.readers.items node) (has refl)
  own_reads (kind.Sink to.Output) node ends has = refl
  own_reads (kind.Sink (to.File path mode)) node ends has = writer-reads (end_of ends.writers.items node)
  own_reads (kind.TeeFile path mode) node ends has = writer-reads (end_of ends.writers.items node)
  own_reads other node ends has = refl

  pub own_writes : (it : NodeKind) (node : ℕ) (ends : Ends R W I O) → ((is_source it || is_writer it) ≡ true → is_some (own_end it node ends) ≡ true) → (state_of (own_end it node ends)).writes ≡ is_writer it
  own_writes (kind.Source from.Input) node ends has = refl
  own_writes (kind.Source (from.File path)) node ends has = reader-writes (end_of ends.readers.items node)
  own_writes (kind.Sink to.Output) node ends has = refl
  own_writes (kind.Sink (to.File path mode)) node ends has = writer-writes (end_of ends.writers.items node) (has refl)
  own_writes (kind.TeeFile path mode) node ends has = writer-writes (end_of ends.writers.items node) (has refl)
  own_writes other node ends has = refl
