use Rattle.std.proofs.Common.{◌≡◌, ℕ, List, Option, Some, map, IfSome, ap, subst, ◌∙◌}
use Rattle.std.specs.Global.{Vec}
use Rattle.fl_graph.specs.declared.pieces.Piece.{Piece}
use Rattle.fl_nodes.specs.Stashes.{Lie}
use Rattle.fl_relay.specs.declared.edges.EdgeGiver.{EdgeGiver}
use Rattle.fl_relay.specs.declared.edges.EdgeTaker.{EdgeTaker}
use Rattle.fl_relay.specs.Edges.{EdgeId, gives_over, takes_over, put_on, taken_from}
use Rattle.fl_edges.specs.Halves.{no_pieces}
use Rattle.fl_edges.proofs.LaidLemmas.{some-of}
use Rattle.fl_edges.proofs.dealing.deal_to.Goals as goal

pub returns-clause-halves : goal.returns-clause-halves
returns-clause-halves c = λ ids giving taking. record {
  takes = some-of (λ (halves : Vec EdgeTaker). (ids : ℕ → EdgeId) (pieces : ℕ → List Piece) → Lie takes_over taken_from ids pieces c.args.takers.now.items
      → map takes_over halves.items ≡ map ids c.as_slice.result.now) c.in_ok-halves_at.field-0 c.in_ok-takers.takers c.in_ok-takers.ensures c.in_ok-halves_at.ensures.names ids no_pieces taking
      ∙ ap (map ids) c.as_slice.ensures;
  gives = some-of (λ (halves : Vec EdgeGiver). (ids : ℕ → EdgeId) (pieces : ℕ → List Piece) → Lie gives_over put_on ids pieces c.args.givers.now.items
      → map gives_over halves.items ≡ map ids c.as_slice-2.result.now) c.in_ok-halves_at-2.field-0 c.in_ok-givers.givers c.in_ok-givers.ensures c.in_ok-halves_at-2.ensures.names ids no_pieces giving
      ∙ ap (map ids) c.as_slice-2.ensures;
  untaken = some-of (λ (halves : Vec EdgeTaker). (ids : ℕ → EdgeId) (pieces : ℕ → List Piece) → Lie takes_over taken_from ids pieces c.args.takers.now.items
      → map taken_from halves.items ≡ map pieces c.as_slice.result.now) c.in_ok-halves_at.field-0 c.in_ok-takers.takers c.in_ok-takers.ensures c.in_ok-halves_at.ensures.carried ids no_pieces taking
      ∙ ap (map no_pieces) c.as_slice.ensures;
  unput = some-of (λ (halves : Vec EdgeGiver). (ids : ℕ → EdgeId) (pieces : ℕ → List Piece) → Lie gives_over put_on ids pieces c.args.givers.now.items
      → map put_on halves.items ≡ map pieces c.as_slice-2.result.now) c.in_ok-halves_at-2.field-0 c.in_ok-givers.givers c.in_ok-givers.ensures c.in_ok-halves_at-2.ensures.carried ids no_pieces giving
      ∙ ap (map no_pieces) c.as_slice-2.ensures;
}
