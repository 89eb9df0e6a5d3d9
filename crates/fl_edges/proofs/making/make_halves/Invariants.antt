use Rattle.std.proofs.Common.{◌≡◌, ℕ, [], map, max, take, Option, Some}
use Rattle.std.specs.Option.{option_map}
use Rattle.fl_relay.specs.declared.edges.EdgeGiver.{EdgeGiver}
use Rattle.fl_relay.specs.declared.edges.EdgeTaker.{EdgeTaker}
use Rattle.fl_relay.specs.Edges.{gives_over, takes_over, put_on, room_on, taken_from}
use Rattle.fl_edges.proofs.LaidLemmas.{AllLying}
use Rattle.fl_edges.proofs.making.make_halves.Given as goal

abbrev pub invariant-loop-place : goal.invariant-loop-place
invariant-loop-place l = record {
  same : map (option_map gives_over) l.givers.items ≡ map (option_map takes_over) l.takers.items;
  unput : AllLying (λ (giver : EdgeGiver). put_on giver ≡ []) l.givers.items;
  untaken : AllLying (λ (taker : EdgeTaker). taken_from taker ≡ []) l.takers.items;
  rooms : map (option_map room_on) l.givers.items ≡ map (λ (room : Option ℕ). Some (option_map (λ pieces. max pieces 1) room)) (take l.place l.rooms);
}
