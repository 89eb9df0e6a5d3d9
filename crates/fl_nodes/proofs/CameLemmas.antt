-- What comes of a node that has run to its stop.
use Rattle.std.proofs.Common.{◌≡◌, ℕ, zero, suc, ◌<◌, List, [], Bool, false, true, map, None, refl, sym, subst, ap}
use Rattle.std.proofs.lemmas.List.{length-map}
use mathlib.Core.Path.{fun_ext}
use Rattle.fl_graph.specs.Machines.{State, MayDo}
use Rattle.fl_graph.specs.Runs.{Run}
use Rattle.fl_graph.specs.declared.pieces.Act.TheVariants as act
use Rattle.fl_graph.specs.declared.pieces.Piece.{Piece}
use Rattle.fl_graph.proofs.StateLemmas.{Run-start, Run-stop}
use Rattle.fl_relay.specs.declared.edges.EdgeGiver.{EdgeGiver}
use Rattle.fl_relay.specs.declared.edges.EdgeTaker.{EdgeTaker}
use Rattle.fl_relay.specs.Edges.{gives_over, takes_over, put_on, taken_from}
use Rattle.fl_nodes.specs.Came.{Came}
use Rattle.fl_nodes.specs.Ends.{EndState}
use Rattle.fl_nodes.specs.Work.{Fits, From, IsReady, IsUnderWay, Point, Reached, at, side, width}
use Rattle.fl_nodes.proofs.MovedLemmas.{moved-start}

-- a side of which nothing has carried a piece
nothing-at : (outer : Bool) (pieces : List (List Piece)) → ((port : ℕ) → at pieces port ≡ []) → side outer [] pieces ≡ (λ _. [])
nothing-at outer pieces none = fun_ext (λ (port : ℕ). by_port outer port)
  where
    by_port : (outer : Bool) (port : ℕ) → side outer [] pieces port ≡ []
    by_port true zero = refl
    by_port true (suc port) = none port
    by_port false port = none port

module _ (start : State) (own : EndState) (takers : List EdgeTaker) (givers : List EdgeGiver) (ready : IsReady start own takers givers) where
  abbrev pub from : From
  from = record { start = start; takes = map takes_over takers; gives = map gives_over givers; own = own }

  abbrev here : Point
  here = record { state = start; takers = takers; givers = givers; own = own; failure = None }

  pub fits : Fits from
  fits = record {
    ins = λ port opened. subst (λ (count : ℕ). port < width own.reads count) (sym (length-map takers takes_over)) (ready.ins port opened);
    outs = λ port opened. subst (λ (count : ℕ). port < width own.writes count) (sym (length-map givers gives_over)) (ready.outs port opened);
    plain = ready.plain;
    alone = λ reads. ap (map takes_over) (ready.alone reads);
    apart = ready.apart;
  }

  -- a node at its beginning
  pub reached-start : Reached from here
  reached-start = record {
    outside = [];
    stands = record {
      run = subst (λ (taken : ℕ → List Piece). Run start start taken (side own.writes [] (map put_on givers)) false) (sym (nothing-at own.reads (map taken_from takers) ready.untaken))
          (subst (λ (put : ℕ → List Piece). Run start start (λ _. []) put false) (sym (nothing-at own.writes (map put_on givers) ready.unput)) (Run-start start ready.whole));
      takes = refl;
      gives = refl;
      moved = moved-start own ready.apart;
    };
  }

  pub under_way : IsUnderWay here
  under_way = record { from = from; fits = fits; reached = reached-start }

-- a node at its stop
pub came_to : (from : From) (here : Point) (selected : Bool) → Reached from here → here.state.act ≡ act.Stop → MayDo here.state here.state.act
    → (here.state.broken ≡ false → selected ≡ here.state.selects (λ _. [])) → Came from here.takers here.givers here.own here.failure selected
came_to from here selected reached stop may selects = record {
  now = here.state;
  outside = reached.outside;
  stands = reached.stands;
  stopped = Run-stop from.start here.state _ _ _ reached.stands.run stop may;
  selects = selects;
}
