-- What a piece over an edge makes of how far a network has run.
use Rattle.std.proofs.Common.{◌≡◌, ℕ, ◌<◌, ◌==◌, arith, List, [], ◌∷◌, ◌++◌, Bool, true, false, not, ◌&&◌, ◌||◌, if◌then◌else◌, slice_get, Option, Some, refl, ap, sym, subst, ◌∙◌, append_assoc, append-nil, zero, suc, eq-eqb}
use Rattle.std.specs.List.{list_all}
use Rattle.std.proofs.lemmas.Bool.{and_parts, and_from, or_parts, or_left, true≢false, eqb-true}
use Rattle.std.proofs.lemmas.List.Folds.{list_all-append}
use Rattle.ps_world.specs.Told.{then_bytes, bytes_then, IsEnded}
use Rattle.ps_world.proofs.ToldLemmas.{bytes_then-append}
use Rattle.fl_graph.specs.Machines.{State, closes, is_broken}
use Rattle.fl_graph.specs.Net.{has}
use Rattle.fl_graph.specs.Runs.{text_of, is_end, has_broken, has_end, are_closed, add, Run, is_clean}
use Rattle.fl_graph.specs.declared.pieces.Piece.{Piece}
use Rattle.fl_graph.specs.declared.pieces.Piece.TheVariants as piece
use Rattle.fl_graph.proofs.StateLemmas.{none_broken}
use Rattle.fl_net.specs.Laws.{at_ports}
use Rattle.fl_net.specs.Moves.{moves_of}
use Rattle.fl_net.specs.Steps.{has_bytes, is_plain, waiting_on, SameBut, Took, Gave, Broke, Starves}
use Rattle.fl_net.specs.Runs.{Plan, IsUnbroken, IsWired, Reached}
use Rattle.fl_graph.proofs.PieceLemmas.{is_clean-add, text_of-append}
use Rattle.fl_net.proofs.PortLemmas.{stands-has, at_ports-stands, at_ports-add, at_ports-elsewhere}
use Rattle.fl_net.proofs.SumLemmas.{moves-took, moves-put}

-- a test that holds of pieces and of one more holds of all
pub all-more : (test : Piece → Bool) (pieces : List Piece) (last : Piece) → list_all test pieces ≡ true → test last ≡ true → list_all test (pieces ++ last ∷ []) ≡ true
all-more test pieces last all is =
    list_all-append test pieces (last ∷ []) ∙ and_from (list_all test pieces) (test last && true) all (and_from (test last) true is refl)

-- a port that is open hasn't been closed
unclosed_at : (start now closed : Bool) → now ≡ (start && not closed) → now ≡ true → closed ≡ false
unclosed_at start now closed is opened = by_test closed (and_parts start (not closed) (sym is ∙ opened)).1
  where
    by_test : (test : Bool) → not test ≡ true → test ≡ false
    by_test true is = sym is
    by_test false is = refl

end_closes : (pieces : List Piece) → are_closed pieces ≡ false → has_end pieces ≡ false
end_closes [] unclosed = refl
end_closes (piece.Bytes bytes ∷ pieces) unclosed = end_closes pieces unclosed
end_closes (piece.Mark ∷ pieces) unclosed = end_closes pieces unclosed
end_closes (piece.End ∷ pieces) unclosed = absurd (true≢false unclosed)
end_closes (piece.Broken ∷ pieces) unclosed = absurd (true≢false unclosed)

has_end-last : (pieces : List Piece) (last : Piece) → has_end pieces ≡ false → has_end (pieces ++ last ∷ []) ≡ true → is_end last ≡ true
has_end-last [] last none ended = by_test (is_end last) ended
  where
    by_test : (test : Bool) → (test || false) ≡ true → test ≡ true
    by_test true is = refl
    by_test false is = is
has_end-last (first ∷ pieces) last none ended =
    let parts = or_parts (is_end first) (has_end pieces) none in
    has_end-last pieces last parts.1 (sym (ap (λ (test : Bool). test || has_end (pieces ++ last ∷ [])) parts.0) ∙ ended)

-- a piece between others is no break where none of them is
broken_within : (front : List Piece) (piece : Piece) (back : List Piece) → has_broken (front ++ piece ∷ back) ≡ false → is_broken piece ≡ false
broken_within [] piece back none = (or_parts (is_broken piece) (has_broken back) none).0
broken_within (first ∷ front) piece back none = broken_within front piece back (or_parts (is_broken first) (has_broken (front ++ piece ∷ back)) none).1

-- an edge that one list has and another hasn't isn't the one that the other has
differs : (edge other : ℕ) (edges : List ℕ) → has other edges ≡ true → has edge edges ≡ false → (edge == other) ≡ false
differs edge other edges there absent = by_test (edge == other) refl
  where
    by_test : (test : Bool) → (edge == other) ≡ test → test ≡ false
    by_test true is = absurd (true≢false (sym there ∙ ap (λ (it : ℕ). has it edges) (sym (eqb-true edge other is)) ∙ absent))
    by_test false is = refl

pub only_has : (edge : ℕ) (edges : List ℕ) → edges ≡ edge ∷ [] → has edge edges ≡ true
only_has edge edges is = ap (has edge) is ∙ or_left (edge == edge) false (eq-eqb edge edge refl)

-- what stands in the place of a machine, and nothing else has changed
pub record Replaced {Machine : Type 0} (machines machines' : List Machine) (node : ℕ) (machine machine' : Machine) : Type 0 where
  pub was : slice_get machines node ≡ Some machine
  pub here : (now : Machine) → slice_get machines' node ≡ Some now → now ≡ machine'
  pub others : (other : ℕ) → (other == node) ≡ false → slice_get machines' other ≡ slice_get machines other

module _ {Machine : Type 0} (state : Machine → State) (plan : Plan) (wired : IsWired plan) where
  -- a node's edge is in no other node's list
  not_taken : (node other edge : ℕ) → has edge (plan.ins node) ≡ true → (other == node) ≡ false → has edge (plan.ins other) ≡ false
  not_taken node other edge there elsewhere = by_test (has edge (plan.ins other)) refl
    where
      by_test : (test : Bool) → has edge (plan.ins other) ≡ test → test ≡ false
      by_test true is = absurd (true≢false (sym (eq-eqb other other refl) ∙ ap (λ (it : ℕ). other == it) (sym (wired.one_taker node other edge there is)) ∙ elsewhere))
      by_test false is = refl

  not_given : (node other edge : ℕ) → has edge (plan.outs node) ≡ true → (other == node) ≡ false → has edge (plan.outs other) ≡ false
  not_given node other edge there elsewhere = by_test (has edge (plan.outs other)) refl
    where
      by_test : (test : Bool) → has edge (plan.outs other) ≡ test → test ≡ false
      by_test true is = absurd (true≢false (sym (eq-eqb other other refl) ∙ ap (λ (it : ℕ). other == it) (sym (wired.one_giver node other edge there is)) ∙ elsewhere))
      by_test false is = refl

  -- a machine took a piece
  pub reached_took : (machines machines' : List Machine) (wires wires' : List (List Piece)) (left taken : ℕ → Option (List ℕ)) (node : ℕ) (machine machine' : Machine)
      (refused : Bool) → (refused ≡ true → plan.failed node ≡ true) → Replaced machines machines' node machine machine' → Took (state machine) (state machine') (plan.ins node) refused wires wires'
      → Reached state plan machines wires left taken → Reached state plan machines' wires' left taken
  reached_took machines machines' wires wires' left taken node machine machine' refused marks replaced took reached = record {
    took = add edge first reached.took;
    put = reached.put;
    queued = λ other. queue other (other == edge) refl;
    clean = reached.clean;
    plain = reached.plain;
    sized = reached.sized;
    runs = λ other now is. run other now is (other == node) refl;
    sound = unbroken;
    read = reached.read;
    ended = reached.ended;
    written = λ other out writes is. reached.written other out writes is
        ∙ ap (λ (pieces : List Piece). then_bytes (plan.taken other) (text_of pieces)) (sym (untouched other out writes is));
  }
    where
      edge : ℕ
      edge = took.edge

      first : Piece
      first = took.moved.piece

      there : has edge (plan.ins node) ≡ true
      there = stands-has (plan.ins node) took.port edge took.there

      queue : (other : ℕ) (here : Bool) → (other == edge) ≡ here
          → reached.put other ≡ (if here then reached.took other ++ first ∷ [] else reached.took other) ++ waiting_on wires' other
      queue other true is =
          reached.queued other
          ∙ ap (λ (pieces : List Piece). reached.took other ++ pieces) (ap (waiting_on wires) (eqb-true other edge is) ∙ took.moved.first ∙ ap (λ (it : ℕ). first ∷ waiting_on wires' it) (sym (eqb-true other edge is)))
          ∙ sym (append_assoc (reached.took other) (first ∷ []) (waiting_on wires' other))
      queue other false is = reached.queued other ∙ ap (λ (pieces : List Piece). reached.took other ++ pieces) (sym (took.others other is))

      run : (other : ℕ) (now : Machine) → slice_get machines' other ≡ Some now → (here : Bool) → (other == node) ≡ here
          → Run (plan.starts other) (state now) (at_ports (plan.ins other) (add edge first reached.took)) (at_ports (plan.outs other) reached.put) (plan.failed other)
      run other now is true same =
          let at : other ≡ node = eqb-true other node same in
          let now_is : now ≡ machine' = replaced.here now (ap (slice_get machines') (sym at) ∙ is) in
          subst (λ (it : ℕ). Run (plan.starts it) (state now) (at_ports (plan.ins it) (add edge first reached.took)) (at_ports (plan.outs it) reached.put) (plan.failed it)) (sym at)
          (subst (λ (it : Machine). Run (plan.starts node) (state it) (at_ports (plan.ins node) (add edge first reached.took)) (at_ports (plan.outs node) reached.put) (plan.failed node)) (sym now_is)
          (subst (λ (pieces : ℕ → List Piece). Run (plan.starts node) (state machine') pieces (at_ports (plan.outs node) reached.put) (plan.failed node))
          (sym (at_ports-add (plan.ins node) edge took.port first reached.took took.there (wired.in_once node edge there)))
          (took.moved.runs (plan.starts node) (at_ports (plan.ins node) reached.took) (at_ports (plan.outs node) reached.put) (plan.failed node) marks (reached.runs node machine replaced.was))))
      run other now is false elsewhere =
          subst (λ (pieces : ℕ → List Piece). Run (plan.starts other) (state now) pieces (at_ports (plan.outs other) reached.put) (plan.failed other))
          (sym (at_ports-elsewhere (plan.ins other) edge first reached.took (not_taken node other edge there elsewhere)))
          (reached.runs other now (sym (replaced.others other elsewhere) ∙ is))

      -- where no node has failed none is broken, since no Broken was there to take
      unbroken : ((other : ℕ) → plan.failed other ≡ false) → IsUnbroken state machines' reached.put
      unbroken unfailed = record { whole = λ other now is. still other now is (other == node) refl; edges = before.edges }
        where
          before : IsUnbroken state machines reached.put
          before = reached.sound unfailed

          unrefused : (test : Bool) → refused ≡ test → refused ≡ false
          unrefused true is = absurd (true≢false (sym (marks is) ∙ unfailed node))
          unrefused false is = is

          first_whole : is_broken first ≡ false
          first_whole =
              broken_within (reached.took edge) first (waiting_on wires' edge)
              (ap has_broken (ap (λ (pieces : List Piece). reached.took edge ++ pieces) (sym took.moved.first) ∙ sym (reached.queued edge)) ∙ before.edges edge)

          still : (other : ℕ) (now : Machine) → slice_get machines' other ≡ Some now → (here : Bool) → (other == node) ≡ here → (state now).broken ≡ false
          still other now is true same =
              ap (λ (it : Machine). (state it).broken) (replaced.here now (ap (slice_get machines') (sym (eqb-true other node same)) ∙ is))
              ∙ took.moved.sound (unrefused refused refl) first_whole ∙ before.whole node machine replaced.was
          still other now is false elsewhere = before.whole other now (sym (replaced.others other elsewhere) ∙ is)

      untouched : (other out : ℕ) → plan.writes other ≡ true → slice_get (plan.outs other) 0 ≡ Some out → add edge first reached.took out ≡ reached.took out
      untouched other out writes is =
          ap (λ (here : Bool). if here then reached.took out ++ first ∷ [] else reached.took out)
          (sees (out == edge) refl)
        where
          sees : (here : Bool) → (out == edge) ≡ here → here ≡ false
          sees true same =
              absurd (true≢false (sym there ∙ ap (λ (it : ℕ). has it (plan.ins node)) (sym (eqb-true out edge same))
              ∙ wired.to_outside other node out writes is))
          sees false same = refl

  -- by one move
  pub took_moves : (machines machines' : List Machine) (wires wires' : List (List Piece)) (left taken : ℕ → Option (List ℕ)) (node : ℕ) (machine machine' : Machine)
      (refused : Bool) (marks : refused ≡ true → plan.failed node ≡ true) (replaced : Replaced machines machines' node machine machine') (took : Took (state machine) (state machine') (plan.ins node) refused wires wires')
      → (reached : Reached state plan machines wires left taken) (nodes : ℕ) → node < nodes
      → moves_of plan nodes (reached_took machines machines' wires wires' left taken node machine machine' refused marks replaced took reached).took
      (reached_took machines machines' wires wires' left taken node machine machine' refused marks replaced took reached).put ≡ suc (moves_of plan nodes reached.took reached.put)
  unfolding reached_took
  took_moves machines machines' wires wires' left taken node machine machine' refused marks replaced took reached nodes within =
      let there = stands-has (plan.ins node) took.port took.edge took.there in
      let more = moves-took plan reached.took reached.put nodes node took.edge took.moved.piece within (wired.in_once node took.edge there) (λ other. not_taken node other took.edge there) in
      more ∙ omega arith

  -- a machine put a piece
  pub reached_gave : (machines machines' : List Machine) (wires wires' : List (List Piece)) (left taken : ℕ → Option (List ℕ)) (node : ℕ) (machine machine' : Machine)
      → Replaced machines machines' node machine machine' → Gave (state machine) (state machine') (plan.outs node) wires wires'
      → Reached state plan machines wires left taken → Reached state plan machines' wires' left taken
  reached_gave machines machines' wires wires' left taken node machine machine' replaced gave reached = record {
    took = reached.took;
    put = add edge last reached.put;
    queued = λ other. queue other (other == edge) refl;
    clean = λ other. tidy other (other == edge) refl;
    plain = λ other. even other (other == edge) refl;
    sized = λ other. filled other (other == edge) refl;
    runs = λ other now is. run other now is (other == node) refl;
    sound = unbroken;
    read = λ other into reads is. reached.read other into reads is
        ∙ ap (λ (pieces : List Piece). bytes_then (text_of pieces) (left other)) (sym (untouched other into reads is));
    ended = λ other into reads is ends. reached.ended other into reads is (ap has_end (sym (untouched other into reads is)) ∙ ends);
    written = reached.written;
  }
    where
      edge : ℕ
      edge = gave.edge

      last : Piece
      last = gave.moved.piece

      there : has edge (plan.outs node) ≡ true
      there = stands-has (plan.outs node) gave.port edge gave.there

      unclosed : are_closed (reached.put edge) ≡ false
      unclosed =
          ap are_closed (sym (at_ports-stands (plan.outs node) reached.put gave.port edge gave.there))
          ∙ unclosed_at ((plan.starts node).puts gave.port) ((state machine).puts gave.port) (are_closed (at_ports (plan.outs node) reached.put gave.port))
          ((reached.runs node machine replaced.was).outs gave.port) gave.opened

      queue : (other : ℕ) (here : Bool) → (other == edge) ≡ here
          → (if here then reached.put other ++ last ∷ [] else reached.put other) ≡ reached.took other ++ waiting_on wires' other
      queue other true is =
          ap (λ (pieces : List Piece). pieces ++ last ∷ []) (reached.queued other)
          ∙ append_assoc (reached.took other) (waiting_on wires other) (last ∷ [])
          ∙ ap (λ (pieces : List Piece). reached.took other ++ pieces) (ap (λ (it : ℕ). waiting_on wires it ++ last ∷ []) (eqb-true other edge is) ∙ sym gave.moved.last ∙ ap (waiting_on wires') (sym (eqb-true other edge is)))
      queue other false is = reached.queued other ∙ ap (λ (pieces : List Piece). reached.took other ++ pieces) (sym (gave.others other is))

      tidy : (other : ℕ) (here : Bool) → (other == edge) ≡ here → is_clean (if here then reached.put other ++ last ∷ [] else reached.put other) ≡ true
      tidy other true is = is_clean-add (reached.put other) last (ap (λ (it : ℕ). are_closed (reached.put it)) (eqb-true other edge is) ∙ unclosed)
      tidy other false is = reached.clean other

      even : (other : ℕ) (here : Bool) → (other == edge) ≡ here → list_all is_plain (if here then reached.put other ++ last ∷ [] else reached.put other) ≡ true
      even other true is = all-more is_plain (reached.put other) last (reached.plain other) gave.moved.plain
      even other false is = reached.plain other

      filled : (other : ℕ) (here : Bool) → (other == edge) ≡ here → list_all has_bytes (if here then reached.put other ++ last ∷ [] else reached.put other) ≡ true
      filled other true is = all-more has_bytes (reached.put other) last (reached.sized other) gave.moved.sized
      filled other false is = reached.sized other

      run : (other : ℕ) (now : Machine) → slice_get machines' other ≡ Some now → (here : Bool) → (other == node) ≡ here
          → Run (plan.starts other) (state now) (at_ports (plan.ins other) reached.took) (at_ports (plan.outs other) (add edge last reached.put)) (plan.failed other)
      run other now is true same =
          let at : other ≡ node = eqb-true other node same in
          let now_is : now ≡ machine' = replaced.here now (ap (slice_get machines') (sym at) ∙ is) in
          subst (λ (it : ℕ). Run (plan.starts it) (state now) (at_ports (plan.ins it) reached.took) (at_ports (plan.outs it) (add edge last reached.put)) (plan.failed it)) (sym at)
          (subst (λ (it : Machine). Run (plan.starts node) (state it) (at_ports (plan.ins node) reached.took) (at_ports (plan.outs node) (add edge last reached.put)) (plan.failed node)) (sym now_is)
          (subst (λ (pieces : ℕ → List Piece). Run (plan.starts node) (state machine') (at_ports (plan.ins node) reached.took) pieces (plan.failed node))
          (sym (at_ports-add (plan.outs node) edge gave.port last reached.put gave.there (wired.out_once node edge there)))
          (gave.moved.runs (plan.starts node) (at_ports (plan.ins node) reached.took) (at_ports (plan.outs node) reached.put) (plan.failed node) (reached.runs node machine replaced.was))))
      run other now is false elsewhere =
          subst (λ (pieces : ℕ → List Piece). Run (plan.starts other) (state now) (at_ports (plan.ins other) reached.took) pieces (plan.failed other))
          (sym (at_ports-elsewhere (plan.outs other) edge last reached.put (not_given node other edge there elsewhere)))
          (reached.runs other now (sym (replaced.others other elsewhere) ∙ is))

      unbroken : ((other : ℕ) → plan.failed other ≡ false) → IsUnbroken state machines' (add edge last reached.put)
      unbroken unfailed = record {
        whole = λ other now is. still other now is (other == node) refl;
        edges = none_broken reached.put edge last before.edges (gave.moved.sound (before.whole node machine replaced.was));
      }
        where
          before : IsUnbroken state machines reached.put
          before = reached.sound unfailed

          still : (other : ℕ) (now : Machine) → slice_get machines' other ≡ Some now → (here : Bool) → (other == node) ≡ here → (state now).broken ≡ false
          still other now is true same =
              ap (λ (it : Machine). (state it).broken) (replaced.here now (ap (slice_get machines') (sym (eqb-true other node same)) ∙ is))
              ∙ gave.moved.broken ∙ before.whole node machine replaced.was
          still other now is false elsewhere = before.whole other now (sym (replaced.others other elsewhere) ∙ is)

      untouched : (other into : ℕ) → plan.reads other ≡ true → plan.ins other ≡ into ∷ [] → add edge last reached.put into ≡ reached.put into
      untouched other into reads is =
          ap (λ (here : Bool). if here then reached.put into ++ last ∷ [] else reached.put into)
          (sees (into == edge) refl)
        where
          sees : (here : Bool) → (into == edge) ≡ here → here ≡ false
          sees true same =
              absurd (true≢false (sym there ∙ ap (λ (it : ℕ). has it (plan.outs node)) (sym (eqb-true into edge same))
              ∙ wired.from_outside other node into reads (only_has into (plan.ins other) is)))
          sees false same = refl

  -- by one move
  pub gave_moves : (machines machines' : List Machine) (wires wires' : List (List Piece)) (left taken : ℕ → Option (List ℕ)) (node : ℕ) (machine machine' : Machine)
      → (replaced : Replaced machines machines' node machine machine') (gave : Gave (state machine) (state machine') (plan.outs node) wires wires')
      → (reached : Reached state plan machines wires left taken) (nodes : ℕ) → node < nodes
      → moves_of plan nodes (reached_gave machines machines' wires wires' left taken node machine machine' replaced gave reached).took
      (reached_gave machines machines' wires wires' left taken node machine machine' replaced gave reached).put ≡ suc (moves_of plan nodes reached.took reached.put)
  unfolding reached_gave
  gave_moves machines machines' wires wires' left taken node machine machine' replaced gave reached nodes within =
      let there = stands-has (plan.outs node) gave.port gave.edge gave.there in
      let more = moves-put plan reached.took reached.put nodes node gave.edge gave.moved.piece within (wired.out_once node gave.edge there) (λ other. not_given node other gave.edge there) in
      more ∙ omega arith

  -- a machine is broken, and may have failed; no piece has moved
  pub reached_broke : (machines machines' : List Machine) (wires : List (List Piece)) (left taken : ℕ → Option (List ℕ)) (node : ℕ) (machine machine' : Machine)
      → plan.failed node ≡ true → Replaced machines machines' node machine machine' → Broke (state machine) (state machine')
      → Reached state plan machines wires left taken → Reached state plan machines' wires left taken
  reached_broke machines machines' wires left taken node machine machine' marked replaced broke reached = record {
    took = reached.took;
    put = reached.put;
    queued = reached.queued;
    clean = reached.clean;
    plain = reached.plain;
    sized = reached.sized;
    runs = λ other now is. run other now is (other == node) refl;
    sound = λ unfailed. absurd (true≢false (sym marked ∙ unfailed node));
    read = reached.read;
    ended = reached.ended;
    written = reached.written;
  }
    where
      ins : ℕ → List Piece
      ins = at_ports (plan.ins node) reached.took

      outs : ℕ → List Piece
      outs = at_ports (plan.outs node) reached.put

      here : Run (plan.starts node) (state machine') ins outs (plan.failed node)
      here =
          subst (λ (test : Bool). Run (plan.starts node) (state machine') ins outs test) (sym marked)
          (broke.runs (plan.starts node) ins outs (subst (λ (test : Bool). Run (plan.starts node) (state machine) ins outs test) marked (reached.runs node machine replaced.was)))

      run : (other : ℕ) (now : Machine) → slice_get machines' other ≡ Some now → (same : Bool) → (other == node) ≡ same
          → Run (plan.starts other) (state now) (at_ports (plan.ins other) reached.took) (at_ports (plan.outs other) reached.put) (plan.failed other)
      run other now is true same =
          let at : other ≡ node = eqb-true other node same in
          subst (λ (it : ℕ). Run (plan.starts it) (state now) (at_ports (plan.ins it) reached.took) (at_ports (plan.outs it) reached.put) (plan.failed it)) (sym at)
          (subst (λ (it : Machine). Run (plan.starts node) (state it) ins outs (plan.failed node)) (sym (replaced.here now (ap (slice_get machines') (sym at) ∙ is))) here)
      run other now is false elsewhere = reached.runs other now (sym (replaced.others other elsewhere) ∙ is)

  -- by no move
  pub broke_moves : (machines machines' : List Machine) (wires : List (List Piece)) (left taken : ℕ → Option (List ℕ)) (node : ℕ) (machine machine' : Machine)
      (marked : plan.failed node ≡ true) (replaced : Replaced machines machines' node machine machine') (broke : Broke (state machine) (state machine'))
      (reached : Reached state plan machines wires left taken) (nodes : ℕ)
      → moves_of plan nodes (reached_broke machines machines' wires left taken node machine machine' marked replaced broke reached).took
      (reached_broke machines machines' wires left taken node machine machine' marked replaced broke reached).put ≡ moves_of plan nodes reached.took reached.put
  unfolding reached_broke
  broke_moves machines machines' wires left taken node machine machine' marked replaced broke reached nodes = refl

  -- a piece came from outside
  pub record Came (wires wires' : List (List Piece)) (left left' : ℕ → Option (List ℕ)) (node edge : ℕ) (piece : Piece) : Type 0 where
    pub last : waiting_on wires' edge ≡ waiting_on wires edge ++ piece ∷ []
    pub others : SameBut edge wires wires'
    pub plain : is_plain piece ≡ true
    pub whole : is_broken piece ≡ false
    pub sized : has_bytes piece ≡ true
    pub bytes : left node ≡ bytes_then (text_of (piece ∷ [])) (left' node)
    pub ended : is_end piece ≡ true → IsEnded (left' node)
    pub elsewhere : (other : ℕ) → (other == node) ≡ false → left' other ≡ left other

  pub reached_came : (machines : List Machine) (wires wires' : List (List Piece)) (left left' taken : ℕ → Option (List ℕ)) (node edge : ℕ) (machine : Machine) (last : Piece)
      → slice_get machines node ≡ Some machine → plan.reads node ≡ true → plan.ins node ≡ edge ∷ [] → Starves (state machine) (plan.ins node) wires
      → Came wires wires' left left' node edge last
      → Reached state plan machines wires left taken → Reached state plan machines wires' left' taken
  reached_came machines wires wires' left left' taken node edge machine last is_machine reads is starves came reached = record {
    took = reached.took;
    put = add edge last reached.put;
    queued = λ other. queue other (other == edge) refl;
    clean = λ other. tidy other (other == edge) refl;
    plain = λ other. even other (other == edge) refl;
    sized = λ other. filled other (other == edge) refl;
    runs = λ other now at.
        subst (λ (pieces : ℕ → List Piece). Run (plan.starts other) (state now) (at_ports (plan.ins other) reached.took) pieces (plan.failed other))
        (sym (at_ports-elsewhere (plan.outs other) edge last reached.put (wired.from_outside node other edge reads there)))
        (reached.runs other now at);
    sound = λ unfailed.
        let before = reached.sound unfailed in
        record { whole = before.whole; edges = none_broken reached.put edge last before.edges came.whole };
    read = λ other into other_reads at. told other into other_reads at (other == node) refl;
    ended = λ other into other_reads at ends. over other into other_reads at ends (other == node) refl;
    written = reached.written;
  }
    where
      there : has edge (plan.ins node) ≡ true
      there = only_has edge (plan.ins node) is

      -- the port that starves is that of the one edge
      starves_here : starves.edge ≡ edge
      starves_here = only_at starves.port (ap (λ (edges : List ℕ). slice_get edges starves.port) (sym is) ∙ starves.there)
        where
          only_at : (port : ℕ) → slice_get (edge ∷ []) port ≡ Some starves.edge → starves.edge ≡ edge
          only_at zero at = sym (cc)
          only_at (suc port) at = absurd (cc)

      unclosed : are_closed (reached.put edge) ≡ false
      unclosed =
          let taken_open : are_closed (reached.took starves.edge) ≡ false =
          ap are_closed (sym (at_ports-stands (plan.ins node) reached.took starves.port starves.edge starves.there))
          ∙ unclosed_at ((plan.starts node).takes starves.port) ((state machine).takes starves.port) (are_closed (at_ports (plan.ins node) reached.took starves.port))
          ((reached.runs node machine is_machine).ins starves.port) starves.opened in
          ap (λ (it : ℕ). are_closed (reached.put it)) (sym starves_here)
          ∙ ap are_closed (reached.queued starves.edge ∙ ap (λ (pieces : List Piece). reached.took starves.edge ++ pieces) starves.none ∙ append-nil (reached.took starves.edge))
          ∙ taken_open

      queue : (other : ℕ) (here : Bool) → (other == edge) ≡ here
          → (if here then reached.put other ++ last ∷ [] else reached.put other) ≡ reached.took other ++ waiting_on wires' other
      queue other true same =
          ap (λ (pieces : List Piece). pieces ++ last ∷ []) (reached.queued other)
          ∙ append_assoc (reached.took other) (waiting_on wires other) (last ∷ [])
          ∙ ap (λ (pieces : List Piece). reached.took other ++ pieces) (ap (λ (it : ℕ). waiting_on wires it ++ last ∷ []) (eqb-true other edge same) ∙ sym came.last ∙ ap (waiting_on wires') (sym (eqb-true other edge same)))
      queue other false same = reached.queued other ∙ ap (λ (pieces : List Piece). reached.took other ++ pieces) (sym (came.others other same))

      tidy : (other : ℕ) (here : Bool) → (other == edge) ≡ here → is_clean (if here then reached.put other ++ last ∷ [] else reached.put other) ≡ true
      tidy other true same = is_clean-add (reached.put other) last (ap (λ (it : ℕ). are_closed (reached.put it)) (eqb-true other edge same) ∙ unclosed)
      tidy other false same = reached.clean other

      even : (other : ℕ) (here : Bool) → (other == edge) ≡ here → list_all is_plain (if here then reached.put other ++ last ∷ [] else reached.put other) ≡ true
      even other true same = all-more is_plain (reached.put other) last (reached.plain other) came.plain
      even other false same = reached.plain other

      filled : (other : ℕ) (here : Bool) → (other == edge) ≡ here → list_all has_bytes (if here then reached.put other ++ last ∷ [] else reached.put other) ≡ true
      filled other true same = all-more has_bytes (reached.put other) last (reached.sized other) came.sized
      filled other false same = reached.sized other

      -- the in of another node is another edge
      into_differs : (other into : ℕ) → plan.ins other ≡ into ∷ [] → (other == node) ≡ false → (into == edge) ≡ false
      into_differs other into at apart =
          let absent : has edge (plan.ins other) ≡ false = not_taken node other edge there apart in
          sym_eq (sees (edge == into) refl absent)
        where
          sees : (here : Bool) → (edge == into) ≡ here → has edge (plan.ins other) ≡ false → (edge == into) ≡ false
          sees here same absent = differs edge into (plan.ins other) (only_has into (plan.ins other) at) absent

          sym_eq : (edge == into) ≡ false → (into == edge) ≡ false
          sym_eq apart = by_test (into == edge) refl
            where
              by_test : (test : Bool) → (into == edge) ≡ test → test ≡ false
              by_test true back = absurd (true≢false (sym (ap (λ (it : ℕ). it == into) (sym (eqb-true into edge back)) ∙ eq-eqb into into refl) ∙ apart))
              by_test false back = refl

      told : (other into : ℕ) → plan.reads other ≡ true → plan.ins other ≡ into ∷ [] → (here : Bool) → (other == node) ≡ here
          → plan.left other ≡ bytes_then (text_of (add edge last reached.put into)) (left' other)
      told other into other_reads at true same =
          let at_node : other ≡ node = eqb-true other node same in
          let into_is : into ≡ edge = first_is (sym at ∙ ap plan.ins at_node ∙ is) in
          reached.read other into other_reads at
          ∙ ap (bytes_then (text_of (reached.put into))) (ap left at_node ∙ came.bytes ∙ ap (λ (it : ℕ). bytes_then (text_of (last ∷ [])) (left' it)) (sym at_node))
          ∙ bytes_then-append (left' other) (text_of (reached.put into)) (text_of (last ∷ []))
          ∙ ap (λ (text : List ℕ). bytes_then text (left' other)) (sym (text_of-append (reached.put into) (last ∷ [])))
          ∙ ap (λ (here : Bool). bytes_then (text_of (if here then reached.put into ++ last ∷ [] else reached.put into)) (left' other)) (sym (same_edge into_is))
        where
          first_is : into ∷ [] ≡ edge ∷ [] → into ≡ edge
          first_is same = cc

          same_edge : into ≡ edge → (into == edge) ≡ true
          same_edge same = eq-eqb into edge same
      told other into other_reads at false apart =
          reached.read other into other_reads at
          ∙ ap (bytes_then (text_of (reached.put into))) (sym (came.elsewhere other apart))
          ∙ ap (λ (here : Bool). bytes_then (text_of (if here then reached.put into ++ last ∷ [] else reached.put into)) (left' other)) (sym (into_differs other into at apart))

      over : (other into : ℕ) → plan.reads other ≡ true → plan.ins other ≡ into ∷ [] → has_end (add edge last reached.put into) ≡ true
          → (here : Bool) → (other == node) ≡ here → IsEnded (left' other)
      over other into other_reads at ends true same =
          let at_node : other ≡ node = eqb-true other node same in
          let into_is : into ≡ edge = first_is (sym at ∙ ap plan.ins at_node ∙ is) in
          let here : (into == edge) ≡ true = same_edge into_is in
          let ends_here : has_end (reached.put into ++ last ∷ []) ≡ true =
          ap (λ (test : Bool). has_end (if test then reached.put into ++ last ∷ [] else reached.put into)) (sym here) ∙ ends in
          let none : has_end (reached.put into) ≡ false = ap (λ (it : ℕ). has_end (reached.put it)) into_is ∙ end_closes (reached.put edge) unclosed in
          subst (λ (it : ℕ). IsEnded (left' it)) (sym at_node) (came.ended (has_end-last (reached.put into) last none ends_here))
        where
          first_is : into ∷ [] ≡ edge ∷ [] → into ≡ edge
          first_is same = cc

          same_edge : into ≡ edge → (into == edge) ≡ true
          same_edge same = eq-eqb into edge same
      over other into other_reads at ends false apart =
          subst (λ (told : Option (List ℕ)). IsEnded told) (sym (came.elsewhere other apart))
          (reached.ended other into other_reads at
          (ap (λ (test : Bool). has_end (if test then reached.put into ++ last ∷ [] else reached.put into)) (sym (into_differs other into at apart)) ∙ ends))
