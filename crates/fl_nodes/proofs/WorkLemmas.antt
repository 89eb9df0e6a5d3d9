-- How far a node has come behind each of its steps.
use Rattle.std.proofs.Common.{◌≡◌, ℕ, ◌<◌, List, [], ◌∷◌, ◌++◌, Bool, true, false, map, length, Option, Some, None, is_some, refl, ap, sym, subst, ◌∙◌, arith}
use Rattle.std.proofs.lemmas.Bool.{true≢false}
use Rattle.std.proofs.lemmas.List.{length-map}
use Rattle.fl_graph.specs.Machines.{State, closes, is_mark, port_put, port_taken, MayDo}
use Rattle.fl_graph.specs.Runs.{add, are_closed, text_of, Run}
use Rattle.fl_graph.specs.declared.pieces.Act.TheVariants as act
use Rattle.fl_graph.specs.declared.pieces.Piece.{Piece}
use Rattle.fl_relay.specs.declared.edges.EdgeGiver.{EdgeGiver}
use Rattle.fl_relay.specs.declared.edges.EdgeTaker.{EdgeTaker}
use Rattle.fl_relay.specs.Edges.{EdgeId, gives_over, takes_over, put_on, taken_from}
use Rattle.fl_nodes.specs.Ends.{EndState, SameEnd}
use Rattle.fl_nodes.specs.Work.{Fails, Fits, From, Holds, IsHeld, IsUnderWay, Leads, Point, Reached, Received, SamePorts, Sends, at, edge_at, is_fault, side, wanted, width}
use Rattle.fl_nodes.proofs.MachineLemmas.{open_port, put_back, puts_at, run_failed, takes_at}
use Rattle.fl_nodes.proofs.MovedLemmas.{moved-fails, moved-received, moved-sent, wanted-fault, wanted-some}
use Rattle.fl_nodes.proofs.PortLemmas.{edge-known, outside-first, side-add, side-edge, side-outside, side-same}
use Rattle.ps_world.specs.Told.{then_bytes, GrewByPrefix}
use Rattle.ps_world.specs.declared.error.WorldErr.{WorldErr}

-- as many halves as relays
count_of : {Half : Type 0} (name : Half → EdgeId) (halves : List Half) (names : List EdgeId) → map name halves ≡ names → length names ≡ length halves
count_of name halves names same = ap length (sym same) ∙ length-map halves name

-- the edge that is taken from next is there, and nothing has closed it
pub edge-open : (here : Point) (port : ℕ) → IsUnderWay here → here.own.reads ≡ false → here.state.act ≡ act.Take port → MayDo here.state here.state.act
    → (port < length here.takers) × (are_closed (at (map taken_from here.takers) port) ≡ false)
edge-open here port way unread turn may =
    let from = way.from in
    let stands = way.reached.stands in
    let reads : from.own.reads ≡ false = sym stands.moved.same.reads ∙ unread in
    let opened = open_port from.start.takes here.state.takes (side from.own.reads way.reached.outside (map taken_from here.takers)) port stands.run.ins (takes_at here.state port turn may) in
    let edge : edge_at from.own.reads port ≡ Some port = ap (λ (test : Bool). edge_at test port) reads in (
      subst (λ (count : ℕ). port < count) (count_of takes_over here.takers from.takes stands.takes)
          (edge-known from.own.reads port port (length from.takes) edge (way.fits.ins port opened.0)),
      ap are_closed (sym (side-edge from.own.reads way.reached.outside (map taken_from here.takers) port port edge)) ∙ opened.1,
    )

-- a piece was taken from an edge
pub took_edge : (here : Point) (state' : State) (takers' : List EdgeTaker) (failure' : Option WorldErr) (port : ℕ) (last : Piece)
    → here.own.reads ≡ false → here.state.act ≡ act.Take port
    → map takes_over takers' ≡ map takes_over here.takers
    → at (map taken_from takers') ≡ add port last (at (map taken_from here.takers))
    → ((start : State) (taken put : ℕ → List Piece) → Run start here.state taken put (is_some here.failure)
    → Run start state' (add (port_taken here.state.act) last taken) put (is_some failure'))
    → is_fault failure' ≡ is_fault here.failure → (is_some failure' ≡ false → is_some here.failure ≡ false)
    → Leads here (record { state = state'; takers = takers'; givers = here.givers; own = here.own; failure = failure' })
took_edge here state' takers' failure' port last unread turn same grown goes fault some from fits reached =
    let stands = reached.stands in
    let reads : from.own.reads ≡ false = sym stands.moved.same.reads ∙ unread in
    let gave = side from.own.writes reached.outside (map put_on here.givers) in
    let took = side from.own.reads reached.outside (map taken_from here.takers) in
    let edge : edge_at from.own.reads port ≡ Some port = ap (λ (test : Bool). edge_at test port) reads in
    let more : side from.own.reads reached.outside (map taken_from takers') ≡ add (port_taken here.state.act) last took =
    side-add from.own.reads reached.outside (map taken_from here.takers) (map taken_from takers') port port last edge grown
    ∙ ap (λ (it : ℕ). add it last took) (sym (ap port_taken turn)) in record {
      outside = reached.outside;
      stands = record {
        run = subst (λ (taken : ℕ → List Piece). Run from.start state' taken gave (is_some failure')) (sym more) (goes from.start took gave stands.run);
        takes = same ∙ stands.takes;
        gives = stands.gives;
        moved = moved-fails from.own fits.apart here.own here.failure reached.outside stands.moved failure' fault some;
      };
    }

-- a node that reads takes at its first port alone
first_port : (from : From) (port : ℕ) → Fits from → from.own.reads ≡ true → from.start.takes port ≡ true → port ≡ 0
first_port from port fits reads opened =
    let known : port < width from.own.reads (length from.takes) = fits.ins port opened in
    let one : port < width true 0 = subst (λ (test : Bool). port < width test 0) reads (subst (λ (edges : List EdgeId). port < width from.own.reads (length edges)) (fits.alone reads) known) in
    omega (arith, one)

-- a piece was taken from the outside
pub took_outside : (here : Point) (state' : State) (own' : EndState) (failure failure' : Option WorldErr) (port : ℕ) (last : Piece)
    → here.own.reads ≡ true → here.state.act ≡ act.Take port → MayDo here.state here.state.act
    → Received here.own own' here.failure failure last
    → ((start : State) (taken put : ℕ → List Piece) → Run start here.state taken put (is_some failure)
    → Run start state' (add (port_taken here.state.act) last taken) put (is_some failure'))
    → is_fault failure' ≡ is_fault failure → (is_some failure' ≡ false → is_some failure ≡ false)
    → Leads here (record { state = state'; takers = here.takers; givers = here.givers; own = own'; failure = failure' })
took_outside here state' own' failure failure' port last read turn may received goes fault some from fits reached =
    let stands = reached.stands in
    let reads : from.own.reads ≡ true = sym stands.moved.same.reads ∙ read in
    let gave = side from.own.writes reached.outside (map put_on here.givers) in
    let took = side from.own.reads reached.outside (map taken_from here.takers) in
    let outside' : List Piece = reached.outside ++ last ∷ [] in
    let opened = open_port from.start.takes here.state.takes took port stands.run.ins (takes_at here.state port turn may) in
    let first : port ≡ 0 = first_port from port fits reads opened.0 in
    let at_first : side true reached.outside (map taken_from here.takers) ≡ took = ap (λ (test : Bool). side test reached.outside (map taken_from here.takers)) (sym reads) in
    let unclosed : are_closed reached.outside ≡ false =
    ap (λ (it : ℕ → List Piece). are_closed (it 0)) at_first ∙ ap (λ (it : ℕ). are_closed (took it)) (sym first) ∙ opened.1 in
    let more : side from.own.reads outside' (map taken_from here.takers) ≡ add (port_taken here.state.act) last took =
    ap (λ (test : Bool). side test outside' (map taken_from here.takers)) reads
    ∙ side-outside reached.outside (map taken_from here.takers) last
    ∙ ap (add 0 last) at_first
    ∙ ap (λ (it : ℕ). add it last took) (sym (ap port_taken turn ∙ first)) in
    let none : from.own.writes ≡ false = fits.apart reads in
    let moved = moved-received from.own fits.apart here.own here.failure reached.outside stands.moved own' failure last reads unclosed received in
    let before = run_failed from.start here.state took gave (is_some here.failure) (is_some failure) (none_before here own' failure last received) stands.run in record {
      outside = outside';
      stands = record {
        run = subst (λ (put : ℕ → List Piece). Run from.start state' (side from.own.reads outside' (map taken_from here.takers)) put (is_some failure'))
            (side-same from.own.writes reached.outside outside' (map put_on here.givers) none)
            (subst (λ (taken : ℕ → List Piece). Run from.start state' taken gave (is_some failure')) (sym more) (goes from.start took gave before));
        takes = stands.takes;
        gives = stands.gives;
        moved = moved-fails from.own fits.apart own' failure outside' moved failure' fault some;
      };
    }
  where
    none_before : (here : Point) (own' : EndState) (failure : Option WorldErr) (last : Piece) → Received here.own own' here.failure failure last
        → is_some failure ≡ false → is_some here.failure ≡ false
    none_before here own' failure last received none = by_before (is_some here.failure) refl
      where
        by_before : (some : Bool) → is_some here.failure ≡ some → some ≡ false
        by_before true is = sym (ap is_some (received.fails.kept is).0 ∙ is) ∙ none
        by_before false is = refl

module _ (here : Point) (state' : State) (port : ℕ) where
  abbrev behind : Point
  behind = record { state = state'; takers = here.takers; givers = here.givers; own = here.own; failure = here.failure }

  -- the machine put a piece, which isn't on its way yet
  pub drawn : (last : Piece) → here.state.act ≡ act.Put port → MayDo here.state here.state.act
      → ((start : State) (taken put : ℕ → List Piece) (failed : Bool) → Run start here.state taken put failed → Run start state' taken (add (port_put here.state.act) last put) failed)
      → (here.state.numbered_outs (port_put here.state.act) ≡ false → is_mark last ≡ false)
      → (closes last ≡ false → SamePorts here.state state')
      → (from : From) → Fits from → Reached from here → Holds from behind port last
  drawn last turn may goes plain same from fits reached =
      let stands = reached.stands in
      let gave = side from.own.writes reached.outside (map put_on here.givers) in
      let took = side from.own.reads reached.outside (map taken_from here.takers) in
      let opened = open_port from.start.puts here.state.puts gave port stands.run.outs (puts_at here.state port turn may) in record {
        outside = reached.outside;
        known = fits.outs port opened.0;
        opened = opened.1;
        plain = plain (stands.run.numbered_outs (port_put here.state.act) ∙ fits.plain (port_put here.state.act));
        stands = record {
          run = subst (λ (it : ℕ). Run from.start state' took (add it last gave) (is_some here.failure)) (ap port_put turn) (goes from.start took gave (is_some here.failure) stands.run);
          takes = stands.takes;
          gives = stands.gives;
          moved = stands.moved;
        };
        back = λ still now ports broken. put_back from.start here.state state' now took gave (is_some here.failure) (same still) ports broken stands.run;
      }

  pub held : (last : Piece) → IsUnderWay here → here.state.act ≡ act.Put port → MayDo here.state here.state.act
      → ((start : State) (taken put : ℕ → List Piece) (failed : Bool) → Run start here.state taken put failed → Run start state' taken (add (port_put here.state.act) last put) failed)
      → (here.state.numbered_outs (port_put here.state.act) ≡ false → is_mark last ≡ false)
      → (closes last ≡ false → SamePorts here.state state') → IsHeld behind port last
  held last way turn may goes plain same = record { from = way.from; fits = way.fits; holds = drawn last turn may goes plain same way.from way.fits way.reached }

-- memory was refused to the machine
pub wanted_memory : (here : Point) (state' : State)
    → ((start : State) (taken put : ℕ → List Piece) (failed : Bool) → Run start here.state taken put failed → Run start state' taken put true)
    → (failure' : Option WorldErr) → failure' ≡ wanted here.failure
    → Leads here (record { state = state'; takers = here.takers; givers = here.givers; own = here.own; failure = failure' })
wanted_memory here state' goes failure' is from fits reached =
    subst (λ (it : Option WorldErr). Reached from (record { state = state'; takers = here.takers; givers = here.givers; own = here.own; failure = it })) (sym is) (
    let stands = reached.stands in
    let gave = side from.own.writes reached.outside (map put_on here.givers) in
    let took = side from.own.reads reached.outside (map taken_from here.takers) in record {
      outside = reached.outside;
      stands = record {
        run = subst (λ (test : Bool). Run from.start state' took gave test) (sym (wanted-some here.failure)) (goes from.start took gave (is_some here.failure) stands.run);
        takes = stands.takes;
        gives = stands.gives;
        moved = moved-fails from.own fits.apart here.own here.failure reached.outside stands.moved (wanted here.failure) (wanted-fault here.failure)
            (λ none. absurd (true≢false (sym (wanted-some here.failure) ∙ none)));
      };
    })

-- the edge that is put on next is there, and nothing has closed it
pub giver-open : (here : Point) (port edge : ℕ) (last : Piece) → IsHeld here port last → edge_at here.own.writes port ≡ Some edge
    → (edge < length here.givers) × (are_closed (at (map put_on here.givers) edge) ≡ false)
giver-open here port edge last held is =
    let from = held.from in
    let holds = held.holds in
    let there : edge_at from.own.writes port ≡ Some edge = ap (λ (test : Bool). edge_at test port) (sym holds.stands.moved.same.writes) ∙ is in (
      subst (λ (count : ℕ). edge < count) (count_of gives_over here.givers from.gives holds.stands.gives) (edge-known from.own.writes port edge (length from.gives) there holds.known),
      ap are_closed (sym (side-edge from.own.writes holds.outside (map put_on here.givers) port edge there)) ∙ holds.opened,
    )

-- the piece was put on an edge
pub sent_edge : (here : Point) (givers' : List EdgeGiver) (port edge : ℕ) (last : Piece) → edge_at here.own.writes port ≡ Some edge
    → map gives_over givers' ≡ map gives_over here.givers
    → at (map put_on givers') ≡ add edge last (at (map put_on here.givers))
    → Sends here port last (record { state = here.state; takers = here.takers; givers = givers'; own = here.own; failure = here.failure })
sent_edge here givers' port edge last is same grown from fits holds =
    let stands = holds.stands in
    let took = side from.own.reads holds.outside (map taken_from here.takers) in
    let there : edge_at from.own.writes port ≡ Some edge = ap (λ (test : Bool). edge_at test port) (sym stands.moved.same.writes) ∙ is in record {
      outside = holds.outside;
      stands = record {
        run = subst (λ (put : ℕ → List Piece). Run from.start here.state took put (is_some here.failure))
            (sym (side-add from.own.writes holds.outside (map put_on here.givers) (map put_on givers') port edge last there grown)) stands.run;
        takes = stands.takes;
        gives = same ∙ stands.gives;
        moved = stands.moved;
      };
    }

-- the edge was refused memory, and the machine is broken
pub refused_edge : (here : Point) (state' : State) (givers' : List EdgeGiver) (port : ℕ) (last : Piece) → closes last ≡ false → SamePorts here.state state' → state'.broken ≡ true
    → map gives_over givers' ≡ map gives_over here.givers
    → map put_on givers' ≡ map put_on here.givers
    → (failure' : Option WorldErr) → failure' ≡ wanted here.failure
    → Sends here port last (record { state = state'; takers = here.takers; givers = givers'; own = here.own; failure = failure' })
refused_edge here state' givers' port last still ports broken same none failure' is from fits holds =
    subst (λ (it : Option WorldErr). Reached from (record { state = state'; takers = here.takers; givers = givers'; own = here.own; failure = it })) (sym is) (
    let stands = holds.stands in
    let took = side from.own.reads holds.outside (map taken_from here.takers) in record {
      outside = holds.outside;
      stands = record {
        run = subst (λ (pieces : List (List Piece)). Run from.start state' took (side from.own.writes holds.outside pieces) (is_some (wanted here.failure))) (sym none)
            (subst (λ (test : Bool). Run from.start state' took (side from.own.writes holds.outside (map put_on here.givers)) test) (sym (wanted-some here.failure))
            (holds.back still state' ports broken));
        takes = stands.takes;
        gives = same ∙ stands.gives;
        moved = moved-fails from.own fits.apart here.own here.failure holds.outside stands.moved (wanted here.failure) (wanted-fault here.failure)
            (λ gone. absurd (true≢false (sym (wanted-some here.failure) ∙ gone)));
      };
    })

-- the piece went to the outside, or a front of it, or was let go
pub sent_outside : (here : Point) (state' : State) (own' : EndState) (failure' : Option WorldErr) (port : ℕ) (last : Piece) → edge_at here.own.writes port ≡ None
    → ((start : State) (taken put : ℕ → List Piece) → Run start here.state taken put (is_some here.failure) → Run start state' taken put (is_some failure'))
    → SameEnd here.own own' → Fails here.failure failure' here.own.faults own'.faults
    → (is_some failure' ≡ false → own'.taken ≡ then_bytes here.own.taken (text_of (last ∷ [])))
    → (is_some here.failure ≡ false → GrewByPrefix here.own.taken own'.taken (text_of (last ∷ [])))
    → (is_some here.failure ≡ true → own'.taken ≡ here.own.taken)
    → Sends here port last (record { state = state'; takers = here.takers; givers = here.givers; own = own'; failure = failure' })
sent_outside here state' own' failure' port last is goes same fails ok part kept from fits holds =
    let stands = holds.stands in
    let outside' : List Piece = holds.outside ++ last ∷ [] in
    let took = side from.own.reads holds.outside (map taken_from here.takers) in
    let gave = side from.own.writes holds.outside (map put_on here.givers) in
    let there : edge_at from.own.writes port ≡ None = ap (λ (test : Bool). edge_at test port) (sym stands.moved.same.writes) ∙ is in
    let first = outside-first from.own.writes port there in
    let unread : from.own.reads ≡ false = by_reads from.own.reads refl fits first.0 in
    let unclosed : are_closed holds.outside ≡ false =
    ap (λ (test : Bool). are_closed (side test holds.outside (map put_on here.givers) 0)) (sym first.0)
    ∙ ap (λ (it : ℕ). are_closed (gave it)) (sym first.1) ∙ holds.opened in
    let more : side from.own.writes outside' (map put_on here.givers) ≡ add port last gave =
    ap (λ (test : Bool). side test outside' (map put_on here.givers)) first.0
    ∙ side-outside holds.outside (map put_on here.givers) last
    ∙ ap (λ (test : Bool). add 0 last (side test holds.outside (map put_on here.givers))) (sym first.0)
    ∙ ap (λ (it : ℕ). add it last gave) (sym first.1) in record {
      outside = outside';
      stands = record {
        run = subst (λ (taken : ℕ → List Piece). Run from.start state' taken (side from.own.writes outside' (map put_on here.givers)) (is_some failure'))
            (side-same from.own.reads holds.outside outside' (map taken_from here.takers) unread)
            (subst (λ (put : ℕ → List Piece). Run from.start state' took put (is_some failure')) (sym more) (goes from.start took (add port last gave) stands.run));
        takes = stands.takes;
        gives = stands.gives;
        moved = moved-sent from.own fits.apart here.own here.failure holds.outside stands.moved own' failure' last first.0 unclosed same fails ok part kept;
      };
    }
  where
    by_reads : {from : From} (reads : Bool) → from.own.reads ≡ reads → Fits from → from.own.writes ≡ true → from.own.reads ≡ false
    by_reads true is fits writes = absurd (true≢false (sym writes ∙ fits.apart is))
    by_reads false is fits writes = is

-- two ways, one behind the other
pub leads-then : (here there last : Point) → Leads here there → Leads there last → Leads here last
leads-then here there last first second from fits reached = second from fits (first from fits reached)

pub way-then : (here there : Point) → IsUnderWay here → Leads here there → IsUnderWay there
way-then here there way leads = record { from = way.from; fits = way.fits; reached = leads way.from way.fits way.reached }
