-- A machine's run as one fact, kept by each step, and what it comes to at the stop.
use Rattle.std.proofs.Common.{◌≡◌, ℕ, ◌==◌, eq-eqb, List, [], ◌∷◌, ◌++◌, Bool, true, false, not, ◌&&◌, ◌||◌, if◌then◌else◌, refl, ap, sym, subst, ◌∙◌, Result, Ok, Err, OnOk, OnErr, IfOk, MatchResult}
use Rattle.std.proofs.lemmas.Bool.{and_parts, or_parts, true≢false}
use Rattle.fl_graph.specs.Machines.{State, closes, comes, is_broken, is_mark, is_put, port_put, port_taken, shut_by, DidPut, MayDo}
use Rattle.fl_graph.specs.declared.pieces.Act.{Act}
use Rattle.fl_graph.specs.declared.pieces.Act.TheVariants as act
use Rattle.fl_graph.specs.Runs.{has_end, has_broken, add, Ran, are_closed, StayOpen, Run, Stopped}
use Rattle.fl_graph.specs.declared.pieces.Piece.{Piece}
use Rattle.fl_graph.specs.declared.pieces.Piece.TheVariants as piece
use Rattle.fl_graph.proofs.ListLemmas.{and-true}
use Rattle.fl_graph.proofs.RunLemmas.{Ran-start, Ran-take, Ran-put, Ran-broken, Selects-take}

-- pieces are closed where they were or the last closes them
are_closed-more : (pieces : List Piece) (last : Piece) → are_closed (pieces ++ last ∷ []) ≡ (are_closed pieces || closes last)
are_closed-more [] last = or-none (closes last)
  where
    or-none : (test : Bool) → (test || false) ≡ test
    or-none true = refl
    or-none false = refl
are_closed-more (first ∷ pieces) last = ap (λ (rest : Bool). closes first || rest) (are_closed-more pieces last) ∙ regrouped (closes first)
  where
    regrouped : (test : Bool) → (test || (are_closed pieces || closes last)) ≡ ((test || are_closed pieces) || closes last)
    regrouped true = refl
    regrouped false = refl

-- an end closes
end_closes : (pieces : List Piece) → are_closed pieces ≡ false → has_end pieces ≡ false
end_closes [] unclosed = refl
end_closes (piece.Bytes bytes ∷ pieces) unclosed = end_closes pieces unclosed
end_closes (piece.Mark ∷ pieces) unclosed = end_closes pieces unclosed
end_closes (piece.End ∷ pieces) unclosed = absurd (true≢false unclosed)
end_closes (piece.Broken ∷ pieces) unclosed = absurd (true≢false unclosed)

-- a port is shut by the piece that closes it
shut_table : (closing here opened closed : Bool)
    → (if closing then (if here then false else (opened && not closed)) else (opened && not closed)) ≡ (opened && not (if here then closed || closing else closed))
shut_table true true true true = refl
shut_table true true true false = refl
shut_table true true false closed = refl
shut_table true false opened closed = refl
shut_table false true opened true = refl
shut_table false true opened false = refl
shut_table false false opened closed = refl

stays_shut : (start now new : ℕ → Bool) (pieces : ℕ → List Piece) (port : ℕ) (last : Piece) → StayOpen start now pieces
    → ((other : ℕ) → new other ≡ shut_by (closes last) port now other) → StayOpen start new (add port last pieces)
stays_shut start now new pieces port last stay is other =
    is other
    ∙ ap (λ (opened : Bool). if closes last then (if other == port then false else opened) else opened) (stay other)
    ∙ shut_table (closes last) (other == port) (start other) (are_closed (pieces other))
    ∙ ap (λ (closed : Bool). start other && not closed) (choice (other == port))
  where
    choice : (here : Bool) → (if here then are_closed (pieces other) || closes last else are_closed (pieces other)) ≡ are_closed (if here then pieces other ++ last ∷ [] else pieces other)
    choice true = sym (are_closed-more (pieces other) last)
    choice false = refl

stays_same : (start now new : ℕ → Bool) (pieces : ℕ → List Piece) → StayOpen start now pieces → ((other : ℕ) → new other ≡ now other) → StayOpen start new pieces
stays_same start now new pieces stay same other = same other ∙ stay other

-- a Broken is among pieces where one was or the last is
has_broken-more : (pieces : List Piece) (last : Piece) → has_broken (pieces ++ last ∷ []) ≡ (has_broken pieces || is_broken last)
has_broken-more [] last = or-none (is_broken last)
  where
    or-none : (test : Bool) → (test || false) ≡ test
    or-none true = refl
    or-none false = refl
has_broken-more (first ∷ pieces) last = ap (λ (rest : Bool). is_broken first || rest) (has_broken-more pieces last) ∙ regrouped (is_broken first)
  where
    regrouped : (test : Bool) → (test || (has_broken pieces || is_broken last)) ≡ ((test || has_broken pieces) || is_broken last)
    regrouped true = refl
    regrouped false = refl

-- at all ports none is broken where none was and this one isn't
pub none_broken : (pieces : ℕ → List Piece) (port : ℕ) (last : Piece) → ((other : ℕ) → has_broken (pieces other) ≡ false) → is_broken last ≡ false → (other : ℕ)
    → has_broken (add port last pieces other) ≡ false
none_broken pieces port last none unbroken other = choice (other == port)
  where
    choice : (here : Bool) → has_broken (if here then pieces other ++ last ∷ [] else pieces other) ≡ false
    choice true = has_broken-more (pieces other) last ∙ ap (λ (test : Bool). test || is_broken last) (none other) ∙ unbroken
    choice false = none other

-- and where none is, none was
none_before : (pieces : ℕ → List Piece) (port : ℕ) (last : Piece) → ((other : ℕ) → has_broken (add port last pieces other) ≡ false) → (other : ℕ) → has_broken (pieces other) ≡ false
none_before pieces port last none other = choice (other == port) (none other)
  where
    choice : (here : Bool) → has_broken (if here then pieces other ++ last ∷ [] else pieces other) ≡ false → has_broken (pieces other) ≡ false
    choice true is = (or_parts (has_broken (pieces other)) (is_broken last) (sym (has_broken-more (pieces other) last) ∙ is)).0
    choice false is = is

not_last : (pieces : ℕ → List Piece) (port : ℕ) (last : Piece) → ((other : ℕ) → has_broken (add port last pieces other) ≡ false) → is_broken last ≡ false
not_last pieces port last none = at_port (port == port) (eq-eqb port port refl) (none port)
  where
    at_port : (here : Bool) → here ≡ true → has_broken (if here then pieces port ++ last ∷ [] else pieces port) ≡ false → is_broken last ≡ false
    at_port true same is = (or_parts (has_broken (pieces port)) (is_broken last) (sym (has_broken-more (pieces port) last) ∙ is)).1
    at_port false same is = absurd (true≢false (sym same))

-- a machine at its start
pub Run-start : (start : State) → start.broken ≡ false → Run start start (λ _. []) (λ _. []) false
Run-start start whole = record {
  texts = subst (λ (broken : Bool). Ran start.due start.due (λ _. []) (λ _. []) broken) (sym whole) (Ran-start start.due);
  selection = λ fine rest. refl;
  ins = λ port. sym (and-true (start.takes port));
  outs = λ port. sym (and-true (start.puts port));
  honest = λ fine port. refl;
  caused = λ unfailed none. whole;
  spread = λ fine port. refl;
  numbered_ins = λ port. refl;
  numbered_outs = λ port. refl;
}

-- a machine at any point, that may have failed before
pub Run-begin : (start : State) → Run start start (λ _. []) (λ _. []) true
Run-begin start = record {
  texts = record { front = λ rest port. refl; whole = λ fine rest port. refl; ended = λ port is_ended rest. absurd (true≢false (sym is_ended)) };
  selection = λ fine rest. refl;
  ins = λ port. sym (and-true (start.takes port));
  outs = λ port. sym (and-true (start.puts port));
  honest = λ fine port. refl;
  caused = λ unfailed. absurd (true≢false unfailed);
  spread = λ fine port. refl;
  numbered_ins = λ port. refl;
  numbered_outs = λ port. refl;
}

-- a piece is taken, as `take` ensures it
pub record Takes (was now : State) (port : ℕ) (last : Piece) (refused : Bool) : Type 0 where
  pub takes : (other : ℕ) → now.takes other ≡ shut_by (closes last) port was.takes other
  pub puts : (other : ℕ) → now.puts other ≡ was.puts other
  pub numbered_ins : (other : ℕ) → now.numbered_ins other ≡ was.numbered_ins other
  pub numbered_outs : (other : ℕ) → now.numbered_outs other ≡ was.numbered_outs other
  pub due : now.broken ≡ false → (values : ℕ → List ℕ) (other : ℕ) → now.due values other ≡ was.due (comes port last values) other
  pub selects : now.broken ≡ false → (values : ℕ → List ℕ) → now.selects values ≡ was.selects (comes port last values)
  pub broken : now.broken ≡ (was.broken || (is_broken last || refused))

-- a piece is put, as `put` ensures it
pub record Puts (was now : State) (port : ℕ) (last : Piece) : Type 0 where
  pub opened : was.puts port ≡ true
  pub takes : (other : ℕ) → now.takes other ≡ was.takes other
  pub puts : (other : ℕ) → now.puts other ≡ shut_by (closes last) port was.puts other
  pub numbered_ins : (other : ℕ) → now.numbered_ins other ≡ was.numbered_ins other
  pub numbered_outs : (other : ℕ) → now.numbered_outs other ≡ was.numbered_outs other
  pub did : DidPut was now port last
  pub selects : (values : ℕ → List ℕ) → now.selects values ≡ was.selects values
  pub broken : now.broken ≡ was.broken

-- the machine breaks off
pub record Breaks (was now : State) : Type 0 where
  pub takes : (other : ℕ) → now.takes other ≡ was.takes other
  pub puts : (other : ℕ) → now.puts other ≡ was.puts other
  pub numbered_ins : (other : ℕ) → now.numbered_ins other ≡ was.numbered_ins other
  pub numbered_outs : (other : ℕ) → now.numbered_outs other ≡ was.numbered_outs other
  pub broken : now.broken ≡ true

-- a machine that isn't broken puts no Broken
puts_no_break : (was now : State) (port : ℕ) (last : Piece) → DidPut was now port last → was.broken ≡ false → is_broken last ≡ false
puts_no_break was now port (piece.Bytes bytes) did fine = refl
puts_no_break was now port piece.Mark did fine = refl
puts_no_break was now port piece.End did fine = refl
puts_no_break was now port piece.Broken did fine = absurd (true≢false (sym did ∙ fine))

denied : (test : Bool) → not test ≡ true → test ≡ false
denied true passes = sym passes
denied false passes = refl

affirmed : (test : Bool) → not test ≡ false → test ≡ true
affirmed true passes = refl
affirmed false passes = sym passes

-- where one of two tests fails, and the other, none of the three parts holds
none_of : (was last failed now : Bool) → now ≡ (was || (last || failed)) → now ≡ false → (was ≡ false) × (last ≡ false) × (failed ≡ false)
none_of was last failed now is fine =
    let parts = or_parts was (last || failed) (sym is ∙ fine) in
    let rest = or_parts last failed parts.1 in
    (parts.0, rest.0, rest.1)

module _ (start was now : State) (taken put : ℕ → List Piece) (failed : Bool) (run : Run start was taken put failed) where
  -- where memory is refused, the run may have failed from then on
  pub Run-take : (port : ℕ) (last : Piece) (refused : Bool) → Takes was now port last refused → Run start now (add port last taken) put (if refused then true else failed)
  Run-take port last refused step = record {
    texts = Ran-take start.due was now taken put port last run.texts still step.due;
    selection = Selects-take start.selects was.selects now.selects taken was.broken now.broken port last run.selection still step.selects;
    ins = stays_shut start.takes was.takes now.takes taken port last run.ins step.takes;
    outs = stays_same start.puts was.puts now.puts put run.outs step.puts;
    honest = λ fine. run.honest (still fine);
    caused = λ unfailed none. by_cause refused refl unfailed none;
    spread = λ fine.
        let parts = none_of was.broken (is_broken last) refused now.broken step.broken fine in
        none_broken taken port last (run.spread parts.0) parts.1;
    numbered_ins = λ other. step.numbered_ins other ∙ run.numbered_ins other;
    numbered_outs = λ other. step.numbered_outs other ∙ run.numbered_outs other;
  }
    where
      still : now.broken ≡ false → was.broken ≡ false
      still fine = (none_of was.broken (is_broken last) refused now.broken step.broken fine).0

      by_cause : (denied : Bool) → refused ≡ denied → (if denied then true else failed) ≡ false → ((other : ℕ) → has_broken (add port last taken other) ≡ false) → now.broken ≡ false
      by_cause true is unfailed none = absurd (true≢false unfailed)
      by_cause false is unfailed none =
          step.broken ∙ ap (λ (test : Bool). test || (is_broken last || refused)) (run.caused unfailed (none_before taken port last none))
          ∙ ap (λ (test : Bool). test || refused) (not_last taken port last none) ∙ is

  pub Run-put : (port : ℕ) (last : Piece) → Puts was now port last → Run start now taken (add port last put) failed
  Run-put port last step =
      let unclosed : are_closed (put port) ≡ false = denied (are_closed (put port)) (and_parts (start.puts port) (not (are_closed (put port))) (sym (run.outs port) ∙ step.opened)).1 in
      let ran = Ran-put start.due was now taken put port run.texts (end_closes (put port) unclosed) last step.did in
      record {
        texts = subst (λ (broken : Bool). Ran start.due now.due taken (add port last put) broken) (sym step.broken) ran;
        selection = λ fine rest. run.selection (sym step.broken ∙ fine) rest ∙ sym (step.selects rest);
        ins = stays_same start.takes was.takes now.takes taken run.ins step.takes;
        outs = stays_shut start.puts was.puts now.puts put port last run.outs step.puts;
        honest = λ fine. none_broken put port last (run.honest (sym step.broken ∙ fine)) (puts_no_break was now port last step.did (sym step.broken ∙ fine));
        caused = λ unfailed none. step.broken ∙ run.caused unfailed none;
        spread = λ fine. run.spread (sym step.broken ∙ fine);
        numbered_ins = λ other. step.numbered_ins other ∙ run.numbered_ins other;
        numbered_outs = λ other. step.numbered_outs other ∙ run.numbered_outs other;
      }

  -- what may not have failed may have
  pub Run-weaken : Run start was taken put true
  Run-weaken = record {
    texts = run.texts;
    selection = run.selection;
    ins = run.ins;
    outs = run.outs;
    honest = run.honest;
    caused = λ unfailed. absurd (true≢false unfailed);
    spread = run.spread;
    numbered_ins = run.numbered_ins;
    numbered_outs = run.numbered_outs;
  }

  pub Run-broken : Breaks was now → Run start now taken put true
  Run-broken step = record {
    texts = subst (λ (broken : Bool). Ran start.due now.due taken put broken) (sym step.broken) (Ran-broken start.due was now taken put run.texts);
    selection = λ fine. absurd (true≢false (sym step.broken ∙ fine));
    ins = stays_same start.takes was.takes now.takes taken run.ins step.takes;
    outs = stays_same start.puts was.puts now.puts put run.outs step.puts;
    honest = λ fine. absurd (true≢false (sym step.broken ∙ fine));
    caused = λ unfailed. absurd (true≢false unfailed);
    spread = λ fine. absurd (true≢false (sym step.broken ∙ fine));
    numbered_ins = λ other. step.numbered_ins other ∙ run.numbered_ins other;
    numbered_outs = λ other. step.numbered_outs other ∙ run.numbered_outs other;
  }

-- a port that was open and is shut was closed
was_closed : (start now : ℕ → Bool) (pieces : ℕ → List Piece) → StayOpen start now pieces → ((port : ℕ) → now port ≡ false) → (port : ℕ) → start port ≡ true → are_closed (pieces port) ≡ true
was_closed start now pieces stay shut port opened =
    affirmed (are_closed (pieces port)) (ap (λ (was_open : Bool). was_open && not (are_closed (pieces port))) (sym opened) ∙ sym (stay port) ∙ shut port)

-- what is closed and not broken has its end
pub closed_ends : (pieces : List Piece) → are_closed pieces ≡ true → has_broken pieces ≡ false → has_end pieces ≡ true
closed_ends [] closed unbroken = closed
closed_ends (piece.Bytes bytes ∷ pieces) closed unbroken = closed_ends pieces closed unbroken
closed_ends (piece.Mark ∷ pieces) closed unbroken = closed_ends pieces closed unbroken
closed_ends (piece.End ∷ pieces) closed unbroken = refl
closed_ends (piece.Broken ∷ pieces) closed unbroken = absurd (true≢false unbroken)

-- what a machine's stop says of its run
pub Run-shut : (start now : State) (taken put : ℕ → List Piece) (failed : Bool) → Run start now taken put failed
    → ((port : ℕ) → now.takes port ≡ false) → ((port : ℕ) → now.puts port ≡ false) → Stopped start now taken put
Run-shut start now taken put failed run no_ins no_outs =
    let outs = was_closed start.puts now.puts put run.outs no_outs in
    let ended : now.broken ≡ false → (port : ℕ) → start.puts port ≡ true → has_end (put port) ≡ true = λ fine port opened. closed_ends (put port) (outs port opened) (run.honest fine port) in
    record {
      ins = was_closed start.takes now.takes taken run.ins no_ins;
      outs = outs;
      ended = ended;
      texts = λ fine port opened rest. run.texts.ended port (ended fine port opened) rest;
      selection = run.selection;
    }

pub Run-stop : (start now : State) (taken put : ℕ → List Piece) (failed : Bool) → Run start now taken put failed → now.act ≡ act.Stop → MayDo now now.act → Stopped start now taken put
Run-stop start now taken put failed run stop may =
    let shut : MayDo now act.Stop = subst (λ (next : Act). MayDo now next) stop may in Run-shut start now taken put failed run shut.0 shut.1

-- an act that puts is at a port that is open
opened_at : (state : State) (next : Act) → is_put next ≡ true → MayDo state next → state.puts (port_put next) ≡ true
opened_at state (act.Take port) turn may = absurd (true≢false (sym turn))
opened_at state (act.Put port) turn may = may
opened_at state act.Stop turn may = absurd (true≢false (sym turn))

-- a run behind `take`, whatever it answers
module _ {Refused : Type 0} (start was now : State) (taken put : ℕ → List Piece) (failed : Bool) (last : Piece) where
  pub take_run : (result : Result Unit Refused)
      → ((other : ℕ) → now.takes other ≡ shut_by (closes last) (port_taken was.act) was.takes other)
      → ((other : ℕ) → now.puts other ≡ was.puts other)
      → ((other : ℕ) → now.numbered_ins other ≡ was.numbered_ins other)
      → ((other : ℕ) → now.numbered_outs other ≡ was.numbered_outs other)
      → (now.broken ≡ false → (values : ℕ → List ℕ) (other : ℕ) → now.due values other ≡ was.due (comes (port_taken was.act) last values) other)
      → (now.broken ≡ false → (values : ℕ → List ℕ) → now.selects values ≡ was.selects (comes (port_taken was.act) last values))
      → OnOk result (now.broken ≡ (was.broken || is_broken last))
      → OnErr result ((was.broken ≡ false) × (now.broken ≡ true))
      → Run start was taken put failed
      → MatchResult result (λ _. Run start now (add (port_taken was.act) last taken) put failed) (λ _. Run start now (add (port_taken was.act) last taken) put true)
  take_run (Ok done) takes puts numbered_ins numbered_outs due selects broken memory run =
      Run-take start was now taken put failed run (port_taken was.act) last false (record {
        takes = takes;
        puts = puts;
        numbered_ins = numbered_ins;
        numbered_outs = numbered_outs;
        due = due;
        selects = selects;
        broken = broken ∙ ap (λ (test : Bool). was.broken || test) (sym (or-none (is_broken last)));
      })
    where
      or-none : (test : Bool) → (test || false) ≡ test
      or-none true = refl
      or-none false = refl
  take_run (Err refused) takes puts numbered_ins numbered_outs due selects broken memory run =
      Run-take start was now taken put failed run (port_taken was.act) last true (record {
        takes = takes;
        puts = puts;
        numbered_ins = numbered_ins;
        numbered_outs = numbered_outs;
        due = due;
        selects = selects;
        broken = memory.1 ∙ sym (always was.broken (is_broken last));
      })
    where
      always : (one other : Bool) → (one || (other || true)) ≡ true
      always true other = refl
      always false true = refl
      always false false = refl

-- a run behind `put`, whatever it answers
pub put_run : {Refused : Type 0} (start was now : State) (taken put : ℕ → List Piece) (failed : Bool) (result : Result Piece Refused) → is_put was.act ≡ true → MayDo was was.act
    → ((other : ℕ) → now.takes other ≡ was.takes other)
    → IfOk result (λ last. (other : ℕ) → now.puts other ≡ shut_by (closes last) (port_put was.act) was.puts other)
    → ((other : ℕ) → now.numbered_ins other ≡ was.numbered_ins other)
    → ((other : ℕ) → now.numbered_outs other ≡ was.numbered_outs other)
    → IfOk result (λ last. DidPut was now (port_put was.act) last)
    → OnOk result ((values : ℕ → List ℕ) → now.selects values ≡ was.selects values)
    → OnOk result (now.broken ≡ was.broken)
    → OnErr result ((was.broken ≡ false) × (now.broken ≡ true) × ((other : ℕ) → now.puts other ≡ was.puts other))
    → Run start was taken put failed
    → MatchResult result (λ last. Run start now taken (add (port_put was.act) last put) failed) (λ _. Run start now taken put true)
put_run start was now taken put failed (Ok last) turn may takes puts numbered_ins numbered_outs did selects broken memory run =
    Run-put start was now taken put failed run (port_put was.act) last (record {
      opened = opened_at was was.act turn may;
      takes = takes;
      puts = puts;
      numbered_ins = numbered_ins;
      numbered_outs = numbered_outs;
      did = did;
      selects = selects;
      broken = broken;
    })
put_run start was now taken put failed (Err refused) turn may takes puts numbered_ins numbered_outs did selects broken memory run =
    Run-broken start was now taken put failed run (record { takes = takes; puts = memory.2; numbered_ins = numbered_ins; numbered_outs = numbered_outs; broken = memory.1 })

-- what `put` gave carries no mark where its out carries no blocks, and is no break where the machine wasn't broken
pub put_is_plain : {Refused : Type 0} (was now : State) (result : Result Piece Refused) → IfOk result (λ last. DidPut was now (port_put was.act) last)
    → IfOk result (λ last. was.numbered_outs (port_put was.act) ≡ false → is_mark last ≡ false)
put_is_plain was now (Ok (piece.Bytes bytes)) did = λ plain. refl
put_is_plain was now (Ok piece.Mark) did = λ plain. absurd (true≢false (sym did.1 ∙ plain))
put_is_plain was now (Ok piece.End) did = λ plain. refl
put_is_plain was now (Ok piece.Broken) did = λ plain. refl
put_is_plain was now (Err refused) did = tt

pub put_is_sound : {Refused : Type 0} (was now : State) (result : Result Piece Refused) → IfOk result (λ last. DidPut was now (port_put was.act) last)
    → IfOk result (λ last. was.broken ≡ false → is_broken last ≡ false)
put_is_sound was now (Ok last) did = puts_no_break was now (port_put was.act) last did
put_is_sound was now (Err refused) did = tt
