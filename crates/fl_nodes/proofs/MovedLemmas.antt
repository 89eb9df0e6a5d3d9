-- What a node's end gave and took, behind each of its calls.
use Rattle.std.proofs.Common.{◌≡◌, ℕ, ◌≤◌, List, [], ◌∷◌, ◌++◌, Bool, true, false, ◌||◌, Option, Some, None, is_some, refl, ap, sym, subst, ◌∙◌, append-nil, arith, Err}
use Rattle.std.proofs.lemmas.Bool.{true≢false}
use Rattle.fl_graph.specs.Machines.{is_broken}
use Rattle.fl_graph.specs.Runs.{are_closed, has_broken, has_end, is_end, text_of}
use Rattle.fl_graph.specs.declared.pieces.Piece.{Piece}
use Rattle.fl_graph.specs.declared.pieces.Piece.TheVariants as piece
use Rattle.fl_graph.proofs.RunLemmas.{has_end-more}
use Rattle.fl_graph.proofs.PieceLemmas.{is_clean-add}
use Rattle.fl_nodes.specs.Ends.{EndState, SameEnd}
use Rattle.fl_nodes.specs.Work.{Fails, Moved, Received, is_fault, wanted}
use Rattle.fl_nodes.proofs.MachineLemmas.{end_closes, text_of-more}
use Rattle.ps_world.specs.Counts.{Counts, Rose}
use Rattle.ps_world.specs.Told.{bytes_then, then_bytes, GrewByPrefix, IsEnded}
use Rattle.ps_world.specs.declared.error.WorldErr.{WorldErr}
use Rattle.ps_world.specs.declared.error.WorldErr.TheVariants as error
use Rattle.ps_world.proofs.ToldLemmas.{bytes_then-append, grew_by_front, grew_by_more, grew_by_nothing, then_bytes-append, then_bytes-nil, bytes_then-nil}

-- a Broken is among pieces where one was or the last is
has_broken-more : (pieces : List Piece) (last : Piece) → has_broken (pieces ++ last ∷ []) ≡ (has_broken pieces || is_broken last)
has_broken-more [] last = or-none (is_broken last)
  where
    or-none : (test : Bool) → (test || false) ≡ test
    or-none true = refl
    or-none false = refl
has_broken-more (first ∷ pieces) last = ap (λ (rest : Bool). is_broken first || rest) (has_broken-more pieces last) ∙ regrouped (is_broken first)
  where
    regrouped : (test : Bool) → (test || (has_broken pieces || is_broken last)) ≡ ((test || has_broken pieces) || is_broken last)
    regrouped true = refl
    regrouped false = refl

-- a node that hasn't failed has no end that failed
pub none-no_fault : (failure : Option WorldErr) → is_some failure ≡ false → is_fault failure ≡ false
none-no_fault None none = refl
none-no_fault (Some why) none = absurd (true≢false none)

-- want of memory is no fault, and a failure
pub wanted-fault : (failure : Option WorldErr) → is_fault (wanted failure) ≡ is_fault failure
wanted-fault None = refl
wanted-fault (Some error.Failed) = refl
wanted-fault (Some error.Memory) = refl

pub wanted-some : (failure : Option WorldErr) → is_some (wanted failure) ≡ true
wanted-some None = refl
wanted-some (Some why) = refl

-- a failure and a count that nothing has changed
pub fails-kept : (failure : Option WorldErr) (count : ℕ) → is_some failure ≡ true → Fails failure failure count count
fails-kept failure count some = record { kept = λ is. (refl, refl); fault = λ none. absurd (true≢false (sym some ∙ none)); calm = λ calm. refl; later = omega arith }

-- a call that went well
pub fails-calm : (failure : Option WorldErr) (was now : ℕ) → is_some failure ≡ false → now ≡ was → Fails failure failure was now
fails-calm failure was now none same = record {
  kept = λ some. absurd (true≢false (sym some ∙ none));
  fault = λ before failed. absurd (true≢false (sym failed ∙ none-no_fault failure none));
  calm = λ calm. same;
  later = omega (arith, same);
}

-- one that failed
pub fails-now : {Value : Type 0} (failure : Option WorldErr) (why : WorldErr) (was now : ℕ) → is_some failure ≡ false → Counts {T = Value} was now (Err why) → Fails failure (Some why) was now
fails-now failure error.Failed was now none counts = record {
  kept = λ some. absurd (true≢false (sym some ∙ none));
  fault = λ before failed. counts.failed refl;
  calm = λ calm. absurd (true≢false calm);
  later = counts.later;
}
fails-now failure error.Memory was now none counts = record {
  kept = λ some. absurd (true≢false (sym some ∙ none));
  fault = λ before failed. absurd (true≢false (sym failed));
  calm = λ calm. counts.memory refl;
  later = counts.later;
}

-- Broken stands for a piece that isn't read, since the node has failed before
pub received-before : (was : EndState) (failure : Option WorldErr) → is_some failure ≡ true → Received was was failure failure piece.Broken
received-before was failure some = record {
  same = record { role = refl; reads = refl; writes = refl };
  read = λ none. absurd (true≢false (sym some ∙ none));
  ended = λ none. absurd (true≢false (sym some ∙ none));
  whole = λ none. absurd (true≢false (sym some ∙ none));
  broken = λ is. refl;
  fails = fails-kept failure was.faults some;
}

-- a piece was read
pub received-now : (was now : EndState) (failure : Option WorldErr) (last : Piece) → is_some failure ≡ false → SameEnd was now
    → was.left ≡ bytes_then (text_of (last ∷ [])) now.left → (is_end last ≡ true → IsEnded now.left) → is_broken last ≡ false → now.faults ≡ was.faults → Received was now failure None last
received-now was now failure last none same read ended whole calm = record {
  same = same;
  read = λ fine. read;
  ended = λ fine. ended;
  whole = λ fine. whole;
  broken = λ never. absurd (true≢false (sym never));
  fails = record {
    kept = λ some. absurd (true≢false (sym some ∙ none));
    fault = λ before failed. absurd (true≢false (sym failed));
    calm = λ fine. calm;
    later = omega (arith, calm);
  };
}

-- the end failed, or memory was refused
pub received-failed : {Value : Type 0} (was now : EndState) (failure : Option WorldErr) (why : WorldErr) → is_some failure ≡ false → SameEnd was now
    → Counts {T = Value} was.faults now.faults (Err why) → Received was now failure (Some why) piece.Broken
received-failed was now failure why none same counts = record {
  same = same;
  read = λ never. absurd (true≢false never);
  ended = λ never. absurd (true≢false never);
  whole = λ never. absurd (true≢false never);
  broken = λ is. refl;
  fails = fails-now failure why was.faults now.faults none counts;
}

-- it isn't read any more, since another node has failed, and the node fails as one that is refused memory
pub received-broken_off : (was : EndState) (failure : Option WorldErr) → is_some failure ≡ false → Received was was failure (Some error.Memory) piece.Broken
received-broken_off was failure none = record {
  same = record { role = refl; reads = refl; writes = refl };
  read = λ never. absurd (true≢false never);
  ended = λ never. absurd (true≢false never);
  whole = λ never. absurd (true≢false never);
  broken = λ is. refl;
  fails = record {
    kept = λ some. absurd (true≢false (sym some ∙ none));
    fault = λ before failed. absurd (true≢false (sym failed));
    calm = λ calm. refl;
    later = omega arith;
  };
}

pub same_end : (from was now : EndState) → SameEnd from was → SameEnd was now → SameEnd from now
same_end from was now first second =
    record { role = second.role ∙ first.role; reads = second.reads ∙ first.reads; writes = second.writes ∙ first.writes }

module _ (from : EndState) (apart : from.reads ≡ true → from.writes ≡ false) where
  never-both : {P : Type 0} → from.reads ≡ true → from.writes ≡ true → P
  never-both reads writes = absurd (true≢false (sym writes ∙ apart reads))

  -- nothing has gone over the outside yet
  pub moved-start : Moved from from None []
  moved-start = record {
    same = record { role = refl; reads = refl; writes = refl };
    clean = refl;
    rest = from.left;
    read = λ reads. sym (bytes_then-nil from.left);
    ended = λ reads never. absurd (true≢false (sym never));
    unread = λ reads none. refl;
    sound = λ reads none. refl;
    written = λ writes none. sym (then_bytes-nil from.taken);
    front = λ writes. grew_by_nothing from.taken [];
    rose = λ never. absurd (true≢false (sym never));
    calm = λ none. refl;
    later = omega arith;
  }

  module _ (was : EndState) (failure : Option WorldErr) (outside : List Piece) (moved : Moved from was failure outside) where
    -- a failure that is none of the end's
    pub moved-fails : (failure' : Option WorldErr) → is_fault failure' ≡ is_fault failure → (is_some failure' ≡ false → is_some failure ≡ false) → Moved from was failure' outside
    moved-fails failure' fault some = record {
      same = moved.same;
      clean = moved.clean;
      rest = moved.rest;
      read = moved.read;
      ended = moved.ended;
      unread = λ reads none. moved.unread reads (some none);
      sound = λ reads none. moved.sound reads (some none);
      written = λ writes none. moved.written writes (some none);
      front = moved.front;
      rose = λ failed. moved.rose (sym fault ∙ failed);
      calm = λ calm. moved.calm (sym fault ∙ calm);
      later = moved.later;
    }

    -- the counts behind a call
    module _ (now : EndState) (failure' : Option WorldErr) (fails : Fails failure failure' was.faults now.faults) where
      rose-then : is_fault failure' ≡ true → Rose from.faults now.faults
      rose-then failed = by_before (is_some failure) refl
        where
          by_before : (some : Bool) → is_some failure ≡ some → Rose from.faults now.faults
          by_before true is =
              let kept = fails.kept is in
              subst (Rose from.faults) (sym kept.1) (moved.rose (ap is_fault (sym kept.0) ∙ failed))
          by_before false is = subst (λ (count : ℕ). Rose count now.faults) (moved.calm (none-no_fault failure is)) (fails.fault is failed)

      calm-then : is_fault failure' ≡ false → now.faults ≡ from.faults
      calm-then calm = fails.calm calm ∙ moved.calm (by_before (is_some failure) refl)
        where
          by_before : (some : Bool) → is_some failure ≡ some → is_fault failure ≡ false
          by_before true is = ap is_fault (sym (fails.kept is).0) ∙ calm
          by_before false is = none-no_fault failure is

      later-then : from.faults ≤ now.faults
      later-then = let first = moved.later in let second = fails.later in omega (arith, first, second)

      -- one that fails now had not failed, or has failed before
      pub none-before : is_some failure' ≡ false → is_some failure ≡ false
      none-before none = by_before (is_some failure) refl
        where
          by_before : (some : Bool) → is_some failure ≡ some → some ≡ false
          by_before true is = sym (ap is_some (fails.kept is).0 ∙ is) ∙ none
          by_before false is = refl

    -- a piece came, or Broken in its place
    pub moved-received : (now : EndState) (failure' : Option WorldErr) (last : Piece) → from.reads ≡ true → are_closed outside ≡ false → Received was now failure failure' last
        → Moved from now failure' (outside ++ last ∷ [])
    moved-received now failure' last reads unclosed received = by_failure (is_some failure') refl
      where
        text : text_of (outside ++ last ∷ []) ≡ text_of outside ++ text_of (last ∷ [])
        text = text_of-more outside last

        ends : has_end (outside ++ last ∷ []) ≡ is_end last
        ends = has_end-more outside last ∙ ap (λ (test : Bool). test || is_end last) (end_closes outside unclosed)

        by_failure : (some : Bool) → is_some failure' ≡ some → Moved from now failure' (outside ++ last ∷ [])
        by_failure true is = record {
          same = same_end from was now moved.same received.same;
          clean = is_clean-add outside last unclosed;
          rest = moved.rest;
          read = λ reads.
              moved.read reads
              ∙ ap (λ (bytes : List ℕ). bytes_then bytes moved.rest) (sym (text ∙ ap (λ (it : Piece). text_of outside ++ text_of (it ∷ [])) (received.broken is) ∙ append-nil (text_of outside)));
          ended = λ reads ended. absurd (true≢false (sym ended ∙ ends ∙ ap is_end (received.broken is)));
          unread = λ reads none. absurd (true≢false (sym is ∙ none));
          sound = λ reads none. absurd (true≢false (sym is ∙ none));
          written = λ writes none. never-both reads writes;
          front = λ writes. never-both reads writes;
          rose = rose-then now failure' received.fails;
          calm = calm-then now failure' received.fails;
          later = later-then now failure' received.fails;
        }
        by_failure false is = record {
          same = same_end from was now moved.same received.same;
          clean = is_clean-add outside last unclosed;
          rest = now.left;
          read = λ reads.
              moved.read reads
              ∙ ap (bytes_then (text_of outside)) (sym (moved.unread reads (none-before now failure' received.fails is)) ∙ received.read is)
              ∙ bytes_then-append now.left (text_of outside) (text_of (last ∷ []))
              ∙ ap (λ (bytes : List ℕ). bytes_then bytes now.left) (sym text);
          ended = λ reads ended. received.ended is (sym ends ∙ ended);
          unread = λ reads none. refl;
          sound = λ reads none.
              has_broken-more outside last
              ∙ ap (λ (test : Bool). test || is_broken last) (moved.sound reads (none-before now failure' received.fails is))
              ∙ received.whole is;
          written = λ writes none. never-both reads writes;
          front = λ writes. never-both reads writes;
          rose = rose-then now failure' received.fails;
          calm = calm-then now failure' received.fails;
          later = later-then now failure' received.fails;
        }

    -- a piece went, or a front of it, or none where the node has failed before
    pub moved-sent : (now : EndState) (failure' : Option WorldErr) (last : Piece) → from.writes ≡ true → are_closed outside ≡ false → SameEnd was now → Fails failure failure' was.faults now.faults
        → (is_some failure' ≡ false → now.taken ≡ then_bytes was.taken (text_of (last ∷ [])))
        → (is_some failure ≡ false → GrewByPrefix was.taken now.taken (text_of (last ∷ [])))
        → (is_some failure ≡ true → now.taken ≡ was.taken)
        → Moved from now failure' (outside ++ last ∷ [])
    moved-sent now failure' last writes unclosed same fails ok part kept = record {
      same = same_end from was now moved.same same;
      clean = is_clean-add outside last unclosed;
      rest = None;
      read = λ reads. never-both reads writes;
      ended = λ reads ended. never-both reads writes;
      unread = λ reads none. never-both reads writes;
      sound = λ reads none. never-both reads writes;
      written = λ writes none.
          ok none
          ∙ ap (λ (told : Option (List ℕ)). then_bytes told (text_of (last ∷ []))) (moved.written writes (none-before now failure' fails none))
          ∙ then_bytes-append from.taken (text_of outside) (text_of (last ∷ []))
          ∙ ap (then_bytes from.taken) (sym (text_of-more outside last));
      front = λ writes. subst (GrewByPrefix from.taken now.taken) (sym (text_of-more outside last)) (by_before (is_some failure) refl writes);
      rose = rose-then now failure' fails;
      calm = calm-then now failure' fails;
      later = later-then now failure' fails;
    }
      where
        by_before : (some : Bool) → is_some failure ≡ some → from.writes ≡ true → GrewByPrefix from.taken now.taken (text_of outside ++ text_of (last ∷ []))
        by_before true is writes =
            subst (λ (told : Option (List ℕ)). GrewByPrefix from.taken told (text_of outside ++ text_of (last ∷ []))) (sym (kept is))
            (grew_by_front from.taken was.taken (text_of outside) (text_of (last ∷ [])) (moved.front writes))
        by_before false is writes = grew_by_more from.taken was.taken now.taken (text_of outside) (text_of (last ∷ [])) (moved.written writes is) (part is)
