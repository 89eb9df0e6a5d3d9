-- What a machine's run is behind a mark, and behind a piece that went nowhere.
use Rattle.std.proofs.Common.{◌≡◌, ℕ, ◌==◌, List, [], ◌∷◌, ◌++◌, Bool, true, false, not, ◌||◌, if◌then◌else◌, Result, Ok, Err, IfOk, refl, ap, sym, subst, ◌∙◌, append_assoc}
use Rattle.std.proofs.lemmas.Bool.{and_parts, true≢false}
use Rattle.fl_graph.specs.Machines.{State, mark, closes, is_broken, is_mark, shut_by, MayDo}
use Rattle.fl_graph.specs.Runs.{add, are_closed, has_end, text_of, Run, StayOpen}
use Rattle.fl_graph.specs.declared.pieces.Act.TheVariants as act
use Rattle.fl_graph.specs.declared.pieces.Piece.{Piece}
use Rattle.fl_graph.specs.declared.pieces.Piece.TheVariants as piece
use Rattle.fl_graph.proofs.StateLemmas.{Run-take, Run-broken, Run-weaken}
use Rattle.fl_nodes.specs.Work.{SamePorts}

-- a mark that a broken machine isn't handed counts as taken
pub mark_taken : (start now : State) (taken put : ℕ → List Piece) (port : ℕ) (last : Piece) → now.broken ≡ true → closes last ≡ false → Run start now taken put true
    → Run start now (add port last taken) put true
mark_taken start now taken put port last broken unclosed run =
    Run-take start now now taken put true run port last true (record {
      takes = λ other. sym (ap (λ (closing : Bool). if closing then (if other == port then false else now.takes other) else now.takes other) unclosed);
      puts = λ other. refl;
      numbered_ins = λ other. refl;
      numbered_outs = λ other. refl;
      due = λ fine. absurd (true≢false (sym broken ∙ fine));
      selects = λ fine. absurd (true≢false (sym broken ∙ fine));
      broken = broken ∙ sym (always now.broken (is_broken last));
    })
  where
    always : (one other : Bool) → (one || (other || true)) ≡ true
    always true other = refl
    always false true = refl
    always false false = refl

-- a machine that put what closes nothing has the ports that it had
pub same_ports : {Refused : Type 0} (was now : State) (port : ℕ) (result : Result Piece Refused)
    → ((other : ℕ) → now.takes other ≡ was.takes other)
    → IfOk result (λ last. (other : ℕ) → now.puts other ≡ shut_by (closes last) port was.puts other)
    → ((other : ℕ) → now.numbered_ins other ≡ was.numbered_ins other)
    → ((other : ℕ) → now.numbered_outs other ≡ was.numbered_outs other)
    → IfOk result (λ last. closes last ≡ false → SamePorts was now)
same_ports was now port (Ok last) takes puts numbered_ins numbered_outs = λ still. record {
  takes = takes;
  puts = λ other. puts other ∙ ap (λ (closing : Bool). if closing then (if other == port then false else was.puts other) else was.puts other) still;
  numbered_ins = numbered_ins;
  numbered_outs = numbered_outs;
}
same_ports was now port (Err refused) takes puts numbered_ins numbered_outs = tt

-- one that was to put a piece which nobody took, and was broken then, has put nothing
pub put_back : (start was mid now : State) (taken put : ℕ → List Piece) (failed : Bool) → SamePorts was mid → SamePorts mid now → now.broken ≡ true → Run start was taken put failed
    → Run start now taken put true
put_back start was mid now taken put failed first second broken run =
    Run-broken start was now taken put failed run (record {
      takes = λ other. second.takes other ∙ first.takes other;
      puts = λ other. second.puts other ∙ first.puts other;
      numbered_ins = λ other. second.numbered_ins other ∙ first.numbered_ins other;
      numbered_outs = λ other. second.numbered_outs other ∙ first.numbered_outs other;
      broken = broken;
    })

-- what may have failed before may have failed since
pub run_failed : (start now : State) (taken put : ℕ → List Piece) (failed failed' : Bool) → (failed' ≡ false → failed ≡ false) → Run start now taken put failed
    → Run start now taken put failed'
run_failed start now taken put failed true still run = Run-weaken start now now taken put failed run
run_failed start now taken put failed false still run = subst (λ (test : Bool). Run start now taken put test) (still refl) run

denied : (test : Bool) → not test ≡ true → test ≡ false
denied true passes = sym passes
denied false passes = refl

-- a port that is open was open at the beginning, and nothing has closed it
pub open_port : (start now : ℕ → Bool) (pieces : ℕ → List Piece) (port : ℕ) → StayOpen start now pieces → now port ≡ true → (start port ≡ true) × (are_closed (pieces port) ≡ false)
open_port start now pieces port stay opened =
    let parts = and_parts (start port) (not (are_closed (pieces port))) (sym (stay port) ∙ opened) in
    (parts.0, denied (are_closed (pieces port)) parts.1)

-- the act that a machine may do next is at a port that is open
pub takes_at : (state : State) (port : ℕ) → state.act ≡ act.Take port → MayDo state state.act → state.takes port ≡ true
takes_at state port turn may = subst (MayDo state) turn may

pub puts_at : (state : State) (port : ℕ) → state.act ≡ act.Put port → MayDo state state.act → state.puts port ≡ true
puts_at state port turn may = subst (MayDo state) turn may

-- no end is among pieces that nothing closes
pub end_closes : (pieces : List Piece) → are_closed pieces ≡ false → has_end pieces ≡ false
end_closes [] unclosed = refl
end_closes (piece.Bytes bytes ∷ pieces) unclosed = end_closes pieces unclosed
end_closes (piece.Mark ∷ pieces) unclosed = end_closes pieces unclosed
end_closes (piece.End ∷ pieces) unclosed = absurd (true≢false unclosed)
end_closes (piece.Broken ∷ pieces) unclosed = absurd (true≢false unclosed)

-- the text of pieces grows by that of one more
pub text_of-more : (pieces : List Piece) (last : Piece) → text_of (pieces ++ last ∷ []) ≡ text_of pieces ++ text_of (last ∷ [])
text_of-more [] last = refl
text_of-more (piece.Bytes bytes ∷ pieces) last = ap (λ (rest : List ℕ). bytes ++ rest) (text_of-more pieces last) ∙ sym (append_assoc bytes (text_of pieces) (text_of (last ∷ [])))
text_of-more (piece.Mark ∷ pieces) last = ap (λ (rest : List ℕ). mark ∷ rest) (text_of-more pieces last)
text_of-more (piece.End ∷ pieces) last = text_of-more pieces last
text_of-more (piece.Broken ∷ pieces) last = text_of-more pieces last

-- a mark closes nothing
pub mark_open : (last : Piece) → is_mark last ≡ true → closes last ≡ false
mark_open (piece.Bytes bytes) is = refl
mark_open piece.Mark is = refl
mark_open piece.End is = absurd (true≢false (sym is))
mark_open piece.Broken is = absurd (true≢false (sym is))
