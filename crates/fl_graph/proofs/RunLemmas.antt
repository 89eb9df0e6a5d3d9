-- A machine's run, step by step: taking, putting and want of memory keep what `Ran` says.
use Rattle.std.proofs.Common.{◌≡◌, ℕ, ◌==◌, List, [], ◌∷◌, ◌++◌, Bool, true, false, ◌||◌, if◌then◌else◌, refl, ap, sym, subst, ◌∙◌, append_assoc, append-nil}
use Rattle.std.proofs.Math.Seq.{take-append_seam}
use Rattle.std.proofs.lemmas.Bool.{eqb-true, true≢false}
use mathlib.Core.Path.{fun_ext}
use Rattle.fl_graph.specs.Machines.{State, mark, comes_first, comes, DidPut, WereDue}
use Rattle.ps_lines.specs.Texts.{BeginsWith}
use Rattle.fl_graph.specs.Runs.{text_of, is_end, has_end, completed, completion, add, Ran, Selects}
use Rattle.fl_graph.specs.declared.pieces.Piece.{Piece}
use Rattle.fl_graph.specs.declared.pieces.Piece.TheVariants as piece

-- the value of a piece
abbrev text_in : Piece → List ℕ
text_in (piece.Bytes bytes) = bytes
text_in piece.Mark = mark ∷ []
text_in piece.End = []
text_in piece.Broken = []

-- the text of pieces grows by that of one more
text_of-more : (pieces : List Piece) (last : Piece) → text_of (pieces ++ last ∷ []) ≡ text_of pieces ++ text_in last
text_of-more [] (piece.Bytes bytes) = append-nil bytes
text_of-more [] piece.Mark = refl
text_of-more [] piece.End = refl
text_of-more [] piece.Broken = refl
text_of-more (piece.Bytes bytes ∷ pieces) last = ap (λ (rest : List ℕ). bytes ++ rest) (text_of-more pieces last) ∙ sym (append_assoc bytes (text_of pieces) (text_in last))
text_of-more (piece.Mark ∷ pieces) last = ap (λ (rest : List ℕ). mark ∷ rest) (text_of-more pieces last)
text_of-more (piece.End ∷ pieces) last = text_of-more pieces last
text_of-more (piece.Broken ∷ pieces) last = text_of-more pieces last

-- they have an end where they had one, or it is one
pub has_end-more : (pieces : List Piece) (last : Piece) → has_end (pieces ++ last ∷ []) ≡ (has_end pieces || is_end last)
has_end-more [] last = or-none (is_end last)
  where
    or-none : (test : Bool) → (test || false) ≡ test
    or-none true = refl
    or-none false = refl
has_end-more (first ∷ pieces) last = ap (λ (rest : Bool). is_end first || rest) (has_end-more pieces last) ∙ regrouped (is_end first)
  where
    regrouped : (test : Bool) → (test || (has_end pieces || is_end last)) ≡ ((test || has_end pieces) || is_end last)
    regrouped true = refl
    regrouped false = refl

-- a piece taken is a piece that comes
completed-more : (pieces : List Piece) (last : Piece) (rest : List ℕ) → completed (pieces ++ last ∷ []) rest ≡ completed pieces (comes_first last rest)
completed-more [] last rest = refl
completed-more (first ∷ pieces) last rest = ap (comes_first first) (completed-more pieces last rest)

pub completion-add : (port : ℕ) (last : Piece) (taken : ℕ → List Piece) (rest : ℕ → List ℕ) → completion (add port last taken) rest ≡ completion taken (comes port last rest)
completion-add port last taken rest = fun_ext (λ (other : ℕ). choice other (other == port))
  where
    choice : (other : ℕ) (here : Bool) → completed (if here then taken other ++ last ∷ [] else taken other) (rest other) ≡ completed (taken other) (if here then comes_first last (rest other) else rest other)
    choice other true = completed-more (taken other) last (rest other)
    choice other false = refl

-- the text put at a port, where this piece was put
text_of-add : (port : ℕ) (last : Piece) (put : ℕ → List Piece) (other : ℕ) → text_of (add port last put other) ≡ (if other == port then text_of (put other) ++ text_in last else text_of (put other))
text_of-add port last put other = choice (other == port)
  where
    choice : (here : Bool) → text_of (if here then put other ++ last ∷ [] else put other) ≡ (if here then text_of (put other) ++ text_in last else text_of (put other))
    choice true = text_of-more (put other) last
    choice false = refl

-- a machine that has done nothing
pub Ran-start : (equation : (ℕ → List ℕ) → ℕ → List ℕ) → Ran equation equation (λ _. []) (λ _. []) false
Ran-start equation = record { front = λ rest port. refl; whole = λ fine rest port. refl; ended = λ port is_ended rest. absurd (true≢false (sym is_ended)) }

module _ (equation : (ℕ → List ℕ) → ℕ → List ℕ) (was now : State) (taken put : ℕ → List Piece) where
  -- a piece was taken
  pub Ran-take : (port : ℕ) (last : Piece) → Ran equation was.due taken put was.broken → (now.broken ≡ false → was.broken ≡ false)
      → (now.broken ≡ false → (values : ℕ → List ℕ) (other : ℕ) → now.due values other ≡ was.due (comes port last values) other)
      → Ran equation now.due (add port last taken) put now.broken
  Ran-take port last ran still left = record {
    front = λ rest other. subst (λ (texts : ℕ → List ℕ). BeginsWith (equation texts other) (text_of (put other))) (sym (completion-add port last taken rest)) (ran.front (comes port last rest) other);
    whole = λ fine rest other.
        ap (λ (texts : ℕ → List ℕ). equation texts other) (completion-add port last taken rest)
        ∙ ran.whole (still fine) (comes port last rest) other
        ∙ ap (λ (more : List ℕ). text_of (put other) ++ more) (sym (left fine rest other));
    ended = λ other is_ended rest.
        ap (λ (texts : ℕ → List ℕ). equation texts other) (completion-add port last taken rest) ∙ ran.ended other is_ended (comes port last rest);
  }

  -- memory was refused, or a machine is broken for another reason
  pub Ran-broken : Ran equation was.due taken put was.broken → Ran equation now.due taken put true
  Ran-broken ran = record { front = ran.front; whole = λ fine. absurd (true≢false fine); ended = ran.ended }

  module _ (port : ℕ) (ran : Ran equation was.due taken put was.broken) (unended : has_end (put port) ≡ false) where
    -- an end that is there was there before, if this piece is none
    ended_before : (last : Piece) → is_end last ≡ false → (other : ℕ) → has_end (add port last put other) ≡ true → (other == port ≡ false) × (has_end (put other) ≡ true)
    ended_before last none other is_ended = choice (other == port) refl is_ended
      where
        choice : (here : Bool) → (other == port) ≡ here → has_end (if here then put other ++ last ∷ [] else put other) ≡ true → (other == port ≡ false) × (has_end (put other) ≡ true)
        choice true same is_ended =
            let there : (has_end (put other) || is_end last) ≡ true = sym (has_end-more (put other) last) ∙ is_ended in
            let unended_here : has_end (put other) ≡ false = ap (λ (it : ℕ). has_end (put it)) (eqb-true other port same) ∙ unended in
            absurd (true≢false (sym there ∙ ap (λ (test : Bool). test || is_end last) unended_here ∙ none))
        choice false same is_ended = (same, is_ended)

    -- a port where no piece was put
    text_elsewhere : (last : Piece) (other : ℕ) → (other == port) ≡ false → text_of (add port last put other) ≡ text_of (put other)
    text_elsewhere last other elsewhere = text_of-add port last put other ∙ ap (λ (here : Bool). if here then text_of (put other) ++ text_in last else text_of (put other)) elsewhere

    module _ (last : Piece) (fine : was.broken ≡ false) (due : WereDue was.due now.due port (text_in last)) where
      grown : (rest : ℕ → List ℕ) (other : ℕ) → equation (completion taken rest) other ≡ text_of (add port last put other) ++ now.due rest other
      grown rest other = ran.whole fine rest other ∙ ap (λ (more : List ℕ). text_of (put other) ++ more) (due rest other) ∙ choice (other == port) ∙ ap (λ (text : List ℕ). text ++ now.due rest other) (sym (text_of-add port last put other))
        where
          choice : (here : Bool) → text_of (put other) ++ (if here then text_in last ++ now.due rest other else now.due rest other) ≡ (if here then text_of (put other) ++ text_in last else text_of (put other)) ++ now.due rest other
          choice true = sym (append_assoc (text_of (put other)) (text_in last) (now.due rest other))
          choice false = refl

      -- what was due was put, and where an end came nothing is due any more
      put_due : (is_end last ≡ true → (rest : ℕ → List ℕ) → now.due rest port ≡ []) → Ran equation now.due taken (add port last put) was.broken
      put_due none = record {
        front = λ rest other. subst (λ (text : List ℕ). BeginsWith text (text_of (add port last put other))) (sym (grown rest other)) (take-append_seam (text_of (add port last put other)) (now.due rest other));
        whole = λ fine. grown;
        ended = λ other is_ended rest. by_piece (is_end last) refl other is_ended rest;
      }
        where
          at_port : is_end last ≡ true → (other : ℕ) (here : Bool) → (other == port) ≡ here → has_end (if here then put other ++ last ∷ [] else put other) ≡ true
              → (rest : ℕ → List ℕ) → equation (completion taken rest) other ≡ text_of (add port last put other)
          at_port ends other true same is_ended rest =
              grown rest other ∙ ap (λ (more : List ℕ). text_of (add port last put other) ++ more) (ap (λ (it : ℕ). now.due rest it) (eqb-true other port same) ∙ none ends rest)
              ∙ append-nil (text_of (add port last put other))
          at_port ends other false same is_ended rest = ran.ended other is_ended rest ∙ sym (text_elsewhere last other same)

          by_piece : (ends : Bool) → is_end last ≡ ends → (other : ℕ) → has_end (add port last put other) ≡ true
              → (rest : ℕ → List ℕ) → equation (completion taken rest) other ≡ text_of (add port last put other)
          by_piece true is other is_ended rest = at_port is other (other == port) refl is_ended rest
          by_piece false is other is_ended rest =
              let before = ended_before last is other is_ended in
              ran.ended other before.1 rest ∙ sym (text_elsewhere last other before.0)

    -- a piece was put
    pub Ran-put : (last : Piece) → DidPut was now port last → Ran equation now.due taken (add port last put) was.broken
    Ran-put (piece.Bytes bytes) did = put_due (piece.Bytes bytes) did.0 did.1 (λ ends. absurd (true≢false (sym ends)))
    Ran-put piece.Mark did = put_due piece.Mark did.0 did.2 (λ ends. absurd (true≢false (sym ends)))
    Ran-put piece.End did = put_due piece.End did.0 (λ rest other. did.1.1 rest other ∙ nothing rest other (other == port)) (λ ends rest. sym (did.1.1 rest port) ∙ did.1.0 rest)
      where
        nothing : (rest : ℕ → List ℕ) (other : ℕ) (here : Bool) → now.due rest other ≡ (if here then [] ++ now.due rest other else now.due rest other)
        nothing rest other true = refl
        nothing rest other false = refl
    Ran-put piece.Broken did = record {
      front = λ rest other. subst (λ (text : List ℕ). BeginsWith (equation (completion taken rest) other) text) (sym (text_same other)) (ran.front rest other);
      whole = λ fine. absurd (true≢false (sym did ∙ fine));
      ended = λ other is_ended rest.
          let before = ended_before piece.Broken refl other is_ended in
          ran.ended other before.1 rest ∙ sym (text_elsewhere piece.Broken other before.0);
    }
      where
        text_same : (other : ℕ) → text_of (add port piece.Broken put other) ≡ text_of (put other)
        text_same other = text_of-add port piece.Broken put other ∙ choice (other == port)
          where
            choice : (here : Bool) → (if here then text_of (put other) ++ [] else text_of (put other)) ≡ text_of (put other)
            choice true = append-nil (text_of (put other))
            choice false = refl

-- what will have been selected, behind a piece that was taken
pub Selects-take : (equation selects selects' : (ℕ → List ℕ) → Bool) (taken : ℕ → List Piece) (broken broken' : Bool) (port : ℕ) (last : Piece)
    → Selects equation selects taken broken → (broken' ≡ false → broken ≡ false)
    → (broken' ≡ false → (texts : ℕ → List ℕ) → selects' texts ≡ selects (comes port last texts)) → Selects equation selects' (add port last taken) broken'
Selects-take equation selects selects' taken broken broken' port last was still left fine rest =
    ap equation (completion-add port last taken rest) ∙ was (still fine) (comes port last rest) ∙ sym (left fine rest)
