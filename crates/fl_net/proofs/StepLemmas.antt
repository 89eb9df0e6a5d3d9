-- A step of a machine over its edge, from what its run says.
use Rattle.std.proofs.Common.{◌≡◌, ℕ, List, [], ◌∷◌, ◌++◌, Bool, true, false, not, ◌||◌, refl, ap, sym, subst, ◌∙◌}
use Rattle.std.proofs.lemmas.Bool.{true≢false}
use Rattle.fl_graph.specs.Machines.{State, is_broken, is_mark, is_put, port_put, port_taken}
use Rattle.fl_graph.specs.Runs.{add, Run}
use Rattle.fl_graph.specs.declared.pieces.Act.TheVariants as act
use Rattle.fl_graph.specs.declared.pieces.Piece.{Piece}
use Rattle.fl_net.specs.Steps.{has_bytes, TookFirst, GaveLast}

or_left : (test other : Bool) → other ≡ false → (test || other) ≡ test
or_left true other none = refl
or_left false other none = none

module _ (was now : State) (port : ℕ) (first : Piece) (wire rest : List Piece) (turn : was.act ≡ act.Take port) (is : wire ≡ first ∷ rest) where
  here : port_taken was.act ≡ port
  here = ap port_taken turn

  -- the machine took the piece
  pub took_first : ((start : State) (taken put : ℕ → List Piece) (failed : Bool) → Run start was taken put failed → Run start now (add (port_taken was.act) first taken) put failed)
      → now.broken ≡ (was.broken || is_broken first) → TookFirst was now port false wire rest
  took_first goes broken = record {
    piece = first;
    first = is;
    runs = λ start taken put failed marked run. subst (λ (at : ℕ). Run start now (add at first taken) put failed) here (goes start taken put failed run);
    sound = λ unrefused unbroken. broken ∙ or_left was.broken (is_broken first) unbroken;
  }

  -- it took the piece, and was refused memory
  pub refused_first : ((start : State) (taken put : ℕ → List Piece) (failed : Bool) → Run start was taken put failed → Run start now (add (port_taken was.act) first taken) put true)
      → TookFirst was now port true wire rest
  refused_first goes = record {
    piece = first;
    first = is;
    runs = λ start taken put failed marked run.
        subst (λ (test : Bool). Run start now (add port first taken) put test) (sym (marked refl))
        (subst (λ (at : ℕ). Run start now (add at first taken) put true) here (goes start taken put failed run));
    sound = λ unrefused. absurd (true≢false unrefused);
  }

-- it put the piece
pub gave_last : (was now : State) (last : Piece) (wire wire' : List Piece) → has_bytes last ≡ true → wire' ≡ wire ++ last ∷ []
    → ((start : State) (taken put : ℕ → List Piece) (failed : Bool) → Run start was taken put failed → Run start now taken (add (port_put was.act) last put) failed)
    → (was.numbered_outs (port_put was.act) ≡ false → is_mark last ≡ false) → was.numbered_outs (port_put was.act) ≡ false
    → (was.broken ≡ false → is_broken last ≡ false) → now.broken ≡ was.broken
    → GaveLast was now (port_put was.act) wire wire'
gave_last was now last wire wire' sized is goes plain unnumbered sound broken = record {
  piece = last;
  last = is;
  plain = ap not (plain unnumbered);
  sized = sized;
  runs = goes;
  broken = broken;
  sound = sound;
}

pub at_port : (was now : State) (port : ℕ) (wire wire' : List Piece) → was.act ≡ act.Put port → GaveLast was now (port_put was.act) wire wire' → GaveLast was now port wire wire'
at_port was now port wire wire' turn gave = subst (λ (at : ℕ). GaveLast was now at wire wire') (ap port_put turn) gave

pub plain_at : (was : State) (port : ℕ) → was.act ≡ act.Put port → was.numbered_outs port ≡ false → was.numbered_outs (port_put was.act) ≡ false
plain_at was port turn plain = ap was.numbered_outs (ap port_put turn) ∙ plain

pub puts_at : (was : State) (port : ℕ) → was.act ≡ act.Put port → is_put was.act ≡ true
puts_at was port turn = ap is_put turn
