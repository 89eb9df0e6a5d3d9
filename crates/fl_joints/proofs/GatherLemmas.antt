-- A stream over the texts of the ins of a node, one after another, as pieces of the first of them come.
use Rattle.std.proofs.Common.{◌≡◌, ℕ, ◌+◌, ◌-◌, ◌<◌, ◌==◌, List, [], ◌∷◌, ◌++◌, Bool, true, false, not, ◌&&◌, nat_lt, if◌then◌else◌, length, refl, ap, sym, ◌∙◌, append_assoc, append-nil, true≢false, arith}
use Rattle.std.proofs.lemmas.Bool.{and_parts, eq-eqb, eqb-true, lt-ltb, le-ltb, ltb-true}
use Rattle.ps_lines.specs.Lines.{is_closed}
use Rattle.fl_graph.specs.Machines.{comes, is_put, is_take, port_put, port_taken, WereDue}
use Rattle.fl_graph.specs.declared.pieces.Act.TheVariants as act
use Rattle.fl_graph.specs.declared.pieces.Piece.{Piece}
use Rattle.fl_graph.specs.declared.pieces.Piece.TheVariants as piece
use Rattle.fl_joints.specs.Joints.{gathered_on, joined_by}
use Rattle.fl_joints.proofs.ClosingLemmas.{joined_by-bytes, joined_by-lacking, joined_by-whole}
use Rattle.fl_joints.proofs.SumLemmas.{taken-at}

-- behind the last in no text is left
joined_by-past : (close : Bool) (texts : ℕ → List ℕ) (at count : ℕ) → count ≡ 0 → joined_by close false texts at count ≡ []
joined_by-past true texts at count none = ap (joined_by true false texts at) none
joined_by-past false texts at count none = ap (joined_by false false texts at) none

module _ (due : List ℕ → List ℕ) (close within urgent before putting : Bool) (at ins : ℕ)
    (turn : is_take (if urgent then act.Put 0 else if before then act.Take at else if putting then act.Put 0 else act.Stop) ≡ true) (is : before ≡ nat_lt at ins) where
  abbrev taken : ℕ
  taken = port_taken (if urgent then act.Put 0 else if before then act.Take at else if putting then act.Put 0 else act.Stop)

  is-before : at < ins
  is-before = ltb-true at ins (sym is ∙ (taken-at urgent before putting at turn).1)

  -- a piece comes
  pub gathered-bytes : (coming : Piece) (waiting bytes out' : List ℕ) (due' : List ℕ → List ℕ) (within' : Bool) → coming ≡ piece.Bytes bytes → 0 < length bytes
      → within' ≡ not (is_closed bytes) → ((more : List ℕ) → out' ++ due' more ≡ waiting ++ due (bytes ++ more)) → (texts : ℕ → List ℕ) (port : ℕ)
      → gathered_on out' due' close within' texts at ins port ≡ gathered_on waiting due close within (comes taken coming texts) at ins port
  gathered-bytes coming waiting bytes out' due' within' piece_is some ends fed texts port =
      ap (λ (text : List ℕ). if port == 0 then text else [])
      (ap (λ (open_in : Bool). out' ++ (if open_in then due' (joined_by close within' texts at (ins - at)) else [])) (lt-ltb at ins is-before)
      ∙ fed (joined_by close within' texts at (ins - at))
      ∙ ap (λ (within : Bool). waiting ++ due (bytes ++ joined_by close within texts at (ins - at))) ends
      ∙ ap (λ (text : List ℕ). waiting ++ due text) (sym (joined_by-bytes close within at bytes texts (ins - at) some (omega (arith, is-before))))
      ∙ sym (ap (λ (open_in : Bool). waiting ++ (if open_in then due (joined_by close within (comes at (piece.Bytes bytes) texts) at (ins - at)) else [])) (lt-ltb at ins is-before)))
      ∙ ap (λ (from : ℕ). gathered_on waiting due close within (comes from (piece.Bytes bytes) texts) at ins port) (sym (taken-at urgent before putting at turn).0)
      ∙ ap (λ (coming : Piece). gathered_on waiting due close within (comes taken coming texts) at ins port) (sym piece_is)

  -- a text ends
  module _ (waiting out' : List ℕ) (due' : List ℕ → List ℕ) (texts : ℕ → List ℕ) where
    abbrev left : List ℕ
    left = joined_by close false texts (at + 1) (ins - (at + 1))

    abbrev old_left : List ℕ
    old_left = joined_by close within (comes at piece.End texts) at (ins - at)

    -- what is due then
    abbrev Ends : Type 0
    Ends = out' ++ (if nat_lt (at + 1) ins then due' left else []) ≡ waiting ++ due old_left

    ends-lacking : (close && (within && nat_lt 1 (ins - at))) ≡ true → ((more : List ℕ) → out' ++ due' more ≡ waiting ++ due (10 ∷ more)) → Ends
    ends-lacking lacking fed =
        let some : 1 < ins - at = ltb-true 1 (ins - at) (and_parts within (nat_lt 1 (ins - at)) (and_parts close (within && nat_lt 1 (ins - at)) lacking).1).1 in
        ap (λ (open_in : Bool). out' ++ (if open_in then due' left else [])) (lt-ltb (at + 1) ins (omega (arith, some)))
        ∙ fed left ∙ ap (λ (text : List ℕ). waiting ++ due text) (sym (joined_by-lacking close within at ins texts lacking))

    ends-last : (close && (within && nat_lt 1 (ins - at))) ≡ false → at + 1 ≡ ins → out' ≡ waiting ++ due [] → Ends
    ends-last whole last fed =
        ap (λ (open_in : Bool). out' ++ (if open_in then due' left else [])) (le-ltb (at + 1) ins (omega (arith, last)))
        ∙ append-nil out' ∙ fed ∙ ap (λ (text : List ℕ). waiting ++ due text) (sym (joined_by-past close texts (at + 1) (ins - (at + 1)) (omega (arith, last))))
        ∙ ap (λ (text : List ℕ). waiting ++ due text) (sym (joined_by-whole close within at ins texts is-before whole))

    ends-between : (close && (within && nat_lt 1 (ins - at))) ≡ false → (at + 1 ≡ ins → ⊥) → out' ≡ waiting → ((more : List ℕ) → due' more ≡ due more) → Ends
    ends-between whole more_ins nothing same =
        let some : at + 1 < ins = omega (arith, is-before, more_ins) in
        (λ i. nothing i ++ (if lt-ltb (at + 1) ins some i then due' left else []))
        ∙ ap (λ (text : List ℕ). waiting ++ text) (same left ∙ ap due (sym (joined_by-whole close within at ins texts is-before whole)))

    gathered-ended : Ends → (port : ℕ) → gathered_on out' due' close false texts (at + 1) ins port ≡ gathered_on waiting due close within (comes taken piece.End texts) at ins port
    gathered-ended ends port =
        ap (λ (text : List ℕ). if port == 0 then text else [])
        (ends
        ∙ sym (ap (λ (open_in : Bool). waiting ++ (if open_in then due old_left else [])) (lt-ltb at ins is-before)))
        ∙ ap (λ (from : ℕ). gathered_on waiting due close within (comes from piece.End texts) at ins port) (sym (taken-at urgent before putting at turn).0)

  pub gathered-end : (coming : Piece) (waiting out' : List ℕ) (due' : List ℕ → List ℕ) (lacks last : Bool) → coming ≡ piece.End → lacks ≡ (close && (within && nat_lt 1 (ins - at))) → last ≡ (at + 1 == ins)
      → (lacks ≡ true → (more : List ℕ) → out' ++ due' more ≡ waiting ++ due (10 ∷ more)) → (last ≡ true → out' ≡ waiting ++ due [])
      → (lacks ≡ false → last ≡ false → (out' ≡ waiting) × ((more : List ℕ) → due' more ≡ due more)) → (texts : ℕ → List ℕ) (port : ℕ)
      → gathered_on out' due' close false texts (at + 1) ins port ≡ gathered_on waiting due close within (comes taken coming texts) at ins port
  gathered-end coming waiting out' due' lacks last piece_is lacking last_is newline end nothing texts port =
      gathered-ended waiting out' due' texts (by_end lacks last lacking last_is newline end nothing) port
      ∙ ap (λ (coming : Piece). gathered_on waiting due close within (comes taken coming texts) at ins port) (sym piece_is)
    where
      by_end : (lacks last : Bool) → lacks ≡ (close && (within && nat_lt 1 (ins - at))) → last ≡ (at + 1 == ins)
          → (lacks ≡ true → (more : List ℕ) → out' ++ due' more ≡ waiting ++ due (10 ∷ more)) → (last ≡ true → out' ≡ waiting ++ due [])
          → (lacks ≡ false → last ≡ false → (out' ≡ waiting) × ((more : List ℕ) → due' more ≡ due more))
          → out' ++ (if nat_lt (at + 1) ins then due' (joined_by close false texts (at + 1) (ins - (at + 1))) else []) ≡ waiting ++ due (joined_by close within (comes at piece.End texts) at (ins - at))
      by_end true last lacking last_is newline end nothing = ends-lacking waiting out' due' texts (sym lacking) (newline refl)
      by_end false true lacking last_is newline end nothing = ends-last waiting out' due' texts (sym lacking) (eqb-true (at + 1) ins (sym last_is)) (end refl)
      by_end false false lacking last_is newline end nothing =
          ends-between waiting out' due' texts (sym lacking) (λ same. true≢false (sym (eq-eqb (at + 1) ins same) ∙ sym last_is)) (nothing refl refl).0 (nothing refl refl).1

put-at : (urgent before putting : Bool) (at : ℕ) → is_put (if urgent then act.Put 0 else if before then act.Take at else if putting then act.Put 0 else act.Stop) ≡ true
    → port_put (if urgent then act.Put 0 else if before then act.Take at else if putting then act.Put 0 else act.Stop) ≡ 0
put-at true before putting at turn = refl
put-at false true putting at turn = absurd (true≢false (sym turn))
put-at false false true at turn = refl
put-at false false false at turn = absurd (true≢false (sym turn))

-- a piece that is put was the front of what waits
pub gathered-put : (due : List ℕ → List ℕ) (close within urgent before putting : Bool) (at ins : ℕ) (waiting left bytes : List ℕ)
    → is_put (if urgent then act.Put 0 else if before then act.Take at else if putting then act.Put 0 else act.Stop) ≡ true → waiting ≡ bytes ++ left
    → WereDue (λ texts port. gathered_on waiting due close within texts at ins port) (λ texts port. gathered_on left due close within texts at ins port)
    (port_put (if urgent then act.Put 0 else if before then act.Take at else if putting then act.Put 0 else act.Stop)) bytes
gathered-put due close within urgent before putting at ins waiting left bytes turn front = λ texts other.
    ap (λ (waiting : List ℕ). gathered_on waiting due close within texts at ins other) front
    ∙ by_port (other == 0) (if nat_lt at ins then due (joined_by close within texts at (ins - at)) else [])
    ∙ ap (λ (port : ℕ). if other == port then bytes ++ gathered_on left due close within texts at ins other else gathered_on left due close within texts at ins other)
    (sym (put-at urgent before putting at turn))
  where
    by_port : (here : Bool) (owed : List ℕ)
        → (if here then (bytes ++ left) ++ owed else []) ≡ (if here then bytes ++ (if here then left ++ owed else []) else (if here then left ++ owed else []))
    by_port true owed = append_assoc bytes left owed
    by_port false owed = refl
