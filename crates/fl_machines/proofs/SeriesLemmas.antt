-- The texts that are still to come at ports that are taken in order, as a piece comes at the first of them.
use Rattle.std.proofs.Common.{◌≡◌, ◌&&◌, append_assoc, ℕ, zero, suc, ◌+◌, ◌-◌, ◌<◌, ◌≤◌, ◌==◌, nat_lt, List, [], ◌∷◌, ◌++◌, Bool, true, false, if◌then◌else◌, map, refl, ap, sym, ◌∙◌, append-nil, arith}
use Rattle.std.specs.List.{range_with_len}
use Rattle.std.proofs.lemmas.Bool.{eqb-true, eq-eqb, lt-ltb, false_from_ne_true, ltb-true, ltb-false, true≢false}
use Rattle.fl_graph.specs.Machines.{comes_first, comes, is_take, port_put, port_taken}
use Rattle.fl_graph.specs.declared.pieces.Act.TheVariants as act
use Rattle.fl_graph.specs.declared.pieces.Piece.{Piece}
use Rattle.fl_graph.specs.declared.pieces.Piece.TheVariants as piece
use Rattle.fl_machines.specs.InSeries.{due_in_series, next_in_order, selects_in_series, texts_from}

-- what comes at a port comes there, and at no other
comes-there : (port : ℕ) (last : Piece) (texts : ℕ → List ℕ) → comes port last texts port ≡ comes_first last (texts port)
comes-there port last texts = ap (λ here. if here then comes_first last (texts port) else texts port) (eq-eqb port port refl)

comes-elsewhere : (port : ℕ) (last : Piece) (texts : ℕ → List ℕ) (other : ℕ) → port < other → comes port last texts other ≡ texts other
comes-elsewhere port last texts other later = choice (other == port) refl
  where
    choice : (here : Bool) → (other == port) ≡ here → (if here then comes_first last (texts other) else texts other) ≡ texts other
    choice true here = let same = eqb-true other port here in absurd (omega arith)
    choice false here = refl

range-elsewhere : (port : ℕ) (last : Piece) (texts : ℕ → List ℕ) (from count : ℕ) → port < from
    → map (comes port last texts) (range_with_len from count) ≡ map texts (range_with_len from count)
range-elsewhere port last texts from zero later = refl
range-elsewhere port last texts from (suc count) later =
    ap (λ text. text ∷ map (comes port last texts) (range_with_len (from + 1) count)) (comes-elsewhere port last texts from later)
    ∙ ap (λ rest. texts from ∷ rest) (range-elsewhere port last texts (from + 1) count (omega arith))

range-first : (port : ℕ) (last : Piece) (texts : ℕ → List ℕ) (count left : ℕ) → count ≡ left + 1
    → map (comes port last texts) (range_with_len port count) ≡ comes_first last (texts port) ∷ map texts (range_with_len (port + 1) left)
range-first port last texts zero left next = absurd (omega arith)
range-first port last texts (suc count) left next =
    let same : count ≡ left = omega arith in
    ap (λ text. text ∷ map (comes port last texts) (range_with_len (port + 1) count)) (comes-there port last texts)
    ∙ ap (λ rest. comes_first last (texts port) ∷ rest) (range-elsewhere port last texts (port + 1) count (omega arith))
    ∙ ap (λ count. comes_first last (texts port) ∷ map texts (range_with_len (port + 1) count)) same

range-next : (port : ℕ) (texts : ℕ → List ℕ) (count left : ℕ) → count ≡ left + 1
    → map texts (range_with_len port count) ≡ texts port ∷ map texts (range_with_len (port + 1) left)
range-next port texts zero left next = absurd (omega arith)
range-next port texts (suc count) left next = let same : count ≡ left = omega arith in ap (λ count. texts port ∷ map texts (range_with_len (port + 1) count)) same

-- the first text begins with what comes
texts-come : (at ins : ℕ) (last : Piece) (texts : ℕ → List ℕ) → at < ins → texts_from (comes at last texts) at ins ≡ comes_first last (texts at) ∷ texts_from texts (at + 1) ins
texts-come at ins last texts within = range-first at last texts (ins - at) (ins - (at + 1)) (omega arith)

texts-next : (at ins : ℕ) (texts : ℕ → List ℕ) → at < ins → texts_from texts at ins ≡ texts at ∷ texts_from texts (at + 1) ins
texts-next at ins texts within = range-next at texts (ins - at) (ins - (at + 1)) (omega arith)

texts-none : (at ins : ℕ) (texts : ℕ → List ℕ) → ins ≤ at → texts_from texts at ins ≡ []
texts-none at ins texts past = let none : ins - at ≡ 0 = omega (arith, past) in ap (λ count. map texts (range_with_len at count)) none

module _ (owes owes' : List (List ℕ) → List ℕ) (at ins : ℕ) (within : at < ins) (waiting new : List ℕ) (texts : ℕ → List ℕ) (port : ℕ) where
  -- what is due where the in at hand is open
  abbrev at_first : List ℕ → List ℕ
  at_first text = if port == 0 then text else []

  due-open : (owes : List (List ℕ) → List ℕ) (waiting : List ℕ) (texts : ℕ → List ℕ) → due_in_series waiting at ins owes texts port ≡ at_first (waiting ++ owes (texts_from texts at ins))
  due-open owes waiting texts = ap (λ is_open. at_first (waiting ++ (if is_open then owes (texts_from texts at ins) else []))) (lt-ltb at ins within)

  -- bytes come
  pub bytes-fed : (bytes : List ℕ) → ((more : List ℕ) (others : List (List ℕ)) → new ++ owes' (more ∷ others) ≡ waiting ++ owes ((bytes ++ more) ∷ others))
      → due_in_series new at ins owes' texts port ≡ due_in_series waiting at ins owes (comes at (piece.Bytes bytes) texts) port
  bytes-fed bytes fed =
      due-open owes' new texts ∙ ap (λ coming. at_first (new ++ owes' coming)) (texts-next at ins texts within)
      ∙ ap at_first (fed (texts at) (texts_from texts (at + 1) ins)) ∙ ap (λ coming. at_first (waiting ++ owes coming)) (sym (texts-come at ins (piece.Bytes bytes) texts within))
      ∙ sym (due-open owes waiting (comes at (piece.Bytes bytes) texts))

  -- the in ends, and another is behind it
  pub input-ended : at + 1 < ins → ((others : List (List ℕ)) → new ++ owes' others ≡ waiting ++ owes ([] ∷ others))
      → due_in_series new (at + 1) ins owes' texts port ≡ due_in_series waiting at ins owes (comes at piece.End texts) port
  input-ended another ended =
      ap (λ is_open. at_first (new ++ (if is_open then owes' (texts_from texts (at + 1) ins) else []))) (lt-ltb (at + 1) ins another)
      ∙ ap at_first (ended (texts_from texts (at + 1) ins)) ∙ ap (λ coming. at_first (waiting ++ owes coming)) (sym (texts-come at ins piece.End texts within))
      ∙ sym (due-open owes waiting (comes at piece.End texts))

  -- the last in ends
  pub last-ended : at + 1 ≡ ins → new ≡ waiting ++ owes ([] ∷ [])
      → due_in_series new (at + 1) ins owes' texts port ≡ due_in_series waiting at ins owes (comes at piece.End texts) port
  last-ended last ended =
      ap (λ is_open. at_first (new ++ (if is_open then owes' (texts_from texts (at + 1) ins) else [])))
      (false_from_ne_true (nat_lt (at + 1) ins) (λ below. let before = ltb-true (at + 1) ins below in absurd (omega (arith, before, last))))
      ∙ ap at_first (append-nil new ∙ ended)
      ∙ ap (λ coming. at_first (waiting ++ owes ([] ∷ coming))) (sym (texts-none (at + 1) ins texts (omega (arith, last))))
      ∙ ap (λ coming. at_first (waiting ++ owes coming)) (sym (texts-come at ins piece.End texts within))
      ∙ sym (due-open owes waiting (comes at piece.End texts))

module _ (picks picks' : List (List ℕ) → Bool) (picked picked' : Bool) (at ins : ℕ) (within : at < ins) (texts : ℕ → List ℕ) where
  selects-open : (picks : List (List ℕ) → Bool) (picked : Bool) (texts : ℕ → List ℕ) → selects_in_series at ins picks picked texts ≡ picks (texts_from texts at ins)
  selects-open picks picked texts = ap (λ is_open. if is_open then picks (texts_from texts at ins) else picked) (lt-ltb at ins within)

  pub bytes-selected : (bytes : List ℕ) → ((more : List ℕ) (others : List (List ℕ)) → picks' (more ∷ others) ≡ picks ((bytes ++ more) ∷ others))
      → selects_in_series at ins picks' picked' texts ≡ selects_in_series at ins picks picked (comes at (piece.Bytes bytes) texts)
  bytes-selected bytes fed =
      selects-open picks' picked' texts ∙ ap picks' (texts-next at ins texts within) ∙ fed (texts at) (texts_from texts (at + 1) ins)
      ∙ ap picks (sym (texts-come at ins (piece.Bytes bytes) texts within)) ∙ sym (selects-open picks picked (comes at (piece.Bytes bytes) texts))

  pub input-selected : at + 1 < ins → ((others : List (List ℕ)) → picks' others ≡ picks ([] ∷ others))
      → selects_in_series (at + 1) ins picks' picked' texts ≡ selects_in_series at ins picks picked (comes at piece.End texts)
  input-selected another ended =
      ap (λ is_open. if is_open then picks' (texts_from texts (at + 1) ins) else picked') (lt-ltb (at + 1) ins another) ∙ ended (texts_from texts (at + 1) ins)
      ∙ ap picks (sym (texts-come at ins piece.End texts within)) ∙ sym (selects-open picks picked (comes at piece.End texts))

  pub last-selected : at + 1 ≡ ins → picked' ≡ picks ([] ∷ []) → selects_in_series (at + 1) ins picks' picked' texts ≡ selects_in_series at ins picks picked (comes at piece.End texts)
  last-selected last ended =
      ap (λ is_open. if is_open then picks' (texts_from texts (at + 1) ins) else picked')
      (false_from_ne_true (nat_lt (at + 1) ins) (λ below. let before = ltb-true (at + 1) ins below in absurd (omega (arith, before, last))))
      ∙ ended ∙ ap (λ coming. picks ([] ∷ coming)) (sym (texts-none (at + 1) ins texts (omega (arith, last))))
      ∙ ap picks (sym (texts-come at ins piece.End texts within)) ∙ sym (selects-open picks picked (comes at piece.End texts))

-- whose turn it is: the in at hand
pub turn-taken : (urgent : Bool) (at ins : ℕ) (putting : Bool) → is_take (next_in_order urgent at ins putting) ≡ true
    → (at < ins) × (port_taken (next_in_order urgent at ins putting) ≡ at)
turn-taken urgent at ins putting turn = by_urgent (putting && urgent) (nat_lt at ins) refl turn
  where
    by_putting : (is_open : Bool) → is_take (if is_open then act.Put 0 else act.Stop) ≡ true → ⊥
    by_putting true turn = true≢false (sym turn)
    by_putting false turn = true≢false (sym turn)

    by_urgent : (waits within : Bool) → nat_lt at ins ≡ within → is_take (if waits then act.Put 0 else if within then act.Take at else if putting then act.Put 0 else act.Stop) ≡ true
        → (at < ins) × (port_taken (if waits then act.Put 0 else if within then act.Take at else if putting then act.Put 0 else act.Stop) ≡ at)
    by_urgent true within is turn = absurd (true≢false (sym turn))
    by_urgent false true is turn = (ltb-true at ins is, refl)
    by_urgent false false is turn = absurd (by_putting putting turn)

-- it puts at the one out
pub put-port : (urgent : Bool) (at ins : ℕ) (putting : Bool) → port_put (next_in_order urgent at ins putting) ≡ 0
put-port urgent at ins putting = by_case (putting && urgent) (nat_lt at ins) putting
  where
    by_case : (waits within is_open : Bool) → port_put (if waits then act.Put 0 else if within then act.Take at else if is_open then act.Put 0 else act.Stop) ≡ 0
    by_case true within is_open = refl
    by_case false true is_open = refl
    by_case false false true = refl
    by_case false false false = refl

module _ (owes owes' : List (List ℕ) → List ℕ) (urgent : Bool) (at ins : ℕ) (putting : Bool) (turn : is_take (next_in_order urgent at ins putting) ≡ true)
    (waiting new : List ℕ) (texts : ℕ → List ℕ) (port : ℕ) where
  abbrev port_now : ℕ
  port_now = port_taken (next_in_order urgent at ins putting)

  is-open : at < ins
  is-open = (turn-taken urgent at ins putting turn).0

  same-port : (coming : Piece) → due_in_series waiting at ins owes (comes at coming texts) port ≡ due_in_series waiting at ins owes (comes port_now coming texts) port
  same-port coming = ap (λ from. due_in_series waiting at ins owes (comes from coming texts) port) (sym (turn-taken urgent at ins putting turn).1)

  pub bytes-taken : (coming : Piece) (bytes : List ℕ) → coming ≡ piece.Bytes bytes
      → ((more : List ℕ) (others : List (List ℕ)) → new ++ owes' (more ∷ others) ≡ waiting ++ owes ((bytes ++ more) ∷ others))
      → due_in_series new at ins owes' texts port ≡ due_in_series waiting at ins owes (comes port_now coming texts) port
  bytes-taken coming bytes is fed =
      bytes-fed owes owes' at ins is-open waiting new texts port bytes fed ∙ same-port (piece.Bytes bytes)
      ∙ ap (λ coming. due_in_series waiting at ins owes (comes port_now coming texts) port) (sym is)

  pub end-taken : (coming : Piece) (is_last : Bool) → coming ≡ piece.End → is_last ≡ (at + 1 == ins)
      → (is_last ≡ false → (others : List (List ℕ)) → new ++ owes' others ≡ waiting ++ owes ([] ∷ others)) → (is_last ≡ true → new ≡ waiting ++ owes ([] ∷ []))
      → due_in_series new (at + 1) ins owes' texts port ≡ due_in_series waiting at ins owes (comes port_now coming texts) port
  end-taken coming is_last is own more last =
      by_last is_last own more last ∙ same-port piece.End ∙ ap (λ coming. due_in_series waiting at ins owes (comes port_now coming texts) port) (sym is)
    where
      another : (before : Bool) → nat_lt (at + 1) ins ≡ before → (at + 1 == ins) ≡ false → at + 1 < ins
      another true below differs = ltb-true (at + 1) ins below
      another false above differs =
          let past = ltb-false (at + 1) ins above in
          let same : at + 1 ≡ ins = omega (arith, past, is-open) in
          absurd (true≢false (sym (eq-eqb (at + 1) ins same) ∙ differs))

      by_last : (is_last : Bool) → is_last ≡ (at + 1 == ins) → (is_last ≡ false → (others : List (List ℕ)) → new ++ owes' others ≡ waiting ++ owes ([] ∷ others))
          → (is_last ≡ true → new ≡ waiting ++ owes ([] ∷ []))
          → due_in_series new (at + 1) ins owes' texts port ≡ due_in_series waiting at ins owes (comes at piece.End texts) port
      by_last true own more last = last-ended owes owes' at ins is-open waiting new texts port (eqb-true (at + 1) ins (sym own)) (last refl)
      by_last false own more last = input-ended owes owes' at ins is-open waiting new texts port (another (nat_lt (at + 1) ins) refl (sym own)) (more refl)

-- bytes are put of what waits
pub bytes-put : (owes : List (List ℕ) → List ℕ) (at ins put_on : ℕ) (waiting bytes behind : List ℕ) (texts : ℕ → List ℕ) (port : ℕ) → put_on ≡ 0 → waiting ≡ bytes ++ behind
    → due_in_series waiting at ins owes texts port
    ≡ (if port == put_on then bytes ++ due_in_series behind at ins owes texts port else due_in_series behind at ins owes texts port)
bytes-put owes at ins put_on waiting bytes behind texts port is_first front =
    by_port (port == 0) ∙ ap (λ here. if port == here then bytes ++ due_in_series behind at ins owes texts port else due_in_series behind at ins owes texts port) (sym is_first)
  where
    rest : List ℕ
    rest = if nat_lt at ins then owes (texts_from texts at ins) else []

    by_port : (here : Bool) → (if here then waiting ++ rest else []) ≡ (if here then bytes ++ (if here then behind ++ rest else []) else (if here then behind ++ rest else []))
    by_port true = ap (λ waiting. waiting ++ rest) front ∙ append_assoc bytes behind rest
    by_port false = refl

pub ruleset takes = (bytes-selected, input-selected, last-selected)
