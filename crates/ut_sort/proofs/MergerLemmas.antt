-- A merge of texts that come at its ports, line by line.
use Rattle.std.proofs.Common.{◌≡◌, ◌==◌, ◌+◌, ◌≤◌, ℕ, zero, suc, List, [], ◌∷◌, ◌++◌, length, drop, take, Bool, true, false, nat_lt, not, Some, refl, ap, sym, ◌∙◌, append_assoc, append-nil, arith, if◌then◌else◌, Ordering}
use Rattle.std.proofs.lemmas.Bool.{and_parts, eq-eqb, eqb-true, false_from_ne_true, lt-ltb, ltb-false, ltb-true, true≢false}
use Rattle.ps_lines.specs.Lines.{closing, has_newline, lines, text_of_lines}
use Rattle.ps_lines.proofs.LineLemmas.{lines-closing}
use Rattle.ut_streams.specs.Streams.{comes_before, ends_at, Put, Wrote}
use Rattle.ut_streams.proofs.StreamLemmas.{Wrote-at, Wrote-put, Wrote-same, Wrote-trans, Wrote-broken}
use Rattle.ut_sort.specs.declared.choices.Choice.TheVariants as choice
use Rattle.ut_sort.specs.declared.texts.Side.{Side}
use Rattle.ut_sort.specs.Choices.{behind_first, Chosen, EndsFirstLine, IsLeftOut, Leads}
use Rattle.ut_sort.specs.Merging.{merged_all, merged_of}
use Rattle.ut_sort.specs.Sides.{coming, coming_lines, due_of, first_waiting, held, held_at, is_open_at, waits, AreDone, Goes, IsSettled}
use Rattle.ut_sort.proofs.ChoiceLemmas.{all-none, all-same, first-within, lines-held, none-waits}

-- no side is beyond the last
past-none : (sides : List Side) (port : ℕ) → length sides ≤ port → (held_at sides port ≡ []) × (is_open_at sides port ≡ false)
past-none [] zero past = (refl, refl)
past-none [] (suc port) past = (refl, refl)
past-none (side ∷ sides) zero past = absurd (omega (arith, past))
past-none (side ∷ sides) (suc port) past = past-none sides port (omega (arith, past))

-- the first side that waits is open
waiting-from : (sides : List Side) (at port : ℕ) → first_waiting at sides ≡ Some port → (place : ℕ) × ((port ≡ at + place) × (is_open_at sides place ≡ true))
waiting-from [] at port is = cc
waiting-from (side ∷ sides) at port is = by_test (waits side) refl (waiting-from sides (suc at) port)
  where
    found : (test : Bool) → waits side ≡ test → (if test then Some at else first_waiting (suc at) sides) ≡ Some port
    found test waiting = ap (λ (test : Bool). if test then Some at else first_waiting (suc at) sides) (sym waiting) ∙ is

    behind : (place : ℕ) → port ≡ suc at + place → port ≡ at + suc place
    behind place is = omega (arith, is)

    here : Some at ≡ Some port → port ≡ at + 0
    here is = let same : port ≡ at = cc in omega (arith, same)

    by_test : (test : Bool) → waits side ≡ test → (first_waiting (suc at) sides ≡ Some port → (place : ℕ) × ((port ≡ suc at + place) × (is_open_at sides place ≡ true)))
        → (place : ℕ) × ((port ≡ at + place) × (is_open_at (side ∷ sides) place ≡ true))
    by_test true waiting later = (0, (here (found true waiting), (and_parts side.is_open (not (has_newline (held side))) waiting).0))
    by_test false waiting later =
        let more = later (found false waiting) in (suc more.0, (behind more.0 more.1.0, more.1.1))

pub waiting-open : (sides : List Side) (port : ℕ) → first_waiting 0 sides ≡ Some port → is_open_at sides port ≡ true
waiting-open sides port is =
    let at = waiting-from sides 0 port is in
    let same : port ≡ at.0 = omega (arith, at.1.0) in ap (is_open_at sides) same ∙ at.1.1

module _ (cmp : List ℕ → List ℕ → Ordering) (unique : Bool) where
  -- a first line goes
  module _ (old new : List Side) (port size : ℕ) (cut : EndsFirstLine (held_at old port) size)
      (holds : (other : ℕ) → held_at new other ≡ (if other == port then drop (size + 1) (held_at old port) else held_at old other))
      (opens : (other : ℕ) → is_open_at new other ≡ is_open_at old other) (texts : ℕ → List ℕ) where
    gone-here : coming_lines new texts port ≡ behind_first port (coming_lines old texts) port
    gone-here =
        let now : held_at new port ≡ drop (size + 1) (held_at old port) =
        holds port ∙ ap (λ (here : Bool). if here then drop (size + 1) (held_at old port) else held_at old port) (eq-eqb port port refl) in
        (λ i. lines (now i ++ (if opens port i then texts port else [])))
        ∙ ap (drop 1) (sym (lines-held cmp unique old port size cut texts))
        ∙ sym (ap (λ (here : Bool). if here then drop 1 (coming_lines old texts port) else coming_lines old texts port) (eq-eqb port port refl))

    gone-at : (other : ℕ) → coming_lines new texts other ≡ behind_first port (coming_lines old texts) other
    gone-at other = by_test (other == port) refl
      where
        by_test : (here : Bool) → (other == port) ≡ here → coming_lines new texts other ≡ behind_first port (coming_lines old texts) other
        by_test true is =
            let same : other ≡ port = eqb-true other port is in
            ap (coming_lines new texts) same ∙ gone-here ∙ ap (behind_first port (coming_lines old texts)) (sym same)
        by_test false is =
            let now : held_at new other ≡ held_at old other =
            holds other ∙ ap (λ (here : Bool). if here then drop (size + 1) (held_at old port) else held_at old other) is in
            (λ i. lines (now i ++ (if opens other i then texts other else [])))
            ∙ sym (ap (λ (here : Bool). if here then drop 1 (coming_lines old texts other) else coming_lines old texts other) is)

    gone-all : length new ≡ length old → merged_all cmp unique (behind_first port (coming_lines old texts)) (length old) ≡ merged_all cmp unique (coming_lines new texts) (length new)
    gone-all counted =
        all-same cmp unique (behind_first port (coming_lines old texts)) (coming_lines new texts) (length old) (λ other before. sym (gone-at other))
        ∙ ap (merged_all cmp unique (coming_lines new texts)) (sym counted)

  module _ (old new : List Side) (port size : ℕ)
      (holds : (other : ℕ) → held_at new other ≡ (if other == port then drop (size + 1) (held_at old port) else held_at old other))
      (opens : (other : ℕ) → is_open_at new other ≡ is_open_at old other) (counted : length new ≡ length old) where
    due-put : Leads cmp unique old (length old) port size → (texts : ℕ → List ℕ) → due_of cmp unique old texts ≡ (take size (held_at old port) ++ 10 ∷ []) ++ due_of cmp unique new texts
    due-put leads texts =
        ap text_of_lines (leads.first texts)
        ∙ ap (λ others. take size (held_at old port) ++ 10 ∷ text_of_lines others) (gone-all old new port size leads.cut holds opens texts counted)
        ∙ sym (append_assoc (take size (held_at old port)) (10 ∷ []) (due_of cmp unique new texts))

    pub Goes-put : (written now : List ℕ) → Leads cmp unique old (length old) port size → Put (take size (held_at old port) ++ 10 ∷ []) written now true → Goes cmp unique old new written now true
    Goes-put written now leads put = record {
      wrote = Wrote-put (due_of cmp unique old) (due_of cmp unique new) (take size (held_at old port) ++ 10 ∷ []) written now true (due-put leads) put;
      opens = opens;
      counted = counted;
    }

    pub Goes-left : (written : List ℕ) → IsLeftOut cmp unique old (length old) port size → Goes cmp unique old new written written true
    Goes-left written left = record {
      wrote = Wrote-same (due_of cmp unique old) (due_of cmp unique new) written true
          (λ ok texts. sym (ap text_of_lines (left.same texts ∙ gone-all old new port size left.cut holds opens texts counted)));
      opens = opens;
      counted = counted;
    }

  -- memory is wanted for it
  pub Goes-stopped : (sides : List Side) (port size : ℕ) (written now : List ℕ) → Leads cmp unique sides (length sides) port size
      → Put (take size (held_at sides port) ++ 10 ∷ []) written now false → Goes cmp unique sides sides written now false
  Goes-stopped sides port size written now leads put = record {
    wrote = Wrote-broken (due_of cmp unique sides) rest (due_of cmp unique sides) written now
        (Wrote-put (due_of cmp unique sides) rest (take size (held_at sides port) ++ 10 ∷ []) written now false
        (λ texts. ap text_of_lines (leads.first texts) ∙ sym (append_assoc (take size (held_at sides port)) (10 ∷ []) (rest texts))) put);
    opens = λ port. refl;
    counted = refl;
  }
    where
      rest : (ℕ → List ℕ) → List ℕ
      rest texts = text_of_lines (merged_all cmp unique (behind_first port (coming_lines sides texts)) (length sides))

  pub Goes-same : (sides : List Side) (written : List ℕ) → Goes cmp unique sides sides written written true
  Goes-same sides written = record {
    wrote = Wrote-same (due_of cmp unique sides) (due_of cmp unique sides) written true (λ ok texts. refl);
    opens = λ port. refl;
    counted = refl;
  }

  -- one step after another
  pub Goes-then : (old mid new : List Side) (written half now : List ℕ) (whole : Bool) → Goes cmp unique old mid written half true → Goes cmp unique mid new half now whole
      → Goes cmp unique old new written now whole
  Goes-then old mid new written half now whole first second = record {
    wrote = Wrote-trans (due_of cmp unique old) (due_of cmp unique mid) (due_of cmp unique new) written half now whole first.wrote second.wrote;
    opens = λ port. second.opens port ∙ first.opens port;
    counted = second.counted ∙ first.counted;
  }

  -- where nothing goes on
  pub settled-wait : (sides : List Side) (count : ℕ) → Chosen cmp unique sides count choice.Wait → IsSettled sides
  settled-wait sides count waiting = λ none. absurd (waiting none)

  pub settled-done : (sides : List Side) → Chosen cmp unique sides (length sides) choice.Done → IsSettled sides
  settled-done sides done = λ none port. by_test port (nat_lt port (length sides)) refl
    where
      by_test : (port : ℕ) (within : Bool) → nat_lt port (length sides) ≡ within → (held_at sides port ≡ []) × (is_open_at sides port ≡ false)
      by_test port true is = done port (ltb-true port (length sides) is)
      by_test port false is = past-none sides port (ltb-false port (length sides) is)

  -- what is due hangs on the lines that come
  due-same : (old new : List Side) (texts texts' : ℕ → List ℕ) → length new ≡ length old → ((port : ℕ) → coming_lines old texts port ≡ coming_lines new texts' port)
      → due_of cmp unique old texts ≡ due_of cmp unique new texts'
  due-same old new texts texts' counted same =
      ap text_of_lines (all-same cmp unique (coming_lines old texts) (coming_lines new texts') (length old) (λ port before. same port)
      ∙ ap (merged_all cmp unique (coming_lines new texts')) (sym counted))

  -- a piece is held
  module _ (old mid : List Side) (port : ℕ) (counted : length mid ≡ length old) where
    pub Wrote-held : (new : List Side) (piece written now : List ℕ) (whole : Bool) → first_waiting 0 old ≡ Some port
        → ((other : ℕ) → held_at mid other ≡ (if other == port then held_at old port ++ piece else held_at old other))
        → ((other : ℕ) → is_open_at mid other ≡ is_open_at old other) → Goes cmp unique mid new written now whole
        → Wrote (λ texts. due_of cmp unique old (comes_before port piece texts)) (due_of cmp unique new) written now whole
    Wrote-held new piece written now whole waiting holds opens goes =
        Wrote-at (due_of cmp unique mid) (λ texts. due_of cmp unique old (comes_before port piece texts)) (due_of cmp unique new) (due_of cmp unique new) written now whole
        (λ texts. due-same old mid (comes_before port piece texts) texts counted (at texts)) (λ texts. refl) goes.wrote
      where
        here : (texts : ℕ → List ℕ) → coming old (comes_before port piece texts) port ≡ coming mid texts port
        here texts =
            let opened : is_open_at old port ≡ true = waiting-open old port waiting in
            let held : held_at mid port ≡ held_at old port ++ piece =
            holds port ∙ ap (λ (test : Bool). if test then held_at old port ++ piece else held_at old port) (eq-eqb port port refl) in
            (λ i. held_at old port ++ (if opened i then (if eq-eqb port port refl i then piece ++ texts port else texts port) else []))
            ∙ sym (append_assoc (held_at old port) piece (texts port))
            ∙ (λ i. sym held i ++ (if sym (opens port ∙ opened) i then texts port else []))

        at : (texts : ℕ → List ℕ) (other : ℕ) → coming_lines old (comes_before port piece texts) other ≡ coming_lines mid texts other
        at texts other = by_test (other == port) refl
          where
            by_test : (test : Bool) → (other == port) ≡ test → coming_lines old (comes_before port piece texts) other ≡ coming_lines mid texts other
            by_test true is =
                let same : other ≡ port = eqb-true other port is in
                ap lines (ap (coming old (comes_before port piece texts)) same ∙ here texts ∙ ap (coming mid texts) (sym same))
            by_test false is =
                let held : held_at mid other ≡ held_at old other = holds other ∙ ap (λ (test : Bool). if test then held_at old port ++ piece else held_at old other) is in
                λ i. lines (sym held i ++ (if sym (opens other) i then (if is i then piece ++ texts other else texts other) else []))

    -- a port ends
    pub Wrote-ends : (new : List Side) (written now : List ℕ) (whole : Bool) → first_waiting 0 old ≡ Some port
        → ((other : ℕ) → held_at mid other ≡ (if other == port then closing (held_at old port) else held_at old other))
        → ((other : ℕ) → is_open_at mid other ≡ (if other == port then false else is_open_at old other)) → Goes cmp unique mid new written now whole
        → Wrote (λ texts. due_of cmp unique old (ends_at port texts)) (due_of cmp unique new) written now whole
    Wrote-ends new written now whole waiting holds opens goes =
        Wrote-at (due_of cmp unique mid) (λ texts. due_of cmp unique old (ends_at port texts)) (due_of cmp unique new) (due_of cmp unique new) written now whole
        (λ texts. due-same old mid (ends_at port texts) texts counted (at texts)) (λ texts. refl) goes.wrote
      where
        here : (texts : ℕ → List ℕ) → coming_lines old (ends_at port texts) port ≡ coming_lines mid texts port
        here texts =
            let held : held_at mid port ≡ closing (held_at old port) =
            holds port ∙ ap (λ (test : Bool). if test then closing (held_at old port) else held_at old port) (eq-eqb port port refl) in
            let ended : is_open_at mid port ≡ false = opens port ∙ ap (λ (test : Bool). if test then false else is_open_at old port) (eq-eqb port port refl) in
            (λ i. lines (held_at old port ++ (if waiting-open old port waiting i then (if eq-eqb port port refl i then [] else texts port) else [])))
            ∙ ap lines (append-nil (held_at old port)) ∙ sym (lines-closing (held_at old port)) ∙ ap lines (sym (append-nil (closing (held_at old port))))
            ∙ (λ i. lines (sym held i ++ (if sym ended i then texts port else [])))

        at : (texts : ℕ → List ℕ) (other : ℕ) → coming_lines old (ends_at port texts) other ≡ coming_lines mid texts other
        at texts other = by_test (other == port) refl
          where
            by_test : (test : Bool) → (other == port) ≡ test → coming_lines old (ends_at port texts) other ≡ coming_lines mid texts other
            by_test true is =
                let same : other ≡ port = eqb-true other port is in
                ap (coming_lines old (ends_at port texts)) same ∙ here texts ∙ ap (coming_lines mid texts) (sym same)
            by_test false is =
                let held : held_at mid other ≡ held_at old other = holds other ∙ ap (λ (test : Bool). if test then closing (held_at old port) else held_at old other) is in
                let opened : is_open_at mid other ≡ is_open_at old other = opens other ∙ ap (λ (test : Bool). if test then false else is_open_at old other) is in
                λ i. lines (sym held i ++ (if sym opened i then (if is i then [] else texts other) else []))

  pub Wrote-nothing : {Input : Type 0} (was now : Input → List ℕ) (old : List ℕ) → Wrote was now old old false
  Wrote-nothing was now old = Wrote-same was now old false (λ ok. absurd (true≢false (sym ok)))

  -- at the end nothing is due
  pub done-due : (sides : List Side) → AreDone sides → (texts : ℕ → List ℕ) → due_of cmp unique sides texts ≡ []
  done-due sides done texts =
      ap text_of_lines (all-none cmp unique (coming_lines sides texts) (length sides) (λ port before. λ i. lines ((done port).0 i ++ (if (done port).1 i then texts port else []))))

  -- and at the beginning the merge of all texts
  pub fresh-due : (sides : List Side) (count : ℕ) → ((port : ℕ) → held_at sides port ≡ []) → ((port : ℕ) → is_open_at sides port ≡ nat_lt port count) → length sides ≡ count
      → (texts : ℕ → List ℕ) → due_of cmp unique sides texts ≡ merged_of cmp unique texts count
  fresh-due sides count empty opened counted texts =
      ap text_of_lines (ap (merged_all cmp unique (coming_lines sides texts)) counted
      ∙ all-same cmp unique (coming_lines sides texts) (λ port. lines (texts port)) count
      (λ port before. λ i. lines (empty port i ++ (if (opened port ∙ lt-ltb port count before) i then texts port else []))))

-- a fresh side waits
pub fresh-settled : (sides : List Side) → ((port : ℕ) → held_at sides port ≡ []) → IsSettled sides
fresh-settled sides empty =
    λ none port. (empty port, false_from_ne_true (is_open_at sides port) (λ opened. none-waits sides port opened (ap has_newline (empty port)) none))

pub ruleset begins = (fresh-due, fresh-settled)

pub ruleset needs = (waiting-open, done-due)

pub ruleset feeds = (waiting-open, Wrote-held, Wrote-ends, Wrote-nothing)

pub ruleset steps = (first-within, Goes-put, Goes-left, Goes-stopped, Goes-same, Goes-then, settled-wait, settled-done)
