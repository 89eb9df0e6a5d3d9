-- What comes at the ports of a paste of lines side by side.
use Rattle.std.proofs.Common.{◌≡◌, ◌==◌, ◌-◌, ℕ, zero, suc, List, [], ◌∷◌, ◌++◌, drop, slice_get, Option, None, Some, Bool, true, false, refl, ap, sym, ◌∙◌, append_assoc, nat_lt, if◌then◌else◌}
use Rattle.std.proofs.lemmas.Bool.{eq-eqb, eqb-true, true≢false}
use Rattle.std.proofs.Math.Path.{fun_ext}
use Rattle.ps_lines.specs.Lines.{lines}
use Rattle.ut_streams.specs.Streams.{comes_before, ends_at, Wrote}
use Rattle.ut_streams.proofs.StreamLemmas.{Wrote-at, Wrote-same}
use Rattle.ut_slices.specs.Paste.{dealt, lines_of_columns, rows, sharing, side_by_side}
use Rattle.ut_slices.specs.Inner.Ports.{is_open_at, waiting_at}
use Rattle.ut_slices.specs.Inner.Rows.{coming, due_from, due_of_walk, has_port, Goes, IsRead, IsSettled}
use Rattle.ut_slices.specs.declared.walks.Plan.{Plan}
use Rattle.ut_slices.specs.declared.walks.Walk.{Walk}
use Rattle.ut_slices.proofs.SideLemmas.{side_by_side-row}
use Rattle.ut_slices.proofs.WalkLemmas.{drop-behind, due_from-same}

-- the same walk with other ports
abbrev SameBut : Walk → Walk → Type 0
SameBut old new = (new.column ≡ old.column) × (new.delimiter ≡ old.delimiter) × (new.front.items ≡ old.front.items) × (new.begun ≡ old.begun) × (new.within ≡ old.within)

due-coming : (plan : Plan) (old new : Walk) → SameBut old new → (texts texts' : ℕ → List ℕ) → coming old.ports.items texts ≡ coming new.ports.items texts'
    → due_of_walk plan old texts ≡ due_of_walk plan new texts'
due-coming plan old new same texts texts' comes =
    due_from-same (drop 1 plan.delimiters.items) plan.columns.items old.within new.within old.begun new.begun old.front.items new.front.items
    (drop old.delimiter plan.delimiters.items) (drop new.delimiter plan.delimiters.items) (drop old.column plan.columns.items) (drop new.column plan.columns.items)
    (coming old.ports.items texts) (coming new.ports.items texts')
    (sym same.4) (sym same.3) (sym same.2) (ap (λ (place : ℕ). drop place plan.delimiters.items) (sym same.1)) (ap (λ (place : ℕ). drop place plan.columns.items) (sym same.0)) comes

-- a piece is held
coming-held : (old new : Walk) (port : ℕ) (piece : List ℕ) → is_open_at old.ports.items port ≡ true
    → ((other : ℕ) → waiting_at new.ports.items other ≡ (if other == port then waiting_at old.ports.items port ++ piece else waiting_at old.ports.items other))
    → ((other : ℕ) → is_open_at new.ports.items other ≡ is_open_at old.ports.items other)
    → (texts : ℕ → List ℕ) → coming old.ports.items (comes_before port piece texts) ≡ coming new.ports.items texts
coming-held old new port piece opened waits opens texts = fun_ext (λ other. at other (other == port) refl)
  where
    at : (other : ℕ) (is : Bool) → (other == port) ≡ is
        → waiting_at old.ports.items other ++ (if is_open_at old.ports.items other then (if is then piece ++ texts other else texts other) else []) ≡ coming new.ports.items texts other
    at other true is =
        let same : other ≡ port = eqb-true other port is in
        let still : is_open_at old.ports.items other ≡ true = ap (λ (port : ℕ). is_open_at old.ports.items port) same ∙ opened in
        let now : waiting_at new.ports.items other ≡ waiting_at old.ports.items other ++ piece =
        waits other ∙ ap (λ (test : Bool). if test then waiting_at old.ports.items port ++ piece else waiting_at old.ports.items other) is
        ∙ ap (λ (port : ℕ). waiting_at old.ports.items port ++ piece) (sym same) in
        ap (λ (still : Bool). waiting_at old.ports.items other ++ (if still then piece ++ texts other else [])) still
        ∙ sym (append_assoc (waiting_at old.ports.items other) piece (texts other))
        ∙ ap (λ (waiting : List ℕ). waiting ++ texts other) (sym now)
        ∙ ap (λ (still : Bool). waiting_at new.ports.items other ++ (if still then texts other else [])) (sym (opens other ∙ still))
    at other false is =
        ap (λ (waiting : List ℕ). waiting ++ (if is_open_at old.ports.items other then texts other else []))
        (sym (waits other ∙ ap (λ (test : Bool). if test then waiting_at old.ports.items port ++ piece else waiting_at old.ports.items other) is))
        ∙ ap (λ (still : Bool). waiting_at new.ports.items other ++ (if still then texts other else [])) (sym (opens other))

-- a port ends
coming-ends : (old new : Walk) (port : ℕ) → ((other : ℕ) → waiting_at new.ports.items other ≡ waiting_at old.ports.items other)
    → ((other : ℕ) → is_open_at new.ports.items other ≡ (if other == port then false else is_open_at old.ports.items other))
    → (texts : ℕ → List ℕ) → coming old.ports.items (ends_at port texts) ≡ coming new.ports.items texts
coming-ends old new port waits opens texts = fun_ext (λ other. at other (other == port) refl)
  where
    none : (still : Bool) → (if◌then◌else◌ {A = List ℕ} still [] []) ≡ []
    none true = refl
    none false = refl

    at : (other : ℕ) (is : Bool) → (other == port) ≡ is
        → waiting_at old.ports.items other ++ (if is_open_at old.ports.items other then (if is then [] else texts other) else []) ≡ coming new.ports.items texts other
    at other true is =
        ap (λ (rest : List ℕ). waiting_at old.ports.items other ++ rest) (none (is_open_at old.ports.items other))
        ∙ ap (λ (waiting : List ℕ). waiting ++ []) (sym (waits other))
        ∙ ap (λ (still : Bool). waiting_at new.ports.items other ++ (if still then texts other else []))
        (sym (opens other ∙ ap (λ (test : Bool). if test then false else is_open_at old.ports.items other) is))
    at other false is =
        ap (λ (waiting : List ℕ). waiting ++ (if is_open_at old.ports.items other then texts other else [])) (sym (waits other))
        ∙ ap (λ (still : Bool). waiting_at new.ports.items other ++ (if still then texts other else []))
        (sym (opens other ∙ ap (λ (test : Bool). if test then false else is_open_at old.ports.items other) is))

-- fewer ports are open
pub IsRead-fewer : (plan : Plan) (old new : Walk) → ((port : ℕ) → is_open_at new.ports.items port ≡ true → is_open_at old.ports.items port ≡ true)
    → new.column ≡ old.column → new.begun ≡ old.begun → IsRead plan old → IsRead plan new
IsRead-fewer plan old new fewer column begun read =
    record {
      once = λ port is. read.once port (fewer port is);
      left = λ port none is.
          ap (λ (place : ℕ). has_port port (drop place plan.columns.items)) column ∙ read.left port (sym begun ∙ none) (fewer port is);
    }

fewer-ends : (port other : ℕ) (old now : Bool) → now ≡ (if other == port then false else old) → now ≡ true → old ≡ true
fewer-ends port other old now is still = by_test (other == port) (sym is ∙ still)
  where
    by_test : (test : Bool) → (if test then false else old) ≡ true → old ≡ true
    by_test true never = absurd (true≢false (sym never))
    by_test false is = is

pub Wrote-held : (plan : Plan) (old mid new : Walk) (port : ℕ) (piece written now : List ℕ) (whole : Bool) → is_open_at old.ports.items port ≡ true
    → ((other : ℕ) → waiting_at mid.ports.items other ≡ (if other == port then waiting_at old.ports.items port ++ piece else waiting_at old.ports.items other))
    → ((other : ℕ) → is_open_at mid.ports.items other ≡ is_open_at old.ports.items other) → SameBut old mid → Goes plan mid new written now whole
    → Wrote (λ texts. due_of_walk plan old (comes_before port piece texts)) (due_of_walk plan new) written now whole
Wrote-held plan old mid new port piece written now whole opened waits opens same goes =
    Wrote-at (due_of_walk plan mid) (λ texts. due_of_walk plan old (comes_before port piece texts)) (due_of_walk plan new) (due_of_walk plan new) written now whole
    (λ texts. due-coming plan old mid same (comes_before port piece texts) texts (coming-held old mid port piece opened waits opens texts)) (λ texts. refl) goes.wrote

pub Wrote-ends : (plan : Plan) (old mid new : Walk) (port : ℕ) (written now : List ℕ) (whole : Bool)
    → ((other : ℕ) → waiting_at mid.ports.items other ≡ waiting_at old.ports.items other)
    → ((other : ℕ) → is_open_at mid.ports.items other ≡ (if other == port then false else is_open_at old.ports.items other)) → SameBut old mid → Goes plan mid new written now whole
    → Wrote (λ texts. due_of_walk plan old (ends_at port texts)) (due_of_walk plan new) written now whole
Wrote-ends plan old mid new port written now whole waits opens same goes =
    Wrote-at (due_of_walk plan mid) (λ texts. due_of_walk plan old (ends_at port texts)) (due_of_walk plan new) (due_of_walk plan new) written now whole
    (λ texts. due-coming plan old mid same (ends_at port texts) texts (coming-ends old mid port waits opens texts)) (λ texts. refl) goes.wrote

pub Wrote-nothing : {Input : Type 0} (was now : Input → List ℕ) (old : List ℕ) → Wrote was now old old false
Wrote-nothing was now old = Wrote-same was now old false (λ ok. absurd (true≢false (sym ok)))

pub IsRead-ends : (plan : Plan) (old mid : Walk) (port : ℕ) → ((other : ℕ) → is_open_at mid.ports.items other ≡ (if other == port then false else is_open_at old.ports.items other))
    → mid.column ≡ old.column → mid.begun ≡ old.begun → IsRead plan old → IsRead plan mid
IsRead-ends plan old mid port opens column begun read =
    IsRead-fewer plan old mid (λ other is. fewer-ends port other (is_open_at old.ports.items other) (is_open_at mid.ports.items other) (opens other) is) column begun read

-- nothing is needed any more
pub needs-none : (plan : Plan) (walk : Walk) → slice_get plan.columns.items walk.column ≡ None → IsRead plan walk → IsSettled plan walk → (port : ℕ) → is_open_at walk.ports.items port ≡ false
needs-none plan walk behind read settled port = by_test (is_open_at walk.ports.items port) refl
  where
    by_test : (test : Bool) → is_open_at walk.ports.items port ≡ test → test ≡ false
    by_test true is =
        absurd (true≢false (sym (read.left port (settled.ended behind) is) ∙ ap (λ (columns : List ℕ). has_port port columns) (drop-behind plan.columns.items walk.column behind)))
    by_test false is = refl

pub needs-whole : (plan : Plan) (walk : Walk) → slice_get plan.columns.items walk.column ≡ None → IsSettled plan walk → (texts : ℕ → List ℕ) → due_of_walk plan walk texts ≡ []
needs-whole plan walk behind settled texts =
    ap (λ (columns : List ℕ). due_from (drop 1 plan.delimiters.items) plan.columns.items walk.within walk.begun walk.front.items (drop walk.delimiter plan.delimiters.items) columns (coming walk.ports.items texts))
    (drop-behind plan.columns.items walk.column behind)
    ∙ ap (λ (begun : Bool). if begun then walk.front.items ++ 10 ∷ side_by_side (drop 1 plan.delimiters.items) plan.columns.items (coming walk.ports.items texts) else []) (settled.ended behind)

pub ruleset needs = (needs-none, needs-whole)

pub ruleset feeds = (Wrote-held, Wrote-ends, Wrote-nothing, IsRead-fewer, IsRead-ends)

-- rows hang on the texts of their columns alone
columns-same : (all before columns : List ℕ) (texts texts' : ℕ → List ℕ) → ((port : ℕ) → has_port port columns ≡ true → texts port ≡ texts' port)
    → lines_of_columns all before columns texts ≡ lines_of_columns all before columns texts'
columns-same all before [] texts texts' same = refl
columns-same all before (port ∷ columns) texts texts' same =
    ap (λ (text : List ℕ). dealt (sharing port all - 1) 0 (drop (sharing port before) (lines text)) ∷ lines_of_columns all (port ∷ before) columns texts) (same port (first port))
    ∙ ap (λ (others : List (List (List ℕ))). dealt (sharing port all - 1) 0 (drop (sharing port before) (lines (texts' port))) ∷ others)
    (columns-same all (port ∷ before) columns texts texts' (λ other has. same other (more other (port == other) has)))
  where
    first : (port : ℕ) → (if port == port then true else has_port port columns) ≡ true
    first port = ap (λ (test : Bool). if test then true else has_port port columns) (eq-eqb port port refl)

    more : (other : ℕ) (test : Bool) → has_port other columns ≡ true → (if test then true else has_port other columns) ≡ true
    more other true has = refl
    more other false has = has

-- at the beginning, all rows are due
pub due-begun : (plan : Plan) (walk : Walk) (delimiters : List (Option ℕ)) (columns : List ℕ) (next : ℕ)
    → plan.delimiters.items ≡ None ∷ delimiters → plan.columns.items ≡ columns
    → ((port : ℕ) → has_port port plan.columns.items ≡ nat_lt port next)
    → ((port : ℕ) → waiting_at walk.ports.items port ≡ []) → ((port : ℕ) → is_open_at walk.ports.items port ≡ nat_lt port next)
    → walk.column ≡ 0 → walk.delimiter ≡ 0 → walk.front.items ≡ [] → walk.begun ≡ false → walk.within ≡ false
    → (texts : ℕ → List ℕ) → due_of_walk plan walk texts ≡ side_by_side delimiters columns texts
due-begun plan walk delimiters columns next marks is used empty opens column place front begun within texts =
    due_from-same (drop 1 plan.delimiters.items) plan.columns.items walk.within false walk.begun false walk.front.items []
    (drop walk.delimiter plan.delimiters.items) (None ∷ drop 1 plan.delimiters.items) (drop walk.column plan.columns.items) plan.columns.items
    (coming walk.ports.items texts) (coming walk.ports.items texts)
    within begun front (ap (λ (place : ℕ). drop place plan.delimiters.items) place ∙ marks ∙ ap (λ (marks : List (Option ℕ)). None ∷ drop 1 marks) (sym marks))
    (ap (λ (place : ℕ). drop place plan.columns.items) column) refl
    ∙ sym (side_by_side-row (drop 1 plan.delimiters.items) plan.columns.items (coming walk.ports.items texts))
    ∙ ap (λ (columns : List (List (List ℕ))). rows (drop 1 plan.delimiters.items) columns)
    (columns-same plan.columns.items [] plan.columns.items (coming walk.ports.items texts) texts (λ port has. comes port (opens port ∙ sym (used port) ∙ has)))
    ∙ ap (λ (marks : List (Option ℕ)). side_by_side (drop 1 marks) plan.columns.items texts) marks
    ∙ ap (λ (columns : List ℕ). side_by_side delimiters columns texts) is
  where
    comes : (port : ℕ) → is_open_at walk.ports.items port ≡ true → coming walk.ports.items texts port ≡ texts port
    comes port still =
        ap (λ (waiting : List ℕ). waiting ++ (if is_open_at walk.ports.items port then texts port else [])) (empty port)
        ∙ ap (λ (still : Bool). if still then texts port else []) still

pub begun-read : (plan : Plan) (walk : Walk) (next : ℕ) → ((port : ℕ) → has_port port plan.columns.items ≡ nat_lt port next)
    → ((port : ℕ) → is_open_at walk.ports.items port ≡ nat_lt port next) → walk.column ≡ 0 → IsRead plan walk
begun-read plan walk next used opens column =
    record {
      once = λ port is. used port ∙ sym (opens port) ∙ is;
      left = λ port none is. ap (λ (place : ℕ). has_port port (drop place plan.columns.items)) column ∙ used port ∙ sym (opens port) ∙ is;
    }

column-has : (columns : List ℕ) (place port : ℕ) → slice_get columns place ≡ Some port → has_port port columns ≡ true
column-has [] place port is = cc
column-has (column ∷ columns) zero port is = ap (λ (test : Bool). if test then true else has_port port columns) (eq-eqb column port cc)
column-has (column ∷ columns) (suc place) port is = more (column == port) (column-has columns place port is)
  where
    more : (test : Bool) → has_port port columns ≡ true → (if test then true else has_port port columns) ≡ true
    more true has = refl
    more false has = has

pub begun-settled : (plan : Plan) (walk : Walk) (next : ℕ) → ((port : ℕ) → has_port port plan.columns.items ≡ nat_lt port next)
    → ((port : ℕ) → is_open_at walk.ports.items port ≡ nat_lt port next) → walk.begun ≡ false → IsSettled plan walk
begun-settled plan walk next used opens begun =
    record { waits = λ port is. opens port ∙ sym (used port) ∙ column-has plan.columns.items walk.column port is; ended = λ behind. begun }

pub ruleset begins = (due-begun, begun-read, begun-settled)
