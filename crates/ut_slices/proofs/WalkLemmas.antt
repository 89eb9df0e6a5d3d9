-- Steps of a walk over rows.
use Rattle.std.proofs.Common.{◌≡◌, ◌==◌, ◌+◌, ◌*◌, ◌<◌, ◌≤◌, ℕ, zero, suc, List, [], ◌∷◌, ◌++◌, length, drop, slice_get, Option, None, Some, Bool, true, false, refl, ap, sym, ◌∙◌, append_assoc, append-nil, arith, subst, take, get_or, length-drop, ◌-◌, if◌then◌else◌}
use Rattle.std.proofs.lemmas.Bool.{eq-eqb, eqb-true, true≢false}
use Rattle.std.proofs.Math.Path.{fun_ext}
use Rattle.std.proofs.Math.Seq.{drop-cons}
use Rattle.ps_lines.specs.Lines.{is_empty}
use Rattle.ut_streams.specs.Streams.{Put}
use Rattle.ut_streams.proofs.StreamLemmas.{Wrote-trans, Wrote-broken, Wrote-put, Wrote-same}
use Rattle.ut_slices.specs.Paste.{first_delimiter, following}
use Rattle.ut_slices.specs.Inner.Ports.{is_open_at, total_waiting, waiting_at}
use Rattle.ut_slices.specs.Inner.Rows.{coming, due_from, due_of_walk, has_port, line_of, passed, rest_of, weight, CutsWaiting, Goes, IsRead}
use Rattle.ut_slices.specs.declared.walks.Plan.{Plan}
use Rattle.ut_slices.specs.declared.walks.Walk.{Walk}
use Rattle.ut_slices.proofs.SideLemmas.{passed-empty, side_by_side-row}

-- the column at a place
pub drop-here : (columns : List ℕ) (place port : ℕ) → slice_get columns place ≡ Some port → drop place columns ≡ port ∷ drop (place + 1) columns
drop-here columns place port here = at columns place here ∙ ap (λ (place : ℕ). port ∷ drop place columns) (more place)
  where
    more : (place : ℕ) → suc place ≡ place + 1
    more place = omega arith

    at : (columns : List ℕ) (place : ℕ) → slice_get columns place ≡ Some port → drop place columns ≡ port ∷ drop (suc place) columns
    at [] place here = cc
    at (column ∷ columns) zero here = ap (λ (first : ℕ). first ∷ columns) cc
    at (column ∷ columns) (suc place) here = at columns place here

pub drop-behind : (columns : List ℕ) (place : ℕ) → slice_get columns place ≡ None → drop place columns ≡ []
drop-behind [] zero behind = refl
drop-behind [] (suc place) behind = refl
drop-behind (column ∷ columns) zero behind = cc
drop-behind (column ∷ columns) (suc place) behind = drop-behind columns place behind

-- what is due, by parts that are the same
module _ (again : List (Option ℕ)) (all : List ℕ) where
  pub due_from-same : (within within' begun begun' : Bool) (front front' : List ℕ) (left left' : List (Option ℕ)) (columns columns' : List ℕ) (texts texts' : ℕ → List ℕ)
      → within ≡ within' → begun ≡ begun' → front ≡ front' → left ≡ left' → columns ≡ columns' → texts ≡ texts'
      → due_from again all within begun front left columns texts ≡ due_from again all within' begun' front' left' columns' texts'
  due_from-same within within' begun begun' front front' left left' columns columns' texts texts' a b c d e f =
      ap (λ within. due_from again all within begun front left columns texts) a
      ∙ ap (λ begun. due_from again all within' begun front left columns texts) b
      ∙ ap (λ front. due_from again all within' begun' front left columns texts) c
      ∙ ap (λ left. due_from again all within' begun' front' left columns texts) d
      ∙ ap (λ columns. due_from again all within' begun' front' left' columns texts) e
      ∙ ap (λ texts. due_from again all within' begun' front' left' columns' texts) f

  -- a line is begun
  opened : (within begun : Bool) (front : List ℕ) (left : List (Option ℕ)) (port : ℕ) (columns : List ℕ) (texts : ℕ → List ℕ) → is_empty (texts port) ≡ false
      → due_from again all within begun front left (port ∷ columns) texts
      ≡ (if within then [] else front ++ first_delimiter left) ++ due_from again all true true [] left (port ∷ columns) texts
  opened true begun front left port columns texts some = refl
  opened false begun front left port columns texts some =
      let line = line_of (texts port) ++ due_from again all false true [] (following again left) columns (passed port texts) in
      ap (λ (test : Bool). if test then due_from again all false begun (front ++ first_delimiter left) (following again left) columns texts else front ++ (first_delimiter left ++ line)) some
      ∙ sym (append_assoc front (first_delimiter left) line)

  -- a column without a line is left
  left_behind : (begun : Bool) (front : List ℕ) (left : List (Option ℕ)) (port : ℕ) (columns : List ℕ) (texts : ℕ → List ℕ) → texts port ≡ []
      → due_from again all false begun front left (port ∷ columns) texts ≡ due_from again all false begun (front ++ first_delimiter left) (following again left) columns texts
  left_behind begun front left port columns texts none =
      ap (λ (text : List ℕ). if is_empty text then due_from again all false begun (front ++ first_delimiter left) (following again left) columns texts
      else front ++ (first_delimiter left ++ (line_of text ++ due_from again all false true [] (following again left) columns (passed port texts)))) none

  -- one whose line has come to its end with its text
  ended : (front : List ℕ) (begun : Bool) (left : List (Option ℕ)) (port : ℕ) (columns : List ℕ) (texts : ℕ → List ℕ) → texts port ≡ []
      → due_from again all true begun front left (port ∷ columns) texts ≡ due_from again all false true [] (following again left) columns texts
  ended front begun left port columns texts none =
      ap (λ (text : List ℕ). line_of text ++ due_from again all false true [] (following again left) columns (passed port texts)) none
      ∙ ap (λ texts. due_from again all false true [] (following again left) columns texts) (passed-empty port texts none)

-- WHAT COMES AT THE PORTS
abbrev Passes : Walk → Walk → ℕ → ℕ → Type 0
Passes old new port count =
    (other : ℕ) → waiting_at new.ports.items other ≡ (if other == port then drop count (waiting_at old.ports.items port) else waiting_at old.ports.items other)

abbrev SameOpen : Walk → Walk → Type 0
SameOpen old new = (port : ℕ) → is_open_at new.ports.items port ≡ is_open_at old.ports.items port

abbrev later : Walk → (ℕ → List ℕ) → ℕ → List ℕ
later walk texts port = if is_open_at walk.ports.items port then texts port else []

eqb-self : (port : ℕ) → (port == port) ≡ true
eqb-self port = eq-eqb port port refl

-- the line has ended
coming-ended : (old new : Walk) (port count : ℕ) (text : List ℕ) (texts : ℕ → List ℕ) → CutsWaiting (waiting_at old.ports.items port) text count true → Passes old new port count → SameOpen old new
    → passed port (coming old.ports.items texts) ≡ coming new.ports.items texts
coming-ended old new port count text texts cut passes same = fun_ext (λ other. at other (other == port) refl)
  where
    at : (other : ℕ) (is : Bool) → (other == port) ≡ is
        → (if is then rest_of (waiting_at old.ports.items port ++ later old texts port) else waiting_at old.ports.items other ++ later old texts other)
        ≡ waiting_at new.ports.items other ++ later new texts other
    at other true is =
        let same_port : other ≡ port = eqb-true other port is in
        cut.rest (later old texts port)
        ∙ ap (λ (waiting : List ℕ). waiting ++ later old texts port)
        (sym (passes other ∙ ap (λ (test : Bool). if test then drop count (waiting_at old.ports.items port) else waiting_at old.ports.items other) is))
        ∙ ap (λ (port : ℕ). waiting_at new.ports.items other ++ later old texts port) (sym same_port)
        ∙ ap (λ (open_still : Bool). waiting_at new.ports.items other ++ (if open_still then texts other else [])) (sym (same other))
    at other false is =
        ap (λ (waiting : List ℕ). waiting ++ later old texts other)
        (sym (passes other ∙ ap (λ (test : Bool). if test then drop count (waiting_at old.ports.items port) else waiting_at old.ports.items other) is))
        ∙ ap (λ (open_still : Bool). waiting_at new.ports.items other ++ (if open_still then texts other else [])) (sym (same other))

-- all that waited was within the line
coming-within : (old new : Walk) (port count : ℕ) (text : List ℕ) (texts : ℕ → List ℕ) → CutsWaiting (waiting_at old.ports.items port) text count false
    → drop count (waiting_at old.ports.items port) ≡ [] → Passes old new port count → SameOpen old new
    → (line_of (coming old.ports.items texts port) ≡ text ++ line_of (coming new.ports.items texts port))
    × (passed port (coming old.ports.items texts) ≡ passed port (coming new.ports.items texts))
coming-within old new port count text texts cut none passes same =
    let left : waiting_at new.ports.items port ≡ [] =
    passes port ∙ ap (λ (test : Bool). if test then drop count (waiting_at old.ports.items port) else waiting_at old.ports.items port) (eqb-self port) ∙ none in
    let now : coming new.ports.items texts port ≡ later old texts port =
    ap (λ (waiting : List ℕ). waiting ++ later new texts port) left
    ∙ ap (λ (open_still : Bool). if open_still then texts port else []) (same port) in (
      cut.first (later old texts port) ∙ ap (λ (rest : List ℕ). text ++ line_of rest) (sym now),
      fun_ext (λ other. at now other (other == port) refl),
    )
  where
    at : coming new.ports.items texts port ≡ later old texts port → (other : ℕ) (is : Bool) → (other == port) ≡ is
        → (if is then rest_of (coming old.ports.items texts port) else coming old.ports.items texts other)
        ≡ (if is then rest_of (coming new.ports.items texts port) else coming new.ports.items texts other)
    at now other true is = cut.rest (later old texts port) ∙ ap rest_of (sym now)
    at now other false is =
        ap (λ (waiting : List ℕ). waiting ++ later old texts other)
        (sym (passes other ∙ ap (λ (test : Bool). if test then drop count (waiting_at old.ports.items port) else waiting_at old.ports.items other) is))
        ∙ ap (λ (open_still : Bool). waiting_at new.ports.items other ++ (if open_still then texts other else [])) (sym (same other))

-- WHAT IS DUE OF A WALK
abbrev again_of : Plan → List (Option ℕ)
again_of plan = drop 1 plan.delimiters.items

abbrev left_of : Plan → Walk → List (Option ℕ)
left_of plan walk = drop walk.delimiter plan.delimiters.items

abbrev rest_of_row : Plan → Walk → List ℕ
rest_of_row plan walk = drop walk.column plan.columns.items

pub due-ended : (plan : Plan) (old new : Walk) (port count : ℕ) (text : List ℕ) → slice_get plan.columns.items old.column ≡ Some port → old.within ≡ true
    → CutsWaiting (waiting_at old.ports.items port) text count true → Passes old new port count → SameOpen old new
    → new.column ≡ old.column + 1 → new.within ≡ false → new.begun ≡ true → new.front.items ≡ [] → left_of plan new ≡ following (again_of plan) (left_of plan old)
    → (texts : ℕ → List ℕ) → due_of_walk plan old texts ≡ text ++ due_of_walk plan new texts
due-ended plan old new port count text here within cut passes same column outside begun front left texts =
    let again = again_of plan in
    let all = plan.columns.items in
    let coming_in = coming old.ports.items texts in
    let behind = drop (old.column + 1) all in
    let row : rest_of_row plan old ≡ port ∷ behind = drop-here all old.column port here in
    let first : line_of (coming_in port) ≡ text = cut.first (later old texts port) ∙ append-nil text in
    due_from-same again all old.within true old.begun old.begun old.front.items old.front.items (left_of plan old) (left_of plan old) (rest_of_row plan old) (port ∷ behind) coming_in coming_in
    within refl refl refl row refl
    ∙ ap (λ (line : List ℕ). line ++ due_from again all false true [] (following again (left_of plan old)) behind (passed port coming_in)) first
    ∙ ap (λ (rest : List ℕ). text ++ rest)
    (due_from-same again all false new.within true new.begun [] new.front.items (following again (left_of plan old)) (left_of plan new) behind (rest_of_row plan new)
    (passed port coming_in) (coming new.ports.items texts)
    (sym outside) (sym begun) (sym front) (sym left) (ap (λ (place : ℕ). drop place all) (sym column)) (coming-ended old new port count text texts cut passes same))

pub due-within : (plan : Plan) (old new : Walk) (port count : ℕ) (text : List ℕ) → slice_get plan.columns.items old.column ≡ Some port → old.within ≡ true
    → CutsWaiting (waiting_at old.ports.items port) text count false → drop count (waiting_at old.ports.items port) ≡ [] → Passes old new port count → SameOpen old new
    → new.column ≡ old.column → new.within ≡ true → new.delimiter ≡ old.delimiter
    → (texts : ℕ → List ℕ) → due_of_walk plan old texts ≡ text ++ due_of_walk plan new texts
due-within plan old new port count text here within cut none passes same column still place texts =
    let again = again_of plan in
    let all = plan.columns.items in
    let was = coming old.ports.items texts in
    let now = coming new.ports.items texts in
    let left = left_of plan old in
    let behind = drop (old.column + 1) all in
    let row : rest_of_row plan old ≡ port ∷ behind = drop-here all old.column port here in
    let comes = coming-within old new port count text texts cut none passes same in
    let more = due_from again all false true [] (following again left) behind in
    due_from-same again all old.within true old.begun old.begun old.front.items old.front.items left left (rest_of_row plan old) (port ∷ behind) was was within refl refl refl row refl
    ∙ ap (λ (line : List ℕ). line ++ more (passed port was)) comes.0
    ∙ ap (λ (texts : ℕ → List ℕ). (text ++ line_of (now port)) ++ more texts) comes.1
    ∙ append_assoc text (line_of (now port)) (more (passed port now))
    ∙ ap (λ (rest : List ℕ). text ++ rest)
    (due_from-same again all true new.within new.begun new.begun new.front.items new.front.items left (left_of plan new) (port ∷ behind) (rest_of_row plan new) now now
    (sym still) refl refl (ap (λ (place : ℕ). drop place plan.delimiters.items) (sym place)) (sym row ∙ ap (λ (place : ℕ). drop place all) (sym column)) refl)

-- THE DELIMITERS
following-short : (all left : List (Option ℕ)) → length left ≤ 1 → all ≡ following all left
following-short all [] short = refl
following-short all (one ∷ []) short = refl
following-short all (one ∷ other ∷ left) short = absurd (omega arith)

pub following-place : (all : List (Option ℕ)) (place : ℕ) → place < length all - 1 → drop (place + 1) all ≡ following (drop 1 all) (drop place all)
following-place all place within =
    let first : drop place all ≡ get_or all place None ∷ drop (suc place) all = drop-cons all place None (omega arith) in
    let second : drop (suc place) all ≡ get_or all (suc place) None ∷ drop (suc (suc place)) all = drop-cons all (suc place) None (omega arith) in
    ap (λ (place : ℕ). drop place all) (more place) ∙ second
    ∙ sym (ap (λ (left : List (Option ℕ)). following (drop 1 all) left) (first ∙ ap (λ (left : List (Option ℕ)). get_or all place None ∷ left) second))
  where
    more : (place : ℕ) → place + 1 ≡ suc place
    more place = omega arith

pub following-end : (all : List (Option ℕ)) (place : ℕ) → length all - 1 ≤ place → drop 1 all ≡ following (drop 1 all) (drop place all)
following-end all place past =
    let size : length (drop place all) ≡ length all - place = length-drop place all in
    following-short (drop 1 all) (drop place all) (omega arith)

pub ruleset nexts = (following-place, following-end)

-- STEPS
pub Goes-put : (plan : Plan) (old new : Walk) (text written now : List ℕ) (whole : Bool) → ((texts : ℕ → List ℕ) → due_of_walk plan old texts ≡ text ++ due_of_walk plan new texts)
    → Put text written now whole → SameOpen old new → (IsRead plan old → IsRead plan new) → Goes plan old new written now whole
Goes-put plan old new text written now whole due put same reads =
    record { wrote = Wrote-put (due_of_walk plan old) (due_of_walk plan new) text written now whole due put; open_still = same; reads = reads }

-- memory was wanted before the walk went on
pub Goes-stopped : (plan : Plan) (old : Walk) (mid : (ℕ → List ℕ) → List ℕ) (text written now : List ℕ) → ((texts : ℕ → List ℕ) → due_of_walk plan old texts ≡ text ++ mid texts)
    → Put text written now false → Goes plan old old written now false
Goes-stopped plan old mid text written now due put =
    record {
      wrote = Wrote-broken (due_of_walk plan old) mid (due_of_walk plan old) written now (Wrote-put (due_of_walk plan old) mid text written now false due put);
      open_still = λ port. refl;
      reads = λ read. read;
    }

pub Goes-same : (plan : Plan) (walk : Walk) (written : List ℕ) (whole : Bool) → Goes plan walk walk written written whole
Goes-same plan walk written whole =
    record { wrote = Wrote-same (due_of_walk plan walk) (due_of_walk plan walk) written whole (λ ok texts. refl); open_still = λ port. refl; reads = λ read. read }

pub Goes-then : (plan : Plan) (old mid new : Walk) (written half now : List ℕ) (whole : Bool) → Goes plan old mid written half true → Goes plan mid new half now whole → Goes plan old new written now whole
Goes-then plan old mid new written half now whole first second =
    record {
      wrote = Wrote-trans (due_of_walk plan old) (due_of_walk plan mid) (due_of_walk plan new) written half now whole first.wrote second.wrote;
      open_still = λ port. second.open_still port ∙ first.open_still port;
      reads = λ read. second.reads (first.reads read);
    }

-- a row has begun
pub IsRead-begun : (plan : Plan) (old new : Walk) → SameOpen old new → new.begun ≡ true → IsRead plan old → IsRead plan new
IsRead-begun plan old new same begun read =
    record { once = λ port is. read.once port (sym (same port) ∙ is); left = λ port none is. absurd (true≢false (sym begun ∙ none)) }

-- a port that has ended is left
has_port-left : (port other : ℕ) (columns : List ℕ) (same : Bool) → (other == port) ≡ same → (other ≡ port → false ≡ true) → has_port port (other ∷ columns) ≡ true → has_port port columns ≡ true
has_port-left port other columns true is differ has = absurd (true≢false (sym (differ (eqb-true other port is))))
has_port-left port other columns false is differ has = ap (λ (test : Bool). if test then true else has_port port columns) (sym is) ∙ has

pub IsRead-left : (plan : Plan) (old new : Walk) (port : ℕ) → slice_get plan.columns.items old.column ≡ Some port → is_open_at old.ports.items port ≡ false
    → SameOpen old new → new.begun ≡ old.begun → new.column ≡ old.column + 1 → IsRead plan old → IsRead plan new
IsRead-left plan old new port here ended same begun column read =
    record {
      once = λ other is. read.once other (sym (same other) ∙ is);
      left = λ other none is.
          let opened : is_open_at old.ports.items other ≡ true = sym (same other) ∙ is in
          ap (λ (place : ℕ). has_port other (drop place plan.columns.items)) column
          ∙ has_port-left other port (drop (old.column + 1) plan.columns.items) (port == other) refl
          (λ is. sym ended ∙ ap (λ (port : ℕ). is_open_at old.ports.items port) is ∙ opened)
          (ap (λ (columns : List ℕ). has_port other columns) (sym (drop-here plan.columns.items old.column port here)) ∙ read.left other (sym begun ∙ none) opened);
    }

-- the next row is to begin
pub IsRead-row : (plan : Plan) (old new : Walk) → SameOpen old new → new.column ≡ 0 → IsRead plan old → IsRead plan new
IsRead-row plan old new same column read =
    record {
      once = λ port is. read.once port (sym (same port) ∙ is);
      left = λ port none is. ap (λ (place : ℕ). has_port port (drop place plan.columns.items)) column ∙ read.once port (sym (same port) ∙ is);
    }

abbrev one_if : Bool → ℕ
one_if begun = if begun then 1 else 0

one_if-most : (begun : Bool) → one_if begun ≤ 1
one_if-most true = omega arith
one_if-most false = omega arith

-- weights
pub weight-passed : (old new : Walk) (count : ℕ) → total_waiting new.ports.items + count ≡ total_waiting old.ports.items → 0 < count → new.begun ≡ old.begun → 2 + weight new ≤ weight old
weight-passed old new count total some begun =
    let same : one_if new.begun ≡ one_if old.begun = ap one_if begun in
    let goal : 2 + (2 * total_waiting new.ports.items + one_if new.begun) ≤ 2 * total_waiting old.ports.items + one_if old.begun = omega arith in goal

pub weight-begun : (old mid new : Walk) → mid.ports.items ≡ old.ports.items → 2 + weight new ≤ weight mid → weight new ≤ weight old
weight-begun old mid new same less =
    let total : total_waiting mid.ports.items ≡ total_waiting old.ports.items = ap total_waiting same in
    let most : one_if mid.begun ≤ 1 = one_if-most mid.begun in
    let lighter : 2 + weight new ≤ 2 * total_waiting mid.ports.items + one_if mid.begun = less in
    let goal : weight new ≤ 2 * total_waiting old.ports.items + one_if old.begun = omega arith in goal

-- a line goes on
due-front : (plan : Plan) (old : Walk) (port count : ℕ) (text : List ℕ) (ends : Bool) → slice_get plan.columns.items old.column ≡ Some port → old.within ≡ true
    → CutsWaiting (waiting_at old.ports.items port) text count ends
    → (texts : ℕ → List ℕ) → due_of_walk plan old texts
    ≡ text ++ ((if ends then [] else line_of (later old texts port))
    ++ due_from (again_of plan) plan.columns.items false true [] (following (again_of plan) (left_of plan old)) (drop (old.column + 1) plan.columns.items) (passed port (coming old.ports.items texts)))
due-front plan old port count text ends here within cut texts =
    let again = again_of plan in
    let all = plan.columns.items in
    let was = coming old.ports.items texts in
    let left = left_of plan old in
    let behind = drop (old.column + 1) all in
    let row : rest_of_row plan old ≡ port ∷ behind = drop-here all old.column port here in
    let more = due_from again all false true [] (following again left) behind (passed port was) in
    due_from-same again all old.within true old.begun old.begun old.front.items old.front.items left left (rest_of_row plan old) (port ∷ behind) was was within refl refl refl row refl
    ∙ ap (λ (line : List ℕ). line ++ more) (cut.first (later old texts port))
    ∙ append_assoc text (if ends then [] else line_of (later old texts port)) more

pub Goes-line_stopped : (plan : Plan) (old : Walk) (port count : ℕ) (waiting text : List ℕ) (ends : Bool) (written now : List ℕ) → slice_get plan.columns.items old.column ≡ Some port → old.within ≡ true
    → waiting ≡ waiting_at old.ports.items port → CutsWaiting waiting text count ends → Put text written now false → Goes plan old old written now false
Goes-line_stopped plan old port count waiting text ends written now here within waits cut put =
    Goes-stopped plan old
    (λ texts. (if ends then [] else line_of (later old texts port))
    ++ due_from (again_of plan) plan.columns.items false true [] (following (again_of plan) (left_of plan old)) (drop (old.column + 1) plan.columns.items) (passed port (coming old.ports.items texts)))
    text written now (due-front plan old port count text ends here within (subst (λ (waiting : List ℕ). CutsWaiting waiting text count ends) waits cut)) put

pub Goes-within : (plan : Plan) (old new : Walk) (port count : ℕ) (waiting text : List ℕ) (ends : Bool) (written now : List ℕ) → slice_get plan.columns.items old.column ≡ Some port → old.within ≡ true
    → waiting ≡ waiting_at old.ports.items port → CutsWaiting waiting text count ends → ends ≡ false → drop count waiting ≡ [] → Passes old new port count → SameOpen old new
    → new.column ≡ old.column → new.within ≡ old.within → new.begun ≡ old.begun → new.delimiter ≡ old.delimiter → Put text written now true → Goes plan old new written now true
Goes-within plan old new port count waiting text ends written now here within waits cut goes_on none passes same column still begun place put =
    let cut_at : CutsWaiting (waiting_at old.ports.items port) text count ends = subst (λ (waiting : List ℕ). CutsWaiting waiting text count ends) waits cut in
    Goes-put plan old new text written now true
    (due-within plan old new port count text here within (subst (λ (ends : Bool). CutsWaiting (waiting_at old.ports.items port) text count ends) goes_on cut_at)
    (ap (λ (waiting : List ℕ). drop count waiting) (sym waits) ∙ none) passes same column (still ∙ within) place)
    put same (IsRead-begun plan old new same (begun ∙ old.opened within))

pub Goes-ended : (plan : Plan) (old new : Walk) (port count : ℕ) (waiting text : List ℕ) (ends : Bool) (written now : List ℕ) → slice_get plan.columns.items old.column ≡ Some port → old.within ≡ true
    → waiting ≡ waiting_at old.ports.items port → CutsWaiting waiting text count ends → ends ≡ true → Passes old new port count → SameOpen old new
    → new.column ≡ old.column + 1 → new.within ≡ false → new.begun ≡ old.begun → new.front.items ≡ [] → left_of plan new ≡ following (again_of plan) (left_of plan old)
    → Put text written now true → Goes plan old new written now true
Goes-ended plan old new port count waiting text ends written now here within waits cut stops passes same column outside begun front left put =
    let cut_at : CutsWaiting (waiting_at old.ports.items port) text count ends = subst (λ (waiting : List ℕ). CutsWaiting waiting text count ends) waits cut in
    Goes-put plan old new text written now true
    (due-ended plan old new port count text here within (subst (λ (ends : Bool). CutsWaiting (waiting_at old.ports.items port) text count ends) stops cut_at)
    passes same column outside (begun ∙ old.opened within) front left)
    put same (IsRead-begun plan old new same (begun ∙ old.opened within))

-- a line begins
some-first : (text more : List ℕ) → 0 < length text → is_empty (text ++ more) ≡ false
some-first [] more some = absurd (omega arith)
some-first (byte ∷ text) more some = refl

due-opened : (plan : Plan) (old : Walk) (port : ℕ) → slice_get plan.columns.items old.column ≡ Some port → 0 < length (waiting_at old.ports.items port)
    → (texts : ℕ → List ℕ) → due_of_walk plan old texts
    ≡ (if old.within then [] else old.front.items ++ first_delimiter (left_of plan old))
    ++ due_from (again_of plan) plan.columns.items true true [] (left_of plan old) (rest_of_row plan old) (coming old.ports.items texts)
due-opened plan old port here some texts =
    let again = again_of plan in
    let all = plan.columns.items in
    let was = coming old.ports.items texts in
    let left = left_of plan old in
    let row : rest_of_row plan old ≡ port ∷ drop (old.column + 1) all = drop-here all old.column port here in
    let opening = if old.within then [] else old.front.items ++ first_delimiter left in
    ap (λ (columns : List ℕ). due_from again all old.within old.begun old.front.items left columns was) row
    ∙ opened again all old.within old.begun old.front.items left port (drop (old.column + 1) all) was (some-first (waiting_at old.ports.items port) (later old texts port) some)
    ∙ ap (λ (columns : List ℕ). opening ++ due_from again all true true [] left columns was) (sym row)

pub Goes-opened : (plan : Plan) (old new : Walk) (port : ℕ) (written now : List ℕ) → slice_get plan.columns.items old.column ≡ Some port → 0 < length (waiting_at old.ports.items port)
    → new.ports.items ≡ old.ports.items → new.column ≡ old.column → new.delimiter ≡ old.delimiter → new.begun ≡ true → new.within ≡ true → new.front.items ≡ []
    → Put (if old.within then [] else old.front.items ++ first_delimiter (left_of plan old)) written now true → Goes plan old new written now true
Goes-opened plan old new port written now here some ports column place begun within front put =
    let same : SameOpen old new = λ port. ap (λ ports. is_open_at ports port) ports in
    Goes-put plan old new (if old.within then [] else old.front.items ++ first_delimiter (left_of plan old)) written now true
    (λ texts. due-opened plan old port here some texts
    ∙ ap (λ (rest : List ℕ). (if old.within then [] else old.front.items ++ first_delimiter (left_of plan old)) ++ rest)
    (due_from-same (again_of plan) plan.columns.items true new.within true new.begun [] new.front.items (left_of plan old) (left_of plan new) (rest_of_row plan old) (rest_of_row plan new)
    (coming old.ports.items texts) (coming new.ports.items texts)
    (sym within) (sym begun) (sym front) (ap (λ (place : ℕ). drop place plan.delimiters.items) (sym place)) (ap (λ (place : ℕ). drop place plan.columns.items) (sym column))
    (ap (λ ports. coming ports texts) (sym ports))))
    put same (IsRead-begun plan old new same begun)

pub Goes-opened_stopped : (plan : Plan) (old : Walk) (port : ℕ) (written now : List ℕ) → slice_get plan.columns.items old.column ≡ Some port → 0 < length (waiting_at old.ports.items port)
    → Put (if old.within then [] else old.front.items ++ first_delimiter (left_of plan old)) written now false → Goes plan old old written now false
Goes-opened_stopped plan old port written now here some put =
    Goes-stopped plan old (λ texts. due_from (again_of plan) plan.columns.items true true [] (left_of plan old) (rest_of_row plan old) (coming old.ports.items texts))
    (if old.within then [] else old.front.items ++ first_delimiter (left_of plan old)) written now (due-opened plan old port here some) put

-- a column is left
none-comes : (walk : Walk) (port : ℕ) (texts : ℕ → List ℕ) → waiting_at walk.ports.items port ≡ [] → is_open_at walk.ports.items port ≡ false → coming walk.ports.items texts port ≡ []
none-comes walk port texts none ended =
    ap (λ (waiting : List ℕ). waiting ++ later walk texts port) none ∙ ap (λ (open_still : Bool). if open_still then texts port else []) ended

pub Goes-left : (plan : Plan) (old new : Walk) (port : ℕ) (written : List ℕ) → slice_get plan.columns.items old.column ≡ Some port
    → waiting_at old.ports.items port ≡ [] → is_open_at old.ports.items port ≡ false
    → new.ports.items ≡ old.ports.items → new.column ≡ old.column + 1 → new.within ≡ false → new.begun ≡ old.begun → left_of plan new ≡ following (again_of plan) (left_of plan old)
    → new.front.items ≡ (if old.within then [] else old.front.items ++ first_delimiter (left_of plan old)) → Goes plan old new written written true
Goes-left plan old new port written here none is_ended ports column outside begun left front =
    let same : SameOpen old new = λ port. ap (λ ports. is_open_at ports port) ports in
    record {
      wrote = Wrote-same (due_of_walk plan old) (due_of_walk plan new) written true (λ ok texts. sym (due texts));
      open_still = same;
      reads = IsRead-left plan old new port here is_ended same begun column;
    }
  where
    again : List (Option ℕ)
    again = again_of plan

    all : List ℕ
    all = plan.columns.items

    by_within : (within : Bool) → old.within ≡ within → (columns : List ℕ) (texts : ℕ → List ℕ) → texts port ≡ []
        → due_from again all within old.begun old.front.items (left_of plan old) (port ∷ columns) texts
        ≡ due_from again all false old.begun (if within then [] else old.front.items ++ first_delimiter (left_of plan old)) (following again (left_of plan old)) columns texts
    by_within true is columns texts nothing =
        ended again all old.front.items old.begun (left_of plan old) port columns texts nothing
        ∙ ap (λ (begun : Bool). due_from again all false begun [] (following again (left_of plan old)) columns texts) (sym (old.opened is))
    by_within false is columns texts nothing = left_behind again all old.begun old.front.items (left_of plan old) port columns texts nothing

    due : (texts : ℕ → List ℕ) → due_of_walk plan old texts ≡ due_of_walk plan new texts
    due texts =
        ap (λ (columns : List ℕ). due_from again all old.within old.begun old.front.items (left_of plan old) columns (coming old.ports.items texts)) (drop-here all old.column port here)
        ∙ by_within old.within refl (drop (old.column + 1) all) (coming old.ports.items texts) (none-comes old port texts none is_ended)
        ∙ due_from-same again all false new.within old.begun new.begun (if old.within then [] else old.front.items ++ first_delimiter (left_of plan old)) new.front.items
        (following again (left_of plan old)) (left_of plan new) (drop (old.column + 1) all) (rest_of_row plan new) (coming old.ports.items texts) (coming new.ports.items texts)
        (sym outside) (sym begun) (sym front) (sym left) (ap (λ (place : ℕ). drop place all) (sym column)) (ap (λ ports. coming ports texts) (sym ports))

-- a row ends
first-first : (delimiters : List (Option ℕ)) → take 1 delimiters ≡ None ∷ [] → None ∷ drop 1 delimiters ≡ delimiters
first-first [] is = cc
first-first (one ∷ others) is = ap (λ (first : List (Option ℕ)). first ++ others) (sym is)

due-row : (plan : Plan) (old : Walk) → slice_get plan.columns.items old.column ≡ None → old.begun ≡ true
    → (texts : ℕ → List ℕ) → due_of_walk plan old texts
    ≡ (old.front.items ++ 10 ∷ []) ++ due_from (again_of plan) plan.columns.items false false [] plan.delimiters.items plan.columns.items (coming old.ports.items texts)
due-row plan old behind begun texts =
    let again = again_of plan in
    let all = plan.columns.items in
    let was = coming old.ports.items texts in
    due_from-same again all old.within old.within old.begun true old.front.items old.front.items (left_of plan old) (left_of plan old) (rest_of_row plan old) [] was was
    refl begun refl refl (drop-behind all old.column behind) refl
    ∙ ap (λ (rest : List ℕ). old.front.items ++ 10 ∷ rest)
    (side_by_side-row again all was ∙ ap (λ (left : List (Option ℕ)). due_from again all false false [] left all was) (first-first plan.delimiters.items plan.first))
    ∙ sym (append_assoc old.front.items (10 ∷ []) (due_from again all false false [] plan.delimiters.items all was))

pub Goes-row : (plan : Plan) (old new : Walk) (written now : List ℕ) → slice_get plan.columns.items old.column ≡ None → old.begun ≡ true
    → new.ports.items ≡ old.ports.items → new.column ≡ 0 → new.delimiter ≡ 0 → new.begun ≡ false → new.within ≡ false → new.front.items ≡ []
    → Put (old.front.items ++ 10 ∷ []) written now true → Goes plan old new written now true
Goes-row plan old new written now behind begun ports column place none outside front put =
    let same : SameOpen old new = λ port. ap (λ ports. is_open_at ports port) ports in
    Goes-put plan old new (old.front.items ++ 10 ∷ []) written now true
    (λ texts. due-row plan old behind begun texts
    ∙ ap (λ (rest : List ℕ). (old.front.items ++ 10 ∷ []) ++ rest)
    (due_from-same (again_of plan) plan.columns.items false new.within false new.begun [] new.front.items plan.delimiters.items (left_of plan new) plan.columns.items (rest_of_row plan new)
    (coming old.ports.items texts) (coming new.ports.items texts)
    (sym outside) (sym none) (sym front) (ap (λ (place : ℕ). drop place plan.delimiters.items) (sym place)) (ap (λ (place : ℕ). drop place plan.columns.items) (sym column))
    (ap (λ ports. coming ports texts) (sym ports))))
    put same (IsRead-row plan old new same column)

pub Goes-row_stopped : (plan : Plan) (old : Walk) (written now : List ℕ) → slice_get plan.columns.items old.column ≡ None → old.begun ≡ true
    → Put (old.front.items ++ 10 ∷ []) written now false → Goes plan old old written now false
Goes-row_stopped plan old written now behind begun put =
    Goes-stopped plan old (λ texts. due_from (again_of plan) plan.columns.items false false [] plan.delimiters.items plan.columns.items (coming old.ports.items texts))
    (old.front.items ++ 10 ∷ []) written now (due-row plan old behind begun) put

pub front-within : (plan : Plan) (walk : Walk) (front : List ℕ) → walk.within ≡ true → front ≡ [] → front ≡ (if walk.within then [] else walk.front.items ++ first_delimiter (left_of plan walk))
front-within plan walk front within none = none ∙ ap (λ (within : Bool). if within then [] else walk.front.items ++ first_delimiter (left_of plan walk)) (sym within)

pub front-before : (plan : Plan) (walk : Walk) (front : List ℕ) → walk.within ≡ false → front ≡ walk.front.items ++ first_delimiter (left_of plan walk)
    → front ≡ (if walk.within then [] else walk.front.items ++ first_delimiter (left_of plan walk))
front-before plan walk front before is = is ∙ ap (λ (within : Bool). if within then [] else walk.front.items ++ first_delimiter (left_of plan walk)) (sym before)

pub ruleset walk_steps = (Goes-then, Goes-same, weight-begun)
