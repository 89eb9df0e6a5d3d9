-- Runs of equal lines, and the groups that they are.
use Rattle.std.proofs.Common.{◌≡◌, ℕ, zero, suc, ◌+◌, ◌-◌, ◌*◌, ◌<◌, ◌≤◌, Bool, true, false, List, [], ◌∷◌, ◌++◌, length, map, take, drop, get_or, refl, ap, sym, ◌∙◌, append_assoc, append-nil, length-append, subst, arith}
use Rattle.std.proofs.lemmas.Slice.Eq.{bytes_eq-Decides}
use Rattle.std.proofs.Math.Seq.{take-append_seam}
use Rattle.std.specs.Prelude.{None}
use Rattle.ps_lines.specs.Lines.{CutsLine, has_newline, is_closed, lines, text_of_lines}
use Rattle.ps_lines.proofs.ClosedLemmas.{closed-behind, closed-plain}
use Rattle.ps_lines.proofs.LineLemmas.{lines-first, lines-line, text_of_lines-closed}
use Rattle.ut_args.specs.declared.commands.Groups.TheVariants as groups
use Rattle.ut_fields.specs.Fields.{behind_fields, up_to}
use Rattle.ut_streams.specs.Streams.{Put, Wrote}
use Rattle.ut_streams.proofs.StreamLemmas.{Wrote-at, Wrote-put, Wrote-same, Wrote-trans}
use Rattle.ut_groups.specs.declared.forms.Form.TheVariants as form
use Rattle.ut_groups.specs.declared.grouping.Grouping.{Grouping}
use Rattle.ut_groups.specs.declared.skips.Skip.{Skip}
use Rattle.ut_groups.specs.Counting.{saturated}
use Rattle.ut_groups.specs.Groups.{Group, before_groups, compared, group_of, grouped, is_same, line_of}
use Rattle.ut_groups.specs.Inner.Open.{due_behind, ending, group_held, left_of, opening}
use Rattle.ut_groups.specs.Inner.Runs.{BeginsOther, BeginsWithRun, IsExact, common, copies}
use Rattle.ut_groups.proofs.CommonLemmas.{copies-common, copies-end}
use Rattle.ut_groups.proofs.GroupingLemmas.{left-other, left-same, same-compared}
use Rattle.ut_groups.proofs.UniqLemmas.{joins-before}

-- a line with its newline, and what stands behind it
line-before : (line rest : List ℕ) → line_of line ++ rest ≡ line ++ 10 ∷ rest
line-before line rest = append_assoc line (10 ∷ []) rest

length-line : (line : List ℕ) → length (line_of line) ≡ length line + 1
length-line [] = refl
length-line (byte ∷ line) = ap (λ it. suc it) (length-line line) ∙ omega arith

copies-more : (count : ℕ) (line behind : List ℕ) → copies (suc count) (line_of line) ++ behind ≡ line ++ 10 ∷ (copies count (line_of line) ++ behind)
copies-more count line behind =
    append_assoc (line_of line) (copies count (line_of line)) behind ∙ line-before line (copies count (line_of line) ++ behind)

closed-copies : (count : ℕ) (line behind : List ℕ) → is_closed (copies count (line_of line) ++ behind) ≡ true → is_closed behind ≡ true
closed-copies zero line behind closed = closed
closed-copies (suc count) line behind closed =
    closed-copies count line behind (closed-behind line (copies count (line_of line) ++ behind) (ap is_closed (sym (copies-more count line behind)) ∙ closed))

-- how far the text behind a line is the text itself tells how often the line is repeated
pub begins_with_run : (text line behind_first : List ℕ) (alike repeats : ℕ) → CutsLine text line behind_first → is_closed text ≡ true
    → alike ≡ common behind_first text → repeats * (length line + 1) ≤ alike → alike < (repeats + 1) * (length line + 1)
    → BeginsWithRun text line (1 + repeats) behind_first (drop (repeats * (length line + 1)) behind_first)
begins_with_run text line behind_first alike repeats cut closed is low high =
    let unit = line_of line in
    let behind = drop (repeats * (length line + 1)) behind_first in
    let text_is : text ≡ unit ++ behind_first = cut.whole ∙ sym (line-before line behind_first) in
    let count : alike ≡ common behind_first (unit ++ behind_first) = is ∙ ap (common behind_first) text_is in
    let size : length unit ≡ length line + 1 = length-line line in
    let long : repeats * length unit ≤ common behind_first (unit ++ behind_first) = rw size (omega (arith, low, count)) in
    let less : common behind_first (unit ++ behind_first) < suc repeats * length unit = rw size (omega (arith, high, count)) in
    let repeated : behind_first ≡ copies repeats unit ++ behind =
    copies-common repeats unit behind_first long ∙ ap (λ it. copies repeats unit ++ drop (repeats * it) behind_first) size in
    let whole : text ≡ copies (suc repeats) unit ++ behind =
    text_is ∙ ap (λ it. unit ++ it) repeated ∙ sym (append_assoc unit (copies repeats unit) behind) in
    record {
      cut = cut;
      some = omega arith;
      whole = let one : suc repeats ≡ 1 + repeats = omega arith in whole ∙ ap (λ it. copies it unit ++ behind) one;
      closed = closed-copies (suc repeats) line behind (ap is_closed (sym whole) ∙ closed);
      ends = λ more again. copies-end repeats unit behind_first behind more less repeated again;
    }

-- another line follows a run
exact-compared : (grouping : Grouping) → IsExact grouping → (line : List ℕ) → compared grouping.skip line ≡ line
exact-compared grouping exact line =
    ap (λ bytes. drop bytes (behind_fields None grouping.skip.fields line)) exact.2 ∙ ap (λ fields. behind_fields None fields line) exact.1

exact-same : (grouping : Grouping) → IsExact grouping → (one other : List ℕ) → is_same grouping.skip one other ≡ true → one ≡ other
exact-same grouping exact one other same =
    sym (exact-compared grouping exact one) ∙ same-compared grouping.skip one other same ∙ exact-compared grouping exact other

other-behind : (grouping : Grouping) (text line : List ℕ) (count : ℕ) (behind_first behind : List ℕ) → IsExact grouping
    → BeginsWithRun text line count behind_first behind
    → BeginsOther grouping.skip line behind
other-behind grouping text line count behind_first behind exact run next others is = by_test (is_same grouping.skip line next) refl
  where
    by_test : (test : Bool) → is_same grouping.skip line next ≡ test → test ≡ false
    by_test false same = refl
    by_test true same =
        absurd (run.ends (text_of_lines others) (sym (text_of_lines-closed behind run.closed) ∙ ap text_of_lines is
        ∙ ap (λ it. it ++ 10 ∷ text_of_lines others) (sym (exact-same grouping exact line next same)) ∙ sym (line-before line (text_of_lines others))))

pub other-next : (grouping : Grouping) (next : Group) (text line : List ℕ) (count : ℕ) (behind_first behind : List ℕ) → IsExact grouping
    → BeginsWithRun text line count behind_first behind
    → next ≡ group_held line count → BeginsOther grouping.skip next.first behind
other-next grouping next text line count behind_first behind exact run is =
    subst (λ next. BeginsOther grouping.skip next.first behind) (sym is) (other-behind grouping text line count behind_first behind exact run)

-- and so does one behind a line that is the same
pub other-same : (grouping : Grouping) (first text line : List ℕ) (count : ℕ) (behind_first behind : List ℕ) → IsExact grouping
    → is_same grouping.skip first line ≡ true → BeginsWithRun text line count behind_first behind → BeginsOther grouping.skip first behind
other-same grouping first text line count behind_first behind exact same run next others is =
    ap (λ it. is_same grouping.skip it next) (exact-same grouping exact first line same)
    ∙ other-behind grouping text line count behind_first behind exact run next others is

-- the first line of a text by its run
pub other-first : (skip : Skip) (first text line : List ℕ) (count : ℕ) (behind_first behind : List ℕ) → BeginsWithRun text line count behind_first behind
    → is_same skip first line ≡ false → BeginsOther skip first text
other-first skip first text line count behind_first behind run other next others is =
    ap (λ coming. is_same skip first (get_or coming 0 [])) (sym is ∙ lines-first text line behind_first run.cut) ∙ other

pub run-other : (skip : Skip) (first text line : List ℕ) (count : ℕ) (behind_first behind : List ℕ) → BeginsOther skip first text
    → BeginsWithRun text line count behind_first behind → is_same skip first line ≡ false
run-other skip first text line count behind_first behind other run = other line (lines behind_first) (lines-first text line behind_first run.cut)

-- the group that a run is
grouped-run : (skip : Skip) (count : ℕ) (line behind : List ℕ) (more : List (List ℕ)) → has_newline line ≡ false
    → grouped skip (map (group_of form.Plain) (lines (copies (suc count) (line_of line) ++ behind) ++ more))
    ≡ before_groups skip (group_held line (suc count)) (grouped skip (map (group_of form.Plain) (lines behind ++ more)))
grouped-run skip zero line behind more plain =
    ap (λ coming. grouped skip (map (group_of form.Plain) (coming ++ more))) (ap lines (copies-more zero line behind) ∙ lines-line line behind plain)
grouped-run skip (suc count) line behind more plain =
    let inner = copies (suc count) (line_of line) ++ behind in
    let coming = grouped skip (map (group_of form.Plain) (lines behind ++ more)) in
    let sum : 1 + suc count ≡ suc (suc count) = omega arith in
    let self : is_same skip line line ≡ true = (bytes_eq-Decides (compared skip line) (compared skip line)).1 refl in
    ap (λ coming. grouped skip (map (group_of form.Plain) (coming ++ more))) (ap lines (copies-more (suc count) line behind) ∙ lines-line line inner plain)
    ∙ ap (before_groups skip (group_held line 1)) (grouped-run skip count line behind more plain)
    ∙ sym (joins-before skip (group_held line 1) (group_held line (suc count)) self coming)
    ∙ ap (λ it. before_groups skip (group_held line it) coming) sum

due-run : (grouping : Grouping) (group : Group) (text line : List ℕ) (count : ℕ) (behind : List ℕ) (more : List (List ℕ)) → grouping.form ≡ form.Plain
    → has_newline line ≡ false → 0 < count → text ≡ copies count (line_of line) ++ behind
    → due_behind grouping group (lines text ++ more)
    ≡ left_of grouping.groups (before_groups grouping.skip group (before_groups grouping.skip (group_held line count) (grouped grouping.skip (map
    (group_of grouping.form) (lines behind ++ more)))))
due-run grouping group text line zero behind more exact plain some whole = absurd (omega arith)
due-run grouping group text line (suc count) behind more exact plain some whole =
    let left : List Group → List ℕ = λ coming. left_of grouping.groups (before_groups grouping.skip group coming) in
    ap (λ text. due_behind grouping group (lines text ++ more)) whole
    ∙ ap (λ form. left (grouped grouping.skip (map (group_of form) (lines (copies (suc count) (line_of line) ++ behind) ++ more)))) exact
    ∙ ap left (grouped-run grouping.skip count line behind more plain)
    ∙ ap (λ form. left (before_groups grouping.skip (group_held line (suc count)) (grouped grouping.skip (map (group_of form)
    (lines behind ++ more))))) (sym exact)

-- a run is passed: one of lines that are the same, and one of others
module _ (grouping : Grouping) (group : Group) (text line : List ℕ) (count : ℕ) (behind_first behind : List ℕ) (exact : IsExact grouping)
    (run : BeginsWithRun text line count behind_first behind) where
  due-run-same : is_same grouping.skip group.first line ≡ true → (sum : ℕ) → sum ≡ saturated (group.count + count) → (more : List (List ℕ))
      → due_behind grouping (group_held group.first sum) (lines behind ++ more) ≡ due_behind grouping group (lines text ++ more)
  due-run-same same sum is more =
      ap (λ sum. due_behind grouping (group_held group.first sum) (lines behind ++ more)) is
      ∙ left-same grouping.skip grouping.groups group (group_held line count) same (grouped grouping.skip (map (group_of grouping.form)
      (lines behind ++ more)))
      ∙ sym (due-run grouping group text line count behind more exact.0 run.cut.plain run.some run.whole)

  due-run-other : is_same grouping.skip group.first line ≡ false → (more : List (List ℕ))
      → due_behind grouping group (lines text ++ more)
      ≡ (ending grouping.groups group ++ opening grouping.groups line) ++ due_behind grouping (group_held line count) (lines behind ++ more)
  due-run-other other more =
      due-run grouping group text line count behind more exact.0 run.cut.plain run.some run.whole
      ∙ left-other grouping.skip grouping.groups group (group_held line count) other (grouped grouping.skip (map (group_of grouping.form)
      (lines behind ++ more)))

  pub passed_run-same : is_same grouping.skip group.first line ≡ true → (sum : ℕ) → sum ≡ saturated (group.count + count) → (now : List (List ℕ) → List ℕ)
      → (old new : List ℕ) (whole : Bool) → Wrote (λ more. due_behind grouping (group_held group.first sum) (lines behind ++ more)) now old new whole
      → Wrote (λ more. due_behind grouping group (lines text ++ more)) now old new whole
  passed_run-same same sum is now old new whole wrote =
      Wrote-at (λ more. due_behind grouping (group_held group.first sum) (lines behind ++ more)) (λ more. due_behind grouping group
      (lines text ++ more)) now now old new whole
      (λ more. sym (due-run-same same sum is more)) (λ more. refl) wrote

  pub passed_run : is_same grouping.skip group.first line ≡ false → (was : List (List ℕ) → List ℕ) (next : Group) (old half new : List ℕ) (whole : Bool)
      → next ≡ group_held line count → Wrote was (λ more. due_behind grouping group (lines text ++ more)) old half true
      → Put (ending grouping.groups group ++ opening grouping.groups line) half new whole
      → Wrote was (λ more. due_behind grouping next (lines behind ++ more)) old new whole
  passed_run other was next old half new whole is done put =
      Wrote-trans was (λ more. due_behind grouping group (lines text ++ more)) (λ more. due_behind grouping next
      (lines behind ++ more)) old half new whole done
      (Wrote-put (λ more. due_behind grouping group (lines text ++ more)) (λ more. due_behind grouping next (lines behind ++ more))
      (ending grouping.groups group ++ opening grouping.groups line) half new whole
      (λ more. due-run-other other more
      ∙ ap (λ next. (ending grouping.groups group ++ opening grouping.groups line) ++ due_behind grouping next (lines behind ++ more)) (sym is)) put)

up_to-front : (front rest : List ℕ) → up_to (front ++ rest) rest ≡ front
up_to-front front rest =
    let size : length (front ++ rest) - length rest ≡ length front = omega (arith, length-append front rest) in
    ap (λ count. take count (front ++ rest)) size ∙ take-append_seam front rest

-- lines that are to be written stand together before what is left
pub record Pending (grouping : Grouping) (was : List (List ℕ) → List ℕ) (old : List ℕ) (group : Group) (unwritten left out : List ℕ) : Type 0 where
  pub front : List ℕ
  pub cut : unwritten ≡ front ++ left
  pub closed : is_closed left ≡ true
  pub other : BeginsOther grouping.skip group.first left
  pub wrote : Wrote was (λ more. front ++ due_behind grouping group (lines left ++ more)) old out true

pub none_pending : (grouping : Grouping) (group : Group) (text out : List ℕ) → is_closed text ≡ true → BeginsOther grouping.skip group.first text
    → Pending grouping (λ more. due_behind grouping group (lines text ++ more)) out group text text out
none_pending grouping group text out closed other =
    record {
      front = [];
      cut = refl;
      closed = closed;
      other = other;
      wrote = Wrote-same (λ more. due_behind grouping group (lines text ++ more)) (λ more. due_behind grouping group (lines text ++ more)) out true
          (λ ok more. refl);
    }

module _ (grouping : Grouping) (was : List (List ℕ)
    → List ℕ) (old : List ℕ) (group : Group) (unwritten left out line : List ℕ) (count : ℕ) (behind_first behind : List ℕ)
    (exact : IsExact grouping) (all : grouping.groups ≡ groups.All) (pending : Pending grouping was old group unwritten left out)
    (run : BeginsWithRun left line count behind_first behind) where
  -- the first line of a run is to be written too
  due-more : (more : List (List ℕ)) → pending.front ++ due_behind grouping group (lines left ++ more)
      ≡ (pending.front ++ line_of line) ++ due_behind grouping (group_held line count) (lines behind ++ more)
  due-more more =
      ap (λ text. pending.front ++ text)
      (due-run-other grouping group left line count behind_first behind exact run
      (run-other grouping.skip group.first left line count behind_first behind pending.other run) more
      ∙ ap (λ groups. (ending groups group ++ opening groups line) ++ due_behind grouping (group_held line count) (lines behind ++ more)) all)
      ∙ sym (append_assoc pending.front (line_of line) (due_behind grouping (group_held line count) (lines behind ++ more)))

  pub pending-more : (next : Group) → next ≡ group_held line count → count ≡ 1 → Pending grouping was old next unwritten behind out
  pending-more next is one =
      record {
        front = pending.front ++ line_of line;
        cut = pending.cut ∙ ap (λ it. pending.front ++ it) (run.whole ∙ ap (λ count. copies count (line_of line) ++ behind) one
            ∙ append_assoc (line_of line) [] behind)
            ∙ sym (append_assoc pending.front (line_of line) behind);
        closed = run.closed;
        other = other-next grouping next left line count behind_first behind exact run is;
        wrote = Wrote-at was was (λ more. pending.front ++ due_behind grouping group (lines left ++ more))
            (λ more. (pending.front ++ line_of line) ++ due_behind grouping next (lines behind ++ more)) old out true (λ more. refl)
            (λ more. sym (due-more more
            ∙ ap (λ next. (pending.front ++ line_of line) ++ due_behind grouping next (lines behind ++ more)) (sym is))) pending.wrote;
      }

  up_to-line : up_to unwritten behind_first ≡ pending.front ++ line_of line
  up_to-line =
      let parts : unwritten ≡ (pending.front ++ line_of line) ++ behind_first =
      pending.cut ∙ ap (λ it. pending.front ++ it) (run.cut.whole ∙ sym (line-before line behind_first))
      ∙ sym (append_assoc pending.front (line_of line) behind_first) in
      ap (λ it. up_to it behind_first) parts ∙ up_to-front (pending.front ++ line_of line) behind_first

  pub pending-written : (next : Group) (slice new : List ℕ) (whole : Bool) → next ≡ group_held line count → slice ≡ up_to unwritten behind_first
      → Put slice out new whole
      → Wrote was (λ more. due_behind grouping next (lines behind ++ more)) old new whole
  pending-written next slice new whole is cut put =
      Wrote-trans was (λ more. pending.front ++ due_behind grouping group (lines left ++ more)) (λ more. due_behind grouping next
      (lines behind ++ more)) old out new whole pending.wrote
      (Wrote-put (λ more. pending.front ++ due_behind grouping group (lines left ++ more)) (λ more. due_behind grouping next
      (lines behind ++ more)) slice out new whole
      (λ more. due-more more ∙ ap (λ text. text ++ due_behind grouping (group_held line count) (lines behind ++ more)) (sym (cut ∙ up_to-line))
      ∙ ap (λ next. slice ++ due_behind grouping next (lines behind ++ more)) (sym is)) put)

  pub pending-none : (next : Group) (slice new : List ℕ) → next ≡ group_held line count → slice ≡ up_to unwritten behind_first → Put slice out new true
      → Pending grouping was old next behind behind new
  pending-none next slice new is cut put =
      record {
        front = [];
        cut = refl;
        closed = run.closed;
        other = other-next grouping next left line count behind_first behind exact run is;
        wrote = pending-written next slice new true is cut put;
      }

-- the rest is written
pub pending-end : (grouping : Grouping) (was : List (List ℕ) → List ℕ) (old : List ℕ) (group : Group) (unwritten left out new : List ℕ) (whole : Bool)
    → Pending grouping was old group unwritten left out → has_newline left ≡ false → Put unwritten out new whole
    → Wrote was (due_behind grouping group) old new whole
pending-end grouping was old group unwritten left out new whole pending plain put =
    let none : left ≡ [] = closed-plain left pending.closed plain in
    let all : unwritten ≡ pending.front = pending.cut ∙ ap (λ it. pending.front ++ it) none ∙ append-nil pending.front in
    Wrote-trans was (λ more. pending.front ++ due_behind grouping group (lines left ++ more)) (due_behind grouping group) old out new whole pending.wrote
    (Wrote-put (λ more. pending.front ++ due_behind grouping group (lines left ++ more)) (due_behind grouping group) unwritten out new whole
    (λ more. ap (λ front. front ++ due_behind grouping group (lines left ++ more)) (sym all)
    ∙ ap (λ left. unwritten ++ due_behind grouping group (lines left ++ more)) none) put)
