-- The laws of the classes.
use Rattle.std.proofs.Common.{◌≡◌, ℕ, ◌+◌, ◌-◌, ◌||◌, ◌&&◌, Bool, true, false, not, List, [], ◌∷◌, ◌++◌, length, map, take, drop, decimal, if◌then◌else◌, refl, ap, sym, ◌∙◌, subst, append-nil, length-append, arith}
use Rattle.std.specs.List.{filter, flat_map, list_any}
use Rattle.std.specs.Option.{unwrap_or}
use Rattle.std.proofs.lemmas.Bool.{and_parts, cond-true, true≢false}
use Rattle.std.proofs.Math.Seq.{take-append_seam}
use Rattle.std.proofs.lemmas.Grind.{flat_map-append}
use Rattle.std.proofs.lemmas.List.Folds.{list_any-append}
use Rattle.std.proofs.lemmas.List.Sums.{sum_by-append}
use Rattle.ps_lines.specs.Lines.{lines, is_closed, is_cutlist}
use Rattle.ps_lines.specs.Numbers.{number_of}
use Rattle.ps_lines.proofs.ClosedLemmas.{closed-append}
use Rattle.ps_lines.proofs.LineLemmas.{lines_of_cut, is_closed-push}
use Rattle.ps_lines.proofs.NumberLemmas.{number_of-decimal}
use Rattle.ut_args.specs.Built.{is_built_of, is_built_tail, is_built_uniq}
use Rattle.ut_args.specs.Classes.{class_of, is_no_count, keeps_closed_of, of_one, origin_class, report_class}
use Rattle.ut_args.specs.Inputs.{is_named}
use Rattle.ut_args.specs.Strings.{keeps_newline}
use Rattle.ut_args.specs.Invocations.{command_of}
use Rattle.ut_args.specs.Utilities.{has_at_most_one}
use Rattle.ut_args.specs.declared.commands.Command.TheVariants as command
use Rattle.ut_args.specs.declared.classes.Class.{Class}
use Rattle.ut_args.specs.declared.classes.Class.TheVariants as class
use Rattle.ut_args.specs.declared.classes.Seam.{Seam}
use Rattle.ut_args.specs.declared.classes.Seam.TheVariants as seam
use Rattle.ut_args.specs.declared.commands.Origin.{Origin}
use Rattle.ut_args.specs.declared.commands.Origin.TheVariants as origin
use Rattle.ut_args.specs.declared.commands.Report.{Report}
use Rattle.ut_args.specs.declared.commands.Report.TheVariants as report
use Rattle.ut_args.specs.declared.invocations.GrepInv.{GrepInv}
use Rattle.ut_args.specs.declared.invocations.SortInv.{SortInv}
use Rattle.ut_args.specs.declared.invocations.TrInv.{TrInv}
use Rattle.ut_args.specs.declared.invocations.CutInv.{CutInv}
use Rattle.ut_args.specs.declared.invocations.HeadInv.{HeadInv}
use Rattle.ut_args.specs.declared.invocations.PasteInv.{PasteInv}
use Rattle.ut_args.specs.declared.invocations.TailInv.{TailInv}
use Rattle.ut_args.specs.declared.invocations.UniqInv.{UniqInv}
use Rattle.ut_args.specs.declared.invocations.WcInv.{WcInv}
use Rattle.ut_args.specs.declared.invocations.Inv.{Inv}
use Rattle.ut_args.specs.declared.invocations.Inv.TheVariants as inv
use Rattle.ut_streams.specs.Utilities.{Input, Utility}
use Rattle.ut_grep.specs.Grep.{label_in}
use Rattle.ut_grep.specs.Patterns.{selects, written}
use Rattle.ut_grep.proofs.UtilityLemmas.{counts-join, lines-join, nothing-joins, selects-join, written-closed, written-none}
use Rattle.ut_bytes.specs.Tr.{tr_output}
use Rattle.ut_slices.specs.Cut.{cut_output}
use Rattle.ut_slices.specs.Ends.{first_lines}
use Rattle.ut_slices.specs.Head.{head_output, headed}
use Rattle.ut_slices.specs.Paste.{paste_output}
use Rattle.ut_slices.specs.Tail.{tail_by, tail_output}
use Rattle.ut_slices.proofs.LastLemmas.{last-of-parts}
use Rattle.ut_slices.proofs.PartLemmas.{first-of_parts}
use Rattle.ut_groups.specs.Columns.{counts_line, counts_on}
use Rattle.ut_groups.specs.Counting.{added, counts_of}
use Rattle.ut_groups.specs.Uniq.{uniq_finish, uniq_joined, uniq_output, uniq_part}
use Rattle.ut_groups.specs.Wc.{columns_of, name_in, wc_line, wc_output, with_name}
use Rattle.ut_groups.proofs.UniqLemmas.{uniq-joins as uniq-joined, uniq-finished}
use Rattle.ut_groups.proofs.WcLemmas.{line-named, total-none, wc-joins as wc-joined}
use Rattle.ut_sort.specs.Order.{sorted_text}
use Rattle.ut_sort.proofs.UtilityLemmas.{sorted_text-joins}
use Rattle.fl_classes.proofs.SliceLemmas.{cut-closed, cut-joins, tr-closed, tr-joins, tr-none, tr-parts}
use Rattle.fl_classes.specs.Utilities.{output_of, selects_of, utility_by, utility_of, silent, names_of, labelled}
use Rattle.fl_classes.specs.Aggregates.{map_of, joined_maps, finish_of}
use Rattle.fl_classes.specs.Laws.{IsOfClass, IsStateless, IsParallel, KeepsClosed, MayBeCut}

-- an invocation is that of its utility, where it is built, or writes nothing
pub by_built : (inv : Inv) (Says : Utility → Type 0) → (is_built_of inv ≡ true → Says (utility_by (command_of inv))) → Says silent → Says (utility_of inv)
by_built inv Says runs rests = either (is_built_of inv) refl
  where
    either : (built : Bool) → is_built_of inv ≡ built → Says (if built then utility_by (command_of inv) else silent)
    either true built = runs built
    either false _ = rests

pub or-none : (test : Bool) → (test || false) ≡ test
or-none true = refl
or-none false = refl

-- both of two parts, or none
either-part : (whole front back : Bool) → whole ≡ (front || back) → (whole || false) ≡ ((front || false) || (back || false))
either-part whole front back is = or-none whole ∙ is ∙ ap (λ test. test || back) (sym (or-none front)) ∙ ap (λ test. (front || false) || test) (sym (or-none back))

-- what is shown of the utility of an invocation that is built is a law of it: of one that writes nothing all of them hold
module _ (inv : Inv) where
  abbrev WritesPart : Utility → Type 0
  WritesPart utility = (text : List ℕ) → utility.output (labelled (names_of inv) (text ∷ [])) ≡ utility.part text

  abbrev WritesFinished : Utility → Type 0
  WritesFinished utility = (text : List ℕ) → utility.output (labelled (names_of inv) (text ∷ [])) ≡ utility.finish (utility.part text)

  abbrev JoinsParts : Seam → Utility → Type 0
  JoinsParts seam utility = (front back : List ℕ) → MayBeCut seam front back → utility.part (front ++ back) ≡ utility.part front ++ utility.part back

  abbrev Aggregates : Utility → Type 0
  Aggregates utility = (front back : List ℕ) → MayBeCut seam.Lines front back → utility.part (front ++ back) ≡ utility.aggregate (utility.part front) (utility.part back)

  abbrev SelectsPart : Seam → Utility → Type 0
  SelectsPart seam utility = (front back : List ℕ) → MayBeCut seam front back
      → utility.selects (labelled (names_of inv) ((front ++ back) ∷ []))
      ≡ (utility.selects (labelled (names_of inv) (front ∷ [])) || utility.selects (labelled (names_of inv) (back ∷ [])))

  abbrev ClosesPart : Utility → Type 0
  ClosesPart utility = (text : List ℕ) → is_closed text ≡ true → is_closed (utility.part text) ≡ true

  abbrev own : Utility
  own = utility_by (command_of inv)

  pub stateless : (seam : Seam) → (is_built_of inv ≡ true → WritesPart own) → (is_built_of inv ≡ true → JoinsParts seam own)
      → (is_built_of inv ≡ true → SelectsPart seam own) → IsStateless seam inv
  stateless seam whole joins selects = record {
    whole = by_built inv WritesPart whole (λ text. refl);
    joins = by_built inv (JoinsParts seam) joins (λ front back cut. refl);
    selects = by_built inv (SelectsPart seam) selects (λ front back cut. refl);
  }

  pub parallel : (is_built_of inv ≡ true → WritesFinished own) → (is_built_of inv ≡ true → Aggregates own)
      → (is_built_of inv ≡ true → SelectsPart seam.Lines own) → IsParallel inv
  parallel whole joins selects = record {
    whole = by_built inv WritesFinished whole (λ text. refl);
    joins = by_built inv Aggregates joins (λ front back cut. refl);
    selects = by_built inv (SelectsPart seam.Lines) selects (λ front back cut. refl);
  }

  pub keeps : (is_built_of inv ≡ true → WritesPart own) → (is_built_of inv ≡ true → ClosesPart own) → (is_built_of inv ≡ true → own.part [] ≡ []) → KeepsClosed inv
  keeps whole closed none = record {
    whole = by_built inv WritesPart whole (λ text. refl);
    closed = by_built inv ClosesPart closed (λ text closed. refl);
    none = by_built inv (λ utility. utility.part [] ≡ []) none refl;
  }

  -- one that isn't built
  module _ (rests : is_built_of inv ≡ false) where
    never : {Fact : Type 0} → is_built_of inv ≡ true → Fact
    never built = absurd (true≢false (sym built ∙ rests))

    pub unbuilt : (class : Class) → IsOfClass class inv
    unbuilt (class.S seam) = stateless seam never never never
    unbuilt class.P = parallel never never never
    unbuilt class.N = tt
    unbuilt class.E = tt

    pub unbuilt-closed : KeepsClosed inv
    unbuilt-closed = keeps never never never

-- the class of an invocation with at most one operand
of-one : (inv : Inv) (operands : List (List ℕ)) (of_single : Class) → (has_at_most_one operands ≡ true → IsOfClass of_single inv)
    → IsOfClass (of_one operands of_single) inv
of-one inv operands of_single is = either (has_at_most_one operands) refl
  where
    either : (one : Bool) → has_at_most_one operands ≡ one → IsOfClass (if one then of_single else class.N) inv
    either true few = is few
    either false many = tt

-- grep
module _ (grep : GrepInv) where
  abbrev label : List ℕ
  label = label_in grep.args.operands

  abbrev WritesOne : Type 0
  WritesOne = is_built_of (inv.Grep grep) ≡ true → WritesPart (inv.Grep grep) (own (inv.Grep grep))

  grep-writes : WritesOne
  grep-writes built text = append-nil (written grep.args label text)

  grep-selects : is_built_of (inv.Grep grep) ≡ true → SelectsPart (inv.Grep grep) seam.Lines (own (inv.Grep grep))
  grep-selects built front back cut =
      either-part (selects grep.args (front ++ back)) (selects grep.args front) (selects grep.args back) (selects-join grep.args label front back cut)

  pub grep-closed : is_no_count grep.args.report ≡ true → KeepsClosed (inv.Grep grep)
  grep-closed plain =
      keeps (inv.Grep grep) grep-writes (λ built text closed. written-closed grep.args label plain text) (λ built. written-none grep.args label plain)

  by_report : (report : Report) (numbers : Bool) → grep.args.report ≡ report → grep.args.numbers ≡ numbers → has_at_most_one grep.args.operands ≡ true
      → IsOfClass (report_class report numbers) (inv.Grep grep)
  by_report report.Lines true is numbered few = tt
  by_report report.Lines false is plain few = stateless (inv.Grep grep) seam.Lines grep-writes (λ built. lines-join grep.args label is plain) grep-selects
  by_report report.Count numbers is numbered few = parallel (inv.Grep grep) grep-writes (λ built. counts-join grep.args label is few) grep-selects
  by_report report.Path numbers is numbered few = tt
  by_report report.Nothing numbers is numbered few =
      stateless (inv.Grep grep) seam.Lines grep-writes (λ built front back cut. nothing-joins grep.args label is front back) grep-selects

-- tr
tr-bytes : (tr : TrInv) (squeezes : Bool) → tr.args.squeezes ≡ squeezes → IsOfClass (if squeezes then class.P else class.S seam.Bytes) (inv.Tr tr)
tr-bytes tr true squeezes =
    parallel (inv.Tr tr) (λ built text. append-nil (tr_output tr.args text)) (λ built front back cut. tr-parts tr.args front back) (λ built front back cut. refl)
tr-bytes tr false squeezes =
    stateless (inv.Tr tr) seam.Bytes (λ built text. append-nil (tr_output tr.args text)) (λ built front back cut. tr-joins tr.args squeezes front back)
    (λ built front back cut. refl)

tr-keeps : (tr : TrInv) → keeps_newline tr.args ≡ true → KeepsClosed (inv.Tr tr)
tr-keeps tr keeps_it =
    keeps (inv.Tr tr) (λ built text. append-nil (tr_output tr.args text)) (λ built. tr-closed tr.args keeps_it) (λ built. tr-none tr.args)

-- cut
cut-lines : (cut : CutInv) → IsStateless seam.Lines (inv.Cut cut)
cut-lines cut =
    stateless (inv.Cut cut) seam.Lines (λ built text. append-nil (cut_output cut.args text)) (λ built. cut-joins cut.args) (λ built front back cut. refl)

cut-keeps : (cut : CutInv) → KeepsClosed (inv.Cut cut)
cut-keeps cut =
    keeps (inv.Cut cut) (λ built text. append-nil (cut_output cut.args text)) (λ built text closed. cut-closed cut.args text) (λ built. refl)

-- head of one input
head-whole : (head : HeadInv) → has_at_most_one head.args.operands ≡ true → (text : List ℕ)
    → (utility_by (command.Head head.args)).output (labelled (names_of (inv.Head head)) (text ∷ [])) ≡ first_lines head.args.count text
head-whole head few text =
    cond-true (has_at_most_one head.args.operands) (first_lines head.args.count text ++ []) (headed true head.args.count (labelled (names_of (inv.Head head)) (text ∷ []))) few
    ∙ append-nil (first_lines head.args.count text)

head-parallel : (head : HeadInv) → has_at_most_one head.args.operands ≡ true → IsParallel (inv.Head head)
head-parallel head few =
    parallel (inv.Head head) (λ built. head-whole head few) (λ built front back cut. first-of_parts head.args.count front back cut) (λ built front back cut. refl)

-- tail from the end
tail-origin : (tail : TailInv) (from : Origin) → tail.args.part.origin ≡ from → IsOfClass (origin_class from) (inv.Tail tail)
tail-origin tail (origin.Start number) is = tt
tail-origin tail (origin.End number) is =
    parallel (inv.Tail tail) (λ built text. append-nil (tail_output tail.args text)) (λ built. joined) (λ built front back cut. refl)
  where
    joined : (front back : List ℕ) → MayBeCut seam.Lines front back → tail_output tail.args (front ++ back) ≡ tail_output tail.args (tail_output tail.args front ++ tail_output tail.args back)
    joined front back cut =
        subst (λ from. tail_by tail.args.part.unit from (front ++ back) ≡ tail_by tail.args.part.unit from (tail_by tail.args.part.unit from front ++ tail_by tail.args.part.unit from back))
        (sym is) (last-of-parts tail.args.part.unit number front back cut)

-- wc
wc-whole : (wc : WcInv) → has_at_most_one wc.args.operands ≡ true → (text : List ℕ)
    → (utility_by (command.Wc wc.args)).output (labelled (names_of (inv.Wc wc)) (text ∷ [])) ≡ wc_line wc.args (name_in wc.args.operands) text
wc-whole wc few text =
    ap (λ sums. (wc_line wc.args (name_in wc.args.operands) text ++ []) ++ sums) (total-none wc.args (labelled (names_of (inv.Wc wc)) (text ∷ [])) few)
    ∙ append-nil (wc_line wc.args (name_in wc.args.operands) text ++ []) ∙ append-nil (wc_line wc.args (name_in wc.args.operands) text)

pub wc-parallel : (wc : WcInv) → has_at_most_one wc.args.operands ≡ true → IsParallel (inv.Wc wc)
wc-parallel wc few =
    parallel (inv.Wc wc) (λ built text. wc-whole wc few text ∙ line-named (columns_of wc.args) (counts_of text) (name_in wc.args.operands))
    (λ built. wc-joined (columns_of wc.args)) (λ built front back cut. refl)

-- uniq
uniq-parallel : (uniq : UniqInv) → IsParallel (inv.Uniq uniq)
uniq-parallel uniq =
    parallel (inv.Uniq uniq) (λ built text. append-nil (uniq_output uniq.args text) ∙ uniq-finished uniq.args text) (λ built. uniq-joined uniq.args)
    (λ built front back cut. refl)

-- sort
sort-parallel : (sort : SortInv) → IsParallel (inv.Sort sort)
sort-parallel sort =
    parallel (inv.Sort sort) (λ built text. append-nil (sorted_text sort.args text)) (λ built front back cut. sorted_text-joins sort.args front back cut)
    (λ built front back cut. refl)

-- each invocation
pub is-of-class : (inv : Inv) → IsOfClass (class_of inv) inv
is-of-class (inv.Cat cat) = stateless (inv.Cat cat) seam.Bytes (λ built text. append-nil text) (λ built front back cut. refl) (λ built front back cut. refl)
is-of-class (inv.Grep grep) = of-one (inv.Grep grep) grep.args.operands (report_class grep.args.report grep.args.numbers) (by_report grep grep.args.report grep.args.numbers refl refl)
is-of-class (inv.Tr tr) = tr-bytes tr tr.args.squeezes refl
is-of-class (inv.Cut cut) = cut-lines cut
is-of-class (inv.Head head) = of-one (inv.Head head) head.args.operands class.P (head-parallel head)
is-of-class (inv.Tail tail) = tail-origin tail tail.args.part.origin refl
is-of-class (inv.Wc wc) = of-one (inv.Wc wc) wc.args.operands class.P (wc-parallel wc)
is-of-class (inv.Uniq uniq) = uniq-parallel uniq
is-of-class (inv.Sort sort) = sort-parallel sort
is-of-class (inv.Paste paste) = tt
is-of-class (inv.Tee tee) = tt
is-of-class other = unbuilt other refl (class_of other)

pub keeps-closed : (inv : Inv) → keeps_closed_of inv ≡ true → KeepsClosed inv
keeps-closed (inv.Cat cat) keeps_it = keeps (inv.Cat cat) (λ built text. append-nil text) (λ built text closed. closed) (λ built. refl)
keeps-closed (inv.Grep grep) keeps_it = grep-closed grep (and_parts (has_at_most_one grep.args.operands) (is_no_count grep.args.report) keeps_it).1
keeps-closed (inv.Tr tr) keeps_it = tr-keeps tr keeps_it
keeps-closed (inv.Cut cut) keeps_it = cut-keeps cut
keeps-closed (inv.Head head) keeps_it = absurd (true≢false (sym keeps_it))
keeps-closed (inv.Tail tail) keeps_it = absurd (true≢false (sym keeps_it))
keeps-closed (inv.Wc wc) keeps_it = absurd (true≢false (sym keeps_it))
keeps-closed (inv.Uniq uniq) keeps_it = absurd (true≢false (sym keeps_it))
keeps-closed (inv.Sort sort) keeps_it = absurd (true≢false (sym keeps_it))
keeps-closed (inv.Paste paste) keeps_it = absurd (true≢false (sym keeps_it))
keeps-closed (inv.Tee tee) keeps_it = absurd (true≢false (sym keeps_it))
keeps-closed other keeps_it = unbuilt-closed other refl

-- what those that are built make of a part
pub built-utility : (inv : Inv) → is_built_of inv ≡ true → utility_of inv ≡ utility_by (command_of inv)
built-utility inv built = cond-true (is_built_of inv) (utility_by (command_of inv)) silent built

pub grep-map : (grep : GrepInv) (text : List ℕ) → map_of (inv.Grep grep) text ≡ written grep.args (label_in grep.args.operands) text
grep-map grep text = ap (λ utility. utility.part text) (built-utility (inv.Grep grep) refl)

pub grep-selected : (grep : GrepInv) (text : List ℕ) → selects_of (inv.Grep grep) (text ∷ []) ≡ selects grep.args text
grep-selected grep text =
    ap (λ utility. utility.selects (labelled (names_of (inv.Grep grep)) (text ∷ []))) (built-utility (inv.Grep grep) refl) ∙ or-none (selects grep.args text)

pub tr-map : (tr : TrInv) (text : List ℕ) → map_of (inv.Tr tr) text ≡ tr_output tr.args text
tr-map tr text = ap (λ utility. utility.part text) (built-utility (inv.Tr tr) refl)

pub head-map : (head : HeadInv) (text : List ℕ) → map_of (inv.Head head) text ≡ first_lines head.args.count text
head-map head text = ap (λ utility. utility.part text) (built-utility (inv.Head head) refl)

pub tail-map : (tail : TailInv) → is_built_tail tail.args ≡ true → (text : List ℕ) → map_of (inv.Tail tail) text ≡ tail_output tail.args text
tail-map tail built text = ap (λ utility. utility.part text) (built-utility (inv.Tail tail) built)

pub wc-map : (wc : WcInv) (text : List ℕ) → map_of (inv.Wc wc) text ≡ wc_line wc.args [] text
wc-map wc text = ap (λ utility. utility.part text) (built-utility (inv.Wc wc) refl)

pub wc-joins : (wc : WcInv) (first second : List ℕ)
    → joined_maps (inv.Wc wc) first second ≡ counts_line (columns_of wc.args) (added (counts_on (columns_of wc.args) first) (counts_on (columns_of wc.args) second)) []
wc-joins wc first second = ap (λ utility. utility.aggregate first second) (built-utility (inv.Wc wc) refl)

pub wc-finish : (wc : WcInv) (text : List ℕ) → finish_of (inv.Wc wc) text ≡ with_name (name_in wc.args.operands) text
wc-finish wc text = ap (λ utility. utility.finish text) (built-utility (inv.Wc wc) refl)

pub uniq-map : (uniq : UniqInv) → is_built_uniq uniq.args ≡ true → (text : List ℕ) → map_of (inv.Uniq uniq) text ≡ uniq_part uniq.args text
uniq-map uniq built text = ap (λ utility. utility.part text) (built-utility (inv.Uniq uniq) built)

pub uniq-output : (uniq : UniqInv) → is_built_uniq uniq.args ≡ true → (text : List ℕ) → output_of (inv.Uniq uniq) (text ∷ []) ≡ uniq_output uniq.args text
uniq-output uniq built text =
    ap (λ utility. utility.output (labelled (names_of (inv.Uniq uniq)) (text ∷ []))) (built-utility (inv.Uniq uniq) built) ∙ append-nil (uniq_output uniq.args text)

pub uniq-joins : (uniq : UniqInv) → is_built_uniq uniq.args ≡ true → (first second : List ℕ) → joined_maps (inv.Uniq uniq) first second ≡ uniq_joined uniq.args first second
uniq-joins uniq built first second = ap (λ utility. utility.aggregate first second) (built-utility (inv.Uniq uniq) built)

pub uniq-finish : (uniq : UniqInv) → is_built_uniq uniq.args ≡ true → (text : List ℕ) → finish_of (inv.Uniq uniq) text ≡ uniq_finish uniq.args.groups text
uniq-finish uniq built text = ap (λ utility. utility.finish text) (built-utility (inv.Uniq uniq) built)

-- where nothing is selected, no input has anything that is
none-selected : (inputs : List Input) → list_any (λ (input : Input). false) inputs ≡ false
none-selected [] = refl
none-selected (input ∷ inputs) = none-selected inputs

-- the texts of inputs that have names
labelled-texts : (names texts : List (List ℕ)) → map (λ (input : Input). input.text) (labelled names texts) ≡ texts
labelled-texts names [] = refl
labelled-texts names (text ∷ texts) = ap (λ rest. text ∷ rest) (labelled-texts (drop 1 names) texts)

-- what those of several inputs write and select
module _ (texts : List (List ℕ)) where
  pub grep-output : (grep : GrepInv) → output_of (inv.Grep grep) texts ≡ flat_map (λ input. written grep.args input.label input.text) (labelled (filter is_named grep.args.operands) texts)
  grep-output one = ap (λ utility. utility.output (labelled (names_of (inv.Grep one)) texts)) (built-utility (inv.Grep one) refl)

  pub grep-selects_any : (grep : GrepInv) → selects_of (inv.Grep grep) texts ≡ list_any (λ input. selects grep.args input.text) (labelled (filter is_named grep.args.operands) texts)
  grep-selects_any one = ap (λ utility. utility.selects (labelled (names_of (inv.Grep one)) texts)) (built-utility (inv.Grep one) refl)

  pub head-output : (head : HeadInv) → output_of (inv.Head head) texts ≡ head_output head.args (labelled (filter is_named head.args.operands) texts)
  head-output one = ap (λ utility. utility.output (labelled (names_of (inv.Head one)) texts)) (built-utility (inv.Head one) refl)

  pub head-selects : (head : HeadInv) → selects_of (inv.Head head) texts ≡ false
  head-selects one =
      ap (λ utility. utility.selects (labelled (names_of (inv.Head one)) texts)) (built-utility (inv.Head one) refl) ∙ none-selected (labelled (names_of (inv.Head one)) texts)

  pub wc-output : (wc : WcInv) → output_of (inv.Wc wc) texts ≡ wc_output wc.args (labelled (filter is_named wc.args.operands) texts)
  wc-output one = ap (λ utility. utility.output (labelled (names_of (inv.Wc one)) texts)) (built-utility (inv.Wc one) refl)

  pub wc-selects : (wc : WcInv) → selects_of (inv.Wc wc) texts ≡ false
  wc-selects one = ap (λ utility. utility.selects (labelled (names_of (inv.Wc one)) texts)) (built-utility (inv.Wc one) refl)

  pub paste-output : (paste : PasteInv) → output_of (inv.Paste paste) texts ≡ paste_output paste.args texts
  paste-output one =
      ap (λ utility. utility.output (labelled (names_of (inv.Paste one)) texts)) (built-utility (inv.Paste one) refl) ∙ ap (paste_output one.args) (labelled-texts (names_of (inv.Paste one)) texts)

  pub paste-selects : (paste : PasteInv) → selects_of (inv.Paste paste) texts ≡ false
  paste-selects one =
      ap (λ utility. utility.selects (labelled (names_of (inv.Paste one)) texts)) (built-utility (inv.Paste one) refl) ∙ none-selected (labelled (names_of (inv.Paste one)) texts)

pub ruleset class_laws = (is-of-class)
