-- Marks of files: nothing that a segment is asked for hangs on them, and those that are set hold.
use Rattle.std.proofs.Common.{◌≡◌, ℕ, ◌+◌, List, [], ◌∷◌, ◌++◌, Bool, true, false, ◌&&◌, ◌||◌, ◌==◌, nat_le, if◌then◌else◌, length, map, get_or, slice_set, append_assoc, Option, Some, None, IfSome, refl, sym, ap, subst, ◌∙◌}
use Rattle.std.specs.List.{count_by, filter_map, list_all, list_any}
use Rattle.std.proofs.lemmas.Bool.{and_from, and_parts}
use Rattle.std.proofs.lemmas.List.{length-map}
use Rattle.std.proofs.lemmas.List.Folds.{list_all-append}
use Rattle.std.proofs.lemmas.List.Sums.{sum_by-cons}
use Rattle.ps_lines.specs.Lines.{is_closed}
use Rattle.ps_world.specs.Files.{Files, NoWriterOut, bytes_at}
use Rattle.ps_world.specs.Paths.{Components}
use Rattle.ut_args.specs.Built.{is_built_of}
use Rattle.ut_args.specs.Inputs.{inputs_of}
use Rattle.ut_args.specs.Invocations.{command_of}
use Rattle.ut_args.specs.declared.invocations.Inv.{Inv}
use Rattle.fl_graph.specs.Paths.{ArePathsApart}
use Rattle.fl_classes.specs.Flow.{Outcome}
use Rattle.fl_segments.specs.Chains.{begins_with, chain_means, stage_means, stage_of, text_in, then_left}
use Rattle.fl_segments.specs.Groups.{holds_mark, marks_hold}
use Rattle.fl_segments.specs.Noted.{Noted, noted_by, noted_in}
use Rattle.fl_segments.specs.Stages.{file_in, file_out, files_read, files_written, fits, ins_of, ins_read, is_none, is_reader, is_shell_input, is_stage, is_stream, is_tee, read_of, reads_stream}
use Rattle.fl_segments.specs.declared.stages.Does.{Does}
use Rattle.fl_segments.specs.declared.stages.Does.TheVariants as does
use Rattle.fl_segments.specs.declared.stages.First.{First}
use Rattle.fl_segments.specs.declared.stages.In.{In}
use Rattle.fl_segments.specs.declared.stages.In.TheVariants as inlet
use Rattle.fl_segments.specs.declared.stages.Stage.{Stage}
use Rattle.fl_commands.specs.Inner.Marks.{AreMarkedOf, unmarked, unmarked_stage}
use Rattle.fl_commands.specs.Inner.Segments.{AllThere, segment_asks}
use Rattle.fl_commands.specs.Inner.Stages.{AreStagesOf, IsStageOf}
use Rattle.fl_commands.specs.Operands.{deals, in_at, in_standard, ins_from}
use Rattle.fl_commands.specs.Operands.{ins_of as ins_named}
use Rattle.fl_commands.specs.Readers.{AreThere, IsThere}
use Rattle.fl_commands.specs.Members.{AllCanRun, AllNamesStand, files_named, files_teed}
use Rattle.fl_commands.specs.Writers.{AreWrittenApart}
use Rattle.fl_engines.specs.OwnEnds.{texts_for}
use Rattle.fl_commands.specs.Runs.{pipeline_asks}
use Rattle.fl_commands.proofs.StageLemmas.{all-apart, as-many-stages}
use Rattle.fl_commands.proofs.StageLemmas.{all-asks as asks-of, all-stages as stages-of, all-there as there-by, all-written as written-by}
use Rattle.fl_commands.specs.declared.members.Member.{Member}
use Rattle.fl_commands.specs.declared.operands.Operand.{Operand}
use Rattle.fl_commands.specs.declared.operands.Operand.TheVariants as operand
use Rattle.ps_world.specs.declared.places.Place.{Place}
use Rattle.ps_world.specs.declared.places.Place.TheVariants as place

-- WHAT HANGS ON NO MARK: of inputs
same-texts : (stream : List ℕ) (files : Components → List ℕ) (ins : List In) → map (text_in stream files) (map unmarked ins) ≡ map (text_in stream files) ins
same-texts stream files [] = refl
same-texts stream files (inlet.Stream ∷ ins) = ap (λ (rest : List (List ℕ)). stream ∷ rest) (same-texts stream files ins)
same-texts stream files (inlet.File path closed ∷ ins) = ap (λ (rest : List (List ℕ)). files path ∷ rest) (same-texts stream files ins)
same-texts stream files (inlet.Empty ∷ ins) = ap (λ (rest : List (List ℕ)). [] ∷ rest) (same-texts stream files ins)

same-any : (ins : List In) → list_any is_stream (map unmarked ins) ≡ list_any is_stream ins
same-any [] = refl
same-any (inlet.Stream ∷ ins) = refl
same-any (inlet.File path closed ∷ ins) = same-any ins
same-any (inlet.Empty ∷ ins) = same-any ins

same-count : (ins : List In) → count_by is_stream (map unmarked ins) ≡ count_by is_stream ins
same-count [] = refl
same-count (it ∷ ins) =
    sum_by-cons (λ (it : In). if is_stream it then 1 else 0) (unmarked it) (map unmarked ins)
    ∙ ap (λ here. (if here then 1 else 0) + count_by is_stream (map unmarked ins)) (same-one it) ∙ ap (λ rest. (if is_stream it then 1 else 0) + rest) (same-count ins)
    ∙ sym (sum_by-cons (λ (it : In). if is_stream it then 1 else 0) it ins)
  where
    same-one : (it : In) → is_stream (unmarked it) ≡ is_stream it
    same-one inlet.Stream = refl
    same-one (inlet.File path closed) = refl
    same-one inlet.Empty = refl

same-files : (ins : List In) → filter_map file_in (map unmarked ins) ≡ filter_map file_in ins
same-files [] = refl
same-files (inlet.Stream ∷ ins) = same-files ins
same-files (inlet.File path closed ∷ ins) = ap (λ (rest : List Components). path ∷ rest) (same-files ins)
same-files (inlet.Empty ∷ ins) = same-files ins

there-in : (files : Files) (ins : List In) → AreThere files ins → AreThere files (map unmarked ins)
there-in files [] there = tt
there-in files (inlet.Stream ∷ ins) there = (tt, there-in files ins there.1)
there-in files (inlet.File path closed ∷ ins) there = (there.0, there-in files ins there.1)
there-in files (inlet.Empty ∷ ins) there = (tt, there-in files ins there.1)

there-out : (files : Files) (ins : List In) → AreThere files (map unmarked ins) → AreThere files ins
there-out files [] there = tt
there-out files (inlet.Stream ∷ ins) there = (tt, there-out files ins there.1)
there-out files (inlet.File path closed ∷ ins) there = (there.0, there-out files ins there.1)
there-out files (inlet.Empty ∷ ins) there = (tt, there-out files ins there.1)

-- of stages
is-stage : (stage : Stage) → is_stage (unmarked_stage stage) ≡ is_stage stage
is-stage stage = by_does stage.does
  where
    by_does : (it : Does) → fits it (map unmarked stage.ins) stage.tees ≡ fits it stage.ins stage.tees
    by_does does.Skip = refl
    by_does (does.Util inv) =
        ap (λ (count : ℕ). is_built_of inv && ((inputs_of inv == read_of inv count) && (nat_le (count_by is_stream (map unmarked stage.ins)) 1 && (is_tee inv || is_none stage.tees)))) (length-map stage.ins unmarked)
        ∙ ap (λ (count : ℕ). is_built_of inv && ((inputs_of inv == read_of inv (length stage.ins)) && (nat_le count 1 && (is_tee inv || is_none stage.tees)))) (same-count stage.ins)

stage-means : (stage : Stage) (stream : List ℕ) (files : Components → List ℕ) → stage_means (unmarked_stage stage) stream files ≡ stage_means stage stream files
stage-means stage stream files = ap (stage_of stage) (same-texts stream files stage.ins)

stage-reads : (stage : Stage) → is_reader (unmarked_stage stage) ≡ is_reader stage
stage-reads stage = by_does stage.does
  where
    by_does : (it : Does) → list_any is_stream (ins_read it (map unmarked stage.ins)) ≡ list_any is_stream (ins_read it stage.ins)
    by_does does.Skip = refl
    by_does (does.Util inv) = same-any stage.ins

stage-files : (stage : Stage) → filter_map file_in (ins_of (unmarked_stage stage)) ≡ filter_map file_in (ins_of stage)
stage-files stage = by_does stage.does
  where
    by_does : (it : Does) → filter_map file_in (ins_read it (map unmarked stage.ins)) ≡ filter_map file_in (ins_read it stage.ins)
    by_does does.Skip = refl
    by_does (does.Util inv) = same-files stage.ins

stage-there : (files : Files) (stage : Stage) → AreThere files (ins_of stage) → AreThere files (ins_of (unmarked_stage stage))
stage-there files stage = by_does stage.does
  where
    by_does : (it : Does) → AreThere files (ins_read it stage.ins) → AreThere files (ins_read it (map unmarked stage.ins))
    by_does does.Skip there = tt
    by_does (does.Util inv) there = there-in files stage.ins there

stage-back : (files : Files) (stage : Stage) → AreThere files (ins_of (unmarked_stage stage)) → AreThere files (ins_of stage)
stage-back files stage = by_does stage.does
  where
    by_does : (it : Does) → AreThere files (ins_read it (map unmarked stage.ins)) → AreThere files (ins_read it stage.ins)
    by_does does.Skip there = tt
    by_does (does.Util inv) there = there-out files stage.ins there

-- and of segments
all-stages : (segment : List Stage) → list_all is_stage (map unmarked_stage segment) ≡ list_all is_stage segment
all-stages [] = refl
all-stages (stage ∷ segment) = ap (λ (here : Bool). here && list_all is_stage (map unmarked_stage segment)) (is-stage stage) ∙ ap (λ (rest : Bool). is_stage stage && rest) (all-stages segment)

all-read : (segment : List Stage) → files_read (map unmarked_stage segment) ≡ files_read segment
all-read [] = refl
all-read (stage ∷ segment) =
    ap (λ (here : List Components). here ++ files_read (map unmarked_stage segment)) (stage-files stage) ∙ ap (λ (rest : List Components). filter_map file_in (ins_of stage) ++ rest) (all-read segment)

all-written : (segment : List Stage) → files_written (map unmarked_stage segment) ≡ files_written segment
all-written [] = refl
all-written (stage ∷ segment) = ap (λ (rest : List Components). (stage.tees ++ file_out stage.out) ++ rest) (all-written segment)

all-noted : (segment : List Stage) → noted_in (map unmarked_stage segment) ≡ noted_in segment
all-noted [] = refl
all-noted (stage ∷ segment) = ap (λ (rest : List Noted). noted_by stage.does ++ rest) (all-noted segment)

all-means : (segment : List Stage) (stream : List ℕ) (files : Components → List ℕ) → chain_means (map unmarked_stage segment) stream files ≡ chain_means segment stream files
all-means [] stream files = refl
all-means (stage ∷ []) stream files = stage-means stage stream files
all-means (stage ∷ next ∷ segment) stream files =
    ap (λ (means : Outcome). then_left means (chain_means (map unmarked_stage (next ∷ segment)) means.output files)) (stage-means stage stream files)
    ∙ ap (then_left (stage_means stage stream files)) (all-means (next ∷ segment) (stage_means stage stream files).output files)

first-reads : (segment : List Stage) → reads_stream (map unmarked_stage segment) ≡ reads_stream segment
first-reads [] = refl
first-reads (stage ∷ segment) = stage-reads stage

all-there : (files : Files) (segment : List Stage) → AllThere files segment → AllThere files (map unmarked_stage segment)
all-there files [] there = tt
all-there files (stage ∷ segment) there = (stage-there files stage there.0, all-there files segment there.1)

all-back : (files : Files) (segment : List Stage) → AllThere files (map unmarked_stage segment) → AllThere files segment
all-back files [] there = tt
all-back files (stage ∷ segment) there = (stage-back files stage there.0, all-back files segment there.1)

all-asks : (from : First) (segment : List Stage) → segment_asks (map unmarked_stage segment) from ≡ segment_asks segment from
all-asks from segment = λ i. record {
  output = λ input files. (all-means segment (begins_with from input) (bytes_at files) i).output;
  status = λ input files. (all-means segment (begins_with from input) (bytes_at files) i).status;
  reads = is_shell_input from && first-reads segment i;
  noted = all-noted segment i;
  paths = all-written segment i;
  texts = λ input files. texts_for (all-means segment (begins_with from input) (bytes_at files) i).files;
}

-- so it is the same of segments that are alike but for marks
alike : {Value : Type 0} (value : List Stage → Value) → ((segment : List Stage) → value (map unmarked_stage segment) ≡ value segment) → (one other : List Stage) → map unmarked_stage one ≡ map unmarked_stage other
    → value one ≡ value other
alike value same one other is = sym (same one) ∙ ap value is ∙ same other

module _ (one other : List Stage) (is : map unmarked_stage one ≡ map unmarked_stage other) where
  pub marked-count : length one ≡ length other
  marked-count = sym (length-map one unmarked_stage) ∙ ap length is ∙ length-map other unmarked_stage

  pub marked-stages : list_all is_stage one ≡ list_all is_stage other
  marked-stages = alike (list_all is_stage) all-stages one other is

  pub marked-read : files_read one ≡ files_read other
  marked-read = alike files_read all-read one other is

  pub marked-written : files_written one ≡ files_written other
  marked-written = alike files_written all-written one other is

  pub marked-asks : (from : First) → segment_asks one from ≡ segment_asks other from
  marked-asks from = alike (λ (segment : List Stage). segment_asks segment from) (all-asks from) one other is

  pub marked-there : (held : Option Files) → IfSome held (λ files. AllThere files other) → IfSome held (λ files. AllThere files one)
  marked-there None there = tt
  marked-there (Some files) there = all-back files one (subst (AllThere files) (sym is) (all-there files other there))

-- MARKS THAT ARE SET
-- one more input
pub marks-more : (files : Components → List ℕ) (all : List In) (one : In) → list_all (holds_mark files) all ≡ true → holds_mark files one ≡ true → list_all (holds_mark files) (all ++ one ∷ []) ≡ true
marks-more files all one marks mark =
    list_all-append (holds_mark files) all (one ∷ []) ∙ and_from (list_all (holds_mark files) all) (holds_mark files one && true) marks (and_from (holds_mark files one) true mark refl)

pub unmarked-more : (all : List In) (one it : In) → unmarked one ≡ unmarked it → map unmarked (all ++ one ∷ []) ≡ map unmarked all ++ unmarked it ∷ []
unmarked-more [] one it same = ap (λ (first : In). first ∷ []) same
unmarked-more (first ∷ all) one it same = ap (λ (rest : List In). unmarked first ∷ rest) (unmarked-more all one it same)

pub ruleset mark_steps = (marks-more, unmarked-more)

-- a file is marked where it is closed
pub mark-holds : (held : Option Files) (files : Files) (path copy : Components) (closed : Bool) → copy ≡ path → IfSome held (λ files. closed ≡ is_closed (bytes_at files path)) → held ≡ Some files
    → holds_mark (bytes_at files) (inlet.File copy closed) ≡ true
mark-holds held files path copy closed same is told =
    by_closed closed (ap (λ (path : Components). is_closed (bytes_at files path)) same ∙ sym (subst (λ (held : Option Files). IfSome held (λ files. closed ≡ is_closed (bytes_at files path))) told is))
  where
    by_closed : (closed : Bool) → is_closed (bytes_at files copy) ≡ closed → holds_mark (bytes_at files) (inlet.File copy closed) ≡ true
    by_closed true closed_is = closed_is
    by_closed false closed_is = refl

-- inputs one after the other
pub there-first : (held : Option Files) (left rest : List In) (it : In) → left ≡ it ∷ rest → IfSome held (λ files. AreThere files left) → IfSome held (λ files. IsThere files it)
there-first None left rest it is there = tt
there-first (Some files) left rest it is there = (subst (AreThere files) is there).0

pub there-rest : (held : Option Files) (left rest : List In) (it : In) → left ≡ it ∷ rest → IfSome held (λ files. AreThere files left) → IfSome held (λ files. AreThere files rest)
there-rest None left rest it is there = tt
there-rest (Some files) left rest it is there = (subst (AreThere files) is there).1

pub ins-next : (all new left rest ins : List In) (it : In) → left ≡ it ∷ rest → map unmarked new ≡ map unmarked all ++ unmarked it ∷ [] → map unmarked all ++ map unmarked left ≡ map unmarked ins
    → map unmarked new ++ map unmarked rest ≡ map unmarked ins
ins-next all new left rest ins it is more before =
    ap (λ (front : List In). front ++ map unmarked rest) more ∙ append_assoc (map unmarked all) (unmarked it ∷ []) (map unmarked rest)
    ∙ ap (λ (left : List In). map unmarked all ++ map unmarked left) (sym is) ∙ before

-- the first stage is marked
pub set-same : (segment : List Stage) (new spare : Stage) → unmarked_stage new ≡ unmarked_stage (get_or segment 0 spare) → map unmarked_stage (slice_set segment 0 new) ≡ map unmarked_stage segment
set-same [] new spare same = refl
set-same (stage ∷ segment) new spare same = ap (λ (first : Stage). first ∷ map unmarked_stage segment) same

pub set-marks : (files : Components → List ℕ) (segment : List Stage) (new : Stage) → marks_hold files segment ≡ true → list_all (holds_mark files) new.ins ≡ true → marks_hold files (slice_set segment 0 new) ≡ true
set-marks files [] new marks here = refl
set-marks files (stage ∷ segment) new marks here =
    and_from (list_all (holds_mark files) (ins_of new)) (marks_hold files segment) (by_does new.does) (and_parts (list_all (holds_mark files) (ins_of stage)) (marks_hold files segment) marks).1
  where
    by_does : (it : Does) → list_all (holds_mark files) (ins_read it new.ins) ≡ true
    by_does does.Skip = refl
    by_does (does.Util inv) = here

-- STAGES AS THEY ARE MADE have no marks
no-marks : (files : Components → List ℕ) (front back : List In) → list_all (holds_mark files) front ≡ true → list_all (holds_mark files) back ≡ true → list_all (holds_mark files) (front ++ back) ≡ true
no-marks files front back first second = list_all-append (holds_mark files) front back ∙ and_from (list_all (holds_mark files) front) (list_all (holds_mark files) back) first second

from-none : (files : Components → List ℕ) (deals is_taken : Bool) (operands : List Operand) → list_all (holds_mark files) (ins_from deals is_taken operands) ≡ true
from-none files deals is_taken [] = refl
from-none files deals is_taken (operand.Standard ∷ operands) = no-marks files (in_standard deals is_taken) (ins_from deals true operands) (of_standard is_taken deals) (from-none files deals true operands)
  where
    of_standard : (is_taken deals : Bool) → list_all (holds_mark files) (in_standard deals is_taken) ≡ true
    of_standard false deals = refl
    of_standard true true = refl
    of_standard true false = refl
from-none files deals is_taken (operand.At at ∷ operands) = no-marks files (in_at at) (ins_from deals is_taken operands) (of_place at) (from-none files deals is_taken operands)
  where
    of_place : (at : Place) → list_all (holds_mark files) (in_at at) ≡ true
    of_place place.Missing = refl
    of_place (place.Makeable path) = refl
    of_place (place.Dir path) = refl
    of_place (place.File path) = refl
    of_place place.Null = refl

named-none : (files : Components → List ℕ) (deals : Bool) (operands : List Operand) → list_all (holds_mark files) (ins_named deals operands) ≡ true
named-none files deals [] = refl
named-none files deals (first ∷ rest) = from-none files deals false (first ∷ rest)

stage-none : (files : Components → List ℕ) (inv' : Inv) (operands : List Operand) (tees : List Components) (stage : Stage) → IsStageOf inv' operands tees stage → list_all (holds_mark files) (ins_of stage) ≡ true
stage-none files inv' operands tees stage one = ap (λ (it : Stage). list_all (holds_mark files) (ins_of it)) one.is ∙ named-none files (deals (command_of inv')) operands

pub one-none : (files : Components → List ℕ) (inv' : Inv) (operands : List Operand) (tees : List Components) (stage : Stage) → IsStageOf inv' operands tees stage → marks_hold files (stage ∷ []) ≡ true
one-none files inv' operands tees stage one = and_from (list_all (holds_mark files) (ins_of stage)) true (stage-none files inv' operands tees stage one) refl

pub stages-none : (files : Components → List ℕ) (members : List Member) (stages : List Stage) → AreStagesOf members stages → marks_hold files stages ≡ true
stages-none files [] [] are = refl
stages-none files [] (stage ∷ stages) are = absurd are
stages-none files (member ∷ members) [] are = absurd are
stages-none files (member ∷ members) (stage ∷ stages) are =
    and_from (list_all (holds_mark files) (ins_of stage)) (marks_hold files stages) (stage-none files member.inv member.operands.items member.tees.items stage are.0) (stages-none files members stages are.1)

-- THE STAGES OF A PIPELINE, some of whose files may be marked
module _ (members : List Member) (stages : List Stage) (so : AreMarkedOf members stages) where
  pub members-count : length stages ≡ length members
  members-count = marked-count stages so.plain so.same ∙ as-many-stages members so.plain so.are

  pub members-written : files_written stages ≡ files_teed members
  members-written = marked-written stages so.plain so.same ∙ written-by members so.plain so.are

  pub members-stages : AllCanRun members → list_all is_stage stages ≡ true
  members-stages can = marked-stages stages so.plain so.same ∙ stages-of members so.plain so.are can

  pub members-apart : AllCanRun members → AreWrittenApart (files_named members) (files_teed members) → ArePathsApart (files_read stages) (files_written stages)
  members-apart can apart =
      subst (λ (read : List Components). ArePathsApart read (files_written stages)) (sym (marked-read stages so.plain so.same))
      (subst (ArePathsApart (files_read so.plain)) (sym (marked-written stages so.plain so.same)) (all-apart members so.plain so.are can apart))

  pub members-there : (held : Option Files) → IfSome held NoWriterOut → IfSome held (λ files. AllNamesStand files members) → IfSome held (λ files. AllThere files stages)
  members-there held whole stand = marked-there stages so.plain so.same held (there-by held members so.plain so.are whole stand)

  pub members-asks : AllCanRun members → (from : First) → segment_asks stages from ≡ pipeline_asks members from
  members-asks can from = marked-asks stages so.plain so.same from ∙ asks-of members so.plain so.are can from
