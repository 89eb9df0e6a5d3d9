-- Stages of a pipeline that are utilities, behind all expansion (XCU 2.9.2): what each reads, and where its output goes.
use Rattle.std.specs.Prelude.{ℕ, List, [], ◌∷◌, ◌++◌, Bool, true, false, not, ◌&&◌, ◌||◌, ◌==◌, nat_le, length, if◌then◌else◌, Option, Some, None, replicate}
use Rattle.std.specs.List.{count_by, filter_map, flat_map, list_any}
use Rattle.ps_lines.specs.Lines.{is_empty}
use Rattle.ps_world.specs.Paths.{Components}
use Rattle.ut_args.specs.Built.{is_built_of}
use Rattle.ut_args.specs.Classes.{class_of}
use Rattle.ut_args.specs.Inputs.{inputs_of}
use Rattle.ut_args.specs.Invocations.{command_of}
use Rattle.ut_args.specs.declared.commands.Command.{Command}
use Rattle.ut_args.specs.declared.commands.Command.TheVariants as command
use Rattle.ut_args.specs.declared.invocations.Inv.{Inv}
use Rattle.ut_args.specs.declared.invocations.Inv.TheVariants as inv
use Rattle.ut_args.specs.declared.classes.Class.{Class}
use Rattle.ut_args.specs.declared.commands.Groups.{Groups}
use Rattle.ut_args.specs.declared.commands.Groups.TheVariants as groups
use Rattle.ut_args.specs.declared.classes.Class.TheVariants as class
use Rattle.fl_classes.specs.Used.{words_with}
use Rattle.fl_segments.specs.declared.stages.Does.{Does}
use Rattle.fl_segments.specs.declared.stages.Does.TheVariants as does
use Rattle.fl_segments.specs.declared.stages.First.{First}
use Rattle.fl_segments.specs.declared.stages.First.TheVariants as first
use Rattle.fl_segments.specs.declared.stages.In.{In}
use Rattle.fl_segments.specs.declared.stages.In.TheVariants as inlet
use Rattle.fl_segments.specs.declared.stages.Out.{Out}
use Rattle.fl_segments.specs.declared.stages.Out.TheVariants as out
use Rattle.fl_segments.specs.declared.stages.Stage.{Stage}

-- the operands are joined before the command reads them: those of cat byte by byte, those of cut and sort line by line (XCU cat, cut, sort)
abbrev pub joins_by : Command → Bool
joins_by (command.Cat args) = true
joins_by (command.Cut args) = true
joins_by (command.Sort args) = true
joins_by other = false

abbrev pub joins_before : Inv → Bool
joins_before inv = joins_by (command_of inv)

abbrev pub closes_by : Command → Bool
closes_by (command.Cut args) = true
closes_by (command.Sort args) = true
closes_by other = false

abbrev pub closes_before : Inv → Bool
closes_before inv = closes_by (command_of inv)

abbrev pub is_tee : Inv → Bool
is_tee (inv.Tee tee) = true
is_tee other = false

abbrev pub is_stream : In → Bool
is_stream inlet.Stream = true
is_stream (inlet.File path closed) = false
is_stream inlet.Empty = false

abbrev pub is_none : {X : Type 0} → List X → Bool
is_none [] = true
is_none (item ∷ items) = false

-- how many texts a command reads of so many inputs
abbrev pub read_of : Inv → ℕ → ℕ
read_of inv count = if joins_before inv then (if count == 0 then 0 else 1) else count

-- the invocation is built and reads these inputs, one of which at most is the stream, and only tee writes files
abbrev pub fits : Does → List In → List Components → Bool
fits (does.Util inv) ins tees =
    is_built_of inv && ((inputs_of inv == read_of inv (length ins)) && (nat_le (count_by is_stream ins) 1 && (is_tee inv || is_none tees)))
fits does.Skip ins tees = is_none tees

abbrev pub is_stage : Stage → Bool
is_stage stage = fits stage.does stage.ins stage.tees

-- what is read: nothing where the command is skipped
abbrev pub ins_read : Does → List In → List In
ins_read (does.Util inv) ins = ins
ins_read does.Skip ins = []

abbrev pub ins_of : Stage → List In
ins_of stage = ins_read stage.does stage.ins

-- the files that are read and written
abbrev pub file_in : In → Option Components
file_in inlet.Stream = None
file_in (inlet.File path closed) = Some path
file_in inlet.Empty = None

abbrev pub file_out : Out → List Components
file_out out.Next = []
file_out (out.File path mode) = path ∷ []
file_out out.Null = []

abbrev pub files_read : List Stage → List Components
files_read segment = flat_map (λ stage. filter_map file_in (ins_of stage)) segment

abbrev pub files_written : List Stage → List Components
files_written segment = flat_map (λ stage. stage.tees ++ file_out stage.out) segment

-- the stage reads the stream that comes to it
abbrev pub is_reader : Stage → Bool
is_reader stage = list_any is_stream (ins_of stage)

-- the shell's input is read: the segment begins with it, and its first stage reads the stream
abbrev pub is_shell_input : First → Bool
is_shell_input first.Input = true
is_shell_input (first.Text text) = false

abbrev pub reads_stream : List Stage → Bool
reads_stream [] = false
reads_stream (stage ∷ stages) = is_reader stage

abbrev pub reads_input : List Stage → First → Bool
reads_input segment from = is_shell_input from && reads_stream segment

-- something goes on to the next stage, or from the last one to the output: all that is written, or what was told where the output goes
-- elsewhere
abbrev pub goes_on : Out → List ℕ → Bool
goes_on out.Next piped = true
goes_on (out.File path mode) piped = not (is_empty piped)
goes_on out.Null piped = not (is_empty piped)

abbrev pub gives_output : List Stage → Bool
gives_output [] = false
gives_output (stage ∷ []) = goes_on stage.out stage.piped
gives_output (stage ∷ next ∷ stages) = gives_output (next ∷ stages)

-- a utility that reads one input is spread, at a width from 2 on, where its class lets its input be cut: it runs once for each part
abbrev pub may_spread : Class → Bool
may_spread (class.S seam) = true
may_spread class.P = true
may_spread class.N = false
may_spread class.E = false

abbrev pub spreads : Inv → Bool
spreads inv = (inputs_of inv == 1) && may_spread (class_of inv)

abbrev pub is_spread : ℕ → Inv → Bool
is_spread width inv = nat_le 2 width && spreads inv

-- its output is made from the map of the whole: of wc with an operand, and of uniq that keeps some of its lines
abbrev pub keeps_some : Groups → Bool
keeps_some groups.All = false
keeps_some groups.Counted = false
keeps_some groups.Repeated = true
keeps_some groups.Single = true

abbrev pub has_finish_by : Command → Bool
has_finish_by (command.Wc args) = not (is_none args.operands)
has_finish_by (command.Uniq args) = keeps_some args.groups
has_finish_by other = false

abbrev pub has_finish : Inv → Bool
has_finish inv = has_finish_by (command_of inv)

-- the words of the utilities that a segment runs at a width
abbrev pub times : ℕ → Inv → ℕ
times width inv = if is_spread width inv then width else 1

abbrev pub words_by : ℕ → Does → List (List (List ℕ))
words_by width (does.Util inv) = flat_map (λ words. replicate (times width inv) words) (words_with inv (inputs_of inv))
words_by width does.Skip = []

abbrev pub words_at : ℕ → List Stage → List (List (List ℕ))
words_at width segment = flat_map (λ stage. words_by width stage.does) segment
