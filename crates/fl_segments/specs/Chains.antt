-- What a segment of stages means (XCU 2.9.2): each stage reads the whole output of the one before. Nothing here knows of graphs or widths.
-- No stage of a segment reads a file that another writes, so all of them see the same files.
use Rattle.std.specs.Prelude.{ℕ, List, [], ◌∷◌, ◌++◌, Bool, true, false, ◌||◌, ◌==◌, if◌then◌else◌, map}
use Rattle.std.specs.List.{concat}
use Rattle.ps_world.specs.Paths.{Components}
use Rattle.ps_world.specs.declared.tree.Mode.{Mode}
use Rattle.ps_world.specs.declared.tree.Mode.TheVariants as mode
use Rattle.ut_args.specs.Invocations.{command_of}
use Rattle.ut_args.specs.declared.commands.Command.{Command}
use Rattle.ut_args.specs.declared.commands.Report.{Report}
use Rattle.ut_args.specs.declared.commands.Report.TheVariants as report
use Rattle.ut_args.specs.declared.invocations.Inv.{Inv}
use Rattle.ut_args.specs.declared.invocations.Inv.TheVariants as inv
use Rattle.fl_graph.specs.Kinds.{is_grep}
use Rattle.fl_classes.specs.Flow.{Outcome, joined_lines, only}
use Rattle.fl_classes.specs.Utilities.{output_of, selects_of}
use Rattle.fl_segments.specs.Stages.{closes_by, joins_by}
use Rattle.fl_segments.specs.declared.stages.Does.{Does}
use Rattle.fl_segments.specs.declared.stages.Does.TheVariants as does
use Rattle.fl_segments.specs.declared.stages.First.{First}
use Rattle.fl_segments.specs.declared.stages.First.TheVariants as first
use Rattle.fl_segments.specs.declared.stages.In.{In}
use Rattle.fl_segments.specs.declared.stages.In.TheVariants as inlet
use Rattle.fl_segments.specs.declared.stages.Out.{Out}
use Rattle.fl_segments.specs.declared.stages.Out.TheVariants as out
use Rattle.fl_segments.specs.declared.stages.Stage.{Stage}

-- the text of an input, where the stage reads this stream and the files have these texts
abbrev pub text_in : List ℕ → (Components → List ℕ) → In → List ℕ
text_in stream files inlet.Stream = stream
text_in stream files (inlet.File path closed) = files path
text_in stream files inlet.Empty = []

-- what a command reads of the texts of its inputs: some join them before
abbrev pub joined_text : Bool → List (List ℕ) → List ℕ
joined_text closes texts = if closes then joined_lines texts else concat texts

abbrev pub joined_texts : Bool → List (List ℕ) → List (List ℕ)
joined_texts closes [] = []
joined_texts closes (text ∷ texts) = joined_text closes (text ∷ texts) ∷ []

abbrev pub texts_by : Command → List (List ℕ) → List (List ℕ)
texts_by asked texts = if joins_by asked then joined_texts (closes_by asked) texts else texts

abbrev pub texts_read : Inv → List (List ℕ) → List (List ℕ)
texts_read inv texts = texts_by (command_of inv) texts

abbrev pub output_by : Does → List (List ℕ) → List ℕ
output_by (does.Util inv) texts = output_of inv (texts_read inv texts)
output_by does.Skip texts = []

-- grep tells by its status whether a line is selected, unless it has failed before; quiet, it does even so (XCU grep, EXIT STATUS)
abbrev pub reports_nothing : Report → Bool
reports_nothing report.Nothing = true
reports_nothing report.Lines = false
reports_nothing report.Count = false
reports_nothing report.Path = false

abbrev pub is_quiet : Inv → Bool
is_quiet (inv.Grep grep) = reports_nothing grep.args.report
is_quiet other = false

abbrev pub grep_status : Bool → ℕ → Bool → ℕ
grep_status quiet status true = if (status == 0) || quiet then 0 else status
grep_status quiet status false = if status == 0 then 1 else status

abbrev pub status_by : Does → ℕ → List (List ℕ) → ℕ
status_by (does.Util inv) status texts = if is_grep inv then grep_status (is_quiet inv) status (selects_of inv (texts_read inv texts)) else status
status_by does.Skip status texts = status

-- the files that tee writes get its input (XCU tee)
abbrev pub tee_mode : Inv → Mode
tee_mode (inv.Tee tee) = if tee.args.appends then mode.Append else mode.Fresh
tee_mode other = mode.Fresh

abbrev pub files_teed : Does → List Components → List (List ℕ) → List (Components × (Mode × List ℕ))
files_teed (does.Util inv) tees texts = map (λ path. (path, (tee_mode inv, only (texts_read inv texts)))) tees
files_teed does.Skip tees texts = []

-- what goes on to the next stage where so much is written, and what goes to a file
abbrev pub led_on : Out → List ℕ → List ℕ → List ℕ
led_on out.Next written piped = written
led_on (out.File path mode) written piped = piped
led_on out.Null written piped = piped

abbrev pub led_to_file : Out → List ℕ → List (Components × (Mode × List ℕ))
led_to_file out.Next written = []
led_to_file (out.File path mode) written = (path, (mode, written)) ∷ []
led_to_file out.Null written = []

-- what a stage leaves: what goes on from it, the texts for files, and its status
abbrev pub stage_of : Stage → List (List ℕ) → Outcome
stage_of stage texts =
    record {
      output = led_on stage.out (stage.first ++ output_by stage.does texts) stage.piped;
      files = files_teed stage.does stage.tees texts ++ led_to_file stage.out (stage.first ++ output_by stage.does texts);
      status = status_by stage.does stage.status texts;
    }

abbrev pub stage_means : Stage → List ℕ → (Components → List ℕ) → Outcome
stage_means stage stream files = stage_of stage (map (text_in stream files) stage.ins)

-- what comes first, and then the rest behind it
abbrev pub then_left : Outcome → Outcome → Outcome
then_left left rest = record { output = rest.output; files = left.files ++ rest.files; status = rest.status }

-- what the stages leave one after another, where the first reads this stream
abbrev pub chain_means : List Stage → List ℕ → (Components → List ℕ) → Outcome
chain_means [] stream files = record { output = stream; files = []; status = 0 }
chain_means (stage ∷ []) stream files = stage_means stage stream files
chain_means (stage ∷ next ∷ stages) stream files =
    then_left (stage_means stage stream files) (chain_means (next ∷ stages) (stage_means stage stream files).output files)

-- the stream that a segment begins with, where the shell's input has this text
abbrev pub begins_with : First → List ℕ → List ℕ
begins_with first.Input input = input
begins_with (first.Text text) input = text
