-- What a command means, from its words and what the outside holds. No piece and no call occurs here, and a width only where utilities are
-- counted.
use Rattle.std.specs.Prelude.{ℕ, List, [], ◌++◌, if◌then◌else◌}
use Rattle.ps_world.specs.Paths.{Components}
use Rattle.ps_world.specs.Files.{Files}
use Rattle.fl_graph.specs.Paths.{paths_written}
use Rattle.fl_graph.specs.declared.graphs.Graph.{Graph}
use Rattle.fl_classes.specs.Used.{words_used}
use Rattle.fl_engines.specs.OwnEnds.{has_input}
use Rattle.fl_commands.specs.Graphs.{files_left, outcome_over}
use Rattle.fl_segments.specs.Noted.{used_at}
use Rattle.sh_parse.specs.Outcomes.{Readings}
use Rattle.sh_expand.specs.Outcomes.{Expansions}
use Rattle.sh_eval.specs.Meaning.{begun, script_means}
use Rattle.sh_eval.specs.States.{Ends, World}
use Rattle.sh_eval.specs.Table.{pages}
use Rattle.pash.specs.Answers.{finished, line_of, outcome_by, refusing}
use Rattle.sh_tree.specs.Trees.{ScriptTree}
use Rattle.pash.specs.Starts.{Start, answered, executes, runs, start_of, tries, writes}
use Rattle.pash.specs.Words.{command_of}
use Rattle.pash.specs.declared.answers.Outcome.{Outcome}
use Rattle.pash.specs.declared.starts.Setup.{Setup}

-- what the outside holds as a command begins: the files, the working directory, and what is to come of the input
pub record Outside : Type 0 where
  pub files : Files
  pub home : Components
  pub input : List ℕ

abbrev pub outside_of : Components → Files → List ℕ → Outside
outside_of home files input = record { files = files; home = home; input = input }

-- what a command leaves: its answer with the status, the world, and the words of the utilities that run at its width
pub record Meaning : Type 0 where
  pub outcome : Outcome
  pub world : World
  pub used : List (List (List ℕ))

-- nothing has run
abbrev pub untouched : Outside → World
untouched outside =
    record {
      home = outside.home;
      files = outside.files;
      written = [];
      input = outside.input;
      output = [];
      errors = [];
      ran = [];
    }

-- a script is over
abbrev pub over : ℕ → Ends → Meaning
over width left = record { outcome = outcome_by left.flow left.state.shell.status; world = left.state.world; used = used_at width left.state.world.ran }

-- a graph has run, over the files and the input as they were: what it leaves is its outcome, and the input is read to its end where a node
-- reads it
abbrev pub executed : Graph → Outside → Meaning
executed graph outside =
    record {
      outcome = finished (outcome_over graph outside.input outside.files).status;
      world = record (untouched outside) {
        files = files_left graph outside.input outside.files;
        written = paths_written graph.nodes;
        input = if has_input graph.nodes then [] else outside.input;
        output = (outcome_over graph outside.input outside.files).output;
      };
      used = words_used graph.nodes;
    }

-- a text is written
abbrev pub written : List ℕ → Outside → Meaning
written text outside = record { outcome = finished 0; world = record (untouched outside) { output = text }; used = [] }

-- the input is untouched, since the script has read another text
abbrev pub with_input : List ℕ → Meaning → Meaning
with_input input run = record run { world = record run.world { input = input } }

-- what a script comes to that begins so and reads this text
abbrev pub ran_over : ScriptTree → Setup → List ℕ → Expansions → Outside → Meaning
ran_over script setup text expansions outside = over setup.width (script_means expansions pages script (begun setup.shell outside.home outside.files text))

-- what comes of a start, before the line of the answer is told
abbrev pub run_of : Start → Expansions → Outside → Meaning
run_of (answered answer) expansions outside = record { outcome = refusing answer; world = untouched outside; used = [] }
run_of (runs script setup) expansions outside = ran_over script setup outside.input expansions outside
run_of (executes graph) expansions outside = executed graph outside
run_of (writes text) expansions outside = written text outside
run_of (tries script setup text) expansions outside = with_input outside.input (ran_over script setup text expansions outside)

-- the line of the answer is told behind all that was told
abbrev pub told : Meaning → Meaning
told run = record run { world = record run.world { errors = run.world.errors ++ line_of run.outcome.why } }

-- the meaning of the words after the program's name, where this is what each text is read as, and this is what words expand to
abbrev pub meaning : Readings → Expansions → List (List ℕ) → Outside → Meaning
meaning reads expansions words outside = told (run_of (start_of reads outside.files outside.home (command_of words)) expansions outside)
