-- Stages without the marks of their files.
use Rattle.std.specs.Prelude.{◌≡◌, List, false, map}
use Rattle.fl_segments.specs.declared.stages.In.{In}
use Rattle.fl_segments.specs.declared.stages.In.TheVariants as inlet
use Rattle.fl_segments.specs.declared.stages.Stage.{Stage}
use Rattle.fl_commands.specs.Inner.Stages.{AreStagesOf}
use Rattle.fl_commands.specs.declared.members.Member.{Member}

abbrev pub unmarked : In → In
unmarked inlet.Stream = inlet.Stream
unmarked (inlet.File path closed) = inlet.File path false
unmarked inlet.Empty = inlet.Empty

abbrev pub unmarked_stage : Stage → Stage
unmarked_stage stage =
    record {
      does = stage.does;
      ins = map unmarked stage.ins;
      out = stage.out;
      first = stage.first;
      piped = stage.piped;
      status = stage.status;
      reads = stage.reads;
      writes = stage.writes;
      tees = stage.tees;
    }

-- the stages of the members of a pipeline, but for marks
pub record AreMarkedOf (members : List Member) (stages : List Stage) : Type 0 where
  pub plain : List Stage
  pub are : AreStagesOf members plain
  pub same : map unmarked_stage stages ≡ map unmarked_stage plain
