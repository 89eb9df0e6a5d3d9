-- Groups of files (own): a cat that leads a segment and reads files alone hands them on in as many groups as the width, where all files before
-- the last group are known to be closed. So the groups are cut at ends of lines, and no Split, which holds its whole input, is needed.
use Rattle.std.specs.Prelude.{ℕ, ◌-◌, ◌*◌, ◌/◌, List, Bool, true, false, ◌&&◌, nat_le, length, take}
use Rattle.std.specs.List.{list_all}
use Rattle.ps_lines.specs.Lines.{is_closed}
use Rattle.ps_world.specs.Paths.{Components}
use Rattle.fl_classes.specs.Used.{is_cat}
use Rattle.fl_segments.specs.Stages.{ins_of}
use Rattle.fl_segments.specs.declared.stages.Does.{Does}
use Rattle.fl_segments.specs.declared.stages.Does.TheVariants as does
use Rattle.fl_segments.specs.declared.stages.In.{In}
use Rattle.fl_segments.specs.declared.stages.In.TheVariants as inlet
use Rattle.fl_segments.specs.declared.stages.Stage.{Stage}

-- an input is a file, and one that is marked closed
abbrev pub is_file : In → Bool
is_file inlet.Stream = false
is_file (inlet.File path closed) = true
is_file inlet.Empty = false

abbrev pub is_marked : In → Bool
is_marked inlet.Stream = false
is_marked (inlet.File path closed) = closed
is_marked inlet.Empty = false

-- the number of a group's first file, of so many groups of so many files
abbrev pub group_start : ℕ → ℕ → ℕ → ℕ
group_start groups files group = group * files / groups

-- these inputs go in groups: they are files, one at least for each group, and all before the last group are marked closed
abbrev pub may_group : ℕ → List In → Bool
may_group width ins =
    nat_le 2 width && (nat_le width (length ins) && (list_all is_file ins && list_all is_marked (take (group_start width (length ins) (width - 1)) ins)))

-- those of a cat that leads do
abbrev pub is_grouped : ℕ → Bool → Does → List In → Bool
is_grouped width leads does.Skip ins = false
is_grouped width leads (does.Util inv) ins = (is_cat inv && leads) && may_group width ins

-- the files that are marked closed are so
abbrev pub holds_mark : (Components → List ℕ) → In → Bool
holds_mark files inlet.Stream = true
holds_mark files (inlet.File path true) = is_closed (files path)
holds_mark files (inlet.File path false) = true
holds_mark files inlet.Empty = true

abbrev pub marks_hold : (Components → List ℕ) → List Stage → Bool
marks_hold files segment = list_all (λ stage. list_all (holds_mark files) (ins_of stage)) segment
