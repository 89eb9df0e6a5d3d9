-- What a node's kind has beside its edges and its stage (own): a name, and of five things those that its kind has.
use Rattle.std.specs.Prelude.{Bool, true, false, Some, None}
use Rattle.ps_world.specs.Paths.{Components}
use Rattle.ps_world.specs.declared.tree.Mode.{Mode}
use Rattle.ps_world.specs.declared.tree.Mode.TheVariants as mode
use Rattle.ut_args.specs.Invocations.{words_of}
use Rattle.ut_args.specs.declared.invocations.Inv.{Inv}
use Rattle.fl_graph.specs.declared.kinds.NodeKind.{NodeKind}
use Rattle.fl_graph.specs.declared.kinds.NodeKind.TheVariants as kind
use Rattle.fl_graph.specs.declared.kinds.From.TheVariants as from
use Rattle.fl_graph.specs.declared.kinds.To.TheVariants as to
use Rattle.fl_text.specs.declared.names.Name.{Name}
use Rattle.fl_text.specs.declared.names.Name.TheVariants as name
use Rattle.fl_text.specs.declared.parts.Parts.{Parts}

-- a kind that has nothing but its name
abbrev pub named : Name → Parts
named name = record { name = name; append = None; close = None; path = None; text = None; words = None }

-- one that has a path
abbrev pub at_path : Name → Components → Parts
at_path name path = record { name = name; append = None; close = None; path = Some path; text = None; words = None }

-- one that writes a file
abbrev pub writing : Name → Components → Bool → Parts
writing name path append = record { name = name; append = Some append; close = None; path = Some path; text = None; words = None }

-- one that runs an invocation: its words
abbrev pub running : Name → Inv → Parts
running name inv = record { name = name; append = None; close = None; path = None; text = None; words = Some (words_of inv) }

-- the file is written behind what it holds
abbrev pub appends : Mode → Bool
appends mode.Fresh = false
appends mode.Append = true

abbrev pub parts_of : NodeKind → Parts
parts_of (kind.Source from.Input) = named name.Source
parts_of (kind.Source (from.File path)) = at_path name.Source path
parts_of (kind.Text text) = record { name = name.Text; append = None; close = None; path = None; text = Some text; words = None }
parts_of kind.Split = named name.Split
parts_of (kind.Map inv) = running name.Map inv
parts_of (kind.Whole inv) = running name.Whole inv
parts_of (kind.Cat close) = record { name = name.Cat; append = None; close = Some close; path = None; text = None; words = None }
parts_of (kind.Agg inv) = running name.Agg inv
parts_of (kind.Finish inv) = running name.Finish inv
parts_of (kind.TeeFile path mode) = writing name.Tee path (appends mode)
parts_of kind.Drain = named name.Drain
parts_of (kind.Sink to.Output) = named name.Sink
parts_of (kind.Sink (to.File path mode)) = writing name.Sink path (appends mode)
