-- The kinds of nodes that have a machine so far (own), and as what each runs.
use Rattle.std.specs.Prelude.{ℕ, suc, List, Bool, true, false, ◌||◌, if◌then◌else◌}
use Rattle.std.specs.List.{list_all}
use Rattle.ut_args.specs.declared.commands.Origin.{Origin}
use Rattle.ut_args.specs.declared.commands.Origin.TheVariants as origin
use Rattle.ut_args.specs.declared.commands.Report.{Report}
use Rattle.ut_args.specs.declared.commands.Report.TheVariants as report
use Rattle.ut_args.specs.declared.invocations.Inv.TheVariants as inv
use Rattle.fl_graph.specs.declared.graphs.Cell.{Cell}
use Rattle.fl_graph.specs.declared.kinds.NodeKind.{NodeKind}
use Rattle.fl_graph.specs.declared.kinds.NodeKind.TheVariants as kind
use Rattle.fl_classes.specs.Flow.{is_source}

abbrev pub is_sink : NodeKind → Bool
is_sink (kind.Sink sink) = true
is_sink other = false

-- the node writes to the outside: a sink, or one that writes a file and hands on
abbrev pub is_writer : NodeKind → Bool
is_writer (kind.Sink sink) = true
is_writer (kind.TeeFile path mode) = true
is_writer other = false

-- what an end of a text is asked for from: its own end, or a place in it
abbrev pub is_from_end : Origin → Bool
is_from_end (origin.Start number) = false
is_from_end (origin.End number) = true

-- the lines that are selected are counted
abbrev pub is_count : Report → Bool
is_count report.Count = true
is_count report.Lines = false
is_count report.Path = false
is_count report.Nothing = false

-- all but the aggregates of commands that have none
abbrev pub is_run : NodeKind → Bool
is_run (kind.Agg (inv.Wc wc)) = true
is_run (kind.Agg (inv.Grep grep)) = is_count grep.args.report
is_run (kind.Agg (inv.Uniq uniq)) = true
is_run (kind.Agg (inv.Tr tr)) = true
is_run (kind.Agg (inv.Head head)) = true
is_run (kind.Agg (inv.Tail tail)) = is_from_end tail.args.part.origin
is_run (kind.Agg (inv.Sort sort)) = true
is_run (kind.Agg other) = false
is_run other = true

abbrev pub are_run : List (Cell NodeKind) → Bool
are_run cells = list_all (λ cell. is_run cell.kind) cells

-- what runs a node: a source and a sink hand on what comes
abbrev pub run_kind : NodeKind → NodeKind
run_kind node = if is_source node || is_sink node then kind.Cat false else node

-- with how many ins and outs: a source has one in from outside, and a node that writes has an out to it before its own
abbrev pub run_ins : NodeKind → ℕ → ℕ
run_ins kind ins = if is_source kind then 1 else ins

abbrev pub run_outs : NodeKind → ℕ → ℕ
run_outs kind outs = if is_writer kind then suc outs else outs
