-- What each kind of node asks of its ports and of its invocation (own).
use Rattle.std.specs.Prelude.{ℕ, Bool, true, false, ◌&&◌, ◌==◌, nat_le, length}
use Rattle.ut_args.specs.Built.{is_built_of}
use Rattle.ut_args.specs.Classes.{class_of}
use Rattle.ut_args.specs.Inputs.{inputs_of}
use Rattle.ut_args.specs.declared.invocations.Inv.{Inv}
use Rattle.ut_args.specs.declared.invocations.Inv.TheVariants as inv
use Rattle.ut_args.specs.declared.classes.Class.{Class}
use Rattle.ut_args.specs.declared.classes.Class.TheVariants as class
use Rattle.fl_graph.specs.declared.graphs.Cell.{Cell}
use Rattle.fl_graph.specs.declared.kinds.NodeKind.{NodeKind}
use Rattle.fl_graph.specs.declared.kinds.NodeKind.TheVariants as kind
use Rattle.fl_graph.specs.declared.kinds.From.TheVariants as from
use Rattle.fl_graph.specs.declared.kinds.To.TheVariants as to

-- a node of this kind may have so many ins and so many outs
abbrev pub may_have : NodeKind → ℕ → ℕ → Bool
may_have (kind.Source source) ins outs = (ins == 0) && (outs == 1)
may_have (kind.Text text) ins outs = (ins == 0) && (outs == 1)
may_have kind.Split ins outs = (ins == 1) && nat_le 1 outs
may_have (kind.Map inv) ins outs = (ins == 1) && (outs == 1)
may_have (kind.Whole inv) ins outs = (ins == inputs_of inv) && (outs == 1)
may_have (kind.Cat close) ins outs = nat_le 1 ins && (outs == 1)
may_have (kind.Agg inv) ins outs = nat_le 2 ins && (outs == 1)
may_have (kind.Finish inv) ins outs = (ins == 1) && (outs == 1)
may_have (kind.TeeFile path mode) ins outs = (ins == 1) && (outs == 1)
may_have kind.Drain ins outs = (ins == 1) && (outs == 0)
may_have (kind.Sink sink) ins outs = (ins == 1) && (outs == 0)

-- the node has as many ins and outs as its kind has
abbrev pub has_its_ports : Cell NodeKind → Bool
has_its_ports cell = may_have cell.kind (length cell.ins) (length cell.outs)

-- standard input, and standard output
abbrev pub is_input : NodeKind → Bool
is_input (kind.Source from.Input) = true
is_input other = false

abbrev pub is_output : NodeKind → Bool
is_output (kind.Sink to.Output) = true
is_output other = false

-- a map or an aggregate is of an invocation that reads one input
abbrev pub reads_one_input : NodeKind → Bool
reads_one_input (kind.Map inv) = inputs_of inv == 1
reads_one_input (kind.Agg inv) = inputs_of inv == 1
reads_one_input other = true

-- the class is that of commands which have a map
abbrev pub has_map : Class → Bool
has_map (class.S seam) = true
has_map class.P = true
has_map class.N = false
has_map class.E = false

-- the class is that of commands which have an aggregator
abbrev pub has_aggregator : Class → Bool
has_aggregator (class.S seam) = false
has_aggregator class.P = true
has_aggregator class.N = false
has_aggregator class.E = false

-- a map, an aggregate or a finish is of a command which has one
abbrev pub has_its_class : NodeKind → Bool
has_its_class (kind.Map inv) = has_map (class_of inv)
has_its_class (kind.Agg inv) = has_aggregator (class_of inv)
has_its_class (kind.Finish inv) = has_aggregator (class_of inv)
has_its_class other = true

-- what runs an invocation runs one that is built
abbrev pub runs_what_is_built : NodeKind → Bool
runs_what_is_built (kind.Map inv) = is_built_of inv
runs_what_is_built (kind.Whole inv) = is_built_of inv
runs_what_is_built (kind.Agg inv) = is_built_of inv
runs_what_is_built (kind.Finish inv) = is_built_of inv
runs_what_is_built other = true

-- the command is grep
abbrev pub is_grep : Inv → Bool
is_grep (inv.Grep grep) = true
is_grep other = false

-- a map or a whole of grep, which tells whether it has selected a line
abbrev pub selects_lines : NodeKind → Bool
selects_lines (kind.Map inv) = is_grep inv
selects_lines (kind.Whole inv) = is_grep inv
selects_lines other = false
